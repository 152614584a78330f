-- Each item is read lawfully in its place.
use Rattle.std.proofs.Common.{◌≡◌, ℕ, suc, ◌<◌, ◌≤◌, Bool, true, false, cond, eqb, ltb, List, [], ◌∷◌, ◌++◌, length, refl, sym, ap, subst}
use Rattle.std.proofs.Common.{◌∙◌, arith, inl, inr, ◌⊎◌, lit≤, lit<}
use Rattle.std.specs.List.{flat_map, All}
use Rattle.std.proofs.lemmas.Bool.{eqb-true, ltb-true}
use Rattle.std.proofs.lemmas.Bool.Decides.{nat_tests}
use Rattle.std.proofs.lemmas.List.Elements.{All-nil}
use Rattle.det_values.specs.declared.format.Format.TheVariants.{One}
use Rattle.det_values.specs.declared.frames.Frame.{Frame}
use Rattle.det_values.specs.declared.frames.Frame.TheVariants as frames
use Rattle.det_values.specs.Values.{ProfileValue}
use Rattle.record_grammar.specs.declared.record_fault.Reason.{Reason}
use Rattle.record_grammar.specs.declared.record_fault.Reason.TheVariants.{TooMany}
use Rattle.record_grammar.specs.declared.place.Layout.{Layout}
use Rattle.record_grammar.specs.declared.place.Place.{Place}
use Rattle.record_grammar.specs.declared.place.Place.TheVariants as places
use Rattle.record_grammar.specs.declared.item.Item.{Item}
use Rattle.record_grammar.specs.declared.item.Item.TheVariants as items
use Rattle.record_grammar.specs.Read.{Read, Got, Bad, ◌>>=◌, many, with_front}
use Rattle.record_grammar.specs.Numbers.{number}
use Rattle.record_grammar.specs.Grammar.{element_at, init_from, init_at, run_at, profile_at, tag_reason, tagged_at, frame_at, item_at}
use Rattle.record_grammar.specs.Spelling.{spelled_u32, spelled_element, IsElement, IsHeader, spelled_header, IsFrame, spelled_frame}
use Rattle.record_grammar.specs.Laws.{MayStand, item_spelling}
use Rattle.record_grammar.proofs.Steady.{by_first}
use Rattle.record_grammar.proofs.SteadyFields.{frame_same}
use Rattle.record_grammar.specs.record_laws.Statements.{EventsFit}
use Rattle.record_grammar.proofs.lemmas.record_laws.Lawful.{IsLawful, lawful_give, lawful_read, lawful_values, lawful_map, lawful_first}
use Rattle.record_grammar.proofs.lemmas.record_laws.LawfulWords.{IsFrom, u32_lawful}
use Rattle.record_grammar.proofs.lemmas.record_laws.LawfulFields.{bind_bind, bind_same, lawful_tag, counted_lawful}
use Rattle.record_grammar.proofs.lemmas.record_laws.LawfulHeader.{header_lawful}
use Rattle.record_grammar.proofs.lemmas.record_laws.LawfulParts.{no_bytes, element_lawful}
use Rattle.record_grammar.proofs.lemmas.record_laws.LawfulRuns.{nothing_before, IsRun, IsRunFrame, spelled_run, run_of, run_lawful}

-- ---- a frame without fields

-- only this frame, with this tag
bare_lawful : (f : Frame) (tag : ℕ) (place : Place) → tag < 256
    → ((b : ℕ) (bytes : List ℕ) → tagged_at place b bytes ≡ cond (eqb b tag) (Got (f, bytes)) (Bad (tag_reason b) (suc (length bytes))))
    → IsLawful (λ g. g ≡ f) (λ g. tag ∷ []) (frame_at place)
bare_lawful f tag place small same =
    lawful_read (λ g. g ≡ f) (λ g. tag ∷ []) (frame_at place) (by_first
    (λ b bytes. cond (eqb b tag) (Got (f, bytes)) (Bad (tag_reason b) (suc (length bytes))))) reads
    (lawful_tag (λ g. g ≡ f) tag (λ g. []) (λ bytes. Got (f, bytes)) tag_reason f refl small (lawful_give (λ g. g ≡ f) f refl (λ g h. h)))
  where
    by_tag : (bytes : List ℕ) → by_first (tagged_at place) bytes
        ≡ by_first (λ b bytes. cond (eqb b tag) (Got (f, bytes)) (Bad (tag_reason b) (suc (length bytes)))) bytes
    by_tag [] = refl
    by_tag (b ∷ bytes) = same b bytes

    reads : (bytes : List ℕ) → frame_at place bytes
        ≡ by_first (λ b bytes. cond (eqb b tag) (Got (f, bytes)) (Bad (tag_reason b) (suc (length bytes)))) bytes
    reads bytes = frame_same place bytes ∙ by_tag bytes

register_lawful : (layout : Layout) → IsLawful (λ g. g ≡ frames.Register) (λ g. 1 ∷ []) (frame_at (places.Register layout))
unfolding tagged_at
register_lawful layout = bare_lawful frames.Register 1 (places.Register layout) (lit< tt) (λ b bytes. refl)

discover_lawful : (layout : Layout) → IsLawful (λ g. g ≡ frames.Discover) (λ g. 2 ∷ []) (frame_at (places.Discover layout))
unfolding tagged_at
discover_lawful layout = bare_lawful frames.Discover 2 (places.Discover layout) (lit< tt) (λ b bytes. refl)

-- ---- Init

abbrev AreElements : List (List ℕ) → Type 0
AreElements xs = IsFrom 0 65536 (length xs) × All IsElement xs

abbrev spelled_elements : List (List ℕ) → List ℕ
spelled_elements xs = spelled_u32 (length xs) ++ flat_map spelled_element xs

abbrev elements_at : List ℕ → Read (List (List ℕ))
elements_at bytes = number 4 0 65536 bytes >>= λ n. many element_at n.0 n.1

init_reads : (bytes : List ℕ) → init_at bytes ≡ (elements_at bytes >>= λ es. Got (frames.Init es.0, es.1))
unfolding init_at init_from
init_reads bytes =
    bind_same (number 4 0 65536 bytes) (λ n. with_front [] (many element_at n.0 n.1) >>= λ es. Got (frames.Init es.0, es.1))
    (λ n. many element_at n.0 n.1 >>= λ es. Got (frames.Init es.0, es.1))
    (λ n. ap (λ (r : Read (List (List ℕ))). r >>= λ es. Got (frames.Init es.0, es.1)) (nothing_before (many element_at n.0 n.1)))
    ∙ sym (bind_bind (number 4 0 65536 bytes) (λ n. many element_at n.0 n.1) (λ es. Got (frames.Init es.0, es.1)))

abbrev IsInit : Frame → Type 0
IsInit (frames.Init elements) = AreElements elements
IsInit frames.Register = ⊥
IsInit frames.Discover = ⊥
IsInit (frames.Run r) = ⊥
IsInit frames.Terminate = ⊥

abbrev elements_of : Frame → List (List ℕ)
elements_of (frames.Init elements) = elements
elements_of frames.Register = []
elements_of frames.Discover = []
elements_of (frames.Run r) = []
elements_of frames.Terminate = []

init_there : (f : Frame) → IsInit f → AreElements (elements_of f) × (f ≡ frames.Init (elements_of f))
init_there (frames.Init elements) h = (h, refl)
init_there f h = elim h [ ]

no_elements : AreElements []
no_elements = ((lit≤ tt, lit≤ tt), All-nil IsElement)

init_tag : (layout : Layout) (bytes : List ℕ) → frame_at (places.Init layout) bytes
    ≡ by_first (λ b bytes. cond (eqb b 3) (init_at bytes) (Bad (tag_reason b) (suc (length bytes)))) bytes
unfolding frame_at tagged_at
init_tag layout [] = refl
init_tag layout (b ∷ bytes) = refl

init_lawful : (layout : Layout) → IsLawful IsInit (λ f. 3 ∷ spelled_elements (elements_of f)) (frame_at (places.Init layout))
init_lawful layout =
    lawful_read IsInit (λ f. 3 ∷ spelled_elements (elements_of f)) (frame_at (places.Init layout))
    (by_first (λ b bytes. cond (eqb b 3) (init_at bytes) (Bad (tag_reason b) (suc (length bytes))))) (init_tag layout)
    (lawful_tag IsInit 3 (λ f. spelled_elements (elements_of f)) init_at tag_reason (frames.Init []) no_elements (lit< tt)
    (lawful_read IsInit (λ f. spelled_elements (elements_of f)) init_at (λ bytes. elements_at bytes >>= λ es. Got (frames.Init es.0, es.1))
    init_reads
    (lawful_map AreElements spelled_elements elements_at IsInit elements_of (λ es. frames.Init es) init_there (λ xs h. (h, refl))
    (counted_lawful IsElement spelled_element element_at [] (no_bytes 64) element_lawful 4 0 65536 spelled_u32
    (u32_lawful 0 65536 (lit≤ tt) (lit≤ tt))))))

-- ---- runs and the end

module _ (layout : Layout) (before : ℕ) where
  abbrev IsNext : Frame → Type 0
  IsNext (frames.Run r) = (before < 1000000) × IsRun layout r
  IsNext frames.Terminate = Unit {0}
  IsNext frames.Register = ⊥
  IsNext frames.Discover = ⊥
  IsNext (frames.Init elements) = ⊥

  abbrev tag_of : Frame → ℕ
  tag_of (frames.Run r) = 4
  tag_of frames.Terminate = 5
  tag_of frames.Register = 5
  tag_of frames.Discover = 5
  tag_of (frames.Init elements) = 5

  abbrev behind_tag : Frame → List ℕ
  behind_tag (frames.Run r) = spelled_run layout r
  behind_tag frames.Terminate = []
  behind_tag frames.Register = []
  behind_tag frames.Discover = []
  behind_tag (frames.Init elements) = []

  abbrev next_by : ℕ → List ℕ → Read Frame
  next_by b bytes =
      cond (eqb b 4) (cond (ltb before 1000000) (run_at layout bytes) (Bad TooMany (suc (length bytes))))
      (cond (eqb b 5) (Got (frames.Terminate, bytes)) (Bad (tag_reason b) (suc (length bytes))))

  next_reason : ℕ → Reason
  next_reason b = cond (eqb b 4) TooMany (tag_reason b)

  runs_tag : (bytes : List ℕ) → frame_at (places.Runs layout before) bytes ≡ by_first next_by bytes
  unfolding frame_at tagged_at
  runs_tag [] = refl
  runs_tag (b ∷ bytes) = refl

  NextCase : ℕ → Type 0
  NextCase b =
      (((bytes : List ℕ) → next_by b bytes ≡ Bad (next_reason b) (suc (length bytes))) × ((c : Frame) → IsNext c → tag_of c ≡ b → ⊥))
      ⊎ IsLawful (λ c. IsNext c × (tag_of c ≡ b)) behind_tag (next_by b)

  run_there : (c : Frame) → IsRunFrame layout c → before < 1000000 → IsNext c × (tag_of c ≡ 4)
  run_there (frames.Run r) h lt = ((lt, h), refl)
  run_there c h lt = elim h [ ]

  run_back : (c : Frame) → IsNext c × (tag_of c ≡ 4) → IsRunFrame layout c × (behind_tag c ≡ spelled_run layout (run_of c))
  run_back (frames.Run r) h = (h.0.1, refl)
  run_back frames.Register h = absurd h.0
  run_back frames.Discover h = absurd h.0
  run_back (frames.Init elements) h = absurd h.0
  run_back frames.Terminate h = absurd (omega (arith, h.1))

  last_only : (c : Frame) → IsNext c × (tag_of c ≡ 5) → c ≡ frames.Terminate
  last_only frames.Terminate h = refl
  last_only frames.Register h = absurd h.0
  last_only frames.Discover h = absurd h.0
  last_only (frames.Init elements) h = absurd h.0
  last_only (frames.Run r) h = absurd (omega (arith, h.1))

  last_spelled : (c : Frame) → IsNext c × (tag_of c ≡ 5) → (IsNext c × (tag_of c ≡ 5)) × (behind_tag c ≡ [])
  last_spelled frames.Terminate h = (h, refl)
  last_spelled frames.Register h = absurd h.0
  last_spelled frames.Discover h = absurd h.0
  last_spelled (frames.Init elements) h = absurd h.0
  last_spelled (frames.Run r) h = absurd (omega (arith, h.1))

  no_room : (c : Frame) → IsNext c → tag_of c ≡ 4 → ltb before 1000000 ≡ false → ⊥
  no_room (frames.Run r) h e n = grind (arith, nat_tests, h.0, n)
  no_room frames.Register h e n = h
  no_room frames.Discover h e n = h
  no_room (frames.Init elements) h e n = h
  no_room frames.Terminate h e n = omega (arith, e)

  at_four : (t : Bool) → ltb before 1000000 ≡ t → layout.events ≤ 65536 → NextCase 4
  unfolding NextCase next_reason
  at_four true e few =
      inr (lawful_read (λ c. IsNext c × (tag_of c ≡ 4)) behind_tag (next_by 4) (run_at layout)
      (λ bytes. ap (λ (t : Bool). cond t (run_at layout bytes) (Bad TooMany (suc (length bytes)))) e)
      (lawful_values (IsRunFrame layout) (λ c. IsNext c × (tag_of c ≡ 4)) (λ c. spelled_run layout (run_of c)) behind_tag (run_at layout)
      (λ c h. run_there c h (ltb-true before 1000000 e)) run_back (run_lawful layout few)))
  at_four false e few =
      inl (
        (λ bytes. ap (λ (t : Bool). cond t (run_at layout bytes) (Bad TooMany (suc (length bytes)))) e),
        (λ c h same. no_room c h same e),
      )

  at_five : NextCase 5
  unfolding NextCase
  at_five =
      inr (lawful_values (λ c. IsNext c × (tag_of c ≡ 5)) (λ c. IsNext c × (tag_of c ≡ 5)) (λ c. []) behind_tag (next_by 5) (λ c h. h)
      last_spelled (lawful_give (λ c. IsNext c × (tag_of c ≡ 5)) frames.Terminate (tt, refl) last_only))

  at_other : (b : ℕ) → eqb b 4 ≡ false → eqb b 5 ≡ false → NextCase b
  unfolding NextCase next_reason
  at_other b four five = inl ((λ bytes. rw (four, five) refl), (λ c h same. other c h same))
    where
      other : (c : Frame) → IsNext c → tag_of c ≡ b → ⊥
      other (frames.Run r) h same = grind (arith, nat_tests, four, same)
      other frames.Terminate h same = grind (arith, nat_tests, five, same)
      other frames.Register h same = h
      other frames.Discover h same = h
      other (frames.Init elements) h same = h

  at_byte : (b : ℕ) (four five : Bool) → eqb b 4 ≡ four → eqb b 5 ≡ five → layout.events ≤ 65536 → NextCase b
  at_byte b true five e f few = subst NextCase (sym (eqb-true b 4 e)) (at_four (ltb before 1000000) refl few)
  at_byte b false true e f few = subst NextCase (sym (eqb-true b 5 f)) at_five
  at_byte b false false e f few = at_other b e f

  next_cases : layout.events ≤ 65536 → (b : ℕ) → b < 256
      → (((bytes : List ℕ) → next_by b bytes ≡ Bad (next_reason b) (suc (length bytes))) × ((c : Frame) → IsNext c → tag_of c ≡ b → ⊥))
      ⊎ IsLawful (λ c. IsNext c × (tag_of c ≡ b)) behind_tag (next_by b)
  unfolding NextCase
  next_cases few b small = at_byte b (eqb b 4) (eqb b 5) refl refl few

  tag_small : (c : Frame) → IsNext c → tag_of c < 256
  tag_small (frames.Run r) h = lit< tt
  tag_small frames.Terminate h = lit< tt
  tag_small c h = elim h [ ]

  runs_lawful : layout.events ≤ 65536 → IsLawful IsNext (λ f. tag_of f ∷ behind_tag f) (frame_at (places.Runs layout before))
  runs_lawful few =
      lawful_read IsNext (λ f. tag_of f ∷ behind_tag f) (frame_at (places.Runs layout before)) (by_first next_by) runs_tag
      (lawful_first IsNext tag_of behind_tag next_by next_reason frames.Terminate tt (next_cases few) tag_small)

-- ---- items

abbrev profile_of : Item → ProfileValue
profile_of (items.Header p) = p
profile_of (items.Frame f) = record { format = One; job = 0; seed = 0; cycle_time = 1; params = []; events = [] }

abbrev frame_of : Item → Frame
frame_of (items.Frame f) = f
frame_of (items.Header p) = frames.Register

-- an item that is a frame
framed_lawful : (Fits : Frame → Type 0) (spell : Frame → List ℕ) (place : Place)
    → ((x : Item) → MayStand place x → Fits (frame_of x) × (x ≡ items.Frame (frame_of x)))
    → ((f : Frame) → Fits f → MayStand place (items.Frame f))
    → ((x : Item) → MayStand place x → item_spelling place x ≡ spell (frame_of x)) → IsLawful Fits spell (frame_at place)
    → IsLawful (MayStand place) (item_spelling place) (λ bytes. frame_at place bytes >>= λ f. Got (items.Frame f.0, f.1))
framed_lawful Fits spell place there back spelled l =
    lawful_values (MayStand place) (MayStand place) (λ x. spell (frame_of x)) (item_spelling place)
    (λ bytes. frame_at place bytes >>= λ f. Got (items.Frame f.0, f.1)) (λ x h. h) (λ x h. (h, spelled x h))
    (lawful_map Fits spell (frame_at place) (MayStand place) frame_of (λ f. items.Frame f) there (λ f h. (back f h, refl)) l)

header_item_lawful : IsLawful (MayStand places.Header) (item_spelling places.Header)
    (λ bytes. profile_at bytes >>= λ p. Got (items.Header p.0, p.1))
header_item_lawful =
    lawful_values (MayStand places.Header) (MayStand places.Header) (λ x. spelled_header (profile_of x)) (item_spelling places.Header)
    (λ bytes. profile_at bytes >>= λ p. Got (items.Header p.0, p.1)) (λ x h. h) spelled
    (lawful_map IsHeader spelled_header profile_at (MayStand places.Header) profile_of (λ p. items.Header p) there (λ p h. (h, refl))
    header_lawful)
  where
    spelled : (x : Item) → MayStand places.Header x → MayStand places.Header x
        × (item_spelling places.Header x ≡ spelled_header (profile_of x))
    spelled (items.Header p) h = (h, refl)
    spelled (items.Frame f) h = absurd h

    there : (x : Item) → MayStand places.Header x → IsHeader (profile_of x) × (x ≡ items.Header (profile_of x))
    there (items.Header p) h = (h, refl)
    there (items.Frame f) h = absurd h

-- the only item that may come in a place is a frame of one byte
one_frame_lawful : (f : Frame) (tag : ℕ) (place : Place) → ((x : Item) → MayStand place x → x ≡ items.Frame f)
    → MayStand place (items.Frame f) → item_spelling place (items.Frame f) ≡ tag ∷ []
    → IsLawful (λ g. g ≡ f) (λ g. tag ∷ []) (frame_at place)
    → IsLawful (MayStand place) (item_spelling place) (λ bytes. frame_at place bytes >>= λ g. Got (items.Frame g.0, g.1))
one_frame_lawful f tag place only stands spelling =
    framed_lawful (λ g. g ≡ f) (λ g. tag ∷ []) place
    (λ x h. (ap frame_of (only x h), only x h ∙ ap (λ (y : Item). items.Frame (frame_of y)) (sym (only x h))))
    (λ g h. subst (λ (k : Frame). MayStand place (items.Frame k)) (sym h) stands)
    (λ x h. ap (item_spelling place) (only x h) ∙ spelling)

only_register : (layout : Layout) (x : Item) → MayStand (places.Register layout) x → x ≡ items.Frame frames.Register
only_register layout (items.Frame frames.Register) h = refl
only_register layout x h = elim h [ ]

only_discover : (layout : Layout) (x : Item) → MayStand (places.Discover layout) x → x ≡ items.Frame frames.Discover
only_discover layout (items.Frame frames.Discover) h = refl
only_discover layout x h = elim h [ ]

init_item_lawful : (layout : Layout)
    → IsLawful (MayStand (places.Init layout)) (item_spelling (places.Init layout))
    (λ bytes. frame_at (places.Init layout) bytes >>= λ f. Got (items.Frame f.0, f.1))
unfolding spelled_frame IsFrame
init_item_lawful layout =
    framed_lawful IsInit (λ f. 3 ∷ spelled_elements (elements_of f)) (places.Init layout) there back spelled (init_lawful layout)
  where
    there : (x : Item) → MayStand (places.Init layout) x → IsInit (frame_of x) × (x ≡ items.Frame (frame_of x))
    there (items.Frame (frames.Init elements)) h = (((omega arith, h.0), h.1), refl)
    there x h = elim h [ ]

    back : (f : Frame) → IsInit f → MayStand (places.Init layout) (items.Frame f)
    back (frames.Init elements) h = (h.0.1, h.1)
    back f h = elim h [ ]

    spelled : (x : Item) → MayStand (places.Init layout) x → item_spelling (places.Init layout) x ≡ 3
        ∷ spelled_elements (elements_of (frame_of x))
    spelled (items.Frame (frames.Init elements)) h = refl
    spelled x h = elim h [ ]

runs_item_lawful : (layout : Layout) (before : ℕ) → layout.events ≤ 65536
    → IsLawful (MayStand (places.Runs layout before)) (item_spelling (places.Runs layout before))
    (λ bytes. frame_at (places.Runs layout before) bytes >>= λ f. Got (items.Frame f.0, f.1))
unfolding spelled_frame IsFrame
runs_item_lawful layout before few =
    framed_lawful (IsNext layout before) (λ f. tag_of layout before f ∷ behind_tag layout before f) (places.Runs layout before) there back
    spelled (runs_lawful layout before few)
  where
    there : (x : Item) → MayStand (places.Runs layout before) x → IsNext layout before (frame_of x) × (x ≡ items.Frame (frame_of x))
    there (items.Frame (frames.Run r)) h = (h, refl)
    there (items.Frame frames.Terminate) h = (h, refl)
    there x h = elim h [ ]

    back : (f : Frame) → IsNext layout before f → MayStand (places.Runs layout before) (items.Frame f)
    back (frames.Run r) h = h
    back frames.Terminate h = h
    back f h = elim h [ ]

    spelled : (x : Item) → MayStand (places.Runs layout before) x → item_spelling (places.Runs layout before) x
        ≡ tag_of layout before (frame_of x) ∷ behind_tag layout before (frame_of x)
    spelled (items.Frame (frames.Run r)) h = refl
    spelled (items.Frame frames.Terminate) h = refl
    spelled x h = elim h [ ]

pub item_lawful : (place : Place) → (place ≡ places.End → ⊥) → EventsFit place
    → IsLawful (MayStand place) (item_spelling place) (item_at place)
unfolding item_at spelled_frame
item_lawful places.Header ne few = header_item_lawful
item_lawful (places.Register layout) ne few =
    one_frame_lawful frames.Register 1 (places.Register layout) (only_register layout) tt refl (register_lawful layout)
item_lawful (places.Discover layout) ne few =
    one_frame_lawful frames.Discover 2 (places.Discover layout) (only_discover layout) tt refl (discover_lawful layout)
item_lawful (places.Init layout) ne few = init_item_lawful layout
item_lawful (places.Runs layout before) ne few = runs_item_lawful layout before few
item_lawful places.End ne few = absurd (ne refl)
