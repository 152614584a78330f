-- What is decoded, in terms of whole records.
use Rattle.std.proofs.Common.{◌≡◌, ℕ, zero, suc, ◌+◌, ◌-◌, ◌<◌, ◌≤◌, List, [], ◌∷◌, ◌++◌, length, Option, Some, None, refl, sym, ap, subst}
use Rattle.std.proofs.Common.{◌∙◌, append_assoc, arith, inl, inr, ◌⊎◌, length-append}
use Rattle.std.proofs.lemmas.List.{append-nil}
use Rattle.std.proofs.lemmas.List.Elements.{All-nil, All-cons}
use Rattle.record_grammar.specs.declared.record_fault.Reason.{Reason}
use Rattle.record_grammar.specs.declared.record_fault.Reason.TheVariants.{Range, Trailing}
use Rattle.record_grammar.specs.declared.record_fault.RecordFault.{RecordFault}
use Rattle.record_grammar.specs.declared.place.Place.{Place}
use Rattle.record_grammar.specs.declared.place.Place.TheVariants as places
use Rattle.record_grammar.specs.declared.item.Item.{Item}
use Rattle.record_grammar.specs.Read.{Read, Got, More, Bad}
use Rattle.record_grammar.specs.Grammar.{item_at, frame_at, tagged_at, profile_at, magic_at}
use Rattle.record_grammar.specs.Places.{after}
use Rattle.record_grammar.specs.Record.{items as items_in, fault_from, ending_at}
use Rattle.record_grammar.specs.Leads.{Leads}
use Rattle.record_grammar.specs.Spelling.{AreBytes}
use Rattle.record_grammar.specs.Laws.{AreItems, item_spelling, items_spelling, Begins, AreLongest, IsReason, tag_reason_at, IsDecoded}
use Rattle.record_grammar.proofs.Steady.{got_is}
use Rattle.record_grammar.proofs.Leads.{item_takes, all_at_more, all_at_bad}
use Rattle.record_grammar.proofs.lemmas.record_laws.Lawful.{IsRefused, refused_first, AreBytes-rest, AreBytes-head, AreBytes-tail}
use Rattle.record_grammar.proofs.lemmas.record_laws.LawfulItems.{item_lawful}
use Rattle.record_grammar.proofs.lemmas.record_laws.OneSpelling.{not_end}
use Rattle.record_grammar.proofs.lemmas.record_laws.Reasons.{frame_says, header_says, HeaderSays, in_magic, in_version, behind}
use Rattle.record_grammar.proofs.lemmas.record_laws.InPlaces.{FewEvents, few_fit, few_after, few_along, is_end, is_header, at_header}
use Rattle.record_grammar.proofs.lemmas.record_laws.InPlaces.{items_append}
use Rattle.record_grammar.proofs.lemmas.record_laws.InPlaces.{spelling_append, completed, long_enough}

abbrev pub IsStuck : Place → List ℕ → Type 0
IsStuck to rest = (item_at to rest ≡ More) ⊎ ((reason : Reason) × (left : ℕ) × (item_at to rest ≡ Bad reason left))

-- all bytes lead somewhere
pub reads : (n : ℕ) (place : Place) (bytes : List ℕ) → length bytes < n → (r : Read Item) → item_at place bytes ≡ r → (given : List Item)
    × (to : Place) × (rest : List ℕ) × Leads place bytes given to rest × IsStuck to rest
reads zero place bytes h r e = absurd (omega arith)
reads (suc n) place bytes h (Got x) e =
    let t : length x.1 < length bytes = item_takes place bytes x e in
    let d = reads n (after place x.0) x.1 (omega arith) (item_at (after place x.0) x.1) refl in
    (x.0 ∷ d.0, d.1, d.2, (x.1, e, d.3), d.4)
reads (suc n) place bytes h More e = ([], place, bytes, (refl, refl), inl e)
reads (suc n) place bytes h (Bad reason left) e = ([], place, bytes, (refl, refl), inr (reason, left, e))

pub nil_more : (place : Place) → item_at place [] ≡ More
unfolding item_at frame_at profile_at magic_at
nil_more places.Header = refl
nil_more (places.Register layout) = refl
nil_more (places.Discover layout) = refl
nil_more (places.Init layout) = refl
nil_more (places.Runs layout before) = refl
nil_more places.End = refl

end_never : (bytes : List ℕ) (x : Item × List ℕ) → item_at places.End bytes ≡ Got x → ⊥
unfolding item_at frame_at tagged_at
end_never [] x e = absurd cc
end_never (b ∷ bytes) x e = absurd cc

end_stuck : (bytes : List ℕ) → item_at places.End bytes ≡ More → bytes ≡ []
unfolding item_at frame_at tagged_at
end_stuck [] e = refl
end_stuck (b ∷ bytes) e = absurd cc

-- ---- two ways to read the same bytes

bad_never_whole : (given : List Item) (place to : Place) (bytes rest : List ℕ) (xs : List Item) (reason : Reason) (left : ℕ)
    → Leads place bytes given to rest → item_at to rest ≡ Bad reason left → Leads place bytes xs places.End [] → ⊥
bad_never_whole [] place to bytes rest [] reason left h b k =
    let e : item_at places.End [] ≡ Bad reason left = ap (λ (p : Place). item_at p []) (sym k.0 ∙ h.0) ∙ ap (item_at to) (sym k.1 ∙ h.1)
    ∙ b in
    absurd (cc (e, nil_more places.End))
bad_never_whole [] place to bytes rest (x ∷ xs) reason left h b k =
    let e : item_at place bytes ≡ Bad reason left = ap (λ (p : Place). item_at p bytes) h.0 ∙ ap (item_at to) h.1 ∙ b in
    absurd (cc (e, k.1))
bad_never_whole (g ∷ given) place to bytes rest [] reason left h b k =
    let e : item_at place bytes ≡ More = ap (λ (p : Place). item_at p bytes) k.0 ∙ ap (item_at places.End) k.1 ∙ nil_more places.End in
    absurd (cc (e, h.1))
bad_never_whole (g ∷ given) place to bytes rest (x ∷ xs) reason left h b k =
    let p = got_is (g, h.0) (x, k.0) (sym h.1 ∙ k.1) in
    bad_never_whole given (after place g) to h.0 rest xs reason left h.2 b
    (subst (λ (q : Item × List ℕ). Leads (after place q.0) q.1 xs places.End []) (sym p) k.2)

same_stop : (given xs : List Item) (place to end : Place) (bytes rest others : List ℕ) → Leads place bytes given to rest → item_at to rest
    ≡ More → Leads place bytes xs end others → item_at end others ≡ More → (to ≡ end) × (rest ≡ others)
same_stop [] [] place to end bytes rest others h m k n = (sym h.0 ∙ k.0, sym h.1 ∙ k.1)
same_stop [] (x ∷ xs) place to end bytes rest others h m k n =
    let e : item_at place bytes ≡ More = ap (λ (p : Place). item_at p bytes) h.0 ∙ ap (item_at to) h.1 ∙ m in
    absurd (cc (e, k.1))
same_stop (g ∷ given) [] place to end bytes rest others h m k n =
    let e : item_at place bytes ≡ More = ap (λ (p : Place). item_at p bytes) k.0 ∙ ap (item_at end) k.1 ∙ n in
    absurd (cc (e, h.1))
same_stop (g ∷ given) (x ∷ xs) place to end bytes rest others h m k n =
    let p = got_is (g, h.0) (x, k.0) (sym h.1 ∙ k.1) in
    same_stop given xs (after place g) to end h.0 rest others h.2 m (subst
    (λ (q : Item × List ℕ). Leads (after place q.0) q.1 xs end others) (sym p) k.2) n

-- no other items lead further
no_longer : (given : List Item) (place to : Place) (bytes rest : List ℕ) (ys : List Item) (end : Place) (others : List ℕ)
    → Leads place bytes given to rest → IsStuck to rest → Leads place bytes ys end others → length ys ≤ length given
no_longer given place to bytes rest [] end others h stuck k = omega arith
no_longer [] place to bytes rest (y ∷ ys) end others h stuck k =
    let e : item_at to rest ≡ Got (y, k.0) = ap (λ (p : Place). item_at p rest) (sym h.0) ∙ ap (item_at place) (sym h.1) ∙ k.1 in
    elim stuck [
      | inl m ↦ absurd (cc (m, e))
      | inr b ↦ absurd (cc (b.2, e))
    ]
no_longer (g ∷ given) place to bytes rest (y ∷ ys) end others h stuck k =
    let p = got_is (y, k.0) (g, h.0) (sym k.1 ∙ h.1) in
    let i : length ys ≤ length given = no_longer given (after place g) to h.0 rest ys end others h.2 stuck
    (subst (λ (q : Item × List ℕ). Leads (after place q.0) q.1 ys end others) p k.2) in
    omega arith

-- ---- what is spelled is read, and the other way round

pub spelled_leads : (xs : List Item) (place to : Place) (rest : List ℕ) → FewEvents place → AreItems place xs to
    → Leads place (items_spelling place xs ++ rest) xs to rest
spelled_leads [] place to rest few h = (h, refl)
spelled_leads (x ∷ xs) place to rest few h = (
  items_spelling (after place x) xs ++ rest,
  ap (item_at place) (append_assoc (item_spelling place x) (items_spelling (after place x) xs) rest)
      ∙ (item_lawful place (not_end place x h.0) (few_fit place few)).again x (items_spelling (after place x) xs ++ rest) h.0,
  spelled_leads xs (after place x) to rest (few_after place x h.0 few) h.1,
)

pub leads_spelled : (xs : List Item) (place to : Place) (bytes rest : List ℕ) → FewEvents place → AreBytes bytes
    → Leads place bytes xs to rest → AreItems place xs to × (bytes ≡ items_spelling place xs ++ rest)
leads_spelled [] place to bytes rest few are h = (h.0, h.1)
leads_spelled (x ∷ xs) place to bytes rest few are h =
    let ne : place ≡ places.End → ⊥ = λ e. end_never bytes (x, h.0) (ap (λ (p : Place). item_at p bytes) (sym e) ∙ h.1) in
    let s = (item_lawful place ne (few_fit place few)).sound bytes (x, h.0) are h.1 in
    let i = leads_spelled xs (after place x) to h.0 rest (few_after place x s.0 few)
    (AreBytes-rest bytes (item_spelling place x) h.0 s.1 are) h.2 in (
      (s.0, i.0),
      s.1 ∙ ap (λ (b : List ℕ). item_spelling place x ++ b) i.1
          ∙ sym (append_assoc (item_spelling place x) (items_spelling (after place x) xs) rest),
    )

-- the bytes of a list of items lead to its end
pub all_leads_on : (xs : List Item) (to : Place) (bytes : List ℕ) → AreItems places.Header xs to → bytes ≡ items_spelling places.Header xs
    → Leads places.Header bytes xs to []
all_leads_on xs to bytes h e =
    subst (λ (b : List ℕ). Leads places.Header b xs to []) (append-nil (items_spelling places.Header xs) ∙ sym e)
    (spelled_leads xs places.Header to [] tt h)

-- where more is needed, some whole record goes on from there
begins : (given : List Item) (to : Place) (bytes rest : List ℕ) → AreBytes bytes → Leads places.Header bytes given to rest → item_at to rest
    ≡ More → Begins bytes
begins given to bytes rest are h e =
    let s = leads_spelled given places.Header to bytes rest tt are h in
    elim (is_end to) [
      | inl at ↦
          let none : rest ≡ [] = end_stuck rest (ap (λ (p : Place). item_at p rest) (sym at) ∙ e) in (
            [],
            (
              given,
              subst (λ (p : Place). AreItems places.Header given p) at s.0,
              append-nil bytes ∙ s.1
                  ∙ ap (λ (xs : List ℕ). items_spelling places.Header given ++ xs) none ∙ append-nil (items_spelling places.Header given),
            ),
          )
      | inr ne ↦
          let m = (item_lawful to ne (few_fit to (few_along given places.Header to s.0 tt))).more rest
          (AreBytes-rest bytes (items_spelling places.Header given) rest s.1 are) e in
          let c = completed (after to m.0) in
          let last = items_spelling (after to m.0) c.0 in (
            m.1 ++ last,
            (
              given ++ m.0 ∷ c.0,
              items_append given places.Header to places.End (m.0 ∷ c.0) s.0 (m.2, c.1),
              ap (λ (xs : List ℕ). xs ++ (m.1 ++ last)) s.1
                  ∙ append_assoc (items_spelling places.Header given) rest (m.1 ++ last)
                  ∙ ap (λ (xs : List ℕ). items_spelling places.Header given ++ xs)
                  (sym (append_assoc rest m.1 last) ∙ ap (λ (xs : List ℕ). xs ++ last) m.3)
                  ∙ sym (spelling_append given places.Header to (m.0 ∷ c.0) s.0),
            ),
          )
    ]

-- ---- the faulty byte

AreBytes-front : (xs ys : List ℕ) → AreBytes (xs ++ ys) → AreBytes xs
AreBytes-front [] ys h = All-nil (λ b. b < 256)
AreBytes-front (x ∷ xs) ys h =
    All-cons (λ b. b < 256) x xs (AreBytes-head x (xs ++ ys) h) (AreBytes-front xs ys (AreBytes-tail x (xs ++ ys) h))

-- where a byte is refused, the bytes before it begin a whole record, and with it they do not
refused : (given : List Item) (to : Place) (bytes rest : List ℕ) (reason : Reason) (left : ℕ) → AreBytes bytes
    → Leads places.Header bytes given to rest → item_at to rest ≡ Bad reason left → (r : IsRefused (item_at to) rest reason left)
    → (front : List ℕ) × (b : ℕ) × (behind : List ℕ) × (bytes ≡ front ++ b ∷ behind) × (left ≡ suc (length behind)) × Begins front
    × (Begins (front ++ b ∷ []) → ⊥) × (front ≡ items_spelling places.Header given ++ r.before) × (b ≡ r.byte)
refused given to bytes rest reason left are h e r =
    let s = leads_spelled given places.Header to bytes rest tt are h in
    let all = items_spelling places.Header given in
    let parts : bytes ≡ (all ++ r.before) ++ r.byte ∷ r.behind = s.1 ∙ ap (λ (xs : List ℕ). all ++ xs) r.parts
    ∙ sym (append_assoc all r.before (r.byte ∷ r.behind)) in (
      all ++ r.before,
      r.byte,
      r.behind,
      parts,
      r.counted,
      begins given to (all ++ r.before) r.before (AreBytes-front (all ++ r.before) (r.byte ∷ r.behind) (subst AreBytes parts are))
          (spelled_leads given places.Header to r.before tt s.0) r.goes_on,
      (λ goes.
          let w = goes.1 in
          let same : items_spelling places.Header w.0 ≡ all ++ (r.before ++ r.byte ∷ goes.0) =
          sym w.2 ∙ append_assoc (all ++ r.before) (r.byte ∷ []) goes.0 ∙ append_assoc all r.before (r.byte ∷ goes.0) in
          let here : Leads places.Header (all ++ (r.before ++ r.byte ∷ goes.0)) given to (r.before ++ r.byte ∷ goes.0) =
          spelled_leads given places.Header to (r.before ++ r.byte ∷ goes.0) tt s.0 in
          bad_never_whole given places.Header to (all ++ (r.before ++ r.byte ∷ goes.0)) (r.before ++ r.byte ∷ goes.0) w.0 reason
          (suc (length goes.0)) here (r.refused goes.0)
          (all_leads_on w.0 places.End (all ++ (r.before ++ r.byte ∷ goes.0)) w.1 (sym same))),
      refl,
      refl,
    )

end_refused : (rest : List ℕ) (reason : Reason) (left : ℕ) → item_at places.End rest ≡ Bad reason left
    → IsRefused (item_at places.End) rest reason left
unfolding item_at frame_at tagged_at
end_refused [] reason left e = absurd cc
end_refused (b ∷ bytes) reason left e = refused_first (item_at places.End) b bytes Trailing reason left refl (λ other. refl) e

refused_at : (to : Place) (rest : List ℕ) (reason : Reason) (left : ℕ) → FewEvents to → AreBytes rest → item_at to rest ≡ Bad reason left
    → IsRefused (item_at to) rest reason left
refused_at to rest reason left few are e =
    elim (is_end to) [
      | inl at ↦ subst (λ (p : Place). IsRefused (item_at p) rest reason left) (sym at)
          (end_refused rest reason left (ap (λ (p : Place). item_at p rest) (sym at) ∙ e))
      | inr ne ↦ (item_lawful to ne (few_fit to few)).bad rest reason left are e
    ]

why_header : (rest : List ℕ) (byte : ℕ) (reason : Reason) → item_at places.Header rest ≡ More → (len : ℕ) → len
    ≡ length rest + length (byte ∷ []) → HeaderSays len 1 reason → IsReason rest byte reason
why_header rest byte reason m len l (in_magic r lt) =
    record {
      magic = λ h. r;
      version = λ h k. absurd (omega arith);
      tag = λ h xs to items e. absurd (omega arith);
      field = λ h none. absurd (omega arith);
    }
why_header rest byte reason m len l (in_version r le lt) =
    record {
      magic = λ h. absurd (omega arith);
      version = λ h k. r;
      tag = λ h xs to items e. absurd (omega arith);
      field = λ h none. absurd (omega arith);
    }
why_header rest byte reason m len l (behind r le) = record {
  magic = λ h. absurd (omega arith);
  version = λ h k. absurd (omega arith);
  tag = λ h xs to items e.
      let s = same_stop [] xs places.Header places.Header to rest rest [] (refl, refl) m (all_leads_on xs to rest items e) (nil_more to) in
      let z : length rest ≡ 0 = ap (λ (c : List ℕ). length c) s.1 in
      absurd (omega arith);
  field = λ h none. r;
}

why_tag : (given : List Item) (to : Place) (rest : List ℕ) (byte : ℕ) (reason : Reason) → AreItems places.Header given to → item_at to rest
    ≡ More → item_at to (rest ++ byte ∷ []) ≡ Bad reason 1 → (to ≡ places.Header → ⊥)
    → (xs : List Item) (end : Place) → AreItems places.Header xs end → items_spelling places.Header given ++ rest
    ≡ items_spelling places.Header xs → reason ≡ tag_reason_at end byte
why_tag given to rest byte reason items m b ne xs end others e =
    let bytes = items_spelling places.Header given ++ rest in
    let s = same_stop given xs places.Header to end bytes rest [] (spelled_leads given places.Header to rest tt items) m
    (all_leads_on xs end bytes others e) (nil_more end) in
    let f : item_at to (byte ∷ []) ≡ Bad reason 1 = ap (λ (c : List ℕ). item_at to (c ++ byte ∷ [])) (sym s.1) ∙ b in
    elim (frame_says to byte [] reason 1 ne f) [
      | inl g ↦ g.0 ∙ ap (λ (p : Place). tag_reason_at p byte) s.0
      | inr g ↦ absurd (omega (arith, g.1))
    ]

why_field : (given : List Item) (to : Place) (rest : List ℕ) (byte : ℕ) (reason : Reason) → AreItems places.Header given to
    → item_at to (rest ++ byte ∷ []) ≡ Bad reason 1 → (to ≡ places.Header → ⊥)
    → ((xs : List Item) (end : Place) → AreItems places.Header xs end → items_spelling places.Header given
    ++ rest ≡ items_spelling places.Header xs → ⊥) → reason ≡ Range
why_field given to [] byte reason items b ne none = absurd (none given to items (append-nil (items_spelling places.Header given)))
why_field given to (c ∷ cs) byte reason items b ne none =
    elim (frame_says to c (cs ++ byte ∷ []) reason 1 ne b) [
      | inl g ↦ absurd (omega (arith, g.1, length-append cs (byte ∷ [])))
      | inr g ↦ g.0
    ]

-- the reason, where the bytes before the fault lead to a place and a rest
why : (given : List Item) (to : Place) (rest : List ℕ) (byte : ℕ) (reason : Reason) → AreItems places.Header given to → item_at to rest
    ≡ More → item_at to (rest ++ byte ∷ []) ≡ Bad reason 1 → IsReason (items_spelling places.Header given ++ rest) byte reason
why given to rest byte reason items m b =
    elim (is_header to) [
      | inl at ↦
          let none = (at_header given places.Header (subst (λ (p : Place). AreItems places.Header given p) at items)).1 in
          let m0 : item_at places.Header rest ≡ More = ap (λ (p : Place). item_at p rest) (sym at) ∙ m in
          let b0 : item_at places.Header (rest ++ byte ∷ []) ≡ Bad reason 1 = ap (λ (p : Place). item_at p (rest ++ byte ∷ [])) (sym at)
          ∙ b in
          subst (λ (xs : List Item). IsReason (items_spelling places.Header xs ++ rest) byte reason) (sym none)
          (why_header rest byte reason m0 (length (rest ++ byte ∷ [])) (length-append rest (byte ∷ []))
          (header_says (rest ++ byte ∷ []) reason 1 b0))
      | inr ne ↦
          let long : 8 ≤ length (items_spelling places.Header given ++ rest) = long_enough given to rest items ne in
          record {
            magic = λ lt. absurd (omega arith);
            version = λ le lt. absurd (omega arith);
            tag = λ le xs end others e. why_tag given to rest byte reason items m b ne xs end others e;
            field = λ le none. why_field given to rest byte reason items b ne none;
          }
    ]

-- ---- all bytes

abbrev reason_of : Option RecordFault → Reason
reason_of None = Range
reason_of (Some f) = f.reason

abbrev offset_of : Option RecordFault → ℕ
offset_of None = 0
offset_of (Some f) = f.offset

ended : (len : ℕ) (to : Place) → fault_from len (ending_at to) ≡ None → to ≡ places.End
ended len places.Header e = absurd cc
ended len (places.Register layout) e = absurd cc
ended len (places.Discover layout) e = absurd cc
ended len (places.Init layout) e = absurd cc
ended len (places.Runs layout before) e = absurd cc
ended len places.End e = refl

module _ (bytes : List ℕ) (are : AreBytes bytes) (given : List Item) (to : Place) (rest : List ℕ)
    (h : Leads places.Header bytes given to rest) where
  parts : AreItems places.Header given to × (bytes ≡ items_spelling places.Header given ++ rest)
  parts = leads_spelled given places.Header to bytes rest tt are h

  longest : IsStuck to rest → items_in bytes ≡ given → AreLongest bytes (items_in bytes)
  longest stuck e = subst (AreLongest bytes) (sym e) (record {
    to = to;
    rest = rest;
    items = parts.0;
    spelling = parts.1;
    longest =
        λ ys end others ay sy. no_longer given places.Header to bytes rest ys end others h stuck
        (subst (λ (b : List ℕ). Leads places.Header b ys end others) (sym sy) (spelled_leads ys places.Header end others tt ay));
  })

  at_more : item_at to rest ≡ More → IsDecoded bytes
  at_more m =
      let all = all_at_more given to bytes rest h m in
      record {
        items = longest (inl m) all.0;
        sound = λ e. begins given to bytes rest are h m;
        first = λ f e. absurd (cc (all.1, e));
        whole = λ e.
            let at : to ≡ places.End = ended (length bytes) to (sym all.2 ∙ e) in
            let none : rest ≡ [] = end_stuck rest (ap (λ (p : Place). item_at p rest) (sym at) ∙ m) in (
              given,
              subst (λ (p : Place). AreItems places.Header given p) at parts.0,
              parts.1
                  ∙ ap (λ (xs : List ℕ). items_spelling places.Header given ++ xs) none ∙ append-nil (items_spelling places.Header given),
            );
        no_fault = λ w.
            let s = same_stop given w.0 places.Header to places.End bytes rest [] h m (all_leads_on w.0 places.End bytes w.1 w.2)
            (nil_more places.End) in
            all.2 ∙ ap (λ (p : Place). fault_from (length bytes) (ending_at p)) s.0;
      }

  at_bad : (reason : Reason) (left : ℕ) → item_at to rest ≡ Bad reason left → IsDecoded bytes
  at_bad reason left b =
      let all = all_at_bad given to bytes rest reason left h b in
      record {
        items = longest (inr (reason, left, b)) all.0;
        sound = λ e. absurd (cc (all.1, e));
        first = λ f e.
            let r = refused_at to rest reason left (few_along given places.Header to parts.0 tt)
            (AreBytes-rest bytes (items_spelling places.Header given) rest parts.1 are) b in
            let d = refused given to bytes rest reason left are h b r in
            let o : length bytes - left ≡ f.offset = ap offset_of (sym all.1 ∙ e) in
            let l : length bytes ≡ length d.0 + suc (length d.2) = ap (λ (xs : List ℕ). length xs) d.3 ∙ length-append d.0 (d.1 ∷ d.2) in
            let y : IsReason (items_spelling places.Header given ++ r.before) r.byte f.reason =
            subst (λ (w : Reason). IsReason (items_spelling places.Header given ++ r.before) r.byte w) (ap reason_of (sym all.1 ∙ e))
            (why given to r.before r.byte reason parts.0 r.goes_on (r.refused [])) in
            record {
              before = d.0;
              byte = d.1;
              behind = d.2;
              parts = d.3;
              place = omega (arith, d.4, o, l);
              begins = d.5;
              ends = d.6;
              why = subst (λ (c : ℕ). IsReason d.0 c f.reason) (sym d.8) (subst (λ (c : List ℕ). IsReason c r.byte f.reason) (sym d.7) y);
            };
        whole = λ e. absurd (cc (all.2, e));
        no_fault =
            λ w. absurd (bad_never_whole given places.Header to bytes rest w.0 reason left h b (all_leads_on w.0 places.End bytes w.1 w.2));
      }

pub decoded_is : (bytes : List ℕ) → AreBytes bytes → IsDecoded bytes
decoded_is bytes are =
    let d = reads (suc (length bytes)) places.Header bytes (omega arith) (item_at places.Header bytes) refl in
    by_ending d.0 d.1 d.2 d.3 d.4
  where
    by_ending : (given : List Item) (to : Place) (rest : List ℕ) → Leads places.Header bytes given to rest → IsStuck to rest
        → IsDecoded bytes
    by_ending given to rest h (inl m) = at_more bytes are given to rest h m
    by_ending given to rest h (inr b) = at_bad bytes are given to rest h b.0 b.1 b.2
