-- How salvaging ends, by how the reading did.
use Rattle.std.proofs.Common.{◌≡◌, ◌⊎◌, inl, inr, ℕ, Bool, true, false, cond, ◌||◌, List, [], ◌∷◌, ◌++◌, length, Option, Some, None, Result}
use Rattle.std.proofs.Common.{Ok, Err, refl, sym, ap, subst, ◌∙◌, append_assoc, append-nil, arith}
use Rattle.std.specs.Prelude.{IfOk, IfSome, IsErrOf}
use Rattle.std.specs.List.{flat_map, list_any}
use Rattle.std.proofs.lemmas.Grind.{flat_map-append}
use Rattle.std.proofs.lemmas.List.Folds.{list_any-append}
use Rattle.det_values.specs.declared.format.Format.{Format}
use Rattle.det_values.specs.declared.format.Format.TheVariants.{One}
use Rattle.det_values.specs.declared.frames.Frame.TheVariants.{Terminate}
use Rattle.det_values.specs.Values.{ProfileValue}
use Rattle.det_io.specs.declared.failure.Failure.{Failure}
use Rattle.det_io.specs.declared.failure.Failure.TheVariants.{Read, Write, OutOfMemory}
use Rattle.det_io.specs.declared.failure.Stopped.{Stopped}
use Rattle.det_io.specs.declared.failure.Stopped.TheVariants.{Refused, Failed}
use Rattle.det_io.specs.Prefix.{IsPrefix, IsProperPrefix}
use Rattle.det_io.specs.Shelf.{IsAtEnd}
use Rattle.det_io.specs.Sink.{Grew}
use Rattle.det_io.specs.Traffic.{ShelfRun, SinkRun}
use Rattle.det_io.proofs.Growth.{grew-none, grew-then}
use Rattle.det_io.proofs.Prefixes.{prefix-none, prefix-same, prefix-then, proper-prefix, proper-length, proper-then, proper-behind}
use Rattle.record_grammar.specs.declared.record_fault.RecordFault.{RecordFault}
use Rattle.record_grammar.specs.declared.item.Item.{Item}
use Rattle.record_grammar.specs.declared.item.Item.TheVariants as items
use Rattle.record_grammar.specs.Record.{items as items_in}
use Rattle.record_grammar.specs.Spelling.{spelled, spelled_header, spelled_frame}
use Rattle.record_reader.specs.declared.salvage.Salvage.{Salvage}
use Rattle.record_reader.specs.declared.salvage.Salvaged.{Salvaged}
use Rattle.record_reader.specs.item_reader.StandsFor.{FoundFault, IsFaulty}
use Rattle.record_reader.proofs.lemmas.item_reader.Needed.{while-weaker}
use Rattle.record_reader.specs.ItemTaker.{AreAll, Took, RecordRead, ItemsRead}
use Rattle.record_reader.specs.Salvaged.{kept, is_init, salvaged_from, salvaged, cycles_of, refused_of}
use Rattle.record_reader.specs.Salvaged.{written_items}
use Rattle.record_reader.specs.InItems.{spelled_by}
use Rattle.record_reader.specs.SalvageState.{Keeps, salvaging, FinishIs}
use Rattle.record_reader.specs.Salvages.{IsFront, IsCut, Salvages, HasNothing, Begins, Answers, ReadsTo, SavesRead, Ended, settled_by}
use Rattle.record_reader.proofs.Items.{whole_has_init}
use Rattle.record_reader.proofs.Pieces.{spelled_append}
use Rattle.record_reader.proofs.ItemTaker.{behind, over, told, of-slot}

-- ---- the salvaged record of items

abbrev spelled_kept : ProfileValue → List Item → List ℕ
spelled_kept p xs = spelled p (flat_map kept xs)

abbrev made_whole : ProfileValue → List Item → List ℕ
made_whole p xs = spelled p (flat_map kept xs ++ Terminate ∷ [])

made_is : (p : ProfileValue) (xs : List Item) → made_whole p xs ≡ spelled_kept p xs ++ spelled_frame p.format Terminate
made_is p xs =
    let one : flat_map (spelled_frame p.format) (flat_map kept xs ++ Terminate ∷ [])
    ≡ flat_map (spelled_frame p.format) (flat_map kept xs) ++ (spelled_frame p.format Terminate ++ []) =
    flat_map-append (spelled_frame p.format) (flat_map kept xs) (Terminate ∷ []) in
    ap (λ (bytes : List ℕ). spelled_header p ++ bytes) one
    ∙ sym (append_assoc (spelled_header p) (flat_map (spelled_frame p.format) (flat_map kept xs)) (spelled_frame p.format Terminate ++ []))
    ∙ ap (λ (bytes : List ℕ). spelled_kept p xs ++ bytes) (append-nil (spelled_frame p.format Terminate))

last_one : (format : Format) → spelled_frame format Terminate ≡ 5 ∷ []
unfolding spelled_frame
last_one format = refl

not_none : (xs ys : List ℕ) (b : ℕ) → ys ≡ b ∷ [] → xs ++ ys ≡ [] → ⊥
not_none [] ys b e z = absurd (let y = sym e ∙ z in cc)
not_none (x ∷ xs) ys b e z = absurd cc

-- the record of these items and others goes on after what these spell
goes_on : (p : ProfileValue) (xs others : List Item) → IsProperPrefix (spelled_kept p xs) (made_whole p (xs ++ others))
goes_on p xs others = (
  flat_map (spelled_frame p.format) (flat_map kept others) ++ spelled_frame p.format Terminate,
  sym (append_assoc (spelled_kept p xs) (flat_map (spelled_frame p.format) (flat_map kept others)) (spelled_frame p.format Terminate))
      ∙ ap (λ (bytes : List ℕ). bytes ++ spelled_frame p.format Terminate) (sym (spelled_append kept p xs others)) ∙ sym (made_is p (xs ++ others)),
  not_none (flat_map (spelled_frame p.format) (flat_map kept others)) (spelled_frame p.format Terminate) 5 (last_one p.format),
)

some_from : (p : ProfileValue) (xs : List Item) → list_any is_init xs ≡ true → salvaged_from (items.Header p ∷ xs) ≡ Some (made_whole p xs)
some_from p xs e = ap (λ (b : Bool). cond b (Some (made_whole p xs)) None) e

none_from : (given : List Item) → list_any is_init given ≡ false → salvaged_from given ≡ None
none_from [] e = refl
none_from (items.Header p ∷ xs) e = ap (λ (b : Bool). cond b (Some (made_whole p xs)) None) e
none_from (items.Frame f ∷ xs) e = refl

any_front : (xs ys : List Item) → list_any is_init xs ≡ true → list_any is_init (xs ++ ys) ≡ true
any_front xs ys e = list_any-append is_init xs ys ∙ ap (λ (b : Bool). b || list_any is_init ys) e

-- ---- what was written is the front of it

front_none : (o : Option (List ℕ)) → IsFront [] o
front_none None = refl
front_none (Some bytes) = prefix-none bytes

front_wider : (a b : List ℕ) (o : Option (List ℕ)) → IsPrefix a b → IsFront b o → IsFront a o
front_wider a b (Some bytes) p q = prefix-then a b bytes p q
front_wider [] b None p q = refl
front_wider (x ∷ a) b None p q = absurd (let e = p.1 ∙ q in cc)

cut_wider : (a b : List ℕ) (o : Option (List ℕ)) → IsProperPrefix a b → IsFront b o → IsCut a o
cut_wider a b (Some bytes) p q = proper-then a b bytes p q
cut_wider a b None p q = absurd (let n = proper-length a b p in let m = ap length q in omega arith)

front_cut : (a : List ℕ) (o : Option (List ℕ)) → IsCut a o → IsFront a o
front_cut a None h = absurd h
front_cut a (Some bytes) h = proper-prefix a bytes h

written_none : (b : Bool) (bytes : List ℕ) (o : Option (List ℕ)) → bytes ≡ [] → IsFront (cond b bytes []) o
written_none true bytes o e = subst (λ (xs : List ℕ). IsFront xs o) (sym e) (front_none o)
written_none false bytes o e = front_none o

written_front : (given others : List Item) → IsFront (written_items given) (salvaged_from (given ++ others))
written_front [] others = front_none (salvaged_from others)
written_front (items.Header p ∷ xs) others = by (list_any is_init xs) refl
  where
    by : (b : Bool) → list_any is_init xs ≡ b → IsFront (cond (list_any is_init xs) (spelled_kept p xs) [])
        (salvaged_from (items.Header p ∷ (xs ++ others)))
    by true e =
        subst (λ (b : Bool). IsFront (cond b (spelled_kept p xs) []) (salvaged_from (items.Header p ∷ (xs ++ others)))) (sym e)
        (subst (IsFront (spelled_kept p xs)) (sym (some_from p (xs ++ others) (any_front xs others e)))
        (proper-prefix (spelled_kept p xs) (made_whole p (xs ++ others)) (goes_on p xs others)))
    by false e =
        subst (λ (b : Bool). IsFront (cond b (spelled_kept p xs) []) (salvaged_from (items.Header p ∷ (xs ++ others)))) (sym e)
        (front_none (salvaged_from (items.Header p ∷ (xs ++ others))))
written_front (items.Frame f ∷ xs) others = written_none (list_any is_init (items.Frame f ∷ xs)) [] None refl

-- what is written of a record's first items
within : (given : List Item) (bytes : List ℕ) → IsPrefix given (items_in bytes) → IsFront (written_items given) (salvaged bytes)
within given bytes first = subst (λ (xs : List Item). IsFront (written_items given) (salvaged_from xs)) first.1
    (written_front given first.0)

-- all of it: what was written, what is kept, and Terminate
whole_of : (given : List Item) (s : Salvage) → Keeps s given → list_any is_init given ≡ true
    → salvaged_from given ≡ Some (written_items given ++ (s.out.items ++ spelled_frame One Terminate))
whole_of [] s h e = absurd cc
whole_of (items.Header p ∷ xs) s h e =
    some_from p xs e
    ∙ ap (λ (bytes : List ℕ). Some bytes) (made_is p xs ∙ ap (λ (bytes : List ℕ). bytes ++ spelled_frame p.format Terminate) (sym h.out)
    ∙ append_assoc (written_items (items.Header p ∷ xs)) s.out.items (spelled_frame p.format Terminate)
    ∙ ap (λ (last : List ℕ). written_items (items.Header p ∷ xs) ++ (s.out.items ++ last)) (last_one p.format ∙ sym (last_one One)))
whole_of (items.Frame f ∷ xs) s h e = absurd h.headed

-- ---- the answers

abbrev read-err : Stopped RecordFault → Result (Unit {0}) (Stopped RecordFault)
read-err stop = Err stop

abbrev salvaged-err : Stopped RecordFault → Result Salvaged (Stopped RecordFault)
salvaged-err stop = Err stop

as-salvaged : (stop other : Stopped RecordFault) → read-err stop ≡ read-err other → salvaged-err other ≡ salvaged-err stop
as-salvaged stop other e = let same : other ≡ stop = cc in ap salvaged-err same

-- where a fault ends a record the salvaged one is finished, if Init was read
abbrev AtFault : RecordFault → Bool → Result Salvaged (Stopped RecordFault) → Salvage → SinkRun → Type 0
AtFault f true result salvage out = FinishIs result salvage out
AtFault f false result salvage out = (result ≡ Err (Refused f)) × Grew out.before out.after []

-- what comes of a salvage by how the reading ended
abbrev EndIs : Result (Unit {0}) (Stopped RecordFault) → Result Salvaged (Stopped RecordFault) → Salvage → SinkRun → Type 0
EndIs (Ok u) result salvage out = FinishIs result salvage out
EndIs (Err (Refused f)) result salvage out = AtFault f salvage.has_begun result salvage out
EndIs (Err (Failed failure)) result salvage out = (result ≡ Err (Failed failure)) × Grew out.before out.after []

quiet : {before mid last : List ℕ → Type 0} {front : List ℕ} → Grew before mid front → Grew mid last [] → Grew before last front
quiet {before} {last = last} {front} p q = subst (Grew before last) (append-nil front) (grew-then p q)

module _ (one : SinkRun) (last : List ℕ → Type 0) (b : ℕ) (s : Salvage) (bytes : List ℕ) where
  begins : (given : List Item) → IsPrefix given (items_in bytes) → Grew one.before one.after (written_items given) → Grew one.after last []
      → Begins bytes (over one last b)
  begins given first p q = record { front = written_items given; within = within given bytes first; grew = quiet p q }

  finished : (result : Result Salvaged (Stopped RecordFault)) {given : List Item} {end : Option RecordFault} → AreAll given end bytes
      → Took (salvaging s) given one → list_any is_init given ≡ true
      → FinishIs result s (behind one last b) → Answers result bytes (over one last b)
  finished (Ok counts) {given} all took begun finish = record {
    bytes = written_items given ++ (s.out.items ++ spelled_frame One Terminate);
    is = ap salvaged_from all.items ∙ whole_of given s took.stands begun;
    grew = grew-then took.grew finish.0;
    cycles = finish.1 ∙ took.stands.cycles ∙ ap cycles_of (sym all.items);
    refused = finish.2 ∙ took.stands.refused ∙ ap refused_of (sym all.items);
  }
  finished (Err (Refused why)) all took begun finish = absurd finish
  finished (Err (Failed Read)) all took begun finish = absurd finish
  finished (Err (Failed Write)) {given} all took begun finish = record {
    front = written_items given ++ finish.0;
    within = subst (IsCut (written_items given ++ finish.0)) (sym (ap salvaged_from all.items ∙ whole_of given s took.stands begun))
        (proper-behind (written_items given) finish.0 _ finish.1);
    grew = grew-then took.grew finish.2;
  }
  finished (Err (Failed OutOfMemory)) {given} all took begun finish =
      begins given (subst (IsPrefix given) (sym all.items) (prefix-same given)) took.grew finish

  nothing : (result : Result Salvaged (Stopped RecordFault)) {given : List Item} {fault : RecordFault} → AreAll given (Some fault) bytes
      → Took (salvaging s) given one → list_any is_init given ≡ false
      → (result ≡ Err (Refused fault)) × Grew one.after last [] → Answers result bytes (over one last b)
  nothing result {given} {fault} all took none end =
      subst (λ (r : Result Salvaged (Stopped RecordFault)). Answers r bytes (over one last b)) (sym end.0) (record {
        is = ap salvaged_from all.items ∙ none_from given none;
        fault = all.fault;
        grew = quiet (subst (λ (begun : Bool). Grew one.before one.after (cond begun (spelled_by kept given) [])) none took.grew) end.1;
      })

  at-fault : (result : Result Salvaged (Stopped RecordFault)) {given : List Item} {fault : RecordFault} → AreAll given (Some fault) bytes
      → Took (salvaging s) given one
      → (begun : Bool) → s.has_begun ≡ begun → AtFault fault begun result s (behind one last b) → Answers result bytes (over one last b)
  at-fault result all took true is end = finished result all took (sym took.stands.has_begun ∙ is) end
  at-fault result all took false is end = nothing result all took (sym took.stands.has_begun ∙ is) end

  answers : (read : Result (Unit {0}) (Stopped RecordFault)) (result : Result Salvaged (Stopped RecordFault)) (given : List Item)
      → RecordRead read (salvaging s) given bytes one
      → EndIs read result s (behind one last b) → Answers result bytes (over one last b)
  answers (Ok u) result given h end = finished result h.0 h.1 (ap (list_any is_init) (sym h.0.items) ∙ whole_has_init bytes h.0.fault) end
  answers (Err (Refused fault)) result given h end = at-fault result h.0 h.1 s.has_begun refl end
  answers (Err (Failed Read)) result given h end =
      subst (λ (r : Result Salvaged (Stopped RecordFault)). Answers r bytes (over one last b)) (sym end.0) (begins given h.0 h.1.grew end.1)
  answers (Err (Failed Write)) result given h end =
      subst (λ (r : Result Salvaged (Stopped RecordFault)). Answers r bytes (over one last b)) (sym end.0) (record {
        front = written_items given ++ h.2.wrote.0;
        within = cut_wider _ (written_items (given ++ h.0 ∷ [])) _
            (subst (IsProperPrefix (written_items given ++ h.2.wrote.0)) (sym h.2.all)
            (proper-behind (written_items given) h.2.wrote.0 h.2.more h.2.wrote.1))
            (within (given ++ h.0 ∷ []) bytes h.1);
        grew = quiet h.2.wrote.2 end.1;
      })
  answers (Err (Failed OutOfMemory)) result given h end =
      subst (λ (r : Result Salvaged (Stopped RecordFault)). Answers r bytes (over one last b)) (sym end.0)
      (record {
        front = h.1.0;
        within = front_wider h.1.0 (written_items given) _ h.1.1 (within given bytes h.0);
        grew =
            quiet h.1.2 end.1;
      })

-- ---- how far it read

finish_to : (result : Result Salvaged (Stopped RecordFault)) (s : Salvage) (read : List ℕ) (at_end : Type 0) (out : SinkRun)
    → (((tail : List ℕ) → items_in (read ++ tail) ≡ items_in read) ⊎ at_end) → FinishIs result s out → ReadsTo result read at_end
finish_to (Ok counts) s read at_end out all finish = all
finish_to (Err (Refused f)) s read at_end out all finish = absurd finish
finish_to (Err (Failed Read)) s read at_end out all finish = absurd finish
finish_to (Err (Failed Write)) s read at_end out all finish = tt
finish_to (Err (Failed OutOfMemory)) s read at_end out all finish = tt

-- all items that come before a fault are those of the bytes that show it
faulty_all : {f : RecordFault} {at_end : Type 0} {read : List ℕ} {given : List Item} → FoundFault f at_end read given
    → ((tail : List ℕ) → items_in (read ++ tail) ≡ items_in read) ⊎ at_end
faulty_all {f} {at_end} {read} {given} found = by found.found
  where
    by : IsFaulty f read given ⊎ at_end → ((tail : List ℕ) → items_in (read ++ tail) ≡ items_in read) ⊎ at_end
    by (inl faulty) = inl (λ tail. (faulty tail).0 ∙ sym found.before)
    by (inr at) = inr at

fault_to : (begun : Bool) (result : Result Salvaged (Stopped RecordFault)) (s : Salvage) (read : List ℕ) {given : List Item}
    {fault : RecordFault} {at_end : Type 0} (out : SinkRun) → FoundFault fault at_end read given → AtFault fault begun result s out
    → ReadsTo result read at_end
fault_to true result s read {at_end = at_end} out found end = finish_to result s read at_end out (faulty_all found) end
fault_to false result s read {fault = fault} {at_end = at_end} out found end =
    subst (λ (r : Result Salvaged (Stopped RecordFault)). ReadsTo r read at_end) (sym end.0)
    (subst (λ (xs : List Item). IsFaulty fault read xs ⊎ at_end) (sym found.before) found.found)

reads_to : (read : Result (Unit {0}) (Stopped RecordFault)) (result : Result Salvaged (Stopped RecordFault)) {shelf : ShelfRun} {slot : ℕ}
    (s : Salvage) {out : SinkRun} (last : SinkRun) → (h : ItemsRead read (salvaging s) shelf slot out) → EndIs read result s last
    → ReadsTo result h.read (IsAtEnd shelf.last slot)
reads_to (Ok u) result {shelf} {slot} s last h end = finish_to result s h.read (IsAtEnd shelf.last slot) last (inr h.reads_to) end
reads_to (Err (Refused f)) result s last h end = fault_to s.has_begun result s h.read last h.reads_to end
reads_to (Err (Failed Read)) result {shelf} {slot} s last h end =
    subst (λ (r : Result Salvaged (Stopped RecordFault)). ReadsTo r h.read (IsAtEnd shelf.last slot)) (sym end.0) h.reads_to.1
reads_to (Err (Failed Write)) result {shelf} {slot} s last h end =
    subst (λ (r : Result Salvaged (Stopped RecordFault)). ReadsTo r h.read (IsAtEnd shelf.last slot)) (sym end.0) tt
reads_to (Err (Failed OutOfMemory)) result {shelf} {slot} s last h end =
    subst (λ (r : Result Salvaged (Stopped RecordFault)). ReadsTo r h.read (IsAtEnd shelf.last slot)) (sym end.0) tt

-- ---- what was written where a read failed

-- the salvage finished, which reads nothing
finish_saves : (result : Result Salvaged (Stopped RecordFault)) (s : Salvage) (read : List ℕ) (last out : SinkRun) → FinishIs result s last
    → SavesRead result read out
finish_saves (Ok counts) s read last out finish = tt
finish_saves (Err (Refused f)) s read last out finish = tt
finish_saves (Err (Failed Read)) s read last out finish = absurd finish
finish_saves (Err (Failed Write)) s read last out finish = tt
finish_saves (Err (Failed OutOfMemory)) s read last out finish = tt

fault_saves : (begun : Bool) (fault : RecordFault) (result : Result Salvaged (Stopped RecordFault)) (s : Salvage) (read : List ℕ)
    (last out : SinkRun) → AtFault fault begun result s last → SavesRead result read out
fault_saves true fault result s read last out end = finish_saves result s read last out end
fault_saves false fault result s read last out end =
    subst (λ (r : Result Salvaged (Stopped RecordFault)). SavesRead r read out) (sym end.0) tt

saves : (read : Result (Unit {0}) (Stopped RecordFault)) (result : Result Salvaged (Stopped RecordFault)) {shelf : ShelfRun} {slot : ℕ}
    {one : SinkRun} (last : List ℕ → Type 0) (b : ℕ) (s : Salvage)
    → (h : ItemsRead read (salvaging s) shelf slot one) → EndIs read result s (behind one last b)
    → SavesRead result h.read (over one last b)
saves (Ok u) result {one = one} last b s h end = finish_saves result s h.read (behind one last b) (over one last b) end
saves (Err (Refused f)) result {one = one} last b s h end =
    fault_saves s.has_begun f result s h.read (behind one last b) (over one last b) end
saves (Err (Failed Read)) result {one = one} last b s h end =
    let all : RecordRead (Err (Failed Read)) (salvaging s) h.given (h.read ++ []) one = h.record_read.each [] (λ at. refl) in
    subst (λ (r : Result Salvaged (Stopped RecordFault)). SavesRead r h.read (over one last b)) (sym end.0)
    (subst (λ (xs : List Item). Grew one.before last (written_items xs)) (sym h.reads_to.0) (quiet all.1.grew end.1))
saves (Err (Failed Write)) result {one = one} last b s h end =
    subst (λ (r : Result Salvaged (Stopped RecordFault)). SavesRead r h.read (over one last b)) (sym end.0) tt
saves (Err (Failed OutOfMemory)) result {one = one} last b s h end =
    subst (λ (r : Result Salvaged (Stopped RecordFault)). SavesRead r h.read (over one last b)) (sym end.0) tt

ended : (read : Result (Unit {0}) (Stopped RecordFault)) (result : Result Salvaged (Stopped RecordFault)) {shelf : ShelfRun} {slot : ℕ}
    {one : SinkRun} (last : List ℕ → Type 0) (b : ℕ) (s : Salvage)
    → (h : ItemsRead read (salvaging s) shelf slot one) → EndIs read result s (behind one last b)
    → Ended result h.read shelf slot (over one last b)
ended read result {one = one} last b s h end = record {
  reads_to = reads_to read result s (behind one last b) h end;
  needed = while-weaker _ _ h.read (λ first p. p.1) h.needed;
  saves = saves read result last b s h end;
  answers = record {
    reads = h.record_read.reads;
    each =
        λ rest at. answers one last b s (h.read ++ rest) read result h.given (h.record_read.each rest at) end;
  };
}

at-fault-finished : (begun : Bool) (fault : RecordFault) (result : Result Salvaged (Stopped RecordFault)) (s : Salvage) (out : SinkRun)
    → settled_by begun (Err (Refused fault)) ≡ Ok tt → FinishIs result s out → AtFault fault begun result s out
at-fault-finished true fault result s out is finish = finish
at-fault-finished false fault result s out is finish = absurd cc

is-finished : (read : Result (Unit {0}) (Stopped RecordFault)) (result : Result Salvaged (Stopped RecordFault)) (s : Salvage)
    (out : SinkRun) → settled_by s.has_begun read ≡ Ok tt → FinishIs result s out → EndIs read result s out
is-finished (Ok u) result s out is finish = finish
is-finished (Err (Refused fault)) result s out is finish = at-fault-finished s.has_begun fault result s out is finish
is-finished (Err (Failed failure)) result s out is finish = absurd (not-failed s.has_begun failure is)
  where
    not-failed : (begun : Bool) (failure : Failure) → settled_by begun (Err (Failed failure)) ≡ Ok tt → ⊥
    not-failed true failure is = cc
    not-failed false failure is = cc

-- the salvaged record was finished
pub ended-finished : (read : Result (Unit {0}) (Stopped RecordFault)) (result : Result Salvaged (Stopped RecordFault)) {shelf : ShelfRun}
    {slot : ℕ} {one : SinkRun} (last : List ℕ → Type 0) (b : ℕ) (s : Salvage)
    → (h : ItemsRead read (salvaging s) shelf slot one) → settled_by s.has_begun read ≡ Ok tt → FinishIs result s (behind one last b)
    → Ended result h.read shelf slot (over one last b)
ended-finished read result {one = one} last b s h is finish =
    ended read result last b s h (is-finished read result s (behind one last b) is finish)

at-fault-stopped : (begun : Bool) (fault : RecordFault) (stop : Stopped RecordFault) (s : Salvage) (one : SinkRun)
    → settled_by begun (Err (Refused fault)) ≡ Err stop → AtFault fault begun (Err stop) s (behind one one.after one.faults_after)
at-fault-stopped true fault stop s one is = absurd cc
at-fault-stopped false fault stop s one is = (as-salvaged (Refused fault) stop is, grew-none one.after)

is-stopped : (read : Result (Unit {0}) (Stopped RecordFault)) (stop : Stopped RecordFault) (s : Salvage) (one : SinkRun)
    → settled_by s.has_begun read ≡ Err stop → EndIs read (Err stop) s (behind one one.after one.faults_after)
is-stopped (Ok u) stop s one is = absurd (not-ok s.has_begun u is)
  where
    not-ok : (begun : Bool) (u : Unit {0}) → settled_by begun (Ok u) ≡ Err stop → ⊥
    not-ok true u is = cc
    not-ok false u is = cc
is-stopped (Err (Refused fault)) stop s one is = at-fault-stopped s.has_begun fault stop s one is
is-stopped (Err (Failed failure)) stop s one is = (as-salvaged (Failed failure) stop (still s.has_begun ∙ is), grew-none one.after)
  where
    still : (begun : Bool) → Err (Failed failure) ≡ settled_by begun (Err (Failed failure))
    still true = refl
    still false = refl

-- the reading stopped, and nothing more was written
pub ended-stopped : (read : Result (Unit {0}) (Stopped RecordFault)) (stop : Stopped RecordFault) {shelf : ShelfRun} {slot : ℕ}
    (one : SinkRun) (s : Salvage)
    → (h : ItemsRead read (salvaging s) shelf slot one) → settled_by s.has_begun read ≡ Err stop
    → Ended (Err stop) h.read shelf slot (over one one.after one.faults_after)
ended-stopped read stop one s h is = ended read (Err stop) one.after one.faults_after s h (is-stopped read stop s one is)

-- what failed is what failed in the reading
pub settle_fault-failure : (begun : Bool) (read : Result (Unit {0}) (Stopped RecordFault)) (stop : Stopped RecordFault)
    → settled_by begun read
    ≡ Err stop → read ≡ Err stop
settle_fault-failure true (Ok u) stop is = is
settle_fault-failure true (Err (Refused f)) stop is = absurd cc
settle_fault-failure true (Err (Failed failure)) stop is = is
settle_fault-failure false (Ok u) stop is = is
settle_fault-failure false (Err (Refused f)) stop is = is
settle_fault-failure false (Err (Failed failure)) stop is = is

-- ---- what each answer says

-- whatever the result, what was written begins the salvaged record
pub answers-part : (result : Result Salvaged (Stopped RecordFault)) (bytes : List ℕ) (out : SinkRun) → Answers result bytes out
    → Begins bytes out
answers-part (Ok counts) bytes out h = record {
  front = h.bytes;
  within = subst (IsFront h.bytes) (sym h.is) (prefix-same h.bytes);
  grew =
      h.grew;
}
answers-part (Err (Refused f)) bytes out h = record { front = []; within = front_none (salvaged bytes); grew = h.grew }
answers-part (Err (Failed Read)) bytes out h = h
answers-part (Err (Failed Write)) bytes out h = record
    { front = h.front; within = front_cut h.front (salvaged bytes) h.within; grew = h.grew }
answers-part (Err (Failed OutOfMemory)) bytes out h = h

ok_of : (result : Result Salvaged (Stopped RecordFault)) (bytes : List ℕ) (out : SinkRun) → Answers result bytes out
    → IfOk result (λ counts. Salvages bytes counts out)
ok_of (Ok counts) bytes out h = h
ok_of (Err stop) bytes out h = tt

module _ {result : Result Salvaged (Stopped RecordFault)} {read : List ℕ} {shelf : ShelfRun} {slot : ℕ} {out : SinkRun}
    (h : Ended result read shelf slot out) where
  pub told-ok : IfSome (shelf.first.left slot) (λ bytes. IfOk result (λ counts. Salvages bytes counts out))
  told-ok = told (λ bytes. IfOk result (λ counts. Salvages bytes counts out))
      (of-slot (λ bytes. Answers result bytes out) _ (λ bytes a. ok_of result bytes out a) h.answers)

  pub told-nothing : IfSome (shelf.first.left slot) (λ bytes. (f : RecordFault) → IsErrOf result (Refused f) → HasNothing bytes f out)
  told-nothing = told (λ bytes. (f : RecordFault) → IsErrOf result (Refused f) → HasNothing bytes f out)
      (of-slot (λ bytes. Answers result bytes out) _
      (λ bytes a f is. let n : HasNothing bytes f out =
      subst (λ (r : Result Salvaged (Stopped RecordFault)). Answers r bytes out) is a in n) h.answers)

  pub told-part : IfSome (shelf.first.left slot) (λ bytes. Begins bytes out)
  told-part = told (λ bytes. Begins bytes out) (of-slot (λ bytes. Answers result bytes out) _ (λ bytes a. answers-part result bytes out a)
      h.answers)
