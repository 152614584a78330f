-- Each step of a queue keeps its rule.
use Rattle.std.proofs.Common.{◌≡◌, ◌≢◌, ℕ, zero, suc, true, true≢false, List, [], ◌∷◌, ◌++◌, length, drop, set}
use Rattle.std.proofs.Common.{sym, refl, ap, ◌∙◌, subst, ⊎_elim, append_assoc, arith}
use mathlib.Core.Option.{some, some-ne-none}
use lib.ListN.{get_elem?}
use Rattle.std.proofs.Math.Seq.{drop-append_seam}
use Rattle.std.specs.Prelude.{Option, Some, None, MatchOption}
use Rattle.crossbeam_queue.specs.Fifo.{Pushes, Pops, Forks, Merges, Learns, Held}
use Rattle.crossbeam_queue.proofs.Lists.{at_set, at_snoc}
use Rattle.frame_queue.specs.declared.row.Row.{Row}
use Rattle.frame_queue.specs.declared.rule.QueueView.{QueueView}
use Rattle.frame_queue.specs.Order.{queue_view, beginning, no_rights, as_sender, as_receiver, with_receiver}
use Rattle.frame_queue.specs.Order.{Sent, Taken, Drained, IsTotal, Fits, IsInOrder, left_of}

-- of each view in a list, by its number
abbrev AllViews : (ℕ → QueueView → Type 0) → List QueueView → Type 0
AllViews P views = (number : ℕ) (v : QueueView) → get_elem? views number ≡ some v → P number v

at_end : (vs : List QueueView) (v w : QueueView) (j : ℕ) → get_elem? vs j ≢ some w → get_elem? (vs ++ v ∷ []) j ≡ some w
    → j ≡ length vs
at_end [] v w zero n e = refl
at_end [] v w (suc j) n e = absurd (some-ne-none w (sym e))
at_end (x ∷ xs) v w zero n e = absurd (n e)
at_end (x ∷ xs) v w (suc j) n e = ap suc (at_end xs v w j n e)

all_set : (P : ℕ → QueueView → Type 0) (views : List QueueView) (number : ℕ) (w : QueueView) → P number w
    → ((j : ℕ) (u : QueueView) → j ≢ number → get_elem? views j ≡ some u → P j u) → AllViews P (set views number w)
all_set P views number w mine others j u e = ⊎_elim
    (λ (x : (j ≡ number) × (w ≡ u)). subst (λ (y : ℕ × QueueView). P y.0 y.1) (λ i. (sym x.0 i, x.1 i)) mine)
    (λ (x : (j ≢ number) × (get_elem? views j ≡ some u)). others j u x.0 x.1)
    (at_set views number j w u e)

fits_nobody : (sender receiver : ℕ) (sent taken : List Row) (number : ℕ) → Fits sender receiver sent taken number no_rights
fits_nobody _ _ _ _ _ = ((λ may. absurd (true≢false (sym may))), λ may. absurd (true≢false (sym may)))

pub begins : IsInOrder [] (beginning ∷ [])
begins =
    let one : AllViews (Fits 0 0 [] []) (beginning ∷ []) = all_set (Fits 0 0 [] []) (beginning ∷ []) 0 beginning
    ((λ _. (refl, refl)), λ _. (refl, refl))
    (λ j u other e. absurd (other (at_end [] _ u j (λ x. some-ne-none u (sym x)) e))) in
    (0, 0, [], [], refl, one)

pub sends : (n number : ℕ) (v : QueueView) (row : Row) → v ≡ as_sender v → Pushes IsInOrder n number v row (Sent v row)
sends n number v row is held views _ rule at =
    let may : v.sends ≡ true = ap (λ (y : QueueView). y.sends) is in
    let w : QueueView = queue_view v.sends v.takes (v.sent ++ row ∷ []) v.taken in
    let mine = rule.5 number v at in
    let sent = rule.2 ++ row ∷ [] in
    let order : sent ≡ rule.3 ++ (held ++ row ∷ []) = ap (λ l. l ++ row ∷ []) rule.4 ∙ append_assoc rule.3 held (row ∷ []) in
    let fits : AllViews (Fits rule.0 rule.1 sent rule.3) (set views number w) =
    all_set (Fits rule.0 rule.1 sent rule.3) views number w
    ((λ _. ((mine.0 may).0, ap (λ l. l ++ row ∷ []) (mine.0 may).1)), mine.1)
    (λ j u other e. let theirs = rule.5 j u e in
    ((λ p. absurd (other ((theirs.0 p).0 ∙ sym (mine.0 may).0))), theirs.1)) in
    (w, (rule.0, rule.1, sent, rule.3, order, fits), refl)

pops : (number : ℕ) (v : QueueView) → v.takes ≡ true → Pops IsInOrder number v (Taken v)
pops number v may row held views rule at =
    let w : QueueView = queue_view v.sends v.takes v.sent (v.taken ++ row ∷ []) in
    let mine = rule.5 number v at in
    let taken = rule.3 ++ row ∷ [] in
    let order : rule.2 ≡ taken ++ held = rule.4 ∙ sym (append_assoc rule.3 (row ∷ []) held) in
    let fits : AllViews (Fits rule.0 rule.1 rule.2 taken) (set views number w) =
    all_set (Fits rule.0 rule.1 rule.2 taken) views number w
    (mine.0, λ _. ((mine.1 may).0, ap (λ l. l ++ row ∷ []) (mine.1 may).1))
    (λ j u other e. let theirs = rule.5 j u e in
    (theirs.0, λ p. absurd (other ((theirs.1 p).0 ∙ sym (mine.1 may).0)))) in
    (w, (rule.0, rule.1, rule.2, taken, order, fits), refl)

pub takes : (number : ℕ) (v : QueueView) → v ≡ as_receiver v → Pops IsInOrder number v (Taken v)
takes number v is = pops number v (ap (λ (y : QueueView). y.takes) is)

pub forks : (number : ℕ) (v : QueueView) → v ≡ beginning → Forks IsInOrder number v (as_sender v) (as_receiver v)
forks number v is held views rule at =
    let a : v.sends ≡ true = ap (λ (y : QueueView). y.sends) is in
    let b : v.takes ≡ true = ap (λ (y : QueueView). y.takes) is in
    let left : QueueView = as_sender v in
    let right : QueueView = as_receiver v in
    let mine = rule.5 number v at in
    let vs : List QueueView = set views number left in
    let Old : ℕ → QueueView → Type 0 = λ j u. (u.sends ≡ true → (j ≡ rule.0) × (u.sent ≡ rule.2)) × (u.takes ≢ true) in
    let old : AllViews Old vs = all_set Old views number left ((λ _. mine.0 a), λ p. true≢false (sym p))
    (λ j u other e. let theirs = rule.5 j u e in
    (theirs.0, λ p. other ((theirs.1 p).0 ∙ sym (mine.1 b).0))) in
    let fits : AllViews (Fits rule.0 (length vs) rule.2 rule.3) (vs ++ right ∷ []) = λ j u e. ⊎_elim
    (λ x. ((old j u x).0, λ p. absurd ((old j u x).1 p)))
    (λ (is : right ≡ u). (
      (λ p. absurd (true≢false (sym (ap (λ (y : QueueView). y.sends) is ∙ p)))),
      λ p. (at_end vs right u j (λ x. (old j u x).1 p) e, ap (λ (y : QueueView). y.taken) (sym is) ∙ (mine.1 b).1),
    ))
    (at_snoc vs right u j e) in
    (rule.0, length vs, rule.2, rule.3, rule.4, fits)

pub merges : (number : ℕ) (v : QueueView) (other : ℕ) (u : QueueView) → v ≡ as_sender v → u ≡ as_receiver u
    → Merges IsInOrder number v other u (with_receiver v u) no_rights
merges number v other u sender receiver held views rule at two at' =
    let a : v.sends ≡ true = ap (λ (y : QueueView). y.sends) sender in
    let b : u.takes ≡ true = ap (λ (y : QueueView). y.takes) receiver in
    let both : QueueView = with_receiver v u in
    let mine = rule.5 number v at in
    let vs : List QueueView = set views number both in
    let was : get_elem? views other ≡ some u = ⊎_elim (λ x. absurd (two x.0)) (λ x. x.1) (at_set views number other both u at') in
    let theirs = (rule.5 other u was).1 b in
    let Fit : ℕ → QueueView → Type 0 = Fits rule.0 number rule.2 rule.3 in
    let Now : ℕ → QueueView → Type 0 = λ j y. j ≢ other → Fit j y in
    let now : AllViews Now vs = all_set Now views number both
    (λ _. ((λ _. mine.0 a), λ _. (refl, theirs.1)))
    (λ j y _ e apart. let old = rule.5 j y e in
    (old.0, λ p. absurd (apart ((old.1 p).0 ∙ sym theirs.0)))) in
    let fits : AllViews Fit (set vs other no_rights) = all_set Fit vs other no_rights
    (fits_nobody rule.0 number rule.2 rule.3 other)
    (λ j y apart e. now j y e apart) in
    (rule.0, number, rule.2, rule.3, rule.4, fits)

pub totals : (number : ℕ) (v : QueueView) → v.sends ≡ true → v.takes ≡ true → Learns IsInOrder number v (IsTotal v)
totals number v a b held views rule at =
    let mine = rule.5 number v at in
    (mine.0 a).1 ∙ rule.4 ∙ ap (λ l. l ++ held) (sym (mine.1 b).1)

pub drains : (number : ℕ) (v : QueueView) → v.sends ≡ true → v.takes ≡ true → Pops IsInOrder number v (Drained v)
drains number v a b row held views rule at =
    let step = pops number v b row held views rule at in
    (step.0, step.1, (step.2, held, totals number v a b (row ∷ held) views rule at))

-- what is left is what was sent and not taken
pub left_is : (v : QueueView) (held : List Row) → IsTotal v held → left_of v ≡ held
left_is v held total = ap (drop (length v.taken)) total ∙ drop-append_seam v.taken held

left_next : (v : QueueView) (row : Row) (w : QueueView) → Drained v row w
    → IsTotal w (left_of w) × (left_of v ≡ row ∷ left_of w)
left_next v row w drained =
    let new : QueueView = queue_view v.sends v.takes v.sent (v.taken ++ row ∷ []) in
    let total : IsTotal new drained.1 = drained.2 ∙ sym (append_assoc v.taken (row ∷ []) drained.1) in
    let left : left_of new ≡ drained.1 = left_is new drained.1 total in
    rw drained.0 (
      total ∙ ap (λ l. new.taken ++ l) (sym left),
      left_is v (row ∷ drained.1) drained.2 ∙ ap (λ l. row ∷ l) (sym left),
    )

none_left : (held : List Row) → length held ≡ 0 → held ≡ []
none_left [] empty = refl
none_left (x ∷ xs) empty = absurd (omega arith)

-- a row was taken by an end with both rights, or nothing was left
pub popped : (o : Option Row) (v w : QueueView) → v.sends ≡ true → v.takes ≡ true → IsTotal v (left_of v)
    → MatchOption o ((w ≡ v) × Held 0 (IsTotal v)) (λ row. Drained v row w)
    → (w.sends ≡ true) × (w.takes ≡ true) × IsTotal w (left_of w)
    × MatchOption o ((left_of v ≡ []) × (left_of w ≡ [])) (λ row. left_of v ≡ row ∷ left_of w)
popped (Some row) v w a b total drained =
    let next = left_next v row w drained in
    (ap (λ u. u.sends) drained.0 ∙ a, ap (λ u. u.takes) drained.0 ∙ b, next.0, next.1)
popped None v w a b total same =
    let none : left_of v ≡ [] = left_is v same.1.0 same.1.2 ∙ none_left same.1.0 same.1.1 in
    rw same.0 (a, b, total, (none, none))
