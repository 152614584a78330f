-- Exit statuses, and what they say of a verdict.
use Rattle.std.proofs.Common.{◌≡◌, ◌<◌, ◌≤◌, ℕ, zero, suc, ◌+◌, List, [], ◌∷◌, length, take, drop, get_or, nat_eq, cond}
use Rattle.std.proofs.Common.{Bool, true, false, refl, sym, ap, ◌∙◌, subst, arith}
use Rattle.std.specs.Prelude.{Option, Some, None, IfSome}
use Rattle.std.specs.Option.{option_map, option_or, is_some}
use Rattle.std.proofs.Math.Seq.{drop-cons}
use Rattle.copies.specs.declared.verdict.Verdict.TheVariants.{Agree}
use Rattle.lane.specs.declared.lane_answer.LaneAnswer.{LaneAnswer}
use Rattle.lane.specs.declared.lane_answer.LaneAnswer.TheVariants.{ChildFailed, SpawnFault}
use Rattle.lane.specs.VerdictOrAnswer.{failure_of, known_statuses, unless}
use Rattle.lane.specs.Outcome.{first_failed, agreed}
use Rattle.lane.specs.Watched.{found_outcome}

-- ---- the loop over the statuses

-- what was found so far, and what the rest say
abbrev pub joined : Option LaneAnswer → ℕ → Option (List ℕ) → Option LaneAnswer
joined first child None = Some SpawnFault
joined first child (Some statuses) = option_or first (first_failed child statuses)

or-failed : (first : Option LaneAnswer) (child status : ℕ) (more : List ℕ)
    → option_or first (first_failed child (status ∷ more))
    ≡ option_or (option_or first (failure_of child (Some status))) (first_failed (child + 1) more)
or-failed (Some a) child status more = refl
or-failed None child status more = by (nat_eq status 0)
  where
    by : (b : Bool) → cond b (first_failed (child + 1) more) (Some (ChildFailed child status))
        ≡ option_or (cond b None (Some (ChildFailed child status))) (first_failed (child + 1) more)
    by true = refl
    by false = refl

joined-next : (first : Option LaneAnswer) (child status : ℕ) (more : Option (List ℕ))
    → joined first child (option_map (λ rest. status ∷ rest) more)
    ≡ joined (option_or first (failure_of child (Some status))) (child + 1) more
joined-next first child status None = refl
joined-next first child status (Some more) = or-failed first child status more

-- one status more that is known
joined-step : (first : Option LaneAnswer) (child : ℕ) (status : Option ℕ) (more : List (Option ℕ)) → is_some status ≡ true
    → joined first child (known_statuses (status ∷ more)) ≡ joined (option_or first (failure_of child status)) (child + 1) (known_statuses
    more)
joined-step first child None more e = absurd cc
joined-step first child (Some s) more e = joined-next first child s (known_statuses more)

pub joined-walk : (statuses : List (Option ℕ)) (first next found : Option LaneAnswer) (child : ℕ) → child < length statuses
    → is_some (get_or statuses child None) ≡ true → found ≡ failure_of child (get_or statuses child None) → next ≡ option_or first found
    → joined first child (known_statuses (drop child statuses)) ≡ joined None 0 (known_statuses statuses)
    → joined next (child + 1) (known_statuses (drop (child + 1) statuses)) ≡ joined None 0 (known_statuses statuses)
joined-walk statuses first next found child h some is by walked =
    let status : Option ℕ = get_or statuses child None in
    let one : suc child ≡ child + 1 = omega arith in
    let rest : drop child statuses ≡ status ∷ drop (child + 1) statuses =
    drop-cons statuses child None h ∙ ap (λ m. status ∷ drop m statuses) one in
    ap (λ (o : Option LaneAnswer). joined o (child + 1) (known_statuses (drop (child + 1) statuses))) (by ∙ ap (option_or first) is)
    ∙ sym (joined-step first child status (drop (child + 1) statuses) some)
    ∙ ap (λ (l : List (Option ℕ)). joined first child (known_statuses l)) (sym rest) ∙ walked

-- ---- what is known

-- where all are known, they are what each of them is
pub known_statuses-are : (f : ℕ → ℕ) (k n : ℕ) (ends : List (Option ℕ)) (all : List ℕ) (listed : (k n : ℕ) → List ℕ)
    → ((k : ℕ) → listed k zero ≡ []) → ((k n : ℕ) → listed k (suc n) ≡ f k ∷ listed (k + 1) n)
    → n ≤ length ends → ((j : ℕ) → j < n → IfSome (get_or ends j None) (λ s. s ≡ f (k + j)))
    → known_statuses (take n ends) ≡ Some all → all ≡ listed k n
known_statuses-are f k zero ends all listed none more h each e = cc (none k)
known_statuses-are f k (suc n) [] all listed none more h each e = absurd (omega arith)
known_statuses-are f k (suc n) (None ∷ ends) all listed none more h each e = absurd cc
known_statuses-are f k (suc n) (Some s ∷ ends) all listed none more h each e =
    let moved : (j : ℕ) → j < n → IfSome (get_or ends j None) (λ s. s ≡ f (k + 1 + j)) =
    (λ j below. let same : k + suc j ≡ k + 1 + j = omega arith in
    subst (λ m. IfSome (get_or ends j None) (λ s. s ≡ f m)) same (each (suc j) (omega arith))) in
    split (known_statuses (take n ends)) e (λ rest is. known_statuses-are f (k + 1) n ends rest listed none more (omega arith) moved is)
    refl
  where
    split : (o : Option (List ℕ)) → option_map (λ rest. s ∷ rest) o ≡ Some all
        → ((rest : List ℕ) → known_statuses (take n ends) ≡ Some rest → rest ≡ listed (k + 1) n) → known_statuses (take n ends) ≡ o
        → all ≡ listed k (suc n)
    split None e tail is = absurd cc
    split (Some rest) e tail is =
        let same : k + zero ≡ k = omega arith in
        let head : s ≡ f k = each zero (omega arith) ∙ ap f same in
        let all-is : s ∷ rest ≡ all = cc in
        sym all-is ∙ ap (λ x. x ∷ rest) head ∙ ap (λ l. f k ∷ l) (tail rest is) ∙ sym (more k n)

-- where not all are known, one of them isn't
pub unknown-one : (n : ℕ) (ends : List (Option ℕ)) → n ≤ length ends → known_statuses (take n ends) ≡ None
    → (j : ℕ) × (j < n) × (get_or ends j None ≡ None)
unknown-one zero ends h e = absurd cc
unknown-one (suc n) [] h e = absurd (omega arith)
unknown-one (suc n) (None ∷ ends) h e = (zero, omega arith, refl)
unknown-one (suc n) (Some s ∷ ends) h e = split (known_statuses (take n ends)) e (λ is. unknown-one n ends (omega arith) is) refl
  where
    split : (o : Option (List ℕ)) → option_map (λ rest. s ∷ rest) o ≡ None
        → (known_statuses (take n ends) ≡ None → (j : ℕ) × (j < n) × (get_or ends j None ≡ None)) → known_statuses (take n ends) ≡ o
        → (j : ℕ) × (j < suc n) × (get_or (Some s ∷ ends) j None ≡ None)
    split None e later is = let one = later is in (suc one.0, let b = one.1 in omega arith, one.2)
    split (Some rest) e later is = absurd cc

-- ---- what a child that failed is told as

-- the first child that failed is reported as failed
pub child-failed : (child : ℕ) (statuses : List ℕ) (answer : LaneAnswer) → first_failed child statuses ≡ Some answer
    → (k : ℕ) × (status : ℕ) × (answer ≡ ChildFailed k status)
child-failed child [] answer e = absurd cc
child-failed child (status ∷ more) answer e = by (nat_eq status 0) e (child-failed (child + 1) more answer)
  where
    by : (b : Bool) → cond b (first_failed (child + 1) more) (Some (ChildFailed child status)) ≡ Some answer
        → (first_failed (child + 1) more ≡ Some answer → (k : ℕ) × (s : ℕ) × (answer ≡ ChildFailed k s))
        → (k : ℕ) × (s : ℕ) × (answer ≡ ChildFailed k s)
    by true e later = later e
    by false e later = (child, status, cc)

-- copies agree, or the first child that failed is reported
pub found-unless : (failure : Option LaneAnswer) (cycles : ℕ) → found_outcome (unless failure (Agree cycles)) ≡ agreed failure cycles
found-unless None cycles = refl
found-unless (Some a) cycles = refl
