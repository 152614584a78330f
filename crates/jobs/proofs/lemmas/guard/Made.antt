-- Good parameters, and the equality of two guards.
use Rattle.std.proofs.Common.{◌≡◌, ◌≤◌, ◌<◌, ℕ, ℤ, List, pos, negsuc, Bool, true, false, not, cond, Option, Some, None, length, ap, ◌∙◌}
use Rattle.std.proofs.Common.{arith}
use Rattle.std.proofs.Props.{props}
use mathlib.Core.HLevel.{is_prop→PathP}
use Rattle.std.specs.Prelude.{nat_lt}
use Rattle.std.proofs.lemmas.Bool.Decides.{nat_tests}
use Rattle.job_shared.specs.Params.{is_param, param}
use Rattle.jobs.specs.declared.guard.guard.Guard.{Guard}
use Rattle.jobs.specs.guard.Meaning.{bad_param}

-- all parameters are in range
pub record AreGood (ps : List ℤ) : Type 0 where
  pub channels : is_param ps 0 (pos 1) (pos 65536) ≡ true
  pub low : is_param ps 1 (negsuc 999999999999) (pos 1000000000000) ≡ true
  pub high : is_param ps 2 (param ps 1) (pos 1000000000000) ≡ true
  pub limit : is_param ps 3 (pos 1) (pos 1000) ≡ true
  pub most : is_param ps 4 (pos 0) (pos 65536) ≡ true

last_by : (a b c d e f : Bool) → a ≡ true → b ≡ true → c ≡ true → d ≡ true → e ≡ true
    → cond {A = Option ℕ} (not a) (Some 0) (cond (not b) (Some 1)
    (cond (not c) (Some 2) (cond (not d) (Some 3) (cond (not e) (Some 4) (cond f (Some 5) None))))) ≡ cond f (Some 5) None
last_by a b c d e f p q r s t = rw (p, q, r, s, t)

last : (ps : List ℤ) (events : ℕ) → AreGood ps → bad_param ps events ≡ cond (nat_lt 5 (length ps)) (Some 5) None
last ps events h = last_by _ _ _ _ _ (nat_lt 5 (length ps)) h.channels h.low h.high h.limit h.most

pub none_bad : (ps : List ℤ) (events : ℕ) → AreGood ps → length ps ≤ 5 → bad_param ps events ≡ None
none_bad ps events h few =
    let test : nat_lt 5 (length ps) ≡ false = grind (arith, nat_tests) in
    last ps events h ∙ ap (λ t. cond t (Some 5) None) test

pub surplus_bad : (ps : List ℤ) (events : ℕ) → AreGood ps → 5 < length ps → bad_param ps events ≡ Some 5
surplus_bad ps events h many =
    let test : nat_lt 5 (length ps) ≡ true = grind (arith, nat_tests) in
    last ps events h ∙ ap (λ t. cond t (Some 5) None) test

le-prop : (n m : ℕ) → IsProp (n ≤ m)
le-prop n m = hlevel props

pub same_guard : (a b : Guard) → a.channels ≡ b.channels → a.bounds ≡ b.bounds → a.limit ≡ b.limit → a.most ≡ b.most →
    a.events ≡ b.events → a ≡ b
same_guard a b c r l m e =
    let few = is_prop→PathP (λ i. c i ≤ 65536) (λ i. le-prop (c i) 65536) a.few b.few in
    let positive = is_prop→PathP (λ i. 1 ≤ l i) (λ i. le-prop 1 (l i)) a.positive b.positive in
    let small = is_prop→PathP (λ i. l i ≤ 1000) (λ i. le-prop (l i) 1000) a.small b.small in
    let bounded = is_prop→PathP (λ i. m i ≤ 65536) (λ i. le-prop (m i) 65536) a.bounded b.bounded in
    let short = is_prop→PathP (λ i. e i ≤ 65535) (λ i. le-prop (e i) 65535) a.short b.short in
    λ i. record {
      channels = c i;
      bounds = r i;
      limit = l i;
      most = m i;
      events = e i;
      few = few i;
      positive = positive i;
      small = small i;
      bounded = bounded i;
      short = short i;
    }
