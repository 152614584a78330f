-- The effect of a further request on the list of requests that led to a client.
use Rattle.std.proofs.Common.{◌≡◌, ℕ, zero, suc, ◌+◌, List, [], ◌∷◌, ◌++◌, length, Option, None, Some, Bool, true, false, cond, ◌||◌, refl}
use Rattle.std.proofs.Common.{sym, ap, ◌∙◌, append_assoc, length-append, add_assoc, arith, replicate, append-nil, eqb}
use Rattle.std.proofs.lemmas.List.{length-replicate}
use Rattle.std.proofs.lemmas.Bool.Decides.{nat_tests}
use Rattle.det_client.specs.declared.activation.Activation.{Activation}
use Rattle.det_client.specs.declared.activation.Activation.TheVariants.{Init, Run, Terminate}
use Rattle.det_client.specs.declared.activation.Next.{Next}
use Rattle.det_client.specs.declared.activation.Next.TheVariants.{Go, Stop}
use Rattle.det_client.specs.State.{State}
use Rattle.det_client.specs.Step.{Stepped}
use Rattle.det_client.specs.Life.{Life, is_stop, has_stop, activation, answer, is_run, runs_after, cycle_of, last_of, go_time, last_time}
use Rattle.det_client.specs.Life.{successor, next_activation}

has_stop-snoc_go : (xs : List Next) (t : Option ℕ) → has_stop (xs ++ Go t ∷ []) ≡ has_stop xs
has_stop-snoc_go [] t = refl
has_stop-snoc_go (x ∷ xs) t = ap (λ b. is_stop x || b) (has_stop-snoc_go xs t)

or_true : (b : Bool) → (b || true) ≡ true
or_true true = refl
or_true false = refl

has_stop-snoc_stop : (xs : List Next) → has_stop (xs ++ Stop ∷ []) ≡ true
has_stop-snoc_stop [] = refl
has_stop-snoc_stop (x ∷ xs) = ap (λ b. is_stop x || b) (has_stop-snoc_stop xs) ∙ or_true (is_stop x)

activation_after : (n : ℕ) → activation (suc (suc n)) ≡ successor (Some (activation (suc n)))
activation_after zero = refl
activation_after (suc zero) = refl
activation_after (suc (suc zero)) = refl
activation_after (suc (suc (suc n))) = refl

length-snoc : (xs : List Next) (x : Next) → length (xs ++ x ∷ []) ≡ suc (length xs)
length-snoc xs x = length-append xs (x ∷ []) ∙ omega arith

answered : (b : Bool) (n : ℕ) → cond b Terminate (activation (suc (suc n))) ≡ successor (Some (cond b Terminate (activation (suc n))))
answered true n = refl
answered false n = activation_after n

pub answer-snoc : (given : List Next) (x : Next) → answer (given ++ x ∷ []) ≡ next_activation (last_of given) x
answer-snoc given Stop = ap (λ b. cond b Terminate (activation (length (given ++ Stop ∷ [])))) (has_stop-snoc_stop given)
answer-snoc [] (Go t) = refl
answer-snoc (x ∷ xs) (Go t) =
    ap (λ b. cond b Terminate (activation (length ((x ∷ xs) ++ Go t ∷ [])))) (has_stop-snoc_go (x ∷ xs) t)
    ∙ ap (λ n. cond (has_stop (x ∷ xs)) Terminate (activation n)) (length-snoc (x ∷ xs) (Go t))
    ∙ answered (has_stop (x ∷ xs)) (length xs)

last_of-snoc : (given : List Next) (x : Next) → last_of (given ++ x ∷ []) ≡ Some (answer (given ++ x ∷ []))
last_of-snoc [] x = refl
last_of-snoc (y ∷ ys) x = refl

last_time-snoc : (given : List Next) (x : Next) → last_time (given ++ x ∷ []) ≡ go_time x
last_time-snoc [] x = refl
last_time-snoc (y ∷ []) x = refl
last_time-snoc (y ∷ z ∷ zs) x = last_time-snoc (z ∷ zs) x

runs_after-snoc : (before xs : List Next) (x : Next) →
    runs_after before (xs ++ x ∷ []) ≡ runs_after before xs + cond (is_run (answer ((before ++ xs) ++ x ∷ []))) 1 0
runs_after-snoc before [] x = rw append-nil (omega arith)
runs_after-snoc before (y ∷ xs) x =
    ap (λ n. cond (is_run (answer (before ++ y ∷ []))) 1 0 + n)
    (runs_after-snoc (before ++ y ∷ []) xs x
    ∙ ap (λ b. runs_after (before ++ y ∷ []) xs + cond (is_run (answer (b ++ x ∷ []))) 1 0) (append_assoc before (y ∷ []) xs))
    ∙ sym (add_assoc (cond (is_run (answer (before ++ y ∷ []))) 1 0) (runs_after (before ++ y ∷ []) xs)
    (cond (is_run (answer ((before ++ y ∷ xs) ++ x ∷ []))) 1 0))

has_stop-replicate : (n : ℕ) → has_stop (replicate n (Go None)) ≡ false
has_stop-replicate zero = refl
has_stop-replicate (suc n) = has_stop-replicate n

last_time-replicate : (n : ℕ) → last_time (replicate n (Go None)) ≡ None
last_time-replicate zero = refl
last_time-replicate (suc zero) = refl
last_time-replicate (suc (suc n)) = last_time-replicate (suc n)

replicate-snoc : (n : ℕ) (x : Next) → replicate (suc n) x ≡ replicate n x ++ x ∷ []
replicate-snoc zero x = refl
replicate-snoc (suc n) x = ap (λ xs. x ∷ xs) (replicate-snoc n x)

answer-replicate : (n : ℕ) → answer (replicate n (Go None)) ≡ activation n
answer-replicate n = rw (has_stop-replicate n) (ap activation (length-replicate n (Go None)))

cycle_of-replicate : (c : ℕ) → cycle_of (replicate (suc (suc (suc c))) (Go None)) ≡ c
cycle_of-replicate zero = refl
cycle_of-replicate (suc c) =
    ap cycle_of (replicate-snoc (suc (suc (suc c))) (Go None))
    ∙ runs_after-snoc [] (replicate (suc (suc (suc c))) (Go None)) (Go None)
    ∙ ap (λ n. n + cond (is_run (answer (replicate (suc (suc (suc c))) (Go None) ++ Go None ∷ []))) 1 0) (cycle_of-replicate c)
    ∙ ap (λ xs. c + cond (is_run (answer xs)) 1 0) (sym (replicate-snoc (suc (suc (suc c))) (Go None)))
    ∙ ap (λ a. c + cond (is_run a) 1 0) (answer-replicate (suc (suc (suc (suc c)))))
    ∙ omega arith

resumed_last : (c : ℕ) → cond (eqb c 0) Init Run ≡ activation (suc (suc (suc c)))
resumed_last zero = refl
resumed_last (suc c) = let e : eqb (suc c) 0 ≡ false = grind (arith, nat_tests) in rw e refl

cond_none : (b : Bool) (t : Option ℕ) → cond b t t ≡ t
cond_none true t = refl
cond_none false t = refl

-- a client after `Go(None)` three times and c times more
pub resumed_life : (c : ℕ) (s : State) → s.last ≡ Some (cond (eqb c 0) Init Run) → s.cycle ≡ c → s.time ≡ None →
    Life s (replicate (3 + c) (Go None))
resumed_life c s last cycle time =
    let e : 3 + c ≡ suc (suc (suc c)) = omega arith in
    let n = suc (suc (suc c)) in
    rw e (record {
      last = last ∙ ap Some (resumed_last c ∙ sym (answer-replicate n));
      cycle = cycle ∙ sym (cycle_of-replicate c);
      time = time
          ∙ sym (ap (λ t. cond (is_run (answer (replicate n (Go None)))) t None) (last_time-replicate n)
          ∙ cond_none (is_run (answer (replicate n (Go None)))) None);
    })

module _ {before after : State} {next : Next} {result : Activation}
    (s : Stepped before next result after) (given : List Next) (life : Life before given) where
  pub answered_step : result ≡ answer (given ++ next ∷ [])
  answered_step = s.result_is ∙ ap (λ l. next_activation l next) life.last ∙ sym (answer-snoc given next)

  pub life_step : Life after (given ++ next ∷ [])
  life_step = record {
    last = s.last ∙ ap Some answered_step ∙ sym (last_of-snoc given next);
    cycle = s.cycle ∙ ap (λ n. n + cond (is_run result) 1 0) life.cycle ∙ ap (λ a. cycle_of given + cond (is_run a) 1 0) answered_step
        ∙ sym (runs_after-snoc [] given next);
    time = s.time ∙ ap (λ a. cond (is_run a) (go_time next) None) answered_step
        ∙ ap (λ t. cond (is_run (answer (given ++ next ∷ []))) t None) (sym (last_time-snoc given next));
  }
