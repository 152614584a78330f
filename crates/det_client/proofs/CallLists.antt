-- The effect of a further call on the list of calls that led to a client.
use Rattle.std.proofs.Common.{◌≡◌, ℕ, zero, suc, ◌+◌, List, [], ◌∷◌, ◌++◌, None, Bool, true, false, cond, refl, sym, ap, ◌∙◌, append_assoc}
use Rattle.std.proofs.Common.{arith, replicate, append-nil}
use Rattle.det_client.specs.element_random.RandomStreams.{StandsFor, key}
use Rattle.det_client.specs.declared.activation.Activation.{Activation}
use Rattle.det_client.specs.declared.activation.Activation.TheVariants.{RegisterServices, ServiceDiscovery, Init, Run, Terminate}
use Rattle.det_client.specs.declared.activation.Next.{Next}
use Rattle.det_client.specs.declared.activation.Next.TheVariants.{Go}
use Rattle.det_client.specs.State.{State, OwnAt, own_key, SameButSeed}
use Rattle.det_client.specs.Life.{Life, answer, cycle_of, is_run, begins}
use Rattle.det_client.specs.Step.{Stepped}
use Rattle.det_client.specs.Calls.{Call, requests, seed_after, seed_of, drawn_after, drawn_of, ComesFrom, calls_to_resume}
use Rattle.det_client.specs.Calls.Call.{waits, reseeds, draws}
use Rattle.det_client.proofs.RequestLists.{answered_step, life_step}
use Rattle.det_client.proofs.OwnStreams.{equal_places}

requests-append : (xs ys : List Call) → requests (xs ++ ys) ≡ requests xs ++ requests ys
requests-append [] ys = refl
requests-append (waits next ∷ xs) ys = ap (λ l. next ∷ l) (requests-append xs ys)
requests-append (reseeds seed ∷ xs) ys = requests-append xs ys
requests-append (draws ∷ xs) ys = requests-append xs ys

seed_after-append : (seed : ℕ) (xs ys : List Call) → seed_after seed (xs ++ ys) ≡ seed_after (seed_after seed xs) ys
seed_after-append seed [] ys = refl
seed_after-append seed (waits next ∷ xs) ys = seed_after-append seed xs ys
seed_after-append seed (reseeds other ∷ xs) ys = seed_after-append other xs ys
seed_after-append seed (draws ∷ xs) ys = seed_after-append seed xs ys

drawn_after-append : (given : List Next) (drawn : ℕ) (xs ys : List Call) →
    drawn_after given drawn (xs ++ ys) ≡ drawn_after (given ++ requests xs) (drawn_after given drawn xs) ys
drawn_after-append given drawn [] ys = ap (λ l. drawn_after l drawn ys) (sym (append-nil given))
drawn_after-append given drawn (waits next ∷ xs) ys =
    let n : ℕ = cond (begins (answer (given ++ next ∷ []))) 0 drawn in
    drawn_after-append (given ++ next ∷ []) n xs ys
    ∙ ap (λ l. drawn_after l (drawn_after (given ++ next ∷ []) n xs) ys) (append_assoc given (next ∷ []) (requests xs))
drawn_after-append given drawn (reseeds seed ∷ xs) ys = drawn_after-append given 0 xs ys
drawn_after-append given drawn (draws ∷ xs) ys = drawn_after-append given (drawn + 1) xs ys

requests-replicate : (n : ℕ) (x : Next) → requests (replicate n (waits x)) ≡ replicate n x
requests-replicate zero x = refl
requests-replicate (suc n) x = ap (λ l. x ∷ l) (requests-replicate n x)

begins_runs : (a : Activation) → begins a ≡ false → is_run a ≡ false
begins_runs RegisterServices h = refl
begins_runs ServiceDiscovery h = refl
begins_runs Init h = refl
begins_runs Run h = h
begins_runs Terminate h = refl

-- the same requests, and another count of numbers drawn
same_life : (before after : State) (given more : List Next) → SameButSeed before after → more ≡ given → Life before given → Life after more
same_life before after given more same e life = rw e (record {
  last = same.last ∙ life.last;
  cycle = same.cycle ∙ life.cycle;
  time = same.time ∙ life.time;
})

append-none : (xs : List Next) → xs ++ [] ≡ xs
append-none xs = append-nil xs

module _ {before after : State} {t : ℕ} (calls : List Call) (comes : ComesFrom before t calls) where
  pub comes_reseeded : (seed : ℕ) → SameButSeed before after → after.seed ≡ seed → OwnAt after 0 →
      ComesFrom after t (calls ++ reseeds seed ∷ [])
  comes_reseeded seed same is own = record {
    cycle_time = same.cycle_time ∙ comes.cycle_time;
    life = same_life before after (requests calls) _ same
        (requests-append calls (reseeds seed ∷ []) ∙ append-none (requests calls)) comes.life;
    seed = is ∙ sym (seed_after-append 0 calls (reseeds seed ∷ []));
    own = rw (drawn_after-append [] 0 calls (reseeds seed ∷ [])) own;
  }

  pub comes_drawn : SameButSeed before after → after.seed ≡ before.seed →
      ((k n : ℕ) → StandsFor before.own k n → StandsFor after.own k (n + 1)) → ComesFrom after t (calls ++ draws ∷ [])
  comes_drawn same is goes_on = record {
    cycle_time = same.cycle_time ∙ comes.cycle_time;
    life = same_life before after (requests calls) _ same (requests-append calls (draws ∷ []) ∙ append-none (requests calls)) comes.life;
    seed = is ∙ comes.seed ∙ sym (seed_after-append 0 calls (draws ∷ []));
    own = rw (drawn_after-append [] 0 calls (draws ∷ []), is, same.cycle) (goes_on (own_key before) (drawn_of calls) comes.own);
  }

  own_step : (next : Next) (result : Activation) (n : ℕ) (b : Bool) → Stepped before next result after → begins result ≡ b →
      OwnAt before n → OwnAt after (cond b 0 n)
  own_step next result n true s h own = s.begun h
  own_step next result n false s h own =
      let stays : after.cycle ≡ before.cycle = s.cycle ∙ ap (λ r. before.cycle + cond r 1 0) (begins_runs result h) ∙ omega arith in
      rw (s.goes_on h, s.seed, stays) own

  pub comes_waited : {next : Next} {result : Activation} → Stepped before next result after → ComesFrom after t (calls ++ waits next ∷ [])
  comes_waited {next} {result} s =
      let given : List Next = requests calls ++ next ∷ [] in
      let e : requests (calls ++ waits next ∷ []) ≡ given = requests-append calls (waits next ∷ []) in
      record {
        cycle_time = s.cycle_time ∙ comes.cycle_time;
        life = rw e (life_step s (requests calls) comes.life);
        seed = s.seed ∙ comes.seed ∙ sym (seed_after-append 0 calls (waits next ∷ []));
        own = rw (drawn_after-append [] 0 calls (waits next ∷ []))
            (own_step next result (drawn_of calls) (begins (answer given)) s
            (ap begins (answered_step s (requests calls) comes.life)) comes.own);
      }

-- a client after this number of cycles, with a seed set then
pub comes_resumed : (seed cycle : ℕ) (s : State) → s.seed ≡ seed → OwnAt s 0 → Life s (replicate (3 + cycle) (Go None)) →
    ComesFrom s s.cycle_time (calls_to_resume seed cycle)
comes_resumed seed cycle s is own life =
    let before : List Call = replicate (3 + cycle) (waits (Go None)) in
    let e : requests (before ++ reseeds seed ∷ []) ≡ replicate (3 + cycle) (Go None) =
    requests-append before (reseeds seed ∷ []) ∙ append-none (requests before) ∙ requests-replicate (3 + cycle) (Go None) in
    record {
      cycle_time = refl;
      life = rw e life;
      seed = is ∙ sym (seed_after-append 0 before (reseeds seed ∷ []));
      own = rw (drawn_after-append [] 0 before (reseeds seed ∷ [])) own;
    }
