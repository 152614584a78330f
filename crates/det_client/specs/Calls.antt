-- The effect of a list of calls on a client: its requests, its seed, and the position of its own
-- stream.
use Rattle.std.specs.Prelude.{◌≡◌, ℕ, ◌+◌, List, [], ◌∷◌, ◌++◌, None, if◌then◌else◌, replicate}
use Rattle.det_client.specs.element_random.RandomStreams.{key, word}
use Rattle.det_client.specs.declared.activation.Next.{Next}
use Rattle.det_client.specs.declared.activation.Next.TheVariants.{Go}
use Rattle.det_client.specs.State.{State, OwnAt}
use Rattle.det_client.specs.Life.{Life, answer, cycle_of, begins}

-- a call that changes a client: it requests an activation, sets the seed or draws a random number
pub data Call : Type 0 where
  waits : Next → Call
  reseeds : ℕ → Call
  draws : Call

-- the requests for activations among these calls
abbrev pub requests : List Call → List Next
requests [] = []
requests (waits next ∷ calls) = next ∷ requests calls
requests (reseeds seed ∷ calls) = requests calls
requests (draws ∷ calls) = requests calls

-- the seed after these calls, if it was `seed` before
abbrev pub seed_after : ℕ → List Call → ℕ
seed_after seed [] = seed
seed_after seed (waits next ∷ calls) = seed_after seed calls
seed_after seed (reseeds other ∷ calls) = seed_after other calls
seed_after seed (draws ∷ calls) = seed_after seed calls

-- the seed of a client after these calls
abbrev pub seed_of : List Call → ℕ
seed_of calls = seed_after 0 calls

-- The count of numbers drawn since the own stream restarted, if `given` requests and `drawn`
-- numbers came before these calls. The activations Init and Run and a new seed restart it.
abbrev pub drawn_after : List Next → ℕ → List Call → ℕ
drawn_after given drawn [] = drawn
drawn_after given drawn (waits next ∷ calls) =
    drawn_after (given ++ next ∷ [])
    (if begins (answer (given ++ next ∷ [])) then 0 else drawn) calls
drawn_after given drawn (reseeds seed ∷ calls) = drawn_after given 0 calls
drawn_after given drawn (draws ∷ calls) = drawn_after given (drawn + 1) calls

-- the count of numbers drawn since the own stream of a client with these calls restarted
abbrev pub drawn_of : List Call → ℕ
drawn_of calls = drawn_after [] 0 calls

-- the next random number of the own stream of a client after these calls
abbrev pub own_word : List Call → ℕ
own_word calls = word (key (seed_of calls) (cycle_of (requests calls)) 255 0) (drawn_of calls)

-- a client is a new one of the cycle time t after exactly these calls
pub record ComesFrom (c : State) (t : ℕ) (calls : List Call) : Type 0 where
  pub cycle_time : c.cycle_time ≡ t
  pub life : Life c (requests calls)
  pub seed : c.seed ≡ seed_of calls
  pub own : OwnAt c (drawn_of calls)

-- the calls that bring a new client into this cycle, and then set its seed
abbrev pub calls_to_resume : ℕ → ℕ → List Call
calls_to_resume seed cycle = replicate (3 + cycle) (waits (Go None)) ++ reseeds seed ∷ []
