-- The start of an engine: its client gets to Init, and its job starts.
use Rattle.std.proofs.Common.{◌≡◌, ℕ, ℤ, ◌+◌, ◌^◌, ◌<◌, ◌≤◌, List, length, sym, ap, subst, ◌∙◌, arith}
use Rattle.std.specs.Prelude.{None, Some, Option, [], if◌then◌else◌}
use Rattle.std.specs.List.{All}
use Rattle.det_values.specs.Values.{ProfileValue, EventSpecValue}
use Rattle.job.specs.event_cache.Rings.{Rings}
use Rattle.job.specs.Meaning.{Meaning, JobStartValue}
use Rattle.cycle_engine.specs.Frames.{job_of, start_state, state_of, state_after_inputs}
use Rattle.det_client.specs.element_random.RandomStreams.{StandsFor, key}
use Rattle.det_client.specs.declared.activation.Activation.{Activation}
use Rattle.det_client.specs.declared.activation.Activation.TheVariants.{RegisterServices, ServiceDiscovery, Init}
use Rattle.det_client.specs.declared.activation.Next.TheVariants.{Go}
use Rattle.det_client.specs.State.{State, OwnAt, SameButSeed}
use Rattle.det_client.specs.Life.{Life, successor, next_activation, is_run, begins}
use Rattle.det_client.specs.Step.{Stepped}

-- a client in Init, at the beginning of its own stream, before any cycle
pub record IsInit (c : State) (its_seed its_time : ℕ) : Type 0 where
  pub last : c.last ≡ Some Init
  pub cycle : c.cycle ≡ 0
  pub seed : c.seed ≡ its_seed
  pub cycle_time : c.cycle_time ≡ its_time
  pub own : StandsFor c.own (key c.seed 0 255 0) 0

answered : (before after : State) (r : Activation) (last : Option Activation) → Stepped before (Go None) r after
    → before.last ≡ last → r ≡ successor last
answered before after r last s e = s.result_is ∙ ap (λ l. next_activation l (Go None)) e

counted : (before after : State) (r a : Activation) → Stepped before (Go None) r after → r ≡ a
    → after.cycle ≡ before.cycle + (if is_run a then 1 else 0)
counted before after r a s e = s.cycle ∙ ap (λ x. before.cycle + (if is_run x then 1 else 0)) e

-- three requests bring a new client there
pub comes-to-init : (c0 c1 c2 c3 c4 : State) (a b d : Activation) → Life c0 [] → SameButSeed c0 c1
    → Stepped c1 (Go None) a c2 → Stepped c2 (Go None) b c3 → Stepped c3 (Go None) d c4 → IsInit c4 c1.seed c0.cycle_time
comes-to-init c0 c1 c2 c3 c4 a b d life same s1 s2 s3 =
    let ea : a ≡ RegisterServices = answered c1 c2 a None s1 (same.last ∙ life.last) in
    let eb : b ≡ ServiceDiscovery = answered c2 c3 b (Some RegisterServices) s2 (s1.last ∙ ap Some ea) in
    let ed : d ≡ Init = answered c3 c4 d (Some ServiceDiscovery) s3 (s2.last ∙ ap Some eb) in
    let n1 : c2.cycle ≡ c1.cycle + 0 = counted c1 c2 a RegisterServices s1 ea in
    let n2 : c3.cycle ≡ c2.cycle + 0 = counted c2 c3 b ServiceDiscovery s2 eb in
    let n3 : c4.cycle ≡ c3.cycle + 0 = counted c3 c4 d Init s3 ed in
    let n0 : c1.cycle ≡ 0 = same.cycle ∙ life.cycle in
    let n : c4.cycle ≡ 0 = omega (arith, n0, n1, n2, n3) in
    let own : OwnAt c4 0 = s3.begun (ap begins ed) in
    record {
      last = s3.last ∙ ap Some ed;
      cycle = n;
      seed = s3.seed ∙ s2.seed ∙ s1.seed;
      cycle_time = s3.cycle_time ∙ s2.cycle_time ∙ s1.cycle_time ∙ same.cycle_time;
      own = rw n at own;
    }

module _ {S G E L P : Type 0} (m : Meaning S G E L P) (profile : ProfileValue) where
  -- a job of few events keeps their number, and so does a cache of these events
  pub events-made : (job : S) (cache : List Rings) (events : List EventSpecValue)
      → ((params : List ℤ) (n : ℕ) → n < 2 ^ 16 → m.events (m.made params n) ≡ n)
      → job ≡ job_of m profile → length cache ≡ length events → events ≡ profile.events → length cache ≤ 256
      → length cache ≡ m.events job
  events-made job cache events law made count same few =
      let n : length cache ≡ length profile.events = count ∙ ap length same in
      n ∙ sym (ap m.events made ∙ law profile.params (length profile.events) (omega arith))

  -- the globals and elements of a job's start are the state before the first cycle
  pub begins-run : (job : S) (seed : ℕ) (begun : JobStartValue G E) (elements : List E) → job ≡ job_of m profile → seed ≡ profile.seed
      → m.started job seed ≡ begun → elements ≡ begun.elements
      → start_state (record { globals = begun.globals; elements = elements; seed = begun.seed }) ≡ state_of m profile []
  unfolding state_after_inputs
  begins-run job seed begun elements made same gives held =
      (λ i. start_state (record { globals = begun.globals; elements = held i; seed = begun.seed }))
      ∙ ap start_state (sym gives ∙ ap (λ j. m.started j seed) made ∙ ap (m.started (job_of m profile)) same)

-- the same for equal values
pub all_own : {S E : Type 0} (Own : S → E → Type 0) (j k : S) (es fs : List E) → k ≡ j → fs ≡ es → All (Own j) es → All (Own k) fs
all_own {S} {E} Own j k es fs job elements own =
    subst (λ (l : S). All (Own l) fs) (sym job) (subst (λ (xs : List E). All (Own j) xs) (sym elements) own)
