-- The functions that define the list job.
use Rattle.std.specs.Prelude.{ℕ, ◌≤◌, ◌%◌, ◌==◌, cond, ltb, if◌then◌else◌, List, [], ◌∷◌, ◌++◌}
use Rattle.std.specs.Prelude.{length, None, Result, Ok, Err}
use Rattle.det_client.specs.element_random.RandomStreams.{word}
use Rattle.job.specs.Meaning.{Meaning, ElementResult}
use Rattle.thread_tests.specs.declared.pool_tests.list_job.ListJob.{ListJob}
use Rattle.job_heavy.specs.declared.heavy_job.NoGlobals.{NoGlobals}
use Rattle.job_heavy.specs.declared.heavy_job.NoPlan.{NoPlan}

-- an even byte, or a random one
abbrev pub byte_after : ℕ → ℕ → ℕ
byte_after byte key = if byte % 2 == 0 then byte else word key 0 % 256

abbrev pub worked : ListJob → ℕ → ℕ → Result (ElementResult ℕ (List ℕ)) ℕ
worked j e key = cond (ltb e j.limit) (Ok (record { element = byte_after e key; part = e ∷ [] }))
    (Err e)

abbrev pub drawn : ListJob → ℕ → ℕ
drawn j e = cond (ltb e j.limit) (e % 2) 0

abbrev pub meaning : Meaning ListJob NoGlobals ℕ NoPlan (List ℕ)
meaning = record {
  bad_param = λ params events. None;
  made = λ params events. record { limit = 256; watch = None; events = events };
  events = λ j. j.events;
  started = λ j seed. record { globals = record {}; elements = []; seed = seed };
  prepared = λ j globals es windows seed cycle time next. Ok
      (record { plan = record {}; seed = seed });
  passes_of = λ j plan. 1;
  unit_part = λ j. [];
  worked = λ j plan carry pass e key. worked j e key;
  drawn = λ j plan carry pass e key. drawn j e;
  joined = λ j left right. left ++ right;
  concluded = λ j globals plan part. Ok (record { globals = record {}; output = [] });
  shown = λ j e. e ∷ [];
}

abbrev pub Covers : ListJob → List ℕ → ℕ → Type 0
Covers j part n = (length part ≤ n) × (n ≤ 65536)

-- every byte is the job's own, and every plan is fit
abbrev pub Own : ListJob → ℕ → Type 0
Own j e = Unit {0}

abbrev pub Fit : ListJob → NoPlan → Type 0
Fit j plan = Unit {0}
