-- The guard: range checks with the last good value held, and a limit on how long it may be held.
use Rattle.std.specs.Prelude.{ℕ, ℤ, pos, negsuc, ◌+◌, ◌-◌, ◌%◌, ◌^◌, List, [], ◌∷◌, ◌++◌, length}
use Rattle.std.specs.Prelude.{map, min, Option, None, Some, Result, Ok, Err, not, ◌==◌}
use Rattle.std.specs.Prelude.{if◌then◌else◌, nat_lt, nat_le}
use Rattle.std.proofs.Common.{lit≤}
use Rattle.std.specs.List.{range_with_len, flat_map}
use Rattle.job.specs.declared.job_results.Conclusion.{Conclusion}
use Rattle.job.specs.Meaning.{Meaning, ElementResult}
use Rattle.job_shared.specs.Params.{param, is_param, natural_param, few_events}
use Rattle.job_shared.proofs.Clamps.{natural_least, natural_most, events_few}
use Rattle.job_shared.specs.Samples.{all_newest, sample_of}
use Rattle.job_shared.specs.Bytes.{u16_bytes, u32_bytes, u64_bytes, i64_bytes}
use Rattle.jobs.specs.guard.Bounds.{contains}
use Rattle.jobs.specs.declared.guard.guard.Guard.{Guard}
use Rattle.jobs.specs.declared.guard.channel.Channel.{Channel}
use Rattle.jobs.specs.declared.guard.guard_job.Total.{Total}
use Rattle.jobs.specs.declared.guard.guard_job.Plan.{Plan}

-- parameters: 0 channels, 1 to 65,536; 1 low, -10^12 to 10^12; 2 high, low to 10^12; 3 limit, 1 to
-- 1,000; 4 most, 0 to 65,536
abbrev pub bad_param : List ℤ → ℕ → Option ℕ
bad_param ps events =
    if not (is_param ps 0 (pos 1) (pos 65536)) then Some 0
    else if not (is_param ps 1 (negsuc 999999999999) (pos 1000000000000)) then Some 1
    else if not (is_param ps 2 (param ps 1) (pos 1000000000000)) then Some 2
    else if not (is_param ps 3 (pos 1) (pos 1000)) then Some 3
    else if not (is_param ps 4 (pos 0) (pos 65536)) then Some 4
    else if nat_lt 5 (length ps) then Some 5
    else None

abbrev pub made : List ℤ → ℕ → Guard
made ps events = record {
  channels = natural_param ps 0 1 65536;
  bounds = record { low = param ps 1; high = param ps 2 };
  limit = natural_param ps 3 1 1000;
  most = natural_param ps 4 0 65536;
  events = few_events events;
  few = natural_most ps 0 1 65536 (lit≤ tt);
  positive = natural_least ps 3 1 1000;
  small = natural_most ps 3 1 1000 (lit≤ tt);
  bounded = natural_most ps 4 0 65536 (lit≤ tt);
  short = events_few events;
}

-- the event of channel i; 0 if there are no events
abbrev pub event_of : Guard → ℕ → ℕ
event_of j i = if j.events == 0 then 0 else i % j.events

abbrev pub first_channel : Guard → ℕ → Channel
first_channel j i = record { number = i; event = event_of j i; held = pos 0; streak = 0 }

abbrev pub first_channels : Guard → List Channel
first_channels j = map (first_channel j) (range_with_len 0 j.channels)

-- the reading of a channel: the newest sample of its event
abbrev pub reading : List (Option ℤ) → Channel → Option ℤ
reading samples e = sample_of samples e.event

-- a channel that keeps its value
abbrev pub corrected : Channel → ElementResult Channel (List ℕ)
corrected e = record { element = record e { streak = e.streak + 1 }; part = e.number ∷ [] }

-- a channel that holds a reading
abbrev pub holding : Channel → ℤ → ElementResult Channel (List ℕ)
holding e value = record { element = record e { held = value; streak = 0 }; part = [] }

-- A channel after a reading: without one it stays, and it holds one in range. Otherwise it is
-- corrected, or refuses at the correction in a row whose number is `limit`.
abbrev pub channel_after : Guard → Channel → Option ℤ → Result (ElementResult Channel (List ℕ)) ℕ
channel_after j e None = Ok (record { element = e; part = [] })
channel_after j e (Some value) =
    if contains j.bounds value then Ok (holding e value)
    else if nat_le j.limit (e.streak + 1) then Err 1
    else Ok (corrected e)

-- the left corrections first
abbrev pub joined : List ℕ → List ℕ → List ℕ
joined left right = left ++ right

-- 01 and the time, or 00
abbrev pub next_bytes : Option ℕ → List ℕ
next_bytes None = 0 ∷ []
next_bytes (Some time) = 1 ∷ u64_bytes time

abbrev pub output : ℕ → List ℕ → Option ℕ → List ℕ
output total corrections next =
    u64_bytes total ++ (u32_bytes (length corrections) ++
    (flat_map u32_bytes corrections ++ next_bytes next))

-- the sum, saturating at the greatest u64
abbrev pub total_after : Total → List ℕ → ℕ
total_after g part = min (g.corrections + length part) (2 ^ 64 - 1)

abbrev pub concluded : Guard → Total → Plan → List ℕ → Result (Conclusion Total) ℕ
concluded j g plan part =
    if nat_lt j.most (length part) then Err 2
    else Ok (record {
      globals = record { corrections = total_after g part };
      output = output (total_after g part) part plan.next;
    })

abbrev pub shown : Channel → List ℕ
shown e = u32_bytes e.number ++ (i64_bytes e.held ++ u16_bytes e.streak)

abbrev pub meaning : Meaning Guard Total Channel Plan (List ℕ)
meaning = record {
  bad_param = bad_param;
  made = made;
  events = λ j. j.events;
  started = λ j seed. record {
    globals = record { corrections = 0 };
    elements = first_channels j;
    seed = seed;
  };
  prepared = λ j globals es windows seed cycle time next. Ok
      (record { plan = record { samples = all_newest windows; next = next }; seed = seed });
  passes_of = λ j plan. 1;
  unit_part = λ j. [];
  worked = λ j plan carry pass e key. channel_after j e (reading plan.samples e);
  drawn = λ j plan carry pass e key. 0;
  joined = λ j left right. joined left right;
  concluded = λ j globals plan part. concluded j globals plan part;
  shown = λ j e. shown e;
}
