-- The filter bank: a first-order low-pass filter per channel, which moves a level towards the
-- newest sample of the channel's event.
use Rattle.std.specs.Prelude.{ℕ, ℤ, pos, ◌%◌, ◌+ℤ◌, List, ◌++◌, length, map, Option, None, Some, Ok}
use Rattle.std.specs.Prelude.{not, if◌then◌else◌, nat_lt, nat_le, unwrap_or}
use Rattle.std.proofs.Common.{lit≤}
use Rattle.std.specs.List.{range_with_len}
use Rattle.std.specs.Int.{int_min, int_max}
use Rattle.job.specs.Meaning.{Meaning, ElementResult}
use Rattle.job_shared.specs.Params.{is_param, natural_param, few_events}
use Rattle.job_shared.proofs.Clamps.{natural_most, events_few}
use Rattle.job_shared.specs.Parts.{joined_by}
use Rattle.job_shared.specs.Samples.{all_newest, sample_of}
use Rattle.job_shared.specs.Bytes.{u16_bytes, i64_bytes}
use Rattle.job_shared.specs.Filter.{step_towards}
use Rattle.jobs.specs.declared.bank.bank.Bank.{Bank}
use Rattle.jobs.specs.declared.bank.channel.Channel.{Channel}
use Rattle.jobs.specs.declared.bank.summary.Summary.{Summary}
use Rattle.jobs.specs.declared.bank.bank_job.NoGlobals.{NoGlobals}

-- parameters: 0 channels, 1 to 65,536; 1 shift, 0 to 16
abbrev pub bad_param : List ℤ → ℕ → Option ℕ
bad_param ps events =
    if not (is_param ps 0 (pos 1) (pos 65536)) then Some 0
    else if not (is_param ps 1 (pos 0) (pos 16)) then Some 1
    else if nat_lt 2 (length ps) then Some 2
    else None

abbrev pub made : List ℤ → ℕ → Bank
made ps events = record {
  channels = natural_param ps 0 1 65536;
  shift = natural_param ps 1 0 16;
  events = few_events events;
  few = natural_most ps 0 1 65536 (lit≤ tt);
  small = natural_most ps 1 0 16 (lit≤ tt);
  short = events_few events;
}

-- the event of channel i; 0 if there are fewer than two
abbrev pub event_of : Bank → ℕ → ℕ
event_of j i = if nat_le 2 j.events then i % j.events else 0

abbrev pub first_channel : Bank → ℕ → Channel
first_channel j i = record { event = event_of j i; level = pos 0 }

abbrev pub first_channels : Bank → List Channel
first_channels j = map (first_channel j) (range_with_len 0 j.channels)

-- a level after one step towards a target; without a target it stays
abbrev pub level_after : Option ℤ → ℤ → ℕ → ℤ
level_after None level shift = level
level_after (Some target) level shift = step_towards level target shift

abbrev pub new_level : Bank → List (Option ℤ) → Channel → ℤ
new_level j plan e = level_after (sample_of plan e.event) e.level j.shift

abbrev pub summary_of : ℤ → Summary
summary_of level = record { sum = level; least = level; greatest = level }

abbrev pub gives : Channel → ElementResult Channel (Option Summary)
gives e = record { element = e; part = Some (summary_of e.level) }

abbrev pub worked : Bank → List (Option ℤ) → Channel → ElementResult Channel (Option Summary)
worked j plan e = gives (record e { level = new_level j plan e })

-- the summary of the channels of both
abbrev pub both : Summary → Summary → Summary
both left right = record {
  sum = left.sum +ℤ right.sum;
  least = int_min left.least right.least;
  greatest = int_max left.greatest right.greatest;
}

abbrev pub summary_bytes : Summary → List ℕ
summary_bytes s = i64_bytes s.sum ++ i64_bytes s.least ++ i64_bytes s.greatest

-- all 0 if there is no channel
abbrev pub output : Option Summary → List ℕ
output part = summary_bytes (unwrap_or part (summary_of (pos 0)))

-- if there are several events, the event too
abbrev pub shown : Bank → Channel → List ℕ
shown j e = if nat_le 2 j.events then u16_bytes e.event ++ i64_bytes e.level else i64_bytes e.level

abbrev pub meaning : Meaning Bank NoGlobals Channel (List (Option ℤ)) (Option Summary)
meaning = record {
  bad_param = bad_param;
  made = made;
  events = λ j. j.events;
  started = λ j seed. record { globals = record {}; elements = first_channels j; seed = seed };
  prepared = λ j globals es windows seed cycle time next.
      Ok (record { plan = all_newest windows; seed = seed });
  passes_of = λ j plan. 1;
  unit_part = λ j. None;
  worked = λ j plan carry pass e key. Ok (worked j plan e);
  drawn = λ j plan carry pass e key. 0;
  joined = λ j left right. joined_by both left right;
  concluded = λ j globals plan part. Ok (record { globals = record {}; output = output part });
  shown = shown;
}
