-- The struct of a header, as a profile.
use Rattle.std.specs.Prelude.{map, take}
use Rattle.det_values.specs.Values.{ProfileValue}
use Rattle.c_types.specs.declared.profile.DetHeader.{DetHeader}
use Rattle.c_types.specs.CValues.{event_of}
use Rattle.c_types.specs.Places.{format_of}

abbrev pub profile_in : DetHeader → ProfileValue
profile_in h = record {
  format = format_of h.format;
  job = h.profile.job;
  seed = h.profile.seed;
  cycle_time = h.profile.cycle_time;
  params = take h.param_count h.params;
  events = map event_of (take h.event_count h.events);
}
