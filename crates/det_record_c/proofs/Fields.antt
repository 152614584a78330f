-- Spellings and ranges of the items that sound values of C describe.
use Rattle.std.proofs.Common.{◌≡◌, ℕ, ℤ, ◌<◌, ◌≤◌, ◌^◌, List, ◌∷◌, ◌++◌, length, map, refl, sym, ap, subst, ◌∙◌, append_assoc, arith, FitsSigned}
use Rattle.std.specs.Int.{w64}
use Rattle.std.specs.List.{flat_map, All}
use Rattle.std.proofs.lemmas.List.{length-map}
use Rattle.std.proofs.lemmas.List.Elements.{All-map}
use Rattle.det_values.specs.declared.format.Format.{Format}
use Rattle.det_values.specs.declared.format.Format.TheVariants.{One, Two}
use Rattle.det_values.specs.declared.event.Policy.TheVariants.{Last}
use Rattle.det_values.specs.declared.frames.CycleInput.{CycleInput}
use Rattle.det_values.specs.declared.frames.DrawnElement.{DrawnElement}
use Rattle.det_values.specs.declared.frames.Outcome.TheVariants.{Finished, Refused}
use Rattle.det_values.specs.declared.frames.Frame.TheVariants as frames
use Rattle.det_values.specs.Limits.{KnowsPolicies}
use Rattle.det_values.specs.Spelling as flat
use Rattle.record_grammar.specs.Spelling.{AreBytes, spelled_u16, spelled_u32, spelled_u64, spelled_element, IsElement, spelled_drawn, IsDrawn}
use Rattle.record_grammar.specs.Spelling.{spelled_frame, IsFrame, IsTime, IsSample, IsInput, IsHeader, IsEvent, spelled_numbers, spelled_header, spelled_params, spelled_events, version, magic}
use Rattle.c_types.specs.declared.cycle.DetSample.{DetSample}
use Rattle.c_types.specs.declared.cycle.DetElement.{DetElement}
use Rattle.c_types.specs.declared.cycle.DetTime.{DetTime}
use Rattle.c_types.specs.declared.cycle.DetRefusal.{DetRefusal}
use Rattle.c_types.specs.declared.profile.DetProfile.{DetProfile}
use Rattle.c_types.specs.declared.profile.DetEvent.{DetEvent}
use Rattle.c_types.specs.CValues.{bytes_of, event_of, sample_of, time_of, input_of, place_of_refusal}
use Rattle.c_types.specs.Ranges.{AreSoundSamples, IsSoundFinish, IsSoundRefusal}
use Rattle.det_record_c.specs.Items.{profile_in, element_in, drawn_in}
use Rattle.det_record_c.specs.Parts.{HasPolicies, IsSoundIn}
use Rattle.det_record_c.specs.Puts.{Puts}
use Rattle.det_record_c.specs.Runs.{opening_of, closing_of}
use Rattle.det_record_c.proofs.Putting.{puts_then, puts_as}

-- ---- elements

two_spelled : (bytes : List ℕ) (draws : ℕ) → spelled_element bytes ++ spelled_u32 draws ≡ spelled_drawn Two (element_in Two bytes draws)
unfolding flat.spelled_drawn
two_spelled bytes draws = append_assoc (spelled_u16 (length bytes)) bytes (spelled_u32 draws)

pub drawn_two : (format : Format) (at draws to end : ℕ) (bytes old mid new : List ℕ) → format ≡ Two
    → Puts at (spelled_element bytes) old to mid → Puts to (spelled_u32 draws) mid end new
    → Puts at (spelled_drawn format (element_in format bytes draws)) old end new
drawn_two format at draws to end bytes old mid new is p q =
    subst (λ (f : Format). Puts at (spelled_drawn f (element_in f bytes draws)) old end new) (sym is)
    (puts_as at _ _ old new end (two_spelled bytes draws)
    (puts_then at (spelled_element bytes) (spelled_u32 draws) old mid new to end p q))

pub drawn_fields : (format : Format) (bytes : List ℕ) (draws : ℕ) → IsElement bytes → draws < 2 ^ 32
    → IsDrawn format (element_in format bytes draws)
drawn_fields One bytes draws h d = (h, omega arith, refl)
drawn_fields Two bytes draws h d = (h, d, tt)

pub puts_drawn : (kept format : Format) (at draws end : ℕ) (bytes old new : List ℕ) → kept ≡ format
    → Puts at (spelled_drawn kept (element_in kept bytes draws)) old end new
    → Puts at (spelled_drawn format (element_in format bytes draws)) old end new
puts_drawn kept format at draws end bytes old new same p =
    subst (λ (f : Format). Puts at (spelled_drawn f (element_in f bytes draws)) old end new) same p

pub drawn_from : (format : Format) (bytes : List ℕ) (e : DetElement) → bytes ≡ bytes_of e
    → element_in format bytes e.draws ≡ drawn_in format e
drawn_from format bytes e is = ap (λ (xs : List ℕ). element_in format xs e.draws) is

-- ---- frames

pub cycle_spelled : (format : Format) (input : CycleInput) (elements : List DrawnElement) (output : List ℕ)
    → opening_of input (length elements) ++ (flat_map (spelled_drawn format) elements ++ closing_of output)
    ≡ spelled_frame format (frames.Run (record { input = input; outcome = Finished elements output }))
unfolding spelled_frame
cycle_spelled format input elements output =
    ap (λ (xs : List ℕ). 4 ∷ xs)
    (append_assoc _ (0 ∷ spelled_u32 (length elements)) (flat_map (spelled_drawn format) elements ++ closing_of output))

pub finished_puts : (kept format : Format) (time : DetTime) (samples : List DetSample) (elements : List DetElement) (output old new : List ℕ)
    (end : ℕ) → kept ≡ format
    → Puts 0 (opening_of (input_of time samples) (length elements)
    ++ (flat_map (spelled_drawn kept) (map (drawn_in kept) elements) ++ closing_of output)) old end new
    → Puts 0 (spelled_frame format (frames.Run (record {
      input = input_of time samples;
      outcome = Finished (map (drawn_in format) elements) output;
    }))) old end new
finished_puts kept format time samples elements output old new end same p =
    let drawn : List DrawnElement = map (drawn_in format) elements in
    let n : length elements ≡ length drawn = sym (length-map elements (drawn_in format)) in
    puts_as 0 _ _ old new end
    (ap (λ (k : ℕ). opening_of (input_of time samples) k ++ (flat_map (spelled_drawn format) drawn ++ closing_of output)) n
    ∙ cycle_spelled format (input_of time samples) drawn output)
    (subst (λ (f : Format). Puts 0 (opening_of (input_of time samples) (length elements)
    ++ (flat_map (spelled_drawn f) (map (drawn_in f) elements) ++ closing_of output)) old end new) same p)

-- ---- ranges

few_mapped : {X Y : Type 0} (f : X → Y) (xs : List X) (n : ℕ) → length xs ≤ n → length (map f xs) ≤ n
few_mapped f xs n few = omega (arith, few, length-map xs f)

pub input_fields : (events : ℕ) (time : DetTime) (samples : List DetSample) → IsTime (time_of time) → AreSoundSamples events samples
    → IsInput events (input_of time samples)
input_fields events time samples t s =
    (t, few_mapped sample_of samples 4096 s.0, All-map (IsSample events) sample_of samples s.1)

pub finished_fields : (kept format : Format) (events : ℕ) (time : DetTime) (samples : List DetSample) (elements : List DetElement)
    (output : List ℕ)
    → kept ≡ format → IsTime (time_of time) → All (IsDrawn kept) (map (drawn_in kept) elements) → AreBytes output
    → IsSoundFinish events samples elements output
    → IsFrame format events (frames.Run (record {
      input = input_of time samples;
      outcome = Finished (map (drawn_in format) elements) output;
    }))
unfolding IsFrame
finished_fields kept format events time samples elements output same t e o s = (
  input_fields events time samples t s.samples,
  (
    few_mapped (drawn_in format) elements 65536 s.elements.0,
    subst (λ (f : Format). All (IsDrawn f) (map (drawn_in f) elements)) same e,
    (s.output, o),
  ),
)

pub refused_fields : (format : Format) (events : ℕ) (time : DetTime) (samples : List DetSample) (refusal : DetRefusal)
    → IsTime (time_of time) → refusal.code < 2 ^ 32 → IsSoundRefusal events samples refusal
    → IsFrame format events (frames.Run (record { input = input_of time samples; outcome = Refused (place_of_refusal refusal) }))
unfolding IsFrame
refused_fields format events time samples refusal t c s = (input_fields events time samples t s.samples, (s.place.1, c))

policies_known : (format : Format) (events : List DetEvent) → HasPolicies format events → KnowsPolicies format (map event_of events)
policies_known One events h = All-map (λ e. e.policy ≡ Last) event_of events h
policies_known Two events h = tt

pub header_fields : (format : Format) (profile : DetProfile) (params : List ℤ) (events : List DetEvent)
    → profile.job < 2 ^ 16 → profile.seed < 2 ^ 64 → All (FitsSigned w64) params → IsSoundIn format profile params events
    → IsHeader (profile_in format profile params events)
header_fields format profile params events job seed fit s = record {
  job = job;
  seed = seed;
  cycle_time = s.fields.cycle_time;
  few_params = s.fields.few_params;
  params = fit;
  few_events = few_mapped event_of events 256 s.fields.few_events;
  events = All-map IsEvent event_of events (λ k d h. (s.fields.events k d h).0);
  policies = policies_known format events s.policies;
}

pub header_spelled : (format : Format) (profile : DetProfile) (params : List ℤ) (events : List DetEvent)
    → (magic ++ (spelled_u16 (version format) ++ (spelled_u16 profile.job ++ (spelled_u64 profile.seed ++ spelled_u64 profile.cycle_time))))
    ++ (spelled_params params ++ spelled_events format (map event_of events))
    ≡ spelled_header (profile_in format profile params events)
unfolding spelled_numbers spelled_header
header_spelled format profile params events = refl
