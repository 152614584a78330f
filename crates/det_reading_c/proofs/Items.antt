-- A whole item, as a call answers it.
use Rattle.std.proofs.Common.{◌≡◌, ◌≢◌, ℕ, ◌≤◌, List, length, drop, Result, Ok, refl, sym, ap, subst}
use Rattle.det_values.specs.declared.frames.Frame.{Frame}
use Rattle.record_grammar.specs.declared.place.Place.{Place}
use Rattle.record_grammar.specs.declared.place.Place.TheVariants as places
use Rattle.record_grammar.specs.declared.item.Item.{Item}
use Rattle.record_grammar.specs.declared.item.Item.TheVariants as items
use Rattle.record_grammar.specs.Read.{Read}
use Rattle.record_grammar.specs.Grammar.{item_at}
use Rattle.record_view.specs.declared.stop.Stop.{Stop}
use Rattle.record_view.specs.declared.view.ItemSpan.{ItemSpan}
use Rattle.record_view.specs.declared.partial.Step.{Step}
use Rattle.record_view.specs.Scans.{IsStep, IsAnswer}
use Rattle.record_view.specs.Shows.{Shows, ShowsParts, events_of}
use Rattle.record_view.proofs.Headers.{frame_there}
use Rattle.c_types.specs.Places.{place_of}
use Rattle.det_reading_c.specs.Readings.{IsAfter}
use Rattle.det_reading_c.specs.Frames.{IsFrameAt}
use Rattle.det_reading_c.specs.Answers.{FrameCall, IsFrameRead, IsFrameAnswer}

-- the view of a whole item, by a step that returned it
pub step_shows : (place : Place) (step : Step) (span : ItemSpan) (bytes : List ℕ) → step.answer ≡ Ok span → IsStep place step bytes
    → (item : Item) × Shows place span bytes item
step_shows place step span bytes is h = subst (λ (a : Result ItemSpan Stop). IsAnswer place a step.scan bytes) is h

module _ (old new : FrameCall) (place : Place) (span : ItemSpan) (bytes : List ℕ) (same : place ≡ place_of old.reading.record)
    (length_is : new.frame.length ≡ span.len)
    (parts : (frame : Frame) → ShowsParts place span.kind span.len bytes (items.Frame frame)
    → IsFrameAt (events_of place) new.frame bytes frame)
    (passed : (item : Item) (bytes : List ℕ) → Shows place span bytes item → IsAfter item span.len old.reading new.reading) where
  frame_is_read : place ≢ places.Header → (item : Item) → Shows place span bytes item
      → IsFrameRead item (drop span.len bytes) bytes old new
  frame_is_read other item h =
      let f = frame_there place span bytes item other h in
      record {
        frame = f.frame;
        is = f.is;
        parts =
            subst (λ (p : Place). IsFrameAt (events_of p) new.frame bytes f.frame) same
            (parts f.frame (subst (λ (x : Item). ShowsParts place span.kind span.len bytes x) f.is h.parts));
        rest_is = ap (λ (n : ℕ). drop n bytes) (sym length_is);
        within = subst (λ (n : ℕ). n ≤ length bytes) (sym length_is) h.within;
        after = subst (λ (n : ℕ). IsAfter item n old.reading new.reading) (sym length_is) (passed item bytes h);
      }

  pub frame_whole : place ≢ places.Header → (step : Step) → step.answer ≡ Ok span → IsStep (place_of old.reading.record) step bytes
      → IsFrameAnswer 0 (item_at (place_of old.reading.record) bytes) bytes old new
  frame_whole other step is h =
      let s = step_shows (place_of old.reading.record) step span bytes is h in
      let here : Shows place span bytes s.0 = subst (λ (p : Place). Shows p span bytes s.0) (sym same) s.1 in
      subst (λ (r : Read Item). IsFrameAnswer 0 r bytes old new) (sym s.1.read) (refl, frame_is_read other s.0 here)
