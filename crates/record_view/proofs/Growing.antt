-- What was read of an item stays at its place when more bytes come.
use Rattle.std.proofs.Common.{◌≡◌, ℕ, ◌≤◌, List, [], ◌++◌, length, drop, sym, ap, ◌∙◌, arith, append_assoc, length-append}
use Rattle.std.proofs.lemmas.List.{drop-append-le}
use Rattle.det_values.specs.declared.frames.CycleInput.{CycleInput}
use Rattle.det_values.specs.Values.{SampleValue}
use Rattle.record_grammar.specs.declared.place.Place.{Place}
use Rattle.record_grammar.specs.declared.item.Item.{Item}
use Rattle.record_grammar.specs.Read.{Read, Got, many, with_front}
use Rattle.record_grammar.specs.Grammar.{sample_at, element_at, drawn_at, item_at, init_from, finished_from}
use Rattle.record_grammar.specs.Places.{format_of}
use Rattle.record_grammar.proofs.Steady.{steady_many}
use Rattle.record_grammar.proofs.SteadyFields.{sample_steady}
use Rattle.record_view.specs.declared.view.InputView.{InputView}
use Rattle.record_view.specs.declared.partial.Partial.{Partial}
use Rattle.record_view.specs.declared.partial.Partial.TheVariants as partials
use Rattle.record_view.specs.declared.partial.Scan.{Scan}
use Rattle.record_view.specs.Opening.{framed}
use Rattle.record_view.specs.Shows.{ShowsInput, events_of}
use Rattle.record_view.specs.Scans.{ElementScan, IsPartialScan, IsScan}

abbrev got_samples : List SampleValue → List ℕ → Read (List SampleValue)
got_samples xs rest = Got (xs, rest)

pub input_grows : (events : ℕ) (p : InputView) (bytes more : List ℕ) (input : CycleInput) → ShowsInput events p bytes input
    → ShowsInput events p (bytes ++ more) input
input_grows events p bytes more input h =
    let within : p.samples_at ≤ length bytes = omega (arith, h.order, h.within) in
    record {
      time = h.time;
      samples =
          ap (many (sample_at events) p.samples) (drop-append-le p.samples_at bytes more within)
          ∙ (steady_many (sample_at events) (sample_steady events) p.samples).got (drop p.samples_at bytes) more
          (input.samples, drop p.outcome_at bytes) h.samples
          ∙ ap (λ (xs : List ℕ). got_samples input.samples xs) (sym (drop-append-le p.outcome_at bytes more h.within));
      few = h.few;
      order = h.order;
      within = omega (arith, length-append bytes more, h.within);
    }

-- the bytes after a place, with more after them
further : (n : ℕ) (bytes more tail : List ℕ) → n ≤ length bytes → drop n (bytes ++ more) ++ tail ≡ drop n bytes ++ (more ++ tail)
further n bytes more tail le =
    ap (λ (xs : List ℕ). xs ++ tail) (drop-append-le n bytes more le) ∙ append_assoc (drop n bytes) more tail

goes_grows : {A : Type 0} (item : List ℕ → Read A) (count at left read : ℕ) (bytes more : List ℕ)
    → ElementScan item count at left read bytes
    → ElementScan item count at left read (bytes ++ more)
goes_grows item count at left read bytes more h =
    record {
      done = h.done;
      order = h.order;
      in_range = omega (arith, length-append bytes more, h.in_range);
      same = λ tail.
          ap (λ (xs : List ℕ). with_front h.done (many item left xs)) (further read bytes more tail h.in_range) ∙ h.same (more ++ tail)
          ∙ ap (many item count) (sym (further at bytes more tail (omega (arith, h.order, h.in_range))));
    }

reading_grows : (place : Place) (reading : List ℕ → Read Item) (at : ℕ) (bytes more : List ℕ) → at ≤ length bytes
    → ((tail : List ℕ) → item_at place (bytes ++ tail) ≡ reading (drop at bytes ++ tail))
    → (tail : List ℕ) → item_at place ((bytes ++ more) ++ tail) ≡ reading (drop at (bytes ++ more) ++ tail)
reading_grows place reading at bytes more le h tail =
    ap (item_at place) (append_assoc bytes more tail) ∙ h (more ++ tail) ∙ ap reading (sym (further at bytes more tail le))

grows : (place : Place) (partial : Partial) (read : ℕ) (bytes more : List ℕ) → IsPartialScan place partial read bytes
    → IsPartialScan place partial read (bytes ++ more)
grows place partials.Nothing read bytes more h = h
grows place (partials.Init count left) read bytes more h =
    record {
      reading =
          reading_grows place (λ xs. framed (init_from [] count xs)) 5 bytes more (omega (arith, h.goes.order, h.goes.in_range)) h.reading;
      goes = goes_grows element_at count 5 left read bytes more h.goes;
    }
grows place (partials.Run run) read bytes more h =
    record {
      input = h.input;
      shows = input_grows (events_of place) run.input bytes more h.input h.shows;
      order = h.order;
      reading =
          reading_grows place (λ xs. framed (finished_from (format_of place) h.input [] run.elements xs)) run.elements_at bytes more
          (omega (arith, h.goes.order, h.goes.in_range)) h.reading;
      goes = goes_grows (drawn_at (format_of place)) run.elements run.elements_at run.left read bytes more h.goes;
    }

pub scanned_grows : (place : Place) (scan : Scan) (bytes more : List ℕ) → IsScan place scan bytes → IsScan place scan (bytes ++ more)
scanned_grows place scan bytes more h = grows place scan.partial scan.read bytes more h
