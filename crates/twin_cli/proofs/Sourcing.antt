-- A text in memory on its way: the inputs of its stimulus, one after another.
use Rattle.std.proofs.Common.{◌≡◌, ℕ, List, [], ◌∷◌, ◌++◌, refl, sym, ap, subst, ◌∙◌, inl, inr}
use Rattle.std.specs.List.{All}
use Rattle.std.specs.Prelude.{◌⊎◌, ◌<◌, true, Option, Some, None, Result, Ok, Err}
use Rattle.det_values.specs.declared.frames.CycleInput.{CycleInput}
use Rattle.det_io.specs.Count.{Rose}
use Rattle.det_io.specs.Shelf.{ShelfState, Reads, IsAtEnd}
use Rattle.det_io.specs.TextShelf.{one_slot, text_shelf_state}
use Rattle.det_io.specs.Traffic.{failure_in, IfRefused}
use Rattle.det_io.specs.declared.failure.Failure.TheVariants.{Read, Write, OutOfMemory}
use Rattle.det_io.specs.declared.failure.Stopped.{Stopped}
use Rattle.det_io.specs.declared.failure.Stopped.TheVariants.{Refused, Failed}
use Rattle.det_io.proofs.Counts.{rose-none}
use Rattle.det_io.proofs.SlotReads.{reads-none, reads-then, reads-told, reads-all}
use Rattle.stimulus.specs.declared.stimulus_item.StimulusFault.{StimulusFault}
use Rattle.stimulus.specs.Reading.{BadLine, blocks, ending, ending_of, has_bad}
use Rattle.stimulus.proofs.Growing.{bad_stays, blocks_within}
use Rattle.stimulus.specs.declared.slot_reader.stimulus_reader.StimulusReader.{StimulusReader}
use Rattle.stimulus.specs.slot_reader.StandsFor.{StandsFor, InputIs, IsBad, ReadsIfNeeded, slot_of, events_of}
use Rattle.twin_cli.specs.declared.text_inputs.TextInputs.{TextInputs}
use Rattle.run_setup.specs.Setup.{IsCalm}
use Rattle.twin_cli.specs.TextInputs.{IsBehind, Gives, IsWhole, Comes}

-- what a reader returns, for all texts that it can be reading
abbrev Answered : Result (Option CycleInput) (Stopped StimulusFault) → ShelfState → ShelfState → StimulusReader → StimulusReader → Type 0
Answered answer before after old new = (more : List ℕ) × Reads before after (slot_of old) more
    × ((read : List ℕ) (given : List CycleInput) → StandsFor old read given
    → ReadsIfNeeded (events_of old) read given more × InputIs answer new (IsAtEnd after (slot_of old)) (read ++ more) given)

module _ (text : List ℕ) (events : ℕ) where
  -- nothing was given
  pub behind-none : (source : TextInputs) → text_shelf_state source.shelf ≡ one_slot text → StandsFor source.reader [] []
      → events_of source.reader ≡ events → IsBehind text events source []
  behind-none source all stands same = record {
    read = [];
    reads = subst (λ (s : ShelfState). Reads (one_slot text) s 0 []) (sym all) (reads-none (one_slot text) 0);
    fed = stands;
    known = same;
  }

  -- a bad line that counts as fed, or at the end, is the text's
  bad-line : (line : ℕ) (last : ShelfState) (read : List ℕ) → Reads (one_slot text) last 0 read
      → ending events read ≡ BadLine line → (has_bad events read ≡ true) ⊎ IsAtEnd last 0 → ending events text ≡ BadLine line
  bad-line line last read reads bad (inl fed) =
      let t = reads-told text reads refl in
      ap (ending events) (sym t.2) ∙ ap ending_of (bad_stays events read t.0 fed) ∙ bad
  bad-line line last read reads bad (inr end) = ap (ending events) (sym (reads-all text reads end refl)) ∙ bad

  module _ (old new : TextInputs) {given : List CycleInput} (b : IsBehind text events old given)
      (same : events_of new.reader ≡ events_of old.reader) where
    -- all that was read, and the answer of that
    abbrev next-read : (answer : Result (Option CycleInput) (Stopped StimulusFault))
        → Answered answer (text_shelf_state old.shelf) (text_shelf_state new.shelf) old.reader new.reader
        → (all : List ℕ) × Reads (one_slot text) (text_shelf_state new.shelf) 0 all
        × InputIs answer new.reader (IsAtEnd (text_shelf_state new.shelf) 0) all given
    next-read answer h = (
      b.read ++ h.0,
      reads-then b.reads (subst (λ (s : ℕ). Reads (text_shelf_state old.shelf) (text_shelf_state new.shelf) s h.0) old.one h.1),
      subst (λ (s : ℕ). InputIs answer new.reader (IsAtEnd (text_shelf_state new.shelf) s) (b.read ++ h.0) given) old.one
          (h.2 b.read given b.fed).1,
    )

    pub comes : (answer : Result (Option CycleInput) (Stopped StimulusFault))
        → Answered answer (text_shelf_state old.shelf) (text_shelf_state new.shelf) old.reader new.reader
        → (failure_in answer ≡ Some Read → Rose (text_shelf_state old.shelf).faults (text_shelf_state new.shelf).faults)
        → Comes text events answer new given
    comes (Ok (Some input)) h read =
        let n = next-read (Ok (Some input)) h in
        record {
          behind = record { read = n.0; reads = n.1; fed = n.2.0; known = same ∙ b.known };
          few = n.2.1.few;
        }
    comes (Ok None) h read =
        let n = next-read (Ok None) h in
        let all : n.0 ≡ text = reads-all text n.1 n.2.1.end refl in
        let events_are : events_of new.reader ≡ events = same ∙ b.known in
        record {
          all = rw (← all, ← events_are) n.2.1.blocks;
          good = rw (← all, ← events_are) n.2.1.ending;
        }
    comes (Err (Refused fault)) h read =
        let n = next-read (Err (Refused fault)) h in
        let bad : IsBad fault.line events (IsAtEnd (text_shelf_state new.shelf) 0) n.0 given =
        subst (λ (k : ℕ). IsBad fault.line k (IsAtEnd (text_shelf_state new.shelf) 0) n.0 given) (same ∙ b.known) n.2 in
        bad-line fault.line (text_shelf_state new.shelf) n.0 n.1 bad.ending bad.found
    comes (Err (Failed Read)) h read = rose-none 0 (read refl)
    comes (Err (Failed Write)) h read = (next-read (Err (Failed Write)) h).2
    comes (Err (Failed OutOfMemory)) h read = tt

module _ (text : List ℕ) (events : ℕ) (source : TextInputs) (given : List CycleInput) where
  -- one input more
  pub gives : (input : CycleInput) (o : Option CycleInput) → o ≡ Some input → Comes text events (Ok o) source given
      → Gives text events source (given ++ input ∷ [])
  gives input o is h =
      let g : Comes text events (Ok (Some input)) source given = subst (λ p. Comes text events (Ok p) source given) is h in g

  -- no more inputs
  pub whole : (o : Option CycleInput) → o ≡ None → Comes text events (Ok o) source given → IsWhole text events given
  whole o is h = let g : Comes text events (Ok None) source given = subst (λ p. Comes text events (Ok p) source given) is h in g

  -- the text stopped at its bad line
  pub stopped-line : (why : Stopped StimulusFault) → Comes text events (Err why) source given
      → IfRefused why (λ fault. ending events text ≡ BadLine fault.line)
  stopped-line (Refused fault) h = h
  stopped-line (Failed failure) h = tt

  -- or memory couldn't be had
  pub stopped-calm : (why : Stopped StimulusFault) → Comes text events (Err why) source given
      → IsCalm (failure_in {A = List CycleInput} (Err why))
  stopped-calm (Refused fault) h = tt
  stopped-calm (Failed Read) h = h
  stopped-calm (Failed Write) h = h
  stopped-calm (Failed OutOfMemory) h = tt

-- the samples of a text's inputs are of its events
pub known-inputs : (text : List ℕ) (events : ℕ) (inputs : List CycleInput) → blocks events text ≡ inputs
    → All (λ (input : CycleInput). All (λ s. s.event < events) input.samples) inputs
known-inputs text events inputs are = subst (λ l. All (λ (input : CycleInput). All (λ s. s.event < events) input.samples) l) are
    (λ k d below. (blocks_within events text k d below).known)
