-- The results of a text's reader, as those of a slot's reader.
use Rattle.std.proofs.Common.{◌≡◌, ◌≤◌, inl, inr, ℕ, List, [], ◌∷◌, ◌++◌, length, take, Bool, Option, Some, None, Result, Ok, Err}
use Rattle.std.proofs.Common.{refl, sym, ap, subst, ◌∙◌, append_assoc, append-nil}
use Rattle.det_io.specs.Prefix.{IsPrefix}
use Rattle.det_io.specs.Shelf.{ShelfState, Reads}
use Rattle.det_io.specs.declared.failure.Failure.TheVariants.{Read, Write, OutOfMemory}
use Rattle.det_io.specs.declared.failure.Stopped.{Stopped}
use Rattle.det_io.specs.declared.failure.Stopped.TheVariants.{Refused, Failed}
use Rattle.det_io.specs.Traffic.{ShelfRun, ShelfTraffic, failure_in}
use Rattle.det_io.proofs.SlotReads.{reads-then}
use Rattle.det_values.specs.declared.frames.CycleInput.{CycleInput}
use Rattle.stimulus.specs.declared.stimulus_item.StimulusError.{StimulusError}
use Rattle.stimulus.specs.declared.stimulus_item.StimulusError.TheVariants as errors
use Rattle.stimulus.specs.declared.stimulus_item.StimulusFault.{StimulusFault}
use Rattle.stimulus.specs.declared.stimulus_item.StimulusItem.{StimulusItem}
use Rattle.stimulus.specs.declared.stimulus_item.StimulusItem.TheVariants as items
use Rattle.stimulus.specs.declared.parser.StimulusParser.{StimulusParser}
use Rattle.stimulus.specs.Reading.{Terminated, BadLine, blocks, ending, inputs_of}
use Rattle.stimulus.specs.StandsFor.{StandsFor as Stands, NextIs}
use Rattle.stimulus.proofs.Growing.{inputs_then, inputs_end, stands_within, blocks_grow}
use Rattle.stimulus.specs.declared.slot_reader.stimulus_reader.StimulusReader.{StimulusReader}
use Rattle.stimulus.specs.slot_reader.StandsFor.{StandsFor, InputIs, ReadsIfNeeded, slot_of, events_of}
use Rattle.stimulus.specs.slot_reader.Steps.{stopped_by, Hungers, GaveAll, PieceIs}

-- ---- what was fed

-- the result of the text's reader, by all that it stands for
abbrev pub Answers : Result (Option StimulusItem) StimulusError → StimulusParser → StimulusParser → Type 0
Answers answer old new = (bytes : List ℕ) (given : List StimulusItem) → Stands old bytes given → NextIs answer new bytes given

pub answers-as : (answer other : Result (Option StimulusItem) StimulusError) (old new : StimulusParser) → answer ≡ other
    → Answers answer old new
    → Answers other old new
answers-as answer other old new is next = subst (λ a. Answers a old new) is next

pub item-is : (item : Option StimulusItem) (x y : StimulusItem) → item ≡ Some x → x ≡ y
    → ◌≡◌ {A = Result (Option StimulusItem) StimulusError} (Ok item) (Ok (Some y))
item-is item x y p q = ap Ok (p ∙ ap Some q)

-- the inputs of the returned items come first
comes-first : (r : StimulusParser) (read : List ℕ) (items : List StimulusItem) (given : List CycleInput) → Stands r read items
    → inputs_of items ≡ given → IsPrefix given (blocks r.events read)
comes-first r read items given stands is = subst (λ xs. IsPrefix xs (blocks r.events read)) is (stands_within r read items stands)

-- one block more
pub fed-input : (input : CycleInput) (r r' : StimulusReader) (read : List ℕ) (given : List CycleInput)
    → Answers (Ok (Some (items.Cycle input))) r.text r'.text
    → StandsFor r read given → InputIs (Ok (Some input)) r' ⊥ read given
fed-input input r r' read given next h =
    let n = next read h.items h.reads in
    let all : inputs_of (h.items ++ items.Cycle input ∷ []) ≡ given ++ input ∷ [] = inputs_then h.items input
    ∙ ap (λ xs. xs ++ input ∷ []) h.inputs in (
      record { items = h.items ++ items.Cycle input ∷ []; reads = n.0; inputs = all },
      record {
        first = comes-first r'.text read (h.items ++ items.Cycle input ∷ []) (given ++ input ∷ []) n.0 all;
        within = n.1.within;
        few = subst (λ (xs : List CycleInput). length xs ≤ 1000000) all n.1.few;
      },
    )

-- the end of the stimulus
pub fed-end : (r r' : StimulusReader) (read : List ℕ) (given : List CycleInput) → Answers (Ok (Some items.Terminate)) r.text r'.text
    → StandsFor r read given → StandsFor r' read given
fed-end r r' read given next h = record {
  items = h.items ++ items.Terminate ∷ [];
  reads = (next read h.items h.reads).0;
  inputs =
      inputs_end h.items ∙ h.inputs;
}

-- no more blocks
pub fed-all : (r r' : StimulusReader) (read : List ℕ) (given : List CycleInput) → Answers (Ok None) r.text r'.text → StandsFor r read given
    → GaveAll r' read given
fed-all r r' read given next h =
    let n = next read h.items h.reads in
    record {
      stands = record { items = h.items; reads = n.0; inputs = h.inputs };
      all = record
          { blocks = n.1.blocks ∙ h.inputs; good = n.1.good };
    }

-- a bad line, or no memory
pub fed-stopped : (error : StimulusError) (r r' : StimulusReader) (read : List ℕ) (given : List CycleInput)
    → Answers (Err error) r.text r'.text
    → StandsFor r read given
    → InputIs (Err (stopped_by error)) r' ⊥ read given
fed-stopped (errors.Bad fault) r r' read given next h =
    let n = next read h.items h.reads in record { blocks = n.1.blocks ∙ h.inputs; ending = n.1.ending; found = inl n.1.bad }
fed-stopped errors.OutOfMemory r r' read given next h = comes-first r'.text read h.items given (next read h.items h.reads) h.inputs

-- ---- a piece

-- nothing was read
pub read-none : (P : List ℕ → Type 0) (read : List ℕ) → P read → P (read ++ [])
read-none P read h = subst P (sym (append-nil read)) h

-- the first 0 bytes
pub took-none : (n : ℕ) (buf : List ℕ) → n ≡ 0 → take n buf ≡ []
took-none n buf e = ap (λ (k : ℕ). take k buf) e

pub ended-whole : (r : StimulusReader) (at_end : Type 0) (read : List ℕ) (given : List CycleInput) → at_end
    → ((items : List StimulusItem) → Stands r.text read items → ending r.text.events read ≡ Terminated)
    → GaveAll r read given → InputIs (Ok None) r at_end read given
ended-whole r at_end read given at finish h = (
  h.stands,
  record
      { blocks = h.all.blocks; ending = finish h.stands.items h.stands.reads; end = at },
)

pub ended-bad : (fault : StimulusFault) (r : StimulusReader) (at_end : Type 0) (read : List ℕ) (given : List CycleInput) → at_end
    → ((items : List StimulusItem) → Stands r.text read items → ending r.text.events read ≡ BadLine fault.line)
    → GaveAll r read given → InputIs (Err (Refused fault)) r at_end read given
ended-bad fault r at_end read given at finish h = record
    { blocks = h.all.blocks; ending = finish h.stands.items h.stands.reads; found = inr at }

-- a piece was fed
pub fed-on : (r r' : StimulusReader) (piece read : List ℕ) (given : List CycleInput)
    → ((bytes : List ℕ) (items : List StimulusItem) → Stands r.text bytes items → Stands r'.text (bytes ++ piece) items)
    → GaveAll r read given
    → StandsFor r' (read ++ piece) given
fed-on r r' piece read given fed h = record {
  items = h.stands.items;
  reads = fed read h.stands.items h.stands.reads;
  inputs =
      h.stands.inputs;
}

-- a piece couldn't be fed
pub unfed : (r r' : StimulusReader) (piece read : List ℕ) (given : List CycleInput) → r'.text.events ≡ r.text.events → GaveAll r read given
    → IsPrefix given (blocks (events_of r') (read ++ piece))
unfed r r' piece read given same h =
    subst (λ n. IsPrefix given (blocks n (read ++ piece))) (sym same)
    (subst (λ xs. IsPrefix xs (blocks r.text.events (read ++ piece))) h.all.blocks (blocks_grow r.text.events read piece))

-- ---- one step after another

-- bytes were read where they were needed, and what the reader stood for before is known of it afterwards
abbrev pub HasRead : ShelfState → ShelfState → StimulusReader → (List ℕ → List CycleInput → Type 0) → Type 0
HasRead before after r P = (more : List ℕ) × Reads before after (slot_of r) more
    × ((read : List ℕ) (given : List CycleInput) → StandsFor r read given → ReadsIfNeeded (events_of r) read given more
    × P (read ++ more) given)

-- all blocks of the bytes read were returned, and so were those of the bytes read first
all-first : (events : ℕ) (read more : List ℕ) (given : List CycleInput) → ReadsIfNeeded events read given more
    → blocks events (read ++ more) ≡ given → blocks events read ≡ given
all-first events read more given (inl none) all = ap (blocks events) (sym (append-nil read) ∙ ap (λ xs. read ++ xs) (sym none)) ∙ all
all-first events read more given (inr is) all = is

-- the result for the bytes that were fed
pub fed-then : {before mid : ShelfState} (old : StimulusReader) (P Q : List ℕ → List CycleInput → Type 0)
    → HasRead before mid old P → ((read : List ℕ) (given : List CycleInput) → P read given → Q read given) → HasRead before mid old Q
fed-then old P Q h on = (h.0, h.1, λ read given stands. let s = h.2 read given stands in (s.0, on (read ++ h.0) given s.1))

-- everything of the bytes read was returned, and a piece is read
pub read-then : {before mid after : ShelfState} (old at : StimulusReader) (Q : ℕ → List ℕ → List CycleInput → Type 0)
    → slot_of at ≡ slot_of old → events_of at ≡ events_of old
    → HasRead before mid old (GaveAll at)
    → (more : List ℕ) × Reads mid after (slot_of at) more
    × ((read : List ℕ) (given : List CycleInput) → GaveAll at read given → Q (slot_of at) (read ++ more) given)
    → HasRead before after old (Q (slot_of old))
read-then {mid = mid} {after = after} old at Q same events p q = (
  p.0 ++ q.0,
  reads-then p.1 (subst (λ (s : ℕ). Reads mid after s q.0) same q.1),
  λ read given h.
      let s = p.2 read given h in
      let all = all-first (events_of old) read p.0 given s.0 (subst (λ n. blocks n (read ++ p.0) ≡ given) events s.1.all.blocks) in (
        inr all,
        subst (λ (s : ℕ). Q s (read ++ (p.0 ++ q.0)) given) same
            (subst (λ (xs : List ℕ). Q (slot_of at) xs given) (append_assoc read p.0 q.0) (q.2 (read ++ p.0) given s.1)),
      ),
)

-- a piece was read, with this result
abbrev HasPiece : ShelfState → ShelfState → StimulusReader → StimulusReader → Type 0 → Bool → Type 0
HasPiece before after at new at_end goes_on = (more : List ℕ) × Reads before after (slot_of at) more
    × ((read : List ℕ) (given : List CycleInput) → GaveAll at read given → PieceIs (Ok goes_on) new at_end (read ++ more) given)

pub piece-as : {before after : ShelfState} (at new : StimulusReader) (at_end : Type 0) (result other : Bool) → result ≡ other
    → HasPiece before after at new at_end result → HasPiece before after at new at_end other
piece-as {before = before} {after = after} at new at_end result other is piece = subst (HasPiece before after at new at_end) is piece

-- how what was fed stopped is how the reader stops
pub stops-as : (why : Stopped StimulusFault) (r : StimulusReader) (at_end : Type 0) (read : List ℕ) (given : List CycleInput)
    → InputIs (Err why) r ⊥ read given → InputIs (Err why) r at_end read given
stops-as (Refused fault) r at_end read given h = record
    { blocks = h.blocks; ending = h.ending; found = elim h.found [ inl bad ↦ inl bad | inr none ↦ absurd none ] }
stops-as (Failed Read) r at_end read given h = h
stops-as (Failed Write) r at_end read given h = absurd h
stops-as (Failed OutOfMemory) r at_end read given h = h

-- ---- which way it goes

-- what was fed stopped, and no read failed
pub no-read : (why : Stopped StimulusFault) (r : StimulusReader) (run : ShelfRun) → Hungers (Err why) r → ShelfTraffic run None
    → ShelfTraffic run (failure_in {A = Option CycleInput} (Err why))
no-read (Refused fault) r run h t = t
no-read (Failed Read) r run h t = absurd h
no-read (Failed Write) r run h t = record { cause = λ e. cc; counted = t.counted; stays = t.stays }
no-read (Failed OutOfMemory) r run h t = record { cause = λ e. cc; counted = t.counted; stays = t.stays }

pub stops-unread : (error : StimulusError) (r : StimulusReader) → Hungers (Err (stopped_by error)) r
stops-unread (errors.Bad fault) r = tt
stops-unread errors.OutOfMemory r = tt

pub none-of : {X : Type 0} (o : Option X) → ((x : X) → o ≡ Some x → ⊥) → o ≡ None
none-of (Some x) other = absurd (other x refl)
none-of None other = refl
