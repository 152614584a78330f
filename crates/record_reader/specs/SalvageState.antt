-- What a salvage keeps until Init was read, and what of it is written.
use Rattle.std.specs.Prelude.{◌≡◌, ℕ, ◌+◌, List, [], ◌∷◌, ◌++◌, Bool, true, false, ◌||◌}
use Rattle.std.specs.Prelude.{Some, Result, Ok, Err}
use Rattle.std.specs.List.{list_any}
use Rattle.det_values.specs.declared.format.Format.{Format}
use Rattle.det_values.specs.declared.format.Format.TheVariants.{One}
use Rattle.det_values.specs.declared.frames.Frame.{Frame}
use Rattle.det_values.specs.declared.frames.Frame.TheVariants.{Terminate}
use Rattle.det_io.specs.declared.failure.Failure.TheVariants.{Write, OutOfMemory}
use Rattle.det_io.specs.declared.failure.Stopped.{Stopped}
use Rattle.det_io.specs.declared.failure.Stopped.TheVariants.{Failed}
use Rattle.det_io.specs.Sink.{Grew, GrewShort}
use Rattle.det_io.specs.Traffic.{SinkRun}
use Rattle.record_grammar.specs.declared.record_fault.RecordFault.{RecordFault}
use Rattle.record_grammar.specs.declared.item.Item.{Item}
use Rattle.record_grammar.specs.declared.item.Item.TheVariants as items
use Rattle.record_grammar.specs.Spelling.{spelled_header, spelled_frame}
use Rattle.record_view.specs.declared.view.ItemKind.{ItemKind}
use Rattle.record_reader.specs.declared.salvage.Salvage.{Salvage}
use Rattle.record_reader.specs.declared.salvage.Salvaged.{Salvaged}
use Rattle.record_reader.specs.Kinds.{begins_runs, runs_of, kind_refusals}
use Rattle.record_reader.specs.Salvaged.{is_init, kept, written_items, cycles_of}
use Rattle.record_reader.specs.InItems.{spelled_by}
use Rattle.record_reader.specs.Salvaged.{refused_of}
use Rattle.record_reader.specs.ItemTaker.{ItemTaker}

-- the spelling of a frame, but none for Terminate
abbrev pub spelled_unless_last : Format → Frame → List ℕ
spelled_unless_last format Terminate = []
spelled_unless_last format frame = spelled_frame format frame

-- what is kept of an item of a record in this format
abbrev pub piece_of : Format → Item → List ℕ
piece_of format (items.Header profile) = spelled_header profile
piece_of format (items.Frame frame) = spelled_unless_last format frame

-- the format of the frames after these items
abbrev pub format_after : List Item → Format
format_after (items.Header profile ∷ rest) = profile.format
format_after other = One

-- the first item is no frame
abbrev pub IsHeaded : List Item → Type 0
IsHeaded (items.Frame frame ∷ rest) = ⊥
IsHeaded other = Unit {0}

-- it keeps what is spelled of these items and not written yet
pub record Keeps (salvage : Salvage) (given : List Item) : Type 0 where
  pub headed : IsHeaded given
  pub has_begun : salvage.has_begun ≡ list_any is_init given
  pub out : written_items given ++ salvage.out.items ≡ spelled_by kept given
  pub cycles : salvage.cycles ≡ cycles_of given
  pub refused : salvage.refused ≡ refused_of given

-- a salvage as a taker
abbrev pub salvaging : Salvage → ItemTaker RecordFault
salvaging salvage = record {
  fault_of = Some;
  written = written_items;
  stands = Keeps salvage;
  stopped = λ stop given item. Unit {0};
}

-- an item of this kind was counted
pub record Counted (kind : ItemKind) (old new : Salvage) : Type 0 where
  pub has_begun : new.has_begun ≡ (begins_runs kind || old.has_begun)
  pub cycles : new.cycles ≡ old.cycles + runs_of kind
  pub refused : new.refused ≡ old.refused + kind_refusals kind
  pub out : new.out ≡ old.out

-- Once Init was read, all bytes were written, those kept and the next ones, and none is kept.
-- Before that, all are kept.
abbrev pub Puts : Result (Unit {0}) (Stopped RecordFault) → Bool → List ℕ → List ℕ → SinkRun
    → Type 0
Puts (Ok u) true all kept out = (kept ≡ []) × Grew out.before out.after all
Puts (Ok u) false all kept out = (kept ≡ all) × Grew out.before out.after []
Puts (Err (Failed Write)) has_begun all kept out = (has_begun ≡ true)
    × GrewShort out.before out.after all
Puts (Err (Failed OutOfMemory)) has_begun all kept out = Grew out.before out.after []
Puts (Err stop) has_begun all kept out = ⊥

-- Terminate was written after what was kept
abbrev pub FinishIs : Result Salvaged (Stopped RecordFault) → Salvage → SinkRun → Type 0
FinishIs (Ok counts) s out =
    Grew out.before out.after (s.out.items ++ spelled_frame One Terminate)
    × (counts.cycles ≡ s.cycles) × (counts.refused ≡ s.refused)
FinishIs (Err (Failed Write)) s out =
    GrewShort out.before out.after (s.out.items ++ spelled_frame One Terminate)
FinishIs (Err (Failed OutOfMemory)) s out = Grew out.before out.after []
FinishIs (Err stop) s out = ⊥
