-- What an item adds to the counts of a record, by its kind.
use Rattle.std.specs.Prelude.{ℕ, List, [], Bool, true, false}
use Rattle.record_view.specs.declared.view.FrameKind.TheVariants as frames
use Rattle.record_view.specs.declared.view.ItemKind.{ItemKind}
use Rattle.record_view.specs.declared.view.ItemKind.TheVariants as kinds
use Rattle.record_view.specs.declared.view.OutcomeView.{OutcomeView}
use Rattle.record_view.specs.declared.view.OutcomeView.TheVariants as ends

abbrev pub begins_runs : ItemKind → Bool
begins_runs (kinds.Frame (frames.Init elements)) = true
begins_runs kind = false

abbrev pub runs_of : ItemKind → ℕ
runs_of (kinds.Frame (frames.Run input outcome)) = 1
runs_of kind = 0

abbrev pub refusals_at : OutcomeView → ℕ
refusals_at (ends.Finished elements at output_at) = 0
refusals_at (ends.Refused at) = 1

abbrev pub kind_refusals : ItemKind → ℕ
kind_refusals (kinds.Frame (frames.Run input outcome)) = refusals_at outcome
kind_refusals kind = 0

-- the bytes of an item of this kind, but none for Terminate
abbrev pub kept_bytes : ItemKind → List ℕ → List ℕ
kept_bytes (kinds.Frame frames.Terminate) bytes = []
kept_bytes kind bytes = bytes
