-- A record that was rewritten by a crew meets the outcome of its bytes.
use Rattle.std.proofs.Common.{◌≡◌, ℕ, List, ◌++◌, true, refl, sym, ap, subst, ◌∙◌}
use Rattle.std.specs.Prelude.{Some, Result}
use Rattle.det_values.specs.Values.{ProfileValue}
use Rattle.det_values.specs.declared.job_kind.JobKind.{JobKind}
use Rattle.det_io.specs.Count.{Rose}
use Rattle.det_io.specs.Shelf.{ShelfState, Reads}
use Rattle.det_io.specs.Traffic.{ShelfRun, SinkRun}
use Rattle.job.specs.Meaning.{Meaning}
use Rattle.jobs.specs.Kinds.{of_kind}
use Rattle.jobs.proofs.ByKinds.{by_kind-then, of_kind-gives}
use Rattle.record_reader.specs.declared.frame_reader.FrameReader.{FrameReader}
use Rattle.record_reader.specs.Frames.{IsOpen, slot_of}
use Rattle.rerun.specs.declared.upgrader.original.Original.{Original}
use Rattle.rerun.specs.upgrader.UpgradeStart.{header_of}
use Rattle.cli_answers.specs.declared.answer.Answer.{Answer}
use Rattle.cli_answers.specs.Ends.{can_end}
use Rattle.cli_answers.specs.Outcome.{Outcome, Meets, refusal}
use Rattle.run_setup.specs.declared.recorded_run.bad_run.BadRun.{BadRun}
use Rattle.run_setup.specs.recorded_run.Run.{RunValue, over_run, refused}
use Rattle.cmd_rerun.specs.declared.rewrite.rewriter.Rewrite.{Rewrite}
use Rattle.cmd_rerun.specs.declared.rewrite.rewriter.Rewrite.TheVariants.{Replay, Upgrade}
use Rattle.cmd_rerun.specs.rewrite.RewriteVisit.{outcome_with, rewritten, work_of, profile_of_run, header_by}
use Rattle.cmd_rerun.specs.rewrite.RewriteVisit.{CanRewrite}
use Rattle.cmd_rerun.specs.Rest.{IsRerun}

-- the outcome by the run that a record's header names
abbrev pub rewritten_by : Rewrite → List ℕ → Result RunValue BadRun → Outcome
rewritten_by rewrite record_bytes named =
    over_run (λ S G E L P m profile. outcome_with rewrite m profile record_bytes) (λ why. refusal (refused why)) named

-- the header of the record that is read is its own profile
pub header-is : (rewrite : Rewrite) (original : Original) (profile run : ProfileValue) → original.format ≡ profile.format
    → run ≡ profile_of_run rewrite profile → header_by rewrite original run ≡ profile
header-is Replay original profile run same is = is
header-is Upgrade original profile run same is = ap (header_of original) is ∙ (λ i. record profile { format = same i })

twice : (rewrite : Rewrite) (profile : ProfileValue)
    → profile_of_run rewrite profile ≡ profile_of_run rewrite (profile_of_run rewrite profile)
twice Replay profile = refl
twice Upgrade profile = refl

pub can-rewrite : (rewrite : Rewrite) (original : Original) (profile run : ProfileValue) (shelf : ShelfState)
    → original.format ≡ profile.format → run ≡ profile_of_run rewrite profile → IsOpen original.frames profile shelf
    → CanRewrite rewrite original run shelf
can-rewrite rewrite original profile run shelf same is opened = record {
  same = is ∙ twice rewrite profile ∙ ap (profile_of_run rewrite) (sym is);
  opened = subst (λ (p : ProfileValue). IsOpen original.frames p shelf) (sym (header-is rewrite original profile run same is)) opened;
}

-- with the job of a kind
pub rerun-by-kind : (rewrite : Rewrite) (kind : JobKind) (profile : ProfileValue) (frames : FrameReader) (shelf : ShelfRun) (out : SinkRun)
    (answer : Answer) (header : ProfileValue) → header ≡ profile
    → of_kind (λ S G E L P m. IsRerun (outcome_with rewrite m header) (work_of rewrite) header frames shelf out answer) kind
    → IsRerun (rewritten rewrite kind profile) (work_of rewrite) profile frames shelf out answer
rerun-by-kind rewrite kind profile frames shelf out answer header is visited =
    let has = subst (λ (p : ProfileValue).
    of_kind (λ S G E L P m. IsRerun (outcome_with rewrite m p) (work_of rewrite) p frames shelf out answer) kind) is visited in
    let Each : (S G E L P : Type 0) → Meaning S G E L P → Type 0 =
    λ S G E L P m. IsRerun (outcome_with rewrite m profile) (work_of rewrite) profile frames shelf out answer in
    let ReadsSlot : Type 0 = (more : List ℕ) × Reads shelf.first shelf.last (slot_of frames) more in
    record {
      meets = λ read rest stands.
          by_kind-then (λ S G E L P m. outcome_with rewrite m profile (read ++ rest)) Each
          (λ wanted. Meets wanted (shelf.first.left (slot_of frames) ≡ Some rest) (Rose shelf.first.faults shelf.last.faults) out answer)
          (λ S G E L P m each. each.meets read rest stands) kind has;
      ends = of_kind-gives Each (can_end (work_of rewrite) answer ≡ true) (λ S G E L P m each. each.ends) kind has;
      reads = λ read stands. of_kind-gives Each ReadsSlot (λ S G E L P m each. each.reads read stands) kind has;
    }
