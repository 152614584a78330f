use Rattle.det_values.specs.Blocks.{joined}
use Rattle.det_values.specs.Spelling.{spelled_all}
use Rattle.det_io.proofs.Answered.{on-err}
use Rattle.recorder.proofs.lemmas.run_writer.Parting.{first-short, second-short, all-written, third-cut}
use Rattle.recorder.proofs.run_writer.frame_parts.write_parts.Goals as goal

pub returns-in_err-write_all-clause-short : goal.returns-in_err-write_all-clause-short
returns-in_err-write_all-clause-short g c =
    on-err _ (first-short c.args.front.now (spelled_all (joined c.args.blocks.now)) c.args.behind.now _ _ c.in_err-write_all.ensures.short)

pub returns-in_err-write_blocks-clause-short : goal.returns-in_err-write_blocks-clause-short
returns-in_err-write_blocks-clause-short g c =
    on-err _ (second-short c.args.front.now (spelled_all (joined c.args.blocks.now)) c.args.behind.now _ _ _ c.in_ok-write_all.ensures.all
    c.in_err-write_blocks.ensures.short)

pub returns-clause-all : goal.returns-clause-all
returns-clause-all g c =
    all-written c.args.front.now (spelled_all (joined c.args.blocks.now)) c.args.behind.now _ _ _ _ _ c.in_ok-write_all.ensures.all
    c.in_ok-write_blocks.ensures.all c.write_all-2.ensures.all

pub returns-clause-short : goal.returns-clause-short
returns-clause-short g c =
    third-cut c.args.front.now (spelled_all (joined c.args.blocks.now)) c.args.behind.now _ _ _ _ _ c.in_ok-write_all.ensures.all
    c.in_ok-write_blocks.ensures.all c.write_all-2.ensures.short
