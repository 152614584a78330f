use Rattle.std.proofs.Common.{◌≡◌, ◌*◌, length, Ok}
use Rattle.job.specs.Pass.{block_size}
use Rattle.job.specs.Passes.{block_in, pass_result_of}
use Rattle.pass_in_blocks.specs.ShownElements.{shown_in, frame_before}
use Rattle.pass_in_blocks.specs.Steps.{first_in, ArePlaces}
use Rattle.pass_in_blocks.proofs.pass_end.finish_pass.Given as goal

-- the blocks before number b are done
abbrev pub invariant-join : goal.invariant-join
invariant-join g l = record {
  done : first_in g.J.Job.meaning l.pass (block_size (length l.pass.elements) * l.b) ≡ Ok (pass_result_of l.all);
  shown : l.all.shown
      ≡ frame_before g.J.Job.meaning l.pass (block_size (length l.pass.elements) * l.b) l.all.elements l.all.draws;
  places : ArePlaces (block_in g.J.Job.meaning l.pass) (shown_in g.J.Job.meaning l.pass) l.places.items;
}
