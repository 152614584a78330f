use Rattle.std.proofs.Common.{map, sym, ◌∙◌}
use Rattle.std.proofs.lemmas.List.{length-map}
use Rattle.recorder.proofs.run_writer.recording.Recording.append_init.Goals as goal

pub returns-clause-bytes : goal.returns-clause-bytes
returns-clause-bytes g c =
    let shown = g.J.Job.meaning.shown c.args.self.now.engine.job in
    let elements = c.args.self.now.engine.state.elements in
    c.in_ok-put_elements.ensures
    ∙ c.in_ok-encode_init_head.ensures c.args.self.now.profile.format (map shown elements)
    (length-map elements shown ∙ sym c.elements.ensures.count)
