use Rattle.run_setup.proofs.Keeping.{keeps-behind}
use Rattle.twin_cli.specs.Words.{twins_value}
use Rattle.twin_cli.proofs.Finding.{found-no-manifest, found-no-text, found-compared}
use Rattle.twin_cli.proofs.find_verdict.find_verdict.Goals as goal

pub returns-in-Err : goal.returns-in-Err
returns-in-Err g c =
    rw c.from.ensures (found-no-manifest (twins_value c.args.twins.now) (g.S.Slots.sees c.args.shelf.now) _ c.in-Err.stopped
    c.in-Err.ensures.refused c.in-Err.ensures.traffic.cause c.in-Err.ensures.writes_nothing c.read_setup.ensures.asked
    c.read_setup.ensures.earlier)

pub returns-in-Err-read_text : goal.returns-in-Err-read_text
returns-in-Err-read_text g c =
    rw c.from-in-Err-read_text.ensures (found-no-text (twins_value c.args.twins.now) (g.S.Slots.sees c.args.shelf.now) c.in-Ok.setup
    c.in-Ok.ensures.manifest (g.S.Slots.sees c.read_setup.new.shelf) _ c.read_setup.ensures.holds c.read_setup.ensures.asked
    c.read_text.ensures.asked
    (keeps-behind (g.S.Slots.sees c.args.shelf.now) (g.S.Slots.sees c.read_setup.new.shelf) (g.S.Slots.sees c.read_text.new.shelf)
    c.read_setup.ensures.piece c.read_text.ensures.earlier) c.in-Err-read_text.stopped c.in-Err-read_text.ensures.long
    c.in-Err-read_text.ensures.traffic.cause c.in-Err-read_text.ensures.writes_nothing c.read_setup.ensures.traffic.counted)

pub returns : goal.returns
returns g c =
    found-compared (twins_value c.args.twins.now) (g.S.Slots.sees c.args.shelf.now) c.in-Ok.setup c.in-Ok.ensures.manifest
    (g.S.Slots.sees c.read_setup.new.shelf) _ c.read_setup.ensures.holds c.read_setup.ensures.asked c.read_text.ensures.asked
    (keeps-behind (g.S.Slots.sees c.args.shelf.now) (g.S.Slots.sees c.read_setup.new.shelf) (g.S.Slots.sees c.read_text.new.shelf)
    c.read_setup.ensures.piece c.read_text.ensures.earlier) c.in-Ok-read_text.text c.compare_over.result
    c.in-Ok-read_text.ensures.text c.compare_over.ensures.finds (record {
      reads_nothing = c.compare_over.ensures.reads_nothing;
      writes_nothing = c.compare_over.ensures.writes_nothing;
      words = c.compare_over.ensures.words;
    })
