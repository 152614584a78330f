use Rattle.det_reading_c.proofs.Elements.{drawn_one, drawn_two, no_draws}
use Rattle.det_reading_c.proofs.frame_parts.element_of.Goals as goal

pub returns-in-One : goal.returns-in-One
returns-in-One c bytes e =
    rw (c.in-One.is, c.drawn_element.ensures) (drawn_one bytes c.args.used.now c.args.rest.now e)

pub returns-in-Some : goal.returns-in-Some
returns-in-Some c bytes e =
    rw (c.in-Two.is, c.drawn_element-in-Some.ensures)
    (drawn_two bytes c.args.used.now c.args.rest.now c.in-Some.after.now c.in-Some.draws e c.in-Some.ensures)

pub returns-in-None : goal.returns-in-None
returns-in-None c bytes e = rw c.in-Two.is (no_draws bytes c.args.used.now c.args.rest.now e c.in-None.ensures)
