use Rattle.copies.proofs.Holding.{other-is-held, like-held}
use Rattle.copies.proofs.copy_readers.compare_item.Goals as goal

pub difference_at-requires-clause-other : goal.difference_at-requires-clause-other
difference_at-requires-clause-other g c =
    let b = c.requires.behind in
    let i = c.requires.item in
    let like = c.in_ok-like.ensures.like b.0 b.1 b.2 i.0 b.3 i.1 in
    other-is-held c.in_ok-like.like i.0 c.compare_next_item.new.reader like.0 like.1

pub returns-clause-row : goal.returns-clause-row
returns-clause-row g c first given slot item behind spelled row =
    let like = c.in_ok-like.ensures.like first given slot item behind spelled in (
      like.0,
      like.2,
      like-held c.args.place.row c.in_ok-like.like item c.compare_next_item.new.reader like.0 c.difference_at.result given like.1
          (c.difference_at.ensures item spelled) row,
    )
