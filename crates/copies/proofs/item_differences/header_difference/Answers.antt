use Rattle.std.proofs.Common.{rules}
use Rattle.record_grammar.specs.declared.item.Item.TheVariants as items
use Rattle.copies.specs.declared.difference.Difference.TheVariants as differences
use Rattle.det_values.proofs.Equality.{profile_decides}
use Rattle.copies.proofs.Shown.{header_places, none-if, some-if}
use Rattle.copies.proofs.item_differences.header_difference.Goals as goal

pub are_equal_items-requires-clause-place : goal.are_equal_items-requires-clause-place
are_equal_items-requires-clause-place c =
    header_places c.args.left c.args.right c.args.left_bytes.now c.args.right_bytes.now c.requires.0 c.requires.1 c.requires.2 c.requires.3

pub returns-then-are_equal_items : goal.returns-then-are_equal_items
returns-then-are_equal_items c p q one other number =
    none-if _ p q differences.Header (profile_decides p q)
    (let same = (c.are_equal_items.ensures (items.Header p) (items.Header q) one other).0 (search rules) in cc)

pub returns : goal.returns
returns c p q one other number =
    some-if _ p q differences.Header (profile_decides p q)
    (λ same. let equal = (c.are_equal_items.ensures (items.Header p) (items.Header q) one other).1 (cc) in search rules)
