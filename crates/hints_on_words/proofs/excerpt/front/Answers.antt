use Rattle.std.proofs.Common.{sym, arith}
use Rattle.std.proofs.lemmas.List.{length-take-le, take_all}
use Rattle.hints_on_words.proofs.excerpt.front.Goals as goal

pub slice_bounds-result-end : goal.slice_bounds-result-end
slice_bounds-result-end c = sym (length-take-le 64 c.args.bytes.now (omega arith))

pub returns-else-bytes-gt-MOST : goal.returns-else-bytes-gt-MOST
returns-else-bytes-gt-MOST c = sym (take_all 64 c.args.bytes.now (omega arith))
