use Rattle.std.proofs.Common.{◌∙◌, ap}
use Rattle.std.specs.Option.{option_map}
use Rattle.cli_words.specs.Reading.{reading_value}
use Rattle.cli_words.proofs.Steps.{goes_on, ends, is_whole}
use Rattle.cli_words.proofs.reading.Reading.with_words.Goals as goal

pub returns-in_err-reading : goal.returns-in_err-reading
returns-in_err-reading c =
    ap (option_map reading_value) c.from_residual.ensures
    ∙ ends _ c.args.words.now c.loop-word.word-index (reading_value c.loop-word.reading) c.loop-word.invariant
    c.word-item.result c.as_str.result.now c.loop-word-test.true c.word-item.is c.as_str.ensures.value c.in_err-reading.ensures

pub loop-word-preserved : goal.loop-word-preserved
loop-word-preserved c =
    goes_on _ c.args.words.now c.loop-word.word-index (reading_value c.loop-word.reading) c.loop-word.invariant
    c.word-item.result c.as_str.result.now c.loop-word-test.true c.word-item.is c.as_str.ensures.value
    (reading_value c.in_ok-reading.reading) c.in_ok-reading.ensures

pub returns : goal.returns
returns c =
    is_whole _ c.args.words.now c.loop-word.word-index (reading_value c.loop-word.reading) c.loop-word.invariant c.loop-word-test.false
