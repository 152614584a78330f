use Rattle.std.proofs.Common.{List, ℕ, drop, sym, ◌∙◌, ap}
use Rattle.std.specs.Prelude.{String}
use Rattle.std.specs.Global.{Global}
use Rattle.std.proofs.lemmas.List.{take_rest}
use Rattle.cli_words.specs.Names.{texts}
use Rattle.cli_words.proofs.Steps.{many}
use Rattle.cli_words.proofs.reading.read_words.Goals as goal
use Rattle.cli_words.specs.FirstWord.{read}

pub returns-in-len3-up : goal.returns-in-len3-up
returns-in-len3-up c =
    let words = c.args.words.now in
    c.read-in-len3-up.ensures ∙ ap (λ (rest : List (String Global)). read c.as_str-in-len3-up.result.now (texts rest)) (take_rest words 1)
    ∙ ap (λ (first : List ℕ). read first (texts (drop 1 words))) c.as_str-in-len3-up.ensures.value
    ∙ sym (many words c.first-item-2.result c.in-len3-up.len_at_least c.first-item-2.is)
