use Rattle.std.proofs.Common.{◌∙◌, rules, tests}
use Rattle.std.proofs.lemmas.Iterator.{YieldsList-from_slice}
use Rattle.std.proofs.lemmas.Iterator.Search.{position_from_yields_List}
use Rattle.text_lines.specs.Words.{is_blank}
use Rattle.text_lines.proofs.Splitting.{index_or_length}
use Rattle.text_lines.proofs.words.word_length.Goals as goal

pub returns : goal.returns
returns c =
    let xs = c.args.text.now in
    c.unwrap_or.ensures ∙ index_or_length is_blank xs _
    (position_from_yields_List is_blank _ _ _ c.position.ensures.ran (YieldsList-from_slice xs cc) (λ x b q k. search (rules, tests)))
