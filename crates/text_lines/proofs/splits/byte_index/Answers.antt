use Rattle.std.proofs.Common.{◌∙◌, rules, tests}
use Rattle.std.specs.Prelude.{◌==◌}
use Rattle.std.proofs.lemmas.Iterator.{YieldsList-from_slice}
use Rattle.std.proofs.lemmas.Iterator.Search.{position_from_yields_List}
use Rattle.text_lines.proofs.Splitting.{index_or_length}
use Rattle.text_lines.proofs.splits.byte_index.Goals as goal

pub returns-clause-index : goal.returns-clause-index
returns-clause-index c =
    let xs = c.args.text.now in
    c.unwrap_or.ensures ∙ index_or_length (λ b. b == c.args.byte) xs _
    (position_from_yields_List (λ b. b == c.args.byte) _ _ _ c.position.ensures.ran (YieldsList-from_slice xs cc)
    (λ x b q k. search (rules, tests)))
