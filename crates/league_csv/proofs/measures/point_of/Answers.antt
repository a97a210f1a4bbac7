use Rattle.std.proofs.Common.{◌∙◌, rules, tests}
use Rattle.std.proofs.lemmas.Iterator.{YieldsList-from_slice}
use Rattle.std.proofs.lemmas.Iterator.Search.{position_from_yields_List}
use Rattle.text_lines.proofs.ForCallers.{index_or_length}
use Rattle.league_csv.specs.Measures.{is_point}
use Rattle.league_csv.proofs.measures.point_of.Goals as goal

pub returns-clause-value : goal.returns-clause-value
returns-clause-value c =
    let xs = c.args.text.now in
    let p = is_point c.args.separator in
    c.unwrap_or.ensures ∙ index_or_length p xs _
    (position_from_yields_List p _ _ _ c.position.ensures.ran (YieldsList-from_slice xs cc) (λ x b q k. search (rules, tests)))
