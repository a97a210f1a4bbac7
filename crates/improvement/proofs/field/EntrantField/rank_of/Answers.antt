use Rattle.std.proofs.Common.{◌∙◌, rules, tests}
use Rattle.std.proofs.lemmas.Iterator.Consumers.{YieldsList-from_deque}
use Rattle.std.proofs.lemmas.Iterator.Search.{position_from_yields_List}
use Rattle.improvement.specs.within.Fields.{is_before}
use Rattle.improvement.proofs.Bests.{index_or}
use Rattle.improvement.proofs.field.EntrantField.rank_of.Goals as goal

pub returns : goal.returns
returns c =
    let e = c.args.entrant.now in
    let entrants = c.args.self.now.entrants in
    c.unwrap_or.ensures ∙ index_or (is_before e) entrants.items _ _ (c.len.ensures ∙ entrants.ok.0)
    (position_from_yields_List (is_before e) _ _ _ c.position.ensures.ran (YieldsList-from_deque entrants.items cc)
    (λ x b q k. search (rules, tests)))
