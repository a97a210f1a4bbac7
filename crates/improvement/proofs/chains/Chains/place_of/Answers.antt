use Rattle.std.proofs.Common.{◌∙◌, rules, tests}
use Rattle.std.proofs.lemmas.Iterator.{YieldsList-from_slice}
use Rattle.std.proofs.lemmas.Iterator.Search.{position_from_yields_List}
use Rattle.improvement.specs.Chains.{is_of}
use Rattle.improvement.proofs.Bests.{index_or}
use Rattle.improvement.proofs.chains.Chains.place_of.Goals as goal

pub returns : goal.returns
returns c =
    let bests = c.args.self.now.bests in
    c.unwrap_or.ensures ∙ index_or (is_of c.args.chain) bests.items _ _ (c.len.ensures ∙ bests.ok.0)
    (position_from_yields_List (is_of c.args.chain) _ _ _ c.position.ensures.ran (YieldsList-from_slice bests.items cc)
    (λ x b q k. search (rules, tests)))
