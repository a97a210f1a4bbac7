use Rattle.std.proofs.Common.{sym, ◌∙◌}
use Rattle.std.proofs.lemmas.Bool.{eq-eqb, eqb-true}
use Rattle.sets.proofs.PairSets.{no_firsts, firsts_none}
use Rattle.sets.proofs.pairs.PairSet.is_empty.Goals as goal

pub returns : goal.returns
returns c = (
  λ yes. sym c.self.view_is ∙ no_firsts _ _ c.self.invariant (eqb-true c.self.inside.firsts c.empty.result (sym c.eq.ensures ∙ yes) ∙ c.empty.ensures.value),
  λ none. c.eq.ensures ∙ eq-eqb c.self.inside.firsts c.empty.result (firsts_none _ _ c.self.invariant (c.self.view_is ∙ none) ∙ sym c.empty.ensures.value),
)
