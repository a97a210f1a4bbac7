use Rattle.std.proofs.Common.{◌∙◌, ◌||◌, ◌==◌, ap, arith}
use Rattle.sets.specs.Sets.{has}
use Rattle.sets.specs.Pairs.{has_pair}
use Rattle.sets.proofs.PairSets.{has_pair-added}
use Rattle.sets.proofs.pairs.PairSet.add.Goals as goal

pub returns-clause-members : goal.returns-clause-members
returns-clause-members c =
    λ f s.
    ap (λ pairs. has_pair pairs f s) c.write.ensures ∙
    has_pair-added c.args.self.now c.args.first c.args.second c.with-row.result f s (omega (arith, c.row.ensures.rows))
    (λ t. c.with-row.ensures.members t ∙ ap (λ row. t == c.args.second || has row t) c.row.ensures.value)
