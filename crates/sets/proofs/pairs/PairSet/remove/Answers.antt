use Rattle.std.proofs.Common.{◌∙◌, ◌&&◌, ◌||◌, ◌==◌, not, ap, arith}
use Rattle.std.proofs.Math.Bool.{or-false}
use Rattle.sets.specs.Sets.{has}
use Rattle.sets.specs.Pairs.{seconds_of, has_pair}
use Rattle.sets.proofs.PairSets.{has_pair-removed}
use Rattle.sets.proofs.pairs.PairSet.remove.Goals as goal

pub returns : goal.returns
returns c =
    λ f s.
    ap (λ pairs. has_pair pairs f s) c.write.ensures ∙
    has_pair-removed c.args.self.now c.args.first c.args.second c.difference-row.result f s (omega (arith, c.row.ensures.rows))
    (λ t.
    c.difference-row.ensures.members t ∙ ap (λ row. has row t && not (has c.with.result t)) c.row.ensures.value ∙
    ap (λ b. has (seconds_of c.args.self.now c.args.first) t && not b) (c.with.ensures.members t ∙
    ap (λ b. t == c.args.second || b) (c.empty.ensures.members t) ∙ or-false (t == c.args.second)))
