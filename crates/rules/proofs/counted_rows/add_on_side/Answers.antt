use Rattle.std.proofs.Common.{ℕ, ◌+◌, ◌<◌, ◌≤◌, ◌∙◌, ap, nat_lt, arith}
use Rattle.fixtures.specs.Games.{round_count}
use Rattle.rules.specs.within.Walked.{IsRow}
use Rattle.rules.proofs.rows.RowsByRounds.{made_more, row_in_teams}
use Rattle.rules.proofs.counted_rows.add_on_side.Goals.{then-by_own, else-by_own}
use Rattle.rules.proofs.counted_rows.add_on_side.Goals as goal

pub loop-block-preserved : goal.loop-block-preserved
loop-block-preserved c =
    let g = c.args.schedule.now in
    let round = c.min-round.result in
    let teams = c.args.games.now.teams in
    let most : round + 4 ≤ round_count g.teams = omega (arith, c.min-round.ensures, c.rounds-last.ensures.number, c.rounds-last.ensures.least) in
    let Row : ℕ → ℕ → Type 0 = IsRow g c.args.side c.intersection-opponents.result teams in
    let four : (Row round c.if-by_own.first.0) × (Row (round + 1) c.if-by_own.first.1) × (Row (round + 2) c.if-by_own.first.2) ×
    (Row (round + 3) c.if-by_own.first.3) = elim c.if-by_own.branch [
      | then-by_own w ↦
          rw w.first-is (w.own_rows.ensures.first, w.own_rows.ensures.second, w.own_rows.ensures.third, w.own_rows.ensures.fourth)
      | else-by_own w ↦
          rw w.first-is (
            w.guest_rows.ensures.first teams c.requires.teams,
            w.guest_rows.ensures.second teams c.requires.teams,
            w.guest_rows.ensures.third teams c.requires.teams,
            w.guest_rows.ensures.fourth teams c.requires.teams,
          )
    ] in
    let whole : (r row : ℕ) → r < round_count g.teams → Row r row → IsRow g c.args.side c.args.games.now.opponents teams r row =
    λ r row in_r.
    row_in_teams g c.requires.round_robin c.args.side c.below.result _ c.args.games.now.opponents teams r row in_r c.requires.teams
    (λ k. c.below.ensures.members k ∙ ap (nat_lt k) c.teams.ensures.number) c.intersection-opponents.ensures.members in
    made_more _ _ _ _ _ _ _ _ _ _ _ (omega (arith, c.rounds-last.ensures.number, c.rounds-last.ensures.least))
    (omega (arith, c.requires.round_robin.most))
    (omega (arith, c.from-place.ensures, c.min-round.ensures, c.rounds-last.ensures.number)) c.loop-block.invariant
    (rw c.from-place.ensures (whole _ _ (omega (arith, most)) four.0)) (rw c.from-place.ensures (whole _ _ (omega (arith, most)) four.1))
    (rw c.from-place.ensures (whole _ _ (omega (arith, most)) four.2)) (rw c.from-place.ensures (whole _ _ (omega (arith, most)) four.3))
