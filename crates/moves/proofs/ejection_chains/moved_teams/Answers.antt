use Rattle.std.proofs.Common.{◌≡◌, ℕ, ◌-◌, ◌^◌, ◌<◌, false, ◌||◌, eqb, refl, ◌∙◌, ap, arith}
use Rattle.league.specs.Limits.{max_teams}
use Rattle.league.specs.Sets.{has, with_number}
use Rattle.league.proofs.ForCallers.{le-with_number, with_number-grows}
use Rattle.fixtures.specs.Closed.{IsLeastClosed, plays_in}
use Rattle.fixtures.proofs.ForCallers.{member_least_closed, meets_cell, plays_in_below}
use Rattle.moves.proofs.ejection.Added.{Adds, with_added}
use Rattle.moves.proofs.ejection.EjectedTeams.{IsEjectedTeams-start, IsLeastClosed-ejected, IsEjectedTeams-next, middle-false}
use Rattle.moves.proofs.ejection_chains.moved_teams.Goals as goal

pub loop-team-init : goal.loop-team-init
loop-team-init c = record {
  ejected = IsEjectedTeams-start c.args.schedule.now c.args.k c.args.l c.args.i (has c.empty-found.result) _ c.requires.i
      c.empty-found.ensures.members (λ t. refl);
  below = c.empty-found.ensures.below max_teams;
}

pub game_at-middle-requires-clause-team : goal.game_at-middle-requires-clause-team
game_at-middle-requires-clause-team c = c.loop-team.invariant.ejected.last_below

-- the set after both teams of an iteration
adds : (team middle : ℕ) (found once twice : ℕ) → ((t : ℕ) → has once t ≡ (eqb t team || has found t)) →
    ((t : ℕ) → has twice t ≡ (eqb t middle || has once t)) → Adds middle (with_added team (has found)) (has twice)
adds team middle found once twice first second t = second t ∙ ap (λ b. eqb t middle || b) (first t)

least : (c : goal.Then-team-i) →
    IsLeastClosed (plays_in c.args.schedule.now c.args.k c.args.l) c.args.i (has c.with-found.result)
least c =
    IsLeastClosed-ejected c.args.schedule.now c.game_at-middle.ensures.round_robin c.args.k c.args.l c.args.i
    c.loop-team.team _ _ _ _
    c.loop-team.invariant.ejected (meets_cell _ _ _ _ c.game_at-middle.ensures.cell)
    (meets_cell _ _ _ _ c.game_at-team.ensures.cell)
    (adds c.loop-team.team _ c.loop-team.found _ _ c.with.ensures.members c.with-found.ensures.members) c.if-team-i.true

pub returns-then-team-i-clause-least : goal.returns-then-team-i-clause-least
returns-then-team-i-clause-least c = least c

pub returns-then-team-i-clause-members : goal.returns-then-team-i-clause-members
returns-then-team-i-clause-members c =
    member_least_closed _ _ _ (plays_in_below c.args.schedule.now c.args.k c.args.l) c.requires.i
    (has c.with-found.result) (least c)

-- the set grows by the team in the middle
smaller : (found once twice team middle : ℕ) → once ≡ with_number found team → twice ≡ with_number once middle →
    has once middle ≡ false → found < 2 ^ max_teams → 2 ^ max_teams - twice < 2 ^ max_teams - found
smaller found once twice team middle first second out below =
    omega (arith, le-with_number found team, with_number-grows once middle out)

pub loop-team-smaller : goal.loop-team-smaller
loop-team-smaller c =
    let out : has c.with.result c.game_at-middle.result.opponent ≡ false =
    c.with.ensures.members c.game_at-middle.result.opponent ∙
    middle-false c.args.schedule.now c.game_at-middle.ensures.round_robin c.args.k c.args.l c.args.i
    c.loop-team.team _ _ _ _
    c.loop-team.invariant.ejected (meets_cell _ _ _ _ c.game_at-middle.ensures.cell)
    (meets_cell _ _ _ _ c.game_at-team.ensures.cell)
    (adds c.loop-team.team _ c.loop-team.found _ _ c.with.ensures.members c.with-found.ensures.members) in
    smaller c.loop-team.found c.with.result c.with-found.result _ _ c.with.ensures.value c.with-found.ensures.value out
    c.loop-team.invariant.below

pub loop-team-preserved : goal.loop-team-preserved
loop-team-preserved c = record {
  ejected = IsEjectedTeams-next c.args.schedule.now c.game_at-middle.ensures.round_robin c.args.k c.args.l c.args.i
      c.loop-team.team _ _ _ _
      c.loop-team.invariant.ejected (meets_cell _ _ _ _ c.game_at-middle.ensures.cell)
      (meets_cell _ _ _ _ c.game_at-team.ensures.cell)
      (adds c.loop-team.team _ c.loop-team.found _ _ c.with.ensures.members c.with-found.ensures.members)
      c.if-team-i.false _ (λ t. refl);
  below = c.with-found.ensures.below max_teams
      (c.with.ensures.below max_teams c.loop-team.invariant.below (omega (arith, c.loop-team.invariant.ejected.last_below)))
      (omega (arith, c.game_at-middle.ensures.cell.pair.away_in));
}
