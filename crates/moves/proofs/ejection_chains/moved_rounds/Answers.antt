use Rattle.std.proofs.Common.{◌≡◌, ℕ, ◌-◌, ◌^◌, ◌<◌, false, inl, inr, ◌||◌, eqb, refl, sym, ◌∙◌, ap, subst, arith}
use Rattle.std.proofs.Math.Path.{fun_ext}
use Rattle.league.specs.Limits.{max_rounds}
use Rattle.league.specs.Sets.{has, with_number}
use Rattle.league.proofs.ForCallers.{with_number-grows}
use Rattle.fixtures.specs.Closed.{IsLeastClosed, shares_opponent}
use Rattle.fixtures.proofs.ForCallers.{member_least_closed, shares_in_range, are_apart_never}
use Rattle.moves.proofs.ejection.Added.{with_added}
use Rattle.moves.proofs.move_laws.Checked.{IsPartTeams, part_teams-checked}
use Rattle.moves.proofs.ejection.EjectedRounds.{Follows-cell, IsEjectedRounds-start, IsLeastClosed-ejected, IsEjectedRounds-next, next-false}
use Rattle.moves.proofs.ejection_chains.moved_rounds.Goals as goal

pub loop-found-init : goal.loop-found-init
loop-found-init c =
    let checked = part_teams-checked c.args.schedule.now c.args.i c.args.j c.args.k c.requires.checked in
    record {
      ejected = IsEjectedRounds-start c.args.schedule.now c.args.i c.args.j c.args.k
          (has c.empty-found.result) _ checked.in_range
          (are_apart_never c.args.schedule.now c.args.i c.args.j c.args.k checked.apart)
          c.empty-found.ensures.members (λ r. refl);
      fresh = c.empty-found.ensures.members c.args.k;
      below = c.empty-found.ensures.below max_rounds;
    }

checked_at : (c : goal.At-loop-found) → IsPartTeams c.args.schedule.now c.args.i c.args.j c.args.k
checked_at c = part_teams-checked c.args.schedule.now c.args.i c.args.j c.args.k c.requires.checked

pub round_of_same_opponent-next-requires : goal.round_of_same_opponent-next-requires
round_of_same_opponent-next-requires c = record {
  i = (checked_at c).pair.home_in;
  j = (checked_at c).pair.away_in;
  round = c.loop-found.invariant.ejected.last_below;
  first = λ e. c.loop-found.invariant.ejected.last_apart ((checked_at c).pair, inl e);
  second = λ e. c.loop-found.invariant.ejected.last_apart ((checked_at c).pair, inr e);
}

pub with-found-requires : goal.with-found-requires
with-found-requires c = omega (arith, c.loop-found.invariant.ejected.last_below)

least : (c : goal.Then-next-k) →
    IsLeastClosed (shares_opponent c.args.schedule.now c.args.i c.args.j) c.args.k (has c.with-found.result)
least c =
    let checked = part_teams-checked c.args.schedule.now c.args.i c.args.j c.args.k c.requires.checked in
    let follows =
    Follows-cell _ c.round_of_same_opponent-next.ensures.round_robin _ _ _ _ checked.pair.home_in checked.pair.away_in
    c.loop-found.invariant.ejected.last_below c.loop-found.invariant.ejected.last_apart
    c.round_of_same_opponent-next.ensures.value in
    subst (IsLeastClosed (shares_opponent c.args.schedule.now c.args.i c.args.j) c.args.k)
    (fun_ext (λ r. sym (c.with-found.ensures.members r)))
    (IsLeastClosed-ejected c.args.schedule.now c.round_of_same_opponent-next.ensures.round_robin c.args.i
    c.args.j c.args.k
    c.loop-found.round _ (with_added c.loop-found.round (has c.loop-found.found)) checked.pair.home_in
    checked.pair.away_in
    c.loop-found.invariant.ejected follows c.if-next-k.true)

pub returns-then-next-k-clause-least : goal.returns-then-next-k-clause-least
returns-then-next-k-clause-least c = least c

pub returns-then-next-k-clause-members : goal.returns-then-next-k-clause-members
returns-then-next-k-clause-members c =
    let checked = part_teams-checked c.args.schedule.now c.args.i c.args.j c.args.k c.requires.checked in
    member_least_closed _ _ _
    (shares_in_range c.args.schedule.now c.round_of_same_opponent-next.ensures.round_robin c.args.i
    c.args.j checked.pair)
    checked.in_range (has c.with-found.result) (least c)

-- the set grows by the last round
smaller : (found more round : ℕ) → more ≡ with_number found round → has found round ≡ false → found < 2 ^ max_rounds →
    2 ^ max_rounds - more < 2 ^ max_rounds - found
smaller found more round is fresh below = omega (arith, with_number-grows found round fresh)

pub loop-found-smaller : goal.loop-found-smaller
loop-found-smaller c =
    smaller c.loop-found.found c.with-found.result c.loop-found.round c.with-found.ensures.value
    c.loop-found.invariant.fresh
    c.loop-found.invariant.below

pub loop-found-preserved : goal.loop-found-preserved
loop-found-preserved c =
    let checked = part_teams-checked c.args.schedule.now c.args.i c.args.j c.args.k c.requires.checked in
    let follows =
    Follows-cell _ c.round_of_same_opponent-next.ensures.round_robin _ _ _ _ checked.pair.home_in checked.pair.away_in
    c.loop-found.invariant.ejected.last_below c.loop-found.invariant.ejected.last_apart
    c.round_of_same_opponent-next.ensures.value in
    record {
      ejected = IsEjectedRounds-next c.args.schedule.now c.round_of_same_opponent-next.ensures.round_robin c.args.i
          c.args.j c.args.k
          c.loop-found.round _ (with_added c.loop-found.round (has c.loop-found.found)) checked.pair.home_in
          checked.pair.away_in
          c.loop-found.invariant.ejected follows c.if-next-k.false _
          (λ r. ap (λ b. eqb r c.round_of_same_opponent-next.result || b) (c.with-found.ensures.members r));
      fresh = c.with-found.ensures.members c.round_of_same_opponent-next.result ∙
          next-false c.args.schedule.now c.round_of_same_opponent-next.ensures.round_robin c.args.i c.args.j c.args.k
          c.loop-found.round _ (with_added c.loop-found.round (has c.loop-found.found)) checked.pair.home_in
          checked.pair.away_in
          c.loop-found.invariant.ejected follows c.if-next-k.false;
      below = c.with-found.ensures.below max_rounds c.loop-found.invariant.below
          (omega (arith, c.loop-found.invariant.ejected.last_below));
    }
