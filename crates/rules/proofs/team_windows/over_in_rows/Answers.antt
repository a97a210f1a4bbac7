use Rattle.std.proofs.Common.{ℕ, ◌+◌, ◌-◌, ◌*◌, ◌<◌, ◌∙◌, ap, arith}
use Rattle.league.specs.Limits.{max_teams, max_rounds}
use Rattle.league.specs.Sets.{has}
use Rattle.league.proofs.ForCallers.{has_empty, lowest_below, sum_where_le, sum_where_none, sum_where_without}
use Rattle.rules.specs.within.TeamWindows.{over_from}
use Rattle.rules.proofs.team_windows.over_in_rows.Goals as goal

pub over_in_two-total-requires-clause-season : goal.over_in_two-total-requires-clause-season
over_in_two-total-requires-clause-season c =
    let m = max_rounds + 1 - c.args.window in
    let in_range : c.in-Some.start < m = lowest_below m _ _ _ (c.loop-start.invariant.below m c.requires.starts) c.in-Some.ensures.steps in
    omega (arith, in_range, c.if-start-first.true, c.into.ensures, c.from-length.ensures)

pub overflow_add-total : goal.overflow_add-total
overflow_add-total c =
    let m = max_rounds + 1 - c.args.window in
    let left = c.loop-start.invariant.below m c.requires.starts in
    omega (
      arith,
      rw c.in-Some-waiting.is at c.loop-start.invariant.within m c.requires.starts,
      sum_where_without m _ _ _ (λ _. 2 * max_teams) (lowest_below m _ _ _ left c.in-Some.ensures.steps) c.in-Some.ensures.steps,
      sum_where_le m (2 * max_teams) (has c.args.starts) (λ _. 2 * max_teams) (λ k below here. omega arith),
      c.over_in_two-total.ensures.most,
    )

pub loop-start-preserved-then-start-first : goal.loop-start-preserved-then-start-first
loop-start-preserved-then-start-first c =
    let so_far = c.loop-start.invariant in
    let taken = c.in-Some.ensures.steps in
    record {
      waits = tt;
      below = λ m below. omega (arith, so_far.below m below, taken.fewer);
      sum = λ n m in_teams below.
          let f : ℕ → ℕ = over_from c.args.rows.now c.args.teams c.args.window c.args.most n in
          omega (
            arith,
            rw c.in-Some-waiting.is at so_far.sum n m in_teams below,
            sum_where_without m _ _ _ f (lowest_below m _ _ _ (so_far.below m below) taken) taken,
            ap f c.if-start-first.true,
            rw (c.into.ensures, c.from-length.ensures) at c.over_in_two-total.ensures.value n in_teams,
          );
      within = λ m below.
          omega (
            arith,
            rw c.in-Some-waiting.is at so_far.within m below,
            sum_where_without m _ _ _ (λ _. 2 * max_teams) (lowest_below m _ _ _ (so_far.below m below) taken) taken,
            c.over_in_two-total.ensures.most,
          );
    }

pub overflow_add-total-in-Some-2 : goal.overflow_add-total-in-Some-2
overflow_add-total-in-Some-2 c =
    let m = max_rounds + 1 - c.args.window in
    omega (
      arith,
      rw c.in-Some-2.is at c.loop-start.invariant.within m c.requires.starts,
      sum_where_le m (2 * max_teams) (has c.args.starts) (λ _. 2 * max_teams) (λ k below here. omega arith),
      c.over_in_one-total.ensures.most,
    )

pub loop-start-preserved-in-Some-2 : goal.loop-start-preserved-in-Some-2
loop-start-preserved-in-Some-2 c =
    let so_far = c.loop-start.invariant in
    let taken = c.in-Some.ensures.steps in
    let season = max_rounds + 1 - c.args.window in
    let in_range : c.in-Some.start < season = lowest_below season _ _ _ (so_far.below season c.requires.starts) taken in
    record {
      waits = omega (arith, in_range);
      below = λ m below. omega (arith, so_far.below m below, taken.fewer);
      sum = λ n m in_teams below.
          let f : ℕ → ℕ = over_from c.args.rows.now c.args.teams c.args.window c.args.most n in
          omega (
            arith,
            rw c.in-Some-2.is at so_far.sum n m in_teams below,
            sum_where_without m _ _ _ f (lowest_below m _ _ _ (so_far.below m below) taken) taken,
            rw (c.into-in-Some-2.ensures, c.from-length.ensures) at c.over_in_one-total.ensures.value n in_teams,
          );
      within = λ m below.
          omega (
            arith,
            rw c.in-Some-2.is at so_far.within m below,
            sum_where_without m _ _ _ (λ _. 2 * max_teams) (lowest_below m _ _ _ (so_far.below m below) taken) taken,
            c.over_in_one-total.ensures.most,
          );
    }

pub loop-start-preserved : goal.loop-start-preserved
loop-start-preserved c =
    let so_far = c.loop-start.invariant in
    let taken = c.in-Some.ensures.steps in
    let season = max_rounds + 1 - c.args.window in
    let in_range : c.in-Some.start < season = lowest_below season _ _ _ (so_far.below season c.requires.starts) taken in
    record {
      waits = omega (arith, in_range);
      below = λ m below. omega (arith, so_far.below m below, taken.fewer);
      sum = λ n m in_teams below.
          omega (
            arith,
            rw c.in-None-waiting.is at so_far.sum n m in_teams below,
            sum_where_without m _ _ _ (over_from c.args.rows.now c.args.teams c.args.window c.args.most n)
                (lowest_below m _ _ _ (so_far.below m below) taken) taken,
          );
      within = λ m below.
          omega (
            arith,
            rw c.in-None-waiting.is at so_far.within m below,
            sum_where_without m _ _ _ (λ _. 2 * max_teams) (lowest_below m _ _ _ (so_far.below m below) taken) taken,
          );
    }

pub overflow_add-result : goal.overflow_add-result
overflow_add-result c =
    let m = max_rounds + 1 - c.args.window in
    omega (
      arith,
      rw c.in-Some-waiting-2.is at c.loop-start.invariant.within m c.requires.starts,
      sum_where_le m (2 * max_teams) (has c.args.starts) (λ _. 2 * max_teams) (λ k below here. omega arith),
      c.over_in_one.ensures.most,
    )

pub returns-in-Some-waiting-2 : goal.returns-in-Some-waiting-2
returns-in-Some-waiting-2 c = λ n m in_teams below.
    omega (
      arith,
      rw c.in-Some-waiting-2.is at c.loop-start.invariant.sum n m in_teams below,
      sum_where_none m _ (over_from c.args.rows.now c.args.teams c.args.window c.args.most n)
          (λ k _. ap (λ s. has s k) c.in-None.ensures.steps.0 ∙ has_empty k),
      rw (c.into-in-Some-waiting-2.ensures, c.from-length.ensures) at c.over_in_one.ensures.value n in_teams,
    )

pub returns-in-None-waiting-2 : goal.returns-in-None-waiting-2
returns-in-None-waiting-2 c = λ n m in_teams below.
    omega (
      arith,
      rw c.in-None-waiting-2.is at c.loop-start.invariant.sum n m in_teams below,
      sum_where_none m _ (over_from c.args.rows.now c.args.teams c.args.window c.args.most n)
          (λ k _. ap (λ s. has s k) c.in-None.ensures.steps.0 ∙ has_empty k),
    )
