use Rattle.std.proofs.Common.{ℕ, ◌+◌, ◌-◌, nat_lt, ◌∙◌, ap, subst, sym, arith}
use Rattle.std.proofs.lemmas.Bool.{lt-ltb}
use Rattle.league.specs.Sets.{has, IsBelow}
use Rattle.league.specs.Sums.{sum_where, count_where}
use Rattle.rules.specs.Deviations.{over}
use Rattle.rules.proofs.counted.CountedRounds.{starts_of_counted}
use Rattle.rules.proofs.classes.ca3.over_from_starts.Goals as goal

pub over_in_windows_of-requires-clause-starts : goal.over_in_windows_of-requires-clause-starts
over_in_windows_of-requires-clause-starts c =
    subst (λ (n : ℕ). IsBelow (n + 1 - c.args.window) c.args.starts) (sym c.rounds-2.ensures.number) c.requires.starts

pub returns-clause-value : goal.returns-clause-value
returns-clause-value c =
    c.over_in_windows_of.ensures.value ∙
    ap (λ n. sum_where (n + 1 - c.args.window) (has c.args.starts)
    (λ first. over (count_where c.args.window (λ k. has c.counted_rounds-counted.result (first + k))) c.args.most))
    c.rounds-2.ensures.number ∙
    starts_of_counted c.args.schedule.now c.args.games.now.side (has c.args.games.now.opponents) c.args.window c.args.most c.args.team
    c.below-season.result c.counted_rounds-counted.result c.counted_rounds-counted.ensures.members c.args.starts
    (λ s k s_below here k_below.
    c.below-season.ensures.members (s + k) ∙ ap (nat_lt (s + k)) c.rounds.ensures.number ∙ lt-ltb (s + k) _ (omega arith))
