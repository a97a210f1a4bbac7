use Rattle.std.proofs.Common.{◌≡◌, ℕ, sym, ◌∙◌, ap, arith}
use Rattle.std.proofs.lemmas.Bool.{eqb-true}
use Rattle.league.specs.Limits.{max_rounds}
use Rattle.league.specs.Sets.{has}
use Rattle.league.specs.Sums.{count_where}
use Rattle.league.proofs.ForCallers.{count_where_none, has_empty}
use Rattle.tours.proofs.streaks_and_repeats.StreakStarts.{all_streaks_counted}
use Rattle.tours.proofs.streaks.streaks_in.Goals as goal

pub returns-then-eq-clause-value : goal.returns-then-eq-clause-value
returns-then-eq-clause-value c = λ g t season homes.
    let none : c.streak_starts-streaks.result ≡ 0 =
    eqb-true _ _ (sym c.eq.ensures ∙ c.if-eq.true) ∙ c.empty.ensures.value in
    sym (count_where_none max_rounds (has 0) (λ k below. has_empty k)) ∙ ap (λ (set : ℕ). count_where max_rounds (has set)) (sym none) ∙
    all_streaks_counted g t c.args.at_most c.streak_starts-streaks.result (omega (arith, season, c.requires.season))
    (c.streak_starts-streaks.ensures.members g t season homes)

pub returns-else-eq-clause-value : goal.returns-else-eq-clause-value
returns-else-eq-clause-value c = λ g t season homes.
    let same : c.from.result ≡ c.len.result = omega arith in
    same ∙ c.len.ensures.value ∙
    all_streaks_counted g t c.args.at_most c.streak_starts-streaks.result (omega (arith, season, c.requires.season))
    (c.streak_starts-streaks.ensures.members g t season homes)
