use Rattle.std.proofs.Common.{◌≡◌, true, false, not, sym, ◌∙◌, ap, ap₂}
use Rattle.std.specs.Prelude.{◌==◌, ◌||◌}
use Rattle.std.specs.Bool.{beq}
use Rattle.std.proofs.lemmas.Bool.{cond-true, cond-false}
use Rattle.fixtures.specs.Changes.{flips}
use Rattle.fixtures.specs.Games.{is_home}
use Rattle.tours.proofs.streaks_and_repeats.StreaksDelta.{flipped_row}
use Rattle.tours.proofs.streaks_delta.flipped_streaks.Goals as goal
use Rattle.tours.proofs.streaks_delta.flipped_streaks.Goals.{Then-game_at, After-streaks_in-2}

stays : (c : Then-game_at) → flips c.args.schedule.now c.args.k c.args.l c.args.team ≡ false
unfolding flips is_home
stays c =
    ap not (ap₂ (λ a b. beq a.home b.home) (sym c.game_at.ensures.value) (sym c.game_at-2.ensures.value) ∙ c.if-game_at.true)

flipping : (c : After-streaks_in-2) → flips c.args.schedule.now c.args.k c.args.l c.args.team ≡ true
unfolding flips is_home
flipping c =
    ap not (ap₂ (λ a b. beq a.home b.home) (sym c.game_at.ensures.value) (sym c.game_at-2.ensures.value) ∙ c.if-game_at.false)

pub returns-then-game_at-clause-before : goal.returns-then-game_at-clause-before
returns-then-game_at-clause-before c = sym (cond-false _ _ _ (stays c))

pub returns-then-game_at-clause-after : goal.returns-then-game_at-clause-after
returns-then-game_at-clause-after c = sym (cond-false _ _ _ (stays c))

pub returns-clause-before : goal.returns-clause-before
returns-clause-before c =
    c.streaks_in.ensures.value c.args.schedule.now c.args.team (sym c.rounds-rounds.ensures.number) c.home_rounds-home.ensures.members ∙
    sym (cond-true _ _ _ (flipping c))

pub returns-clause-after : goal.returns-clause-after
returns-clause-after c =
    c.streaks_in-2.ensures.value _ c.args.team (sym c.rounds-rounds.ensures.number)
    (flipped_row c.args.schedule.now c.args.team c.args.k c.args.l c.home_rounds-home.result c.with-2.result
    c.symmetric_difference-flipped.result
    c.requires.round_robin (record { home_in = c.requires.k; away_in = c.requires.l; distinct = c.requires.distinct }) c.requires.team
    c.home_rounds-home.ensures.members (flipping c)
    (λ r. c.with-2.ensures.members r ∙ ap (λ b. r == c.args.l || b) (c.with.ensures.members r ∙
    ap (λ b. r == c.args.k || b) (c.empty.ensures.members r)))
    c.symmetric_difference-flipped.ensures.members) ∙
    sym (cond-true _ _ _ (flipping c))
