use Rattle.std.proofs.Common.{◌≡◌, [], drop, map}
use Rattle.options.specs.Beginnings.{with_games}
use Rattle.options.proofs.beginning.games_of_texts.Given as goal

abbrev pub invariant-loop-text : goal.invariant-loop-text
invariant-loop-text l =
    with_games [] (map (λ text. text.now) l.texts) ≡ with_games l.games.items (drop l.text-index (map (λ text. text.now) l.texts))
