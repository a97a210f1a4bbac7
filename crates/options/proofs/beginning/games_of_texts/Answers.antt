use Rattle.std.proofs.Common.{◌∙◌, ◌++◌, ◌∷◌, [], ap, drop, map, option_and_then, sym, ◌+◌}
use Rattle.options.specs.Beginnings.{with_games}
use Rattle.options.proofs.Keeping.{more_games}
use Rattle.options.proofs.beginning.games_of_texts.Goals as goal

pub returns-in-None : goal.returns-in-None
returns-in-None c =
    let texts = c.args.texts.now in
    let games = c.loop-text.games.items in
    let place = c.loop-text.text-index in
    sym (c.loop-text.invariant ∙ more_games games texts place _ c.loop-text-test.true
    ∙ ap (option_and_then (λ game. with_games (games ++ game ∷ []) (drop (place + 1) (map (λ text. text.now) texts))))
    (sym c.game_of_text.ensures ∙ c.in-None.is))

pub loop-text-preserved : goal.loop-text-preserved
loop-text-preserved c =
    let texts = c.args.texts.now in
    let games = c.loop-text.games.items in
    let place = c.loop-text.text-index in
    c.loop-text.invariant ∙ more_games games texts place _ c.loop-text-test.true
    ∙ ap (option_and_then (λ game. with_games (games ++ game ∷ []) (drop (place + 1) (map (λ text. text.now) texts))))
    (sym c.game_of_text.ensures ∙ c.in-Some.is)
    ∙ ap (λ more. with_games more (drop (place + 1) (map (λ text. text.now) texts))) (sym c.in_ok-push-in-Some.ensures.items)
