-- The texts of lists, from one of their items on.
use Rattle.std.proofs.Common.{◌≡◌, ℕ, ◌+◌, ◌<◌, add-one, List, ◌∷◌, ◌++◌, length, get_or, drop, refl, drop-cons}
use Rattle.schedule_texts.specs.declared.schedule_text.WrittenGame.{WrittenGame}
use Rattle.schedule_texts.specs.Faults.{no_game_line, no_game_lines}

pub no_games_from : (n : ℕ) (ws : List WrittenGame) (i : ℕ) (w : WrittenGame) → i < length ws
    → no_game_lines n (drop i ws) ≡ no_game_line n (get_or ws i w) ++ no_game_lines n (drop (i + 1) ws)
no_games_from n ws i w within =
    let here : drop i ws ≡ get_or ws i w ∷ drop (i + 1) ws = rw (add-one, drop-cons ws i w within) refl in
    rw here refl
