use Rattle.std.proofs.Common.{◌≡◌, true, sym, ◌∙◌}
use Rattle.league.specs.Starts.{is_given}
use Rattle.board_texts.specs.SearchText.{moved_at_best}
use Rattle.board_texts.proofs.search_text.write_moved.Goals as goal

pub returns : goal.returns
unfolding moved_at_best
returns g c =
    let given : is_given c.args.board.now.league.origin.start ≡ true =
    sym (rw c.league-league.ensures at c.given.ensures) ∙ c.if-not-given.false in
    let moved = rw (c.league-league.ensures, c.best_or_present.ensures.games) at c.moved_games.ensures.value in
    rw (given, ← moved) c.write_numbered.ensures
