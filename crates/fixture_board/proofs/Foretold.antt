-- What is told of a proposal that isn't made.
use Rattle.std.proofs.Common.{◌≡◌, ◌+◌, [], ◌∷◌, ◌++◌, length, Some, Result, Ok, Err, IsErrAnd, refl, sym, ◌∙◌, ap}
use Rattle.std.proofs.lemmas.Result.{err_from_is_err_and}
use Rattle.league.specs.League.{LeagueData}
use Rattle.fixtures.specs.Games.{Games}
use Rattle.moves.specs.Moves.{moved}
use Rattle.costs.specs.Costs.{cost_of}
use Rattle.costs.specs.declared.cost.Cost.{Cost}
use Rattle.fixture_board.specs.declared.ask.Ask.TheVariants as ask
use Rattle.fixture_board.specs.declared.ask.Proposal.{Proposal}
use Rattle.fixture_board.specs.declared.reply.Why.{Why}
use Rattle.fixture_board.specs.declared.reply.Reply.TheVariants.{Done, No}
use Rattle.fixture_board.specs.History.{cost_at}
use Rattle.fixture_board.specs.within.Kept.{Kept, FollowsHistory, IsForetold}
use Rattle.fixture_board.specs.Record.{Book, book}
use Rattle.fixture_board.specs.Replies.{entry, refusal, reply_of}
use Rattle.fixture_board.proofs.OneMore.{games_of-more, replies_no, replies_done}

-- a proposal that would be refused with the reason that a check answered
pub IsForetold-stopped : (league : LeagueData) (k : Kept) (p : Proposal) {reason : Why} (result : Result Cost Why) →
    IsErrAnd result (λ e. e ≡ reason) → refusal league k.room k.history (ask.Shift p) ≡ Some reason → IsForetold league k p result
IsForetold-stopped league k p {reason} result is refused =
    let q = err_from_is_err_and result is in
    rw (q.1, q.2) refused

-- the cost of the games that the move leads to is that after its entry
pub cost_after_move : {league : LeagueData} {k : Kept} (p : Proposal) (g : Games) (cost : Cost) → FollowsHistory league k →
    g ≡ moved k.games p.mv → cost ≡ cost_of league g → cost ≡ cost_at league (k.history ++ entry 0 (ask.Shift p) ∷ [])
unfolding cost_at
cost_after_move {league} {k} p g cost kept moved_is cost_is =
    cost_is ∙
    ap (cost_of league)
    (moved_is ∙ ap (λ x. moved x p.mv) kept.games_are ∙ sym (games_of-more league k.history (entry 0 (ask.Shift p)) refl))

-- the answers, where the board shows `v`

pub foretold_done : (league : LeagueData) (k : Kept) (v : Book) (p : Proposal) (cost : Cost) → IsForetold league k p (Ok cost) →
    book league k.room k.history ≡ v → Done (length k.history + 1) cost ≡ reply_of v.league v.room v.history (ask.Shift p)
foretold_done league k v p cost is view =
    rw (← view, is.1) (sym (replies_done league k.room k.history (ask.Shift p) is.0))

pub foretold_no : (league : LeagueData) (k : Kept) (v : Book) (p : Proposal) (why : Why) → IsForetold league k p (Err why) →
    book league k.room k.history ≡ v → No (length k.history) why ≡ reply_of v.league v.room v.history (ask.Shift p)
foretold_no league k v p why is view = rw (← view) (sym (replies_no league k.room k.history (ask.Shift p) why is))
