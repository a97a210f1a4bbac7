use Rattle.std.proofs.Common.{◌≤◌, List, [], ◌∷◌, ◌++◌, subst, sym}
use Rattle.std.proofs.Math.Nat.{le_refl}
use Rattle.league.specs.League.{LeagueData, IsLeague}
use Rattle.fixture_board.specs.declared.ask.Ask.{Ask}
use Rattle.fixture_board.specs.declared.ask.Ask.TheVariants as ask
use Rattle.fixture_board.specs.declared.change.Entry.{Entry}
use Rattle.fixture_board.specs.declared.reply.Reply.{Reply}
use Rattle.fixture_board.specs.declared.reply.Reply.TheVariants.{Done, No}
use Rattle.fixture_board.specs.Laws.{least_of, TellsOf}
use Rattle.fixture_board.specs.Record.{Book}
use Rattle.fixture_board.specs.Replies.{entry, next_of, reply_of}
use Rattle.climber.proofs.alone.step.Goals as goal

-- with an entry more the best total is no greater, and without one it is the same
never_rises : (league : LeagueData) (h next : List Entry) (e : Entry) (reply : Reply) →
    least_of league (h ++ e ∷ []) ≤ least_of league h → TellsOf league h e next reply → least_of league next ≤ least_of league h
never_rises league h next e (Done at cost) law tells = subst (λ l. least_of league l ≤ least_of league h) (sym tells.0) law
never_rises league h next e (No at reason) law tells =
    subst (λ l. least_of league l ≤ least_of league h) (sym tells.0) (le_refl (least_of league h))

pub returns-clause-best : goal.returns-clause-best
returns-clause-best c =
    let old : Book = c.args.board.now in
    let a : Ask = ask.Shift c.proposal-proposal.result in
    let e : Entry = entry 0 a in
    let is : IsLeague old.league = subst IsLeague c.league.ensures c.teams-teams.ensures.limits in
    subst (λ (b : Book). least_of b.league b.history ≤ least_of old.league old.history) (sym c.propose.ensures.history)
    (never_rises old.league old.history (next_of old.league old.room old.history 0 a) e (reply_of old.league old.room old.history a)
    (c.best_never_rises.ensures old.league old.history e is)
    (c.answer_tells_history.ensures old.league old.room old.history 0 a))
