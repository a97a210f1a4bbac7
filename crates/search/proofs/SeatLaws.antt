-- What the calls of a shared board tell a door.
use Rattle.std.proofs.Common.{◌≡◌, ℕ, ◌+◌, List, [], ◌∷◌, sym, ap, ◌∙◌, subst, arith}
use Rattle.league.specs.League.{LeagueData}
use Rattle.fixtures.specs.Games.{Games}
use Rattle.fixture_board.specs.declared.ask.Ask.{Ask}
use Rattle.fixture_board.specs.declared.change.Entry.{Entry}
use Rattle.fixture_board.specs.declared.reply.Reply.{Reply}
use Rattle.fixture_board.specs.declared.reply.Reply.TheVariants.{Done, No}
use Rattle.fixture_board.specs.Laws.{TellsOf}
use Rattle.fixture_board.specs.Replies.{entry, next_of, reply_of}
use Rattle.fixture_board.proofs.ForCallers.{tells_of_reply}
use Rattle.fixture_board.specs.declared.look.Seen.{Seen}
use Rattle.shared_board.specs.Held.{times, under}
use Rattle.shared_board.specs.Rule.{Knows}
use Rattle.shared_board.specs.Seats.{SeatValue, Answered, Looked}
use Rattle.shared_board.proofs.ForCallers.{under_append}
use Rattle.search.specs.Doors.{done_count}

-- no entry of the seat's is after what it knows
pub under_known : (held : List ℕ) (seen h : List Entry) → Knows held seen h → under held h ≡ under held seen
under_known held seen h k =
    omega (arith, ap (under held) k.begins, under_append held seen k.after, k.none_after)

-- a look counts nothing
pub looked_counted : (a b : SeatValue) (old new : Games) (shown : Seen) → Looked a b old new shown →
    under b.held b.seen ≡ under a.held a.seen
looked_counted a b old new shown l =
    ap (λ (s : SeatValue). under s.held s.seen) l.now ∙ under_known a.held a.seen l.history l.met.knows

-- the granted entry is counted once, where its number is held once
reported_counted : (held : List ℕ) (league : LeagueData) (h : List Entry) (e : Entry) (next : List Entry) (reply : Reply) →
    times e.caller held ≡ 1 → TellsOf league h e next reply → under held next ≡ under held h + done_count reply
reported_counted held league h e next (Done at cost) once reported =
    let p = reported.0 in omega (arith, ap (under held) p, under_append held h (e ∷ []))
reported_counted held league h e next (No at why) once reported =
    let p = reported.0 in omega (arith, ap (under held) p)

-- a proposal counts once where it is granted
pub answered_counted : (a b : SeatValue) (ask : Ask) (reply : Reply) → Answered a b ask reply →
    under b.held b.seen ≡ under a.held a.seen + done_count reply
answered_counted a b ask reply l =
    let league = a.setting.league in
    let next = next_of league a.setting.room l.history a.number ask in
    let P : Reply → Type 0 = λ r. under a.held next ≡ under a.held l.history + done_count r in
    let reported : under a.held next ≡ under a.held l.history + done_count reply =
    subst P (sym l.replied)
    (reported_counted a.held league l.history (entry a.number ask) next (reply_of league a.setting.room l.history ask) l.seat.own
    (tells_of_reply league a.setting.room l.history a.number ask))
    in
    let known = under_known a.held a.seen l.history l.met.knows in
    let now = ap (λ (s : SeatValue). under s.held s.seen) l.now in
    omega arith
