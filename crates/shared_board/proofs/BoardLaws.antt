-- The laws of one thread's board, as this crate's lemmas name them.
use Rattle.std.proofs.Common.{◌≡◌, ℕ, ◌≤◌, List, [], ◌∷◌, ◌++◌, refl, subst, sym, arith, append_assoc}
use Rattle.std.proofs.lemmas.List.{append-nil}
use Rattle.league.specs.League.{LeagueData, IsLeague}
use Rattle.fixture_board.specs.declared.ask.Ask.{Ask}
use Rattle.fixture_board.specs.declared.change.Entry.{Entry}
use Rattle.fixture_board.specs.History.{IsLegal, best_of, best_prefix, as_best, games_of, games_after, effective, cost_at}
use Rattle.league.specs.Starts.{start_of}
use Rattle.costs.specs.Costs.{cost_of}
use Rattle.fixture_board.specs.Laws.{least_of, as_number, TellsOf}
use Rattle.fixture_board.specs.Replies.{entry, next_of, reply_of}
use Rattle.fixture_board.proofs.ForCallers.{is_legal_none, is_legal_next, tells_of_reply, least_of_falls}

pub legal_start : (league : LeagueData) (room : ℕ) → IsLegal league room []
legal_start league room = is_legal_none league room

pub legal_next : (league : LeagueData) (room : ℕ) (h : List Entry) (caller : ℕ) (ask : Ask) → IsLegal league room h →
    IsLegal league room (next_of league room h caller ask)
legal_next league room h caller ask legal = is_legal_next league room h caller ask legal

pub reply_tells : (league : LeagueData) (room : ℕ) (h : List Entry) (caller : ℕ) (ask : Ask) →
    TellsOf league h (entry caller ask) (next_of league room h caller ask) (reply_of league room h ask)
reply_tells league room h caller ask = tells_of_reply league room h caller ask

-- the best total, as a number
pub number_of_best : (league : LeagueData) (h : List Entry) → as_number (best_of league h) ≡ least_of league h
unfolding least_of
number_of_best league h = refl

-- the best total never rises with one entry more
pub least_falls : (league : LeagueData) (h : List Entry) (e : Entry) → IsLeague league → least_of league (h ++ e ∷ []) ≤ least_of league h
least_falls league h e limits = least_of_falls league h e limits

-- nor with more
pub least_falls_on : (league : LeagueData) (h more : List Entry) → IsLeague league → least_of league (h ++ more) ≤ least_of league h
least_falls_on league h [] limits = let same : h ++ [] ≡ h = append-nil h in let P : List Entry → Type 0 =
    λ l. least_of league l ≤ least_of league h in subst P (sym same) (omega arith)
least_falls_on league h (e ∷ more) limits =
    let one = least_falls league h e limits in
    let rest = least_falls_on league (h ++ e ∷ []) more limits in
    let same : (h ++ e ∷ []) ++ more ≡ h ++ (e ∷ more) = append_assoc h (e ∷ []) more in
    let P : List Entry → Type 0 = λ l. least_of league l ≤ least_of league h in
    subst P same (omega (arith, one, rest))

-- what the definitions say

pub games_are : (league : LeagueData) (h : List Entry) → games_of league h ≡ games_after (start_of league) (effective h)
unfolding games_of
games_are league h = refl

pub cost_is : (league : LeagueData) (h : List Entry) → cost_at league h ≡ cost_of league (games_of league h)
unfolding cost_at
cost_is league h = refl

pub best_of_is : (league : LeagueData) (h : List Entry) → best_of league h ≡ as_best league (best_prefix league h)
unfolding best_of
best_of_is league h = refl
