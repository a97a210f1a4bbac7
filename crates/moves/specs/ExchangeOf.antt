-- The exchange that a move is: two rounds in the games of some teams, or two teams in the games of some rounds.
use Rattle.std.specs.Prelude.{◌≡◌, ℕ, zero, suc, Bool, not, ◌||◌, ◌==◌, if◌then◌else◌}
use Rattle.league.specs.Sets.{with_number, both, all_numbers}
use Rattle.fixtures.specs.Games.{Games, round_of, round_count}
use Rattle.fixtures.specs.Closed.{member, moved_teams_of, moved_rounds_of}
use Rattle.fixtures.specs.Exchanges.{exchanged_by, IsExchange}
use Rattle.fixtures.specs.declared.exchanges.Exchange.{Exchange}
use Rattle.fixtures.specs.declared.exchanges.Exchange.TheVariants as edit
use Rattle.moves.specs.declared.moves.Move.{Move}
use Rattle.moves.specs.declared.moves.Move.TheVariants.{Homes, Rounds, Teams, PartRounds, PartTeams}
use Rattle.moves.specs.Moves.{moved}

-- the set of the numbers below n that pass
unfoldable pub set_where : ℕ → (ℕ → Bool) → ℕ
set_where zero passes = 0
set_where (suc n) passes = if passes n then with_number (set_where n passes) n else set_where n passes

-- the rounds in which i and j don't meet
abbrev pub rounds_apart : Games → ℕ → ℕ → ℕ
rounds_apart g i j = set_where (round_count g.teams) (λ r. not (r == round_of g i j || r == round_of g j i))

-- the exchange that a move is
abbrev pub exchange_of : Games → Move → Exchange
exchange_of g (Homes i j) = edit.Rounds (round_of g i j) (round_of g j i) (both i j)
exchange_of g (Rounds k l) = edit.Rounds k l (all_numbers g.teams)
exchange_of g (Teams i j) = edit.Teams i j (rounds_apart g i j)
exchange_of g (PartRounds i k l) = edit.Rounds k l (set_where g.teams (member (moved_teams_of g i k l)))
exchange_of g (PartTeams i j k) = edit.Teams i j (set_where (round_count g.teams) (member (moved_rounds_of g i j k)))

-- the move is this exchange, which can be made
pub record IsExchangeOf (g : Games) (mv : Move) (exchange : Exchange) : Type 0 where
  pub can_be_made : IsExchange g exchange
  pub is : moved g mv ≡ exchanged_by g exchange
