-- The laws: what holds of each move that can be made on a double round robin.
use Rattle.std.specs.Prelude.{◌≡◌, ℕ, Ok}
use Rattle.fixtures.specs.Games.{Games, IsDoubleRoundRobin}
use Rattle.fixtures.specs.Changes.{DiffersOnlyIn}
use Rattle.fixtures.specs.Closed.{moved_teams_of, moved_rounds_of}
use Rattle.fixtures.specs.Exchanges.{exchanged_by}
use Rattle.fixtures.specs.Laws.{DiffersInEach}
use Rattle.moves.specs.declared.moves.Move.{Move}
use Rattle.moves.specs.declared.moves.Move.TheVariants.{PartRounds, PartTeams}
use Rattle.moves.specs.Moves.{fault_of, moved, touched_team, touched_round}
use Rattle.moves.specs.ExchangeOf.{exchange_of}

-- the law holds on each double round robin of each move that can be made there
abbrev pub OfEachMove : (Games → Move → Type 0) → Type 0
OfEachMove Law = (g : Games) (mv : Move) → IsDoubleRoundRobin g → fault_of g mv ≡ Ok tt → Law g mv

-- on the schedule that a partial move gives, the same teams or rounds have to follow
abbrev pub KeepsLeastSet : Games → Move → Type 0
KeepsLeastSet g (PartRounds i k l) = moved_teams_of (moved g (PartRounds i k l)) i k l ≡ moved_teams_of g i k l
KeepsLeastSet g (PartTeams i j k) = moved_rounds_of (moved g (PartTeams i j k)) i j k ≡ moved_rounds_of g i j k
KeepsLeastSet g _ = Unit {0}

-- on the schedule that the move gives it can be made again and gives the first schedule back, by the same least set
-- and touching the same teams and rounds
pub record IsItsOwnInverse (g : Games) (mv : Move) : Type 0 where
  pub can_be_made : fault_of (moved g mv) mv ≡ Ok tt
  pub back : moved (moved g mv) mv ≡ g
  pub least_set : KeepsLeastSet g mv
  pub teams : (t : ℕ) → touched_team (moved g mv) mv t ≡ touched_team g mv t
  pub rounds : (r : ℕ) → touched_round (moved g mv) mv r ≡ touched_round g mv r

-- the schedule after the move is a double round robin
abbrev pub StaysDoubleRoundRobin : Games → Move → Type 0
StaysDoubleRoundRobin g mv = IsDoubleRoundRobin (moved g mv)

-- each cell that differs after the move is of a touched team in a touched round
abbrev pub DiffersWhereTouched : Games → Move → Type 0
DiffersWhereTouched g mv = DiffersOnlyIn g (moved g mv) (touched_team g mv) (touched_round g mv)

-- what is touched does differ after the move
abbrev pub DiffersInEachTouched : Games → Move → Type 0
DiffersInEachTouched g mv = DiffersInEach g (moved g mv) (touched_team g mv) (touched_round g mv)

-- the schedule after the move is that after its exchange
abbrev pub IsItsExchange : Games → Move → Type 0
IsItsExchange g mv = moved g mv ≡ exchanged_by g (exchange_of g mv)
