-- The lemmas that other crates may cite.

-- a history stays legal with a call, and its answer tells it
pub use Rattle.fixture_board.proofs.OneMore.{IsLegal-none as is_legal_none}
pub use Rattle.fixture_board.proofs.Next.{IsLegal-next as is_legal_next, TellsOf-reply as tells_of_reply}
-- a trial too
pub use Rattle.fixture_board.proofs.Trials.{IsLegal-trial as is_legal_trial, TellsOfTrial-cost as tells_of_trial}
-- its schedule is of the league's teams, its score fits, and its best total never rises
pub use Rattle.fixture_board.proofs.Scored.{games_of-teams as games_of_teams, IsScored-league as is_scored_league}
pub use Rattle.fixture_board.proofs.Next.{least_of-falls as least_of_falls}
-- the changes in effect fit, so the pinned games stand
pub use Rattle.fixture_board.proofs.Stand.{FitFrom, FitFrom-more as fit_from_more, AllStand-fit as all_stand_fit}
pub use Rattle.fixture_board.proofs.Stand.{pinned_stands}
-- given as a script, it leads to itself
pub use Rattle.fixture_board.proofs.Script.{replayed}
