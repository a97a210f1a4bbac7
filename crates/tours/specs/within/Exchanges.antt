-- The legs of an exchange of two teams, as they are and after it: words of private functions alone.
use Rattle.std.specs.Prelude.{ℕ, slice_index}
use Rattle.league.specs.League.{distance}
use Rattle.league.specs.Sets.{has}
use Rattle.fixtures.specs.within.Edits.{is_either}
use Rattle.tours.specs.declared.teams_delta.exchange.TeamExchange.{TeamExchange}
use Rattle.tours.specs.Tours.{tour, leg}
use Rattle.tours.specs.within.Walked.{guest_terms}
use Rattle.tours.specs.within.Delta.{leg_predicted, leg_flipped}

-- the leg of a team with this index
abbrev pub leg_before : TeamExchange → ℕ → ℕ → ℕ
leg_before x = leg x.league.now x.schedule.now

abbrev pub leg_after : TeamExchange → ℕ → ℕ → ℕ
leg_after x = leg_predicted x.league.now x.schedule.now x.i x.j (has x.rounds)

-- in a round in which a team flips, inside the set
abbrev pub flipped_after : TeamExchange → ℕ → ℕ → ℕ
flipped_after x = leg_flipped x.league.now x.schedule.now x.i x.j

-- by such a function of legs, those around the game of a host's guest in a round of the set
abbrev pub around_visit : TeamExchange → (ℕ → ℕ → ℕ) → ℕ → ℕ → ℕ
around_visit x leg = guest_terms leg x.schedule.now (is_either x.i x.j) (has x.rounds)

-- where a team is at the stop with this index, and how far from there a place is
abbrev pub stop_of : TeamExchange → ℕ → ℕ → ℕ
stop_of x t index = slice_index (tour x.schedule.now t) index

abbrev pub way_across : TeamExchange → ℕ → ℕ → ℕ → ℕ
way_across x t index place = distance x.league.now (stop_of x t index) place
