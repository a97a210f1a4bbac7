-- Games that count: their rounds, and how many there are.
pub mod GameCounts
pub mod SeasonCounts
pub mod RoundNumbers
pub mod RoundCounts
pub mod OpponentRounds
pub mod CountedRounds
