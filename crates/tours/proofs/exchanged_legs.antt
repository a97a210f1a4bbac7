-- Legs after an exchange, predicted on the schedule before it.
pub mod ExchangedTours
pub mod RoundsDelta
pub mod TeamsDelta
pub mod FlippedLegs
pub mod EdgeLegs
pub mod OwnLegs
pub mod VisitsDelta
