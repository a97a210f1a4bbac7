-- Rules that a change leaves as far from their wish as they were.
pub mod SeesSame
pub mod LookedPast
pub mod AroundMain
pub mod AroundOwn
pub mod ToldApart
pub mod Untouched
pub mod NoPart
