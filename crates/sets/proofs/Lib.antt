mod Sums
mod Bits
mod WalkedSums
mod LowestBits
mod Halves
mod SetBits
mod SetRows
mod SetWords
mod RuleWords
mod PairSets
pub mod ForCallers
