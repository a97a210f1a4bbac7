-- What the crates above cite: by how much a change around some teams alters the unphased pairs.
pub use Rattle.tours.proofs.balances.PhasedBalance.{unphased_balance_around}
