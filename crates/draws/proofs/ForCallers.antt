-- Lemmas for crates that stand on this one.
-- steps that were reported add up
pub use Rattle.draws.proofs.Reporting.{reported_none, reported_more}
