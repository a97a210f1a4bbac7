-- The lemmas that other crates may cite.
pub use Rattle.shared_board.proofs.Counts.{under_append, under_both}
