-- Lemmas for the crates above.
pub use Rattle.board_texts.proofs.PlayedAgain.{played_again, plays_back}
