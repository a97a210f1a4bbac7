-- The lemmas that other crates may cite.
-- of each move that can be made on a double round robin
pub use Rattle.moves.proofs.move_laws.EachMove.{each-its_own_inverse as each_its_own_inverse}
pub use Rattle.moves.proofs.move_laws.EachMove.{each-double_round_robin as each_double_round_robin}
