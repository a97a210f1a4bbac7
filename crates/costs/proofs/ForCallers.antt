-- The lemmas that other crates may cite: no score of a league's schedules is above the limit of scores, nor one by any weights above 64 bits.
pub use Rattle.costs.proofs.Scores.{score_below, score_fits}
pub use Rattle.costs.proofs.Parts.{score_after, score_fits_after}
