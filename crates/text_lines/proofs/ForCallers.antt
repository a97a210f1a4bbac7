-- Lemmas for the crates above.
pub use Rattle.text_lines.proofs.Parts.{AddsAllBut, none_added, one_added, one_stopped, all_added, prefix_at}
pub use Rattle.text_lines.proofs.Splitting.{index_or_length, parts_of}
pub use Rattle.text_lines.proofs.WrittenWords.{AllFrom, AllFrom-plain, AllFrom-with_two, AllFrom-with_three, IsPlain, IsPlain-decimal}
pub use Rattle.text_lines.proofs.WrittenWords.{IsPlain-tested, number_of-decimal, index_of-more, with_two, with_three, words_with_two}
pub use Rattle.text_lines.proofs.WrittenWords.{words_with_three}
