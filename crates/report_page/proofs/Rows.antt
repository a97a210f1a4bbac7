-- Rows that are written one after another.
use Rattle.std.proofs.Common.{ℕ, ◌+◌, add-one, List, [], ◌++◌, Option, Some, None, refl, sym, subst, ◌∙◌, append_assoc, append-nil}
use Rattle.std.specs.Io.KnownBytes.{Appends}
use Rattle.csv.specs.Writing.{writer_setup}
use Rattle.csv.specs.declared.writer.Writer.{Writer}
use Rattle.csv.specs.declared.writer.WriterBuilder.{WriterBuilder}
use Rattle.byte_streams.specs.Pieces.{pieces_below}
use Rattle.report_page.specs.within.Table.{AddsRows, IsBetweenRows}

none_appended : (a : Option (List ℕ)) → Appends a a []
none_appended None = tt
none_appended (Some xs) = sym (append-nil xs)

both_appended : (a b c : Option (List ℕ)) (p q : List ℕ) → Appends a b p → Appends b c q → Appends a c (p ++ q)
both_appended None b c p q first second = tt
both_appended (Some xs) None c p q first second = absurd first
both_appended (Some xs) (Some ys) None p q first second = absurd second
both_appended (Some xs) (Some ys) (Some zs) p q first second = rw (second, first) (append_assoc xs p q)

module _ {W : Type 0} {contents : W → Option (List ℕ)} where
  pub AddsRows-nothing : {a : Writer W} → IsBetweenRows a → AddsRows contents a a []
  AddsRows-nothing {a} between = record { between = between; setup = refl; bytes = none_appended _ }

  pub AddsRows-then : {a b c : Writer W} {p q : List ℕ} → AddsRows contents a b p → AddsRows contents b c q → AddsRows contents a c (p ++ q)
  AddsRows-then {a} {b} {c} {p} {q} first second =
      record { between = second.between; setup = second.setup ∙ first.setup; bytes = both_appended _ _ _ p q first.bytes second.bytes }

  -- a text that depends on how the writer is set up
  pub AddsRows-after : {a b c : Writer W} {p : List ℕ} (text : WriterBuilder → List ℕ) → AddsRows contents a b p
      → AddsRows contents b c (text (writer_setup b)) → AddsRows contents a c (p ++ text (writer_setup a))
  AddsRows-after {a} {b} {c} {p} text first second =
      AddsRows-then first (subst (λ setup. AddsRows contents b c (text setup)) first.setup second)

  pub AddsRows-piece : {a b c : Writer W} (piece : WriterBuilder → ℕ → List ℕ) (n : ℕ)
      → AddsRows contents a b (pieces_below (piece (writer_setup a)) n) → AddsRows contents b c (piece (writer_setup b) n)
      → AddsRows contents a c (pieces_below (piece (writer_setup a)) (n + 1))
  AddsRows-piece piece n first second = rw add-one (AddsRows-after (λ setup. piece setup n) first second)
