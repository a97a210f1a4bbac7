-- What private functions alone need beside specs/Table.antt.
use Rattle.std.specs.Prelude.{◌≡◌, ℕ, List, false, Option, map}
use Rattle.std.specs.Borrow.{Bor}
use Rattle.std.specs.Io.KnownBytes.{Appends}
use Rattle.csv.specs.Writing.{fields_written, has_written, row_text, text_written, writer_setup}
use Rattle.csv.specs.declared.writer.QuoteStyle.TheVariants.{Necessary}
use Rattle.csv.specs.declared.writer.Writer.{Writer}
use Rattle.csv.specs.declared.writer.WriterBuilder.{WriterBuilder}

-- the text of a record with these fields
abbrev pub row_of : WriterBuilder → List (Bor (List ℕ)) → List ℕ
row_of writer fields = row_text writer (map (λ f. f.now) fields)

-- the writer has ended the records that it wrote, and quotes where it is needed
pub record IsBetweenRows {W : Type 0} (w : Writer W) : Type 0 where
  pub style : (writer_setup w).style ≡ Necessary
  pub fields : fields_written w ≡ 0
  pub wrote : has_written w ≡ false

-- whole records with this text were added
pub record AddsRows {W : Type 0} (contents : W → Option (List ℕ)) (old new : Writer W) (text : List ℕ) : Type 0 where
  pub between : IsBetweenRows new
  pub setup : writer_setup new ≡ writer_setup old
  pub bytes : Appends (text_written contents old) (text_written contents new) text
