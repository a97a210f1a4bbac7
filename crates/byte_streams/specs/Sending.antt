-- How much of a text went to a sink.
use Rattle.std.specs.Prelude.{◌≡◌, ◌++◌, ℕ, List, Option}
use Rattle.std.specs.Io.KnownBytes.{Appends}

-- the known bytes grew by the text without its last part, which is left
pub record AppendsAllBut (old new : Option (List ℕ)) (text left : List ℕ) : Type 0 where
  pub sent : List ℕ
  pub parts : text ≡ sent ++ left
  pub appended : Appends old new sent

-- the known bytes grew by a prefix of the text
abbrev pub AppendsPrefix : Option (List ℕ) → Option (List ℕ) → List ℕ → Type 0
AppendsPrefix old new text = (left : List ℕ) × AppendsAllBut old new text left
