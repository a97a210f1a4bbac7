-- The line of a leg in the log of an improvement: an object of JSON.
use Rattle.std.specs.Prelude.{◌≡◌, ℕ, ◌/◌, ◌%◌, Bool, true, false, List, [], ◌∷◌, ◌++◌, ◌⊎◌, Option, Some, None, codes, decimal}
use Rattle.std.specs.List.{concat}
use Rattle.std.specs.Io.KnownBytes.{Appends}
use Rattle.byte_streams.specs.declared.writer_sink.WriterSink.{WriterSink}
use Rattle.byte_streams.specs.Sending.{AppendsPrefix}
use Rattle.moves.specs.declared.moves.MoveKind.{MoveKind}
use Rattle.moves.specs.declared.moves.MoveKind.TheVariants.{Homes, Rounds, Teams, PartRounds, PartTeams}
use Rattle.policy.specs.Legs.{kinds_of}
use Rattle.improvement.specs.declared.watcher.LegEnded.{LegEnded}
use Rattle.cli.specs.declared.leg_log.LegLog.{LegLog}

-- what ends a line that was torn off
abbrev pub new_line : Bool → List ℕ
new_line true = codes "\n"
new_line false = []

abbrev pub number_or_null : Option ℕ → List ℕ
number_or_null None = codes "null"
number_or_null (Some number) = decimal number

-- the word of a kind of moves, as a string of JSON
abbrev pub kind_word : MoveKind → List ℕ
kind_word Homes = codes "\"homes\""
kind_word Rounds = codes "\"rounds\""
kind_word Teams = codes "\"teams\""
kind_word PartRounds = codes "\"part-rounds\""
kind_word PartTeams = codes "\"part-teams\""

-- the words of the kinds, with commas between them
abbrev pub kinds_words : List MoveKind → List ℕ
kinds_words [] = []
kinds_words (kind ∷ []) = kind_word kind
kinds_words (kind ∷ kinds) = kind_word kind ++ codes "," ++ kinds_words kinds

-- which leg it was, of which chain, and what it drew from, the first temperature and the last, in distances, the seconds since the beginning,
-- the moves that it drew and made, the breaches in the end, the least total of its chain, and that of all legs so far. Temperatures and
-- seconds have three decimals
abbrev pub leg_line : Bool → ℕ → LegEnded → List ℕ
leg_line torn n leg =
    concat (new_line torn ∷ codes "{\"leg\":" ∷ decimal leg.number ∷ codes ",\"chain\":" ∷ decimal leg.chain ∷
    codes ",\"moves\":[" ∷ kinds_words (kinds_of leg.moves) ∷ codes "],\"from\":" ∷ decimal (leg.from / 1000) ∷ codes "." ∷
    decimal (leg.from / 100 % 10) ∷ decimal (leg.from / 10 % 10) ∷ decimal (leg.from % 10) ∷ codes ",\"to\":" ∷
    decimal (leg.to / 1000) ∷ codes "." ∷ decimal (leg.to / 100 % 10) ∷ decimal (leg.to / 10 % 10) ∷ decimal (leg.to % 10) ∷
    codes ",\"seconds\":" ∷ decimal (n / 1000) ∷ codes "." ∷ decimal (n / 100 % 10) ∷ decimal (n / 10 % 10) ∷ decimal (n % 10) ∷
    codes ",\"steps\":" ∷ decimal leg.steps ∷ codes ",\"accepted\":" ∷ decimal leg.accepted ∷ codes ",\"hard\":" ∷ decimal leg.hard ∷
    codes ",\"best\":" ∷ number_or_null leg.best ∷ codes ",\"least\":" ∷ number_or_null leg.least ∷ codes "}\n" ∷ [])

module _ {C F : Type 0} (held : WriterSink F → Option (List ℕ)) (old new : LegLog C F) (leg : LegEnded) where
  -- the leg's line stands behind what the log had, and is whole
  pub record IsAdded : Type 0 where
    pub n : ℕ
    pub line : Appends (held old.sink) (held new.sink) (leg_line old.torn n leg)
    pub whole : new.torn ≡ false

  -- a front of the line stands there, maybe nothing of it, so that the next one begins on a line of its own
  pub record IsTorn : Type 0 where
    pub n : ℕ
    pub line : AppendsPrefix (held old.sink) (held new.sink) (leg_line old.torn n leg)
    pub torn : (new.torn ≡ true) ⊎ (new ≡ old)
