-- The chains that go on, and with what the bouts of a wave begin.
use Rattle.std.specs.Prelude.{ℕ, ◌+◌, ◌%◌, ◌^◌, Bool, List, ◌∷◌, ◌++◌, take, drop, slice_get, Option, Some, None}
use Rattle.std.specs.List.{position_or_len}
use Rattle.fixture_board.specs.Record.{Book, book}
use Rattle.fixture_board.specs.Rewound.{rewound}
use Rattle.policy.specs.declared.waves.LegSource.{LegSource}
use Rattle.policy.specs.declared.waves.LegSource.TheVariants.{Start, Own, Copies}
use Rattle.policy.specs.declared.waves.Wave.{Wave}
use Rattle.improvement.specs.declared.field.Entrant.{Entrant}
use Rattle.improvement.specs.declared.stage.LegBeginning.{LegBeginning}
use Rattle.improvement.specs.declared.standing.Standing.{Standing}
use Rattle.improvement.specs.Legs.{improves, standing_of}

abbrev pub standing_in : Entrant → Standing
standing_in e = standing_of e.chain.board.league e.chain.board.history

-- whether the first is better than the second
abbrev pub is_before : Entrant → Entrant → Bool
is_before e other = improves (standing_in e) (standing_in other)

-- with one more, which comes before the first one that it is better than
abbrev pub ranked : Entrant → List Entrant → List Entrant
ranked e entrants =
    let rank = position_or_len (is_before e) entrants in take rank entrants ++ e ∷ drop rank entrants

-- the present wave
pub record StageData : Type 0 where
  pub wave : Wave
  -- how many of its bouts have begun
  pub begun : ℕ
  -- the chains of the field before it that none of these had
  pub before : List Entrant
  -- the chains whose bouts have ended
  pub field : List Entrant
  -- how many chains there were in all
  pub chains : ℕ

abbrev pub stage_data : Wave → ℕ → List Entrant → List Entrant → ℕ → StageData
stage_data wave begun before field chains =
    record { wave = wave; begun = begun; before = before; field = field; chains = chains }

-- the chain with which the next bout goes on, if it begins no new one
abbrev pub chain_for : LegSource → List Entrant → Option Entrant
chain_for Start before = None
chain_for Own before = slice_get before 0
chain_for Copies before = slice_get before 0

-- the chains that later bouts may have
abbrev pub rest_for : LegSource → List Entrant → List Entrant
rest_for Start before = before
rest_for Own before = drop 1 before
rest_for Copies before = before

abbrev pub rewound_board : Book → Book
rewound_board b = book b.league b.room (rewound b.league b.history)

-- a leg that begins at the best version of a chain
abbrev pub at_best : Entrant → LegBeginning
at_best e = record { chain = e.number; weight = e.chain.weight; board = Some (rewound_board e.chain.board) }

-- the number of a chain that is new
abbrev pub next_number : ℕ → ℕ
next_number chains = (chains + 1) % 2 ^ 64

abbrev pub beginning_of : StageData → ℕ → Option Entrant → LegBeginning
beginning_of s weight None = record { chain = next_number s.chains; weight = weight; board = None }
beginning_of s weight (Some e) = at_best e

abbrev pub begun_one : StageData → StageData
begun_one s = record s { begun = s.begun + 1; before = rest_for s.wave.source s.before }

-- once one more bout has begun, with this chain or a new one
abbrev pub after_bout : StageData → Option Entrant → StageData
after_bout s None = record (begun_one s) { chains = next_number s.chains }
after_bout s (Some e) = begun_one s

-- once a chain's bout has ended: the best ones are kept
abbrev pub entering : Entrant → StageData → StageData
entering e s = record s { field = take s.wave.keep (ranked e s.field) }

-- once one more bout was passed over, which was to have this chain
abbrev pub passing_by : LegSource → Option Entrant → StageData → StageData
passing_by Own (Some e) s = entering e s
passing_by _ _ s = s

abbrev pub passing : StageData → Option Entrant → StageData
passing s chain = passing_by s.wave.source chain (begun_one s)
