-- A history that is taken back to its best version.
use Rattle.std.specs.Prelude.{◌≡◌, ℕ, List, unwrap_or}
use Rattle.league.specs.League.{LeagueData}
use Rattle.fixture_board.specs.declared.change.Entry.{Entry}
use Rattle.fixture_board.specs.History.{IsLegal, best_prefix, best_of}

-- its best prefix, or all of it if no version is feasible
abbrev pub rewound : LeagueData → List Entry → List Entry
rewound league h = unwrap_or (best_prefix league h) h

-- it is legal if the history is, and has the same best
pub record IsSameBestRewound (league : LeagueData) (room : ℕ) (h : List Entry) : Type 0 where
  pub legal : IsLegal league room h → IsLegal league room (rewound league h)
  pub prefix : best_prefix league (rewound league h) ≡ best_prefix league h
  pub best : best_of league (rewound league h) ≡ best_of league h
