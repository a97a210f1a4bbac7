-- The hint on a league's text that is refused.
use Rattle.std.specs.Prelude.{◌≡◌, ℕ, List, Option, Some, None, option_map, codes}
use Rattle.std.specs.Str.Lines.{lines}
use Rattle.league_hints.specs.Firsts.{or_else}
use Rattle.league_hints.specs.Hints.{IsHint}
use Rattle.league_hints.specs.declared.hint.Hint.{Hint}
use Rattle.league_hints.specs.declared.hint.Hint.TheVariants.{ScriptBehind, SheetBehind}
use Rattle.league.specs.declared.fault.LeagueFault.{LeagueFault}
use Rattle.league.specs.declared.fault.LeagueFault.TheVariants.{NotJson}
use Rattle.text_lines.specs.Input.{first_ending}

-- the first line on which a script or a sheet begins behind a brace, and not on a line of its own
abbrev pub behind : List ℕ → Option Hint
behind bytes = or_else (option_map ScriptBehind (first_ending (codes "}script") 1 (lines bytes)))
    (option_map SheetBehind (first_ending (codes "}sheet") 1 (lines bytes)))

-- the hint is this one or, if there is none, such a one
abbrev pub IsOrElse : Option Hint → (Option Hint → Type 0) → Option Hint → Type 0
IsOrElse (Some first) Is hint = hint ≡ Some first
IsOrElse None Is hint = Is hint

-- the hint on a text with this fault
abbrev pub IsAdvice : List ℕ → LeagueFault → Option Hint → Type 0
IsAdvice bytes NotJson hint = IsOrElse (behind bytes) (IsHint bytes NotJson) hint
IsAdvice bytes fault hint = IsHint bytes fault hint
