-- The bytes so far, with those that are left, are the whole name.
use Rattle.std.proofs.Common.{◌≡◌, ◌++◌, map, drop}
use Rattle.league_forms.specs.Shown.{shown_byte}
use Rattle.league_hints.proofs.remarks.push_shown.Given as goal

abbrev pub invariant-loop-byte : goal.invariant-loop-byte
invariant-loop-byte l = l.initial.remarks.items ++ map shown_byte l.name ≡ l.remarks.items ++ map shown_byte (drop l.byte-index l.name)
