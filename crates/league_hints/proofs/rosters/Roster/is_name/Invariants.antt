-- The teams that are left decide.
use Rattle.std.proofs.Common.{◌≡◌, drop}
use Rattle.serde_json.specs.View.{items_view}
use Rattle.league_hints.specs.Rosters.{is_name, names_of}
use Rattle.league_hints.proofs.rosters.Roster.is_name.Given as goal

abbrev pub invariant-loop-other : goal.invariant-loop-other
invariant-loop-other l =
    is_name (names_of (items_view (drop l.other-index l.other-items))) l.name ≡ is_name (names_of (items_view l.other-items)) l.name
