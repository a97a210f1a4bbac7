-- The remarks so far, with those on the members that are left, are those on all.
use Rattle.std.proofs.Common.{◌≡◌, ◌++◌}
use Rattle.serde_json.specs.View.{members_view}
use Rattle.league_hints.specs.Remarks.{member_remarks}
use Rattle.league_hints.proofs.remarks.push_members.Given as goal

abbrev pub invariant-loop-name : goal.invariant-loop-name
invariant-loop-name l =
    l.initial.remarks.items ++ member_remarks l.owner (members_view l.members.entries)
    ≡ l.remarks.items ++ member_remarks l.owner (members_view l.name-iterator)
