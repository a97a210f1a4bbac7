-- The items that are left decide.
use Rattle.std.proofs.Common.{◌≡◌, drop}
use Rattle.serde_json.specs.View.{items_view}
use Rattle.league_hints.specs.Seen.{first_no_text}
use Rattle.league_hints.proofs.seen.first_no_text.Given as goal

abbrev pub invariant-loop-item : goal.invariant-loop-item
invariant-loop-item l =
    first_no_text l.most (items_view (drop l.item-index l.items)) ≡ first_no_text l.most (items_view l.items)
