-- The texts so far, and those of the items that are left, are the texts of the whole array.
use Rattle.std.proofs.Common.{◌≡◌, drop, true}
use Rattle.std.specs.List.{list_all}
use Rattle.serde_json.specs.View.{items_view}
use Rattle.league_json.specs.Json.{all_items}
use Rattle.league.specs.Names.{is_text_within}
use Rattle.league_json.specs.LeagueMembers.{text_within}
use Rattle.league.specs.Views.{texts}
use Rattle.league_json.proofs.Items.{with_front}
use Rattle.league_json.proofs.forms.texts_within.Given as goal

abbrev pub invariant-loop-item : goal.invariant-loop-item
invariant-loop-item l = record {
  read : with_front (texts l.texts.items) (all_items (text_within l.most) (items_view (drop l.item-index l.item-items)))
      ≡ all_items (text_within l.most) (items_view l.item-items);
  fit : list_all (is_text_within l.most) (texts l.texts.items) ≡ true;
}
