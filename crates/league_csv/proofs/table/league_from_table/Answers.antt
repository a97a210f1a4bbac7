use Rattle.std.proofs.Common.{sym, ◌∙◌}
use Rattle.league_csv.specs.LeagueText.{said_by}
use Rattle.league_csv.specs.within.Table.{table_view}
use Rattle.league_csv.proofs.Agreeing.{agreed_table}
use Rattle.league_csv.proofs.Law.{reads}
use Rattle.league_csv.proofs.table.league_from_table.Goals as goal

pub returns : goal.returns
returns c =
    let table = table_view c.in_ok-table.table in
    let count = rw c.deref.ensures.value at c.name_count-teams.ensures in
    let agreed = sym (rw (count, c.deref-2.ensures.value) at c.agreed.ensures) ∙ c.in_ok-agreed.was in
    let levels = rw (count, c.deref-3.ensures.value) at c.in_ok-distances.ensures in
    let text = rw (c.deref-4.ensures.value, c.deref-5.ensures.value, levels) at c.in_ok-text.ensures.text in
    let given = agreed_table c.args.choice c.args.text.now table c.in_ok-table.ensures.value agreed in (
      table,
      given,
      record {
        text_is = text;
        reads = rw text (reads c.args.choice (said_by c.args.settings) c.args.text.now table c.requires c.in_ok-text.ensures.utf8 given);
        rounded_is = rw c.deref-6.ensures.value at c.rounded_in.ensures;
      },
    )
