use Rattle.std.proofs.Common.{append_assoc}
use Rattle.league_csv.specs.LeagueText.{league_text}
use Rattle.league_csv.proofs.league_text.league_text.Goals as goal

pub returns-clause-text : goal.returns-clause-text
unfolding league_text
returns-clause-text c =
    rw (
      c.in_ok-extend_from_slice-5.ensures.items,
      c.in_ok-push_setting-2.ensures,
      c.in_ok-push_setting.ensures,
      c.in_ok-extend_from_slice-4.ensures.items,
      c.in_ok-push_rows.ensures,
      c.in_ok-extend_from_slice-3.ensures.items,
      c.in_ok-push_names.ensures,
      c.in_ok-extend_from_slice-2.ensures.items,
      c.in_ok-push_title.ensures.text,
      c.in_ok-extend_from_slice.ensures.items,
      c.new-text.ensures.items,
    ) (simp append_assoc)
