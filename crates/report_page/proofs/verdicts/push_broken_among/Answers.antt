use Rattle.std.proofs.Common.{codes}
use Rattle.report_page.specs.Lists.{teams_text}
use Rattle.report_page.specs.RuleWords.{tell_team}
use Rattle.report_page.proofs.Pushes.{added_behind}
use Rattle.report_page.proofs.verdicts.push_broken_among.Goals as goal

pub returns : goal.returns
returns c =
    added_behind c.push_teams_told.result c.args.page.now.items c.push_pieces.new.page.items c.push_teams_told.new.page.items
    (codes ": broken among ") (teams_text c.args.league.now (tell_team c.args.breaches.now)) c.in_ok-push_pieces.ensures
    c.push_teams_told.ensures
