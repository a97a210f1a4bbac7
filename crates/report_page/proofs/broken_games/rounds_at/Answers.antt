use Rattle.std.proofs.Common.{◌∙◌, sym}
use Rattle.report_page.proofs.BrokenGames.{unnamed}
use Rattle.report_page.proofs.broken_games.rounds_at.Goals as goal

pub returns-then-not-may_name : goal.returns-then-not-may_name
returns-then-not-may_name c = λ r round_in.
    c.empty-rounds.ensures.members r ∙
    sym (unnamed c.args.schedule.now c.args.body.now c.args.place c.args.team r (sym c.may_name.ensures ∙ c.if-not-may_name.true))
