use Rattle.std.proofs.Common.{not, ◌&&◌, ◌∙◌, ap}
use Rattle.league.specs.Limits.{max_teams}
use Rattle.league.specs.Sets.{has}
use Rattle.league.proofs.ForCallers.{any_below_same}
use Rattle.rules.specs.LooksPast.{has_team_outside}
use Rattle.rules.proofs.walks.Searches.{and_again}
use Rattle.rules.proofs.looked_past.has_team_outside.Goals as goal

pub returns : goal.returns
unfolding has_team_outside
returns c =
    c.intersects.ensures ∙
    any_below_same max_teams _ (λ t. has c.args.teams t && not (has c.args.set t))
    (λ t below. ap (λ b. b && has c.args.teams t) (c.difference-outside.ensures.members t) ∙
    and_again (has c.args.teams t) (not (has c.args.set t)))
