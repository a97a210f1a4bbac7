use Rattle.std.proofs.Common.{ℕ, ◌&&◌, ◌∙◌, ap, subst, arith}
use Rattle.std.proofs.lemmas.Bool.{lt-ltb}
use Rattle.league.specs.Sets.{has, IsBelow}
use Rattle.league.proofs.ForCallers.{count_where_same}
use Rattle.rules.proofs.counted_games.number_of.Goals as goal

pub returns : goal.returns
returns c =
    c.len.ensures.among c.args.schedule.now.teams
    (subst (λ (n : ℕ). IsBelow n c.intersection.result) c.teams.ensures.number (c.intersection.ensures.below _ c.below.ensures.below)) ∙
    count_where_same c.args.schedule.now.teams _ _
    (λ t below. c.intersection.ensures.members t ∙
    ap (λ b. b && has c.args.teams t) (c.below.ensures.members t ∙ lt-ltb t c.teams.result (omega (arith, c.teams.ensures.number))))
