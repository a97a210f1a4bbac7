use Rattle.std.proofs.Common.{◌<◌, ap₂, sym, ◌∙◌, ◌+◌, arith}
use Rattle.league.specs.Sets.{has}
use Rattle.fixtures.specs.Games.{round_count}
use Rattle.tours.specs.Tours.{leg}
use Rattle.tours.specs.Parts.{travel_part, travel_part_of}
use Rattle.tours.proofs.legs.TravelWalk.{legs_walked}
use Rattle.tours.proofs.travel_parts.travel_part.Goals as goal

pub returns-clause-value : goal.returns-clause-value
unfolding travel_part travel_part_of
returns-clause-value c =
    let some : 0 < round_count c.args.schedule.now.teams = omega arith in
    rw (← c.touched.view_is)
    (ap₂ (λ x y. x + y) c.legs_with.ensures.value c.home_legs.ensures.value ∙
    sym (legs_walked c.args.schedule.now (leg c.args.league.now c.args.schedule.now) c.teams_in-among.result
    c.with_next_below-indices.result (has c.touched.inside.teams) (has c.touched.inside.rounds) some
    c.teams_in-among.ensures.members (rw c.rounds.ensures.number at c.with_next_below-indices.ensures.members)))
