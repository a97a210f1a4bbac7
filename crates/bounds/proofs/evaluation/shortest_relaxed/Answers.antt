use Rattle.std.proofs.Common.{slice_index, arith}
use Rattle.bounds.specs.within.Tables.{leg_at, walk_at}
use Rattle.bounds.proofs.Evaluated.{least_priced, are_tours}
use Rattle.bounds.proofs.evaluation.shortest_relaxed.Goals as goal

pub returns : goal.returns
returns c =
    let it = c.args.traveller in
    let leg = leg_at c.price_legs.new.legs in
    let walk = walk_at c.label_walks.new.labels in
    let tour = slice_index c.write_tours.new.tours in
    least_priced c.args.league.now it.home it.teams it.most c.from.result leg walk tour c.args.sets.now c.args.prices.now c.requires.teams
    c.requires.most (omega (arith, c.from.ensures)) it.home_in c.price_legs.ensures c.label_walks.ensures
    (are_tours it.teams it.home it.most leg walk (slice_index c.write_trips.new.trips) tour c.write_tours.ensures.none
    c.write_trips.ensures c.write_tours.ensures.trip)
