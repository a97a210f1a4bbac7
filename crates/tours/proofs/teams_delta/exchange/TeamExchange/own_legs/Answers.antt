use Rattle.std.proofs.Common.{◌≡◌, ℕ, ◌<◌, ◌+◌, false, not, ◌&&◌, sym, ◌∙◌, ap₂, arith}
use Rattle.league.specs.Sets.{has}
use Rattle.league.proofs.ForCallers.{has_beyond}
use Rattle.fixtures.specs.Games.{round_count}
use Rattle.tours.proofs.stops.SetsInSeason.{has_two}
use Rattle.tours.proofs.exchanged_legs.TeamsDelta.{of_first, of_second}
use Rattle.tours.proofs.exchanged_legs.FlippedLegs.{is_flip}
use Rattle.tours.proofs.exchanged_legs.EdgeLegs.{one_of_two}
use Rattle.tours.proofs.exchanged_legs.OwnLegs.{own_balance, has_both}
use Rattle.tours.proofs.teams_delta.exchange.TeamExchange.own_legs.Goals as goal

pub legs_at_edges-at_edges-requires-clause-edges : goal.legs_at_edges-at_edges-requires-clause-edges
legs_at_edges-at_edges-requires-clause-edges c =
    let x = c.args.self.now in
    λ s is. one_of_two (has x.rounds s) (has x.rounds (s + 1))
    (sym (c.difference-edges.ensures.members s ∙ ap₂ (λ a b. a && not b)
    (c.starts_meeting-either.ensures.members s ∙ has_two x.rounds s)
    (c.starts_within-inner.ensures.members s ∙ has_both x.rounds s)) ∙ is)

pub flipped_legs-of_i-requires-clause-flipping : goal.flipped_legs-of_i-requires-clause-flipping
flipped_legs-of_i-requires-clause-flipping c =
    let x = c.args.self.now in
    is_flip x.schedule.now c.teams-2.ensures.round_robin x.i x.j x.i c.starts_within-inner.result c.flips-flips_i.result
    x.rounds (of_first x.i x.j) x.first x.first_out x.second_out x.below
    (λ s. c.starts_within-inner.ensures.members s ∙ has_both x.rounds s) c.flips-flips_i.ensures.members

pub flipped_legs-of_j-requires-clause-flipping : goal.flipped_legs-of_j-requires-clause-flipping
flipped_legs-of_j-requires-clause-flipping c =
    let x = c.args.self.now in
    is_flip x.schedule.now c.teams-2.ensures.round_robin x.i x.j x.j c.starts_within-inner.result c.flips-flips_j.result
    x.rounds (of_second x.i x.j) x.second x.first_out x.second_out x.below
    (λ s. c.starts_within-inner.ensures.members s ∙ has_both x.rounds s) c.flips-flips_j.ensures.members

pub returns-clause-balance : goal.returns-clause-balance
returns-clause-balance c =
    let x = c.args.self.now in
    let some : 0 < round_count x.schedule.now.teams = omega (arith, c.teams-2.ensures.round_robin.four) in
    let beyond : has x.rounds (round_count x.schedule.now.teams) ≡ false =
    has_beyond _ _ (round_count x.schedule.now.teams) x.below (omega arith) in
    let is_inner : (s : ℕ) → has c.starts_within-inner.result s ≡ (has x.rounds s && has x.rounds (s + 1)) =
    λ s. c.starts_within-inner.ensures.members s ∙ has_both x.rounds s in
    rw (
      c.first_legs-first.ensures.before,
      c.first_legs-first.ensures.after,
      c.legs_at_edges-at_edges.ensures.before,
      c.legs_at_edges-at_edges.ensures.after,
      c.flipped_legs-of_i.ensures.before,
      c.flipped_legs-of_i.ensures.after,
      c.flipped_legs-of_j.ensures.before,
      c.flipped_legs-of_j.ensures.after,
    )
    (own_balance x.league.now c.teams.ensures.limits.table.diagonal x.schedule.now c.teams-2.ensures.round_robin x.i x.j
    (record { home_in = x.first; away_in = x.second; distinct = x.distinct }) (has x.rounds) x.first_out x.second_out beyond
    c.difference-edges.result c.starts_within-inner.result c.flips-flips_j.result c.flips-flips_i.result some is_inner
    (λ s. c.difference-edges.ensures.members s ∙ ap₂ (λ a b. a && not b)
    (c.starts_meeting-either.ensures.members s ∙ has_two x.rounds s) (is_inner s))
    c.flips-flips_j.ensures.members c.flips-flips_i.ensures.members)
