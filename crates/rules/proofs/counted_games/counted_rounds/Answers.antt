use Rattle.std.proofs.Common.{◌≡◌, ℕ, ◌&&◌, nat_lt, ◌∙◌, ap, sym}
use Rattle.std.proofs.lemmas.Bool.{eqb-true}
use Rattle.league.specs.Sets.{has}
use Rattle.rules.proofs.rows.AllTeams.{counted_from-all}
use Rattle.rules.proofs.counted.OpponentRounds.{met_in_slots}
use Rattle.rules.proofs.counted_games.counted_rounds.Goals as goal

pub returns-then-eq-clause-members : goal.returns-then-eq-clause-members
returns-then-eq-clause-members c =
    let all : c.args.games.now.opponents ≡ c.below-all.result = eqb-true _ _ (sym c.eq.ensures ∙ c.if-eq.true) in
    let members : (t : ℕ) → has c.args.games.now.opponents t ≡ nat_lt t c.args.schedule.now.teams =
    λ t. ap (λ s. has s t) all ∙ c.below-all.ensures.members t ∙ ap (nat_lt t) c.teams.ensures.number in
    λ r.
    c.intersection.ensures.members r ∙
    ap (λ b. b && has c.args.slots r) (c.rounds_on_side.ensures.members r) ∙
    counted_from-all c.args.schedule.now c.teams.ensures.round_robin c.args.games.now.side c.args.games.now.opponents members c.args.team r
    (has c.args.slots r) c.requires

pub returns-clause-members : goal.returns-clause-members
returns-clause-members c = λ r.
    c.intersection-2.ensures.members r ∙
    ap (λ b. b && has c.args.slots r) (c.rounds_against.ensures.members r) ∙
    met_in_slots c.args.schedule.now c.teams.ensures.round_robin c.args.team c.requires c.args.games.now.side _ c.args.games.now.opponents _
    (λ t. c.below-all.ensures.members t ∙ ap (nat_lt t) c.teams.ensures.number) c.intersection-opponents.ensures.members r
    (has c.args.slots r)
