use Rattle.std.proofs.Common.{◌≡◌, ℕ, ◌<◌, length, sym, ◌∙◌, ap, subst, slice_index, arith}
use Rattle.league.specs.League.{teams}
use Rattle.bounds.specs.Bounds.{IsTourBound}
use Rattle.bounds.specs.within.Prices.{AreOfOpponents, trips_of}
use Rattle.bounds.specs.within.Entries.{most_of}
use Rattle.bounds.proofs.Evaluated.{tour_bound_of}
use Rattle.bounds.proofs.team_bound.team_bound.Goals as goal

pub returns-clause-bound : goal.returns-clause-bound
returns-clause-bound c =
    let l = c.args.league.now in
    let it = c.traveller_of-traveller.result in
    let told = c.traveller_of-traveller.ensures in
    let sets = c.deref-2.result.now in
    let entries = c.deref-3.result.now in
    let same : c.deref.result.now ≡ sets = c.deref.ensures.value ∙ sym c.deref-2.ensures.value in
    let trips : (k : ℕ) → k < length c.deref.result.now → slice_index entries k ≡ trips_of it.most (slice_index c.deref.result.now k) =
    λ k below. ap (λ xs. slice_index xs k) c.deref-3.ensures.value ∙ c.in_ok-entries.ensures.value k below in
    subst (λ h. IsTourBound l h c.div_ceil.result) told.home
    (tour_bound_of l it.home sets entries c.in_ok-best.best (omega (arith, it.home_in, told.teams))
    (omega (arith, it.most_least, told.most))
    (subst (AreOfOpponents (teams l) it.home) (sym c.deref-2.ensures.value)
    (subst (λ n. AreOfOpponents n it.home c.in_ok-sets.sets.items) told.teams c.in_ok-sets.ensures))
    (subst (λ xs. (k : ℕ) → k < length xs → slice_index entries k ≡ trips_of (most_of l) (slice_index xs k)) same
    (λ k below. trips k below ∙ ap (λ m. trips_of m (slice_index c.deref.result.now k)) told.most))
    (c.in_ok-best.ensures {u = tt}) c.div_ceil.result (λ whole within. omega (arith, c.div_ceil.ensures, within)))
