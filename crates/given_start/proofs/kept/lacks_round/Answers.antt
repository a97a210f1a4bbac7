use Rattle.std.proofs.Common.{◌≡◌, ℕ, ◌<◌, Bool, not, ◌&&◌, nat_lt, ◌∙◌, ap}
use Rattle.std.proofs.lemmas.Bool.{lt-ltb}
use Rattle.sets.specs.Limits.{max_rounds, round_count}
use Rattle.sets.specs.Sets.{has}
use Rattle.sets.proofs.ForCallers.{any_below_same}
use Rattle.given_start.proofs.kept.lacks_round.Goals as goal

pub returns : goal.returns
returns c = c.intersects.ensures ∙ any_below_same max_rounds _ _ (λ k below. ap (λ (b : Bool). has c.args.rounds k && b) (beyond k below))
  where
    beyond : (k : ℕ) → k < max_rounds → has c.difference-none.result k ≡ not (nat_lt k (round_count c.args.teams))
    beyond k below =
        let season = c.below-2.ensures.members k ∙ ap (nat_lt k) c.round_count.ensures.value in
        let all = c.below.ensures.members k ∙ lt-ltb k max_rounds below in
        c.difference-none.ensures.members k ∙ ap (λ (b : Bool). b && not (has c.below-2.result k)) all ∙ ap not season
