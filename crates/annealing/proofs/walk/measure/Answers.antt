use Rattle.std.proofs.Common.{◌/◌, length, slice_index, ◌∙◌, ap, subst}
use Rattle.std.specs.Prelude.{IsPermutation}
use Rattle.std.proofs.lemmas.List.Sorted.{IsNonDecreasingBy-from_sort}
use Rattle.league.specs.Starts.{near_at}
use Rattle.annealing.specs.Walks.{changes_of, distance_sum, fraction_of}
use Rattle.annealing.proofs.walk.measure.Goals as goal

pub returns : goal.returns
returns c =
    let sorted = c.sort_unstable.new.self.items in
    record {
      median = c.middle_of.result;
      median_is = record {
        sorted = sorted;
        same = subst (λ xs. IsPermutation xs sorted)
            (c.in_ok-changes.ensures ∙ ap changes_of (c.set_near.ensures ∙ ap (near_at 0) c.in_ok-free.ensures)) c.sort_unstable.ensures.permutation;
        in_order = IsNonDecreasingBy-from_sort (λ x. x) _ c.sort_unstable.ensures.sorted;
        middle = c.middle_of.ensures ∙ ap (λ xs. slice_index xs (length xs / 2)) c.deref.ensures.value;
      };
      is = c.unit_of.ensures ∙ ap (λ distances. fraction_of c.middle_of.result distances c.pair_count.result) c.distance_sum.ensures ∙
          ap (fraction_of c.middle_of.result (distance_sum c.args.league.now)) c.pair_count.ensures.value;
    }
