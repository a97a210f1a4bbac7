use Rattle.std.proofs.Common.{ℕ, ◌≡◌, ◌<◌, ◌≤◌, ap, sym, ◌∙◌, if◌then◌else◌, arith}
use Rattle.league.specs.Sets.{has}
use Rattle.rules.specs.Deviations.{gap, largest_below}
use Rattle.report_breaches.specs.declared.fairness.Gap.{Gap}
use Rattle.report_breaches.proofs.Largest.{first_is_here, first_largest_none, first_was_before, largest_below_none, largest_is_here, largest_was_before}
use Rattle.report_breaches.proofs.fairness.worst_gap.Goals as goal
use Rattle.report_breaches.proofs.fairness.worst_gap.Goals.{then-by-worst, else-by-worst}

pub loop-round-init : goal.loop-round-init
loop-round-init c =
    record { largest = sym (largest_below_none _); first = sym (first_largest_none _); in_range = omega arith }

pub loop-round-preserved : goal.loop-round-preserved
loop-round-preserved c =
    let i = c.loop-round.invariant in
    let n = c.loop-round.round in
    let value : ℕ → ℕ = λ (r : ℕ). if has c.args.slots r then gap c.args.schedule.now c.args.most c.args.low c.args.high r else 0 in
    let here : c.gap_in-by.result ≡ value n = c.gap_in-by.ensures in
    let so_far : c.loop-round.worst.by ≡ largest_below n value = i.largest in
    elim c.if-by-worst.branch [
      | then-by-worst w ↦
          let larger : largest_below n value < value n = omega (arith, here, so_far, w.if-by-worst.true) in
          record {
            largest = ap (λ (worst : Gap). worst.by) w.worst-is ∙ here ∙ sym (largest_is_here n value larger);
            first = ap (λ (worst : Gap). worst.round) w.worst-is ∙ sym (first_is_here n value larger);
            in_range = omega (arith, ap (λ (worst : Gap). worst.round) w.worst-is);
          }
      | else-by-worst w ↦
          let least : value n ≤ largest_below n value = omega (arith, here, so_far, w.if-by-worst.false) in
          record {
            largest = ap (λ (worst : Gap). worst.by) w.worst-is ∙ so_far ∙ sym (largest_was_before n value least);
            first = ap (λ (worst : Gap). worst.round) w.worst-is ∙ i.first ∙ sym (first_was_before n value least);
            in_range = omega (arith, ap (λ (worst : Gap). worst.round) w.worst-is);
          }
    ]
