use Rattle.std.proofs.Common.{◌&&◌, ◌==◌, not, sym, ◌∙◌, ap, arith, get_or}
use Rattle.std.proofs.lemmas.Bool.{eq-eqb, lt-ltb, ne_eqb}
use Rattle.rule_index.proofs.ForCallers.{collected_none, left_out, put_in}
use Rattle.costs.proofs.KeptDeviations.{is_some_at}
use Rattle.costs.proofs.kept_deviations.broken_rules.Goals as goal
use Rattle.costs.proofs.kept_deviations.broken_rules.Goals.{then-deviations-i-gt0, else-deviations-i-gt0}

pub loop-i-init : goal.loop-i-init
loop-i-init c = collected_none (is_some_at c.args.deviations.now) _ c.empty-broken.ensures.members

pub loop-i-preserved : goal.loop-i-preserved
loop-i-preserved c = elim c.if-deviations-i-gt0.branch [
  | then-deviations-i-gt0 w ↦
      rw w.broken-is
      (put_in _ _ _ c.loop-i.invariant _
      (sym (ap not (ne_eqb (get_or c.args.deviations.now c.loop-i.i 0) 0 (omega (arith, w.if-deviations-i-gt0.true)))))
      w.with-broken.ensures.members)
  | else-deviations-i-gt0 w ↦
      rw w.broken-is
      (left_out _ _ _ c.loop-i.invariant
      (sym (ap not (eq-eqb (get_or c.args.deviations.now c.loop-i.i 0) 0 (omega (arith, w.if-deviations-i-gt0.false))))))
]

pub returns : goal.returns
returns c = λ i below.
    c.loop-i.invariant.members i ∙
    ap (λ b. b && not (get_or c.args.deviations.now i 0 == 0)) (lt-ltb i c.loop-i.i (omega (arith, below, c.loop-i-test.false)))
