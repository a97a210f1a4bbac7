use Rattle.std.proofs.Common.{◌≡◌, ◌+◌, ◌*◌, ◌^◌, ◌<◌, sym, ◌∙◌, arith, rules}
use Rattle.std.specs.Int.{w128}
use Rattle.sets.proofs.Halves.{earliest_taken, upper_half}
use Rattle.sets.proofs.rules.RulesIterator.next.Goals as goal
use Rattle.sets.proofs.rules.RulesIterator.next.Goals.{then-self-eq0+else-self-eq0-2, else-self-eq0}

-- where the low half has some, after the high half took its place if it had none
pub returns-clause-steps : goal.returns-clause-steps
returns-clause-steps c =
    let now = c.if-self-eq0.self-inside in
    let left : (0 < now.low) × (now.low < 2 ^ 128) × (c.args.self.now ≡ (now.high * 2 ^ 128 + now.low) * 2 ^ now.base) =
    elim c.if-self-eq0.branch [
      | then-self-eq0+else-self-eq0-2 w ↦
          let old = c.self.inside in
          let some : 0 < old.high = omega arith in
          let whole = upper_half 128 old.low old.high old.base w.if-self-eq0.true (c.self.invariant.1 some) in
          rw w.self-inside-is (some, omega arith, sym c.self.view_is ∙ whole)
      | else-self-eq0 w ↦ rw w.self-inside-is (omega arith, omega arith, sym c.self.view_is)
    ] in
    rw left.2 (earliest_taken w128 now.low now.high now.base left.0 left.1)

pub returns-then-self-eq0-2 : goal.returns-then-self-eq0-2
returns-then-self-eq0-2 c = search rules

pub returns-clause-goes : goal.returns-clause-goes
returns-clause-goes c = search rules
