use Rattle.std.proofs.lemmas.Grind.{common_steps}
use Rattle.std.proofs.Common.{arith, inl, length-drop, rules}
use Rattle.byte_streams.specs.declared.ends.Step.TheVariants.{Moved}
use Rattle.byte_streams.proofs.Counts.{NotBelow-call, calls_moved, empty_moved}
use Rattle.byte_streams.proofs.Sendings.{AppendsAllBut-moved}
use Rattle.byte_streams.proofs.writing.write_all.Goals as goal

pub loop-rest-preserved-in-Moved : goal.loop-rest-preserved-in-Moved
loop-rest-preserved-in-Moved g c =
    let i = c.loop-rest.invariant in
    let counted = (c.in-Moved.ensures).counted in
    record {
      progress = rw c.split_at.ensures.back (AppendsAllBut-moved _ _ _ _ _ _ i.progress (c.in-Moved.ensures).bytes.1);
      counts = NotBelow-call _ _ _ (Moved c.in-Moved.n) i.counts counted;
      few = omega arith;
      still = omega arith;
      in_a_row = omega arith;
      interruptions = inl (rw counted (omega (arith, i.counts.again)));
      calls = rw (counted, c.split_at.ensures.back, length-drop c.in-Moved.n c.loop-rest.rest.now)
          (calls_moved _ _ _ _ _ _ c.if-n-eq0.false (c.in-Moved.ensures).bytes.0 i.few i.calls);
      none_failed = rw counted (empty_moved c.in-Moved.n _ _ _ c.if-n-eq0.false i.none_failed);
    }

pub returns-in-Failed : goal.returns-in-Failed
returns-in-Failed g c = search rules

pub returns : goal.returns
returns g c = grind (arith, common_steps)
