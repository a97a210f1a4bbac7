use Rattle.std.proofs.Common.{sym, ◌∙◌, arith}
use Rattle.fixture_board.proofs.OneMore.{effective-none}
use Rattle.fixture_board.proofs.Rewinding.{effective-next}
use Rattle.fixture_board.proofs.state.rewind.retrace.Goals as goal

pub loop-entry-init : goal.loop-entry-init
loop-entry-init c = record {
  items = c.clear.ensures.items ∙ sym effective-none;
  capacity = c.clear.ensures.capacity;
  few = omega (arith, c.clear.ensures.len);
}

pub loop-entry-preserved : goal.loop-entry-preserved
loop-entry-preserved c = record {
  items = c.take_effect.ensures.items ∙
      effective-next _ c.args.history.now c.loop-entry.entry-index _ c.loop-entry-test.true c.loop-entry.invariant.items;
  capacity = c.take_effect.ensures.capacity ∙ c.loop-entry.invariant.capacity;
  few = omega (arith, c.take_effect.ensures.limit, c.loop-entry.invariant.few);
}
