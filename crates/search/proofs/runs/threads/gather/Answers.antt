use Rattle.std.proofs.Common.{◌≡◌, ◌∷◌, [], length, sym, ap, ◌∙◌, append_assoc, arith}
use Rattle.std.proofs.lemmas.List.Elements.{All-head, All-rest, All-same}
use Rattle.std.specs.Vec.Iter.{into_iter_items}
use Rattle.search.specs.within.RunParts.{IsHandle}
use Rattle.search.proofs.Credited.{gathered_more}
use Rattle.search.proofs.runs.threads.gather.Goals as goal

pub loop-handle-preserved : goal.loop-handle-preserved
loop-handle-preserved g c =
    let was = c.loop-handle.invariant in
    let all = into_iter_items c.loop-handle.handle-iterator in
    let rest = into_iter_items c.next.new.self in
    let handle = c.in-Some.handle in
    let steps : all ≡ handle ∷ rest = c.in-Some.ensures.steps.0 in
    let gone = c.in-Some.ensures.steps.1 in
    let short = ap length steps in
    let pushed = c.push_reserved.ensures in
    let league = c.args.run.context.scoring.league.now in
    let is_handle = IsHandle c.args.run.context.gate.now league c.args.run.plan c.args.run.shared.now in
    let given : is_handle handle =
    All-head is_handle handle rest
    (All-same is_handle (handle ∷ rest) all (sym steps) was.handles)
    in
    record {
      handles = All-rest is_handle handle rest all steps was.handles;
      left = omega (arith, was.left, gone, short);
      all = append_assoc c.loop-handle.yielded (handle ∷ []) _ ∙ rw (← steps) was.all;
      count = omega (arith, gone, pushed.len, was.count);
      room = omega (arith, pushed.capacity, was.room);
      gathered = gathered_more g.G.Gate.heard g.G.Gate.was_reported c.args.run.context.gate.now league c.args.run.plan c.args.run.shared.now c.args.seat.now
          c.loop-handle.seat c.join-ended.result.seat c.absorb.new.seat
          c.loop-handle.yielded handle c.loop-handle.reports.items c.push_reserved.new.self.items c.join-ended.result.report
          was.gathered given c.join-ended.ensures c.absorb.ensures pushed.items;
    }
