use Rattle.std.proofs.Common.{◌≡◌, ◌∷◌, [], ◌++◌, length, map, ap, ◌∙◌, arith}
use Rattle.std.proofs.lemmas.List.{map-append}
use Rattle.std.proofs.lemmas.List.Elements.{All-push, All-rest, All-same}
use Rattle.std.specs.Vec.Iter.{into_iter_items}
use Rattle.search.specs.within.RunParts.{IsHandle, IsScoringFor, IsWorkerInput, handle_input}
use Rattle.search.proofs.Chains.{moved_over}
use Rattle.search.proofs.runs.threads.start_all.Goals as goal

pub loop-input-preserved : goal.loop-input-preserved
loop-input-preserved g c =
    let was = c.loop-input.invariant in
    let rest = into_iter_items c.next.new.self in
    let steps : into_iter_items c.loop-input.input-iterator ≡ c.in-Some.input ∷ rest = c.in-Some.ensures.steps.0 in
    let gone = c.in-Some.ensures.steps.1 in
    let short = ap length steps in
    let pushed = c.push_reserved.ensures in
    let old = c.loop-input.handles.items in
    let handle = c.in-Some-start.handle in
    let is_handle = IsHandle c.args.run.context.gate.now c.args.run.context.scoring.league.now c.args.run.plan c.args.run.shared.now in
    let scoring_for = IsScoringFor c.args.run.context.scoring.of_boards c.args.run.context.scoring.league.now in
    record {
      inputs = All-rest (IsWorkerInput c.args.run.shared.now) c.in-Some.input rest (into_iter_items c.loop-input.input-iterator) steps was.inputs;
      scoring = All-rest scoring_for c.in-Some.input rest (into_iter_items c.loop-input.input-iterator) steps was.scoring;
      left = omega (arith, was.left, gone, short);
      handles = All-same is_handle c.push_reserved.new.self.items
          (old ++ handle ∷ []) pushed.items
          (All-push is_handle old handle was.handles
          c.in-Some-start.ensures.handle);
      count = omega (arith, gone, pushed.len, was.count);
      room = omega (arith, pushed.capacity, was.room);
      each = moved_over (map handle_input old) (map handle_input c.push_reserved.new.self.items) (into_iter_items c.loop-input.input-iterator) rest
          c.args.inputs.items (handle_input handle) c.in-Some.input
          (ap (map handle_input) pushed.items ∙ map-append handle_input old (handle ∷ [])) steps c.in-Some-start.ensures.input was.each;
    }
