use Rattle.std.proofs.Common.{[], ◌∷◌, map, refl, ap, ◌∙◌, arith}
use Rattle.std.proofs.lemmas.List.{map-append}
use Rattle.search.specs.within.RunParts.{input_copy}
use Rattle.search.proofs.Chains.{chain_more, moved_over, workers_more}
use Rattle.search.proofs.runs.threads.seat_all.Goals as goal

pub loop-copy-preserved : goal.loop-copy-preserved
loop-copy-preserved g c =
    let was = c.loop-copy.invariant in
    let gone = c.in-Some.ensures.steps.1 in
    let pushed = c.push_reserved.ensures in
    let inputs = c.loop-copy.inputs.items in
    record {
      chain = chain_more _ _ _ _ _ _ _ _ was.chain c.in_ok-next.ensures.1 c.replace.ensures.after pushed.items
          (c.replace.ensures.value ∙ c.in_ok-next.ensures.0);
      count = omega (arith, gone, pushed.len, was.count);
      room = omega (arith, pushed.capacity, was.room);
      workers = workers_more inputs _ _ _ _ was.workers pushed.items (omega arith) (omega (arith, pushed.len));
      copies = moved_over _ _ _ _ _ _ _ (ap (map input_copy) pushed.items ∙ map-append input_copy inputs (_ ∷ [])) c.in-Some.ensures.steps.0
          refl was.copies;
    }
