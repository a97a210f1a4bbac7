use Rattle.std.proofs.lemmas.Result.{on_ok_weaker}
use Rattle.league_hints.proofs.Added.{five_added, grown}
use Rattle.league_hints.proofs.remarks.push_line.Goals as goal

pub returns : goal.returns
returns c =
    on_ok_weaker c.extend_from_slice-3.result
    (λ last. five_added _ _ _ _ _ _ _ _ _ _ _ c.in_ok-extend_from_slice.ensures.items c.in_ok-push_owner.ensures
    c.in_ok-extend_from_slice-2.ensures.items c.in_ok-push_shown.ensures last) (grown _ _ _ _ c.extend_from_slice-3.ensures.items)
