use Rattle.std.proofs.Common.{◌≡◌, ◌==◌, false, ◌∷◌, [], codes, decimal, length, arith}
use Rattle.std.proofs.lemmas.Bool.Decides.{nat_tests}
use Rattle.std.specs.List.{concat}
use Rattle.byte_streams.proofs.Pieces.{Adds-writes, Stops-more, Stops-writes}
use Rattle.improvement.specs.Broken.{broken_in}
use Rattle.improvement.proofs.broken.write_line.Goals as goal

pub returns-in_err-write_name : goal.returns-in_err-write_name
returns-in_err-write_name g c =
    let l = c.args.league.now in
    let bests = c.args.chains.now.bests in
    let some : (c.broken_in-broken.result == 0) ≡ false = grind (arith, nat_tests) in
    rw (rw c.broken_in-broken.ensures at some) (Stops-writes c.from_residual.ensures.0
    (Stops-more (concat (codes "broken in " ∷ decimal (broken_in l c.args.part bests.items) ∷ codes " of " ∷ decimal (length bests.items) ∷
    codes "\n" ∷ [])) c.in_err-write_name.ensures.err))

pub returns : goal.returns
returns g c =
    let some : (c.broken_in-broken.result == 0) ≡ false = grind (arith, nat_tests) in
    rw (rw c.broken_in-broken.ensures at some) (Adds-writes c.in_ok-write_name.ensures.ok
    (rw (c.broken_in-broken.ensures, c.len.ensures, c.args.chains.now.bests.ok.0) at c.write_pieces.ensures))
