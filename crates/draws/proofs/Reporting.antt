-- The steps that were reported to a gate add up.
use Rattle.std.proofs.Common.{◌≡◌, ℕ, ◌+◌, [], ◌∷◌, ◌++◌, refl, arith}
use Rattle.std.proofs.lemmas.List.Elements.{All-nil, All-push}
use Rattle.std.proofs.lemmas.List.Sums.{sum_by_push}
use Rattle.draws.specs.declared.gates.Progress.{Progress}
use Rattle.draws.specs.Reported.{AreReported, steps_of}

pub reported_none : (reported : Progress → Type 0) → AreReported reported 0
reported_none reported = record { parts = []; are = All-nil reported; sum = refl }

-- one more is reported
pub reported_more : (reported : Progress → Type 0) (n m : ℕ) (p : Progress) → AreReported reported n → reported p → n + p.steps ≡ m → AreReported reported m
reported_more reported n m p was one is =
    record {
      parts = was.parts ++ p ∷ [];
      are = All-push reported was.parts p was.are one;
      sum = omega (arith, sum_by_push steps_of was.parts p, was.sum, is);
    }
