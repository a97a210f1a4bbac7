use Rattle.std.proofs.Common.{ℕ, if◌then◌else◌, refl, sym, ◌∙◌, ap, inl, inr, arith}
use Rattle.std.proofs.lemmas.Bool.{cases_lt}
use Rattle.std.proofs.lemmas.List.{get_or-replicate}
use Rattle.std.proofs.Math.ListN.{replicate, get_or-eq_default}
use Rattle.league.proofs.ForCallers.{has_beyond}
use Rattle.rules.proofs.home_rows.mask_of.Goals as goal
use Rattle.rules.specs.within.Walked.{row_length}

pub loop-round-init : goal.loop-round-init
loop-round-init c = record {
  len = refl;
  written = λ k below. absurd (omega arith);
  rest = λ k past. elim (cases_lt k row_length) [
    | inl in_row ↦ get_or-replicate row_length k 0 0 in_row
    | inr beyond ↦ get_or-eq_default (replicate row_length 0) 0 beyond
  ];
}

pub returns : goal.returns
returns c = λ r. elim (cases_lt r c.args.rounds) [
  | inl in_season ↦ c.loop-round.invariant.written r (omega arith)
  | inr past ↦
      c.loop-round.invariant.rest r (omega arith) ∙
      sym (ap {B = ℕ} (λ b. if b then 255 else 0) (has_beyond c.args.rounds c.args.slots r c.requires.slots past))
]
