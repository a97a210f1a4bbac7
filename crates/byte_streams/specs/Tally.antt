-- Counts of the calls at an end of a stream. Counts stop at the greatest `u64`.
use Rattle.std.specs.Prelude.{◌≡◌, ℕ, ◌+◌, ◌-◌, ◌^◌, ◌≤◌, ◌⊎◌, ◌==◌, nat_lt, if◌then◌else◌}
use Rattle.byte_streams.specs.declared.tally.Tally.{Tally}
use Rattle.byte_streams.specs.declared.ends.Step.{Step}
use Rattle.byte_streams.specs.declared.ends.Step.TheVariants.{Moved, Again, Failed}

-- one more, up to the greatest `u64`
abbrev pub one_more : ℕ → ℕ
one_more n = if nat_lt n (2 ^ 64 - 1) then n + 1 else n

-- before the first call
abbrev pub no_calls : Tally
no_calls = record { calls = 0; failed = 0; empty = 0; again = 0; again_in_a_row = 0 }

-- after one more call, which answered the step
abbrev pub noted : Tally → Step → Tally
noted t (Moved n) = record t { calls = one_more t.calls; empty = if n == 0 then one_more t.empty else t.empty; again_in_a_row = 0 }
noted t Again = record t { calls = one_more t.calls; again = one_more t.again; again_in_a_row = one_more t.again_in_a_row }
noted t Failed = record t { calls = one_more t.calls; failed = one_more t.failed; again_in_a_row = 0 }

-- the count rose by at least n, or stands where counts stop
abbrev pub RisesBy : ℕ → ℕ → ℕ → Type 0
RisesBy n old new = (old + n ≤ new) ⊎ (2 ^ 64 - 1 ≤ new)

abbrev pub Rises : ℕ → ℕ → Type 0
Rises = RisesBy 1

-- no count fell
pub record NotBelow (old new : Tally) : Type 0 where
  pub calls : old.calls ≤ new.calls
  pub failed : old.failed ≤ new.failed
  pub empty : old.empty ≤ new.empty
  pub again : old.again ≤ new.again

-- since then a read failed, or as many reads were made as one input gets, and no read met the end
abbrev pub FailsReading : ℕ → Tally → Tally → Type 0
FailsReading most old new = (Rises old.failed new.failed ⊎ RisesBy most old.calls new.calls) × (new.empty ≡ old.empty)

-- since then a write failed or took no byte, or as many as may be were interrupted in a row
abbrev pub FailsWriting : ℕ → Tally → Tally → Type 0
FailsWriting most old new =
    Rises old.failed new.failed ⊎ Rises old.empty new.empty ⊎ ((most ≤ new.again_in_a_row) × RisesBy most old.again new.again)
