-- What keeping games leaves as it is.
use Rattle.std.proofs.Common.{◌≡◌, ℕ, zero, suc, ◌&&◌, ◌==◌, not, refl, ◌∙◌}
use Rattle.std.proofs.Common.{inl, inr, ◌≢◌, Result, Ok, Err}
use Rattle.std.specs.Prelude.{IfOk, IfErr}
use Rattle.std.proofs.lemmas.Bool.{cases_Bool}
use Rattle.sets.specs.Sets.{has}
use Rattle.league.specs.League.{LeagueData, teams}
use Rattle.league.specs.Starts.{start_round}
use Rattle.given_start.specs.Begun.{keeping_at, keeping_below, keeping_in}
use Rattle.given_start.specs.declared.fault.BeginFault.{BeginFault}
use Rattle.given_start.specs.declared.fault.BeginFault.TheVariants.{Memory}

pub teams_in : (rounds home away : ℕ) (l : LeagueData) → teams (keeping_in rounds home away l) ≡ teams l
teams_in rounds home away l = elim (cases_Bool (not (home == away) && has rounds (start_round l home away))) [
  | inl keeps ↦ rw keeps refl
  | inr goes ↦ rw goes refl
]

pub teams_at : (rounds home m : ℕ) (l : LeagueData) → teams (keeping_at rounds home m l) ≡ teams l
teams_at rounds home zero l = refl
teams_at rounds home (suc m) l = teams_in rounds home m (keeping_at rounds home m l) ∙ teams_at rounds home m l

pub teams_below : (rounds m : ℕ) (l : LeagueData) → teams (keeping_below rounds m l) ≡ teams l
teams_below rounds zero l = refl
teams_below rounds (suc m) l = teams_at rounds m (teams l) (keeping_below rounds m l) ∙ teams_below rounds m l

-- ---- an outcome that is wanted

pub ok_wanted : (result wanted : Result LeagueData BeginFault) → wanted ≡ result → IfOk result (λ m. wanted ≡ Ok m)
ok_wanted (Ok m) wanted e = e
ok_wanted (Err fault) wanted e = tt

pub err_wanted : (result wanted : Result LeagueData BeginFault) → wanted ≡ result → IfErr result (λ f. f ≢ Memory → wanted ≡ Err f)
err_wanted (Ok m) wanted e = tt
err_wanted (Err fault) wanted e = λ other. e
