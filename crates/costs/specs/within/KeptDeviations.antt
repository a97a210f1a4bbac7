-- What is kept of the rules' deviations while an exchange is judged.
use Rattle.std.specs.Prelude.{◌≡◌, ℕ, ◌+◌, ◌||◌, ◌==◌, Bool, true, false, if◌then◌else◌, List, length, Some, slice_get, slice_index}
use Rattle.league.specs.Limits.{max_rules}
use Rattle.league.specs.Sets.{has}
use Rattle.league.specs.declared.rule.Rule.{Rule}
use Rattle.fixtures.specs.Games.{Games}
use Rattle.rules.specs.Deviations.{deviation}
use Rattle.rules.specs.Parts.{deviation_part}
use Rattle.costs.specs.Evaluators.{AreDeviations}
use Rattle.costs.specs.declared.kept_deviations.KeptDeviations.{KeptDeviations}
use Rattle.costs.specs.declared.scope.Scope.{Scope}

-- each rule has its place, and what is known are the deviations of the schedule
pub record AreKeptDeviations (rules : List Rule) (g : Games) (held : KeptDeviations) : Type 0 where
  pub kept_length : length held.kept ≡ max_rules
  pub next_length : length held.next ≡ max_rules
  pub deviations : held.is_known ≡ true → AreDeviations rules g (record { each = held.kept; broken = held.broken })

-- another schedule's deviations with the same that is kept
pub record IsKeptOf (new old : KeptDeviations) : Type 0 where
  pub known : new.is_known ≡ old.is_known
  pub kept : new.kept ≡ old.kept
  pub broken : new.broken ≡ old.broken

-- what is put down of a rule's deviation, of one that isn't broken nothing
abbrev pub rest_at : List ℕ → List ℕ → ℕ → ℕ
rest_at kept next i = if slice_index kept i == 0 then 0 else slice_index next i

-- For each rule that the exchange can alter: what of its deviation on a schedule isn't the part that the exchange can alter if the rule passes
-- a test, otherwise all of it.
abbrev pub AreRests : List Rule → Scope → (ℕ → Bool) → Games → List ℕ → List ℕ → Type 0
AreRests rules scope without g kept next = (i : ℕ) (rule : Rule) → slice_get rules i ≡ Some rule → has scope.rules i ≡ true →
    (if without i then rest_at kept next i + deviation_part g scope.main.teams scope.main.rounds scope.flipping rule.body
    else slice_index next i) ≡
    deviation g rule.body

-- the deviations of a set of rules are made whole, whichever others are not
abbrev pub AreMadeWhole : List Rule → Scope → ℕ → Games → KeptDeviations → KeptDeviations → Type 0
AreMadeWhole rules scope set g old new = (others : ℕ → Bool) → ((i : ℕ) → has set i ≡ true → others i ≡ false) →
    (old.is_known ≡ true → AreRests rules scope (λ i. has set i || others i) g old.kept old.next) →
    new.is_known ≡ true → AreRests rules scope others g new.kept new.next
