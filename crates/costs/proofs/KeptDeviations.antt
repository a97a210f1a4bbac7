-- What is kept of the rules' deviations, from one schedule to the next.
use Rattle.std.proofs.Common.{◌≡◌, ◌≢◌, ℕ, ◌+◌, ◌<◌, ◌&&◌, ◌==◌, not, Bool, true, false, if◌then◌else◌, List, length, get_or, Option, Some, None, slice_get, slice_set}
use Rattle.std.proofs.Common.{IfSome, true≢false, refl, sym, ◌∙◌, ap, ap₂, subst, inl, inr, arith}
use Rattle.std.specs.Option.{is_none, is_some}
use Rattle.std.specs.Prelude.{slice_index}
use Rattle.std.proofs.lemmas.Bool.{cases_eq, cases_lt, eqb-true, not-false, not-true}
use Rattle.std.proofs.lemmas.Grind.{get_or-set_at}
use Rattle.std.proofs.lemmas.List.{get_or-set_other}
use Rattle.std.proofs.lemmas.Option.{get_or_from_slice_get, slice_get_past}
use Rattle.league.specs.League.{LeagueData, teams, IsLeague}
use Rattle.league.specs.Limits.{max_rules}
use Rattle.league.specs.RuleLimits.{IsBodyFor}
use Rattle.league.specs.Sets.{has}
use Rattle.league.specs.within.Sets.{IsWithoutLowest}
use Rattle.league.specs.declared.rule.Rule.{Rule}
use Rattle.league.proofs.ForCallers.{has_empty, lowest_gone, others_kept}
use Rattle.fixtures.specs.Exchanges.{exchanged_by}
use Rattle.fixtures.specs.Games.{Games}
use Rattle.rules.specs.Deviations.{deviation}
use Rattle.rules.specs.Parts.{deviation_part}
use Rattle.rules.proofs.ForCallers.{part_le}
use Rattle.rule_index.proofs.ForCallers.{nothing_else_altered}
use Rattle.costs.specs.within.CostParts.{IsScope, KnowsRules}
use Rattle.costs.specs.within.KeptDeviations.{AreKeptDeviations, AreRests, IsKeptOf, rest_at}
use Rattle.costs.specs.Evaluators.{if_known, AreDeviations, Deviations}
use Rattle.costs.specs.declared.kept_deviations.KeptDeviations.{KeptDeviations}
use Rattle.costs.specs.declared.scope.Scope.{Scope}
use Rattle.costs.proofs.Parts.{body_balances, round_robin_after, rule_for}
use Rattle.costs.proofs.Scores.{exchanged-teams}

-- what a loop over the rules of a set has kept of the next numbers, where it has come to all but those left
abbrev pub KeptWithout : ℕ → ℕ → List ℕ → List ℕ → List ℕ → Type 0
KeptWithout rules left next before kept = (i : ℕ) → slice_index kept i ≡
    (if has rules i && not (has left i) then slice_index next i else slice_index before i)

pub keep_more : (rules left lowest rest : ℕ) (next before kept : List ℕ) → lowest < length kept → IsWithoutLowest left lowest rest →
    has rules lowest ≡ true → KeptWithout rules left next before kept →
    KeptWithout rules rest next before (slice_set kept lowest (slice_index next lowest))
keep_more rules left lowest rest next before kept within taken in_rules so_far i = elim (cases_eq i lowest) [
  | inl here ↦
      get_or-set_at kept lowest i (slice_index next lowest) 0 here within ∙ ap (λ k. slice_index next k) (sym here) ∙
      sym (ap (λ b. if b && not (has rest i) then slice_index next i else slice_index before i) (ap (λ k. has rules k) here ∙ in_rules) ∙
      ap (λ b. if true && not b then slice_index next i else slice_index before i)
      (ap (λ k. has rest k) here ∙ lowest_gone left lowest rest taken))
  | inr other ↦
      get_or-set_other kept lowest i (slice_index next lowest) 0 other ∙ so_far i ∙
      ap (λ b. if has rules i && not b then slice_index next i else slice_index before i) (sym (others_kept left lowest rest i taken other))
]

pub keep_none : (rules : ℕ) (next before : List ℕ) → KeptWithout rules rules next before before
keep_none rules next before i = by_test (has rules i)
  where
    by_test : (b : Bool) → slice_index before i ≡ (if b && not b then slice_index next i else slice_index before i)
    by_test true = refl
    by_test false = refl

pub keep_all : (rules left : ℕ) (next before kept : List ℕ) → ((k : ℕ) → has left k ≡ false) → KeptWithout rules left next before kept →
    (i : ℕ) → slice_index kept i ≡ (if has rules i then slice_index next i else slice_index before i)
keep_all rules left next before kept none so_far i =
    so_far i ∙ ap (λ b. if has rules i && not b then slice_index next i else slice_index before i) (none i) ∙ by_test (has rules i)
  where
    by_test : (b : Bool) → (if b && true then slice_index next i else slice_index before i) ≡
        (if b then slice_index next i else slice_index before i)
    by_test true = refl
    by_test false = refl

-- what a loop over some rules has put down of each but those left: the deviation without the part

abbrev pub RestsWithout : List Rule → Scope → ℕ → ℕ → Games → List ℕ → Type 0
RestsWithout rules scope walked left g next = (k : ℕ) (rule : Rule) → slice_get rules k ≡ Some rule → has walked k ≡ true → has left k ≡ false →
    slice_index next k + deviation_part g scope.main.teams scope.main.rounds scope.flipping rule.body ≡ deviation g rule.body

-- whether a deviation isn't 0
abbrev pub is_some_at : List ℕ → ℕ → Bool
is_some_at deviations k = not (slice_index deviations k == 0)

-- there are rules up to any at which there is one
pub index_below : (rules : List Rule) (i : ℕ) (rule : Rule) → slice_get rules i ≡ Some rule → i < length rules
index_below rules i rule at = elim (cases_lt i (length rules)) [
  | inl below ↦ below
  | inr past ↦ absurd (none≢some (sym (slice_get_past rules i past) ∙ at))
]
  where
    none≢some : ◌≡◌ {A = Option Rule} None (Some rule) → ⊥
    none≢some e = true≢false (ap is_none e)

-- the rule at an index is one rule
one_rule : (rules : List Rule) (k i : ℕ) (one other : Rule) → slice_get rules i ≡ Some one → slice_get rules k ≡ Some other → k ≡ i → one ≡ other
one_rule rules k i one other here there same =
    sym (get_or_from_slice_get rules i one one here) ∙ ap (λ j. get_or rules j one) (sym same) ∙ get_or_from_slice_get rules k other one there

pub rest_more : (rules : List Rule) (scope : Scope) (walked left lowest rest : ℕ) (g : Games) (next : List ℕ) (rule : Rule) (d : ℕ) →
    lowest < length next → IsWithoutLowest left lowest rest → slice_get rules lowest ≡ Some rule →
    d + deviation_part g scope.main.teams scope.main.rounds scope.flipping rule.body ≡ deviation g rule.body →
    RestsWithout rules scope walked left g next → RestsWithout rules scope walked rest g (slice_set next lowest d)
rest_more rules scope walked left lowest rest g next rule d within taken at one so_far k other there in_scope gone = elim (cases_eq k lowest) [
  | inl here ↦
      ap (λ n. n + deviation_part g scope.main.teams scope.main.rounds scope.flipping other.body)
      (get_or-set_at next lowest k d 0 here within) ∙
      subst (λ (r : Rule). d + deviation_part g scope.main.teams scope.main.rounds scope.flipping r.body ≡ deviation g r.body)
      (one_rule rules k lowest rule other at there here) one
  | inr elsewhere ↦
      ap (λ n. n + deviation_part g scope.main.teams scope.main.rounds scope.flipping other.body)
      (get_or-set_other next lowest k d 0 elsewhere) ∙
      so_far k other there in_scope (sym (others_kept left lowest rest k taken elsewhere) ∙ gone)
]

-- of the rules that an exchange can alter, those that are broken
abbrev pub AreBroken : Scope → ℕ → ℕ → Type 0
AreBroken scope broken walked = (i : ℕ) → has walked i ≡ (has scope.rules i && has broken i)

-- a rule that isn't broken has no deviation
pub no_deviation : (g : Games) (rule : Rule) (kept : List ℕ) (i : ℕ) → slice_index kept i ≡ deviation g rule.body →
    false ≡ not (slice_index kept i == 0) → deviation g rule.body ≡ 0
no_deviation g rule kept i is unbroken = sym is ∙ eqb-true (slice_index kept i) 0 (not-false (slice_index kept i == 0) (sym unbroken))

-- what has no deviation has no part
pub no_part : (g : Games) (scope : Scope) (rule : Rule) → deviation g rule.body ≡ 0 →
    deviation_part g scope.main.teams scope.main.rounds scope.flipping rule.body ≡ 0
no_part g scope rule zero = omega (arith, part_le g scope.main.teams scope.main.rounds scope.flipping rule.body, zero)

-- so what is put down of all that it can alter, if the deviations are known
pub rests_all : (rules : List Rule) (scope : Scope) (walked left : ℕ) (g : Games) (kept next : List ℕ) (broken : ℕ) → left ≡ 0 →
    AreBroken scope broken walked → AreDeviations rules g (record { each = kept; broken = broken }) →
    RestsWithout rules scope walked left g next → AreRests rules scope (has scope.rules) g kept next
rests_all rules scope walked left g kept next broken none members are rests i rule at in_scope =
    ap (λ b. if b then rest_at kept next i + part else slice_index next i) in_scope ∙ by_test (has broken i) refl
  where
    part : ℕ
    part = deviation_part g scope.main.teams scope.main.rounds scope.flipping rule.body

    by_test : (b : Bool) → has broken i ≡ b → rest_at kept next i + part ≡ deviation g rule.body
    by_test true e =
        let some : (slice_index kept i == 0) ≡ false = not-true (slice_index kept i == 0) (sym (are.broken i rule at) ∙ e) in
        let in_walked : has walked i ≡ true = members i ∙ ap₂ (λ a b. a && b) in_scope e in
        ap (λ b. (if b then 0 else slice_index next i) + part) some ∙
        rests i rule at in_walked (ap (λ set. has set i) none ∙ has_empty i)
    by_test false e =
        let unbroken : false ≡ not (slice_index kept i == 0) = sym e ∙ are.broken i rule at in
        let nothing : part ≡ 0 = no_part g scope rule (no_deviation g rule kept i (are.each i rule at) unbroken) in
        let zero : (slice_index kept i == 0) ≡ true = not-false (slice_index kept i == 0) (sym unbroken) in
        ap (λ b. (if b then 0 else slice_index next i) + part) zero ∙
        omega (arith, nothing, are.each i rule at, eqb-true (slice_index kept i) 0 zero)

-- a loop after the exchange adds the part of each rule to what is put down of it
pub rest_taken : (rules : List Rule) (scope : Scope) (without fewer : ℕ → Bool) (index : ℕ) (g : Games) (kept next : List ℕ) (rule : Rule)
    (d : ℕ) → index < length next → without index ≡ true → fewer index ≡ false → ((k : ℕ) → k ≢ index → fewer k ≡ without k) →
    slice_get rules index ≡ Some rule →
    d ≡ rest_at kept next index + deviation_part g scope.main.teams scope.main.rounds scope.flipping rule.body →
    AreRests rules scope without g kept next → AreRests rules scope fewer g kept (slice_set next index d)
rest_taken rules scope without fewer index g kept next rule d within lacks has_it others at one so_far k other there in_scope =
    elim (cases_eq k index) [
      | inl here ↦
          let part = deviation_part g scope.main.teams scope.main.rounds scope.flipping other.body in
          let before : rest_at kept next k + part ≡ deviation g other.body =
          ap (λ b. if b then rest_at kept next k + part else slice_index next k) (sym (ap without here ∙ lacks)) ∙ so_far k other there in_scope in
          let same : deviation_part g scope.main.teams scope.main.rounds scope.flipping rule.body ≡ part =
          ap (λ (r : Rule). deviation_part g scope.main.teams scope.main.rounds scope.flipping r.body)
          (one_rule rules k index rule other at there here) in
          let gone : fewer k ≡ false = ap fewer here ∙ has_it in
          let written : get_or (slice_set next index d) k 0 ≡ d = get_or-set_at next index k d 0 here within in
          ap (λ b. if b then rest_at kept (slice_set next index d) k + part else get_or (slice_set next index d) k 0) gone ∙
          omega (arith, written, one, same, before, ap (λ j. rest_at kept next j) here)
      | inr elsewhere ↦
          let part = deviation_part g scope.main.teams scope.main.rounds scope.flipping other.body in
          let stays : get_or (slice_set next index d) k 0 ≡ get_or next k 0 = get_or-set_other next index k d 0 elsewhere in
          ap (λ n. if fewer k then (if get_or kept k 0 == 0 then 0 else n) + part else n) stays ∙
          ap (λ b. if b then rest_at kept next k + part else get_or next k 0) (others k elsewhere) ∙
          so_far k other there in_scope
    ]

-- the same rules lack their parts
pub rests_same : (rules : List Rule) (scope : Scope) (without other : ℕ → Bool) (g : Games) (kept next : List ℕ) →
    ((i : ℕ) → without i ≡ other i) → AreRests rules scope without g kept next → AreRests rules scope other g kept next
rests_same rules scope without other g kept next same rests i rule at in_scope =
    ap (λ b. if b then rest_at kept next i + deviation_part g scope.main.teams scope.main.rounds scope.flipping rule.body else get_or next i 0)
    (sym (same i)) ∙
    rests i rule at in_scope

-- what an evaluator shows of its deviations, and what they are

by_known : (kept : List ℕ) (broken : ℕ) (P : Deviations → Type 0) (known : Bool) →
    (known ≡ true → P (record { each = kept; broken = broken })) → IfSome (if_known known kept broken) P
by_known kept broken P true is = is refl
by_known kept broken P false is = tt

-- what is true if there is a value, where there is one
pub from_some : {A : Type 0} (o : Option A) (P : Type 0) → is_some o ≡ true → IfSome o (λ _. P) → P
from_some (Some a) P there is = is
from_some None P there is = absurd (true≢false (sym there))

pub known_at : (rules : List Rule) (g : Games) (held : KeptDeviations) → AreKeptDeviations rules g held →
    IfSome (if_known held.is_known held.kept held.broken) (AreDeviations rules g)
known_at rules g held are = by_known held.kept held.broken (AreDeviations rules g) held.is_known are.deviations

-- the same is kept, though less or more is put down of what comes next
pub still_deviations : (rules : List Rule) (g : Games) (old new : KeptDeviations) → AreKeptDeviations rules g old → IsKeptOf new old →
    length new.next ≡ max_rules → AreKeptDeviations rules g new
still_deviations rules g old new are same next_length = record {
  kept_length = ap length same.kept ∙ are.kept_length;
  next_length = next_length;
  deviations = λ known. rw (same.kept, same.broken) (are.deviations (sym same.known ∙ known));
}

-- from the schedule before an exchange to that after it
module _ (l : LeagueData) (g : Games) (scope : Scope) (is : IsLeague l) (same : teams l ≡ g.teams) (are : IsScope g scope) where
  abbrev pub after : Games
  after = exchanged_by g scope.attempt.exchange.now

  pub rests_after : (kept next : List ℕ) → AreRests l.rules scope (has scope.rules) g kept next →
      AreRests l.rules scope (has scope.rules) after kept next
  rests_after kept next rests i rule at in_scope =
      let balance = body_balances g scope are rule.body (rule_for l g i is same rule at) in
      let before = ap (λ b. if b then rest_at kept next i + deviation_part g scope.main.teams scope.main.rounds scope.flipping rule.body else get_or next i 0)
      (sym in_scope) ∙ rests i rule at in_scope in
      ap (λ b. if b then rest_at kept next i + deviation_part after scope.main.teams scope.main.rounds scope.flipping rule.body else get_or next i 0)
      in_scope ∙
      omega (arith, balance, before)

  pub kept_after : KnowsRules l scope → (before next kept new : List ℕ) (broken : ℕ) → AreDeviations l.rules g (record { each = kept; broken = broken }) →
      AreRests l.rules scope (λ _. false) after before next →
      ((i : ℕ) → slice_index new i ≡ (if has scope.rules i then slice_index next i else slice_index kept i)) → (i : ℕ) (rule : Rule) →
      slice_get l.rules i ≡ Some rule → slice_index new i ≡ deviation after rule.body
  kept_after knows put next kept new broken before rests written i rule at = written i ∙ by_test (has scope.rules i) refl
    where
      by_test : (b : Bool) → has scope.rules i ≡ b → (if b then slice_index next i else slice_index kept i) ≡ deviation after rule.body
      by_test true e = rests i rule at e
      by_test false e =
          let for_rule = rule_for l g i is same rule at in
          let out = sym (knows.rules i) ∙ e in
          let none_before = nothing_else_altered g l.rules i rule scope.main.teams scope.main.rounds scope.flipping are.can_be_made.round_robin at
          for_rule knows.sides out in
          let none_after = nothing_else_altered after l.rules i rule scope.main.teams scope.main.rounds scope.flipping
          (round_robin_after g scope are) at
          (subst (λ n. IsBodyFor n rule.body) (sym (exchanged-teams g scope.attempt.exchange.now)) for_rule) knows.sides out in
          omega (arith, before.each i rule at, body_balances g scope are rule.body for_rule, none_before, none_after)
