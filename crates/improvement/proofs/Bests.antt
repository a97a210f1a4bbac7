-- The best schedule of each chain.
use Rattle.std.proofs.Common.{◌≡◌, ℕ, suc, ◌+◌, ◌<◌, ◌≤◌, Bool, true, false, not, cond, ltb, nat_lt, vec_len, inl, inr, List, [], ◌∷◌, ◌++◌, length, get_or, set, All}
use Rattle.std.proofs.Common.{Option, Some, None, if◌then◌else◌, refl, sym, ◌∙◌, ap, arith}
use Rattle.std.proofs.Math.Nat.{eq-or-lt_of_le}
use Rattle.std.proofs.lemmas.Bool.Decides.{nat_tests}
use Rattle.std.proofs.lemmas.List.Elements.{All-cons, All-head, All-nil, All-rest}
use Rattle.std.proofs.lemmas.List.{set-get_or}
use Rattle.std.proofs.lemmas.List.Sums.{prefix_len-le-length, sum_by-cons}
use Rattle.std.specs.List.{count_by, position_or_len}
use Rattle.std.specs.Option.{unwrap_or}
use Rattle.std.specs.Prelude.{Vec}
use Rattle.league.specs.League.{IsLeague, LeagueData, teams}
use Rattle.fixtures.specs.Games.{IsDoubleRoundRobin}
use Rattle.fixture_board.specs.declared.change.Entry.{Entry}
use Rattle.fixture_board.specs.History.{IsLegal, best_prefix}
use Rattle.fixture_board.proofs.ForCallers.{games_of_teams}
use Rattle.fixture_board.proofs.Rewinding.{same_best_rewound}
use Rattle.fixture_board.proofs.Sound.{IsSound-legal}
use Rattle.improvement.specs.Broken.{broken_in, is_broken}
use Rattle.improvement.specs.Chains.{better, chains_of, is_of, offered, reached}
use Rattle.improvement.specs.within.Chains.{IsInLeague}
use Rattle.improvement.specs.declared.chains.ChainBest.{ChainBest}
use Rattle.improvement.specs.declared.broken.Part.{Part}
use Rattle.improvement.specs.Laws.{CannotBeKept}
use Rattle.improvement.specs.Legs.{AreLegs, LegRun, improves}
use Rattle.board_texts.specs.SearchText.{games_at_best}

-- ---- the first element that passes

module _ {X : Type 0} (p : X → Bool) where
  pub index_or : (xs : List X) (r : Option ℕ) (n : ℕ) → n ≡ length xs →
      r ≡ cond (ltb (position_or_len p xs) (length xs)) (Some (position_or_len p xs)) None → unwrap_or r n ≡ position_or_len p xs
  index_or xs r n same e = rw e (grind (arith, nat_tests, prefix_len-le-length (λ x. not (p x)) xs))

  -- a place that was found, and none
  pub place_within : {Z : Type 0} (v : Vec X Z) (place n : ℕ) → place ≡ position_or_len p v.items → n ≡ vec_len v →
      (place ≡ n → ⊥) → place < vec_len v
  place_within v place n is len other =
      let most : place ≤ vec_len v = omega (arith, is, v.ok.0, prefix_len-le-length (λ x. not (p x)) v.items) in
      elim (eq-or-lt_of_le most) [ inl same ↦ absurd (other (same ∙ sym len)) | inr lower ↦ lower ]

  pub place_none : {Z : Type 0} (v : Vec X Z) (place n : ℕ) → place ≡ position_or_len p v.items → n ≡ vec_len v →
      place ≡ n → position_or_len p v.items ≡ length v.items
  place_none v place n is len same = sym is ∙ same ∙ len ∙ v.ok.0

-- ---- where a chain's best schedule stands

new_by : (later best : ChainBest) (bests : List ChainBest) (c : Bool) → is_of later.chain best ≡ c →
    position_or_len (is_of later.chain) (best ∷ bests) ≡ suc (length bests) →
    (position_or_len (is_of later.chain) bests ≡ length bests → offered later bests ≡ bests ++ later ∷ []) →
    (if c then better later best ∷ bests else best ∷ offered later bests) ≡ best ∷ (bests ++ later ∷ [])
new_by later best bests true is none rest = let at : 0 ≡ suc (length bests) = rw is at none in absurd (omega (arith, at))
new_by later best bests false is none rest =
    let at : 1 + position_or_len (is_of later.chain) bests ≡ suc (length bests) = rw is at none in
    ap (λ (l : List ChainBest). best ∷ l) (rest (omega (arith, at)))

-- a chain that ended no leg before
pub met_new : (later : ChainBest) (bests : List ChainBest) → position_or_len (is_of later.chain) bests ≡ length bests →
    offered later bests ≡ bests ++ later ∷ []
met_new later [] none = refl
met_new later (best ∷ bests) none =
    new_by later best bests (is_of later.chain best) refl none (met_new later bests)

met_by : (later best d : ChainBest) (bests : List ChainBest) (c : Bool) → is_of later.chain best ≡ c →
    position_or_len (is_of later.chain) (best ∷ bests) < suc (length bests) →
    (position_or_len (is_of later.chain) bests < length bests → offered later bests ≡ set bests (position_or_len (is_of later.chain) bests)
    (better later (get_or bests (position_or_len (is_of later.chain) bests) d))) →
    (if c then better later best ∷ bests else best ∷ offered later bests) ≡
    set (best ∷ bests) (position_or_len (is_of later.chain) (best ∷ bests))
    (better later (get_or (best ∷ bests) (position_or_len (is_of later.chain) (best ∷ bests)) d))
met_by later best d bests true is within rest = rw is refl
met_by later best d bests false is within rest =
    let place = position_or_len (is_of later.chain) bests in
    let next : 1 + place ≡ suc place = omega arith in
    let fewer : 1 + place < suc (length bests) = rw is at within in
    rw (is, next) (ap (λ (l : List ChainBest). best ∷ l) (rest (omega (arith, fewer))))

-- one that ended a leg before
pub met_again : (later d : ChainBest) (bests : List ChainBest) → position_or_len (is_of later.chain) bests < length bests →
    offered later bests ≡ set bests (position_or_len (is_of later.chain) bests)
    (better later (get_or bests (position_or_len (is_of later.chain) bests) d))
met_again later d [] within = absurd (omega arith)
met_again later d (best ∷ bests) within = met_by later best d bests (is_of later.chain best) refl within (met_again later d bests)

-- where a better one comes, and where a worse one
pub met_better : (later earlier : ChainBest) (bests : List ChainBest) (place : ℕ) → place ≡ position_or_len (is_of later.chain) bests →
    place < length bests → earlier ≡ get_or bests place earlier → improves later.standing earlier.standing ≡ true →
    offered later bests ≡ set bests place later
met_better later earlier bests place is within at improves_is =
    met_again later earlier bests (rw is at within) ∙ rw (← is, ← at, improves_is) refl

pub met_worse : (later earlier : ChainBest) (bests : List ChainBest) (place : ℕ) → place ≡ position_or_len (is_of later.chain) bests →
    place < length bests → earlier ≡ get_or bests place earlier → improves later.standing earlier.standing ≡ false →
    offered later bests ≡ bests
met_worse later earlier bests place is within at improves_is =
    met_again later earlier bests (rw is at within) ∙ rw (← is, ← at, improves_is) (rw (← at) at (set-get_or bests place earlier))

-- ---- what holds of each

module _ (P : ChainBest → Type 0) where
  better_all : (later earlier : ChainBest) (c : Bool) → P later → P earlier → P (if c then later else earlier)
  better_all later earlier true is before = is
  better_all later earlier false is before = before

  offered_by : (later best : ChainBest) (bests : List ChainBest) (c : Bool) → P later → All P (best ∷ bests) → All P (offered later bests) →
      All P (if c then better later best ∷ bests else best ∷ offered later bests)
  offered_by later best bests true is all rest =
      All-cons P (better later best) bests
      (better_all later best (improves later.standing best.standing) is (All-head P best bests all))
      (All-rest P best bests (best ∷ bests) refl all)
  offered_by later best bests false is all rest = All-cons P best (offered later bests) (All-head P best bests all) rest

  offered_all : (later : ChainBest) (bests : List ChainBest) → P later → All P bests → All P (offered later bests)
  offered_all later [] is all = All-cons P later [] is all
  offered_all later (best ∷ bests) is all =
      offered_by later best bests (is_of later.chain best) is all
      (offered_all later bests is (All-rest P best bests (best ∷ bests) refl all))

  chains_all : (league : LeagueData) (room : ℕ) (legs : List LegRun) →
      ((chain : ℕ) (h : List Entry) → IsLegal league room h → P (reached chain league h)) → AreLegs league room legs →
      All P (chains_of league legs)
  unfolding chains_of
  chains_all league room [] each are = All-nil P
  chains_all league room (run ∷ before) each are =
      offered_all (reached run.chain league run.history) (chains_of league before) (each run.chain run.history are.0.legal)
      (chains_all league room before each are.1)

reached_in : (league : LeagueData) (h : List Entry) (prefix : Option (List Entry)) → (games_at_best league h prefix).teams ≡ teams league
reached_in league h None = games_of_teams league h
reached_in league h (Some prefix) = games_of_teams league prefix

pub chains_in : (league : LeagueData) (room : ℕ) (legs : List LegRun) → AreLegs league room legs →
    All (IsInLeague league) (chains_of league legs)
chains_in league room legs are =
    chains_all (IsInLeague league) league room legs (λ chain h legal. reached_in league h (best_prefix league h)) are

-- ---- a part that no schedule keeps

robin_at : (league : LeagueData) (room : ℕ) (h : List Entry) (prefix : Option (List Entry)) → IsLeague league →
    IsLegal league room (unwrap_or prefix h) → IsDoubleRoundRobin (games_at_best league h prefix)
robin_at league room h None limits legal = (IsSound-legal league room h limits legal).robin
robin_at league room h (Some prefix) limits legal = (IsSound-legal league room prefix limits legal).robin

count_all : {X : Type 0} (p : X → Bool) (xs : List X) → All (λ x. p x ≡ true) xs → count_by p xs ≡ length xs
count_all p [] all = refl
count_all p (x ∷ xs) all =
    let first : p x ≡ true = All-head (λ y. p y ≡ true) x xs all in
    let rest : count_by p xs ≡ length xs = count_all p xs (All-rest (λ y. p y ≡ true) x xs (x ∷ xs) refl all) in
    let more : count_by p (x ∷ xs) ≡ 1 + count_by p xs = sum_by-cons (λ y. cond (p y) 1 0) x xs ∙ rw first refl in
    omega (arith, more, rest)

some_broken : (n : ℕ) → 0 < n → nat_lt 0 n ≡ true
some_broken n some = grind (arith, nat_tests)

pub unkept_is_broken_in_each : (league : LeagueData) (room : ℕ) (legs : List LegRun) (part : Part) → IsLeague league →
    AreLegs league room legs → CannotBeKept league part → broken_in league part (chains_of league legs) ≡ length (chains_of league legs)
unkept_is_broken_in_each league room legs part limits are unkept =
    count_all (is_broken league part) (chains_of league legs)
    (chains_all (λ best. is_broken league part best ≡ true) league room legs
    (λ chain h legal. some_broken _ (unkept (games_at_best league h (best_prefix league h))
    (robin_at league room h (best_prefix league h) limits ((same_best_rewound league room h).legal legal))
    (reached_in league h (best_prefix league h)))) are)
