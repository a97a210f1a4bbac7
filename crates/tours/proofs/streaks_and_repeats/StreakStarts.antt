-- The first rounds of streaks, as sets.
use Rattle.std.proofs.Common.{◌≡◌, ℕ, zero, suc, ◌+◌, ◌-◌, ◌<◌, ◌≤◌, Bool, true, false, not, ◌&&◌, ◌||◌, inl, inr}
use Rattle.std.proofs.Common.{refl, sym, ◌∙◌, ap, arith}
use Rattle.std.specs.Prelude.{nat_lt, if◌then◌else◌}
use Rattle.std.specs.Bool.{beq}
use Rattle.std.proofs.Math.Bool.{or-not_self}
use Rattle.std.proofs.lemmas.Bool.{cases_lt, lt-ltb, le-ltb}
use Rattle.std.proofs.lemmas.Bool.Decides.{nat_tests}
use Rattle.league.specs.Limits.{max_rounds}
use Rattle.league.specs.Sets.{has, is_like_next}
use Rattle.league.specs.Sums.{sum_where, count_where, all_below, any_below}
use Rattle.league.proofs.ForCallers.{all_below_same, all_below_fails, sum_below_past, sum_where_same, count_where_same}
use Rattle.league.proofs.ForCallers.{count_where_none, any_below_fails}
use Rattle.fixtures.specs.Games.{Games, round_count, is_home}
use Rattle.tours.specs.Streaks.{windows, is_streak, streaks_of, runs_over}
use Rattle.tours.specs.Parts.{touches_window, runs_part_of, runs_part}
use Rattle.tours.specs.within.Delta.{HasHomes, HasStreaks}

pub home_at : (g : Games) (team home r : ℕ) → HasHomes g team home → r < round_count g.teams → has home r ≡ is_home g team r
home_at g team home r homes in_r = homes r ∙ ap (λ b. b && is_home g team r) (lt-ltb r (round_count g.teams) in_r)

-- the rounds before the last one of the season that are as the next round is
abbrev HasLikes : ℕ → ℕ → ℕ → Type 0
HasLikes season home likes = (r : ℕ) → has likes r ≡ (nat_lt (r + 1) season && is_like_next home r)

like_at : (g : Games) (team season home likes r : ℕ) → season ≡ round_count g.teams →
    HasHomes g team home → HasLikes season home likes → r + 1 < season →
    has likes r ≡ beq (is_home g team r) (is_home g team (r + 1))
like_at g team season home likes r is_season homes is_likes in_r =
    is_likes r ∙ ap (λ b. b && is_like_next home r) (lt-ltb (r + 1) season in_r) ∙
    ap (λ b. beq b (has home (r + 1))) (home_at g team home r homes (omega arith)) ∙
    ap (beq (is_home g team r)) (home_at g team home (r + 1) homes (omega arith))

one_more : (homes aways now next : Bool) →
    (((homes && now) || (aways && not now)) && beq now next) ≡
    (((homes && now) && next) || ((aways && not now) && not next))
one_more homes aways now next = grind arith

-- all are alike where each is as the next is
all_alike : (n : ℕ) (test : ℕ → Bool) →
    all_below n (λ k. beq (test k) (test (suc k))) ≡ (all_below (suc n) test || all_below (suc n) (λ k. not (test k)))
unfolding all_below
all_alike zero test = sym (or-not_self (test 0))
all_alike (suc n) test =
    ap (λ b. b && beq (test n) (test (suc n))) (all_alike n test) ∙
    one_more (all_below n test) (all_below n (λ k. not (test k))) (test n) (test (suc n))

-- a window within the season, or one that ends after it
streak_in_season : (g : Games) (team length season home likes first : ℕ) → 2 ≤ length → season ≡ round_count g.teams →
    HasHomes g team home → HasLikes season home likes → first + length ≤ season →
    all_below (length - 1) (λ k. has likes (first + k)) ≡ is_streak g team first length
unfolding is_streak
streak_in_season g team length season home likes first least is_season homes is_likes fits =
    all_below_same (length - 1) (λ k. has likes (first + k))
    (λ k. beq (is_home g team (first + k)) (is_home g team (first + suc k)))
    (λ k below.
    like_at g team season home likes (first + k) is_season homes is_likes (omega arith) ∙
    ap (λ r. beq (is_home g team (first + k)) (is_home g team r)) (omega arith)) ∙
    all_alike (length - 1) (λ k. is_home g team (first + k)) ∙
    ap (is_streak g team first) (omega arith)

none_past_season : (length season home likes first : ℕ) → 2 ≤ length → HasLikes season home likes →
    season < first + length →
    all_below (length - 1) (λ k. has likes (first + k)) ≡ false
none_past_season length season home likes first least is_likes past =
    all_below_fails (length - 1) (λ k. has likes (first + k)) (length - 2) (omega arith)
    (is_likes (first + (length - 2)) ∙
    ap (λ b. b && is_like_next home (first + (length - 2))) (le-ltb (first + (length - 2) + 1) season (omega arith)))

pub streak_from : (g : Games) (team length season home likes : ℕ) → 2 ≤ length → season ≡ round_count g.teams →
    HasHomes g team home → HasLikes season home likes → (first : ℕ) →
    all_below (length - 1) (λ k. has likes (first + k)) ≡ (nat_lt first (windows g length) && is_streak g team first length)
streak_from g team length season home likes least is_season homes is_likes first =
    elim (cases_lt first (windows g length)) [
      | inl window ↦
          rw (lt-ltb first (windows g length) window)
          (streak_in_season g team length season home likes first least is_season homes is_likes (omega arith))
      | inr past ↦
          rw (le-ltb first (windows g length) past)
          (none_past_season length season home likes first least is_likes (omega arith))
    ]

if_below : (k n : ℕ) (b : Bool) → n ≤ k → ◌≡◌ {A = ℕ} (if nat_lt k n && b then 1 else 0) 0
if_below k n b past = grind (arith, nat_tests)

-- a set of windows has as many as pass its test
windows_counted : (g : Games) (length set : ℕ) (test : ℕ → Bool) → 1 ≤ length → round_count g.teams ≤ max_rounds →
    ((first : ℕ) → has set first ≡ (nat_lt first (windows g length) && test first)) →
    count_where max_rounds (has set) ≡ count_where (windows g length) test
windows_counted g length set test least season is_set =
    count_where_same max_rounds (has set) (λ f. nat_lt f (windows g length) && test f) (λ f below. is_set f) ∙
    sum_below_past (windows g length) max_rounds (λ f. if nat_lt f (windows g length) && test f then 1 else 0) (omega arith)
    (λ f past below. if_below f (windows g length) (test f) past) ∙
    count_where_same (windows g length) (λ f. nat_lt f (windows g length) && test f) test
    (λ f below. ap (λ b. b && test f) (lt-ltb f (windows g length) below))

regroup : (window streak start : Bool) → ((window && streak) && start) ≡ (window && (start && streak))
regroup true true true = refl
regroup true true false = refl
regroup true false true = refl
regroup true false false = refl
regroup false streak start = refl

-- how many of a team's streaks begin with a round of the set
pub streaks_counted : (g : Games) (team length streaks starts counted : ℕ) → 1 ≤ length → round_count g.teams ≤ max_rounds → HasStreaks g team length streaks →
    ((first : ℕ) → has counted first ≡ (has streaks first && has starts first)) →
    count_where max_rounds (has counted) ≡ count_where (windows g length) (λ first. has starts first && is_streak g team first length)
streaks_counted g team length streaks starts counted least season is_streaks is_counted =
    windows_counted g length counted (λ f. has starts f && is_streak g team f length) least season
    (λ f. is_counted f ∙ ap (λ b. b && has starts f) (is_streaks f) ∙
    regroup (nat_lt f (windows g length)) (is_streak g team f length) (has starts f))

-- how many there are
pub all_streaks_counted : (g : Games) (team limit streaks : ℕ) → round_count g.teams ≤ max_rounds → HasStreaks g team (limit + 1) streaks →
    count_where max_rounds (has streaks) ≡ streaks_of g limit team
unfolding streaks_of
all_streaks_counted g team limit streaks season is_streaks =
    windows_counted g (limit + 1) streaks (λ f. is_streak g team f (limit + 1)) (omega arith) season is_streaks

-- none, where none of its streaks does
pub no_streaks_counted : (g : Games) (team length streaks starts : ℕ) → 1 ≤ length → round_count g.teams ≤ max_rounds → HasStreaks g team length streaks →
    any_below max_rounds (λ s. has streaks s && has starts s) ≡ false →
    count_where (windows g length) (λ first. has starts first && is_streak g team first length) ≡ 0
no_streaks_counted g team length streaks starts least season is_streaks out =
    count_where_none (windows g length) (λ first. has starts first && is_streak g team first length)
    (λ f below. neither (is_streak g team f length) (has starts f)
    (ap (λ b. b && has starts f)
    (sym (is_streaks f ∙ ap (λ b. b && is_streak g team f length) (lt-ltb f (windows g length) below))) ∙
    any_below_fails max_rounds (λ s. has streaks s && has starts s) out f (omega arith)))
  where
    neither : (a b : Bool) → (a && b) ≡ false → (b && a) ≡ false
    neither true true e = e
    neither true false e = refl
    neither false true e = refl
    neither false false e = refl

-- what a walk over the teams of a set counts
abbrev pub streaks_walked : Games → ℕ → ℕ → ℕ → ℕ
streaks_walked g limit among starts =
    sum_where g.teams (has among) (λ t. count_where (windows g (limit + 1)) (λ first. has starts first && is_streak g t first (limit + 1)))

pub streaks_walked_part : (g : Games) (limit among starts : ℕ) (teams rounds : ℕ → Bool) → ((t : ℕ) → t < g.teams → has among t ≡ teams t) →
    ((first : ℕ) → has starts first ≡ touches_window rounds first (limit + 1)) →
    streaks_walked g limit among starts ≡ runs_part g limit teams rounds
unfolding runs_part runs_part_of
streaks_walked_part g limit among starts teams rounds members is_starts =
    sum_where_same g.teams (has among) teams
    (λ t. count_where (windows g (limit + 1)) (λ f. has starts f && is_streak g t f (limit + 1))) (runs_part_of g limit rounds) members
    (λ t in_t inside. count_where_same (windows g (limit + 1)) (λ f. has starts f && is_streak g t f (limit + 1))
    (λ f. touches_window rounds f (limit + 1) && is_streak g t f (limit + 1))
    (λ f below. ap (λ b. b && is_streak g t f (limit + 1)) (is_starts f)))

pub streaks_walked_all : (g : Games) (limit all starts : ℕ) → ((t : ℕ) → t < g.teams → has all t ≡ true) →
    ((first : ℕ) → first < round_count g.teams → has starts first ≡ true) → streaks_walked g limit all starts ≡ runs_over g limit
unfolding runs_over streaks_of
streaks_walked_all g limit all starts members is_starts =
    sum_where_same g.teams (has all) (λ _. true)
    (λ t. count_where (windows g (limit + 1)) (λ f. has starts f && is_streak g t f (limit + 1))) (streaks_of g limit) members
    (λ t in_t inside. count_where_same (windows g (limit + 1)) (λ f. has starts f && is_streak g t f (limit + 1)) (λ f. is_streak g t f (limit + 1))
    (λ f below. ap (λ b. b && is_streak g t f (limit + 1)) (is_starts f (omega arith))))
