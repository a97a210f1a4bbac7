-- A tour without a run is a relaxed one: it is no shorter than the tables say, by whatever legs.
use Rattle.std.proofs.Common.{◌≡◌, ◌≢◌, ℕ, ◌+◌, ◌<◌, ◌≤◌, refl, sym, ◌∙◌, ap, inl, inr, arith}
use Rattle.std.proofs.lemmas.Bool.{cases_eq}
use Rattle.sets.specs.Sums.{sum_below}
use Rattle.sets.proofs.ForCallers.{sum_below_more}
use Rattle.bounds.specs.within.Tables.{IsOpponent, AreWalks, AreTours}
use Rattle.bounds.proofs.Ways.{by_steps, row, done, row_away, row_some, row_at_home, done_none, done_home, done_away}
use Rattle.bounds.proofs.Ways.{done_and_row, IsWay, all_games, games_below}

-- the length of the first r legs
abbrev pub way : (ℕ → ℕ → ℕ) → (ℕ → ℕ) → ℕ → ℕ
way leg s r = sum_below r (λ k. leg (s k) (s (k + 1)))

-- what the tables say of the stops up to one is no longer: of the trips that ended, and of this trip if it may go on to x
pub record IsWalked (home : ℕ) (leg : ℕ → ℕ → ℕ) (walk : ℕ → ℕ → ℕ → ℕ) (tour : ℕ → ℕ) (s : ℕ → ℕ) (r : ℕ) : Type 0 where
  pub at_home : s r ≡ home → tour (done home s r) ≤ way leg s r
  pub away : (x : ℕ) → s r ≢ home → ((q : ℕ) → q + 1 ≡ r → x ≢ s q) →
      tour (done home s r) + walk (row home s r) (s r) x ≤ way leg s r

pub walked : (n home most rounds : ℕ) (leg : ℕ → ℕ → ℕ) (walk : ℕ → ℕ → ℕ → ℕ) (tour : ℕ → ℕ) (s : ℕ → ℕ)
    → IsWay n home most rounds s → AreWalks n home most leg walk → AreTours n home most leg walk tour
    → (r : ℕ) → r ≤ rounds + 1 → IsWalked home leg walk tour s r
walked n home most rounds leg walk tour s is walks tours =
    by_steps (λ r. r ≤ rounds + 1 → IsWalked home leg walk tour s r)
    (λ _. record {
      at_home = λ _. rw (done_none home s) (omega (arith, tours.none));
      away = λ x out from. absurd (out is.first);
    })
    (λ r before in_r. record {
      at_home = λ home_again. elim (cases_eq (s r) home) [
        | inl stays ↦ omega (
          arith,
          (before (omega arith)).at_home stays,
          added r,
          ap tour (same_done r stays home_again),
        )
        | inr was_out ↦ ended r (omega arith) was_out home_again (before (omega arith))
      ];
      away = λ x out from. elim (cases_eq (s r) home) [
        | inl begins ↦ begun r x begins out (from r refl) (before (omega arith))
        | inr was_out ↦ gone_on r x (omega arith) was_out out (from r refl) (before (omega arith))
      ];
    })
  where
    added : (r : ℕ) → way leg s (r + 1) ≡ way leg s r + leg (s r) (s (r + 1))
    added r = sum_below_more r (λ k. leg (s k) (s (k + 1)))

    same_done : (r : ℕ) → s r ≡ home → s (r + 1) ≡ home → done home s (r + 1) ≡ done home s r
    same_done r stays home_again = omega (arith, done_home home s r home_again, row_at_home home s r stays)

    opponent : (r : ℕ) → s r ≢ home → IsOpponent n home (s r)
    opponent r out = record { team = is.below r; away = out }

    -- two stops of a trip one after another are not the same, nor two with one between
    next_differs : (q r : ℕ) → q < r → s r ≢ home → s r ≢ s q
    next_differs q r less out same = absurd (omega (arith, is.once r q same out))

    room : (r : ℕ) → r ≤ rounds + 1 → done home s r + row home s r < n
    room r in_r = omega (arith, done_and_row home s r, games_below n home rounds s is.home_in is.visits r in_r)

    ended : (r : ℕ) → r ≤ rounds + 1 → s r ≢ home → s (r + 1) ≡ home → IsWalked home leg walk tour s r
        → tour (done home s (r + 1)) ≤ way leg s (r + 1)
    ended r in_r out home_again before =
        omega (
          arith,
          added r,
          ap tour (done_home home s r home_again),
          ap (leg (s r)) home_again,
          before.away (s r) out (λ q next. next_differs q r (omega arith) out),
          tours.trip (done home s r) (row home s r) (s r) (row_some home s is.first r out) (is.rows r) (room r in_r) (opponent r out),
        )

    begun : (r x : ℕ) → s r ≡ home → s (r + 1) ≢ home → x ≢ s r → IsWalked home leg walk tour s r
        → tour (done home s (r + 1)) + walk (row home s (r + 1)) (s (r + 1)) x ≤ way leg s (r + 1)
    begun r x begins out not_from before =
        let one : row home s (r + 1) ≡ 1 = omega (arith, row_away home s r out, row_at_home home s r begins) in
        omega (
          arith,
          added r,
          ap tour (done_away home s r out),
          ap (λ games. walk games (s (r + 1)) x) one,
          ap (λ from. leg from (s (r + 1))) begins,
          before.at_home begins,
          walks.first (s (r + 1)) x (opponent (r + 1) out) (λ e. not_from (e ∙ sym begins)),
        )

    gone_on : (r x : ℕ) → r ≤ rounds + 1 → s r ≢ home → s (r + 1) ≢ home → x ≢ s r → IsWalked home leg walk tour s r
        → tour (done home s (r + 1)) + walk (row home s (r + 1)) (s (r + 1)) x ≤ way leg s (r + 1)
    gone_on r x in_r was_out out not_from before =
        let more = row_away home s r out in
        omega (
          arith,
          added r,
          ap tour (done_away home s r out),
          ap (λ games. walk games (s (r + 1)) x) more,
          before.away (s (r + 1)) was_out (λ q next. next_differs q (r + 1) (omega arith) out),
          walks.next (row home s r) (s r) (s (r + 1)) x (row_some home s is.first r was_out)
              (omega (arith, is.rows (r + 1), more)) (opponent r was_out) (opponent (r + 1) out)
              (λ same. next_differs r (r + 1) (omega arith) out (sym same)) not_from,
        )

-- so the whole tour is no shorter than the least relaxed one
pub no_shorter : (n home most rounds : ℕ) (leg : ℕ → ℕ → ℕ) (walk : ℕ → ℕ → ℕ → ℕ) (tour : ℕ → ℕ) (s : ℕ → ℕ)
    → IsWay n home most rounds s → AreWalks n home most leg walk → AreTours n home most leg walk tour
    → (opponents : ℕ) → opponents + 1 ≡ n → tour opponents ≤ way leg s (rounds + 1)
no_shorter n home most rounds leg walk tour s is walks tours opponents so_many =
    let all : done home s (rounds + 1) ≡ opponents =
    omega (
      arith,
      done_and_row home s (rounds + 1),
      row_at_home home s (rounds + 1) is.last,
      all_games n home rounds s is.home_in is.visits,
    ) in
    omega (arith, (walked n home most rounds leg walk tour s is walks tours (rounds + 1) (omega arith)).at_home is.last, ap tour all)
