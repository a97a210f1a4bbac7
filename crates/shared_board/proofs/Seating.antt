-- Each step outside a turn keeps the rule, and so do seats that come and go.
use Rattle.std.proofs.Common.{◌≡◌, ℕ, ◌+◌, ◌<◌, ◌≤◌, min, max, nat_lt, if◌then◌else◌, Bool, true, false, List, [], ◌∷◌}
use Rattle.std.proofs.Common.{◌++◌, length, slice_index, set, refl, ap, sym, ◌∙◌, subst, ◌⊎◌, inl, inr, ⊎_elim, arith}
use Rattle.std.proofs.Common.{length-append}
use Rattle.std.proofs.lemmas.Bool.Decides.{nat_tests}
use Rattle.std.proofs.lemmas.List.{append-nil}
use mathlib.Core.Option.{none, some}
use native.Mathlib.Decide.{dec_le}
use lib.ListN.{get_elem?}
use Rattle.atomic_table.specs.Table.{step, keeps, Allows, Splits, Joins}
use Rattle.atomic_table.proofs.Lists.{at_set, set_else}
use Rattle.fixture_board.specs.declared.change.Entry.{Entry}
use Rattle.fixture_board.specs.Laws.{least_of}
use Rattle.league.specs.League.{IsLeague}
use Rattle.shared_board.specs.declared.view.View.{View}
use Rattle.shared_board.specs.Setting.{Setting}
use Rattle.shared_board.specs.Stage.{away}
use Rattle.shared_board.specs.Held.{times, under}
use Rattle.shared_board.specs.Rule.{Knows, Lowest, Fits, upto, Ruled}
use Rattle.shared_board.specs.within.Rule.{spent_view}
use Rattle.shared_board.specs.within.Plays.{Token, glanced, lowered, agreed, last_drawn, drawn_before, drawer, newcomer, joined, longer}
use Rattle.shared_board.specs.Between.{Table}
use Rattle.shared_board.proofs.BoardLaws.{least_falls_on}
use Rattle.shared_board.proofs.Counts.{times_append, under_append, under_both, once_more, total_set}
use Rattle.shared_board.proofs.Views.{either_read, fits_at, fits_fewer, fits_from, each_set, turns_aside}
use Rattle.shared_board.proofs.Steps.{with_views, aside, splits_off, held_once}

-- the view of a seat that is away
fits_away : (s : Table) (r : Ruled s) (id : ℕ) (v : View) → get_elem? s.views id ≡ some v → v.live ≡ true → v.stage ≡ away →
    Fits r.setting r.posted (length r.history) r.numbers v
fits_away s r id v at live e = fits_at r.setting r.posted r.history r.posted (length r.history) r.numbers v away e refl
    (r.seats id v at live)

pub glance_keeps : (slots id : ℕ) (m : Token) → m.0.live ≡ true → m.0.stage ≡ away →
    Allows Ruled slots id m 1 (λ n. n) (glanced (step slots 1 0 0 none) m)
glance_keeps slots id m live e s r sized at fits =
    let v = m.0 in
    let n : ℕ = slice_index s.words 1 in
    let found : n ≡ length r.history = ap (λ (l : List ℕ). slice_index l 1) r.words in
    let w : View = record v { glanced = n } in
    let g = (fits_away s r id v at live e).glanced in (
      w,
      keeps,
      tt,
      aside s r id v w (set s.words 1 n) at live e e (λ x. omega arith) (omega arith)
          (λ f. record {
            setting_is = f.setting_is;
            knows = f.knows;
            glanced = omega arith;
            lowest = f.lowest;
            given = f.given;
            formers =
                f.formers;
          })
          (ap (λ (l : List ℕ). set l 1 (slice_index l 1)) r.words ∙ sym r.words),
      (omega arith, refl),
    )

-- the best total of the whole history
lowest_now : (s : Setting) (seen h : List Entry) (held : List ℕ) → Knows held seen h → Lowest s seen h (least_of s.league h)
lowest_now s seen h held k = record {
  more = k.after;
  rest = [];
  point = k.begins ∙ sym (append-nil (seen ++ k.after));
  least = ap (least_of s.league) k.begins;
}

lowest_falls : (s : Setting) (seen h : List Entry) (low : ℕ) → IsLeague s.league → Lowest s seen h low → least_of s.league h ≤ low
lowest_falls s seen h low limits l =
    let falls = least_falls_on s.league (seen ++ l.more) l.rest limits in
    let same : least_of s.league h ≡ least_of s.league ((seen ++ l.more) ++ l.rest) = ap (least_of s.league) l.point in
    let is = l.least in
    let a : ℕ = least_of s.league h in let b : ℕ = least_of s.league ((seen ++ l.more) ++ l.rest) in let c : ℕ =
    least_of s.league (seen ++ l.more) in
    let p : a ≡ b = same in let q : b ≤ c = falls in let t : low ≡ c = is in omega arith

pub lower_keeps : (slots id : ℕ) (m : Token) → m.0.live ≡ true → m.0.stage ≡ away →
    Allows Ruled slots id m 3 (λ n. n) (lowered (step slots 3 0 0 none) m)
lower_keeps slots id m live e s r sized at fits =
    let v = m.0 in
    let n : ℕ = slice_index s.words 3 in
    let found : n ≡ least_of r.setting.league r.posted = ap (λ (l : List ℕ). slice_index l 3) r.words in
    let w : View = record v { lowest = n } in
    let P : ℕ → Type 0 = λ k. Lowest r.setting v.seen r.posted k in
    let falls : least_of r.setting.league r.posted ≤ v.lowest =
    lowest_falls r.setting v.seen r.posted v.lowest r.limits (fits_away s r id v at live e).lowest in (
      w,
      keeps,
      tt,
      aside s r id v w (set s.words 3 n) at live e e (λ x. omega arith) (omega arith)
          (λ f. record {
            setting_is = f.setting_is;
            knows = f.knows;
            glanced = f.glanced;
            lowest =
                subst P (sym found) (lowest_now r.setting v.seen r.posted v.held f.knows);
            given = f.given;
            formers = f.formers;
          })
          (ap (λ (l : List ℕ). set l 3 (slice_index l 3)) r.words ∙ sym r.words),
      (omega (arith, falls), refl),
    )

pub tell_keeps : (slots id : ℕ) (m : Token) → m.0.live ≡ true → m.0.stage ≡ away →
    Allows Ruled slots id m 0 (λ n. n) (agreed (step slots 0 0 0 none) m)
tell_keeps slots id m live e s r sized at fits =
    let v = m.0 in (
      v,
      keeps,
      tt,
      aside s r id v v (set s.words 0 (slice_index s.words 0)) at live e e (λ x. omega arith) (omega arith) (λ f. f)
          (ap (λ (l : List ℕ). set l 0 (slice_index l 0)) r.words ∙ sym r.words),
      (
        refl,
        record {
          history = r.posted;
          each = (fits_away s r id v at live e).formers;
          single = λ x. (let a = held_once s r id v x at in let b = once_more x r.numbers 64 r.few in omega arith);
        },
      ),
    )

both_parts : (x : ℕ) (held : List ℕ) → times x (drawn_before held) + times x (last_drawn held) ≡ times x held
both_parts x [] = refl
both_parts x (n ∷ held) = omega arith

pub split_keeps : (id : ℕ) (v : View) → v.live ≡ true → v.stage ≡ away → Splits Ruled id v (drawer v) (newcomer v)
split_keeps id v live e s r at =
    splits_off s r id v (drawer v) (newcomer v) at live e e e (λ x. both_parts x v.held) (omega arith) (omega arith)
    (λ f. (
      fits_fewer r.setting r.posted (length r.history) r.numbers v (drawn_before v.held) (λ x. omega (arith, both_parts x v.held)) f,
      fits_fewer r.setting r.posted (length r.history) r.numbers v (last_drawn v.held) (λ x. omega (arith, both_parts x v.held)) f,
    ))

-- of two beginnings of one list the shorter begins the longer
pub begins_longer : {A : Type 0} (xs ys a b : List A) → xs ++ a ≡ ys ++ b → length xs ≤ length ys → (c : List A) × (ys ≡ xs ++ c) ×
    (a ≡ c ++ b)
begins_longer [] ys a b e le = (ys, refl, e)
begins_longer (x ∷ xs) [] a b e le = absurd (omega arith)
begins_longer (x ∷ xs) (y ∷ ys) a b e le =
    let heads : x ≡ y = cc in
    let tails : xs ++ a ≡ ys ++ b = cc in
    let rest = begins_longer xs ys a b tails (omega arith) in
    (rest.0, cc (heads, rest.1), rest.2)

-- the seat that saw more knows for both
knows_both : (held other : List ℕ) (less more h : List Entry) → length less ≤ length more → Knows held less h → Knows other more h →
    Knows (held ++ other) more h
knows_both held other less more h le k l =
    let b = begins_longer less more k.after l.after (sym k.begins ∙ l.begins) le in
    record {
      after = l.after;
      begins = l.begins;
      none_after = omega (
        arith,
        under_both held other l.after,
        under_append held b.0 l.after,
        ap (under held) b.2,
        k.none_after,
        l.none_after,
      );
    }

-- whose numbers come first makes no difference
knows_swapped : (held other : List ℕ) (seen h : List Entry) → Knows (held ++ other) seen h → Knows (other ++ held) seen h
knows_swapped held other seen h k = record {
  after = k.after;
  begins = k.begins;
  none_after = omega (arith, under_both other held k.after, under_both held other k.after, k.none_after);
}

pick : (P : List Entry → Type 0) (a b : List Entry) (t : Bool) → nat_lt (length a) (length b) ≡ t → (length a < length b → P b) →
    (length b ≤ length a → P a) → P (if t then b else a)
pick P a b true e f g = f (grind (arith, nat_tests))
pick P a b false e f g = g (grind (arith, nat_tests))

pub longer_cases : (P : List Entry → Type 0) (a b : List Entry) → (length a < length b → P b) → (length b ≤ length a → P a) → P (longer a b)
longer_cases P a b f g = pick P a b (nat_lt (length a) (length b)) refl f g

-- a best total at a point of the history is at one no earlier than what was seen, if it is long enough
lowest_from : (s : Setting) (seen after h point rest : List Entry) (low : ℕ) → h ≡ seen ++ after → h ≡ point ++ rest →
    length seen ≤ length point → low ≡ least_of s.league point → Lowest s seen h low
lowest_from s seen after h point rest low e d le is =
    let b = begins_longer seen point after rest (sym e ∙ d) le in
    record { more = b.0; rest = rest; point = d ∙ ap (λ l. l ++ rest) b.1; least = is ∙ ap (least_of s.league) b.1 }

le_or_le : (a b : ℕ) → (a ≤ b) ⊎ (b ≤ a)
le_or_le a b = elim (dec_le a b) [ yes le ↦ inl le | no more ↦ inr (omega arith) ]

-- the lesser of two totals is at the later point
lowest_both : (s : Setting) (v w seen after h : List Entry) (low other : ℕ) → IsLeague s.league → h ≡ seen ++ after →
    length seen ≤ max (length v) (length w)
    → Lowest s v h low → Lowest s w h other → Lowest s seen h (min low other)
lowest_both s v w seen after h low other limits e le k l =
    let p = v ++ k.more in let q = w ++ l.more in
    let vp : length v ≤ length p = omega (arith, length-append v k.more) in
    let wq : length w ≤ length q = omega (arith, length-append w l.more) in
    ⊎_elim
    (λ (pq : length p ≤ length q).
    let b = begins_longer p q k.rest l.rest (sym k.point ∙ l.point) pq in
    let falls = least_falls_on s.league p b.0 limits in
    let same : least_of s.league q ≡ least_of s.league (p ++ b.0) = ap (least_of s.league) b.1 in
    let x : ℕ = least_of s.league p in let y : ℕ = least_of s.league q in let z : ℕ = least_of s.league (p ++ b.0) in
    let i : low ≡ x = k.least in let j : other ≡ y = l.least in let f : z ≤ x = falls in let g : y ≡ z = same in
    let is : min low other ≡ y = omega arith in
    lowest_from s seen after h q l.rest (min low other) e l.point (omega arith) is)
    (λ (qp : length q ≤ length p).
    let b = begins_longer q p l.rest k.rest (sym l.point ∙ k.point) qp in
    let falls = least_falls_on s.league q b.0 limits in
    let same : least_of s.league p ≡ least_of s.league (q ++ b.0) = ap (least_of s.league) b.1 in
    let x : ℕ = least_of s.league p in let y : ℕ = least_of s.league q in let z : ℕ = least_of s.league (q ++ b.0) in
    let i : low ≡ x = k.least in let j : other ≡ y = l.least in let f : z ≤ y = falls in let g : x ≡ z = same in
    let is : min low other ≡ x = omega arith in
    lowest_from s seen after h p k.rest (min low other) e k.point (omega arith) is)
    (le_or_le (length p) (length q))

fits_joined : (s : Setting) (h : List Entry) (long numbers : ℕ) (v w : View) → IsLeague s.league → Fits s h long numbers v →
    Fits s h long numbers w → Fits s h long numbers (joined v w)
fits_joined s h long numbers v w limits f g =
    let K : List Entry → Type 0 = λ l. Knows (v.held ++ w.held) l h in
    let L : List Entry → Type 0 = λ l. Lowest s l h (min v.lowest w.lowest) in
    let a = f.glanced in let b = g.glanced in let c = f.given in let d = g.given in
    record {
      setting_is = f.setting_is;
      knows = longer_cases K v.seen w.seen
          (λ less. knows_both v.held w.held v.seen w.seen h (omega arith) f.knows g.knows)
          (λ less. knows_swapped w.held v.held v.seen h (knows_both w.held v.held w.seen v.seen h less g.knows f.knows));
      glanced = omega arith;
      lowest = longer_cases L v.seen w.seen
          (λ less. lowest_both s v.seen w.seen w.seen g.knows.after h v.lowest w.lowest limits g.knows.begins
          (omega arith) f.lowest g.lowest)
          (λ less. lowest_both s v.seen w.seen v.seen f.knows.after h v.lowest w.lowest limits f.knows.begins
          (omega arith) f.lowest g.lowest);
      given = omega arith;
      formers = (
        (λ x. omega (arith, times_append x v.held w.held)),
        f.knows,
        ((λ x. omega (arith, times_append x v.held w.held)), g.knows, tt),
      );
    }

pub join_keeps : (id : ℕ) (v : View) (other : ℕ) (w : View) → v.live ≡ true → v.stage ≡ away → w.live ≡ true → w.stage ≡ away →
    Joins Ruled id v other w (joined v w) spent_view
join_keeps id v other w live e live' e' s r at ne at' =
    let both = joined v w in
    let views = set s.views id both in
    let there : get_elem? s.views other ≡ some w = sym (set_else s.views id other both ne) ∙ at' in
    let F : View → Type 0 = λ u. Fits r.setting (upto u.stage r.posted r.history) (length r.history) r.numbers u in
    let f = fits_joined r.setting r.posted (length r.history) r.numbers v w r.limits (fits_away s r id v at live e)
    (fits_away s r other w there live' e') in
    let g : F both = fits_from r.setting r.posted r.history r.posted (length r.history) r.numbers both away e refl f in
    with_views s r s.words (set views other spent_view) refl
    (λ x.
    let a = total_set (λ (u : View). times x u.held) s.views id v both at in
    let b = total_set (λ (u : View). times x u.held) views other w spent_view at' in
    let c = times_append x v.held w.held in
    let d = r.once x in
    omega arith)
    (λ n some_below less.
    let d = r.drawn n some_below less in
    let H : View → Type 0 = λ u. 0 < times d.by u.held in
    let G : View → Type 0 = λ u. n < u.given in
    record {
      by = d.by;
      lower = d.lower;
      read = λ j u at'' own. ⊎_elim
          (λ t. absurd (let none_held : 0 < 0 = subst H (sym t.1) own in omega arith))
          (λ t. ⊎_elim
          (λ q.
          let own_both : 0 < times d.by both.held = subst H (sym q.1) own in
          subst G q.1 (either_read (times d.by v.held) (times d.by w.held) v.given w.given n
          (omega (arith, times_append d.by v.held w.held)) (d.read id v at) (d.read other w there)))
          (λ q. d.read j u q.1 own) (at_set s.views id j both u t.1))
          (at_set views other j spent_view u at'');
    })
    (each_set F F views other spent_view (each_set F F s.views id both r.seats (λ j u ne' at'' h. h) (λ _. g)) (λ j u ne' at'' h. h)
    (λ is. absurd cc))
    (turns_aside r.setting r.posted r.history r.turn r.numbers r.home views other w spent_view at' e' refl
    (turns_aside r.setting r.posted r.history r.turn r.numbers r.home s.views id v both at e e r.turns))
