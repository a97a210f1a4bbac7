-- Each step of a turn keeps the rule.
use Rattle.std.proofs.Common.{◌≡◌, ◌≢◌, ℕ, zero, suc, ◌+◌, ◌<◌, ◌≤◌, min, Option, Some, List, [], ◌∷◌, ◌++◌, length}
use Rattle.std.proofs.Common.{slice_index, set, refl, ap, sym, ◌∙◌, subst, inl, inr, ⊎_elim, arith, true, length-append}
use Rattle.std.proofs.Common.{◌==◌, cond}
use Rattle.std.proofs.lemmas.Bool.Decides.{nat_tests}
use mathlib.Core.Option.{none, some, some-injective, some-ne-none}
use mathlib.Core.Option as maybe
use mathlib.Core.Logic.{dite}
use native.Mathlib.Decide.{ℕ_discrete}
use prog.Atomic.{either}
use lib.ListN.{get_elem?}
use Rattle.atomic_table.specs.Table.{step, keeps, takes, gives, put_back, Allows, opening}
use Rattle.atomic_table.proofs.Lists.{at_set}
use Rattle.fixture_board.specs.declared.change.Entry.{Entry}
use Rattle.fixture_board.specs.History.{IsLegal}
use Rattle.fixture_board.specs.Laws.{least_of}
use Rattle.fixture_board.specs.Record.{Book, book}
use Rattle.league.specs.League.{IsLeague}
use Rattle.shared_board.specs.declared.view.View.{View}
use Rattle.shared_board.specs.Setting.{Setting, board_at}
use Rattle.shared_board.specs.Stage.{Stage, away, holds, counts, owes}
use Rattle.shared_board.specs.within.Stage.{kept, owed, IsSettled}
use Rattle.shared_board.specs.Held.{times, once_below, callers_below}
use Rattle.shared_board.specs.Rule.{Knows, Lowest, Fits, upto, Added, IsHolder, IsDrawn, Ruled}
use Rattle.shared_board.specs.within.Rule.{first_view}
use Rattle.shared_board.specs.within.Plays.{Token, Meets, took, committed, posted, left, quit, counted, drawn, drawing, counting, at_stage}
use Rattle.shared_board.specs.within.Plays.{saw, on_board}
use Rattle.shared_board.specs.Between.{Table}
use Rattle.shared_board.specs.within.Seats.{HasBoard}
use Rattle.shared_board.proofs.BoardLaws.{legal_start, least_falls}
use Rattle.shared_board.proofs.Counts.{under_both, under_none, callers_append, callers_after, callers_more}
use Rattle.shared_board.proofs.Counts.{once_most, once_next, times_own, held_below, total_two}
use Rattle.shared_board.proofs.Views.{owned, settled_not_away, settled_knows, settled_upto, fits_at, fits_stage}
use Rattle.shared_board.proofs.Views.{fits_longer, fits_more, fits_saw, knows_all, lowest_all, formers_held, read_set}
use Rattle.shared_board.proofs.Steps.{aside, drawn_still, holds_on, gives_back, takes_hold, held_once, knows_all_numbers}

-- what was met under the turn
pub meets : (s : Table) (r : Ruled s) (id : ℕ) (v : View) → get_elem? s.views id ≡ some v → r.posted ≡ r.history
    → Fits r.setting r.posted (length r.history) r.numbers v → Meets v r.history
meets s r id v at same f =
    let P : Setting → Type 0 = λ t. IsLegal t.league t.room r.history in
    let K : List Entry → Type 0 = λ h. Knows v.held v.seen h in
    let L : List Entry → Type 0 = λ h. Lowest r.setting v.seen h v.lowest in
    let M : Setting → Type 0 = λ t. Lowest t v.seen r.history v.lowest in
    record {
      met = record {
        legal = subst P (sym f.setting_is) r.legal;
        knows = subst K same f.knows;
        glanced = f.glanced;
        lowest = subst M (sym f.setting_is) (subst L same f.lowest);
      };
      single = λ x. (let a = held_once s r id v x at in let b = once_most x r.numbers in omega arith);
    }

-- the turn is taken, where it is free
pub take_keeps : (slots id : ℕ) (m : Token) → m.0.live ≡ true → m.0.stage ≡ away
    → Allows Ruled slots id m 0 (λ n. either (n == 0) 1 n) (took (step slots 0 0 1 none) m)
take_keeps slots id m live e s r sized at fits =
    let v = m.0 in
    let found : slice_index s.words 0 ≡ r.turn = ap (λ (l : List ℕ). slice_index l 0) r.words in
    let Words : List ℕ → List ℕ = λ l. set l 0 (either (slice_index l 0 == 0) 1 (slice_index l 0)) in
    let f = fits_at r.setting r.posted r.history r.posted (length r.history) r.numbers v away e refl (r.seats id v at live) in
    elim r.turns [
      | inl free ↦
          let w = at_stage v (holds r.history) in
          let b = board_at v.setting r.history in
          let setting_is : v.setting ≡ r.setting = f.setting_is in
          let at_home : s.homes ≡ some (Some b) ∷ [] = r.homes ∙
          (ap (λ h. h ∷ []) free.home_is ∙ ap (λ (t : Setting). some (Some (board_at t r.history)) ∷ []) (sym setting_is)) in
          let new : either (r.turn == 0) 1 r.turn ≡ 1 = ap (λ (n : ℕ). either (n == 0) 1 n) free.turn_is in
          let words : Words s.words ≡ 1 ∷ length r.history ∷ r.numbers ∷ least_of r.setting.league r.posted ∷ [] =
          ap Words r.words ∙ ap (λ (n : ℕ). n ∷ length r.history ∷ r.numbers ∷ least_of r.setting.league r.posted ∷ []) new in (
            w,
            takes 0 (Some b),
            ap (λ (l : List (maybe.Option (Option Book))). get_elem? l 0) at_home,
            takes_hold s r id v w (Words s.words) (set s.homes 0 none) at live free (λ x. omega arith) (omega arith)
                (fits_stage r.setting r.posted (length r.history) r.numbers v (holds r.history) f) (refl, free.all_posted) words
                (ap (λ (l : List (maybe.Option (Option Book))). set l 0 none) at_home),
            ((λ _. (r.history, meets s r id v at free.all_posted f, refl)), (λ ne. absurd (ne (found ∙ free.turn_is)))),
          )
      | inr held ↦
          let new : either (r.turn == 0) 1 r.turn ≡ r.turn = ap (λ (n : ℕ). either (n == 0) 1 n) held.turn_is ∙ sym held.turn_is in
          let words : Words s.words ≡ s.words =
          ap Words r.words ∙ (ap (λ (n : ℕ). n ∷ length r.history ∷ r.numbers ∷ least_of r.setting.league r.posted ∷ []) new ∙
          sym r.words) in (
            v,
            keeps,
            tt,
            aside s r id v v (Words s.words) at live e e (λ x. omega arith) (omega arith) (λ g. g) words,
            ((λ is. absurd (let q : 1 ≡ 0 = sym held.turn_is ∙ (sym found ∙ is) in omega arith)), (λ _. refl)),
          )
    ]

-- what the entry that was added says of the numbers
added_below : (s : Table) (r : Ruled s) (id : ℕ) (v : View) (before after : List Entry) → get_elem? s.views id ≡ some v →
    before ≡ r.history → Added v.held before after
    → callers_below r.numbers after
added_below s r id v before after at same added =
    let caller = added.entry.caller in
    let less : caller < r.numbers = held_below caller r.numbers (times caller v.held) added.own (held_once s r id v caller at) in
    let P : List Entry → Type 0 = λ l. callers_below r.numbers l in
    subst P (sym (added.one_more ∙ ap (λ l. l ++ added.entry ∷ []) same))
    (callers_append r.numbers r.history (added.entry ∷ []) r.callers (less, tt))

pub commit_keeps : (slots id : ℕ) (m : Token) (version : ℕ) → m.0.live ≡ true → IsSettled m.0.stage →
    Added m.0.held (kept m.0.stage) (on_board m.1)
    → IsLegal m.0.setting.league m.0.setting.room (on_board m.1) → version ≡ length (on_board m.1)
    → Allows Ruled slots id m 1 (λ _. version) (λ _. committed (step slots 1 version 0 none) m version)
commit_keeps slots id m version live settled added legal long s r sized at fits =
    let v = m.0 in let g = on_board m.1 in let before = kept v.stage in
    let w = saw v g (owes before g) in
    let o = owned r.setting r.posted r.history r.turn r.numbers r.home s.views id v r.turns at (settled_not_away v.stage settled) in
    let k = settled_knows r.posted r.history r.numbers v.held v.given v.stage settled o.holder in
    let f = r.seats id v at live in
    let grows : length g ≡ length r.history + 1 =
    omega (arith, ap length added.one_more, length-append before (added.entry ∷ []), ap length k.0) in
    let P : Setting → Type 0 = λ t. IsLegal t.league t.room g in
    let Q : List Entry → Type 0 = λ l. Added v.held l g in (
      w,
      keeps,
      tt,
      holds_on s r id v w r.posted g r.numbers (set s.words 1 version) at live o
          (record {
            legal = subst P f.setting_is legal;
            callers = added_below s r id v before g at k.0 added;
            few = r.few;
            grown = λ x. omega arith;
            drawn = drawn_still s r id v w at (λ x. omega arith) (omega arith);
            others = λ j u ne at' h. fits_longer r.setting r.posted (length r.history) (length g) r.numbers r.numbers u (omega arith)
                (omega arith) h;
            mine = fits_saw r.setting g r.numbers v (owes before g) f.setting_is f.given;
          })
          (ap (λ (l : List ℕ). set l 1 version) r.words ∙
          ap (λ (n : ℕ). r.turn ∷ n ∷ r.numbers ∷ least_of r.setting.league r.posted ∷ []) long)
          (refl, k.0 ∙ sym k.1, subst Q (k.0 ∙ sym k.1) added),
      refl,
    )

-- a number of one seat is no other's
pub held_alone : (s : Table) (r : Ruled s) (id j : ℕ) (v u : View) (x : ℕ) → j ≢ id → get_elem? s.views id ≡ some v →
    get_elem? s.views j ≡ some u → 0 < times x v.held → times x u.held ≡ 0
held_alone s r id j v u x ne at at' own =
    let a = total_two (λ (t : View). times x t.held) s.views j id u v ne at' at in let b = r.once x in let c = once_most x r.numbers in
    omega arith

pub post_keeps : (slots id : ℕ) (m : Token) (least : ℕ) → m.0.live ≡ true → m.0.stage ≡ owes (owed m.0.stage) (kept m.0.stage) →
    least ≡ least_of m.0.setting.league (kept m.0.stage)
    → Allows Ruled slots id m 3 (λ n. min n least) (posted (step slots 3 least 0 none) m)
post_keeps slots id m least live e is s r sized at fits =
    let v = m.0 in let h = kept v.stage in let before = owed v.stage in
    let w = at_stage v (holds h) in
    let o = owned r.setting r.posted r.history r.turn r.numbers r.home s.views id v r.turns at
    (λ q. let q' : owes before h ≡ away = sym e ∙ q in cc) in
    let P : Stage → Type 0 = λ t. IsHolder r.posted r.history r.numbers v.held v.given t in
    let holder : (h ≡ r.history) × (before ≡ r.posted) × Added v.held r.posted r.history = subst P e o.holder in
    let added = holder.2 in let x = added.entry in
    let f = fits_at r.setting r.posted r.history r.history (length r.history) r.numbers v (owes before h) e refl (r.seats id v at live) in
    let falls : least_of r.setting.league (r.posted ++ x ∷ []) ≤ least_of r.setting.league r.posted =
    least_falls r.setting.league r.posted x r.limits in
    let now : least_of r.setting.league (r.posted ++ x ∷ []) ≡ least_of r.setting.league r.history =
    ap (least_of r.setting.league) (sym added.one_more) in
    let told : least ≡ least_of r.setting.league r.history = is ∙
    (ap (λ (t : Setting). least_of t.league h) f.setting_is ∙ ap (least_of r.setting.league) holder.0) in
    let lower : min (least_of r.setting.league r.posted) least ≡ least_of r.setting.league r.history =
    (let a : ℕ = least_of r.setting.league r.posted in let b : ℕ = least_of r.setting.league r.history in let c : ℕ =
    least_of r.setting.league (r.posted ++ x ∷ []) in omega arith) in
    let Words : List ℕ → List ℕ = λ l. set l 3 (min (slice_index l 3) least) in (
      w,
      keeps,
      tt,
      holds_on s r id v w r.history r.history r.numbers (Words s.words) at live o
          (record {
            legal = r.legal;
            callers = r.callers;
            few = r.few;
            grown = λ y. omega arith;
            drawn = drawn_still s r id v w at (λ y. omega arith) (omega arith);
            others = λ j u ne at' g.
                let F : List Entry → Type 0 = λ l. Fits r.setting l (length r.history) r.numbers u in
                subst F (sym added.one_more) (fits_more r.setting r.posted (length r.history) r.numbers u x
                (held_alone s r id j v u x.caller ne at at' added.own) g);
            mine = fits_stage r.setting r.history (length r.history) r.numbers v (holds h) f;
          })
          (ap Words r.words ∙ ap (λ (n : ℕ). r.turn ∷ length r.history ∷ r.numbers ∷ n ∷ []) lower)
          (holder.0, refl),
      refl,
    )

-- the board comes home
home_again : (s : Table) (r : Ruled s) (v : View) (c : List (ℕ × Option Book)) (h : List Entry) → v.setting ≡ r.setting →
    h ≡ r.history → c ≡ (0, Some (board_at v.setting h)) ∷ []
    → put_back s.homes c ≡ some (Some (board_at r.setting r.history)) ∷ []
home_again s r v c h setting_is same has =
    ap (put_back s.homes) has
    ∙ (ap (λ (l : List (maybe.Option (Option Book))). set l 0 (some (Some (board_at v.setting h)))) r.homes
    ∙ (ap (λ (t : Setting). some (Some (board_at t h)) ∷ []) setting_is ∙
    ap (λ (l : List Entry). some (Some (board_at r.setting l)) ∷ []) same))

pub leave_keeps : (slots id : ℕ) (m : Token) → m.0.live ≡ true → IsSettled m.0.stage → HasBoard m (kept m.0.stage)
    → Allows Ruled slots id m 0 (λ _. 0) (λ _. left (step slots 0 0 0 none) m 0)
leave_keeps slots id m live settled has s r sized at fits =
    let v = m.0 in let h = kept v.stage in let w = saw v h away in
    let o = owned r.setting r.posted r.history r.turn r.numbers r.home s.views id v r.turns at (settled_not_away v.stage settled) in
    let k = settled_knows r.posted r.history r.numbers v.held v.given v.stage settled o.holder in
    let f = r.seats id v at live in
    let F : List Entry → Type 0 = λ l. Fits r.setting l (length l) r.numbers w in
    let G : List Entry → Type 0 = λ l. Fits r.setting l (length r.history) r.numbers w in (
      w,
      gives,
      tt,
      gives_back s r id v w (set s.words 0 0) (put_back s.homes m.1) at o k.1 (λ x. omega arith) (omega arith) refl
          (subst G (sym k.1) (subst F k.0 (fits_saw r.setting h r.numbers v away f.setting_is f.given)))
          (ap (λ (l : List ℕ). set l 0 0) r.words)
          (home_again s r v m.1 h f.setting_is k.0 has),
      refl,
    )

pub quit_keeps : (slots id : ℕ) (m : Token) → m.0.live ≡ true → IsSettled m.0.stage → HasBoard m (kept m.0.stage)
    → Allows Ruled slots id m 0 (λ _. 0) (λ _. quit (step slots 0 0 0 none) m 0)
quit_keeps slots id m live settled has s r sized at fits =
    let v = m.0 in let h = kept v.stage in let w = at_stage v away in
    let o = owned r.setting r.posted r.history r.turn r.numbers r.home s.views id v r.turns at (settled_not_away v.stage settled) in
    let k = settled_knows r.posted r.history r.numbers v.held v.given v.stage settled o.holder in
    let f = r.seats id v at live in
    let G : List Entry → Type 0 = λ l. Fits r.setting l (length r.history) r.numbers v in (
      w,
      gives,
      tt,
      gives_back s r id v w (set s.words 0 0) (put_back s.homes m.1) at o k.1 (λ x. omega arith) (omega arith) refl
          (fits_stage r.setting r.posted (length r.history) r.numbers v away (subst G (settled_upto r.posted r.history v.stage settled) f))
          (ap (λ (l : List ℕ). set l 0 0) r.words)
          (home_again s r v m.1 h f.setting_is k.0 has),
      refl,
    )

pub count_keeps : (slots id : ℕ) (m : Token) → m.0.live ≡ true → IsSettled m.0.stage
    → Allows Ruled slots id m 2 (λ n. n) (counted (step slots 2 0 0 none) m)
count_keeps slots id m live settled s r sized at fits =
    let v = m.0 in let h = kept v.stage in
    let n : ℕ = slice_index s.words 2 in
    let found : n ≡ r.numbers = ap (λ (l : List ℕ). slice_index l 2) r.words in
    let w = counting v n in
    let o = owned r.setting r.posted r.history r.turn r.numbers r.home s.views id v r.turns at (settled_not_away v.stage settled) in
    let k = settled_knows r.posted r.history r.numbers v.held v.given v.stage settled o.holder in
    let G : List Entry → Type 0 = λ l. Fits r.setting l (length r.history) r.numbers v in
    let f = subst G (settled_upto r.posted r.history v.stage settled) (r.seats id v at live) in
    let B : ℕ → Type 0 = λ b. callers_below b h in
    let C : List Entry → Type 0 = λ l. callers_below r.numbers l in
    let O : ℕ → Type 0 = λ b. (x : ℕ) → times x v.held ≤ once_below x b in
    let given = f.given in let few = r.few in (
      w,
      keeps,
      tt,
      holds_on s r id v w r.posted r.history r.numbers (set s.words 2 n) at live o
          (record {
            legal = r.legal;
            callers = r.callers;
            few = r.few;
            grown = λ x. omega arith;
            drawn = drawn_still s r id v w at (λ x. omega arith) (omega arith);
            others = λ j u ne at' g. g;
            mine = record {
              setting_is = f.setting_is;
              knows = f.knows;
              glanced = f.glanced;
              lowest = f.lowest;
              given = omega arith;
              formers = f.formers;
            };
          })
          (ap (λ (l : List ℕ). set l 2 (slice_index l 2)) r.words)
          (k.0, k.1, found),
      record {
        now = refl;
        grown = omega arith;
        few = omega arith;
        callers = subst B (sym found) (subst C (sym k.0) r.callers);
        own = subst O (sym found) (λ x. held_once s r id v x at);
        all = λ some_given each. knows_all_numbers s r id v at given some_given each ∙ sym found;
      },
    )

-- the number that is drawn is known to its seat, and what was drawn stays so
drawn_next : (s : Table) (r : Ruled s) (id : ℕ) (v : View) (own : ℕ) → get_elem? s.views id ≡ some v → 0 < times own v.held →
    v.given ≡ r.numbers
    → (n : ℕ) → 0 < n → n < r.numbers + 1 → IsDrawn n (set s.views id (drawing v))
drawn_next s r id v own at holds_own count_is n some_below less = dite (ℕ_discrete n r.numbers)
    (λ e. record {
      by = own;
      lower = omega (arith, held_below own r.numbers (times own v.held) holds_own (held_once s r id v own at));
      read = λ j u at' mine.
          let G : View → Type 0 = λ k. n < k.given in
          ⊎_elim (λ t. subst G t.1 (omega arith)) (λ t. absurd (omega (arith, held_alone s r id j v u own t.0 at t.1 holds_own)))
          (at_set s.views id j (drawing v) u at');
    })
    (λ ne.
    let d = r.drawn n some_below (omega arith) in let lower = d.lower in
    record {
      by = d.by;
      lower = lower;
      read = read_set d.by n s.views id v (drawing v) at (λ h. omega (arith, times_own v.given d.by (omega arith))) (omega arith) d.read;
    })

pub draw_keeps : (slots id : ℕ) (m : Token) (next own : ℕ) → m.0.live ≡ true → m.0.stage ≡ counts (kept m.0.stage) →
    0 < times own m.0.held → next ≡ m.0.given + 1 → next ≤ 64
    → Allows Ruled slots id m 2 (λ _. next) (λ _. drawn (step slots 2 next 0 none) m next)
draw_keeps slots id m next own live e holds_own is few s r sized at fits =
    let v = m.0 in let h = kept v.stage in
    let w = drawing v in
    let o = owned r.setting r.posted r.history r.turn r.numbers r.home s.views id v r.turns at
    (λ q. let q' : counts h ≡ away = sym e ∙ q in cc) in
    let P : Stage → Type 0 = λ t. IsHolder r.posted r.history r.numbers v.held v.given t in
    let holder : (h ≡ r.history) × (r.posted ≡ r.history) × (v.given ≡ r.numbers) = subst P e o.holder in
    let count_is : v.given ≡ r.numbers = holder.2 in
    let f = fits_at r.setting r.posted r.history r.posted (length r.history) r.numbers v (counts h) e refl (r.seats id v at live) in
    let after = f.knows.after in
    let P' : List Entry → Type 0 = λ l. callers_below r.numbers l in
    let below : callers_below r.numbers after = callers_after r.numbers v.seen after (subst P' (sym holder.1 ∙ f.knows.begins) r.callers) in
    let mine : (x : ℕ) → x < r.numbers → times x (v.given ∷ []) ≡ 0 = λ x less. times_own v.given x (omega arith) in (
      w,
      keeps,
      tt,
      holds_on s r id v w r.posted r.history next (set s.words 2 next) at live o
          (record {
            legal = r.legal;
            callers = callers_more r.numbers next r.history (omega arith) r.callers;
            few = few;
            grown = λ x.
                let N : ℕ → ℕ → Type 0 = λ b c. cond {A = ℕ} (b == x) 1 0 + once_below x b ≡ once_below x c in
                let step_up : cond {A = ℕ} (v.given == x) 1 0 + once_below x v.given ≡ once_below x next = once_next x v.given ∙
                ap (once_below x) (sym is) in
                let same : once_below x v.given ≡ once_below x r.numbers = ap (once_below x) count_is in
                omega arith;
            drawn = λ n some_below less. drawn_next s r id v own at holds_own count_is n some_below (omega arith);
            others = λ j u ne at' g. fits_longer r.setting r.posted (length r.history) (length r.history) r.numbers next u (omega arith)
                (omega arith) g;
            mine = record {
              setting_is = f.setting_is;
              knows = record {
                after = after;
                begins = f.knows.begins;
                none_after = omega (
                  arith,
                  under_both (v.given ∷ []) v.held after,
                  under_none (v.given ∷ []) r.numbers after below mine,
                  f.knows.none_after,
                );
              };
              glanced = f.glanced;
              lowest = f.lowest;
              given = omega arith;
              formers = formers_held v.held (v.given ∷ v.held) r.posted v.formers (λ x. omega arith) f.formers;
            };
          })
          (ap (λ (l : List ℕ). set l 2 next) r.words)
          (holder.0, holder.1, sym is),
      refl,
    )

opens_once : (x : ℕ) → (times x (0 ∷ []) + 0) ≤ once_below x 1
opens_once x = grind (arith, nat_tests)

only_one : (v : View) (j : ℕ) (u : View) → get_elem? (v ∷ []) j ≡ some u → v ≡ u
only_one v zero u at = some-injective v u at
only_one v (suc j) u at = absurd (some-ne-none u (sym at))

first_fits : (b : Book) → Fits (record { league = b.league; room = b.room }) [] 0 1 (first_view b)
first_fits b = record {
  setting_is = refl;
  knows = knows_all (0 ∷ []) [];
  glanced = omega arith;
  lowest = lowest_all (record { league = b.league; room = b.room }) [];
  given = omega arith;
  formers = tt;
}

-- a board without an entry, and its first seat
pub opens : (b : Book) (best : ℕ) → b.history ≡ [] → IsLeague b.league → best ≡ least_of b.league [] →
    Ruled (opening (0 ∷ 0 ∷ 1 ∷ best ∷ []) (Some b ∷ []) (first_view b))
opens b best empty limits best_is =
    let setting : Setting = record { league = b.league; room = b.room } in
    let v = first_view b in
    record {
      setting = setting;
      posted = [];
      history = [];
      turn = 0;
      numbers = 1;
      home = some (Some b);
      words = ap (λ (n : ℕ). 0 ∷ 0 ∷ 1 ∷ n ∷ []) best_is;
      homes = refl;
      limits = limits;
      legal = legal_start b.league b.room;
      callers = tt;
      few = omega arith;
      once = λ x. opens_once x;
      drawn = λ n some_below less. absurd (omega arith);
      seats = λ j u at live. (let F : View → Type 0 = λ t. Fits setting (upto t.stage [] []) 0 1 t in
          subst F (only_one v j u at) (first_fits b));
      turns = inl (record {
        turn_is = refl;
        home_is = ap (λ (h : List Entry). some (Some (book b.league b.room h))) empty;
        all_posted = refl;
        all_away = λ j u at. ap (λ (t : View). t.stage) (sym (only_one v j u at));
      });
    }
