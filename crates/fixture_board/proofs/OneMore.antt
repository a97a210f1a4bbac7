-- A history with one entry more: its changes in effect, games, pins, best prefix and legality; and what a call makes of
-- it.
use Rattle.std.proofs.Common.{◌≡◌, ℕ, ◌-◌, ◌+◌, ◌<◌, List, [], ◌∷◌, ◌++◌, length, take, Option, Some, None, refl, sym}
use Rattle.std.proofs.Common.{◌∙◌, ap, subst, append_assoc, arith}
use Rattle.std.proofs.lemmas.List.{append-nil}
use Rattle.std.proofs.Math.Seq.{take-append_seam}
use Rattle.std.proofs.lemmas.List.{length-append}
use Rattle.league.specs.League.{LeagueData}
use Rattle.fixtures.specs.declared.game.Game.{Game}
use Rattle.fixtures.specs.Games.{Games}
use Rattle.fixture_board.specs.declared.change.Change.{Change}
use Rattle.fixture_board.specs.declared.change.Change.TheVariants.{Undo}
use Rattle.fixture_board.specs.declared.change.Entry.{Entry}
use Rattle.fixture_board.specs.declared.ask.Ask.{Ask}
use Rattle.fixture_board.specs.declared.reply.Why.{Why}
use Rattle.fixture_board.specs.declared.reply.Reply.TheVariants.{Done, No}
use Rattle.league.specs.Starts.{start_of, kept_games}
use Rattle.fixture_board.specs.History.{effect, effective, effective_after, shifted, games_after, games_of, pinned}
use Rattle.fixture_board.specs.History.{pins_after, pins_of, May, legal_after, IsLegal, cost_at, better, best_after}
use Rattle.fixture_board.specs.History.{best_prefix}
use Rattle.fixture_board.specs.Replies.{refusal, entry, next_of, reply_of}

-- the empty history

pub effective-none : effective [] ≡ []
unfolding effective
effective-none = refl

pub games_of-none : (league : LeagueData) → games_of league [] ≡ start_of league
unfolding games_of effective games_after
games_of-none league = refl

pub pins_of-none : (league : LeagueData) → pins_of league [] ≡ kept_games league
unfolding pins_of effective pins_after
pins_of-none league = refl

pub IsLegal-none : (league : LeagueData) (room : ℕ) → IsLegal league room []
unfolding IsLegal
IsLegal-none league room = tt

pub best_prefix-none : (league : LeagueData) → best_prefix league [] ≡ better league None []
unfolding best_prefix
best_prefix-none league = refl

-- the changes in effect

effective_after-more : (changes : List Change) (h : List Entry) (e : Entry) →
    effective_after changes (h ++ e ∷ []) ≡ effect (effective_after changes h) e.change
effective_after-more changes [] e = refl
effective_after-more changes (x ∷ h) e = effective_after-more (effect changes x.change) h e

pub effective-more : (h : List Entry) (e : Entry) → effective (h ++ e ∷ []) ≡ effect (effective h) e.change
unfolding effective
effective-more h e = effective_after-more [] h e

-- the games and the pins, by the changes in effect

pub games_after-more : (g : Games) (changes : List Change) (change : Change) →
    games_after g (changes ++ change ∷ []) ≡ shifted (games_after g changes) change
unfolding games_after
games_after-more g [] change = refl
games_after-more g (x ∷ changes) change = games_after-more (shifted g x) changes change

pub pins_after-more : (pins : List Game) (changes : List Change) (change : Change) →
    pins_after pins (changes ++ change ∷ []) ≡ pinned (pins_after pins changes) change
unfolding pins_after
pins_after-more pins [] change = refl
pins_after-more pins (x ∷ changes) change = pins_after-more (pinned pins x) changes change

pub games_of-by : (league : LeagueData) (h : List Entry) (changes : List Change) → effective h ≡ changes →
    games_of league h ≡ games_after (start_of league) changes
unfolding games_of
games_of-by league h changes same = ap (games_after (start_of league)) same

pub pins_of-by : (league : LeagueData) (h : List Entry) (changes : List Change) → effective h ≡ changes →
    pins_of league h ≡ pins_after (kept_games league) changes
unfolding pins_of
pins_of-by league h changes same = ap (pins_after (kept_games league)) same

-- an entry whose change is no undo: `refl` proves the premise

pub games_of-more : (league : LeagueData) (h : List Entry) (e : Entry) →
    effect (effective h) e.change ≡ effective h ++ e.change ∷ [] →
    games_of league (h ++ e ∷ []) ≡ shifted (games_of league h) e.change
games_of-more league h e appended =
    games_of-by league (h ++ e ∷ []) (effective h ++ e.change ∷ []) (effective-more h e ∙ appended) ∙
    games_after-more (start_of league) (effective h) e.change ∙
    ap (λ g. shifted g e.change) (sym (games_of-by league h (effective h) refl))

pub pins_of-more : (league : LeagueData) (h : List Entry) (e : Entry) → effect (effective h) e.change ≡ effective h ++ e.change ∷ [] →
    pins_of league (h ++ e ∷ []) ≡ pinned (pins_of league h) e.change
pins_of-more league h e appended =
    pins_of-by league (h ++ e ∷ []) (effective h ++ e.change ∷ []) (effective-more h e ∙ appended) ∙
    pins_after-more (kept_games league) (effective h) e.change ∙
    ap (λ pins. pinned pins e.change) (sym (pins_of-by league h (effective h) refl))

-- an entry that undoes the change that was the last in effect

take-prefix : {A : Type 0} (xs : List A) (x : A) → take (length (xs ++ x ∷ []) - 1) (xs ++ x ∷ []) ≡ xs
take-prefix xs x =
    let prefix : length (xs ++ x ∷ []) - 1 ≡ length xs = omega (arith, length-append xs (x ∷ [])) in
    rw prefix (take-append_seam xs (x ∷ []))

pub effective-undo : (h : List Entry) (caller : ℕ) (changes : List Change) (change : Change) →
    effective h ≡ changes ++ change ∷ [] → effective (h ++ record { caller = caller; change = Undo } ∷ []) ≡ changes
effective-undo h caller changes change last =
    effective-more h (record { caller = caller; change = Undo }) ∙ ap (λ c. effect c Undo) last ∙ take-prefix changes change

-- legality

legal_after-more : (league : LeagueData) (room : ℕ) (before h : List Entry) (e : Entry) → legal_after league room before h →
    length (before ++ h) < room → May league (before ++ h) e.change → legal_after league room before (h ++ e ∷ [])
legal_after-more league room before [] e legal at may =
    let P : List Entry → Type 0 = λ b. (length b < room) × May league b e.change in
    (subst P (append-nil before) (at, may), tt)
legal_after-more league room before (x ∷ h) e legal at may =
    let P : List Entry → Type 0 = λ b. (length b < room) × May league b e.change in
    let now : P ((before ++ x ∷ []) ++ h) = subst P (sym (append_assoc before (x ∷ []) h)) (at, may) in
    (legal.0, legal_after-more league room (before ++ x ∷ []) h e legal.1 now.0 now.1)

pub IsLegal-more : (league : LeagueData) (room : ℕ) (h : List Entry) (e : Entry) → IsLegal league room h →
    length h < room → May league h e.change → IsLegal league room (h ++ e ∷ [])
unfolding IsLegal
IsLegal-more league room h e = legal_after-more league room [] h e

-- the best prefix

best_after-more : (league : LeagueData) (before : List Entry) (found : Option (List Entry)) (h : List Entry) (e : Entry) →
    best_after league before found (h ++ e ∷ []) ≡ better league (best_after league before found h) ((before ++ h) ++ e ∷ [])
best_after-more league before found [] e = ap (λ b. better league found (b ++ e ∷ [])) (sym (append-nil before))
best_after-more league before found (x ∷ h) e =
    best_after-more league (before ++ x ∷ []) (better league found (before ++ x ∷ [])) h e ∙
    ap (λ b. better league (best_after league before found (x ∷ h)) (b ++ e ∷ [])) (append_assoc before (x ∷ []) h)

pub best_prefix-more : (league : LeagueData) (h : List Entry) (e : Entry) →
    best_prefix league (h ++ e ∷ []) ≡ better league (best_prefix league h) (h ++ e ∷ [])
unfolding best_prefix
best_prefix-more league h e = best_after-more league [] (better league None []) h e

-- what a call makes of the history, and its answer

pub refused : (league : LeagueData) (room : ℕ) (h : List Entry) (caller : ℕ) (ask : Ask) (reason : Why) →
    refusal league room h ask ≡ Some reason → next_of league room h caller ask ≡ h
unfolding next_of
refused league room h caller ask reason is = rw is refl

pub accepted : (league : LeagueData) (room : ℕ) (h : List Entry) (caller : ℕ) (ask : Ask) →
    refusal league room h ask ≡ None → next_of league room h caller ask ≡ h ++ entry caller ask ∷ []
unfolding next_of
accepted league room h caller ask is = rw is refl

pub replies_no : (league : LeagueData) (room : ℕ) (h : List Entry) (ask : Ask) (reason : Why) →
    refusal league room h ask ≡ Some reason → reply_of league room h ask ≡ No (length h) reason
unfolding reply_of
replies_no league room h ask reason is = rw is refl

pub replies_done : (league : LeagueData) (room : ℕ) (h : List Entry) (ask : Ask) →
    refusal league room h ask ≡ None → reply_of league room h ask ≡ Done (length h + 1) (cost_at league (h ++ entry 0 ask ∷ []))
unfolding reply_of
replies_done league room h ask is = rw is refl
