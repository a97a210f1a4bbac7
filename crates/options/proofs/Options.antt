-- Options and words as clap's arguments, and what the rows of an option are.
use Rattle.std.proofs.Common.{◌≡◌, ◌||◌, cond, Bool, true, false, List, [], ◌∷◌, ◌++◌, Option, Some, None, refl, sym}
use Rattle.std.proofs.Common.{subst, ap, true≢false, map, append-nil, ◌∙◌, option_and_then, inl, inr, ◌⊎◌}
use Rattle.std.specs.Prelude.{find, fold, ◌&&◌, is_some, not}
use Rattle.std.specs.Option.{option_map_or}
use Rattle.std.specs.Str.{bytes_eq}
use Rattle.std.proofs.lemmas.Slice.Eq.{bytes_eq-Decides}
use Rattle.clap.specs.ValueTests.{accepts}
use Rattle.clap.specs.Kinds.{Kinds, or_else}
use Rattle.clap.specs.Faults.{repeat_fault}
use Rattle.clap.specs.Simple.{filled, help_rule, with_index}
use Rattle.clap.specs.Walk.{Row, Rule, Text, action_of, at_row, default_rows, has_row, more_values, reading_by}
use Rattle.clap.specs.Walk.{row_text, stronger, used, used_as, values_or_missing, with_default, with_values, without}
use Rattle.clap.specs.Values.{read_as, reading_of}
use Rattle.clap.specs.declared.builder.action.ArgAction.TheVariants.{Append, Set, SetTrue}
use Rattle.clap.specs.declared.builder.value_parser.Reading.{Reading}
use Rattle.clap.specs.declared.builder.value_parser.Reading.TheVariants.{AsWritten}
use Rattle.clap.specs.declared.error.kind.ErrorKind.{ErrorKind}
use Rattle.clap.specs.declared.error.kind.ErrorKind.TheVariants.{ArgumentConflict}
use Rattle.clap.specs.declared.parser.matches.ValueSource.{ValueSource}
use Rattle.clap.specs.declared.parser.matches.ValueSource.TheVariants.{CommandLine, DefaultValue}
use Rattle.options.specs.CommandLine.{OptionForm, rule_of}
use Rattle.options.specs.within.CommandLine.{HasValue, HasValues}

pub no_kind : (k : ErrorKind) (ks : Kinds) → k ∷ ks ≡ [] → ⊥
no_kind k ks e = cc

-- what is no fault has no fault in either part
pub both_pass : (a b : Kinds) → or_else a b ≡ [] → (a ≡ []) × (b ≡ [])
both_pass [] b e = (refl, e)
both_pass (k ∷ ks) b e = absurd (no_kind k ks e)

-- an option and the help as clap builds them
abbrev pub option_rule : OptionForm → Rule
option_rule o = with_index 1 (filled (rule_of o))

abbrev pub help : Rule
help = with_index 1 (filled help_rule)

abbrev pub option_of : List OptionForm → Text → Option OptionForm
option_of os name = find (λ o. bytes_eq o.name name) os

-- the option is the first of its name, its values are read as they are written, and clap takes its default
pub record IsSound (options : List OptionForm) (o : OptionForm) : Type 0 where
  pub first : option_of options o.name ≡ Some o
  pub as_written : reading_of o.parser ≡ AsWritten
  pub default_fits : option_map_or (accepts false o.parser) o.default true ≡ true

abbrev pub AreSound : List OptionForm → List OptionForm → Type 0
AreSound options [] = Unit {0}
AreSound options (o ∷ os) = IsSound options o × AreSound options os

-- an argument that is none of the options
pub record IsFree (options : List OptionForm) (a : Rule) : Type 0 where
  pub other : option_of options a.id ≡ None
  pub adds : (action_of a ≡ Set) ⊎ ((action_of a ≡ Append) ⊎ (action_of a ≡ SetTrue))

abbrev pub IsSoundRule : List OptionForm → Rule → Type 0
IsSoundRule options a = ((o : OptionForm) × (a ≡ option_rule o) × IsSound options o) ⊎ (IsFree options a ⊎ (a ≡ help))

abbrev pub AreSoundRules : List OptionForm → List Rule → Type 0
AreSoundRules options [] = Unit {0}
AreSoundRules options (a ∷ args) = IsSoundRule options a × AreSoundRules options args

pub both_sound : (options : List OptionForm) (args bs : List Rule) → AreSoundRules options args → AreSoundRules options bs →
    AreSoundRules options (args ++ bs)
both_sound options [] bs s t = t
both_sound options (a ∷ args) bs s t = (s.0, both_sound options args bs s.1 t)

pub options_sound : (options os : List OptionForm) → AreSound options os → AreSoundRules options (map option_rule os)
options_sound options [] s = tt
options_sound options (o ∷ os) s = (inl (o, refl, s.0), options_sound options os s.1)

-- the first value of an option's row is one that clap takes for it
abbrev pub FitsOption : Option OptionForm → Row → Type 0
FitsOption None r = Unit {0}
FitsOption (Some o) r = (t : Text) × (row_text r ≡ Some t) × (accepts false o.parser t ≡ true)

-- ---- rows

at_row-none : (id : Text) (change : Row → List Row) (missing rows : List Row) → has_row id rows ≡ false →
    at_row id change missing rows ≡ rows ++ missing
at_row-none id change missing [] e = refl
at_row-none id change missing (r ∷ rs) e = go (bytes_eq r.id id) e (at_row-none id change missing rs)
  where
    go : (b : Bool) → (b || has_row id rs) ≡ false → (has_row id rs ≡ false → at_row id change missing rs ≡ rs ++ missing)
        → cond b (change r ++ rs) (r ∷ at_row id change missing rs) ≡ r ∷ (rs ++ missing)
    go true e rest = absurd (true≢false e)
    go false e rest = ap (λ xs. r ∷ xs) (rest e)

has_row-append : (name : Text) (rows more : List Row) → has_row name rows ≡ true → has_row name (rows ++ more) ≡ true
has_row-append name [] more e = absurd (true≢false (sym e))
has_row-append name (r ∷ rs) more e = go (bytes_eq r.id name) e (has_row-append name rs more)
  where
    go : (b : Bool) → (b || has_row name rs) ≡ true → (has_row name rs ≡ true → has_row name (rs ++ more) ≡ true) →
        (b || has_row name (rs ++ more)) ≡ true
    go true e rest = refl
    go false e rest = rest e

has_row-last : (name : Text) (rows : List Row) (r : Row) → bytes_eq r.id name ≡ true → has_row name (rows ++ r ∷ []) ≡ true
has_row-last name [] r e = subst (λ b. (b || false) ≡ true) (sym e) refl
has_row-last name (x ∷ xs) r e = go (bytes_eq x.id name) (has_row-last name xs r e)
  where
    go : (b : Bool) → has_row name (xs ++ r ∷ []) ≡ true → (b || has_row name (xs ++ r ∷ [])) ≡ true
    go true rest = refl
    go false rest = rest

pub none_yet : (id : Text) (rows : List Row) → repeat_fault false id rows ≡ [] → has_row id rows ≡ false
none_yet id rows e = go (has_row id rows) e
  where
    go : (b : Bool) → cond (b && true) (ArgumentConflict ∷ []) [] ≡ [] → b ≡ false
    go true e = absurd (no_kind _ _ e)
    go false e = refl

pub without-none : (id : Text) (rows : List Row) → has_row id rows ≡ false → at_row id (λ _. []) [] rows ≡ rows
without-none id rows e = at_row-none id (λ _. []) [] rows e ∙ append-nil rows

same_either_way : {X : Type 0} (b : Bool) (x : X) → cond b x x ≡ x
same_either_way true x = refl
same_either_way false x = refl

abbrev HasRows : List Row → List OptionForm → Type 0
HasRows rows [] = Unit {0}
HasRows rows (o ∷ os) = (is_some o.default ≡ true → has_row o.name rows ≡ true) × HasRows rows os

abbrev row_of : OptionForm → ValueSource → List Text → Row
row_of o s values = record { id = o.name; values = values; count = None; source = Some s; reading = reading_by (option_rule o) }

-- an option without a row gets one at the end
row_at_end : (o : OptionForm) (s : ValueSource) (t : Text) (ts : List Text) (rows : List Row) → has_row o.name rows ≡ false
    → with_values o.name (reading_by (option_rule o)) s (t ∷ ts) rows ≡ rows ++ row_of o s (t ∷ ts) ∷ []
row_at_end o s t ts rows none = at_row-none o.name (more_values s (t ∷ ts)) (row_of o s (t ∷ ts) ∷ []) rows none

module _ (options : List OptionForm) where
  abbrev pub IsFine : List Row → Type 0
  IsFine [] = Unit {0}
  IsFine (r ∷ rs) = FitsOption (option_of options r.id) r × IsFine rs

  IsFine-last : (rows : List Row) (r : Row) → IsFine rows → FitsOption (option_of options r.id) r → IsFine (rows ++ r ∷ [])
  IsFine-last [] r fine fits = (fits, tt)
  IsFine-last (x ∷ xs) r fine fits = (fine.0, IsFine-last xs r fine.1 fits)

  pub row_added : (o : OptionForm) (s : ValueSource) (t : Text) (ts : List Text) (rows : List Row) → IsSound options o →
      has_row o.name rows ≡ false
      → accepts false o.parser t ≡ true → IsFine rows → IsFine (with_values o.name (reading_by (option_rule o)) s (t ∷ ts) rows)
  row_added o s t ts rows sound none fits fine =
      subst IsFine (sym (row_at_end o s t ts rows none))
      (IsFine-last rows (row_of o s (t ∷ ts)) fine
      (subst (λ p. FitsOption p (row_of o s (t ∷ ts))) (sym sound.first) (t, ap (λ r. Some (read_as r t)) sound.as_written, fits)))

  -- ---- the defaults

  abbrev defaulted : OptionForm → Bool → Option Text → List Row → List Row
  defaulted o b d rows =
      cond b rows (default_rows o.name (reading_by (option_rule o)) (option_rule (record o { default = d })).defaults rows)

  default_fine : (o : OptionForm) (rows : List Row) → IsSound options o → IsFine rows → IsFine (with_default rows (option_rule o))
  default_fine o rows sound fine = go (has_row o.name rows) refl o.default sound.default_fits
    where
      go : (b : Bool) → has_row o.name rows ≡ b → (d : Option Text) → option_map_or (accepts false o.parser) d true ≡ true →
          IsFine (defaulted o b d rows)
      go true is d fits = fine
      go false is None fits = fine
      go false is (Some text) fits = row_added o DefaultValue text [] rows sound is fits fine

  default_given : (o : OptionForm) (rows : List Row) → is_some o.default ≡ true → has_row o.name (with_default rows (option_rule o)) ≡ true
  default_given o rows some = go (has_row o.name rows) refl o.default some
    where
      go : (b : Bool) → has_row o.name rows ≡ b → (d : Option Text) → is_some d ≡ true → has_row o.name (defaulted o b d rows) ≡ true
      go true is d some = is
      go false is None some = absurd (true≢false (sym some))
      go false is (Some text) some = subst (λ rs. has_row o.name rs ≡ true) (sym (row_at_end o DefaultValue text [] rows is))
          (has_row-last o.name rows (row_of o DefaultValue (text ∷ [])) ((bytes_eq-Decides o.name o.name).1 refl))

  -- what an argument adds that is none of the options
  IsFine-append : (rows more : List Row) → IsFine rows → IsFine more → IsFine (rows ++ more)
  IsFine-append [] more fine others = others
  IsFine-append (r ∷ rs) more fine others = (fine.0, IsFine-append rs more fine.1 others)

  changed_fine : (id : Text) (change : Row → List Row) (missing rows : List Row) →
      ((r : Row) → bytes_eq r.id id ≡ true → IsFine (change r)) → IsFine missing
      → IsFine rows → IsFine (at_row id change missing rows)
  changed_fine id change missing [] changes others fine = others
  changed_fine id change missing (r ∷ rs) changes others fine =
      go (bytes_eq r.id id) refl (changed_fine id change missing rs changes others fine.1)
    where
      go : (b : Bool) → bytes_eq r.id id ≡ b → IsFine (at_row id change missing rs) →
          IsFine (cond b (change r ++ rs) (r ∷ at_row id change missing rs))
      go true is rest = IsFine-append (change r) rs (changes r is) fine.1
      go false is rest = (fine.0, rest)

  values_fine : (id : Text) (how : Reading) (s : ValueSource) (values : List Text) (rows : List Row) → option_of options id ≡ None →
      IsFine rows → IsFine (with_values id how s values rows)
  values_fine id how s values rows other fine = changed_fine id (more_values s values) _ rows
      (λ r is. (
        subst (λ o. FitsOption o (record r { values = r.values ++ values; source = Some (stronger r.source s) }))
            (sym (subst (λ name. option_of options name ≡ None) (sym ((bytes_eq-Decides r.id id).0 is)) other)) tt,
        tt,
      ))
      (subst (λ o. FitsOption o (record { id = id; values = values; count = None; source = Some s; reading = how })) (sym other) tt, tt)
      fine

  pub free_fine : (a : Rule) (values : List Text) (rows : List Row) → IsFree options a → IsFine rows → IsFine (used a values rows)
  free_fine a values rows free fine = go free.adds
    where
      given : List Text
      given = values_or_missing a values

      only : IsFine (used_as Set a.id (reading_by a) given rows)
      only = values_fine a.id (reading_by a) CommandLine given (without a.id rows) free.other
          (changed_fine a.id (λ _. []) [] rows (λ r same. tt) tt fine)

      go : (action_of a ≡ Set) ⊎ ((action_of a ≡ Append) ⊎ (action_of a ≡ SetTrue)) → IsFine (used a values rows)
      go (inl is) = subst (λ act. IsFine (used_as act a.id (reading_by a) given rows)) (sym is) only
      go (inr (inr is)) = subst (λ act. IsFine (used_as act a.id (reading_by a) given rows)) (sym is) only
      go (inr (inl is)) = subst (λ act. IsFine (used_as act a.id (reading_by a) given rows)) (sym is)
          (values_fine a.id (reading_by a) CommandLine given rows free.other fine)

  free_default_fine : (a : Rule) (rows : List Row) → IsFree options a → IsFine rows → IsFine (with_default rows a)
  free_default_fine a rows free fine = go (has_row a.id rows) a.defaults
    where
      go : (b : Bool) (values : List Text) → IsFine (cond b rows (default_rows a.id (reading_by a) values rows))
      go true values = fine
      go false [] = fine
      go false (v ∷ vs) = values_fine a.id (reading_by a) DefaultValue (v ∷ vs) rows free.other fine

  no_default_added : (a : Rule) (rows : List Row) → a.defaults ≡ [] → with_default rows a ≡ rows
  no_default_added a rows none = subst (λ values. cond (has_row a.id rows) rows (default_rows a.id (reading_by a) values rows) ≡ rows)
      (sym none) (same_either_way (has_row a.id rows) rows)

  rule_default_fine : (a : Rule) (rows : List Row) → IsSoundRule options a → IsFine rows → IsFine (with_default rows a)
  rule_default_fine a rows (inl given) fine =
      subst (λ r. IsFine (with_default rows r)) (sym given.1) (default_fine given.0 rows given.2 fine)
  rule_default_fine a rows (inr (inl free)) fine = free_default_fine a rows free fine
  rule_default_fine a rows (inr (inr is)) fine =
      subst IsFine (sym (no_default_added a rows (subst (λ (r : Rule). r.defaults ≡ []) (sym is) refl))) fine

  defaults_fine : (args : List Rule) (rows : List Row) → AreSoundRules options args → IsFine rows → IsFine (fold with_default rows args)
  defaults_fine [] rows sound fine = fine
  defaults_fine (a ∷ args) rows sound fine = defaults_fine args (with_default rows a) sound.1 (rule_default_fine a rows sound.0 fine)

  default_kept : (name : Text) (a : Rule) (rows : List Row) → has_row name rows ≡ true → has_row name (with_default rows a) ≡ true
  default_kept name a rows e = go (has_row a.id rows) refl a.defaults
    where
      go : (b : Bool) → has_row a.id rows ≡ b → (values : List Text)
          → has_row name (cond b rows (default_rows a.id (reading_by a) values rows)) ≡ true
      go true is values = e
      go false is [] = e
      go false is (v ∷ vs) =
          subst (λ rs. has_row name rs ≡ true) (sym (at_row-none a.id (more_values DefaultValue (v ∷ vs)) _ rows is))
          (has_row-append name rows _ e)

  defaults_kept : (name : Text) (args : List Rule) (rows : List Row) → has_row name rows ≡ true →
      has_row name (fold with_default rows args) ≡ true
  defaults_kept name [] rows e = e
  defaults_kept name (a ∷ args) rows e = defaults_kept name args (with_default rows a) (default_kept name a rows e)

  rows_given : (os : List OptionForm) (back : List Rule) (rows : List Row) →
      HasRows (fold with_default rows (map option_rule os ++ back)) os
  rows_given [] back rows = tt
  rows_given (o ∷ os) back rows =
      let next = with_default rows (option_rule o) in
      ((λ some. defaults_kept o.name (map option_rule os ++ back) next (default_given o rows some)), rows_given os back next)

  all_rows_given : (front back : List Rule) (rows : List Row) →
      HasRows (fold with_default rows (front ++ (map option_rule options ++ back))) options
  all_rows_given [] back rows = rows_given options back rows
  all_rows_given (a ∷ front) back rows = all_rows_given front back (with_default rows a)

  value_found : (o : OptionForm) (rows : List Row) → IsSound options o → IsFine rows →
      (is_some o.default ≡ true → has_row o.name rows ≡ true) → HasValue rows o
  value_found o [] sound fine e = go (is_some o.default) e
    where
      go : (b : Bool) → (b ≡ true → false ≡ true) → not b ≡ true
      go true e = e refl
      go false e = refl
  value_found o (r ∷ rs) sound fine e = go (bytes_eq r.id o.name) refl e (value_found o rs sound fine.1)
    where
      go : (b : Bool) → bytes_eq r.id o.name ≡ b → (is_some o.default ≡ true → (b || has_row o.name rs) ≡ true)
          → ((is_some o.default ≡ true → has_row o.name rs ≡ true) → HasValue rs o)
          → option_map_or (accepts false o.parser) (option_and_then row_text (cond b (Some r) (find (λ x. bytes_eq x.id o.name) rs)))
          (not (is_some o.default)) ≡ true
      go true is e rest =
          let same = (bytes_eq-Decides r.id o.name).0 is in
          let fits = subst (λ p. FitsOption p r) (subst (λ n. option_of options n ≡ Some o) (sym same) sound.first) fine.0 in
          rw fits.1 fits.2
      go false is e rest = rest e

  values_found : (os : List OptionForm) (rows : List Row) → AreSound options os → IsFine rows → HasRows rows os → HasValues rows os
  values_found [] rows sound fine has = tt
  values_found (o ∷ os) rows sound fine has = (value_found o rows sound.0 fine has.0, values_found os rows sound.1 fine has.1)

  -- after the defaults each option has a value that has a default, and clap takes it
  pub all_given : (front back : List Rule) (rows : List Row) → AreSound options options
      → AreSoundRules options (front ++ (map option_rule options ++ back))
      → IsFine rows → HasValues (fold with_default rows (front ++ (map option_rule options ++ back))) options
  all_given front back rows sound rules fine =
      values_found options _ sound (defaults_fine (front ++ (map option_rule options ++ back)) rows rules fine)
      (all_rows_given front back rows)
