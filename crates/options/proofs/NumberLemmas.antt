-- `get_one` reads the number that the rows have of an option, if any.
use Rattle.std.proofs.Common.{◌≡◌, ◌∙◌, ◌≤◌, ap, ℕ, true, false, true≢false, Option, Some, None, IfSome, List, Result, is_some, refl, sym}
use Rattle.std.specs.Prelude.{not}
use Rattle.std.specs.Option.{option_map_or}
use Rattle.std.specs.Str.Parse.{ExplainsUnsignedError, HasUnsignedDigitsIfOk, ParsesUnsigned}
use Rattle.std.specs.declared.num.ParseIntError.{ParseIntError}
use Rattle.clap.specs.Words.{ReadsOne, Row, Text, one_of, one_text, rows_of}
use Rattle.clap.specs.declared.parser.matches.Found.{Found}
use Rattle.clap.specs.ValueTests.{accepts}
use Rattle.clap.specs.declared.builder.value_parser.ValueParser.{ValueParser}
use Rattle.clap.specs.declared.builder.value_parser.ValueParser.TheVariants.{Unsigned}
use Rattle.clap.proofs.ValueTestLemmas.{accepts-Accepts}
use Rattle.clap.proofs.WalkLemmas.{one_text-rows}
use Rattle.options.specs.CommandLine.{number_in}
use Rattle.options.specs.within.CommandLine.{HasValue, form_of}
use Rattle.options.specs.declared.number_args.NumberArg.{NumberArg}

-- how `u64` reads a text
abbrev Reads : Text → Result ℕ ParseIntError → Type 0
Reads t r = ParsesUnsigned 64 10 t r × ExplainsUnsignedError 10 t r × HasUnsignedDigitsIfOk t r

-- what `number_if_any` answers
pub record IsNumberOf (o : NumberArg) (rows : List Row) (r : Option ℕ) : Type 0 where
  pub number : number_in o.name.now rows ≡ r
  pub some : is_some (form_of o).default ≡ true → is_some r ≡ true
  pub range : IfSome r (λ n. (o.least ≤ n) × (n ≤ o.most))

module _ (o : NumberArg) (f : Found) where
  abbrev parser : ValueParser
  parser = Unsigned o.least o.most

  same : one_text f o.name.now ≡ one_of o.name.now (rows_of f)
  same = one_text-rows f o.name.now

  pub number_read : (r : Option ℕ) → HasValue (rows_of f) (form_of o) → (one_text f o.name.now ≡ None → r ≡ None) →
      ((t : Text) → one_text f o.name.now ≡ Some t → ReadsOne Reads t r) → IsNumberOf o (rows_of f) r
  number_read r has none value = go (one_of o.name.now (rows_of f)) refl r has none value
    where
      go : (text : Option Text) → one_of o.name.now (rows_of f) ≡ text → (r : Option ℕ)
          → option_map_or (accepts false parser) text (not (is_some (form_of o).default)) ≡ true → (one_text f o.name.now ≡ None → r ≡ None)
          → ((t : Text) → one_text f o.name.now ≡ Some t → ReadsOne Reads t r) → IsNumberOf o (rows_of f) r
      go None is r has none value =
          rw (none (same ∙ is)) (record { number = rw is refl; some = λ d. absurd (true≢false (sym (rw d at has))); range = tt })
      go (Some t) is None has none value =
          let accepted = accepts-Accepts false parser t has in
          absurd ((value t (same ∙ is)).1.0 (accepted.0, accepted.1))
      go (Some t) is (Some n) has none value =
          let accepted = accepts-Accepts false parser t has in
          let read = (value t (same ∙ is)).0.1 in
          record { number = rw is (ap Some (sym read)); some = λ d. refl; range = rw read (accepted.2, accepted.3) }
