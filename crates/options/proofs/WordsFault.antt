-- Whether words are refused, where clap refuses them and where it does not.
use Rattle.std.proofs.Common.{◌≡◌, ◌⊎◌, ◌∙◌, [], ◌∷◌, subst, Bool, true, false, refl, sym, true≢false, inl, inr, List, Option, Some, option_and_then}
use Rattle.std.specs.Prelude.{if◌then◌else◌}
use Rattle.clap.specs.Kinds.{HasKind, IsAmong, Kinds, or_else}
use Rattle.clap.specs.Values.{kind_of}
use Rattle.clap.specs.Words.{Row, Text}
use Rattle.clap.specs.declared.error.Error.{Error}
use Rattle.clap.specs.declared.error.kind.ErrorKind.TheVariants.{InvalidValue, OutOfMemory}
use Rattle.options.specs.Beginnings.{Beginning}
use Rattle.options.specs.CommandLine.{asks_for_all, beginning_of_command, job_of_command, title_of_command}
use Rattle.options.specs.Files.{Files, files_of_command}
use Rattle.options.specs.declared.job.Job.{Job}
use Rattle.options.specs.declared.refusals.Refusal.{Refusal}
use Rattle.options.specs.declared.refusals.Refusal.TheVariants.{Memory}
use Rattle.options.proofs.Options.{no_kind}

-- clap's refusal stays
pub still_refused : (kinds more : Kinds) (e : Error) → HasKind kinds e → HasKind (or_else kinds more) e
still_refused [] more e (inl memory) = inl memory
still_refused [] more e (inr none) = absurd none
still_refused (k ∷ ks) more e has = has

-- an error of the same kind, or memory ran out
pub same_kind : (kinds : Kinds) (e told : Error) → HasKind kinds e → HasKind (kind_of e ∷ []) told → HasKind kinds told
same_kind kinds e told has (inl memory) = inl memory
same_kind kinds e told (inl memory) (inr (inl same)) = inl (same ∙ memory)
same_kind kinds e told (inr among) (inr (inl same)) = inr (subst (λ k. IsAmong k kinds) (sym same) among)
same_kind kinds e told has (inr (inr none)) = absurd none

pub asks_for : (found : Option (Text × List Row)) (job : Job) (files : Files) (title : Option Text) (beginning : Beginning) →
    option_and_then job_of_command found ≡ Some job → option_and_then files_of_command found ≡ Some files
    → option_and_then title_of_command found ≡ Some title → option_and_then beginning_of_command found ≡ Some beginning
    → asks_for_all found ≡ true
asks_for found job files title beginning is_job are_files is_title is_beginning = rw (is_job, are_files, is_title, is_beginning) refl

-- words that clap takes and that ask for all that is wanted
pub taken : (kinds : Kinds) (asks : Bool) → kinds ≡ [] → asks ≡ true → or_else kinds (if asks then [] else InvalidValue ∷ []) ≡ []
taken [] true none is = refl
taken [] false none is = absurd (true≢false (sym is))
taken (k ∷ ks) asks none is = absurd (no_kind _ _ none)

-- words that clap takes and that don't, or memory ran out
pub refusal_told : (kinds : Kinds) (asks : Bool) (r : Refusal) (e : Error) → kinds ≡ [] → (r ≡ Memory) ⊎ (asks ≡ false)
    → HasKind (InvalidValue ∷ []) e → (r ≡ Memory → kind_of e ≡ OutOfMemory)
    → HasKind (or_else kinds (if asks then [] else InvalidValue ∷ [])) e
refusal_told kinds asks r e none (inl memory) has out = inl (out memory)
refusal_told [] false r e none (inr is) has out = has
refusal_told [] true r e none (inr is) has out = absurd (true≢false is)
refusal_told (k ∷ ks) asks r e none (inr is) has out = absurd (no_kind _ _ none)
