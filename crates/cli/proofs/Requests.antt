-- What a request that the words were taken for comes to, and one that they were refused for.
use Rattle.std.proofs.Common.{◌≡◌, ◌≤◌, ℕ, Bool, codes, if◌then◌else◌, nat_le, option_and_then, option_map, string_bytes, List, [], ◌∷◌, Option, Some, None, Result, Ok, Err, IfOk, IfErr, OnErr, true, false, refl, subst, subst₂, sym, arith}
use mathlib.Core.Logic.{inl, inr}
use Rattle.std.specs.Option.{option_map_or}
use Rattle.std.proofs.lemmas.Bool.{leb-true}
use Rattle.clap.specs.Words.{FailsBy, HasKind, Kinds, Row, Text, first_of, kind_of}
use Rattle.clap.specs.declared.error.Error.{Error}
use Rattle.clap.specs.declared.error.kind.ErrorKind.{ErrorKind as Kind}
use Rattle.clap.specs.declared.error.kind.ErrorKind.TheVariants as kind
use Rattle.options.specs.Beginnings.{Beginning as Kept, beginning_from, beginning_of, games_in, max_near, near_in, near_of_text, rounds_in}
use Rattle.options.specs.CommandLine.{beginning_of_command}
use Rattle.text_lines.specs.Number.{number_of}
use Rattle.options.specs.Files.{Files, files_of}
use Rattle.options.specs.declared.job.Job.{Job}
use Rattle.options.specs.declared.job.Job.TheVariants.{Start, Play, Improve, Find, Report, League as Make, Bound}
use Rattle.options.specs.declared.request.Request.{Request}
use Rattle.byte_streams.specs.declared.tally.Tally.{Tally}
use Rattle.commands.specs.declared.fault.ProgramFault.TheVariants.{Memory}
use Rattle.cli.specs.Program.{is_plain, DoesJob, EndsJob, EndsWithFiles, IsStatusOf, IsStatusOfWords}

-- where the words have no fault, only memory can be wanting
memory_of : (kinds : Kinds) (e : Error) → HasKind kinds e → kinds ≡ [] → kind_of e ≡ kind.OutOfMemory
memory_of [] e has none = elim has [ inl k ↦ k | inr k ↦ absurd k ]
memory_of (k ∷ ks) e has none = cc

-- words name one thing at most
same : {T : Type 0} (named : Option T) (a b : T) → named ≡ Some a → named ≡ Some b → a ≡ b
same named a b is_a is_b = cc

-- whether nothing is named or kept is the same of what was made of the words
plain_too : (files made_files : Files) (kept made_kept : Kept) (plain : Bool) → files ≡ made_files → kept ≡ made_kept
    → is_plain files kept ≡ plain → is_plain made_files made_kept ≡ plain
plain_too files made_files kept made_kept plain same_files same_kept is =
    subst (λ (f : Files). is_plain f made_kept ≡ plain) same_files (subst (λ (k : Kept). is_plain files k ≡ plain) same_kept is)

-- words that name a job, files and what is kept; and what was made of them
module _ {R W : Type 0} (left : R → Option (List ℕ)) (pulls : R → Tally) (held : W → Option (List ℕ)) (pushes : W → Tally) (source : R)
    (before : W) where
  nothing_done : (title : Option Text) (job : Job) → EndsJob left pulls held pushes title job None source source before before (Err Memory)
  nothing_done title Start = record { ending = inl refl; failed_read = λ h. absurd (omega (arith, h)); reads = omega arith }
  nothing_done title (Play room) = record { ending = inl refl; failed_read = λ h. absurd (omega (arith, h)); reads = omega arith }
  nothing_done title (Improve workers seed effort seconds history) =
      record { ending = inl refl; failed_read = λ h. absurd (omega (arith, h)); reads = omega arith }
  nothing_done title (Find room plan) = record { ending = inl refl; failed_read = λ h. absurd (omega (arith, h)); reads = omega arith }
  nothing_done title (Report format) = record { ending = inl refl; failed_read = λ h. absurd (omega (arith, h)); reads = omega arith }
  nothing_done title (Make choice at_most hard_weight) = record { ending = inl refl; failed_read = λ h. absurd (omega (arith, h)); reads = omega arith }
  nothing_done title Bound = record { ending = inl refl; failed_read = λ h. absurd (omega (arith, h)); reads = omega arith }

  module _ (kinds : Kinds) (named : Option Job) (named_files : Option Files) (named_title : Option (Option Text)) (named_kept : Option Kept)
      (after : W) (status : ℕ) where
    pub done : (request : Result Request Error) → FailsBy kinds request → IfOk request (λ r. named ≡ Some r.job)
        → IfOk request (λ r. named_files ≡ Some (files_of r.files)) → IfOk request (λ r. named_title ≡ Some (option_map string_bytes r.title))
        → IfOk request (λ r. named_kept ≡ Some (beginning_of r.beginning))
        → IfOk request (λ r. is_plain (files_of r.files) (beginning_of r.beginning) ≡ true
        → DoesJob left pulls held pushes (option_map string_bytes r.title) r.job source before after status)
        → IfErr request (λ e. IsStatusOf (kind_of e) status) → OnErr request (after ≡ before)
        → (job : Job) (files : Files) (title : Option Text) (kept : Kept) → kinds ≡ [] → named ≡ Some job → named_files ≡ Some files
        → named_title ≡ Some title → named_kept ≡ Some kept → is_plain files kept ≡ true
        → DoesJob left pulls held pushes title job source before after status
    done (Ok r) fails job_of files_in title_in kept_in does told quiet job files title kept none job_is files_is title_is kept_is plain =
        let same_files : files ≡ files_of r.files = same named_files files (files_of r.files) files_is files_in in
        let same_kept : kept ≡ beginning_of r.beginning = same named_kept kept (beginning_of r.beginning) kept_is kept_in in
        let same_title : option_map string_bytes r.title ≡ title = same named_title (option_map string_bytes r.title) title title_in title_is in
        subst₂ (λ (t : Option Text) (j : Job). DoesJob left pulls held pushes t j source before after status) same_title
        (same named r.job job job_of job_is)
        (does (plain_too files (files_of r.files) kept (beginning_of r.beginning) true same_files same_kept plain))
    done (Err e) fails job_of files_in title_in kept_in does told quiet job files title kept none job_is files_is title_is kept_is plain = record {
      outcome = Err Memory;
      source_after = source;
      ends = subst (λ w. EndsJob left pulls held pushes title job None source source before w (Err Memory)) (sym quiet) (nothing_done title job);
      verdict = tt;
      end = tt;
      status_is = told.memory (memory_of kinds e fails none);
    }

    pub on_files : (request : Result Request Error) → FailsBy kinds request → IfOk request (λ r. named ≡ Some r.job)
        → IfOk request (λ r. named_files ≡ Some (files_of r.files)) → IfOk request (λ r. named_title ≡ Some (option_map string_bytes r.title))
        → IfOk request (λ r. named_kept ≡ Some (beginning_of r.beginning))
        → IfOk request (λ r. is_plain (files_of r.files) (beginning_of r.beginning) ≡ false
        → EndsWithFiles held pushes (option_map string_bytes r.title) r.job (files_of r.files) (beginning_of r.beginning) before after status)
        → IfErr request (λ e. IsStatusOf (kind_of e) status) → OnErr request (after ≡ before)
        → (job : Job) (files : Files) (title : Option Text) (kept : Kept) → kinds ≡ [] → named ≡ Some job → named_files ≡ Some files
        → named_title ≡ Some title → named_kept ≡ Some kept → is_plain files kept ≡ false
        → EndsWithFiles held pushes title job files kept before after status
    on_files (Ok r) fails job_of files_in title_in kept_in ends told quiet job files title kept none job_is files_is title_is kept_is plain =
        let same_files : files ≡ files_of r.files = same named_files files (files_of r.files) files_is files_in in
        let same_kept : kept ≡ beginning_of r.beginning = same named_kept kept (beginning_of r.beginning) kept_is kept_in in
        let same_title : option_map string_bytes r.title ≡ title = same named_title (option_map string_bytes r.title) title title_in title_is in
        subst₂ (λ (f : Files) (k : Kept). EndsWithFiles held pushes title job f k before after status) (sym same_files) (sym same_kept)
        (subst₂ (λ (t : Option Text) (j : Job). EndsWithFiles held pushes t j (files_of r.files) (beginning_of r.beginning) before after status)
        same_title (same named r.job job job_of job_is)
        (ends (plain_too files (files_of r.files) kept (beginning_of r.beginning) false same_files same_kept plain)))
    on_files (Err e) fails job_of files_in title_in kept_in ends told quiet job files title kept none job_is files_is title_is kept_is plain =
        inl (told.memory (memory_of kinds e fails none), quiet)

-- words that have a fault
pub at_fault : (kinds : Kinds) (k : Kind) (status : ℕ) (request : Result Request Error) → FailsBy kinds request
    → IfErr request (λ e. IsStatusOf (kind_of e) status) → kinds ≡ k ∷ [] → IsStatusOfWords k status
at_fault kinds k status (Ok r) fails told is = cc
at_fault kinds k status (Err e) fails told is = elim (subst (λ (ks : Kinds). HasKind ks e) is fails) [
  | inl memory ↦ inl (told.memory memory)
  | inr among ↦ elim among [ inl same ↦ inr (subst (λ (x : Kind). IsStatusOf x status) same told) | inr none ↦ absurd none ]
]

-- a price that the words name is within its range
module _ (price : ℕ) where
  by_test : (near : ℕ) (within : Bool) → nat_le near max_near ≡ within → (if within then Some near else None) ≡ Some price
      → price ≤ max_near
  by_test near true test is = let same : near ≡ price = cc in rw (← same) (leb-true near max_near test)
  by_test near false test is = cc

  of_number : (number : Option ℕ) → option_and_then (λ near. if nat_le near max_near then Some near else None) number ≡ Some price
      → price ≤ max_near
  of_number None is = cc
  of_number (Some near) is = by_test near (nat_le near max_near) refl is

  of_text : (text : Option Text) → option_map_or near_of_text text (Some 0) ≡ Some price → price ≤ max_near
  of_text None is = grind arith
  of_text (Some text) is = of_number (number_of text) is

in_parts : (rounds : Option ℕ) (games : Option (List (ℕ × ℕ))) (near : Option ℕ) (kept : Kept)
    → beginning_from rounds games near ≡ Some kept → near ≡ Some kept.near
in_parts (Some rounds) (Some games) (Some near) kept is = cc
in_parts None games near kept is = cc
in_parts (Some rounds) None near kept is = cc
in_parts (Some rounds) (Some games) None kept is = cc

pub near_within : (found : Option (Text × List Row)) (kept : Kept) → option_and_then beginning_of_command found ≡ Some kept
    → kept.near ≤ max_near
near_within None kept is = cc
near_within (Some found) kept is =
    of_text kept.near (first_of (codes "near") found.1)
    (in_parts (rounds_in found.1) (games_in found.1) (near_in found.1) kept is)

pub near_of_request : (found : Option (Text × List Row)) (request : Result Request Error)
    → IfOk request (λ r. option_and_then beginning_of_command found ≡ Some (beginning_of r.beginning))
    → IfOk request (λ r. r.beginning.near ≤ max_near)
near_of_request found (Ok r) is = near_within found (beginning_of r.beginning) is
near_of_request found (Err e) is = tt
