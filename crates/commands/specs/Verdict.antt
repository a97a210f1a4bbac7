-- What a command finds of a schedule.
use Rattle.std.specs.Prelude.{Bool, true, false}
use Rattle.commands.specs.declared.verdict.Verdict.{Verdict}
use Rattle.commands.specs.declared.verdict.Verdict.TheVariants.{Feasible, Infeasible}

-- of a schedule that is feasible, or not
abbrev pub verdict_of : Bool → Verdict
verdict_of true = Feasible
verdict_of false = Infeasible
