use Rattle.std.proofs.Common.{◌≡◌, drop, map}
use Rattle.std.specs.Prelude.{fold}
use Rattle.clap.specs.Words.{app_of, with_rule}
use Rattle.options.specs.within.CommandLine.{rule_of_part}
use Rattle.options.proofs.command_parts.with_args.Given as goal

-- the arguments that are left go on from the command so far
abbrev pub invariant-loop-arg : goal.invariant-loop-arg
invariant-loop-arg l = fold with_rule (app_of l.initial.command) (map rule_of_part l.args)
    ≡ fold with_rule (app_of l.command) (drop l.arg-index (map rule_of_part l.args))
