use Rattle.std.proofs.Common.{◌≡◌, drop, map}
use Rattle.std.specs.Prelude.{fold}
use Rattle.clap.specs.Words.{app_of}
use Rattle.options.specs.within.CommandLine.{with_named}
use Rattle.options.proofs.commands.with_commands.Given as goal

-- the commands that are left go on from the program so far
abbrev pub invariant-loop-name : goal.invariant-loop-name
invariant-loop-name l = fold with_named (app_of l.initial.program) (map (λ name. name.now) l.names)
    ≡ fold with_named (app_of l.program) (drop l.name-index (map (λ name. name.now) l.names))
