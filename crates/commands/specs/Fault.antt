-- The faults of the layers below, as faults of the program.
use Rattle.league.specs.declared.fault.LeagueFault.{LeagueFault}
use Rattle.league.specs.declared.fault.LeagueFault.TheVariants as league
use Rattle.given_start.specs.declared.fault.BeginFault.{BeginFault}
use Rattle.given_start.specs.declared.fault.BeginFault.TheVariants as begin
use Rattle.schedule_csv.specs.declared.fault.TableFault.{TableFault}
use Rattle.schedule_csv.specs.declared.fault.TableFault.TheVariants as table
use Rattle.league_csv.specs.declared.fault.DistanceFault.{DistanceFault}
use Rattle.league_csv.specs.declared.fault.DistanceFault.TheVariants as distances
use Rattle.fixture_board.specs.declared.board.BoardFault.{BoardFault}
use Rattle.fixture_board.specs.declared.board.BoardFault.TheVariants as board
use Rattle.search.specs.declared.runs.RunFault.{RunFault}
use Rattle.search.specs.declared.runs.RunFault.TheVariants as run
use Rattle.improvement.specs.declared.plan.ImproveFault.{ImproveFault}
use Rattle.improvement.specs.declared.plan.ImproveFault.TheVariants as improve
use Rattle.commands.specs.declared.fault.ProgramFault.{ProgramFault}
use Rattle.commands.specs.declared.fault.ProgramFault.TheVariants.{League, Begin, Row, Distances, Room, Workers, Spawn, Receipts, Write, Memory}

-- want of memory is the program's, and every other fault the league's
abbrev pub of_league : LeagueFault → ProgramFault
of_league league.Memory = Memory
of_league fault = League fault

abbrev pub of_beginning : BeginFault → ProgramFault
of_beginning begin.Memory = Memory
of_beginning fault = Begin fault

abbrev pub of_table : TableFault → ProgramFault
of_table (table.Row fault) = Row fault
of_table table.Memory = Memory

abbrev pub of_distances : DistanceFault → ProgramFault
of_distances distances.Memory = Memory
of_distances fault = Distances fault

abbrev pub of_board : BoardFault → ProgramFault
of_board board.RoomRange = Room
of_board board.Memory = Memory

abbrev pub of_run : RunFault → ProgramFault
of_run run.Workers = Workers
of_run run.Spawn = Spawn
of_run run.Receipts = Receipts
of_run run.Memory = Memory

abbrev pub of_improve : ImproveFault → ProgramFault
of_improve improve.Workers = Workers
of_improve improve.Memory = Memory
of_improve improve.Write = Write
