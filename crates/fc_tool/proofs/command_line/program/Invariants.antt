use Rattle.{clap.specs.Words.{app_of}, fc_tool.specs.{program_of, tasks}}
use Rattle.std.proofs.Common.{◌≡◌, take}
use Rattle.fc_tool.proofs.command_line.program.Given as goal

-- the command line has the commands of the tasks so far
abbrev pub invariant-loop-at : goal.invariant-loop-at
invariant-loop-at l = app_of l.line ≡ program_of (take l.at tasks) l.fn.choices l.fn.dealt
