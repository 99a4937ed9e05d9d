use Rattle.std.{proofs.Common.{◌≡◌, drop}, specs.{List.{find}, Str.{bytes_eq}}}
use Rattle.fc_tool.specs.{command_of, task_named, tasks}
use Rattle.fc_tool.proofs.request.Task.named.Given as goal

-- the task is the first of those that are left with this command
abbrev pub invariant-loop-at : goal.invariant-loop-at
invariant-loop-at l = task_named l.fn.name ≡ find (λ task. bytes_eq l.fn.name (command_of task)) (drop l.at tasks)
