use Rattle.std.proofs.Common.{◌+◌, ◌<◌, ◌∙◌, ◌≡◌, ap, cond, drop, false, get_or, List, Option, Some, sym, ℕ}
use Rattle.std.{proofs.lemmas.List.{drop_more}, specs.{List.{find}, Str.{bytes_eq}}}
use Rattle.fc_tool.specs.{command_of, declared.request.Task.{Task, TheVariants.{Show}}, tasks}
use Rattle.fc_tool.proofs.request.Task.named.Goals as goal

abbrev first_named : List ℕ → List Task → Option Task
first_named name tasks = find (λ task. bytes_eq name (command_of task)) tasks

-- a task with another command is passed over
passed : (name : List ℕ) (at : ℕ) → at < 14 → bytes_eq name (command_of (get_or tasks at Show)) ≡ false → first_named name (drop at tasks) ≡ first_named name (drop (at + 1) tasks)
passed name at inside other =
    ap (first_named name) (drop_more tasks at Show inside)
    ∙ ap (λ same. cond same (Some (get_or tasks at Show)) (first_named name (drop (at + 1) tasks))) other

pub loop-at-preserved : goal.loop-at-preserved
loop-at-preserved c =
    c.loop-at.invariant
    ∙ passed c.args.name.now c.loop-at.at c.loop-at-test.true (ap (bytes_eq c.args.name.now) (sym c.name.ensures) ∙ sym c.eq.ensures ∙ c.if-eq.false)
