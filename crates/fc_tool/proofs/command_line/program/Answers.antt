use Rattle.clap.specs.{declared.builder.value_parser.ValueParser.{ValueParser}, Words.{shape_of, with_subcommand}}
use Rattle.std.proofs.{Common.{◌+◌, ◌<◌, ◌∙◌, ◌∷◌, ◌≡◌, [], ap, get_or, sym, take, ℕ}, lemmas.List.Sums.{fold-append}}
use Rattle.std.proofs.lemmas.List.{take_more}
use Rattle.fc_tool.specs.{bare_program, command_of, command_with, program_of, rules_of, tasks}
use Rattle.fc_tool.specs.declared.request.Task.TheVariants.{Show}
use Rattle.fc_tool.proofs.command_line.program.Goals as goal

-- one task more has its command too
one_more : (at : ℕ) (choices dealt : ValueParser) → at < 14 → program_of (take (at + 1) tasks) choices dealt
    ≡ with_subcommand (program_of (take at tasks) choices dealt) (command_with (rules_of choices dealt (get_or tasks at Show)) (command_of (get_or tasks at Show)))
one_more at choices dealt inside =
    ap (λ tasks. program_of tasks choices dealt) (take_more tasks at Show inside)
    ∙ fold-append (λ line task. with_subcommand line (command_with (rules_of choices dealt task) (command_of task))) bare_program (take at tasks) (get_or tasks at Show ∷ [])

pub loop-at-preserved : goal.loop-at-preserved
loop-at-preserved c =
    c.in_ok-line.ensures.shape c.in_ok-command.ensures.local
    ∙ ap (λ line. with_subcommand line (shape_of c.in_ok-command.field-0)) c.loop-at.invariant
    ∙ ap (with_subcommand (program_of (take c.loop-at.at tasks) c.args.choices c.args.dealt)) c.in_ok-command.ensures.shape
    ∙ sym (one_more c.loop-at.at c.args.choices c.args.dealt c.loop-at-test.true)
