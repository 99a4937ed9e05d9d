use Rattle.fc_board.proofs.{RenamingLemmas.{fills-renamed_card}, RunPlayLemmas.{run_step-carried, run_step-there}}
use Rattle.fc_laws.proofs.boards.carried.run_steps_are_carried.Goals as goal

pub returns : goal.returns
returns g c = λ passage board other token is well.
    let laws = g.met.R.Rule.rule_laws in
    let fill = fills-renamed_card laws in (
      λ step. run_step-there is fill board other token well step,
      λ (after, step, there). rw there (run_step-carried is fill board after token well step),
    )
