use Rattle.std.proofs.{Common.{◌+◌, ◌∙◌, ap, subst, sym}, lemmas.Option.{same_Some}}
use Rattle.fc_bytes.specs.class_hash.{CanMove, class_sum, lies_on, moved_sum, put_onto}
use Rattle.fc_laws.proofs.ClassHashLemmas.{can_move, sum_after}
use Rattle.fc_laws.proofs.class_hashes.moves_change_one_term.Goals as goal

pub returns-clause-sums : goal.returns-clause-sums
returns-clause-sums g c = λ board after move card renaming well step found.
    sum_after g.R.Rule.game board well after move step renaming
    ∙ ap (λ card. moved_sum (card + 1) (lies_on board move.from) (put_onto board move.to) renaming
    (class_sum board renaming))
    (same_Some step.card card (sym step.offered.1 ∙ found))

pub returns-clause-numbers : goal.returns-clause-numbers
returns-clause-numbers g c = λ board after move card well step found.
    subst (λ card. CanMove (card + 1) (lies_on board move.from) (put_onto board move.to))
    (same_Some step.card card (sym step.offered.1 ∙ found))
    (can_move g.R.Rule.game board well after move step)
