use Rattle.std.proofs.{Common.{◌+◌, ◌∙◌, ap, subst, sym}, lemmas.{List.{length-map}, Option.{same_Some}}}
use Rattle.{fc_canon.proofs.SymmetryLemmas.{at_most_24}, fc_laws.proofs.ClassHashLemmas.{sums_kept, sums_read}}
use Rattle.fc_bytes.specs.class_hash.{AreMoved, class_sum, class_sums, hash_of_sums, lies_on, put_onto}
use Rattle.fc_laws.proofs.class_hashes.sums_stay_those_of_the_board.Goals as goal

pub returns-clause-moved : goal.returns-clause-moved
returns-clause-moved g c = λ board after move card old new well step found are moved.
    let renamings = g.R.Rule.renamings in
    sums_kept g.R.Rule.game renamings board after move step old new well (at_most_24 g.met.R.Rule.rule_laws) are
    (subst (λ card. AreMoved renamings (card + 1) (lies_on board move.from) (put_onto board move.to) old new)
    (sym (same_Some step.card card (sym step.offered.1 ∙ found))) moved)

pub returns-clause-hash : goal.returns-clause-hash
returns-clause-hash g c = λ board sums are.
    let renamings = g.R.Rule.renamings in
    ap hash_of_sums (sums_read renamings (class_sums renamings board) sums (length-map renamings (class_sum board)) are)
