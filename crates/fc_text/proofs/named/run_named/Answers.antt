use Rattle.std.{proofs.Common.{◌∙◌, ap, sym}, specs.Option.{option_and_then}}
use Rattle.fc_text.proofs.RunTokenLemmas.{no_move_read, no_suffix_read, suffix_read}
use Rattle.fc_text.specs.reader.{as_run, with_count}
use Rattle.fc_text.proofs.named.run_named.Goals as goal
use Rattle.fc_text.proofs.named.run_named.Goals.{else-word-eq4-via-else-word-eq4}
use Rattle.fc_text.proofs.named.run_named.Goals.{else-word-eq4-via-then-word-eq4+else-is_count_letter}

pub returns-in_err-count : goal.returns-in_err-count
returns-in_err-count g c =
    c.from_residual-in_err-count.ensures
    ∙ ap (option_and_then (with_count (as_run c.in_ok-mv.mv))) (sym c.in_err-count.was ∙ c.count_named.ensures)
    ∙ sym (suffix_read g.R.Rule.game c.args.word.now _ c.in_ok-mv.mv _ c.if-word-eq4.true c.is_count_letter.ensures c.if-is_count_letter.true
    c.to_ascii_lowercase.ensures.value (sym c.move_named.ensures ∙ c.in_ok-mv.was))

pub returns-then-is_count_letter : goal.returns-then-is_count_letter
returns-then-is_count_letter g c =
    c.with_count.ensures ∙ ap (λ run. with_count run c.in_ok-count.count) c.as_run.ensures
    ∙ ap (option_and_then (with_count (as_run c.in_ok-mv.mv))) (sym c.in_ok-count.was ∙ c.count_named.ensures)
    ∙ sym (suffix_read g.R.Rule.game c.args.word.now _ c.in_ok-mv.mv _ c.if-word-eq4.true c.is_count_letter.ensures c.if-is_count_letter.true
    c.to_ascii_lowercase.ensures.value (sym c.move_named.ensures ∙ c.in_ok-mv.was))

pub returns-in_err-mv-2 : goal.returns-in_err-mv-2
returns-in_err-mv-2 g c =
    c.from_residual-in_err-mv-2.ensures
    ∙ sym (elim c.else-word-eq4.branch [
      | else-word-eq4-via-then-word-eq4+else-is_count_letter w ↦
          no_suffix_read g.R.Rule.game c.args.word.now _ w.if-word-eq4.true w.is_count_letter.ensures w.if-is_count_letter.false
      | else-word-eq4-via-else-word-eq4 w ↦ no_move_read g.R.Rule.game c.args.word.now w.if-word-eq4.false (sym c.move_named-2.ensures ∙ c.in_err-mv-2.was)
    ])
