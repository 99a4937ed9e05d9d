use Rattle.std.{proofs.Common.{◌+◌, ◌∙◌, ap, drop, sym}, specs.List.{prefix_len}}
use Rattle.fc_text.{proofs.LineLemmas.{lines_join, one_return_cut}, specs.{Bytes.{is_gap}, Rows.{line_of_front}}}
use Rattle.fc_laws.proofs.texts.rows.lines_join.Goals as goal

pub returns-clause-joined : goal.returns-clause-joined
returns-clause-joined c = lines_join

pub returns-clause-returns : goal.returns-clause-returns
returns-clause-returns c = λ start bytes e.
    ap (λ line. line_of_front (start + prefix_len is_gap line) (drop (prefix_len is_gap line) line)) (one_return_cut bytes ∙ sym e)
