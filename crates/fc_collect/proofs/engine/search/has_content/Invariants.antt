-- No line so far holds something.
use Rattle.std.{proofs.Common.{◌≡◌, not}, specs.List.{list_any}}
use Rattle.{fc_collect.specs.Records.{has_content}, fc_text.specs.{Left.{lines_left}, Rows.{is_empty, line_of}}}
use Rattle.fc_collect.proofs.engine.search.has_content.Given as goal

abbrev pub invariant-loop-line : goal.invariant-loop-line
invariant-loop-line l = has_content l.fn.bytes ≡ list_any (λ line. not (is_empty (line_of line))) (lines_left l.line-iterator)
