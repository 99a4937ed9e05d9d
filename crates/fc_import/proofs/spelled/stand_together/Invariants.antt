use Rattle.std.{proofs.Common.{◌≡◌}, specs.Prelude.{false}}
use Rattle.{fc_import.specs.Import.{stand_together}, fc_text.specs.{Left.{lines_left}, Lines.{lines_from}}}
use Rattle.fc_import.proofs.spelled.stand_together.Given as goal

-- what is left is to be so by what came before
abbrev pub invariant-loop-line : goal.invariant-loop-line
invariant-loop-line l =
    stand_together l.is_begun l.is_parted (lines_left l.line-iterator) ≡ stand_together false false (lines_from 0 l.lines)
