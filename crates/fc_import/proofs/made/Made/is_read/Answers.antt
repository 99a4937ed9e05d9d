use Rattle.std.proofs.Common.{◌∙◌, sym}
use Rattle.fc_import.specs.Import.{laid, spelled}
use Rattle.fc_import.proofs.made.Made.is_read.Goals as goal

pub returns-then-is_laid : goal.returns-then-is_laid
returns-then-is_laid g c = λ is.
    laid c.args.layout (sym c.may_be.ensures ∙ c.if-may_be.true) c.requires.told (c.in_ok-is_laid.ensures c.if-is_laid.true)

pub returns : goal.returns
returns g c = λ is. spelled (sym c.may_be-2.ensures ∙ c.if-not-may_be.false) (c.requires.spelled is)
