use Rattle.{fc_import.proofs.StrictLemmas.{can_be_silent, can_be_unsaid}, std.proofs.Common.{refl}}
use Rattle.fc_import.proofs.laws.columns_are_dealt_or_built.Goals as goal

pub returns-clause-said : goal.returns-clause-said
returns-clause-said c = λ variant game state next piece written reading board some is.
    can_be_silent reading refl some board is

pub returns-clause-unsaid : goal.returns-clause-unsaid
returns-clause-unsaid c = λ variant game state next piece written said reading other board some is.
    can_be_unsaid reading other some board is
