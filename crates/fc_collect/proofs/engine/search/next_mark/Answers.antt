use Rattle.{memchr.specs.Find.{is_byte, IsFirstByte}, std.proofs.Common.{arith, None, Some, subst}}
use Rattle.{fc_record.specs.RecordTexts.{header_mark}, fc_text.proofs.LeavingLemmas.{rest_of}}
use Rattle.fc_collect.proofs.WalkLemmas.{PassesNoHeader-found, PassesNoHeader-none_found}
use Rattle.fc_collect.proofs.engine.search.next_mark.Goals as goal

pub returns-in-Some-clause-passed : goal.returns-in-Some-clause-passed
returns-in-Some-clause-passed c =
    PassesNoHeader-found c.args.bytes.now c.args.from (omega (arith, c.requires)) c.in-Some.ahead
    (subst (λ rest. IsFirstByte (is_byte header_mark) rest (Some c.in-Some.ahead)) (rest_of c.args.bytes.now c.args.from) c.in-Some.ensures)

pub returns-in-None-clause-passed : goal.returns-in-None-clause-passed
returns-in-None-clause-passed c =
    PassesNoHeader-none_found c.args.bytes.now c.args.from (omega (arith, c.requires))
    (subst (λ rest. IsFirstByte (is_byte header_mark) rest None) (rest_of c.args.bytes.now c.args.from) c.in-None.ensures)
