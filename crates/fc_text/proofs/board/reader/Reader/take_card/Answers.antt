use Rattle.{fc_text.proofs.CardLemmas.{card_spelled-IsCard}, std.proofs.Common.{sym}}
use Rattle.fc_text.proofs.board.reader.Reader.take_card.Goals as goal

pub put_card-requires : goal.put_card-requires
put_card-requires g c = card_spelled-IsCard c.args.word.now _ (sym c.in-Some.ensures)

pub returns : goal.returns
returns g c = record { taken = c.put_card.ensures.taken c.args.word.now (sym c.in-Some.ensures) }
