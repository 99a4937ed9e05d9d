use Rattle.{fc_card.specs.{card_code}, std.proofs.{Common.{arith}, lemmas.List.FromFn.{get_or-map-range_with_len}}}
use Rattle.fc_card.proofs.card.Card.code.Goals as goal

pub returns : goal.returns
returns c =
    get_or-map-range_with_len card_code 0 52 c.from.result c.args.self.now 0 (omega (arith, c.from.ensures)) (omega (arith, c.from.ensures))
