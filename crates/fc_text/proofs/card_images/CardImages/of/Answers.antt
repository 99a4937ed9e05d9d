use Rattle.{fc_card.specs.{IsRenaming}, std.proofs.Common.{arith, rules}}
use Rattle.fc_text.proofs.BoardViewLemmas.{numbers-renamed, renamed-AreNumbers}
use Rattle.fc_text.proofs.card_images.CardImages.of.Goals as goal

pub cards_numbered-requires : goal.cards_numbered-requires
cards_numbered-requires c =
    let renames : IsRenaming c.args.renaming = search rules in
    record {
      numbers = renamed-AreNumbers c.args.renaming _ renames (λ card is. numbers-renamed c.args.renaming _ _ card c.numbers-numbers.ensures.size (c.numbers-numbers.ensures.cards card is) c.rename_lanes.ensures is);
    }

pub invariant_of-result : goal.invariant_of-result
invariant_of-result c = λ card is.
    let number = numbers-renamed c.args.renaming _ _ card c.numbers-numbers.ensures.size (c.numbers-numbers.ensures.cards card is) c.rename_lanes.ensures is in
    let taken = c.cards_numbered.ensures card is in
    omega (arith, number, taken)
