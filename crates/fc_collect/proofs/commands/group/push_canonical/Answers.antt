use Rattle.{fc_board.specs.Games.{game_of}, std.proofs.{Common.{refl}, lemmas.Result.{on_ok_weaker}}}
use Rattle.fc_board.specs.declared.rule.Variant.TheVariants.{BakersGame, EightOff, FreeCell}
use Rattle.fc_collect.proofs.KeyedLemmas.{key-printed}
use Rattle.fc_collect.proofs.commands.group.push_canonical.Goals as goal

pub returns-in-FreeCell : goal.returns-in-FreeCell
returns-in-FreeCell c = record {
  printed = on_ok_weaker c.push_text.result (λ printed member has own. key-printed (game_of FreeCell) FreeCell c.args.key.now c.args.out.now.items _ member refl c.in-FreeCell.is printed has own) c.push_text.ensures.printed;
}

pub returns-in-BakersGame : goal.returns-in-BakersGame
returns-in-BakersGame c = record {
  printed = on_ok_weaker c.push_text-in-BakersGame.result (λ printed member has own. key-printed (game_of BakersGame) BakersGame c.args.key.now c.args.out.now.items _ member refl c.in-BakersGame.is printed has own) c.push_text-in-BakersGame.ensures.printed;
}

pub returns-in-EightOff : goal.returns-in-EightOff
returns-in-EightOff c = record {
  printed = on_ok_weaker c.push_text-in-EightOff.result (λ printed member has own. key-printed (game_of EightOff) EightOff c.args.key.now c.args.out.now.items _ member refl c.in-EightOff.is printed has own) c.push_text-in-EightOff.ensures.printed;
}
