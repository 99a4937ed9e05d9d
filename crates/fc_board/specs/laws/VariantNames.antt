-- Each variant names its game.
use Rattle.{fc_board.specs.Games.{game_of, Names, renamings_of}, std.proofs.Common.{ap, sym}}
use Rattle.fc_board.specs.declared.rule.Variant.{Variant}

pub names : (variant : Variant) → Names variant (game_of variant) (renamings_of variant)
names variant = record { game_is = λ other same. ap game_of (sym same); renamings_are = λ other same. ap renamings_of (sym same) }
