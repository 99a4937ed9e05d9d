-- Values by game, where the game is known only as the program runs.
use Rattle.fc_board.specs.{declared.rule.Variant.{Variant}, Games.{Game, game_of}}
use Rattle.fc_collect.specs.declared.groups.by_game.ByGame.{ByGame, TheVariants.{BakersGame}}
use Rattle.fc_collect.specs.declared.groups.by_game.ByGame.TheVariants.{EightOff, FreeCell}
use Rattle.fc_board.specs.declared.rule.Variant.TheVariants as variant

abbrev pub held : {A : Type 0} → ByGame A A A → A
held (FreeCell value) = value
held (BakersGame value) = value
held (EightOff value) = value

-- the variant that names the game
abbrev pub variant_of : {F B E : Type 0} → ByGame F B E → Variant
variant_of (FreeCell value) = variant.FreeCell
variant_of (BakersGame value) = variant.BakersGame
variant_of (EightOff value) = variant.EightOff

abbrev pub game_held : {F B E : Type 0} → ByGame F B E → Game
game_held value = game_of (variant_of value)
