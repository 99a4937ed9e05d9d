use Rattle.std.proofs.Common.{◌↔◌, Bool, List, ℕ}
use Rattle.std.specs.List.{Contains}
use Rattle.fc_card.specs.{IsRenaming, Types.{Renaming}}
use Rattle.fc_board.specs.Games.{AscendByWord, Game, game_of, Keeps, renamings_of, RuleLaws}
use Rattle.fc_board.specs.laws.RenamingTests.{bakers_game_laws, eight_off_laws, freecell_laws}
use Rattle.fc_board.specs.declared.rule.Variant.{TheVariants.{BakersGame, EightOff, FreeCell}, Variant}
use Rattle.fc_laws.proofs.boards.each_keeping_renaming_is_listed_once.Goals as goal

-- each implementation of the rule has these laws of its own table
by_laws : {game : Game} {renamings : List Renaming} {cells count : ℕ} {kings_only : Bool} →
    RuleLaws game renamings cells count kings_only → (renaming : Renaming) →
    Contains renamings renaming ↔ (IsRenaming renaming × Keeps game renaming)
by_laws laws renaming = (
  λ listed. (laws.listed_are_renamings renaming listed, laws.listed_keep renaming listed),
  λ (is, keeps). laws.keeping_are_listed renaming is keeps,
)

exactly : (variant : Variant) (renaming : Renaming) →
    Contains (renamings_of variant) renaming ↔ (IsRenaming renaming × Keeps (game_of variant) renaming)
exactly FreeCell = by_laws freecell_laws
exactly BakersGame = by_laws bakers_game_laws
exactly EightOff = by_laws eight_off_laws

in_order : (variant : Variant) → AscendByWord (renamings_of variant)
in_order FreeCell = freecell_laws.ascend
in_order BakersGame = bakers_game_laws.ascend
in_order EightOff = eight_off_laws.ascend

pub returns : goal.returns
returns c = record { exactly = exactly; in_order = in_order }
