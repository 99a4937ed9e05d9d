use Rattle.fc_board.specs.{Boards.{Board, IsWellFormed}, Games.{game_of, renamings_of}}
use Rattle.fc_board.specs.laws.RenamingTests.{bakers_game_laws, eight_off_laws, freecell_laws}
use Rattle.fc_board.specs.declared.rule.Variant.{TheVariants.{BakersGame, EightOff, FreeCell}, Variant}
use Rattle.fc_canon.{proofs.LeastTextLemmas.{least_text-Canonical}, specs.{Canonical, least_text}}
use Rattle.fc_collect.proofs.KeyedLemmas.{chosen}
use Rattle.fc_laws.proofs.collections.lines.canonical_lines_are_canonical.Goals as goal

text : (variant : Variant) (board : Board) → IsWellFormed (game_of variant) board
    → Canonical (game_of variant) board (least_text (renamings_of variant) board)
text FreeCell = least_text-Canonical freecell_laws
text BakersGame = least_text-Canonical bakers_game_laws
text EightOff = least_text-Canonical eight_off_laws

pub returns-clause-text : goal.returns-clause-text
returns-clause-text c = text

pub returns-clause-passage : goal.returns-clause-passage
returns-clause-passage c = chosen
