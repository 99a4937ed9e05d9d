use Rattle.std.proofs.Common.{◌↔◌, Contains, List, refl, ℕ}
use Rattle.fc_board.specs.{Boards.{Board, IsWellFormed}, Games.{AscendByWord, game_of, renamings_of}}
use Rattle.fc_board.specs.laws.RenamingTests.{bakers_game_laws, eight_off_laws, freecell_laws}
use Rattle.fc_board.specs.declared.rule.Variant.{TheVariants.{BakersGame, EightOff, FreeCell}, Variant}
use Rattle.fc_canon.{proofs.SymmetryLemmas.{kept-ascend, kept-exactly}, specs.{IsSymmetry, symmetries_of}}
use Rattle.fc_collect.{proofs.MemberLemmas.{member-IsWellFormed}, specs.Records.{records_of}}
use Rattle.fc_laws.proofs.collections.symmetries.each_symmetry_has_a_line.Goals as goal

-- those of a board, in each game
all_listed : (variant : Variant) (board : Board) → IsWellFormed (game_of variant) board
    → AscendByWord (symmetries_of (renamings_of variant) board)
    × ((renaming : List ℕ) → Contains (symmetries_of (renamings_of variant) board) renaming ↔ IsSymmetry (game_of variant) board renaming)
all_listed FreeCell board well = (kept-ascend freecell_laws board, λ renaming. kept-exactly freecell_laws board renaming well)
all_listed BakersGame board well = (kept-ascend bakers_game_laws board, λ renaming. kept-exactly bakers_game_laws board renaming well)
all_listed EightOff board well = (kept-ascend eight_off_laws board, λ renaming. kept-exactly eight_off_laws board renaming well)

pub returns : goal.returns
returns c variant collection member there =
    let listed = all_listed member.heading.variant member.contents.board (member-IsWellFormed variant (records_of collection) member there) in
    (symmetries_of (renamings_of member.heading.variant) member.contents.board, listed.0, listed.1, refl)
