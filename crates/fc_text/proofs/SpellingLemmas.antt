-- The printed text of a board spells it, and no other.
use Rattle.std.proofs.Common.{◌∙◌, ◌≡◌, List, subst, sym, ℕ}
use Rattle.fc_board.specs.{Boards.{Board, IsWellFormed}, Games.{Game}}
use Rattle.fc_text.{proofs.{PrintedTextLemmas.{text_spells}, ReadingLemmas.{Spells-board_of}}, specs.Printed.{text_of}}
use Rattle.fc_text.specs.Spelling.{Spells}

-- a text that is printed of a well-formed board spells it
pub spelled : (game : Game) (board : Board) (text : List ℕ) → IsWellFormed game board → text ≡ text_of board → Spells game text board
spelled game board text well is = subst (λ ys. Spells game ys board) (sym is) (text_spells game board well)

pub same_board : (game : Game) (a b : Board) → IsWellFormed game a → IsWellFormed game b → text_of a ≡ text_of b → a ≡ b
same_board game a b p q e =
    Spells-board_of game (text_of b) a (subst (λ text. Spells game text a) e (text_spells game a p)) ∙ sym (Spells-board_of game (text_of b) b (text_spells game b q))
