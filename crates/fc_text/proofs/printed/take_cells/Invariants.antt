use Rattle.std.{proofs.Common.{◌++◌, ◌≡◌, All, drop, IsNone, length, List, Option, take, ℕ}, specs.List.{flat_map}}
use Rattle.{fc_board.specs.laws.ListWords.{IsCell}, fc_text.specs.Printed.{cell_word}}
use Rattle.fc_text.proofs.printed.take_cells.Given as goal

-- the first cells are taken off, and the others are empty
pub record AreTaken (text : List ℕ) (cells : List (Option ℕ)) (at : ℕ) (left : List ℕ) : Type 0 where
  pub words : text ≡ flat_map cell_word (take at cells) ++ left
  pub eight : length cells ≡ 8
  pub empty : All IsNone (drop at cells)
  pub in_deck : All IsCell (take at cells)

abbrev pub invariant-loop-at : goal.invariant-loop-at
invariant-loop-at g l = AreTaken l.initial.text.now l.cells l.at l.text.now
