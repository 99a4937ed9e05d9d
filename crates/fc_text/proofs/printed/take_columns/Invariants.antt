use Rattle.std.{proofs.Common.{◌*◌, ◌++◌, ◌+◌, ◌≡◌, ◌≤◌, All, drop, length, List, take, ℕ}, specs.List.{flat_map}}
use Rattle.{fc_board.{proofs.ColumnsLemmas.{AreLaid}, specs.inside.{size_of}}, fc_card.specs.{AreBitsOf, IsCard}}
use Rattle.fc_text.specs.Printed.{column_line}
use Rattle.fc_text.proofs.printed.take_columns.Given as goal

-- the first columns are read, and laid
pub record AreTaken (text cards ends : List ℕ) (at count most bits : ℕ) : Type 0 where
  pub columns : List (List ℕ)
  pub laid : AreLaid columns cards ends at count
  pub few : count ≤ most
  pub bits_are : AreBitsOf (take count cards) bits
  pub many : length columns ≡ at
  pub in_deck : All (All IsCard) columns
  pub counted : count ≡ size_of columns
  pub lines : text ≡ flat_map column_line columns ++ drop (2 * at + 3 * count) text

abbrev pub invariant-loop-at : goal.invariant-loop-at
invariant-loop-at l = AreTaken l.lines l.cards l.ends l.at l.laid.count l.most l.laid.bits
