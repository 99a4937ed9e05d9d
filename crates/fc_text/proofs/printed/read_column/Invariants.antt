use Rattle.std.proofs.Common.{◌*◌, ◌++◌, ◌+◌, ◌-◌, ◌≡◌, ◌≤◌, drop, length, List, slice_range, take, ℕ}
use Rattle.std.specs.List.{flat_map}
use Rattle.{fc_card.specs.{AreBitsOf}, fc_text.specs.Printed.{card_word}}
use Rattle.fc_text.proofs.printed.read_column.Given as goal

-- after the colon the first words are the cards from the start to this place, and the cards before the start are as they were
pub record AreTaken (text old cards : List ℕ) (start count most bits_before bits : ℕ) : Type 0 where
  pub words_are : drop (3 * start + 1) text ≡ flat_map card_word (slice_range cards start count) ++ drop (3 * count + 1) text
  pub up : start ≤ count
  pub few : count ≤ most
  pub deck : length cards ≡ 52
  pub before : take start cards ≡ take start old
  pub bits_are : AreBitsOf (take start old) bits_before → AreBitsOf (take count cards) bits

abbrev pub invariant-loop-count : goal.invariant-loop-count
invariant-loop-count l = AreTaken l.text l.fn.cards l.cards l.fn.before.count l.count l.most l.fn.before.bits l.bits

abbrev pub decreases-loop-count : goal.decreases-loop-count
decreases-loop-count l = l.most - l.count
