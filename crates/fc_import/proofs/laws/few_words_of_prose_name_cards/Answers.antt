use Rattle.std.proofs.Common.{◌*◌, ◌≤◌, arith}
use Rattle.fc_import.specs.Import.{of_moves, of_words}
use Rattle.fc_import.proofs.laws.few_words_of_prose_name_cards.Goals as goal

few : 2 * 2 ≤ 4
few = omega arith

pub returns-clause-half : goal.returns-clause-half
returns-clause-half c = few

pub returns-clause-more : goal.returns-clause-more
returns-clause-more c = λ (few : 2 * 2 ≤ 3). omega (arith, few)

pub returns-clause-cards : goal.returns-clause-cards
returns-clause-cards c (of_moves list) = absurd (cc)
returns-clause-cards c (of_words few) = absurd (let some : 2 * 3 ≤ 3 = few in omega (arith, some))
