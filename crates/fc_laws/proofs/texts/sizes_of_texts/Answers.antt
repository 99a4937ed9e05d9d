use Rattle.{fc_text.proofs.TextLemmas.{length-text_of}, std.proofs.Common.{arith}}
use Rattle.fc_laws.proofs.texts.sizes_of_texts.Goals as goal

pub returns-clause-shortest_of_four : goal.returns-clause-shortest_of_four
returns-clause-shortest_of_four c = λ game board four well. let bounds = length-text_of game board well in omega arith

pub returns-clause-longest_of_four : goal.returns-clause-longest_of_four
returns-clause-longest_of_four c = λ game board four well. let bounds = length-text_of game board well in omega arith

pub returns-clause-shortest_of_eight : goal.returns-clause-shortest_of_eight
returns-clause-shortest_of_eight c = λ game board eight well. let bounds = length-text_of game board well in omega arith

pub returns-clause-longest_of_eight : goal.returns-clause-longest_of_eight
returns-clause-longest_of_eight c = λ game board eight well. let bounds = length-text_of game board well in omega arith
