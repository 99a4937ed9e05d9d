use Rattle.std.{proofs.Common.{◌≡◌}, specs.{List.{flat_map}, Option.{option_to_list}}}
use Rattle.fc_import.specs.{Scan.{named_card, named_cards}, Seen.{words_left}}
use Rattle.fc_import.proofs.cards.first_card.Given as goal

-- the words before name no card
abbrev pub invariant-loop-word : goal.invariant-loop-word
invariant-loop-word l = flat_map (λ word. option_to_list (named_card word.0.bytes)) (words_left l.word-iterator) ≡ named_cards l.line
