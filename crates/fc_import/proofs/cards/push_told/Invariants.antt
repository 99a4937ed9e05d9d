use Rattle.std.{proofs.Common.{◌++◌, ◌≡◌}, specs.{List.{flat_map, list_all}, Option.{option_to_list}}}
use Rattle.fc_import.specs.{Scan.{named_card, named_cards}, Seen.{words_left}, Strips.{are_below, is_below}}
use Rattle.fc_import.proofs.cards.push_told.Given as goal

abbrev pub invariant-loop-word : goal.invariant-loop-word
invariant-loop-word g l =
    (l.cards.items ++ flat_map (λ word. option_to_list (named_card word.0.bytes)) (words_left l.word-iterator)
    ≡ l.fn.cards.items ++ named_cards l.fn.line)
    × (list_all (is_below l.strips l.has_strips l.board l.line) (words_left l.word-iterator)
    ≡ are_below l.fn.strips l.fn.board l.fn.line)
