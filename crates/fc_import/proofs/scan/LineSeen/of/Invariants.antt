use Rattle.std.{proofs.Common.{◌&&◌, ◌++◌, ◌+◌, ◌-◌, ◌^◌, ◌≡◌, ◌≤◌, length, min}, specs.List.{flat_map, list_all}}
use Rattle.std.specs.Option.{option_to_list}
use Rattle.fc_import.specs.{Scan.{cards_in, is_number, named_card, words_of}, Seen.{cards_of, words_left}}
use Rattle.fc_import.proofs.scan.LineSeen.of.Given as goal

abbrev pub invariant-loop-word : goal.invariant-loop-word
invariant-loop-word l = record {
  cards : cards_of l.placed.items ++ flat_map (λ word. option_to_list (named_card word.0.bytes)) (words_left l.word-iterator) ≡ cards_of l.fn.placed.items ++ cards_in l.line;
  words : min (l.words + length (words_left l.word-iterator)) (2 ^ 64 - 1) ≡ min (length (words_of l.line)) (2 ^ 64 - 1);
  small : l.words ≤ 2 ^ 64 - 1;
  numbers : (l.numbers && list_all (λ word. is_number word.0.bytes) (words_left l.word-iterator)) ≡ list_all (λ word. is_number word.0.bytes) (words_of l.line);
}
