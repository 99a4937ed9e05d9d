use Rattle.std.proofs.Common.{◌≡◌, All, length, map, take}
use Rattle.{fc_bytes.specs.inside.{card_byte}, fc_card.specs.{IsCode}}
use Rattle.fc_bytes.proofs.laid.bytes_of_laid.Given as goal

abbrev pub invariant-loop-place : goal.invariant-loop-place
invariant-loop-place l = record {
  long : length l.bytes ≡ 80;
  written : take l.place l.bytes ≡ map card_byte (take l.place l.cards);
  codes : All IsCode l.bytes;
}
