use Rattle.{fc_card.specs.{IsCode}, std.proofs.{Common.{arith, refl}, lemmas.List.Elements.{All-replicate}}}
use Rattle.fc_bytes.proofs.laid.bytes_of_laid.Goals as goal

pub loop-place-init : goal.loop-place-init
loop-place-init c = record { long = refl; written = refl; codes = All-replicate IsCode 80 0 (omega arith) }
