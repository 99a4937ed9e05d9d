use Rattle.std.{proofs.Common.{[], ap, sym}, specs.Option.{option_or}}
use Rattle.fc_text.proofs.{KnownLemmas.{same_first_fault}, SoundLemmas.{Sound-nil}}
use Rattle.fc_text.specs.Faults.{items_of, missing_card}
use Rattle.fc_laws.proofs.texts.reading.one_pass_finds_the_first_fault.Goals as goal

pub returns : goal.returns
returns c = λ game text. ap (λ o. option_or o (missing_card text)) (sym (same_first_fault game [] (items_of text) (Sound-nil game)))
