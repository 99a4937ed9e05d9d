use Rattle.{fc_import.specs.Import.{IsNoBoard}, std.proofs.{Common.{inl, inr}, lemmas.List.Elements.{All-contains}}}
use Rattle.fc_text.specs.Lines.{lines_from, Piece}
use Rattle.fc_import.proofs.laws.a_board_between_lists_is_not_passed_over.Goals as goal

pub returns : goal.returns
returns c game piece line before after there other (inl none) = none
returns c game piece line before after there other (inr (same, none)) = absurd (other (All-contains (λ (line : Piece). IsNoBoard game line.bytes) (lines_from 0 piece) line none there))
