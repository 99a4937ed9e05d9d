use Rattle.std.proofs.{Common.{◌≡◌, true}, lemmas.Bool.{and_parts}}
use Rattle.std.proofs.lemmas.List.{Elements.{All-contains}, Sums.{AllPass-from_list_all}}
use Rattle.{fc_import.specs.Strips.{has_no_groups}, fc_text.specs.Lines.{lines_from, Piece}}
use Rattle.fc_import.proofs.laws.cards_are_dealt_in_no_groups.Goals as goal

pub returns-clause-parted : goal.returns-clause-parted
returns-clause-parted c piece board line told there =
    let groups = (and_parts _ _ (and_parts _ _ told).0).1 in
    All-contains (λ (it : Piece). has_no_groups it.bytes ≡ true) (lines_from 0 piece) line (AllPass-from_list_all (λ it. has_no_groups it.bytes) (lines_from 0 piece) groups) there
