-- What an import writes is a collection that `show` takes as it is, if it passes no limit.
use Rattle.std.proofs.Common.{◌++◌, ◌∙◌, ◌∷◌, ◌≡◌, [], All, ap, append-nil, append_assoc, arith, length, List, None}
use Rattle.std.proofs.{Common.{Option, refl, subst, subst₂, suc, sym, ℕ}, lemmas.List.Elements.{All-cons, All-nil}}
use Rattle.std.specs.List.{flat_map}
use Rattle.fc_board.specs.{Boards.{Board}, declared.rule.Variant.{Variant}, Games.{game_of}, Moves.{MoveList}}
use Rattle.{fc_record.specs.Printing.{header_text, list_line}, fc_text.specs.Printed.{text_of}}
use Rattle.fc_collect.proofs.MemberLemmas.{CanPrint}
use Rattle.fc_collect.proofs.ShownAgainLemmas.{CanShow, Entry, entry_text, few_entries, shown_again}
use Rattle.fc_collect.specs.{Limits.{standard}, Promises.{IsWithinLimits}}
use Rattle.fc_import.proofs.PrintedAgainLemmas.{a_record, given, its_list, no_more, PrintedTo, written_so_far}
use Rattle.fc_import.{proofs.PrintedLemmas.{legal_fits}, specs.{Import.{Imported, IsShown}, Notes.{State}}}
use Rattle.fc_import.specs.declared.options.ImportOptions.{ImportOptions}

module _ (variant : Variant) where
  -- the lists of the board before, and so many records
  record Follows (text : List ℕ) (many : ℕ) : Type 0 where
    pub lists : List MoveList
    pub entries : List Entry
    pub can : All (CanPrint (game_of variant)) lists
    pub are : All (CanShow variant) entries
    pub text_is : text ≡ flat_map list_line lists ++ flat_map (entry_text variant) entries
    pub length_is : length entries ≡ many

  -- one more before them
  abbrev one_before : (name : List ℕ) (board : Board) (rest : List ℕ) (many : ℕ) (more : Follows rest many)
      → CanShow variant (record { name = name; contents = record { board = board; lists = more.lists } })
      → Follows (header_text variant name ++ (text_of board ++ rest)) (suc many)
  one_before name board rest many more can = record {
    lists = [];
    entries = record { name = name; contents = record { board = board; lists = more.lists } } ∷ more.entries;
    can = All-nil (CanPrint (game_of variant));
    are = All-cons (CanShow variant) _ more.entries can more.are;
    text_is =
        let lists = flat_map list_line more.lists in
        let entries = flat_map (entry_text variant) more.entries in
        ap (λ rest. header_text variant name ++ (text_of board ++ rest)) more.text_is
        ∙ ap (λ rest. header_text variant name ++ rest) (sym (append_assoc (text_of board) lists entries))
        ∙ sym (append_assoc (header_text variant name) (text_of board ++ lists) entries);
    length_is = ap suc more.length_is;
  }

  abbrev follows : {first last : Option Board} {text : List ℕ} {many : ℕ}
      → PrintedTo variant (game_of variant) first text last many → Follows text many
  follows (no_more board) =
      record { lists = []; entries = []; can = All-nil (CanPrint (game_of variant)); are = All-nil (CanShow variant); text_is = refl; length_is = refl }
  follows (a_record first last many name board rest one well printed) =
      let more = follows printed in
      one_before name board rest many more (record { given = given name one; well = well; lists = more.can })
  follows (its_list last many board list rest legal few printed) =
      let more = follows printed in
      record {
        lists = list ∷ more.lists;
        entries = more.entries;
        can = All-cons (CanPrint (game_of variant)) list more.lists (legal_fits (game_of variant) board list legal, few) more.can;
        are = more.are;
        text_is = ap (λ rest. list_line list ++ rest) more.text_is
            ∙ sym (append_assoc (list_line list) (flat_map list_line more.lists) (flat_map (entry_text variant) more.entries));
        length_is = more.length_is;
      }

  -- of no board no list comes first
  none_before : {last : Option Board} {text : List ℕ} {many : ℕ}
      → (printed : PrintedTo variant (game_of variant) None text last many) → (follows printed).lists ≡ []
  none_before (no_more board) = refl
  none_before (a_record first last many name board rest one well printed) = refl

  -- the records are as many as the boards that were taken
  pub written_shown : {options : ImportOptions} {text : List ℕ} {state : State} {written said : List ℕ}
      → Imported variant options (game_of variant) text state written said → IsWithinLimits standard written
      → IsShown variant written state.tally.boards
  written_shown {state = state} {written = written} imported within =
      let so_far = written_so_far imported in
      let after = follows so_far.printed in
      let whole : flat_map (entry_text variant) after.entries ≡ written =
      ap (λ lists. flat_map list_line lists ++ flat_map (entry_text variant) after.entries) (sym (none_before so_far.printed))
      ∙ sym after.text_is in
      let few = few_entries variant after.entries in
      let boards : length after.entries ≡ state.tally.boards =
      omega (arith, within.bytes, few, ap length whole, so_far.tallied, after.length_is) in
      subst₂ (λ text records. IsShown variant text records) whole boards
      (shown_again variant after.entries after.are (subst (IsWithinLimits standard) (sym whole) within))

-- what is shown passes no limit
pub shown_within : (variant : Variant) (text : List ℕ) (records : ℕ) → IsShown variant text records
    → IsWithinLimits standard text
shown_within variant text records shown =
    subst (IsWithinLimits standard) (sym (shown.consumed ∙ append-nil shown.read)) shown.fits.1.within
