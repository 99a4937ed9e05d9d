-- What canon prints for a record is read as its canonical board with the images of its lists.
use Rattle.std.proofs.Common.{◌++◌, ◌+◌, ◌∙◌, ◌∷◌, ◌≡◌, ◌≤◌, [], All, ap, append_assoc, ap₂, arith, codes, length, List}
use Rattle.std.proofs.Common.{map, refl, slice_index, subst, sym, ℕ}
use Rattle.std.proofs.lemmas.List.{Elements.{All-append, All-cons, All-head, All-nil, All-tail, All-weaker}, length-map}
use Rattle.std.specs.List.{flat_map}
use Rattle.fc_card.specs.{renaming_text, suit_letter, suit_letters}
use Rattle.fc_board.proofs.CarriedLemmas.{carried-IsWellFormed}
use Rattle.fc_board.proofs.ImageLemmas.{images-Fit, images-identity, run_images-Fit, run_images-identity}
use Rattle.fc_board.{proofs.PassageLemmas.{carried-identity}, specs.Boards.{Board, IsWellFormed}}
use Rattle.fc_board.specs.Games.{Game, game_of, renamings_of}
use Rattle.fc_board.specs.laws.RenamingTests.{bakers_game_laws, eight_off_laws, freecell_laws}
use Rattle.fc_board.specs.Moves.{list_image, ListFits, MoveList, OneCard, Runs}
use Rattle.fc_board.specs.Passages.{carried, carried_move, carried_run, identity_passage, IsPassage, Passage}
use Rattle.fc_board.specs.declared.rule.Variant.{TheVariants.{BakersGame, EightOff, FreeCell}, Variant}
use Rattle.fc_text.proofs.{BlankLineLemmas.{begins_comment, spelled_with_comment}, LineLemmas.{first_line, InLine}}
use Rattle.fc_text.{proofs.PrintedTextLemmas.{text_spells}, specs.{Bytes.{number_sign}, Lines.{lines_from}}}
use Rattle.fc_text.specs.{Notation.{cell_letters, column_digits}, Printed.{text_of}}
use Rattle.fc_canon.proofs.{CanonicalLemmas.{Canonical-equivalent}, LeastTextLemmas.{identity-Chosen, one_chosen}}
use Rattle.fc_canon.specs.{Canonical, Chosen, chosen_passage, least_text}
use Rattle.fc_record.proofs.{HeadingLemmas.{heading_said}, PrintedPartLemmas.{IsPlain, lines_of_board}}
use Rattle.fc_record.proofs.TextLineLemmas.{AreLines-append, AreLines-line, lines_after}
use Rattle.fc_record.specs.Grammar.{Accepted, begins_with, Contents, Reading}
use Rattle.fc_record.specs.Printing.{canon_lines, heading_line, image_line, list_line, passage_line, printed}
use Rattle.fc_record.specs.RecordTexts.{header_mark}
use Rattle.fc_collect.proofs.{AcceptanceLemmas.{Says-from_accepted}, HeaderSaysLemmas.{ok-from_HeaderSays}}
use Rattle.fc_collect.proofs.KeyedLemmas.{canonical-IsWellFormed, chosen, text_is}
use Rattle.fc_collect.proofs.MemberLemmas.{CanPrint, IsSaid, lists_can, members-said}
use Rattle.fc_collect.proofs.PrintedRecordLemmas.{board_first, heading_again, lines-IsReadAs, printed_heading}
use Rattle.fc_collect.proofs.{PrintedRecordLemmas.{printed_variant}, ReadAgainLemmas.{all_again, AreReadAs}}
use Rattle.fc_collect.proofs.ReadAgainLemmas.{codes_in_line, IsReadAs, letter_in_line, ReadsAgain, same_printed, Stays}
use Rattle.fc_collect.specs.{Groups.{canonical_text, Member, members_among, passage_of}, Limits.{most_countable}}
use Rattle.fc_collect.specs.Records.{has_content, output_of_records, records_of}

-- ---- the line of the passage

letters_in_line : (letter : ℕ → ℕ) → ((place : ℕ) → InLine (letter place)) → (places : List ℕ) → All InLine (map letter places)
letters_in_line letter each [] = All-nil InLine
letters_in_line letter each (place ∷ places) = All-cons InLine (letter place) (map letter places) (each place) (letters_in_line letter each places)

-- what is on it after the number sign
abbrev words_of_passage : Passage → List ℕ
words_of_passage passage =
    codes " renaming " ++ renaming_text passage.renaming ++ codes " columns " ++ map (slice_index column_digits) passage.columns
    ++ codes " cells " ++ map (slice_index cell_letters) passage.cells

passage_in_line : (passage : Passage) → All InLine (words_of_passage passage)
passage_in_line passage =
    let renaming = letters_in_line suit_letter (letter_in_line suit_letters (codes_in_line suit_letters refl)) passage.renaming in
    let columns = letters_in_line (slice_index column_digits) (letter_in_line column_digits (codes_in_line column_digits refl)) passage.columns in
    let cells = letters_in_line (slice_index cell_letters) (letter_in_line cell_letters (codes_in_line cell_letters refl)) passage.cells in
    let named = codes " renaming " ++ renaming_text passage.renaming in
    let placed = named ++ codes " columns " ++ map (slice_index column_digits) passage.columns in
    let named_in_line = All-append InLine (codes " renaming ") (renaming_text passage.renaming) (codes_in_line (codes " renaming ") refl) renaming in
    let up_to_columns = All-append InLine named (codes " columns ") named_in_line (codes_in_line (codes " columns ") refl) in
    let placed_in_line = All-append InLine (named ++ codes " columns ") _ up_to_columns columns in
    let up_to_cells = All-append InLine placed (codes " cells ") placed_in_line (codes_in_line (codes " cells ") refl) in
    All-append InLine (placed ++ codes " cells ") _ up_to_cells cells

-- ---- the images of lists

pub image_can : (game : Game) (passage : Passage) → IsPassage game passage → (list : MoveList) → CanPrint game list
    → CanPrint game (list_image passage list)
image_can game passage is (OneCard moves) (fits, short) =
    (images-Fit game passage.columns passage.cells moves is.orders fits, omega (arith, short, length-map moves (carried_move passage)))
image_can game passage is (Runs moves) (fits, short) =
    (run_images-Fit game passage.columns passage.cells moves is.orders fits, omega (arith, short, length-map moves (carried_run passage)))

images_can : (game : Game) (passage : Passage) → IsPassage game passage → (lists : List MoveList) → All (CanPrint game) lists
    → All (CanPrint game) (map (list_image passage) lists)
images_can game passage is [] can = All-nil (CanPrint game)
images_can game passage is (list ∷ lists) can =
    All-cons (CanPrint game) (list_image passage list) (map (list_image passage) lists)
    (image_can game passage is list (All-head (CanPrint game) list lists can))
    (images_can game passage is lists (All-tail (CanPrint game) list lists can))

image_lines : (passage : Passage) (lists : List MoveList) → flat_map list_line (map (list_image passage) lists) ≡ flat_map (image_line passage) lists
image_lines passage [] = refl
image_lines passage (list ∷ lists) = rw (image_lines passage lists)

-- ---- what canon prints

-- the canonical board, with the images of the lists
abbrev pub canonical_contents : Member → Contents
canonical_contents member =
    record { board = carried (passage_of member) member.contents.board; lists = map (list_image (passage_of member)) member.contents.lists }

abbrev pub canonical_again : Member → Reading
canonical_again member = Accepted (printed_heading member) (canonical_contents member)

-- its lines are read as the canonical record
canonical-IsReadAs : (variant : Variant) → AreReadAs variant canon_lines canonical_again
canonical-IsReadAs variant number bytes heading contents small accepted =
    let says = Says-from_accepted variant bytes heading contents accepted in
    let game = game_of heading.variant in
    let member : Member = record { number = number; heading = heading; contents = contents } in
    let passage = passage_of member in
    let is = chosen heading.variant contents.board says.board.well_formed in
    let board = carried passage contents.board in
    let well = carried-IsWellFormed game passage contents.board is.is_passage says.board.well_formed in
    let text = text_of board in
    let line = number_sign ∷ words_of_passage passage in
    let whole : All InLine line = All-cons InLine number_sign (words_of_passage passage) (λ e. absurd (omega (arith, e))) (passage_in_line passage) in
    let plain = lines_of_board game board well in
    let above = text ++ passage_line passage in
    let lists = map (list_image passage) contents.lists in
    let spells = spelled_with_comment game text above (record { start = 0 + length text; bytes = line }) board
    (lines_after 0 text (passage_line passage) plain.ends ∙ ap (λ lines. lines_from 0 text ++ lines) (first_line (0 + length text) line [] whole))
    (begins_comment (0 + length text) (words_of_passage passage)) (text_spells game board well) in
    let read =
    lines-IsReadAs variant above (canonical_contents member)
    (AreLines-append IsPlain text (passage_line passage) plain (AreLines-line IsPlain line whole (refl, refl)))
    (begins_with header_mark bytes) number heading small
    (heading_said variant bytes heading (ok-from_HeaderSays says.header)) refl
    (ap has_content (append_assoc text (passage_line passage) (flat_map list_line lists))
    ∙ board_first game board (passage_line passage ++ flat_map list_line lists) well)
    spells (images_can game passage is.is_passage contents.lists (lists_can says.lists)) contents in
    subst (λ lines. IsReadAs variant (begins_with header_mark bytes) lines (canonical_again member))
    (sym (ap₂ (λ text images. heading_line number heading ++ text ++ passage_line passage ++ images)
    (sym (text_is heading.variant contents.board)) (sym (image_lines passage contents.lists))
    ∙ ap (λ front. front ++ flat_map list_line lists) (append_assoc (heading_line number heading) text (passage_line passage))
    ∙ append_assoc (heading_line number heading) above (flat_map list_line lists))) read

pub canonical-records : (variant : Variant) → ReadsAgain variant canon_lines canonical_again
canonical-records variant = all_again variant canon_lines canonical_again (canonical-IsReadAs variant)

-- ---- a canonical board stays

-- ---- what canon prints of its own output: the same headers, boards and lists, each with the passage that changes nothing
identity_chosen : (variant : Variant) (board : Board) → IsWellFormed (game_of variant) board → Canonical (game_of variant) board (text_of board)
    → Chosen (game_of variant) (renamings_of variant) board (identity_passage (game_of variant))
identity_chosen FreeCell = identity-Chosen freecell_laws
identity_chosen BakersGame = identity-Chosen bakers_game_laws
identity_chosen EightOff = identity-Chosen eight_off_laws

module _ (variant : Variant) (board : Board) (well : IsWellFormed (game_of variant) board) where
  abbrev pub there : Board
  there = carried (chosen_passage (renamings_of variant) board) board

  own_text : Canonical (game_of variant) there (text_of there)
  own_text =
      let is = chosen variant board well in
      Canonical-equivalent (game_of variant) board there (text_of there) well.piles
      (chosen_passage (renamings_of variant) board, record { is_passage = is.is_passage; there = refl }) is.reaches

  passage_stays : chosen_passage (renamings_of variant) there ≡ identity_passage (game_of variant)
  passage_stays =
      let well' = canonical-IsWellFormed variant board well in
      one_chosen (game_of variant) (renamings_of variant) there (chosen_passage (renamings_of variant) there) (identity_passage (game_of variant))
      (chosen variant there well') (identity_chosen variant there well' own_text)

  pub text_stays : least_text (renamings_of variant) there ≡ least_text (renamings_of variant) board
  text_stays =
      sym (text_is variant there) ∙ ap (λ passage. text_of (carried passage there)) passage_stays
      ∙ ap text_of (carried-identity there (canonical-IsWellFormed variant board well).piles) ∙ text_is variant board

-- ---- images stay

image_stays : (game : Game) (list : MoveList) → ListFits game list → list_image (identity_passage game) list ≡ list
image_stays game (OneCard moves) fits = rw (images-identity game moves fits)
image_stays game (Runs tokens) fits = rw (run_images-identity game tokens fits)

images_stay : (game : Game) (passage : Passage) → IsPassage game passage → (lists : List MoveList) → All (CanPrint game) lists
    → flat_map (image_line (identity_passage game)) (map (list_image passage) lists) ≡ flat_map (image_line passage) lists
images_stay game passage is [] can = refl
images_stay game passage is (list ∷ lists) can =
    rw (
      image_stays game (list_image passage list) (image_can game passage is list (All-head (CanPrint game) list lists can)).0,
      images_stay game passage is lists (All-tail (CanPrint game) list lists can),
    )

-- ---- all lines

abbrev pub settled_lines : Member → List ℕ
settled_lines member =
    heading_line member.number member.heading ++ canonical_text member ++ passage_line (identity_passage (game_of member.heading.variant))
    ++ flat_map (image_line (passage_of member)) member.contents.lists

body : (variant : Variant) (front : List ℕ) (member : Member) → IsSaid variant member
    → front ++ least_text (renamings_of member.heading.variant) (canonical_contents member).board
    ++ passage_line (chosen_passage (renamings_of member.heading.variant) (canonical_contents member).board)
    ++ flat_map (image_line (chosen_passage (renamings_of member.heading.variant) (canonical_contents member).board))
    (canonical_contents member).lists
    ≡ front ++ canonical_text member ++ passage_line (identity_passage (game_of member.heading.variant))
    ++ flat_map (image_line (passage_of member)) member.contents.lists
body variant front member (bytes, says) =
    let game = game_of member.heading.variant in
    let well = says.board.well_formed in
    let is = chosen member.heading.variant member.contents.board well in
    ap (λ passage. front ++ least_text (renamings_of member.heading.variant) (canonical_contents member).board ++ passage_line passage
    ++ flat_map (image_line passage) (canonical_contents member).lists)
    (passage_stays member.heading.variant member.contents.board well)
    ∙ ap₂ (λ text images. front ++ text ++ passage_line (identity_passage game) ++ images)
    (text_stays member.heading.variant member.contents.board well)
    (images_stay game (passage_of member) is.is_passage member.contents.lists (lists_can says.lists))

lines_settle : (variant : Variant) (number : ℕ) (member : Member) → IsSaid variant member
    → canon_lines number (printed_heading member) (canonical_contents member) ≡ settled_lines member
lines_settle variant number member said =
    ap₂ after (heading_again number member) (printed_variant member) ∙ body variant (heading_line member.number member.heading) member said
  where
    after : List ℕ → Variant → List ℕ
    after front own =
        let passage = chosen_passage (renamings_of own) (canonical_contents member).board in
        front ++ least_text (renamings_of own) (canonical_contents member).board ++ passage_line passage
        ++ flat_map (image_line passage) (canonical_contents member).lists

pub settled-bytes : (variant : Variant) (collection : List ℕ) → All (λ text. text.number ≤ most_countable) (records_of collection)
    → output_of_records (printed canon_lines variant) (output_of_records (printed canon_lines variant) collection)
    ≡ flat_map settled_lines (members_among variant (records_of collection))
settled-bytes variant collection small =
    let said = members-said variant (records_of collection) in
    same_printed variant canon_lines canonical_again settled_lines
    (records_of (output_of_records (printed canon_lines variant) collection)) (members_among variant (records_of collection))
    (canonical-records variant collection small)
    (All-weaker (IsSaid variant) (Stays variant canon_lines canonical_again settled_lines)
    (λ member said text. lines_settle variant text.number member said) (members_among variant (records_of collection)) said)
