-- The object of a table's line: what was printed member by member is that object.
use Rattle.std.proofs.Common.{◌&&◌, ◌++◌, ◌-◌, ◌==◌, ◌||◌, ◌∙◌, ◌∷◌, ◌≡◌, ◌≤◌, [], All, ap, append_assoc, ap₂, arith}
use Rattle.std.proofs.Common.{Bool, codes, cond, drop, Err, false, if◌then◌else◌, length, List, map, None, not, Ok}
use Rattle.std.proofs.Common.{OnOk, Option, refl, Result, slice_index, Some, subst, suc, sym, take, true, true≢false}
use Rattle.std.proofs.{Common.{zero, ℕ}, lemmas.{Bool.{and_parts, false_from_ne_true}, List.Elements.{All-head}}}
use Rattle.std.proofs.lemmas.{List.Folds.{list_all-append}, Slice.Eq.{bytes_eq-Decides}}
use Rattle.std.specs.{Cmp.Lexicographic.{slice_cmp}, Fmt.{decimal}, List.{flat_map, join_with_byte, list_all, zip}}
use Rattle.std.specs.{Ordering.{is_lt, nat_cmp}, Str.{bytes_eq}}
use Rattle.fc_card.specs.{card_text, rank_letters, rank_of, renaming_text, suit_letters, suit_of}
use Rattle.fc_board.specs.{Boards.{Board}, Games.{Game, game_of, renamings_of, variant_word}}
use Rattle.fc_board.specs.Passages.{carried, Passage}
use Rattle.fc_board.specs.declared.rule.Variant.{TheVariants.{BakersGame, EightOff, FreeCell}, Variant}
use Rattle.fc_text.specs.{Bytes.{blank, dash, line_feed}, Faults.{board_reason}, Notation.{cell_letters, column_digits}}
use Rattle.fc_text.specs.Printed.{card_word, cell_word, cells_line, column_line, foundations_line, height_letters}
use Rattle.fc_text.specs.Printed.{height_word, printed_suits, text_of}
use Rattle.fc_text.specs.declared.fault.BoardFaultKind.{BoardFaultKind, TheVariants.{BadCard, BadFoundation}}
use Rattle.fc_text.specs.declared.fault.BoardFaultKind.TheVariants.{MissingCard, RepeatedCard, RepeatedLine}
use Rattle.fc_text.specs.declared.fault.BoardFaultKind.TheVariants.{TooManyCells, TooManyColumns}
use Rattle.fc_canon.specs.{chosen_passage, least_of, least_text, sorted_text, sorting_passage}
use Rattle.fc_record.{proofs.HeadingLemmas.{decimal-high}, specs.Grammar.{Contents, Heading}}
use Rattle.fc_record.specs.{Printing.{name_of, record_reason}, Tables.{column_names, first_win, json_object}}
use Rattle.fc_record.specs.Tables.{json_string, number_or_null, side_by_side, table_object}
use Rattle.fc_record.specs.declared.record.RecordFaultKind.{RecordFaultKind}
use Rattle.fc_record.specs.declared.record.RecordFaultKind.TheVariants as kind

-- ---- texts without quotes and backslashes

abbrev is_plain : ℕ → Bool
is_plain byte = not (byte == 34 || byte == 92)

abbrev IsPlain : List ℕ → Type 0
IsPlain text = list_all is_plain text ≡ true

plain-append : (text other : List ℕ) → IsPlain text → IsPlain other → IsPlain (text ++ other)
plain-append text other plain plain' = list_all-append is_plain text other ∙ ap₂ (λ a b. a && b) plain plain'

plain-letter : (letters : List ℕ) → IsPlain letters → (place : ℕ) → is_plain (slice_index letters place) ≡ true
plain-letter [] plain place = refl
plain-letter (letter ∷ letters) plain zero = (and_parts (is_plain letter) (list_all is_plain letters) plain).0
plain-letter (letter ∷ letters) plain (suc place) = plain-letter letters (and_parts (is_plain letter) (list_all is_plain letters) plain).1 place

plain-letters : (letters : List ℕ) → IsPlain letters → (places : List ℕ) → IsPlain (map (slice_index letters) places)
plain-letters letters plain [] = refl
plain-letters letters plain (place ∷ places) = ap₂ (λ a b. a && b) (plain-letter letters plain place) (plain-letters letters plain places)

plain-words : {X : Type 0} (word : X → List ℕ) → ((x : X) → IsPlain (word x)) → (xs : List X) → IsPlain (flat_map word xs)
plain-words word are [] = refl
plain-words word are (x ∷ xs) = plain-append (word x) (flat_map word xs) (are x) (plain-words word are xs)

plain-height : (heights : List ℕ) (suit : ℕ) → IsPlain (height_word heights suit)
plain-height heights suit =
    ap₂ (λ a b. a && (b && true)) (plain-letter suit_letters refl suit) (plain-letter height_letters refl (slice_index heights suit))

plain-card : (card : ℕ) → IsPlain (card_word card)
plain-card card = ap₂ (λ a b. a && (b && true)) (plain-letter rank_letters refl (rank_of card - 1)) (plain-letter suit_letters refl (suit_of card))

plain-cell : (cell : Option ℕ) → IsPlain (cell_word cell)
plain-cell None = refl
plain-cell (Some card) = plain-card card

plain-column : (column : List ℕ) → IsPlain (column_line column)
plain-column column = plain-append (flat_map card_word column) (line_feed ∷ []) (plain-words card_word plain-card column) refl

plain-text : (board : Board) → IsPlain (text_of board)
plain-text board =
    plain-append (foundations_line board.heights ++ cells_line board.cells) (flat_map column_line board.columns)
    (plain-append (foundations_line board.heights) (cells_line board.cells)
    (plain-append (flat_map (height_word board.heights) printed_suits) (line_feed ∷ []) (plain-words (height_word board.heights) (plain-height board.heights) printed_suits) refl)
    (plain-append (flat_map cell_word board.cells) (line_feed ∷ []) (plain-words cell_word plain-cell board.cells) refl))
    (plain-words column_line plain-column board.columns)

plain-least : (board : Board) (renamings : List (List ℕ)) → IsPlain (least_text renamings board)
plain-least board [] = refl
plain-least board (renaming ∷ []) = plain-text (carried (sorting_passage board renaming) board)
plain-least board (renaming ∷ other ∷ rest) =
    by (is_lt (slice_cmp nat_cmp (least_of (map (sorted_text board) (other ∷ rest))) (sorted_text board renaming))) (plain-least board (other ∷ rest))
  where
    by : (b : Bool) → IsPlain (least_text (other ∷ rest) board) → IsPlain (cond b (least_text (other ∷ rest) board) (sorted_text board renaming))
    by true plain = plain
    by false plain = plain-text (carried (sorting_passage board renaming) board)

plain-front : (count : ℕ) (text : List ℕ) → IsPlain text → IsPlain (take count text)
plain-front zero text plain = refl
plain-front (suc count) [] plain = refl
plain-front (suc count) (byte ∷ text) plain =
    let parts = and_parts (is_plain byte) (list_all is_plain text) plain in ap₂ (λ a b. a && b) parts.0 (plain-front count text parts.1)

plain-spread : (text : List ℕ) → IsPlain text → IsPlain (flat_map (λ byte. if byte == line_feed then blank ∷ blank ∷ [] else byte ∷ []) text)
plain-spread [] plain = refl
plain-spread (byte ∷ text) plain =
    let parts = and_parts (is_plain byte) (list_all is_plain text) plain in
    plain-append (if byte == line_feed then blank ∷ blank ∷ [] else byte ∷ []) _ (by (byte == line_feed) parts.0) (plain-spread text parts.1)
  where
    by : (b : Bool) → is_plain byte ≡ true → IsPlain (cond b (blank ∷ blank ∷ []) (byte ∷ []))
    by true plain = refl
    by false plain = ap (λ a. a && true) plain

plain-word : (variant : Variant) → IsPlain (variant_word variant)
plain-word FreeCell = refl
plain-word BakersGame = refl
plain-word EightOff = refl

abbrev in_quotes : List ℕ → List ℕ
in_quotes text = 34 ∷ text ++ 34 ∷ []

unescaped : (text : List ℕ) → IsPlain text → flat_map (λ byte. if byte == 34 || byte == 92 then 92 ∷ byte ∷ [] else byte ∷ []) text ≡ text
unescaped [] plain = refl
unescaped (byte ∷ text) plain =
    let parts = and_parts (is_plain byte) (list_all is_plain text) plain in
    ap₂ (λ b rest. cond b (92 ∷ byte ∷ []) (byte ∷ []) ++ rest) (by (byte == 34 || byte == 92) parts.0) (unescaped text parts.1)
  where
    by : (b : Bool) → not b ≡ true → b ≡ false
    by true e = absurd (true≢false (sym e))
    by false e = refl

-- the string of such a text has no backslash
quoted : (text : List ℕ) → IsPlain text → json_string text ≡ in_quotes text
quoted text plain = ap in_quotes (unescaped text plain)

-- ---- numbers

no_dash : (n : ℕ) → bytes_eq (decimal n) (dash ∷ []) ≡ false
no_dash n = false_from_ne_true _ (λ e. low ((bytes_eq-Decides (decimal n) (dash ∷ [])).0 e))
  where
    low : decimal n ≡ dash ∷ [] → ⊥
    low e = let high = All-head (λ byte. 48 ≤ byte) dash [] (subst (All (λ byte. 48 ≤ byte)) e (decimal-high n)) in absurd (omega arith)

pub number_as_it_is : (n : ℕ) → number_or_null (decimal n) ≡ decimal n
number_as_it_is n = ap (λ b. cond b (codes "null") (decimal n)) (no_dash n)

pub win_shown : {E : Type 0} (r : Result (Unit {0}) E) (old new field : List ℕ) (n : ℕ) → field ≡ decimal n → OnOk r (new ≡ old ++ decimal n) → OnOk r (new ≡ old ++ number_or_null field)
win_shown (Ok _) old new field n is ensured = ensured ∙ ap (λ text. old ++ text) (sym (ap number_or_null is ∙ number_as_it_is n))
win_shown (Err _) old new field n is ensured = tt

-- ---- printed part by part

-- texts that were put one after another
module _ (old a b c d e t1 t2 t3 t4 t5 : List ℕ) (p1 : a ≡ old ++ t1) (p2 : b ≡ a ++ t2) (p3 : c ≡ b ++ t3) (p4 : d ≡ c ++ t4) (p5 : e ≡ d ++ t5) where
  next : (one new t more : List ℕ) → one ≡ old ++ t → new ≡ one ++ more → new ≡ old ++ (t ++ more)
  next one new t more begun ended = ended ∙ ap (λ l. l ++ more) begun ∙ append_assoc old t more

  pub five-pushed : e ≡ old ++ (t1 ++ t2 ++ t3 ++ t4 ++ t5)
  five-pushed = next d e (t1 ++ t2 ++ t3 ++ t4) t5 (next c d (t1 ++ t2 ++ t3) t4 (next b c (t1 ++ t2) t3 (next a b t1 t2 p1 p2) p3) p4) p5

  pub six-pushed : (new t6 : List ℕ) → new ≡ e ++ t6 → new ≡ old ++ (t1 ++ t2 ++ t3 ++ t4 ++ t5 ++ t6)
  six-pushed new t6 p6 = next e new (t1 ++ t2 ++ t3 ++ t4 ++ t5) t6 five-pushed p6

six : (a b c d e f rest : List ℕ) → (a ++ b ++ c ++ d ++ e ++ f) ++ rest ≡ a ++ (b ++ (c ++ (d ++ (e ++ (f ++ rest)))))
six a b c d e f rest =
    append_assoc (a ++ b ++ c ++ d ++ e) f rest ∙ append_assoc (a ++ b ++ c ++ d) e (f ++ rest) ∙ append_assoc (a ++ b ++ c) d (e ++ (f ++ rest))
    ∙ append_assoc (a ++ b) c (d ++ (e ++ (f ++ rest))) ∙ append_assoc a b (c ++ (d ++ (e ++ (f ++ rest))))

five : (a b c d e : List ℕ) → a ++ b ++ c ++ d ++ e ≡ a ++ (b ++ (c ++ (d ++ e)))
five a b c d e = append_assoc (a ++ b ++ c) d e ∙ append_assoc (a ++ b) c (d ++ e) ∙ append_assoc a b (c ++ (d ++ e))

parts_join : (old a b c d e f g h i j k l m n o p q : List ℕ)
    → old ++ (a ++ b ++ c ++ d ++ e ++ f) ++ (g ++ h ++ i ++ j ++ k ++ l) ++ (m ++ n ++ o ++ p ++ q)
    ≡ old ++ (a ++ (b ++ (c ++ (d ++ (e ++ (f ++ (g ++ (h ++ (i ++ (j ++ (k ++ (l ++ (m ++ (n ++ (o ++ (p ++ q))))))))))))))))
parts_join old a b c d e f g h i j k l m n o p q =
    let first = a ++ b ++ c ++ d ++ e ++ f in
    let next = g ++ h ++ i ++ j ++ k ++ l in
    append_assoc (old ++ first) next (m ++ n ++ o ++ p ++ q) ∙ append_assoc old first (next ++ (m ++ n ++ o ++ p ++ q))
    ∙ ap (λ text. old ++ text) (ap (λ text. first ++ text) (six g h i j k l _ ∙ ap (λ text. g ++ (h ++ (i ++ (j ++ (k ++ (l ++ text)))))) (five m n o p q)) ∙ six a b c d e f _)

-- the members of these names and values, each with a comma before it
abbrev later : List (List ℕ) → List (List ℕ) → List ℕ
later names values = 44 ∷ join_with_byte 44 (map (λ member. json_string member.0 ++ 58 ∷ member.1) (zip names values))

abbrev ending : List ℕ
ending = codes "}\n"

more : (text rest : List ℕ) → ((text ++ 34 ∷ []) ++ rest) ++ ending ≡ text ++ (34 ∷ (rest ++ ending))
more text rest = append_assoc (text ++ 34 ∷ []) rest ending ∙ append_assoc text (34 ∷ []) (rest ++ ending)

eight_members : (a b c d e f g h : List ℕ)
    → codes "{\"name\":" ++ (a ++ (codes ",\"variant\":\"" ++ (b ++ (codes "\",\"board\":\"" ++ (c ++ (codes "\",\"renaming\":\"" ++ (d ++ (codes "\",\"columns\":\"" ++ (e
    ++ (codes "\",\"cells\":\"" ++ (f ++ (codes "\",\"lists\":" ++ (g ++ (codes ",\"win\":" ++ (h ++ ending)))))))))))))))
    ≡ json_object (zip column_names (a ∷ in_quotes b ∷ in_quotes c ∷ in_quotes d ∷ in_quotes e ∷ in_quotes f ∷ g ∷ h ∷ []))
eight_members a b c d e f g h =
    let seventh = append_assoc g (later (drop 7 column_names) (h ∷ [])) ending in
    let sixth = more f (later (drop 6 column_names) (g ∷ h ∷ [])) ∙ ap (λ text. f ++ (codes "\",\"lists\":" ++ text)) seventh in
    let fifth = more e (later (drop 5 column_names) (in_quotes f ∷ g ∷ h ∷ [])) ∙ ap (λ text. e ++ (codes "\",\"cells\":\"" ++ text)) sixth in
    let fourth = more d (later (drop 4 column_names) (in_quotes e ∷ in_quotes f ∷ g ∷ h ∷ [])) ∙ ap (λ text. d ++ (codes "\",\"columns\":\"" ++ text)) fifth in
    let third = more c (later (drop 3 column_names) (in_quotes d ∷ in_quotes e ∷ in_quotes f ∷ g ∷ h ∷ [])) ∙ ap (λ text. c ++ (codes "\",\"renaming\":\"" ++ text)) fourth in
    let second = more b (later (drop 2 column_names) (in_quotes c ∷ in_quotes d ∷ in_quotes e ∷ in_quotes f ∷ g ∷ h ∷ [])) ∙ ap (λ text. b ++ (codes "\",\"board\":\"" ++ text)) third in
    let first = append_assoc a (later (drop 1 column_names) (in_quotes b ∷ in_quotes c ∷ in_quotes d ∷ in_quotes e ∷ in_quotes f ∷ g ∷ h ∷ [])) ending ∙ ap (λ text. a ++ (codes ",\"variant\":\"" ++ text)) second in
    sym (ap (λ text. codes "{\"name\":" ++ text) first)

-- of eight fields, of which five are plain and one is a number
fields_object : (a b c d e f h : List ℕ) (n : ℕ) → IsPlain b → IsPlain c → IsPlain d → IsPlain e → IsPlain f
    → json_object (zip column_names (json_string a ∷ in_quotes b ∷ in_quotes c ∷ in_quotes d ∷ in_quotes e ∷ in_quotes f ∷ decimal n ∷ h ∷ []))
    ≡ json_object (zip column_names (json_string a ∷ json_string b ∷ json_string c ∷ json_string d ∷ json_string e ∷ json_string f ∷ number_or_null (decimal n) ∷ h ∷ []))
fields_object a b c d e f h n plain_b plain_c plain_d plain_e plain_f =
    ap₂ (λ b c. json_object (zip column_names (json_string a ∷ b ∷ c ∷ in_quotes d ∷ in_quotes e ∷ in_quotes f ∷ decimal n ∷ h ∷ []))) (sym (quoted b plain_b)) (sym (quoted c plain_c))
    ∙ ap₂ (λ d e. json_object (zip column_names (json_string a ∷ json_string b ∷ json_string c ∷ d ∷ e ∷ in_quotes f ∷ decimal n ∷ h ∷ []))) (sym (quoted d plain_d)) (sym (quoted e plain_e))
    ∙ ap₂ (λ f g. json_object (zip column_names (json_string a ∷ json_string b ∷ json_string c ∷ json_string d ∷ json_string e ∷ f ∷ g ∷ h ∷ []))) (sym (quoted f plain_f)) (sym (number_as_it_is n))

abbrev board_members : ℕ → Heading → List ℕ → List ℕ
board_members number heading text =
    codes "{\"name\":" ++ json_string (name_of number heading.name) ++ codes ",\"variant\":\"" ++ variant_word heading.variant ++ codes "\",\"board\":\"" ++ side_by_side text

abbrev passage_members : Passage → List ℕ
passage_members passage =
    codes "\",\"renaming\":\"" ++ renaming_text passage.renaming ++ codes "\",\"columns\":\"" ++ map (slice_index column_digits) passage.columns
    ++ codes "\",\"cells\":\"" ++ map (slice_index cell_letters) passage.cells

abbrev list_members : Game → Contents → List ℕ
list_members game contents =
    codes "\",\"lists\":" ++ decimal (length contents.lists) ++ codes ",\"win\":" ++ number_or_null (first_win game contents.board 1 contents.lists) ++ ending

object_is : (number : ℕ) (heading : Heading) (contents : Contents) (old : List ℕ)
    → old ++ board_members number heading (least_text (renamings_of heading.variant) contents.board) ++ passage_members (chosen_passage (renamings_of heading.variant) contents.board)
    ++ list_members (game_of heading.variant) contents
    ≡ old ++ table_object number heading contents
object_is number heading contents old =
    let text = least_text (renamings_of heading.variant) contents.board in
    let passage = chosen_passage (renamings_of heading.variant) contents.board in
    let name = name_of number heading.name in
    let columns = map (slice_index column_digits) passage.columns in
    let cells = map (slice_index cell_letters) passage.cells in
    let win = number_or_null (first_win (game_of heading.variant) contents.board 1 contents.lists) in
    parts_join old (codes "{\"name\":") (json_string name) (codes ",\"variant\":\"") (variant_word heading.variant) (codes "\",\"board\":\"") (side_by_side text)
    (codes "\",\"renaming\":\"") (renaming_text passage.renaming) (codes "\",\"columns\":\"") columns (codes "\",\"cells\":\"") cells
    (codes "\",\"lists\":") (decimal (length contents.lists)) (codes ",\"win\":") win ending
    ∙ ap (λ text. old ++ text)
    (eight_members (json_string name) (variant_word heading.variant) (side_by_side text) (renaming_text passage.renaming) columns cells (decimal (length contents.lists)) win
    ∙ fields_object name (variant_word heading.variant) (side_by_side text) (renaming_text passage.renaming) columns cells win (length contents.lists)
    (plain-word heading.variant) (plain-spread (take (length text - 1) text) (plain-front (length text - 1) text (plain-least contents.board (renamings_of heading.variant))))
    (plain-letters suit_letters refl passage.renaming) (plain-letters column_digits refl passage.columns) (plain-letters cell_letters refl passage.cells))

pub objected : {E : Type 0} (r : Result (Unit {0}) E) (game : Game) (renamings : List (List ℕ)) (passage : Passage) (number : ℕ) (heading : Heading) (contents : Contents) (old one two text new : List ℕ)
    → game ≡ game_of heading.variant → renamings ≡ renamings_of heading.variant
    → text ≡ least_text renamings contents.board → passage ≡ chosen_passage renamings contents.board
    → one ≡ old ++ board_members number heading text → two ≡ one ++ passage_members passage → OnOk r (new ≡ two ++ list_members game contents)
    → OnOk r (new ≡ old ++ table_object number heading contents)
objected (Ok _) game renamings passage number heading contents old one two text new named listed is_text is_passage begun more ensured =
    let least = is_text ∙ ap (λ names. least_text names contents.board) listed in
    let chosen = is_passage ∙ ap (λ names. chosen_passage names contents.board) listed in
    let first = begun ∙ ap (λ text. old ++ board_members number heading text) least in
    let next = more ∙ ap₂ (λ front passage. front ++ passage_members passage) first chosen in
    ensured ∙ ap₂ (λ front game. front ++ list_members game contents) next named ∙ object_is number heading contents old
objected (Err _) game renamings passage number heading contents old one two text new named listed is_text is_passage begun more ensured = tt

-- ---- the object of a refusal

plain-name : (card : ℕ) → IsPlain (card_text card)
plain-name card = ap₂ (λ a b. a && (b && true)) (plain-letter rank_letters refl (rank_of card - 1)) (plain-letter suit_letters refl (suit_of card))

plain-board_reason : (fault : BoardFaultKind) → IsPlain (board_reason fault)
plain-board_reason BadCard = refl
plain-board_reason TooManyColumns = refl
plain-board_reason TooManyCells = refl
plain-board_reason BadFoundation = refl
plain-board_reason RepeatedLine = refl
plain-board_reason RepeatedCard = refl
plain-board_reason (MissingCard card) = plain-append (codes "missing card ") (card_text card) refl (plain-name card)

plain-reason : (fault : RecordFaultKind) → IsPlain (record_reason fault)
plain-reason kind.BadHeader = refl
plain-reason (kind.Board fault) = plain-board_reason fault
plain-reason kind.BadToken = refl
plain-reason kind.TooManyMoves = refl
plain-reason kind.StrayLine = refl

-- these members, each with a comma before it
abbrev further : List (List ℕ × List ℕ) → List ℕ
further members = 44 ∷ join_with_byte 44 (map (λ member. json_string member.0 ++ 58 ∷ member.1) members)

three_members : (a d r : List ℕ) → codes "{\"refused\":" ++ (a ++ (codes ",\"place\":" ++ (d ++ (codes ",\"reason\":\"" ++ (r ++ codes "\"}\n")))))
    ≡ json_object ((codes "refused", a) ∷ (codes "place", d) ∷ (codes "reason", in_quotes r) ∷ [])
three_members a d r =
    let third = append_assoc r (34 ∷ []) ending in
    let second = append_assoc d (further ((codes "reason", in_quotes r) ∷ [])) ending ∙ ap (λ text. d ++ (codes ",\"reason\":\"" ++ text)) third in
    let first = append_assoc a (further ((codes "place", d) ∷ (codes "reason", in_quotes r) ∷ [])) ending ∙ ap (λ text. a ++ (codes ",\"place\":" ++ text)) second in
    sym (ap (λ text. codes "{\"refused\":" ++ text) first)

-- what was printed part by part is that object
pub refusal_pushed : (old most new name place : List ℕ) (fault : RecordFaultKind)
    → most ≡ old ++ (codes "{\"refused\":" ++ json_string name ++ codes ",\"place\":" ++ place ++ codes ",\"reason\":\"" ++ record_reason fault) → new ≡ most ++ codes "\"}\n"
    → new ≡ old ++ json_object ((codes "refused", json_string name) ∷ (codes "place", place) ∷ (codes "reason", json_string (record_reason fault)) ∷ [])
refusal_pushed old most new name place fault begun ended =
    let parts = codes "{\"refused\":" ++ json_string name ++ codes ",\"place\":" ++ place ++ codes ",\"reason\":\"" ++ record_reason fault in
    ended ∙ ap (λ text. text ++ codes "\"}\n") begun ∙ append_assoc old parts (codes "\"}\n")
    ∙ ap (λ text. old ++ text)
    (six (codes "{\"refused\":") (json_string name) (codes ",\"place\":") place (codes ",\"reason\":\"") (record_reason fault) (codes "\"}\n")
    ∙ three_members (json_string name) place (record_reason fault)
    ∙ ap (λ text. json_object ((codes "refused", json_string name) ∷ (codes "place", place) ∷ (codes "reason", text) ∷ [])) (sym (quoted (record_reason fault) (plain-reason fault))))
