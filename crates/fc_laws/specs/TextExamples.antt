-- Printed texts as FreeCell players know them: of Microsoft's deal 1, and of the board on which all cards are home.
use Rattle.std.specs.{List.{flat_map}, Prelude.{◌++◌, ◌∷◌, [], codes, List}}
use Rattle.fc_card.specs.Types.{Text}
use Rattle.fc_text.specs.Bytes.{blank, carriage_return, line_feed, tab}

-- lines, each ended by a line feed
abbrev pub lines_text : List Text → Text
lines_text lines = flat_map (λ line. line ++ line_feed ∷ []) lines

abbrev pub deal_1_text : Text
deal_1_text = lines_text (
    codes "Foundations: H-0 C-0 D-0 S-0"
    ∷ codes "Freecells: - - - -"
    ∷ codes ": JD KD 2S 4C 3S 6D 6S"
    ∷ codes ": 2D KC KS 5C TD 8S 9C"
    ∷ codes ": 9H 9S 9D TS 4S 8D 2H"
    ∷ codes ": JC 5S QD QH TH QS 6H"
    ∷ codes ": 5D AD JS 4H 8H 6C"
    ∷ codes ": 7H QC AS AC 2C 3D"
    ∷ codes ": 7C KH AH 4D JH 8C"
    ∷ codes ": 5H 3H 3C 7S 7D TC"
    ∷ [])

abbrev pub won_text : Text
won_text = lines_text (
    codes "Foundations: H-K C-K D-K S-K" ∷ codes "Freecells: - - - -"
    ∷ codes ":" ∷ codes ":" ∷ codes ":" ∷ codes ":" ∷ codes ":" ∷ codes ":" ∷ codes ":" ∷ codes ":" ∷ [])

-- ---- texts that are not in printed spelling

-- cards in upper case without colons, a blank line for an empty column, and the foundations last
abbrev pub blank_lines : Text
blank_lines = lines_text (codes "KC" ∷ codes "QC" ∷ [] ∷ codes "JC" ∷ codes "Found: H-K C-T D-K S-K" ∷ [])

-- the king of clubs is there twice and the king of diamonds nowhere
abbrev pub king_twice : Text
king_twice = lines_text (codes "Foundations: H-K C-Q D-Q S-K" ∷ codes ": KC" ∷ codes ": KC" ∷ [])

-- the king of diamonds is nowhere
abbrev pub one_king : Text
one_king = lines_text (codes "Foundations: H-K C-Q D-Q S-K" ∷ codes ": KC" ∷ [])

abbrev pub five_cells : Text
five_cells = lines_text (codes "Foundations: H-K C-K D-K S-K" ∷ codes "Freecells: - - - - -" ∷ [])

abbrev pub eight_cells : Text
eight_cells = lines_text (codes "Foundations: H-K C-K D-K S-K" ∷ codes "Freecells: - - - - - - - -" ∷ [])

-- the text ends within the word 10C
abbrev pub cut_ten : Text
cut_ten = lines_text (codes "Foundations: H-K C-9 D-K S-K" ∷ []) ++ codes ": KC QC JC 1"

abbrev pub nine_columns : Text
nine_columns = lines_text (codes "Foundations: H-K C-K D-K S-K"
    ∷ codes ":" ∷ codes ":" ∷ codes ":" ∷ codes ":" ∷ codes ":" ∷ codes ":" ∷ codes ":" ∷ codes ":" ∷ codes ":" ∷ [])

abbrev pub hearts_twice : Text
hearts_twice = codes "Foundations: H-K H-K"

abbrev pub cells_twice : Text
cells_twice = lines_text (codes "FC: -" ∷ codes "freecells: -" ∷ [])

-- the king of clubs is in a column and then at home
abbrev pub king_at_home : Text
king_at_home = lines_text (codes "KC" ∷ codes "Foundations: H-K C-K D-K S-K" ∷ [])

-- the whole deck by number in one column
abbrev pub one_column : Text
one_column = lines_text (codes ": AC AD AH AS 2C 2D 2H 2S 3C 3D 3H 3S 4C 4D 4H 4S 5C 5D 5H 5S 6C 6D 6H 6S 7C 7D 7H 7S 8C 8D 8H 8S 9C 9D 9H 9S TC TD TH TS JC JD JH JS QC QD QH QS KC KD KH KS" ∷ [])

-- two cards in the outer cells of eight
abbrev pub outer_cells : Text
outer_cells = lines_text (codes "Foundations: H-K C-K D-K S-J" ∷ codes "Freecells: QS - - - - - - KS" ∷ [])

-- lines that a carriage return and a line feed end
abbrev pub lines_with_returns : List Text → Text
lines_with_returns lines = flat_map (λ line. line ++ carriage_return ∷ line_feed ∷ []) lines

-- Microsoft's deal 617 in lower case, with 10 for ten and 1 for the ace
abbrev pub deal_617_in_lower_case : Text
deal_617_in_lower_case = lines_with_returns (
    codes ": 7d 10d 10h kd 4c 4s jd"
    ∷ codes ": 1d 7s qc 5h qs 10s ks"
    ∷ codes ": 5c qd 3h 9s 9c 2h kc"
    ∷ codes ": 3s 1c 9d 3c 9h 5d 4h"
    ∷ codes ": 5s 6d 6s 8s 7c jc"
    ∷ codes ": 8c 8h 8d 7h 6h 6c"
    ∷ codes ": 2d 1s 3d 4d 2c jh"
    ∷ codes ": 1h kh 10c js 2s qh"
    ∷ [])

-- the line of the foundations on which all cards are home
abbrev pub all_home : Text
all_home = codes "Foundations: H-K C-K D-K S-K"

-- seven columns, and blank lines after them
abbrev pub blanks_at_the_end : Text
blanks_at_the_end = lines_text (all_home ∷ codes ":" ∷ codes ":" ∷ codes ":" ∷ codes ":" ∷ codes ":" ∷ codes ":" ∷ codes ":" ∷ [] ∷ [] ∷ codes "  " ∷ [])

-- a blank line after a named line, and then a king
abbrev pub blank_after_a_name : Text
blank_after_a_name = lines_text (codes "Founds: H-K C-Q D-K S-K" ∷ [] ∷ codes "KC" ∷ [])

-- a height of ten in two digits
abbrev pub height_of_ten : Text
height_of_ten = lines_text (codes "found: h-10 c-k d-K s-K" ∷ codes ": KH QH JH" ∷ [])

-- a comment between two columns, of which the second begins with its card
abbrev pub comment_between : Text
comment_between = lines_text (codes "Found: H-K C-J D-K S-K" ∷ codes ":KC" ∷ codes "  # the queen" ∷ codes "QC" ∷ [])

-- a ninth line of a column, with a word that is no card
abbrev pub ninth_with_a_bad_word : Text
ninth_with_a_bad_word = lines_text (all_home
    ∷ codes ":" ∷ codes ":" ∷ codes ":" ∷ codes ":" ∷ codes ":" ∷ codes ":" ∷ codes ":" ∷ codes ":" ∷ (blank ∷ tab ∷ codes "::x") ∷ [])

-- seven columns, a blank line that is the eighth, and a ninth
abbrev pub blank_eighth : Text
blank_eighth = lines_text (all_home ∷ codes ":" ∷ codes ":" ∷ codes ":" ∷ codes ":" ∷ codes ":" ∷ codes ":" ∷ codes ":" ∷ [] ∷ codes ":" ∷ [])

-- a comment and a blank line before the first line
abbrev pub blank_after_a_comment : Text
blank_after_a_comment = lines_text (codes "# c" ∷ [] ∷ codes "KC" ∷ [])
