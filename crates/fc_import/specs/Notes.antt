-- Where an import is in its text, and what is said of a place there.
use Rattle.std.specs.{Fmt.{decimal}, List.{count_by, prefix_len}, Option.{unwrap_or}}
use Rattle.std.specs.Prelude.{◌++◌, ◌+◌, ◌-◌, ◌<◌, ◌==◌, ◌^◌, ◌||◌, ◌∷◌, ◌≡◌, ◌⊎◌, [], All, Bool}
use Rattle.std.specs.Prelude.{codes, drop, Err, false, if◌then◌else◌, IsTrue, length, min, None}
use Rattle.std.specs.Prelude.{not, Ok, Option, Result, take, ℕ}
use Rattle.std.specs.Str.{bytes_eq, str_eq_ignore_ascii_case}
use Rattle.{fc_board.specs.{Boards.{Board}, Games.{variant_word}}, fc_card.specs.Types.{Text}}
use Rattle.fc_board.specs.declared.rule.Variant.{Variant}
use Rattle.fc_text.specs.{Bytes.{line_feed}, Notation.{separates_tokens}}
use Rattle.fc_record.specs.Grammar.{begins_with, Heading, heading_of, list_mark}
use Rattle.fc_record.specs.declared.record.RecordFault.{RecordFault}
use Rattle.fc_import.specs.{Scan.{is_in_words}, Words.{is_between}}
use Rattle.fc_import.specs.declared.{options.ImportOptions.{ImportOptions}, tally.Fate.{Fate}}
use Rattle.fc_import.specs.declared.tally.Fate.TheVariants.{ABoard, AList, LeftOut, Passed}
use Rattle.fc_import.specs.declared.tally.Fate.TheVariants.{RefusedBoard, RefusedList}
use Rattle.fc_import.specs.declared.tally.Tally.{Tally}

-- -------- What an import has so far. From: this project's profile.

-- a count goes up to what a computer's word holds
abbrev pub counted : ℕ → ℕ
counted number = min number (2 ^ 64 - 1)

-- what a piece of a text counts as
abbrev pub tally_of : Fate → Tally
tally_of ABoard = record { boards = 1; lists = 0; refused_boards = 0; refused_lists = 0; left_out = 0 }
tally_of AList = record { boards = 0; lists = 1; refused_boards = 0; refused_lists = 0; left_out = 0 }
tally_of RefusedBoard = record { boards = 0; lists = 0; refused_boards = 1; refused_lists = 0; left_out = 0 }
tally_of RefusedList = record { boards = 0; lists = 0; refused_boards = 0; refused_lists = 1; left_out = 0 }
tally_of LeftOut = record { boards = 0; lists = 0; refused_boards = 0; refused_lists = 0; left_out = 1 }
tally_of fate = record { boards = 0; lists = 0; refused_boards = 0; refused_lists = 0; left_out = 0 }

abbrev pub plus : Tally → Tally → Tally
plus one more = record {
  boards = counted (one.boards + more.boards);
  lists = counted (one.lists + more.lists);
  refused_boards = counted (one.refused_boards + more.refused_boards);
  refused_lists = counted (one.refused_lists + more.refused_lists);
  left_out = counted (one.left_out + more.left_out);
}

-- the name that the last header gives, the number of its line, and that of the next line
pub record Place : Type 0 where
  pub name : Text
  pub header : ℕ
  pub line : ℕ

-- how the text is imported; the last board, if a list of moves may follow it; whether a rule that begins a solution came after it; whether the last lines are of a solution that only a blank line, a header, a board or a marked list ends; whether the last header names another game; the place of the next line; how many boards the last header names; and how much was taken and was not
pub record State : Type 0 where
  pub options : ImportOptions
  pub last : Option Board
  pub begun : Bool
  pub goes_on : Bool
  pub other_game : Bool
  pub place : Place
  pub named : ℕ
  pub tally : Tally

abbrev pub first_state : ImportOptions → State
first_state options = record { options = options; last = None; begun = false; goes_on = false; other_game = false; place = record { name = []; header = 0; line = 1 }; named = 0; tally = tally_of Passed }

abbrev pub line_feeds : Text → ℕ
line_feeds text = count_by (λ byte. byte == line_feed) text

abbrev pub line_after : (line : ℕ) → (text : Text) → ℕ
line_after line text = counted (line + line_feeds text)

-- the rule before a solution of Freecell Solver
abbrev pub is_rule : (piece : Text) → Bool
is_rule piece = bytes_eq (take 10 piece) (codes "-=-=-=-=-=")

-- whether a solution has begun after a piece of this fate: after its rule, with words and blank lines
abbrev pub begun_after : Fate → (begun : Bool) → (piece : Text) → Bool
begun_after Passed begun piece = begun || is_rule piece
begun_after LeftOut begun piece = begun
begun_after fate begun piece = false

-- the lines of a list that no mark begins, no move in words, and no sentence of Freecell Solver's, as where a board is won and its list has no moves
abbrev pub is_unmarked : (piece : Text) → Bool
is_unmarked piece = not (begins_with list_mark piece || is_in_words piece || bytes_eq (take 5 piece) (codes "This "))

abbrev pub goes_on_after : Fate → (piece : Text) → Bool
goes_on_after AList piece = is_unmarked piece
goes_on_after RefusedList piece = is_unmarked piece
goes_on_after fate piece = false

-- the state after the lines of a piece of this fate, with this last board
abbrev pub after : State → (piece : Text) → (last : Option Board) → Fate → State
after state piece last fate = record state {
  last = last;
  begun = begun_after fate state.begun piece;
  goes_on = goes_on_after fate piece;
  place = record state.place { line = line_after state.place.line piece };
  named = counted (state.named + (tally_of fate).boards);
  tally = plus state.tally (tally_of fate);
}

-- the name that a header gives, or nothing
abbrev pub name_by : Result Heading RecordFault → Text
name_by (Ok heading) = unwrap_or heading.name []
name_by (Err fault) = []

-- the first word of a text
abbrev pub first_word : Text → Text
first_word text =
    let rest = drop (prefix_len separates_tokens text) text in
    take (prefix_len (λ byte. not (separates_tokens byte)) rest) rest

-- the first word after the mark of a header names the game, in any case
abbrev pub names_game : Variant → (line : Text) → Bool
names_game variant line = str_eq_ignore_ascii_case (first_word (drop 1 line)) (variant_word variant)

abbrev pub after_heading : Variant → State → (line : Text) → State
after_heading variant state line = record state {
  last = None;
  begun = false;
  goes_on = false;
  other_game = not (names_game variant line);
  place = record { name = name_by (heading_of variant line); header = state.place.line; line = line_after state.place.line line };
  named = 0;
}

-- -------- What is said. From: this project's profile; editors open a file at NAME:LINE:COLUMN.

-- NAME and the line counted from its header, or the line alone
abbrev pub place_text : Place → (line column : ℕ) → Text
place_text place line column =
    (if length place.name == 0 then decimal line else place.name ++ codes ":" ++ decimal (line - place.header)) ++ codes ":" ++ decimal column

-- a line that names one of the lines of the piece, and says in printing ASCII what is to be said of it
pub record IsNote (place : Place) (piece said : Text) : Type 0 where
  pub at : ℕ
  pub column : ℕ
  pub words : Text
  pub within : (at ≡ 0) ⊎ (at < length piece)
  pub printing : All (λ byte. IsTrue (is_between 0x20 0x7E byte)) words
  pub is : said ≡ codes "fcanon: " ++ place_text place (line_after place.line (take at piece)) column ++ codes ": " ++ words ++ line_feed ∷ []

-- nothing is said where this is so, and else there is a note
abbrev pub SaysUnless : (holds : Type 0) → Place → (piece said : Text) → Type 0
SaysUnless holds place piece said = (holds × (said ≡ [])) ⊎ ((¬ holds) × IsNote place piece said)
