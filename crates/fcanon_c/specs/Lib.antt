-- The games by their numbers, the call for a deal, and the words for answers.
use Rattle.std.specs.{Option.{option_map, unwrap_or}, Prelude.{◌∷◌, [], codes, if◌then◌else◌, List}}
use Rattle.std.specs.Prelude.{nat_lt, None, Option, slice_get, ℕ}
use Rattle.{fc_card.specs.Types.{Renaming, Text}, fc_text.specs.Faults.{fault_words}}
use Rattle.fc_board.specs.{Games.{Game, game_of, renamings_of, variant_at}, Steps.{step_reason}}
use Rattle.fc_deal.specs.{deal, dealt_board, IsDealNumber}
use Rattle.fc_bytes.specs.{fault_kind_of, HoldsBoard, reason_of}
use Rattle.fc_bytes.specs.declared.board.BoardBytes.{BoardBytes}

-- ======== The games by their numbers, and what the call for a deal does where it answers 0; of all other calls fc_bytes says it.

-- the game that C knows by this number, and its listed renamings
abbrev pub game_at : ℕ → Game
game_at number = game_of (variant_at number)

abbrev pub renamings_at : ℕ → List Renaming
renamings_at number = renamings_of (variant_at number)

-- the board of the deal
abbrev pub DealsBoard : Game → ℕ → BoardBytes → Type 0
DealsBoard game number board = IsDealNumber number × HoldsBoard game board (dealt_board game.cells (deal number))

-- ======== The words for what calls answer; those for reasons and faults are the ones that the program prints. From: this project's profile.

-- the words for other numbers
abbrev pub no_words : Text
no_words = codes "no such answer"

-- the words of the answers from 0 on; those from 10 to 15 are of runs over memory
abbrev pub call_words : List Text
call_words =
    codes "done" ∷ codes "no such game" ∷ codes "no passage" ∷ codes "no move" ∷ codes "no board" ∷ codes "no other board"
    ∷ codes "not equivalent" ∷ codes "no such deal" ∷ codes "no such column" ∷ codes "too little room"
    ∷ no_words ∷ no_words ∷ no_words ∷ no_words ∷ no_words ∷ no_words ∷ codes "not canonical" ∷ codes "not ascending" ∷ codes "won" ∷ codes "open"
    ∷ codes "not closed" ∷ codes "not among the keys" ∷ []

-- the words of an answer, by the numbers that answers have
abbrev pub words_if_any : ℕ → Option Text
words_if_any answer =
    if nat_lt answer 32 then slice_get call_words answer
    else if nat_lt answer 64 then option_map step_reason (reason_of answer)
    else if nat_lt answer 180 then option_map fault_words (fault_kind_of answer)
    else None

abbrev pub answer_words : ℕ → Text
answer_words answer = unwrap_or (words_if_any answer) no_words
