-- What a text of moves is read as. It rests on how words of moves are read, which rests on `Lib.antt`.
use Rattle.{fc_card.specs.Types.{Text}, std.specs.Prelude.{List, Result}}
use Rattle.fc_board.specs.{declared.{moves.Move.{Move}, run_move.RunMove.{RunMove}}, Games.{Game}}
use Rattle.fc_text.specs.{Lines.{words_from}, Notation.{listed_by, ListFault, separates_tokens}}
use Rattle.fc_text.specs.reader.{move_named, run_named}

-- the moves of one card of the text, or its first fault
-- said again: lists_are_read
abbrev pub moves_read : Game → Text → Result (List Move) ListFault
moves_read game text = listed_by (move_named game) (words_from separates_tokens 0 text)

-- the moves of several cards of the text, or its first fault
-- said again: lists_of_runs_are_read
abbrev pub runs_read : Game → Text → Result (List RunMove) ListFault
runs_read game text = listed_by (run_named game) (words_from separates_tokens 0 text)
