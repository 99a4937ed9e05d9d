use Rattle.std.proofs.Common.{◌∙◌, ◌∷◌, ◌≡◌, [], ap, ap₂, arith, length, List, None, Option, refl, slice_index, sym, ℕ}
use Rattle.std.specs.{Char.{to_ascii_lowercase}, Option.{option_and_then, option_map}}
use Rattle.fc_board.specs.{Games.{Game}, Moves.{move_between}}
use Rattle.fc_board.specs.declared.moves.{Move.{Move}, Place.{Place}, Source.{Source}}
use Rattle.fc_text.specs.reader.{move_named, move_of_two, target_named}
use Rattle.fc_text.proofs.named.move_named.Goals as goal

other_length : (game : Game) (word : List ℕ) → ¬ (length word ≡ 2) → None ≡ move_named game word
other_length game [] other = refl
other_length game (source ∷ []) other = refl
other_length game (source ∷ target ∷ []) other = absurd (other refl)
other_length game (source ∷ target ∷ third ∷ rest) other = refl

abbrev moved : Option Source → Option Place → Option Move
moved source target = option_and_then (λ from. option_map (λ to. move_between from to) target) source

by_characters : (game : Game) (word : List ℕ) → length word ≡ 2
    → move_named game word ≡ move_of_two game (to_ascii_lowercase (slice_index word 0) ∷ to_ascii_lowercase (slice_index word 1) ∷ [])
by_characters game [] two = absurd (omega arith)
by_characters game (source ∷ []) two = absurd (omega arith)
by_characters game (source ∷ target ∷ []) two = refl
by_characters game (source ∷ target ∷ third ∷ rest) two = absurd (omega arith)

pub returns-then-word-ne2 : goal.returns-then-word-ne2
returns-then-word-ne2 g c = other_length g.R.Rule.game c.args.word.now c.if-word-ne2.true

pub returns-in_err-from : goal.returns-in_err-from
returns-in_err-from g c =
    let game = g.R.Rule.game in
    let word = c.args.word.now in
    c.from_residual.ensures
    ∙ ap (λ source. moved source (target_named game (to_ascii_lowercase (slice_index word 1)))) (sym (c.in_err-from.was) ∙ c.source_of.ensures)
    ∙ sym (by_characters game word (omega arith))

pub returns-in_err-to : goal.returns-in_err-to
returns-in_err-to g c =
    c.from_residual-in_err-to.ensures
    ∙ ap₂ moved (sym c.in_ok-from.was ∙ c.source_of.ensures) (sym c.in_err-to.was ∙ c.target_of.ensures)
    ∙ sym (by_characters g.R.Rule.game c.args.word.now (omega arith))

pub returns : goal.returns
returns g c =
    ap₂ moved (sym c.in_ok-from.was ∙ c.source_of.ensures) (sym c.in_ok-to.was ∙ c.target_of.ensures)
    ∙ sym (by_characters g.R.Rule.game c.args.word.now (omega arith))
