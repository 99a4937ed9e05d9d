use Rattle.std.proofs.Common.{◌<◌, ◌∙◌, ◌∷◌, ◌≡◌, ◌≢◌, ◌≤◌, ◌⊎◌, [], ap, arith, cond, drop, inl, inr, length, List}
use Rattle.std.proofs.{Common.{None, Option, refl, slice_index_or, sym, take, ℕ}, lemmas.Bool.{eq-eqb, ne_eqb}}
use Rattle.std.{proofs.lemmas.List.{take_rest}, specs.Option.{option_and_then, option_map}}
use Rattle.fc_text.specs.{Bytes.{dash}, Spelling.{foundation_spelled, height_spelled, suit_spelled}}
use Rattle.fc_text.specs.declared.board.spelling.Foundation.{Foundation}
use Rattle.fc_text.proofs.board.spelling.foundation_spelled.Goals as goal
use Rattle.fc_text.proofs.board.spelling.foundation_spelled.Goals.{then-word-lt2-via-else-word-lt2+then-word-ne45}
use Rattle.fc_text.proofs.board.spelling.foundation_spelled.Goals.{then-word-lt2-via-then-word-lt2}

abbrev with_height : ℕ → Option ℕ → Option Foundation
with_height suit height = option_map (λ height. record { suit = suit; height = height }) height

abbrev with_suit : List ℕ → Option ℕ → Option Foundation
with_suit rest suit = option_and_then (λ suit. with_height suit (height_spelled rest)) suit

-- a dash is between a suit and a height
parts : (word : List ℕ) → 2 ≤ length word → slice_index_or word 1 0 ≡ dash → with_suit (drop 2 word) (suit_spelled (take 1 word)) ≡ foundation_spelled word
parts [] some mark = absurd (omega (arith, some))
parts (letter ∷ []) some mark = absurd (omega (arith, some))
parts (letter ∷ byte ∷ rest) some mark = ap (λ b. cond b (with_suit rest (suit_spelled (letter ∷ []))) None) (sym (eq-eqb byte dash mark))

no_foundation : (word : List ℕ) → (length word < 2) ⊎ (slice_index_or word 1 0 ≢ dash) → None ≡ foundation_spelled word
no_foundation [] out = refl
no_foundation (letter ∷ []) out = refl
no_foundation (letter ∷ byte ∷ rest) (inl few) = absurd (omega (arith, few))
no_foundation (letter ∷ byte ∷ rest) (inr other) = ap (λ b. cond b (with_suit rest (suit_spelled (letter ∷ []))) None) (sym (ne_eqb byte dash other))

pub returns-then-word-lt2-clause-spelled : goal.returns-then-word-lt2-clause-spelled
returns-then-word-lt2-clause-spelled c =
    elim c.then-word-lt2.branch [
      | then-word-lt2-via-then-word-lt2 w ↦ no_foundation c.args.word.now (inl w.if-word-lt2.true)
      | then-word-lt2-via-else-word-lt2+then-word-ne45 w ↦ no_foundation c.args.word.now (inr w.if-word-ne45.true)
    ]

pub returns-in_err-suit-clause-spelled : goal.returns-in_err-suit-clause-spelled
returns-in_err-suit-clause-spelled c =
    c.from_residual.ensures
    ∙ ap (with_suit (drop 2 c.args.word.now)) c.in_err-suit.ensures
    ∙ parts c.args.word.now c.if-word-lt2.false c.if-word-ne45.false

pub returns-in_err-height-clause-spelled : goal.returns-in_err-height-clause-spelled
returns-in_err-height-clause-spelled c =
    c.from_residual-in_err-height.ensures
    ∙ ap (with_height c.in_ok-suit.suit) (c.in_err-height.ensures ∙ ap height_spelled (take_rest c.args.word.now 2))
    ∙ ap (with_suit (drop 2 c.args.word.now)) c.in_ok-suit.ensures
    ∙ parts c.args.word.now c.if-word-lt2.false c.if-word-ne45.false

pub returns-clause-spelled : goal.returns-clause-spelled
returns-clause-spelled c =
    ap (with_height c.in_ok-suit.suit) (c.in_ok-height.ensures ∙ ap height_spelled (take_rest c.args.word.now 2))
    ∙ ap (with_suit (drop 2 c.args.word.now)) c.in_ok-suit.ensures
    ∙ parts c.args.word.now c.if-word-lt2.false c.if-word-ne45.false
