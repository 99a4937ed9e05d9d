-- The first line of what is left of a text, and what follows it.
use Rattle.std.proofs.Common.{◌++◌, ◌+◌, ◌-◌, ◌<◌, ◌∙◌, ◌∷◌, ◌≡◌, ◌≤◌, ◌⊎◌, [], All, ap, ap₂, arith, Bool, cond, drop}
use Rattle.std.proofs.Common.{drop-drop, eqb, false, get_or, inl, inr, length, length-append, List, min, not, refl}
use Rattle.std.proofs.{Common.{subst, suc, sym, take, true, ℕ}, lemmas.{Bool.Decides.{leb_tells}, List.{drop_more}}}
use Rattle.std.proofs.{lemmas.List.{Elements.{All-head}, length-drop}, Math.ListN.{drop_of_length-le}}
use Rattle.std.{proofs.Math.Seq.{take-length}, specs.List.{position_or_len}}
use Rattle.std.proofs.Math.Numerals.{one-add}
use Rattle.fc_text.specs.Lines.{in_line, IsPieceOf, lines_from, Piece}

-- ---- the first line

line_cons : (place byte : ℕ) (rest : List ℕ) (b : Bool) → eqb byte 10 ≡ b
    → lines_from place (byte ∷ rest) ≡ cond b (record { start = place; bytes = [] } ∷ lines_from (place + 1) rest) (in_line place byte (lines_from (place + 1) rest))
line_cons place byte rest b e = ap (λ b. cond b (record { start = place; bytes = [] } ∷ lines_from (place + 1) rest) (in_line place byte (lines_from (place + 1) rest))) e

abbrev is_feed : ℕ → Bool
is_feed byte = eqb byte 10

-- the bytes before the first line feed, and how many there are
abbrev FirstLine : ℕ → List ℕ → ℕ → Type 0
FirstLine place text k = lines_from place text ≡ record { start = place; bytes = take k text } ∷ lines_from (place + k + 1) (drop (k + 1) text)

first_by : (place byte : ℕ) (rest : List ℕ) (b : Bool) → eqb byte 10 ≡ b
    → (b ≡ false → (lines_from (place + 1) rest ≡ []) × (rest ≡ []) ⊎ FirstLine (place + 1) rest (position_or_len is_feed rest))
    → FirstLine place (byte ∷ rest) (cond (not b) (1 + position_or_len is_feed rest) 0)
first_by place byte rest true e later =
    line_cons place byte rest true e ∙ ap (λ p. record { start = place; bytes = [] } ∷ lines_from p rest) (omega arith)
first_by place byte rest false e later = line_cons place byte rest false e ∙ joined (later refl)
  where
    k : ℕ
    k = position_or_len is_feed rest

    suc_sum : 1 + k + 1 ≡ suc (k + 1)
    suc_sum = omega arith

    joined : (lines_from (place + 1) rest ≡ []) × (rest ≡ []) ⊎ FirstLine (place + 1) rest k
        → in_line place byte (lines_from (place + 1) rest)
        ≡ record { start = place; bytes = take (1 + k) (byte ∷ rest) } ∷ lines_from (place + (1 + k) + 1) (drop (1 + k + 1) (byte ∷ rest))
    joined (inl (none, empty)) = rw (none, empty)
    joined (inr found) = let place_is : place + (1 + k) + 1 ≡ place + 1 + k + 1 = omega arith in rw (found, place_is, suc_sum, one-add k)

-- the first line of a text ends before its first line feed, or with the text
pub line_first : (place byte : ℕ) (rest : List ℕ) → FirstLine place (byte ∷ rest) (position_or_len is_feed (byte ∷ rest))
line_first place byte [] = first_by place byte [] (eqb byte 10) refl (λ e. inl (refl, refl))
line_first place byte (next ∷ rest) = first_by place byte (next ∷ rest) (eqb byte 10) refl (λ e. inr (line_first (place + 1) next rest))

-- ---- what is left of a text from a place on

-- a first line of so many bytes
abbrev NextLine : List ℕ → ℕ → ℕ → Type 0
NextLine text at k = lines_from at (drop at text) ≡ record { start = at; bytes = take k (drop at text) } ∷ lines_from (at + k + 1) (drop (at + k + 1) text)

first_of_rest : (text : List ℕ) (at : ℕ) → at < length text → NextLine text at (position_or_len is_feed (drop at text))
first_of_rest text at inside =
    of_split (drop at text) (drop_more text at 0 inside)
    ∙ ap (λ bytes. record { start = at; bytes = take len (drop at text) } ∷ lines_from (at + len + 1) bytes) (drop-drop (len + 1) at text ∙ ap (λ n. drop n text) (omega arith))
  where
    len : ℕ
    len = position_or_len is_feed (drop at text)

    of_split : (bytes : List ℕ) → bytes ≡ get_or text at 0 ∷ drop (at + 1) text → FirstLine at bytes (position_or_len is_feed bytes)
    of_split bytes e = subst (λ bytes. FirstLine at bytes (position_or_len is_feed bytes)) (sym e) (line_first at (get_or text at 0) (drop (at + 1) text))

-- no line begins at the end of a text or after it
pub no_next_line : (text : List ℕ) (at : ℕ) → length text ≤ at → lines_from at (drop at text) ≡ []
no_next_line text at past = ap (lines_from at) (drop_of_length-le text past)

-- the place after a line feed is within the text, or nothing follows it
within_text : (text : List ℕ) (n at : ℕ) → at ≡ min (length text) n → lines_from n (drop n text) ≡ lines_from at (drop at text)
within_text text n at e = elim (leb_tells n (length text)) [
  | inl (b, h) ↦ ap (λ at. lines_from at (drop at text)) (omega (arith, e, h))
  | inr (b, h) ↦ no_next_line text n (omega arith) ∙ sym (no_next_line text at (omega (arith, e, h)))
]

-- the line whose slice an iterator takes, and those that it has left then
pub next_line : (text : List ℕ) (at k next : ℕ) → at < length text
    → k ≡ position_or_len is_feed (take (length text - at) (drop at text)) → next ≡ min (length text) (at + k + 1)
    → lines_from at (drop at text) ≡ record { start = at; bytes = take (at + k - at) (drop at text) } ∷ lines_from next (drop next text)
next_line text at k next inside long follows =
    subst (NextLine text at) (sym same) (first_of_rest text at inside)
    ∙ ap₂ (λ n lines. record { start = at; bytes = take n (drop at text) } ∷ lines) (omega arith) (within_text text (at + k + 1) next follows)
  where
    same : k ≡ position_or_len is_feed (drop at text)
    same = long ∙ ap (position_or_len is_feed) (ap (λ n. take n (drop at text)) (sym (length-drop at text)) ∙ take-length (drop at text))

-- a line ends within the text
pub piece_within : (text : List ℕ) (line : Piece) → IsPieceOf 0 text line → line.start + length line.bytes ≤ length text
piece_within text line is_piece =
    let starts = is_piece.starts in
    let whole = ap length is_piece.text_is in
    let parts = length-append is_piece.before (line.bytes ++ is_piece.after) in
    let follows = length-append line.bytes is_piece.after in
    omega arith

pub line_within : (text : List ℕ) (left : List Piece) (line : Piece) (next : List Piece) → All (IsPieceOf 0 text) left → left ≡ line ∷ next
    → line.start + length line.bytes ≤ length text
line_within text left line next stand e = piece_within text line (All-head (IsPieceOf 0 text) line next (subst (All (IsPieceOf 0 text)) e stand))
