-- Items that are read one after another into places that were empty.
use Rattle.std.proofs.Common.{◌++◌, ◌+◌, ◌-◌, ◌<◌, ◌∙◌, ◌∷◌, ◌≡◌, ◌≢◌, ◌≤◌, [], All, ap, append-nil, append_assoc, ap₂}
use Rattle.std.proofs.Common.{arith, drop, drop-drop, length, length-append, List, refl, set, slice_range, slice_set}
use Rattle.std.proofs.{Common.{subst, sym, take, ℕ}, lemmas.{Grind.{flat_map-append}, List.{drop-set-add, drop-set-lt}}}
use Rattle.std.proofs.lemmas.List.{Elements.{All-drop}, length-drop, length-take-le, take-append-drop, take_more_set}
use Rattle.std.{proofs.Math.Seq.{drop-append_seam, take-append_seam}, specs.List.{flat_map}}
use Rattle.fc_text.specs.Lines.{IsPieceOf, Piece}

module _ {X : Type 0} (xs : List X) (at : ℕ) (x : X) where
  -- one more item's text after those of the items that are read
  pub text_next : (print : X → List ℕ) (rest : List ℕ) → at < length xs
      → flat_map print (take at xs) ++ (print x ++ rest) ≡ flat_map print (take (at + 1) (slice_set xs at x)) ++ rest
  text_next print rest inside =
      sym (append_assoc (flat_map print (take at xs)) (print x) rest)
      ∙ ap (λ text. (flat_map print (take at xs) ++ text) ++ rest) (sym (append-nil (print x)))
      ∙ ap (λ text. text ++ rest) (sym (flat_map-append print (take at xs) (x ∷ [])))
      ∙ ap (λ ys. flat_map print ys ++ rest) (sym (take_more_set xs at x inside))

  -- the places after it stay as they were
  pub left_next : (P : X → Type 0) → All P (drop at xs) → All P (drop (at + 1) (slice_set xs at x))
  left_next P are =
      subst (All P) (sym (drop-set-lt (at + 1) xs at x (omega (arith))))
      (subst (All P) (drop-drop 1 at xs) (All-drop P 1 (drop at xs) are))

pub longer_range : (cards : List ℕ) (from n card : ℕ) → from ≤ n → n < length cards → slice_range (set cards n card) from (n + 1) ≡ slice_range cards from n ++ card ∷ []
longer_range cards from n card up inside =
    ap (λ place. take (n + 1 - from) (drop from (set cards place card))) (let e : n ≡ from + (n - from) = omega arith in e)
    ∙ ap (take (n + 1 - from)) (drop-set-add from cards (n - from) card)
    ∙ ap (λ k. take k (set (drop from cards) (n - from) card)) (let e : n + 1 - from ≡ n - from + 1 = omega arith in e)
    ∙ take_more_set (drop from cards) (n - from) card (omega (arith, length-drop from cards))

-- ---- pieces at the front of a text, after one byte more, and cut from their text

-- a piece of what follows a byte is a piece of the whole
abbrev pub later_piece : (place byte : ℕ) (rest : List ℕ) (piece : Piece) → IsPieceOf (place + 1) rest piece → IsPieceOf place (byte ∷ rest) piece
later_piece place byte rest piece is_piece = record {
  before = byte ∷ is_piece.before;
  after = is_piece.after;
  text_is = ap (λ text. byte ∷ text) is_piece.text_is;
  starts = let e = is_piece.starts in omega arith;
}

abbrev pub front_piece : (place : ℕ) (bytes after : List ℕ) → IsPieceOf place (bytes ++ after) (record { start = place; bytes = bytes })
front_piece place bytes after = record { before = []; after = after; text_is = refl; starts = omega arith }

pub of_no_length : {X : Type 0} (xs : List X) → length xs ≡ 0 → xs ≡ []
of_no_length [] e = refl
of_no_length (x ∷ xs) e = absurd (omega arith)

-- a piece that starts where the text does is its front
pub front : (place : ℕ) (text : List ℕ) (piece : Piece) (is_piece : IsPieceOf place text piece) → piece.start ≡ place → text ≡ piece.bytes ++ is_piece.after
front place text piece is_piece e = is_piece.text_is ∙ ap (λ before. before ++ (piece.bytes ++ is_piece.after)) (of_no_length is_piece.before (let s = is_piece.starts in omega arith))

-- ---- pieces are cut from their text

pub cut_out : (place : ℕ) (text : List ℕ) (piece : Piece) → IsPieceOf place text piece
    → (place ≤ piece.start) × (piece.start + length piece.bytes ≤ place + length text) × (take (length piece.bytes) (drop (piece.start - place) text) ≡ piece.bytes)
cut_out place text piece is_piece =
    let starts = is_piece.starts in
    let long = ap length is_piece.text_is ∙ length-append is_piece.before (piece.bytes ++ is_piece.after) in
    let longer = length-append piece.bytes is_piece.after in
    let past : piece.start - place ≡ length is_piece.before = omega arith in (
      omega arith,
      omega arith,
      ap₂ (λ n text. take (length piece.bytes) (drop n text)) past is_piece.text_is
          ∙ ap (take (length piece.bytes)) (drop-append_seam is_piece.before (piece.bytes ++ is_piece.after))
          ∙ take-append_seam piece.bytes is_piece.after,
    )

pub cut_piece : (place : ℕ) (text : List ℕ) (piece : Piece) → place ≤ piece.start → piece.start + length piece.bytes ≤ place + length text
    → take (length piece.bytes) (drop (piece.start - place) text) ≡ piece.bytes → IsPieceOf place text piece
cut_piece place text piece from within cut =
    let past = drop (piece.start - place) text in
    record {
      before = take (piece.start - place) text;
      after = drop (length piece.bytes) past;
      text_is =
          sym (take-append-drop (piece.start - place) text)
          ∙ ap (λ rest. take (piece.start - place) text ++ rest) (sym (take-append-drop (length piece.bytes) past) ∙ ap (λ bytes. bytes ++ drop (length piece.bytes) past) cut);
      starts = let long = length-take-le (piece.start - place) text (omega arith) in omega arith;
    }

-- what follows two fronts of one length is the same
pub same_after : (before other tail follows : List ℕ) → before ++ tail ≡ other ++ follows → length before ≡ length other → tail ≡ follows
same_after [] [] tail follows e long = e
same_after [] (byte ∷ other) tail follows e long = absurd (omega arith)
same_after (byte ∷ before) [] tail follows e long = absurd (omega arith)
same_after (byte ∷ before) (byte' ∷ other) tail follows e long = same_after before other tail follows (cc) (omega arith)

-- a list that has a last element is not empty
pub not_nothing : {X : Type 0} (earlier : List X) (last : X) → [] ≢ earlier ++ last ∷ []
not_nothing [] last e = absurd (cc)
not_nothing (x ∷ earlier) last e = absurd (cc)

-- pieces of which the first, if there is one, starts here
abbrev pub StartAt : ℕ → List Piece → Type 0
StartAt place [] = Unit {0}
StartAt place (piece ∷ pieces) = piece.start ≡ place
