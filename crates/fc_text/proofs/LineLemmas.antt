-- The lines of a text give it back, follow one another in it, and hold no line feeds; a line that a line feed ends comes first. The end
-- of a line without a carriage return.
use Rattle.std.proofs.Common.{◌++◌, ◌+◌, ◌∙◌, ◌∷◌, ◌≡◌, ◌≢◌, ◌⊎◌, [], All, ap, append_assoc, ap₂, arith, Bool, cond}
use Rattle.std.proofs.Common.{eqb, false, inl, inr, length, length-append, List, map, refl, subst, suc, sym, true, ℕ}
use Rattle.std.proofs.lemmas.Bool.{cases_eq, Decides.{eqb_tells}, ne_eqb}
use Rattle.std.proofs.lemmas.List.Elements.{All-cons, All-head, All-nil, All-tail, All-weaker}
use Rattle.fc_text.proofs.PieceLemmas.{front, front_piece, later_piece, not_nothing, same_after, StartAt}
use Rattle.fc_text.{proofs.WordLemmas.{same_run}, specs.Bytes.{carriage_return, line_feed}}
use Rattle.fc_text.specs.Lines.{in_line, IsPieceOf, lines_from, moved, Piece, trim_carriage_return, with_line_feeds}

-- a byte of a line
abbrev pub InLine : ℕ → Type 0
InLine byte = byte ≢ line_feed

pub in_line-first : (place byte : ℕ) (rest : List ℕ) → InLine byte → lines_from place (byte ∷ rest) ≡ in_line place byte (lines_from (place + 1) rest)
in_line-first place byte rest on = rw (ne_eqb byte line_feed on)

pub line_ends : (place byte : ℕ) (rest : List ℕ) → byte ≡ line_feed
    → lines_from place (byte ∷ rest) ≡ record { start = place; bytes = [] } ∷ lines_from (place + 1) rest
line_ends place byte rest e = rw e

-- a property of the lines of all texts, by their first bytes
lines_all : (P : ℕ → List ℕ → List Piece → Type 0)
    → ((place : ℕ) → P place [] [])
    → ((place : ℕ) (rest : List ℕ) (lines : List Piece) → P (place + 1) rest lines → P place (line_feed ∷ rest) (record { start = place; bytes = [] } ∷ lines))
    → ((place byte : ℕ) (rest : List ℕ) (lines : List Piece) → InLine byte → P (place + 1) rest lines → P place (byte ∷ rest) (in_line place byte lines))
    → (place : ℕ) (text : List ℕ) → P place text (lines_from place text)
lines_all P none at_end on place [] = none place
lines_all P none at_end on place (byte ∷ rest) = elim (cases_eq byte line_feed) [
  | inl e ↦ rw e (at_end place rest (lines_from (place + 1) rest) (lines_all P none at_end on (place + 1) rest))
  | inr other ↦ rw (in_line-first place byte rest other) (on place byte rest (lines_from (place + 1) rest) other (lines_all P none at_end on (place + 1) rest))
]

-- ---- no line holds a line feed

pub lines_in_one_piece : (place : ℕ) (text : List ℕ) → All (λ line. All InLine line.bytes) (lines_from place text)
lines_in_one_piece = lines_all (λ place text lines. All Whole lines) (λ place. All-nil Whole) (λ place rest lines are. All-cons Whole (record { start = place; bytes = [] }) lines (All-nil InLine) are) one_more
  where
    Whole : Piece → Type 0
    Whole line = All InLine line.bytes

    one_more : (place byte : ℕ) (rest : List ℕ) (lines : List Piece) → InLine byte → All Whole lines → All Whole (in_line place byte lines)
    one_more place byte rest [] on are = All-cons Whole (record { start = place; bytes = byte ∷ [] }) [] (All-cons InLine byte [] on (All-nil InLine)) are
    one_more place byte rest (line ∷ lines) on are =
        All-cons Whole (record { start = place; bytes = byte ∷ line.bytes }) lines (All-cons InLine byte line.bytes on (All-head Whole line lines are)) (All-tail Whole line lines are)

-- ---- where lines start

-- the first line starts here, and each further one after the line feed of the one before
abbrev InTurn : ℕ → List Piece → Type 0
InTurn place [] = Unit {0}
InTurn place (line ∷ lines) = (line.start ≡ place) × InTurn (place + length line.bytes + 1) lines

lines_in_turn : (place : ℕ) (text : List ℕ) → InTurn place (lines_from place text)
lines_in_turn = lines_all (λ place text lines. InTurn place lines) (λ place. tt) (λ place rest lines are. (refl, subst (λ at. InTurn at lines) (omega arith) are)) one_more
  where
    one_more : (place byte : ℕ) (rest : List ℕ) (lines : List Piece) → InLine byte → InTurn (place + 1) lines
        → InTurn place (in_line place byte lines)
    one_more place byte rest [] on are = (refl, tt)
    one_more place byte rest (line ∷ lines) on (starts, are) = (refl, subst (λ at. InTurn at lines) (omega arith) are)

pub line_starts : (place : ℕ) (text : List ℕ) (earlier : List Piece) (line : Piece) (later : List Piece)
    → lines_from place text ≡ earlier ++ line ∷ later
    → line.start ≡ place + length (with_line_feeds earlier)
line_starts place text earlier line later e = in_turn place earlier (subst (InTurn place) e (lines_in_turn place text))
  where
    in_turn : (place : ℕ) (earlier : List Piece) → InTurn place (earlier ++ line ∷ later) → line.start ≡ place + length (with_line_feeds earlier)
    in_turn place [] (starts, are) = starts ∙ omega arith
    in_turn place (first ∷ earlier) (starts, are) =
        let rest = in_turn (place + length first.bytes + 1) earlier are in
        let long = length-append (first.bytes ++ line_feed ∷ []) (with_line_feeds earlier) in
        let longer = length-append first.bytes (line_feed ∷ []) in
        omega arith

pub lines_are_pieces : (place : ℕ) (text : List ℕ) → All (IsPieceOf place text) (lines_from place text)
lines_are_pieces place text = (lines_all Stand (λ place. (tt, All-nil (IsPieceOf place []))) ended one_more place text).1
  where
    Stand : ℕ → List ℕ → List Piece → Type 0
    Stand place text lines = StartAt place lines × All (IsPieceOf place text) lines

    ended : (place : ℕ) (rest : List ℕ) (lines : List Piece) → Stand (place + 1) rest lines
        → Stand place (line_feed ∷ rest) (record { start = place; bytes = [] } ∷ lines)
    ended place rest lines (starts, are) = (
      refl,
      All-cons (IsPieceOf place (line_feed ∷ rest)) (record { start = place; bytes = [] }) lines (front_piece place [] (line_feed ∷ rest))
          (All-weaker (IsPieceOf (place + 1) rest) (IsPieceOf place (line_feed ∷ rest)) (λ line is_piece. later_piece place line_feed rest line is_piece) lines are),
    )

    one_more : (place byte : ℕ) (rest : List ℕ) (lines : List Piece) → InLine byte → Stand (place + 1) rest lines
        → Stand place (byte ∷ rest) (in_line place byte lines)
    one_more place byte rest [] on (starts, are) = (
      refl,
      All-cons (IsPieceOf place (byte ∷ rest)) (record { start = place; bytes = byte ∷ [] }) [] (front_piece place (byte ∷ []) rest) (All-nil (IsPieceOf place (byte ∷ rest))),
    )
    one_more place byte rest (line ∷ lines) on (starts, are) =
        let is_piece = All-head (IsPieceOf (place + 1) rest) line lines are in (
          refl,
          All-cons (IsPieceOf place (byte ∷ rest)) (record { start = place; bytes = byte ∷ line.bytes }) lines
              (record { before = []; after = is_piece.after; text_is = ap (λ rest. byte ∷ rest) (front (place + 1) rest line is_piece starts); starts = omega arith })
              (All-weaker (IsPieceOf (place + 1) rest) (IsPieceOf place (byte ∷ rest)) (λ line is_piece. later_piece place byte rest line is_piece) lines (All-tail (IsPieceOf (place + 1) rest) line lines are)),
        )

-- ---- lines give their text back

-- once the end of a text is given back, what is before it is too
given_back : (bytes tail given : List ℕ) → ((place : ℕ) → with_line_feeds (lines_from place tail) ≡ given) → ((e : given ≡ []) → ⊥)
    → (place : ℕ) → with_line_feeds (lines_from place (bytes ++ tail)) ≡ bytes ++ given
given_back [] tail given end some place = end place
given_back (byte ∷ bytes) tail given end some place =
    let later = given_back bytes tail given end some (place + 1) in
    elim (cases_eq byte line_feed) [
      | inl e ↦ ap with_line_feeds (line_ends place byte (bytes ++ tail) e) ∙ ap₂ (λ first rest. first ∷ rest) (sym e) later
      | inr other ↦ ap with_line_feeds (in_line-first place byte (bytes ++ tail) other) ∙ one_more (lines_from (place + 1) (bytes ++ tail)) later
    ]
  where
    nothing : (bytes : List ℕ) → [] ≡ bytes ++ given → given ≡ []
    nothing [] e = sym e
    nothing (byte ∷ bytes) e = absurd (cc)

    one_more : (lines : List Piece) → with_line_feeds lines ≡ bytes ++ given → with_line_feeds (in_line place byte lines) ≡ byte ∷ bytes ++ given
    one_more [] e = absurd (some (nothing bytes e))
    one_more (line ∷ lines) e = ap (λ rest. byte ∷ rest) e

pub ended_text : (place : ℕ) (bytes : List ℕ) → with_line_feeds (lines_from place (bytes ++ line_feed ∷ [])) ≡ bytes ++ line_feed ∷ []
ended_text place bytes = given_back bytes (line_feed ∷ []) (line_feed ∷ []) (λ place. refl) (λ e. absurd (cc)) place

pub text_without_end : (place : ℕ) (bytes : List ℕ) (last : ℕ) → last ≢ line_feed
    → with_line_feeds (lines_from place (bytes ++ last ∷ [])) ≡ bytes ++ last ∷ line_feed ∷ []
text_without_end place bytes last on = given_back bytes (last ∷ []) (last ∷ line_feed ∷ []) (λ place. ap with_line_feeds (in_line-first place last [] on)) (λ e. absurd (cc)) place

abbrev is_line_feed : ℕ → Bool
is_line_feed byte = eqb byte line_feed

no_line_feed : (bytes : List ℕ) → All InLine bytes → All (λ byte. is_line_feed byte ≡ false) bytes
no_line_feed bytes are = All-weaker InLine (λ byte. is_line_feed byte ≡ false) (λ byte on. ne_eqb byte line_feed on) bytes are

line_feed_first : (rest : List ℕ) (byte : ℕ) (later : List ℕ) → line_feed ∷ rest ≡ byte ∷ later → is_line_feed byte ≡ true
line_feed_first rest byte later e = let same : line_feed ≡ byte = cc in ap is_line_feed (sym same)

no_end : (bytes rest : List ℕ) → [] ≡ bytes ++ line_feed ∷ [] ++ rest → ⊥
no_end [] rest e = absurd (cc)
no_end (byte ∷ bytes) rest e = absurd (cc)

-- the bytes of lines are known by what the lines give back
pub lines_of_bytes : (lines others : List Piece) → All (λ line. All InLine line.bytes) lines → All (λ line. All InLine line.bytes) others
    → with_line_feeds lines ≡ with_line_feeds others → map (λ line. line.bytes) lines ≡ map (λ line. line.bytes) others
lines_of_bytes [] [] are are' e = refl
lines_of_bytes [] (other ∷ others) are are' e = absurd (no_end other.bytes (with_line_feeds others) e)
lines_of_bytes (line ∷ lines) [] are are' e = absurd (no_end line.bytes (with_line_feeds lines) (sym e))
lines_of_bytes (line ∷ lines) (other ∷ others) are are' e =
    let whole : line.bytes ++ (line_feed ∷ with_line_feeds lines) ≡ other.bytes ++ (line_feed ∷ with_line_feeds others) =
    sym (append_assoc line.bytes (line_feed ∷ []) (with_line_feeds lines)) ∙ e ∙ append_assoc other.bytes (line_feed ∷ []) (with_line_feeds others) in
    let same = same_run is_line_feed line.bytes other.bytes (line_feed ∷ with_line_feeds lines) (line_feed ∷ with_line_feeds others) whole
    (no_line_feed line.bytes (All-head (λ line. All InLine line.bytes) line lines are)) (no_line_feed other.bytes (All-head (λ line. All InLine line.bytes) other others are'))
    (line_feed_first (with_line_feeds lines)) (line_feed_first (with_line_feeds others)) in
    let tails = same_after line.bytes other.bytes (line_feed ∷ with_line_feeds lines) (line_feed ∷ with_line_feeds others) whole (ap length same) in
    ap₂ (λ bytes rest. bytes ∷ rest) same
    (lines_of_bytes lines others (All-tail (λ line. All InLine line.bytes) line lines are) (All-tail (λ line. All InLine line.bytes) other others are') (cc))

-- ---- moved lines

pub lines_from-moved : (places place : ℕ) (text : List ℕ) → lines_from (places + place) text ≡ map (moved places) (lines_from place text)
lines_from-moved places = lines_all (λ place text lines. lines_from (places + place) text ≡ map (moved places) lines) (λ place. refl)
    (λ place rest lines e. ap (λ lines. record { start = places + place; bytes = [] } ∷ lines) (ap (λ at. lines_from at rest) (omega arith) ∙ e))
    (λ place byte rest lines on e. in_line-first (places + place) byte rest on ∙ ap (in_line (places + place) byte) (ap (λ at. lines_from at rest) (omega arith) ∙ e) ∙ one_more place byte lines)
  where
    one_more : (place byte : ℕ) (lines : List Piece)
        → in_line (places + place) byte (map (moved places) lines) ≡ map (moved places) (in_line place byte lines)
    one_more place byte [] = refl
    one_more place byte (line ∷ lines) = refl

-- ---- two texts with a line feed between them

in_line-append : (place byte : ℕ) (lines later : List Piece) → lines ≢ [] → in_line place byte (lines ++ later) ≡ in_line place byte lines ++ later
in_line-append place byte [] later some = absurd (some refl)
in_line-append place byte (line ∷ lines) later some = refl

pub lines_joined : (place : ℕ) (text next : List ℕ)
    → lines_from place (text ++ line_feed ∷ next) ≡ lines_from place (text ++ line_feed ∷ []) ++ lines_from (place + (length text + 1)) next
lines_joined place [] next = refl
lines_joined place (byte ∷ text) next =
    let rest = lines_joined (place + 1) text next ∙ ap (λ at. lines_from (place + 1) (text ++ line_feed ∷ []) ++ lines_from at next) (follows (length text)) in
    elim (cases_eq byte line_feed) [
      | inl e ↦
          line_ends place byte (text ++ line_feed ∷ next) e
          ∙ ap (λ lines. record { start = place; bytes = [] } ∷ lines) rest
          ∙ ap (λ lines. lines ++ lines_from (place + (length (byte ∷ text) + 1)) next) (sym (line_ends place byte (text ++ line_feed ∷ []) e))
      | inr other ↦
          in_line-first place byte (text ++ line_feed ∷ next) other
          ∙ ap (in_line place byte) rest
          ∙ in_line-append place byte (lines_from (place + 1) (text ++ line_feed ∷ [])) (lines_from (place + (length (byte ∷ text) + 1)) next)
          (λ none. not_nothing text line_feed (ap with_line_feeds (sym none) ∙ ended_text (place + 1) text))
          ∙ ap (λ lines. lines ++ lines_from (place + (length (byte ∷ text) + 1)) next) (sym (in_line-first place byte (text ++ line_feed ∷ []) other))
    ]
  where
    follows : (n : ℕ) → place + 1 + (n + 1) ≡ place + (suc n + 1)
    follows n = omega arith

pub lines_join : (text next : List ℕ) → lines_from 0 (text ++ line_feed ∷ next) ≡ lines_from 0 (text ++ line_feed ∷ []) ++ map (moved (length text + 1)) (lines_from 0 next)
lines_join text next =
    lines_joined 0 text next
    ∙ ap (λ at. lines_from 0 (text ++ line_feed ∷ []) ++ lines_from at next) (follows (length text))
    ∙ ap (λ lines. lines_from 0 (text ++ line_feed ∷ []) ++ lines) (lines_from-moved (length text + 1) 0 next)
  where
    follows : (n : ℕ) → 0 + (n + 1) ≡ n + 1 + 0
    follows n = omega arith

-- a carriage return at the end is cut off, and no more
pub one_return_cut : (bytes : List ℕ) → trim_carriage_return (bytes ++ carriage_return ∷ []) ≡ bytes
one_return_cut [] = refl
one_return_cut (byte ∷ []) = refl
one_return_cut (byte ∷ next ∷ rest) = ap (λ line. byte ∷ line) (one_return_cut (next ∷ rest))

-- ---- texts that begin with a line

-- a line that a line feed ends comes first
pub first_line : (place : ℕ) (line rest : List ℕ) → All InLine line
    → lines_from place (line ++ line_feed ∷ rest) ≡ record { start = place; bytes = line } ∷ lines_from (place + length line + 1) rest
first_line place [] rest are = ap (λ p. record { start = place; bytes = [] } ∷ lines_from p rest) (omega arith)
first_line place (byte ∷ line) rest are =
    in_line-first place byte (line ++ line_feed ∷ rest) (All-head InLine byte line are)
    ∙ ap (in_line place byte) (first_line (place + 1) line rest (All-tail InLine byte line are))
    ∙ ap (λ p. record { start = place; bytes = byte ∷ line } ∷ lines_from p rest) (omega arith)

-- ---- the end of a line

pub return_cut : (front : List ℕ) → front ≡ trim_carriage_return (front ++ 13 ∷ [])
return_cut [] = refl
return_cut (byte ∷ []) = refl
return_cut (byte ∷ next ∷ rest) = ap (λ bytes. byte ∷ bytes) (return_cut (next ∷ rest))

pub return_kept : (front : List ℕ) (last : ℕ) → eqb last 13 ≡ false → front ++ last ∷ [] ≡ trim_carriage_return (front ++ last ∷ [])
return_kept [] last e = sym (ap (λ b. cond b [] (last ∷ [])) e)
return_kept (byte ∷ []) last e = ap (λ bytes. byte ∷ bytes) (return_kept [] last e)
return_kept (byte ∷ next ∷ rest) last e = ap (λ bytes. byte ∷ bytes) (return_kept (next ∷ rest) last e)

pub cut_off : (line front : List ℕ) (last : ℕ) → line ≡ front ++ last ∷ [] → last ≡ 13 → front ≡ trim_carriage_return line
cut_off line front last split e = return_cut front ∙ ap (λ byte. trim_carriage_return (front ++ byte ∷ [])) (sym e) ∙ ap trim_carriage_return (sym split)

pub left_on : (line front : List ℕ) (last : ℕ) → line ≡ front ++ last ∷ [] → last ≢ 13 → line ≡ trim_carriage_return line
left_on line front last split other =
    split ∙ return_kept front last (ensured (eqb_tells last 13)) ∙ ap trim_carriage_return (sym split)
  where
    ensured : ((eqb last 13 ≡ true) × (last ≡ 13)) ⊎ ((eqb last 13 ≡ false) × (last ≢ 13)) → eqb last 13 ≡ false
    ensured (inl (test, e)) = absurd (other e)
    ensured (inr (test, e)) = test
