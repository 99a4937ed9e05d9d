-- A text with two blanks in place of each line feed, line by line.
use Rattle.{fc_record.specs.RecordTexts.{ends_line}, memchr.specs.Find.{is_byte, IsFirstByte, Nowhere, Passes}}
use Rattle.std.proofs.Common.{◌++◌, ◌+◌, ◌-◌, ◌<◌, ◌==◌, ◌∙◌, ◌∷◌, ◌≡◌, ◌≤◌, [], All, ap, append_assoc, ap₂, arith}
use Rattle.std.proofs.Common.{drop, Err, false, get_or, if◌then◌else◌, length, length-append, List, None, Ok, OnOk}
use Rattle.std.proofs.Common.{refl, Result, Some, subst, suc, sym, take, true, zero, ℕ}
use Rattle.std.proofs.lemmas.Bool.{eqb-true, false_from_ne_true}
use Rattle.std.proofs.lemmas.List.{Elements.{All-append, All-cons, All-head, All-nil, All-tail}, take_more}
use Rattle.std.specs.{List.{flat_map}, Result.{is_ok}}
use Rattle.fc_text.proofs.{LeavingLemmas.{rest_of}, LineLemmas.{first_line, InLine, lines_joined}}
use Rattle.fc_text.specs.{Bytes.{blank, line_feed}, Lines.{lines_from, Piece}}

abbrev pub apart : List ℕ → List ℕ
apart text = flat_map (λ byte. if byte == line_feed then blank ∷ blank ∷ [] else byte ∷ []) text

abbrev FeedAt : List ℕ → ℕ → Type 0
FeedAt = Passes (is_byte line_feed)

nowhere_later : (byte : ℕ) (text : List ℕ) (end : ℕ) → Nowhere (FeedAt (byte ∷ text)) 0 (suc end) → Nowhere (FeedAt text) 0 end
nowhere_later byte text end nowhere k low high = nowhere (suc k) (omega arith) (omega (arith, high))

-- a byte that ends no line stays
kept : (byte : ℕ) (text rest : List ℕ) → (byte == line_feed) ≡ false → apart text ≡ rest → apart (byte ∷ text) ≡ byte ∷ rest
kept byte text rest other e = ap (λ ends. (if ends then blank ∷ blank ∷ [] else byte ∷ []) ++ apart text) other ∙ ap (λ rest. byte ∷ rest) e

apart-line_less : (text : List ℕ) → Nowhere (FeedAt text) 0 (length text) → apart text ≡ text
apart-line_less [] nowhere = refl
apart-line_less (byte ∷ text) nowhere =
    kept byte text text (false_from_ne_true _ (nowhere 0 (omega arith) (omega arith)))
    (apart-line_less text (nowhere_later byte text (length text) nowhere))

apart-line : (text : List ℕ) (end : ℕ) → end < length text → FeedAt text end → Nowhere (FeedAt text) 0 end
    → apart text ≡ take end text ++ (blank ∷ blank ∷ apart (drop (suc end) text))
apart-line [] end below is nowhere = absurd (omega (arith, below))
apart-line (byte ∷ text) zero below is nowhere = ap (λ ends. (if ends then blank ∷ blank ∷ [] else byte ∷ []) ++ apart text) is
apart-line (byte ∷ text) (suc end) below is nowhere =
    kept byte text _ (false_from_ne_true _ (nowhere 0 (omega arith) (omega arith)))
    (apart-line text end (omega (arith, below)) is (nowhere_later byte text end nowhere))

-- after a line and two blanks are printed, what is left of the text is to be printed
pub apart-next : (left out first next whole : List ℕ) (end : ℕ) → IsFirstByte (is_byte line_feed) left (Some end)
    → out ++ apart left ≡ whole → first ≡ out ++ take end left → next ≡ first ++ blank ∷ blank ∷ []
    → next ++ apart (take (length left - (end + 1)) (drop (end + 1) left)) ≡ whole
apart-next left out first next whole end found e line blanks =
    let rest = apart (drop (suc end) left) in
    let later : end + 1 ≡ suc end = omega arith in
    ap₂ (λ front rest. front ++ apart rest) (blanks ∙ ap (λ front. front ++ blank ∷ blank ∷ []) line)
    (rest_of left (end + 1) ∙ ap (λ place. drop place left) later)
    ∙ append_assoc (out ++ take end left) (blank ∷ blank ∷ []) rest ∙ append_assoc out (take end left) (blank ∷ blank ∷ rest)
    ∙ ap (λ text. out ++ text) (sym (apart-line left end found.0.high found.1 found.0.before)) ∙ e

-- after the last line is printed, all is
pub apart-last : {E : Type 0} (r : Result (Unit {0}) E) (left out next whole : List ℕ) → IsFirstByte (is_byte line_feed) left None
    → out ++ apart left ≡ whole → next ≡ (if is_ok r then out ++ left else out) → OnOk r (next ≡ whole)
apart-last (Ok x) left out next whole nowhere e last = last ∙ ap (λ text. out ++ text) (sym (apart-line_less left nowhere)) ∙ e
apart-last (Err fault) left out next whole nowhere e last = tt

-- ---- the last byte

-- ---- texts that a line feed ends: their lines come one text after the other
pub ends_line-last : (xs : List ℕ) (b : ℕ) → ends_line (xs ++ b ∷ []) ≡ (b == line_feed)
ends_line-last [] b = refl
ends_line-last (x ∷ []) b = refl
ends_line-last (x ∷ y ∷ rest) b = ends_line-last (y ∷ rest) b

pub ends_line-take : (xs : List ℕ) (at : ℕ) → 0 < at → at ≤ length xs → ends_line (take at xs) ≡ (get_or xs (at - 1) 0 == line_feed)
ends_line-take xs at some within =
    let one : at ≡ at - 1 + 1 = omega arith in
    ap (λ n. ends_line (take n xs)) one ∙ ap ends_line (take_more xs (at - 1) 0 (omega arith)) ∙ ends_line-last (take (at - 1) xs) _

-- a text that ends a line is nothing, or ends with a line feed
pub last_byte : (byte : ℕ) (rest : List ℕ) → ends_line (byte ∷ rest) ≡ true → (text : List ℕ) × (byte ∷ rest ≡ text ++ line_feed ∷ [])
last_byte byte [] e = ([], ap (λ byte. byte ∷ []) (eqb-true byte line_feed e))
last_byte byte (next ∷ rest) e = let (text, is) = last_byte next rest e in (byte ∷ text, ap (λ more. byte ∷ more) is)

pub lines_after : (place : ℕ) (text next : List ℕ) → ends_line text ≡ true → lines_from place (text ++ next) ≡ lines_from place text ++ lines_from (place + length text) next
lines_after place [] next ends = ap (λ at. lines_from at next) (omega arith)
lines_after place (byte ∷ rest) next ends =
    let (text, is) = last_byte byte rest ends in
    let long : length (byte ∷ rest) ≡ length text + 1 = ap length is ∙ length-append text (line_feed ∷ []) in
    ap (λ front. lines_from place (front ++ next)) is
    ∙ ap (lines_from place) (append_assoc text (line_feed ∷ []) next)
    ∙ lines_joined place text next
    ∙ ap (λ at. lines_from place (text ++ line_feed ∷ []) ++ lines_from at next) (omega (arith, long))
    ∙ ap (λ front. lines_from place front ++ lines_from (place + length (byte ∷ rest)) next) (sym is)

pub ends-line_feed : (text : List ℕ) → ends_line (text ++ line_feed ∷ []) ≡ true
ends-line_feed [] = refl
ends-line_feed (byte ∷ []) = refl
ends-line_feed (byte ∷ next ∷ text) = ends-line_feed (next ∷ text)

pub ends-after : (text next : List ℕ) → ends_line text ≡ true → ends_line next ≡ true → ends_line (text ++ next) ≡ true
ends-after [] next ends ends' = ends'
ends-after (byte ∷ []) [] ends ends' = ends
ends-after (byte ∷ []) (first ∷ next) ends ends' = ends'
ends-after (byte ∷ second ∷ text) next ends ends' = ends-after (second ∷ text) next ends ends'

-- what is left of it ends a line too
pub ends-drop : (count : ℕ) (text : List ℕ) → ends_line text ≡ true → ends_line (drop count text) ≡ true
ends-drop zero text ends = ends
ends-drop (suc count) [] ends = refl
ends-drop (suc count) (byte ∷ []) ends = ends-drop count [] refl
ends-drop (suc count) (byte ∷ next ∷ text) ends = ends-drop count (next ∷ text) ends

-- ---- texts all of whose lines are so

-- the text ends a line, and each of its lines is so
pub record AreLines (P : List ℕ → Type 0) (text : List ℕ) : Type 0 where
  pub ends : ends_line text ≡ true
  pub lines : (place : ℕ) → All (λ line. P line.bytes) (lines_from place text)

module _ (P : List ℕ → Type 0) where
  abbrev IsSo : Piece → Type 0
  IsSo line = P line.bytes

  pub AreLines-none : AreLines P []
  AreLines-none = record { ends = refl; lines = λ place. All-nil IsSo }

  pub AreLines-line : (line : List ℕ) → All InLine line → P line → AreLines P (line ++ line_feed ∷ [])
  AreLines-line line are is = record {
    ends = ends-line_feed line;
    lines = λ place. subst (All IsSo) (sym (first_line place line [] are)) (All-cons IsSo (record { start = place; bytes = line }) [] is (All-nil IsSo));
  }

  pub AreLines-append : (text next : List ℕ) → AreLines P text → AreLines P next → AreLines P (text ++ next)
  AreLines-append text next are are' = record {
    ends = ends-after text next are.ends are'.ends;
    lines = λ place. subst (All IsSo) (sym (lines_after place text next are.ends))
        (All-append IsSo (lines_from place text) (lines_from (place + length text) next) (are.lines place) (are'.lines (place + length text)));
  }

  pub AreLines-flat_map : {X : Type 0} (text : X → List ℕ) (xs : List X) → All (λ x. AreLines P (text x)) xs → AreLines P (flat_map text xs)
  AreLines-flat_map text [] are = AreLines-none
  AreLines-flat_map text (x ∷ xs) are =
      AreLines-append (text x) (flat_map text xs) (All-head (λ x. AreLines P (text x)) x xs are) (AreLines-flat_map text xs (All-tail (λ x. AreLines P (text x)) x xs are))
