use Rattle.std.proofs.Common.{◌+◌, ◌-◌, ◌∙◌, ◌∷◌, ◌≡◌, ◌≢◌, [], ap, append-nil, cond, drop, length, List, None, Ok}
use Rattle.std.proofs.{Common.{refl, Some, subst, sym, take, ℕ}, lemmas.{Bool.{ne_eqb}, List.{take_rest}}}
use Rattle.std.specs.List.{prefix_len, slice_get}
use Rattle.fc_text.specs.{Bytes.{is_gap, number_sign}, Faults.{items_of_row}}
use Rattle.fc_text.specs.{Lines.{Piece, piece_of, trim_carriage_return}, reader.{items_of_line, Known, TakesItems}}
use Rattle.fc_text.specs.Rows.{Blank, Comment, Content, line_of, line_of_front, row_of}
use Rattle.fc_text.proofs.board.read_line.Goals as goal

-- a line is what is left of it once the blanks at its front are gone
past_blanks : (line : Piece) (text : List ℕ) (gap : ℕ) → text ≡ trim_carriage_return line.bytes → gap ≡ prefix_len is_gap text
    → line_of line ≡ line_of_front (line.start + gap) (take (length text - gap) (drop gap text))
past_blanks line text gap e e' =
    ap (λ bytes. line_of_front (line.start + prefix_len is_gap bytes) (drop (prefix_len is_gap bytes) bytes)) (sym e)
    ∙ ap (λ n. line_of_front (line.start + n) (drop n text)) (sym e')
    ∙ ap (line_of_front (line.start + gap)) (sym (take_rest text gap))

blank : (start : ℕ) (bytes : List ℕ) → None ≡ slice_get bytes 0 → line_of_front start bytes ≡ Blank start
blank start [] e = refl
blank start (byte ∷ rest) e = absurd (cc)

comment : (start : ℕ) (bytes : List ℕ) (byte : ℕ) → Some byte ≡ slice_get bytes 0 → byte ≡ number_sign → line_of_front start bytes ≡ Comment
comment start [] byte e sign = absurd (cc)
comment start (first ∷ rest) byte e sign = let same : first ≡ number_sign = cc in ap (λ first. line_of_front start (first ∷ rest)) same

held : (known : Known) (start : ℕ) (bytes : List ℕ) (byte : ℕ) → Some byte ≡ slice_get bytes 0 → byte ≢ number_sign
    → items_of_line known (line_of_front start bytes) ≡ items_of_row (row_of start bytes)
held known start [] byte e other = absurd (cc)
held known start (first ∷ rest) byte e other =
    ap (λ b. items_of_line known (cond b Comment (Content (row_of start (first ∷ rest))))) (ne_eqb first number_sign (λ same. other (cc)))
    ∙ append-nil (items_of_row (row_of start (first ∷ rest)))

pub returns-in-None : goal.returns-in-None
returns-in-None g c =
    subst (λ line. TakesItems g.R.Rule.game c.args.reader.now (items_of_line c.args.reader.now line) c.read_blank.new.reader c.read_blank.result)
    (sym (past_blanks (piece_of c.args.line) _ _ c.trim_carriage_return-text.ensures.value c.gap_len-gap.ensures.value ∙ blank _ _ c.in-None.ensures.value)) c.read_blank.ensures

pub returns-in-Some-eq35 : goal.returns-in-Some-eq35
returns-in-Some-eq35 g c =
    subst (λ line. TakesItems g.R.Rule.game c.args.reader.now (items_of_line c.args.reader.now line) c.args.reader.now (Ok (tt {0})))
    (sym (past_blanks (piece_of c.args.line) _ _ c.trim_carriage_return-text.ensures.value c.gap_len-gap.ensures.value ∙ comment _ _ _ c.in-Some-eq35.ensures.value c.in-Some-eq35.field-0-test)) (refl, refl)

pub returns-in-Some : goal.returns-in-Some
returns-in-Some g c =
    subst (λ items. TakesItems g.R.Rule.game c.args.reader.now items c.read_row.new.reader c.read_row.result)
    (sym (ap (items_of_line c.args.reader.now) (past_blanks (piece_of c.args.line) _ _ c.trim_carriage_return-text.ensures.value c.gap_len-gap.ensures.value) ∙ held c.args.reader.now _ _ _ c.in-Some.ensures.value c.in-Some.field-0-test.1)) c.read_row.ensures
