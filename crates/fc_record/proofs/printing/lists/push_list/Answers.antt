use Rattle.std.proofs.Common.{◌++◌, ◌∙◌, ◌∷◌, ◌≡◌, [], ap, append-nil, append_assoc, arith, rules, sym}
use Rattle.fc_text.specs.{Bytes.{blank, line_feed}, Notation.{print}}
use Rattle.fc_record.proofs.LineLemmas.{no_tokens-after_blank, three_parts, tokens-after_blank}
use Rattle.fc_record.specs.Printing.{after_blank, marks_of}
use Rattle.fc_record.proofs.printing.lists.push_list.Goals as goal
use Rattle.fc_record.proofs.printing.lists.push_list.Goals.{else-len-gt0, then-len-gt0+in_ok-push+in_ok-push_tokens}

pub returns : goal.returns
returns c =
    let list = c.args.list.now in
    let marked = c.extend_from_slice.new.self.items in
    let begun : marked ≡ c.args.out.now.items ++ marks_of list = search rules in
    let ensured : c.if-len-gt0.out.items ≡ marked ++ after_blank (print list) = elim c.if-len-gt0.branch [
      | then-len-gt0+in_ok-push+in_ok-push_tokens w ↦
          let put : c.if-len-gt0.out.items ≡ (marked ++ blank ∷ []) ++ print list = search rules in
          put ∙ append_assoc marked (blank ∷ []) (print list) ∙ ap (λ text. marked ++ text) (sym (tokens-after_blank list (omega (arith, c.len.ensures, w.if-len-gt0.true))))
      | else-len-gt0 w ↦
          let same : c.if-len-gt0.out.items ≡ marked = search rules in
          same ∙ sym (append-nil marked) ∙ ap (λ text. marked ++ text) (sym (no_tokens-after_blank list (omega (arith, c.len.ensures, w.if-len-gt0.false))))
    ] in
    let ended : c.push-2.new.self.items ≡ c.if-len-gt0.out.items ++ line_feed ∷ [] = search rules in
    record { printed = three_parts c.args.out.now.items marked _ _ (marks_of list) (after_blank (print list)) (line_feed ∷ []) begun ensured ended }
