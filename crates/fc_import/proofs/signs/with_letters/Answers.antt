use Rattle.std.proofs.Common.{◌&&◌, ◌++◌, ◌==◌, ◌∙◌, ◌∷◌, [], ap, append-nil, append_assoc, false, if◌then◌else◌}
use Rattle.std.proofs.{Common.{map-id, sym}, lemmas.Iterator.{Consumers.{YieldsList-end}, YieldsList-from_chars}}
use Rattle.{fc_import.specs.Words.{letters_of, stands_for}, fc_text.specs.Bytes.{line_feed}}
use Rattle.fc_import.proofs.signs.with_letters.Goals as goal

pub loop-sign-preserved : goal.loop-sign-preserved
loop-sign-preserved c = λ rest.
    let sign = c.in-Some.sign in
    let made = c.loop-sign.made.items in
    let more = if c.loop-sign.is_after_return && sign == line_feed then [] else stands_for sign in
    ap (letters_of false) (append_assoc c.loop-sign.yielded (sign ∷ []) rest)
    ∙ c.loop-sign.invariant (sign ∷ rest)
    ∙ sym (append_assoc made more (letters_of (sign == 0x0D) rest))
    ∙ ap (λ made. made ++ letters_of (sign == 0x0D) rest) (sym c.in_ok-push_sign.ensures)

pub returns : goal.returns
returns c =
    let end = YieldsList-end (YieldsList-from_chars c.args.text.now c.utf8.text cc) c.loop-sign.yielded _ c.loop-sign.yielded_by _ _ c.in-None.is c.next.ensures.steps in
    sym (append-nil c.loop-sign.made.items) ∙ sym (c.loop-sign.invariant [])
    ∙ ap (letters_of false) (append-nil c.loop-sign.yielded ∙ sym (map-id c.loop-sign.yielded) ∙ end.0)
