use Rattle.std.proofs.Common.{◌++◌, ◌+◌, ◌∙◌, ap, arith, length, take}
use Rattle.fc_text.proofs.WriterLemmas.{without_blank}
use Rattle.fc_text.proofs.writer.put_card.Goals as goal

pub returns-clause-text : goal.returns-clause-text
returns-clause-text c =
    without_blank c.args.text.now c.put.new.text c.args.start c.put.result c.args.card (omega arith)
    (c.put.ensures.end ∙ ap (λ piece. c.args.start + length piece) c.word_and_blank.ensures)
    (c.put.ensures.text ∙ ap (λ piece. take c.args.start c.args.text.now ++ piece) c.word_and_blank.ensures)
