use Rattle.std.proofs.Common.{◌==◌, ◌∙◌, ap, Err, IfOk, inl, inr, Ok, Result, ℕ}
use Rattle.fc_record.specs.RecordTexts.{header_mark}
use Rattle.fc_import.proofs.{PieceLemmas.{begins_at, begins_front}, PrintedLemmas.{goes_on}}
use Rattle.fc_import.specs.inside.{TakesFirst}
use Rattle.fc_import.proofs.import.Importer.take_other.Goals as goal

-- what holds of a result by three facts
by_three : {E : Type 0} (A B C D : ℕ → Type 0) (result : Result ℕ E) → IfOk result A → IfOk result B → IfOk result C
    → ((len : ℕ) → A len → B len → C len → D len) → IfOk result D
by_three A B C D (Ok len) a b c then = then len a b c
by_three A B C D (Err fault) a b c then = tt

pub returns-then-text-ne64 : goal.returns-then-text-ne64
returns-then-text-ne64 g c =
    by_three _ _ _ (λ len. TakesFirst {R = g.row.R.Denot} g.R.Rule.VARIANT g.R.Rule.game c.args.text.now len c.args.self.now.made
    c.take_next.new.self.made) c.take_next.result c.take_next.ensures.lines c.take_next.ensures.no_header c.take_next.ensures.takes
    (λ len lines none takes. record {
      lines = lines;
      takes = goes_on {R = g.row.R.Denot} g.R.Rule.VARIANT g.R.Rule.game _ c.args.self.now.made c.take_next.new.self.made (inr (none, takes));
    })

pub returns : goal.returns
returns g c =
    let text = c.args.text.now in
    let len = c.line_len-len.result in
    let first = ap (λ byte. byte == header_mark) c.if-text-ne64.false in
    record {
      lines = c.line_len-len.ensures.lines;
      takes = goes_on {R = g.row.R.Denot} g.R.Rule.VARIANT g.R.Rule.game _ c.args.self.now.made c.take_header.new.self.made
          (inl (
            record {
              mark = begins_front text len c.line_len-len.ensures.lines.some ∙ begins_at text 0 ∙ first;
              one = c.line_len-len.ensures.one;
            },
            c.in_ok-take_header.ensures,
          ));
    }
