-- What is spelled so has two words: that of the variant and the name.
use Rattle.std.proofs.Common.{◌<◌, ◌==◌, ◌∙◌, ◌∷◌, ◌≡◌, [], ap, arith, drop, false, length, List, Ok, subst, sym, ℕ}
use Rattle.fc_text.specs.{Bytes.{is_gap}, Lines.{words_from}}
use Rattle.fc_record.{proofs.HeadingLemmas.{line_read}, specs.Grammar.{heading_of_words, heading_seen}}
use Rattle.fc_record.proofs.record.header.printed_header.Goals as goal

has_some : (name : List ℕ) → false ≡ (length name == 0) → 0 < length name
has_some [] e = cc e
has_some (byte ∷ name) e = omega arith

pub returns : goal.returns
returns c =
    let variant = c.in_ok-variant.variant in
    let name = c.in_ok-variant.name.now in
    let said = c.with_header.result in
    record {
      heading = subst (λ line. heading_of_words (length line) (words_from is_gap 1 (drop 1 line)) ≡ Ok (heading_seen said.0 said.1)) (sym c.in_ok-variant.ensures)
          (line_read variant variant name [] (record { is_one = sym c.is_name.ensures ∙ c.if-not-is_name.false; some = has_some name c.if-is_empty.ensures }) ∙ ap (λ heading. Ok heading) (sym c.with_header.ensures));
    }
