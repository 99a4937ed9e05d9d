use Rattle.std.proofs.Common.{◌+◌, ◌-◌, ◌∙◌, ◌∷◌, ◌≡◌, ap, arith, drop, not, rules, sym, take}
use Rattle.std.{proofs.lemmas.List.{take_rest}, specs.List.{prefix_len}}
use Rattle.fc_text.{proofs.NextTokenLemmas.{next_word, no_next_word}, specs.{Bytes.{is_gap}, Lines.{words_from}}}
use Rattle.fc_text.proofs.lines.next_word.Goals as goal
use Rattle.fc_text.proofs.lines.next_word.Goals.{After-word_len}

starts : (c : After-word_len) → c.args.at + c.gap_len.result ≡ c.args.at + prefix_len is_gap (drop c.args.at c.args.line.now)
starts c = ap (λ n. c.args.at + n) (c.gap_len.ensures.value ∙ ap (prefix_len is_gap) (take_rest c.args.line.now c.args.at))

long : (c : After-word_len) → c.word_len.result ≡ prefix_len (λ byte. not (is_gap byte)) (drop (c.args.at + c.gap_len.result) c.args.line.now)
long c = c.word_len.ensures.value ∙ ap (prefix_len (λ byte. not (is_gap byte))) (take_rest c.args.line.now (c.args.at + c.gap_len.result))

pub returns-then-start-end : goal.returns-then-start-end
returns-then-start-end c =
    let w = (goal.at.returns-then-start-end c).After-word_len in
    (no_next_word is_gap c.args.line.now c.args.at (c.args.at + c.gap_len.result) c.word_len.result (starts w) (long w) (omega (arith, c.if-start-end.true))).0

pub returns : goal.returns
returns c =
    let w = (goal.at.returns c).After-word_len in
    let size : c.args.at + c.gap_len.result + c.word_len.result - (c.args.at + c.gap_len.result) ≡ c.word_len.result = omega arith in (
      next_word is_gap c.args.line.now c.args.at (c.args.at + c.gap_len.result) c.word_len.result (starts w) (long w) (omega (arith, c.if-start-end.false))
          ∙ ap (λ n. record { start = c.args.at + c.gap_len.result; bytes = take n (drop (c.args.at + c.gap_len.result) c.args.line.now) }
          ∷ words_from is_gap (c.args.at + c.gap_len.result + c.word_len.result) (drop (c.args.at + c.gap_len.result + c.word_len.result) c.args.line.now)) (sym size),
      search rules,
      search rules,
    )
