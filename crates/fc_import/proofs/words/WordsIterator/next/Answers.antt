use Rattle.std.proofs.Common.{◌+◌, ◌∙◌, ◌≡◌, ap, arith, drop, drop-drop, length, List, map, not, rules, ℕ}
use Rattle.std.{proofs.lemmas.List.{take_rest}, specs.List.{prefix_len}}
use Rattle.fc_text.{proofs.NextTokenLemmas.{next_with_end, no_next_word}, specs.Lines.{with_end}}
use Rattle.fc_import.specs.Scan.{parts_words}
use Rattle.fc_import.proofs.words.WordsIterator.next.Goals as goal

starts : (text rest : List ℕ) (at gap : ℕ) → rest ≡ drop at text → gap ≡ prefix_len parts_words rest → at + gap ≡ at + prefix_len parts_words (drop at text)
starts text rest at gap e is = ap (λ n. at + n) (is ∙ ap (prefix_len parts_words) e)

long : (text rest : List ℕ) (at gap word : ℕ) → rest ≡ drop at text → word ≡ prefix_len (λ byte. not (parts_words byte)) (drop gap rest)
    → word ≡ prefix_len (λ byte. not (parts_words byte)) (drop (at + gap) text)
long text rest at gap word e is =
    is ∙ ap (λ bytes. prefix_len (λ byte. not (parts_words byte)) (drop gap bytes)) e
    ∙ ap (prefix_len (λ byte. not (parts_words byte))) (drop-drop gap at text)

pub returns-then-start-end-clause-steps : goal.returns-then-start-end-clause-steps
returns-then-start-end-clause-steps c =
    let text = c.args.self.now.text.now in
    let at = c.args.self.now.at in
    let gap = c.gap_and_word-gap.result.0 in
    let word = c.gap_and_word-gap.result.1 in
    let none = no_next_word parts_words text at (at + gap) word
    (starts text _ at gap (take_rest text at) c.gap_and_word-gap.ensures.gap) (long text _ at gap word (take_rest text at) c.gap_and_word-gap.ensures.word) (omega (arith, c.if-start-end.true)) in
    (ap (map with_end) none.0, ap (map with_end) none.1)

pub returns-clause-steps : goal.returns-clause-steps
returns-clause-steps c =
    let text = c.args.self.now.text.now in
    let at = c.args.self.now.at in
    let gap = c.gap_and_word-gap.result.0 in
    let word = c.gap_and_word-gap.result.1 in
    next_with_end parts_words text at (at + gap) word
    (starts text _ at gap (take_rest text at) c.gap_and_word-gap.ensures.gap) (long text _ at gap word (take_rest text at) c.gap_and_word-gap.ensures.word) (omega (arith, c.if-start-end.false))

pub returns-clause-goes : goal.returns-clause-goes
returns-clause-goes c =
    let text = c.args.self.now.text.now in
    let at = c.args.self.now.at in
    let gap = c.gap_and_word-gap.result.0 in
    let word = c.gap_and_word-gap.result.1 in
    let shorter = ap length (next_with_end parts_words text at (at + gap) word
    (starts text _ at gap (take_rest text at) c.gap_and_word-gap.ensures.gap) (long text _ at gap word (take_rest text at) c.gap_and_word-gap.ensures.word) (omega (arith, c.if-start-end.false))) in
    search rules
