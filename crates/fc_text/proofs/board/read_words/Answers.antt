use Rattle.std.proofs.Common.{◌+◌, ◌<◌, ◌∙◌, ◌≡◌, ap, arith, cond, drop, get_or, length, List, subst, sym, true, ℕ}
use Rattle.std.proofs.lemmas.{List.{drop_more}, Result.{err_from_is_err_and}}
use Rattle.fc_text.proofs.LeavingLemmas.{left_of_left, no_words, word_fault, word_turn, words_at, words_first}
use Rattle.fc_text.specs.{Bytes.{is_gap}, Lines.{in_word, words_from}}
use Rattle.fc_text.specs.reader.{after_items, first_known_fault, items_of_words, Leaves}
use Rattle.fc_text.specs.declared.board.reader.Section.{Section}
use Rattle.fc_text.proofs.board.read_words.Goals as goal

pub returns-in_err-read_word : goal.returns-in_err-read_word
returns-in_err-read_word g c =
    let p = err_from_is_err_and c.from_residual.result c.from_residual.ensures.1 in
    rw (p.1, p.2)
    (ap (first_known_fault g.R.Rule.game c.args.reader.now) (words_first c.args.section c.args.start c.args.bytes.now)
    ∙ c.loop-at.invariant.faults
    ∙ word_fault g.R.Rule.game c.loop-at.reader c.args.section c.args.start c.args.bytes.now c.loop-at.at c.word_len.result _
    c.loop-at-test.true (sym c.if-is_gap.ensures) c.word_len.ensures.value c.in_err-read_word.ensures)

pub loop-at-preserved : goal.loop-at-preserved
loop-at-preserved g c =
    left_of_left c.loop-at.invariant
    (word_turn g.R.Rule.game c.loop-at.reader c.read_word.new.reader c.args.section c.args.start c.args.bytes.now c.loop-at.at c.word_len.result
    c.loop-at-test.true (sym c.if-is_gap.ensures) c.word_len.ensures.value c.in_ok-read_word.ensures.0 c.in_ok-read_word.ensures.1)

-- the words from a gap on are those after it
after_gap : (section : Section) (start : ℕ) (bytes : List ℕ) (at : ℕ) → at < length bytes → is_gap (get_or bytes at 0) ≡ true → words_at section start bytes at ≡ words_at section start bytes (at + 1)
after_gap section start bytes at inside gap =
    let later = words_from is_gap (start + at + 1) (drop (at + 1) bytes) in
    ap (λ rest. items_of_words section (words_from is_gap (start + at) rest)) (drop_more bytes at 0 inside)
    ∙ ap (λ b. items_of_words section (cond b later (in_word (start + at) (get_or bytes at 0) later))) gap
    ∙ ap (λ place. items_of_words section (words_from is_gap place (drop (at + 1) bytes))) (let e : start + at + 1 ≡ start + (at + 1) = omega arith in e)

pub loop-at-preserved-then-is_gap : goal.loop-at-preserved-then-is_gap
loop-at-preserved-then-is_gap g c =
    let section = c.args.section in
    subst (Leaves g.R.Rule.game c.args.reader.now (words_at section c.args.start c.args.bytes.now 0) c.loop-at.reader)
    (after_gap section c.args.start c.args.bytes.now c.loop-at.at c.loop-at-test.true (sym c.if-is_gap.ensures)) c.loop-at.invariant

pub returns : goal.returns
returns g c =
    let section = c.args.section in
    let first = words_first section c.args.start c.args.bytes.now in
    let none = no_words section c.args.start c.args.bytes.now c.loop-at.at (omega arith) in (
      ap (first_known_fault g.R.Rule.game c.args.reader.now) first ∙ c.loop-at.invariant.faults ∙ ap (first_known_fault g.R.Rule.game c.loop-at.reader) none,
      sym (ap (after_items c.args.reader.now) first ∙ c.loop-at.invariant.knows ∙ ap (after_items c.loop-at.reader) none),
    )
