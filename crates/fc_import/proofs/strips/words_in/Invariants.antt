use Rattle.std.{proofs.Common.{◌+◌, ◌≡◌, ◌≤◌, length}, specs.Prelude.{min}}
use Rattle.{fc_import.specs.Strips.{words_in}, fc_text.specs.Left.{tokens_left}}
use Rattle.fc_import.proofs.strips.words_in.Given as goal

-- those counted so far, and those that are left
abbrev pub invariant-loop-word : goal.invariant-loop-word
invariant-loop-word l = record {
  words : min (l.count + length (tokens_left l._word-iterator)) 65535 ≡ words_in l.text;
  small : l.count ≤ 65535;
}
