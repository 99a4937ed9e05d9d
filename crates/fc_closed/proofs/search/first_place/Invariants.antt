use Rattle.std.proofs.Common.{◌-◌, ◌<◌, ◌≤◌, get_or, length, ℕ}
use Rattle.{fc_bytes.specs.{all_bytes, declared.board.BoardBytes.{BoardBytes}}, fc_text.specs.Bytes.{IsLess}}
use Rattle.fc_closed.proofs.SearchLemmas.{Ascend}
use Rattle.fc_closed.proofs.search.first_place.Given as goal

abbrev pub invariant-loop-first : goal.invariant-loop-first
invariant-loop-first l = record {
  low : l.first ≤ l.end;
  high : l.end ≤ length l.keys;
  before : Ascend l.keys → (k : ℕ) (default : BoardBytes) → k < l.first →
      IsLess (all_bytes (get_or l.keys k default)) (all_bytes l.key);
  after : Ascend l.keys → (k : ℕ) (default : BoardBytes) → l.end ≤ k → k < length l.keys →
      ¬ IsLess (all_bytes (get_or l.keys k default)) (all_bytes l.key);
}

abbrev pub decreases-loop-first : goal.decreases-loop-first
decreases-loop-first l = l.end - l.first
