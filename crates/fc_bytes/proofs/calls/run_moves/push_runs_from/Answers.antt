use Rattle.std.proofs.Common.{◌++◌, ◌∙◌, ◌≡◌, [], ap, arith, length, map, sym, ℕ}
use Rattle.std.{proofs.lemmas.List.{append-nil, append_assoc, map-append}, specs.List.{flat_map}}
use Rattle.{fc_board.specs.Steps.{column_at, longest_run}, fc_card.specs.{places}}
use Rattle.fc_bytes.proofs.calls.run_moves.push_runs_from.Goals.{else-to-from, then-to-from}
use Rattle.fc_bytes.proofs.{ChildrenLemmas.{source_more}, RunMoves.{none_from, nothing_between}}
use Rattle.fc_bytes.specs.{legal_runs_between, run_bytes}
use Rattle.fc_bytes.proofs.calls.run_moves.push_runs_from.Goals as goal

pub loop-to-preserved : goal.loop-to-preserved
loop-to-preserved g c =
    let kept = c.loop-to.invariant in
    let old = c.args.runs.now.items in
    let to = c.loop-to.to in
    let after = c.if-to-from.runs.items in
    let between = legal_runs_between g.R.Rule.game c.args.board.now c.args.from in
    let before = flat_map between (places to) in
    elim c.if-to-from.branch [
      | then-to-from w ↦
          let same : length after ≡ length w.push_runs_between.new.runs.items = ap (λ runs. length runs.items) w.runs-is in
          record {
            runs = ap (λ runs. runs.items) w.runs-is ∙ w.push_runs_between.ensures.runs ∙ ap (λ front. front ++ map run_bytes (between to)) kept.runs
                ∙ append_assoc old (map run_bytes before) (map run_bytes (between to))
                ∙ ap (λ back. old ++ back) (sym (ap (map run_bytes) (source_more between to) ∙ map-append run_bytes before (between to)));
            few = omega (arith, same, w.push_runs_between.ensures.few, kept.few);
            fewer = λ past. omega (arith, same, w.push_runs_between.ensures.few, kept.few, kept.fewer, past, w.if-to-from.true);
          }
      | else-to-from w ↦
          let same : after ≡ c.loop-to.runs.items = ap (λ runs. runs.items) w.runs-is in
          let nothing : between to ≡ [] = ap between w.if-to-from.false ∙ nothing_between g.R.Rule.game c.args.board.now c.args.from in
          record {
            runs = same ∙ kept.runs ∙ ap (λ listed. old ++ map run_bytes listed)
                (sym (append-nil before) ∙ ap (λ more. before ++ more) (sym nothing) ∙ sym (source_more between to));
            few = omega (arith, ap length same, kept.few);
            fewer = λ past. omega (arith, ap length same, kept.few);
          }
    ]

pub returns-then-longest-lt2-clause-runs : goal.returns-then-longest-lt2-clause-runs
returns-then-longest-lt2-clause-runs g c =
    let old = c.args.runs.now.items in
    let longest : ℕ → ℕ = λ from. longest_run g.R.Rule.game (column_at c.args.board.now from) in
    let is : c.longest_run-longest.result ≡ longest c.args.from = c.longest_run-longest.ensures ∙ ap longest c.from.ensures in
    sym (append-nil old) ∙ ap (λ listed. old ++ map run_bytes listed)
    (sym (none_from g.R.Rule.game c.args.board.now c.args.from c.requires.from (omega (arith, is, c.if-longest-lt2.true))))
