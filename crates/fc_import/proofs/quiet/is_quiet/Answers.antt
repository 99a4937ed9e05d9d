use Rattle.std.proofs.Common.{◌∙◌, ◌≡◌, arith, length, sym}
use Rattle.fc_import.{proofs.QuietLemmas.{none_named}, specs.Scan.{cards_in}}
use Rattle.fc_import.proofs.quiet.is_quiet.Goals as goal

pub returns : goal.returns
returns g c = λ few.
    let none : length (cards_in c.args.line.now) ≡ 0 = omega (arith, c.in_ok-scanned.ensures.cards, c.if-scanned-gt0.false) in
    record {
      no_card = none_named c.args.line.now none;
      no_list = sym c.is_list.ensures ∙ c.if-is_list.false;
      few_moves = c.has_few_moves.ensures few;
    }
