use Rattle.std.proofs.Common.{◌++◌, ◌∙◌, ◌≡◌, ap, if◌then◌else◌, OnOk, subst, sym}
use Rattle.fc_board.specs.{Moves.{move_count}, Play.{OnlyLegal, Won}}
use Rattle.fc_record.specs.{inside.{verdict_of}, Printing.{verdict_words}}
use Rattle.fc_record.proofs.printing.verdict.push_words.Goals as goal

pub returns-in-Ok : goal.returns-in-Ok
returns-in-Ok g c =
    let ensured = ap verdict_of (sym c.in-Ok.is) ∙ c.play.ensures.verdict in
    let count = c.len.ensures in
    record {
      printed = subst (λ said. OnOk c.push_played.result (c.push_played.new.out.items ≡ c.args.out.now.items ++ verdict_words (move_count c.args.list.now) said)) ensured
          (subst (λ count. OnOk c.push_played.result (c.push_played.new.out.items ≡ c.args.out.now.items ++ verdict_words count (if c.in-Ok.is_won then Won else OnlyLegal))) count c.push_played.ensures.printed);
    }

pub returns-in-Err : goal.returns-in-Err
returns-in-Err g c =
    let ensured = ap verdict_of (sym c.in-Err.is) ∙ c.play.ensures.verdict in
    record {
      printed = subst (λ said. OnOk c.push_refused.result (c.push_refused.new.out.items ≡ c.args.out.now.items ++ verdict_words (move_count c.args.list.now) said)) ensured
          (c.push_refused.ensures.printed (move_count c.args.list.now));
    }
