use Rattle.std.proofs.{Common.{◌++◌, ◌∙◌, ap₂, subst}, lemmas.Result.{on_ok_weaker}}
use Rattle.fc_record.specs.Printing.{header_text}
use Rattle.fc_collect.{proofs.ShareLemmas.{member-printed, none-printed, solution-printed}, specs.inside.{KeepsOwner}}
use Rattle.fc_collect.proofs.groups.share.push_member.Goals as goal

pub returns-in-Some : goal.returns-in-Some
returns-in-Some c =
    let one = c.push_header.new.out.items in
    let header = c.in_ok-push_header.ensures.printed ∙ ap₂ (λ variant name. c.args.out.now.items ++ header_text variant name) c.variant.ensures c.as_slice.ensures.value in
    let two = c.push_text.new.text.items in
    let board = c.in_ok-push_text.ensures.printed in
    record {
      printed = on_ok_weaker c.push_solution.result (λ ensured said owner holds keeps alike.
          let kept = subst (λ solution. KeepsOwner solution owner) c.in-Some.is keeps in
          member-printed said owner c.args.member.now c.args.out.now.items one two c.push_solution.new.out.items holds header board
          (solution-printed said owner c.args.member.now c.in-Some.solution two c.push_solution.new.out.items ensured holds kept alike)) c.push_solution.ensures.printed;
    }

pub returns-in-None : goal.returns-in-None
returns-in-None c =
    let one = c.push_header.new.out.items in
    let header = c.in_ok-push_header.ensures.printed ∙ ap₂ (λ variant name. c.args.out.now.items ++ header_text variant name) c.variant.ensures c.as_slice.ensures.value in
    let two = c.push_text.new.text.items in
    let board = c.in_ok-push_text.ensures.printed in
    record {
      printed = λ said owner holds keeps alike.
          member-printed said owner c.args.member.now c.args.out.now.items one two two holds header board (none-printed said owner two (subst (λ solution. KeepsOwner solution owner) c.in-None.is keeps));
    }
