use Rattle.std.proofs.Common.{◌∙◌, ap, refl}
use Rattle.{fc_board.specs.Passages.{inverse_passage}, fc_canon.specs.{chosen_passage}}
use Rattle.fc_collect.proofs.groups.share.kept_member.Goals as goal

pub returns : goal.returns
returns g c =
    let board = c.args.board.now in
    record {
      kept = λ lists. record {
        number = refl;
        name = rw c.new-name.ensures.items at c.in_ok-push_name.ensures.printed;
        variant = c.any_inverse.ensures.variant;
        board = c.any_board.ensures.board;
        back = c.any_inverse.ensures.inverse ∙ ap inverse_passage (c.requires.passage ∙ ap (λ renamings. chosen_passage renamings board) (g.met.R.Rule.named.renamings_are _ refl));
      };
    }
