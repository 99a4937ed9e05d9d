-- The key is kept, and the board with its name.
use Rattle.std.{proofs.{Common.{◌++◌, ◌∷◌, [], subst, sym}, lemmas.Slice.Zip.{all_zipped_more}}, specs.List.{AllZip}}
use Rattle.fc_record.specs.Grammar.{contents_seen, heading_seen}
use Rattle.fc_collect.proofs.{GroupNameLemmas.{AreKeys-more}, KeyedLemmas.{own-key}}
use Rattle.fc_collect.specs.inside.{KeepsBoard, member_of}
use Rattle.fc_collect.proofs.commands.closed.ClosedCommand.accept.Goals as goal

pub returns-clause-kept : goal.returns-clause-kept
returns-clause-kept g c members keeps =
    let heading = heading_seen g.R.Rule.VARIANT c.args.accepted.heading in
    let contents = contents_seen c.args.accepted.contents in
    let member = member_of c.args.accepted.number heading contents in
    let keyed = c.key_and_passage-key.ensures in
    let own =
    own-key c.key_and_passage-key.result.0 c.args.accepted.number heading contents keyed.variant keyed.codes in
    record {
      keys = AreKeys-more c.args.kept.now.keys.keys c.keep_key.new.keys.keys _ members member keyed.well_formed own c.in_ok-keep_key.ensures.keys keeps.keys;
      each = subst (λ items. AllZip KeepsBoard items (members ++ member ∷ [])) (sym c.in_ok-push.ensures.items)
          (all_zipped_more KeepsBoard c.args.kept.now.boards.items members _ member keeps.each (record {
            name = rw c.new-name.ensures.items at c.in_ok-push_name.ensures.printed;
            variant = c.any_board.ensures.variant;
            board = c.any_board.ensures.board;
          }));
    }
