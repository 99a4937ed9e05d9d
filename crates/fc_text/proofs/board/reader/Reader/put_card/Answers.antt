use Rattle.fc_text.proofs.KeptLemmas.{IsKept-card, room_for_card, takes_card}
use Rattle.fc_text.proofs.board.reader.Reader.put_card.Goals as goal

pub lay-self-inside-requires : goal.lay-self-inside-requires
lay-self-inside-requires g c = room_for_card c.self.inside.kept c.self.invariant c.args.card c.requires c.in_ok-mark_card.ensures.0

pub invariant_of-self-2 : goal.invariant_of-self-2
invariant_of-self-2 g c =
    IsKept-card c.self.inside.kept c.self.invariant c.args.card c.requires c.in_ok-mark_card.ensures.0 _ _ _ c.lay-self-inside.ensures c.in_ok-mark_card.ensures.1

pub returns-clause-taken : goal.returns-clause-taken
returns-clause-taken g c = rw (← c.self.view_is)
    (takes_card c.self.inside.kept c.self.invariant c.args.card c.requires c.in_ok-mark_card.ensures.0 _ _ _ c.lay-self-inside.ensures c.in_ok-mark_card.ensures.1 g.R.Rule.game)
