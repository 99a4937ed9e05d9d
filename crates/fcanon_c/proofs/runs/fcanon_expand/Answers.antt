use Rattle.fcanon_c.proofs.runs.fcanon_expand.Goals as goal

pub returns-in-2-clause-done : goal.returns-in-2-clause-done
returns-in-2-clause-done c = rw c.in-2.is c.expand_of-in-2.ensures.done

pub returns-in-2-clause-no_room : goal.returns-in-2-clause-no_room
returns-in-2-clause-no_room c = rw c.in-2.is c.expand_of-in-2.ensures.no_room
