use Rattle.std.proofs.Common.{◌+◌, ◌^◌, ◌≡◌, ◌≤◌, arith, subst, sym}
use Rattle.fc_text.specs.Notation.{ListFault}
use Rattle.fc_record.proofs.ContentsLemmas.{fault-near, IfFaultOf-weaker, unread-first, unread-small}
use Rattle.fc_record.specs.{Grammar.{list_fault}, inside.{IfFaultOf, IsFirstFault, unread_for}}
use Rattle.fc_record.proofs.record.body.read_after.Goals as goal

pub unread_list-requires-clause-fault : goal.unread_list-requires-clause-fault
unread_list-requires-clause-fault g c =
    fault-near (g.M.Notated.is_token g.R.Rule.game) c.args.text.now (2 ^ 60) c.read_list.result c.in-Err.fault
    (omega (arith, c.requires)) c.in-Err.is c.read_list.ensures.bad_token c.read_list.ensures.too_many

pub returns-in-Err-clause-fault : goal.returns-in-Err-clause-fault
returns-in-Err-clause-fault g c =
    let names = g.M.Notated.is_token g.R.Rule.game in
    let text = c.args.text.now in
    subst (IfFaultOf (λ fault. (found : ListFault) × (fault ≡ list_fault c.args.place found) × IsFirstFault names text found))
    (sym c.unread_list.ensures)
    (unread-first names c.args.place text c.read_list.result c.in-Err.fault c.in-Err.is
    c.read_list.ensures.bad_token c.read_list.ensures.too_many)

pub returns-in-Err-clause-small : goal.returns-in-Err-clause-small
returns-in-Err-clause-small g c =
    let near =
    fault-near (g.M.Notated.is_token g.R.Rule.game) c.args.text.now (2 ^ 60) c.read_list.result c.in-Err.fault
    (omega (arith, c.requires)) c.in-Err.is c.read_list.ensures.bad_token c.read_list.ensures.too_many in
    subst (IfFaultOf (λ fault. fault.place ≤ 2 ^ 61)) (sym c.unread_list.ensures)
    (IfFaultOf-weaker (λ fault. fault.place ≤ c.args.place + 2 ^ 60) (λ fault. fault.place ≤ 2 ^ 61)
    (λ fault small. omega (arith, small, c.requires)) (unread_for c.args.place c.in-Err.fault)
    (unread-small c.args.place (2 ^ 60) c.in-Err.fault near))
