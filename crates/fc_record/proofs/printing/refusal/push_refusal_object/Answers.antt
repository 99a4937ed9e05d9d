use Rattle.std.{proofs.Common.{◌+◌}, specs.{Fmt.{decimal}, Option.{option_map}}}
use Rattle.fc_record.{proofs.ObjectLemmas.{refusal_pushed, six-pushed}, specs.Printing.{name_of}}
use Rattle.fc_record.proofs.printing.refusal.push_refusal_object.Goals as goal

pub returns : goal.returns
returns c =
    let name = name_of c.args.number (option_map (λ name. name.now) c.args.name) in
    let begun = six-pushed c.args.out.now.items _ _ _ _ _ _ _ _ _ _ c.in_ok-extend_from_slice.ensures.items c.in_ok-push_name_string.ensures.printed c.in_ok-extend_from_slice-2.ensures.items
    c.in_ok-push_number.ensures.printed c.in_ok-extend_from_slice-3.ensures.items _ _ c.in_ok-push_reason.ensures.printed in
    record { printed = refusal_pushed c.args.out.now.items _ _ name (decimal (c.args.start + c.args.fault.place)) c.args.fault.kind begun c.in_ok-extend_from_slice-4.ensures.items }
