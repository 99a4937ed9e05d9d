-- A record whose lists or board are at fault is refused for that fault, and is no member; any other is accepted.
use Rattle.std.proofs.Common.{◌++◌, ◌∙◌, ◌≡◌, ap, Err, Ok, refl, subst, sym}
use Rattle.std.proofs.lemmas.Result.{IfOk-weaker, on_ok_weaker}
use Rattle.fc_record.specs.Grammar.{Accepted, contents_seen, heading_seen, reading_after, Refused}
use Rattle.fc_record.specs.Printing.{printed_or, refuses}
use Rattle.fc_collect.{proofs.PrintingLemmas.{read-as, refused-same}, specs.{Groups.{if_accepted}, inside.{as_text}}}
use Rattle.fc_collect.proofs.engine.command.take_headed.Given as given
use Rattle.fc_collect.proofs.engine.command.take_headed.Goals as goal

refused_for : (g : given.Over) (c : goal.After-refuse g) → reading_after (heading_seen g.R.Rule.VARIANT c.args.headed.heading) c.args.headed.text.bytes.now ≡ Refused (heading_seen g.R.Rule.VARIANT c.args.headed.heading).name c.in-Err-Fault.fault
refused_for g c =
    read-as g.R.Rule.game (heading_seen g.R.Rule.VARIANT c.args.headed.heading) c.args.headed.text.bytes.now c.args.headed.body.now _ (Err c.in-Err-Fault.fault) (g.met.R.Rule.named.game_is _ refl) c.requires.body refl (rw c.in-Err-Fault.field-0-is at c.in-Err-Fault.ensures.fault)

pub returns-in-Err-Fault-clause-printed : goal.returns-in-Err-Fault-clause-printed
returns-in-Err-Fault-clause-printed g c =
    on_ok_weaker c.refuse.result (λ ensured members keeps. ensured ∙ ap (λ reading. c.args.out.now.items ++ printed_or g.A.Refusal.PrintsRefusal.text (g.A.Command.lines members) (as_text c.args.headed.text) reading) (sym (refused_for g c))) (rw c.in-Err-Fault.field-0-is at c.refuse.ensures.printed)

pub returns-in-Err-Fault-clause-refused : goal.returns-in-Err-Fault-clause-refused
returns-in-Err-Fault-clause-refused g c = IfOk-weaker c.refuse.result _ _ (λ refused ensured. ensured ∙ ap refuses (sym (refused_for g c))) c.refuse.ensures.refused

pub returns-in-Err-Fault-clause-kept : goal.returns-in-Err-Fault-clause-kept
returns-in-Err-Fault-clause-kept g c =
    on_ok_weaker c.refuse.result (λ ensured members keeps. refused-same (g.A.Command.keeps c.args.kept.now) members c.args.headed.text.number _ (ap refuses (refused_for g c)) keeps) c.refuse.ensures.printed

accepted : (g : given.Over) (c : goal.In_ok-accept-in-Ok g) → reading_after (heading_seen g.R.Rule.VARIANT c.args.headed.heading) c.args.headed.text.bytes.now ≡ Accepted (heading_seen g.R.Rule.VARIANT c.args.headed.heading) (contents_seen c.in-Ok.contents)
accepted g c =
    read-as g.R.Rule.game (heading_seen g.R.Rule.VARIANT c.args.headed.heading) c.args.headed.text.bytes.now c.args.headed.body.now _ (Ok (contents_seen c.in-Ok.contents)) (g.met.R.Rule.named.game_is _ refl) c.requires.body refl c.in-Ok.ensures.contents

pub returns-in_ok-accept-in-Ok-clause-printed : goal.returns-in_ok-accept-in-Ok-clause-printed
returns-in_ok-accept-in-Ok-clause-printed g c members keeps =
    c.in_ok-accept-in-Ok.ensures.printed members keeps ∙ ap (λ reading. c.args.out.now.items ++ printed_or g.A.Refusal.PrintsRefusal.text (g.A.Command.lines members) (as_text c.args.headed.text) reading) (sym (accepted g c))

pub returns-in_ok-accept-in-Ok-clause-refused : goal.returns-in_ok-accept-in-Ok-clause-refused
returns-in_ok-accept-in-Ok-clause-refused g c = sym (ap refuses (accepted g c))

pub returns-in_ok-accept-in-Ok-clause-kept : goal.returns-in_ok-accept-in-Ok-clause-kept
returns-in_ok-accept-in-Ok-clause-kept g c members keeps =
    subst (λ reading. g.A.Command.keeps c.accept.new.kept (members ++ if_accepted c.args.headed.text.number reading)) (sym (accepted g c)) (c.in_ok-accept-in-Ok.ensures.kept members keeps)
