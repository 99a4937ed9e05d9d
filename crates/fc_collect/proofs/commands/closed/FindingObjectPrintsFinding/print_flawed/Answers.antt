use Rattle.std.proofs.Common.{◌∷◌, [], codes}
use Rattle.{fc_collect.proofs.ClosedLemmas.{five-pushed, three-pushed}, fc_record.specs.Tables.{json_string}}
use Rattle.fc_collect.proofs.commands.closed.FindingObjectPrintsFinding.print_flawed.Goals as goal

pub returns-in_ok-extend_from_slice-in-Won-2 : goal.returns-in_ok-extend_from_slice-in-Won-2
returns-in_ok-extend_from_slice-in-Won-2 c = rw c.in-Won.is (record {
  printed = three-pushed _ _ _ _ (codes "{\"finding\":\"won\",\"name\":") (json_string c.args.name.now) (125 ∷ 10 ∷ [])
      c.in_ok-extend_from_slice-in-Won.ensures.items c.in_ok-push_json_string-in-Won.ensures.printed c.in_ok-extend_from_slice-in-Won-2.ensures.items;
})

pub returns-in_ok-extend_from_slice-in-Open-3 : goal.returns-in_ok-extend_from_slice-in-Open-3
returns-in_ok-extend_from_slice-in-Open-3 c = rw c.in-Open.is (record {
  printed = five-pushed _ _ _ _ _ _ (codes "{\"finding\":\"open\",\"name\":") (json_string c.args.name.now) (codes ",\"move\":") (json_string (c.in-Open.mv.from ∷ c.in-Open.mv.to ∷ [])) (125 ∷ 10 ∷ [])
      c.in_ok-extend_from_slice-in-Open.ensures.items c.in_ok-push_json_string-in-Open.ensures.printed c.in_ok-extend_from_slice-in-Open-2.ensures.items
      c.in_ok-push_json_string-in-Open-2.ensures.printed c.in_ok-extend_from_slice-in-Open-3.ensures.items;
})
