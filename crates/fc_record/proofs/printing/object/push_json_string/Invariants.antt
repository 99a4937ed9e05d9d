-- What was printed, and what is to be printed of the bytes that are left, is the whole.
use Rattle.std.{proofs.Common.{◌++◌, ◌==◌, ◌||◌, ◌∷◌, ◌≡◌, [], drop, if◌then◌else◌}, specs.List.{flat_map}}
use Rattle.fc_record.specs.Tables.{json_string}
use Rattle.fc_record.proofs.printing.object.push_json_string.Given as goal

abbrev pub invariant-loop-byte : goal.invariant-loop-byte
invariant-loop-byte l =
    l.out.items ++ (flat_map (λ byte. if byte == 34 || byte == 92 then 92 ∷ byte ∷ [] else byte ∷ []) (drop l.byte-index l.text) ++ 34 ∷ []) ≡ l.fn.out.items ++ json_string l.fn.text
