use Rattle.std.proofs.Common.{◌++◌, ◌∷◌, ◌≡◌, [], ap, arith, drop, Err, inl, inr, List, Ok, Result, subst, subst₂, sym}
use Rattle.std.{proofs.Common.{ℕ}, specs.{Io.KnownBytes.{Appends}, Prelude.{⊤, if◌then◌else◌, is_ok}}}
use Rattle.{fc_board.specs.Games.{Game}, fc_text.specs.Printed.{text_of}, fc_tool.specs.{EndsDealing, fault_line}}
use Rattle.fc_deal.specs.{deal, dealt_board, IsDealNumber}
use Rattle.fc_collect.specs.{Promises.{WritesText}, Streams.{inner_of, Stream}}
use Rattle.fc_collect.specs.declared.streams.faults.RunFault.{RunFault}
use Rattle.fc_tool.proofs.laws.a_deal_that_ends_well_is_written.Goals as goal

-- the status where a text was to be written
abbrev status_after : Result ⊤ RunFault → ℕ
status_after result = if is_ok result then 0 else 3

module _ {W : Type 0} (output : Stream W) (message : List ℕ) (game : Game) (number : ℕ) where
  abbrev board_text : List ℕ
  board_text = text_of (dealt_board game.cells (deal number))

  abbrev IsWritten : Type 0
  IsWritten = (message ≡ []) × IsDealNumber number × Appends (output.bytes (inner_of output.old)) (output.bytes (inner_of output.new)) board_text

  written : EndsDealing game number (record { output = output; status = 0; message = message }) → IsWritten
  written (inl (ranged, (result, status, said, writes))) = by result status said writes.bytes
    where
      by : (result : Result ⊤ RunFault) → 0 ≡ status_after result → message ≡ fault_line result
          → WritesText board_text (output.bytes (inner_of output.old)) (output.bytes (inner_of output.new)) result → IsWritten
      by (Ok value) status said wrote = (said, ranged, subst (Appends (output.bytes (inner_of output.old)) (output.bytes (inner_of output.new))) wrote.fits wrote.appended)
      by (Err fault) status said wrote = absurd (omega (arith, status))
  written (inr (out, same, status, said)) = absurd (omega (arith, status))

nothing_more : (held text : List ℕ) → held ≡ held ++ text → text ≡ []
nothing_more [] text e = sym e
nothing_more (byte ∷ held) text e = nothing_more held text (ap (drop 1) e)

pub returns-clause-moved : goal.returns-clause-moved
returns-clause-moved g c game number message held ends old new =
    let (said, ranged, appended) = written (record { bytes = g.Wr.Write.contents; old = c.args.before.now; new = c.args.after.now }) message game number ends in
    let text = text_of (dealt_board game.cells (deal number)) in
    let none = nothing_more held text (subst₂ (λ old new. Appends old new text) old new appended) in
    absurd (cc none)
