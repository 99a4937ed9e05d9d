-- Texts that go out one after another.
use Rattle.std.proofs.Common.{◌++◌, ◌∙◌, append_assoc, ap₂, Err, List, Ok, Option, Result, ℕ}
use Rattle.std.proofs.KnownBytes.{Appends-trans}
use Rattle.fc_collect.specs.Promises.{WritesText, WritingFits}
use Rattle.fc_collect.specs.declared.streams.faults.RunFault.{RunFault, TheVariants.{Memory, Read, ReaderNeverEnds}}
use Rattle.fc_collect.specs.declared.streams.faults.RunFault.TheVariants.{TooLarge, Write}

-- one text went out whole, and another after it
pub then_written : {A : Type 0} (first text : List ℕ) (a b c : Option (List ℕ)) (result : Result A RunFault) → WritesText {A = Unit {0}} first a b (Ok tt) → WritesText text b c result → WritesText (first ++ text) a c result
then_written first text a b c result before after = record {
  written = before.written ++ after.written;
  appended = Appends-trans a b c before.written after.written before.appended after.appended;
  fits = by result after.fits;
}
  where
    by : {A : Type 0} (result : Result A RunFault) → WritingFits text after.written result → WritingFits (first ++ text) (before.written ++ after.written) result
    by (Ok value) is = ap₂ (λ first text. first ++ text) before.fits is
    by (Err Write) (rest, is) = (rest, append_assoc before.written after.written rest ∙ ap₂ (λ first text. first ++ text) before.fits is)
    by (Err Read) none = absurd none
    by (Err Memory) none = absurd none
    by (Err TooLarge) none = absurd none
    by (Err ReaderNeverEnds) none = absurd none
