-- Lemmas on reading the input, and on how a run ends after it.
use Rattle.std.proofs.Common.{◌++◌, ◌+◌, ◌<◌, ◌↔◌, ◌∙◌, ◌≡◌, ◌≢◌, ◌≤◌, ◌⊎◌, [], ap, append-nil, arith, Bool, Err, false}
use Rattle.std.proofs.Common.{length, length-append, List, None, Ok, Option, refl, Result, subst, subst₂, sym, true, ℕ}
use Rattle.std.{proofs.KnownBytes.{Consumes-trans}, specs.{Io.KnownBytes.{Consumes}, Prelude.{⊤}}}
use Rattle.fc_board.specs.{declared.rule.Variant.{Variant}, Games.{Game, game_of}}
use Rattle.fc_collect.specs.{Limits.{most_bytes, most_reads, standard}, Promises.{ReadsAsCounted}}
use Rattle.fc_collect.specs.Streams.{CallCounts, GrowsBy}
use Rattle.fc_collect.specs.declared.streams.{counted.Counted.{Counted}, faults.RunFault.{RunFault}}
use Rattle.fc_collect.specs.declared.streams.faults.RunFault.TheVariants.{Memory, Read, ReaderNeverEnds, TooLarge}
use Rattle.fc_collect.specs.declared.streams.faults.{RunFault.TheVariants.{Write}, Summary.{Summary}}
use Rattle.fc_import.specs.Import.{collection, Imported, IsImportedAs, IsPrinted, IsShown, Makes, no_board}
use Rattle.fc_import.specs.Import.{no_board_line, refusals, refused_by, too_much, too_much_line, with_tally}
use Rattle.fc_import.specs.{inside.{more_counts, MoreFits, ReadsMore, ReadsToEnd}, Notes.{counted, State}}
use Rattle.fc_import.specs.Words.{text_read}
use Rattle.fc_import.specs.declared.options.ImportOptions.{ImportOptions}

-- ---- reading the input

-- the counts after some reads that each gave some, and one more
grown : {R : Type 0} (first old new : Counted R) (turns : ℕ) (counts : CallCounts) → GrowsBy first old (record { failures = 0; fills = turns; ends = 0; flushes = 0 }) → GrowsBy old new counts
    → GrowsBy first new (record { failures = counts.failures; fills = turns + counts.fills; ends = counts.ends; flushes = counts.flushes })
grown first old new turns counts so_far more = record {
  failures = omega (arith, so_far.failures, more.failures);
  fills = omega (arith, so_far.fills, more.fills);
  ends = omega (arith, so_far.ends, more.ends);
  flushes = omega (arith, so_far.flushes, more.flushes);
}

-- before the first read
pub grown_none : {R : Type 0} (input : Counted R) → GrowsBy input input (record { failures = 0; fills = 0; ends = 0; flushes = 0 })
grown_none input = record { failures = omega arith; fills = omega arith; ends = omega arith; flushes = omega arith }

module _ {R : Type 0} (first old new : Counted R) (turns : ℕ) (so_far : GrowsBy first old (record { failures = 0; fills = turns; ends = 0; flushes = 0 })) where
  -- before another read
  pub counted_none : turns ≤ most_reads → ReadsAsCounted {A = ⊤} standard first old (Err Memory)
  counted_none few = record { counts = _; grows = so_far; few = omega arith; fits = refl }

  -- each read gave some
  pub counted_all : turns ≡ most_reads → ReadsAsCounted {A = ⊤} standard first old (Err ReaderNeverEnds)
  counted_all all = record { counts = _; grows = so_far; few = omega (arith, all); fits = (refl, all, refl) }

  -- one more did
  pub counted_more : (result : Result Bool RunFault) → result ≡ Ok true → GrowsBy old new (more_counts result) → GrowsBy first new (record { failures = 0; fills = turns + 1; ends = 0; flushes = 0 })
  counted_more result is more = grown first old new turns _ so_far (subst (λ result. GrowsBy old new (more_counts result)) is more)

  -- the last read gave the end
  pub counted_end : turns < most_reads → (result : Result Bool RunFault) → result ≡ Ok false → GrowsBy old new (more_counts result) → ReadsAsCounted {A = ⊤} standard first new (Ok tt)
  counted_end few result is more = record { counts = _; grows = grown first old new turns _ so_far (subst (λ result. GrowsBy old new (more_counts result)) is more); few = omega arith; fits = (refl, refl) }

  -- the last read failed, or what it gave was not taken
  by_fault : turns < most_reads → (fault : RunFault) (given before after : List ℕ) (left : Option (List ℕ)) → MoreFits given before after left (Err fault) → GrowsBy old new (more_counts (Err fault))
      → ReadsAsCounted {A = ⊤} standard first new (Err fault)
  by_fault few Read given before after left fits more = record { counts = _; grows = grown first old new turns _ so_far more; few = omega arith; fits = (refl, refl) }
  by_fault few Memory given before after left fits more = record { counts = _; grows = grown first old new turns _ so_far more; few = omega arith; fits = refl }
  by_fault few TooLarge given before after left fits more = record { counts = _; grows = grown first old new turns _ so_far more; few = omega arith; fits = (refl, refl) }
  by_fault few Write given before after left fits more = absurd fits
  by_fault few ReaderNeverEnds given before after left fits more = absurd fits

  pub counted_fault : turns < most_reads → (before after : List ℕ) (input left : Option (List ℕ)) (result : Result Bool RunFault) (fault : RunFault) → ReadsMore input left before after result → result ≡ Err fault
      → GrowsBy old new (more_counts result) → ReadsAsCounted {A = ⊤} standard first new (Err fault)
  counted_fault few before after input left result fault reads is more =
      by_fault few fault reads.given before after left (subst (MoreFits reads.given before after left) is reads.fits) (subst (λ result. GrowsBy old new (more_counts result)) is more)

-- a reading ends by the fault of its last read
fault_fits : (given old new : List ℕ) (left : Option (List ℕ)) (fault : RunFault) → MoreFits given old new left (Err fault)
    → (fault ≢ Write) × ((fault ≡ TooLarge) ↔ (most_bytes < length (old ++ given)))
fault_fits given old new left Read fits = ((λ same. absurd (cc)), ((λ same. absurd (cc)), λ more. absurd (omega (arith, length-append old given, fits, more))))
fault_fits given old new left Memory fits = ((λ same. absurd (cc)), ((λ same. absurd (cc)), λ more. absurd (omega (arith, length-append old given, fits, more))))
fault_fits given old new left TooLarge fits = ((λ same. absurd (cc)), ((λ same. omega (arith, length-append old given, fits)), λ more. refl))
fault_fits given old new left Write fits = absurd fits
fault_fits given old new left ReaderNeverEnds fits = absurd fits

module _ (first input left : Option (List ℕ)) (old new : List ℕ) (result : Result Bool RunFault) (reads : ReadsMore input left old new result) (so_far : Consumes first input old) where
  -- some bytes more were read
  pub read_on : result ≡ Ok true → Consumes first left new × (length new ≤ most_bytes)
  read_on is =
      let (grows, few) = subst (MoreFits reads.given old new left) is reads.fits in
      (subst (Consumes first left) (sym grows) (Consumes-trans first input left old reads.given so_far reads.consumed), few)

  -- the end was given
  pub all_read : length old ≤ most_bytes → result ≡ Ok false → ReadsToEnd first left new (Ok tt)
  all_read few is =
      let (none, same, ended) = subst (MoreFits reads.given old new left) is reads.fits in record {
        read = new;
        consumed = subst (Consumes first left) (ap (λ given. old ++ given) none ∙ append-nil old ∙ sym same) (Consumes-trans first input left old reads.given so_far reads.consumed);
        fits = (refl, subst (λ bytes. length bytes ≤ most_bytes) (sym same) few, ended);
      }

  -- what was read last was not taken
  pub given_up : (fault : RunFault) → result ≡ Err fault → ReadsToEnd first left new (Err fault)
  given_up fault is = record {
    read = old ++ reads.given;
    consumed = Consumes-trans first input left old reads.given so_far reads.consumed;
    fits = fault_fits reads.given old new left fault (subst (MoreFits reads.given old new left) is reads.fits);
  }

-- every read gave some
pub never_ended : (input left : Option (List ℕ)) (bytes : List ℕ) → Consumes input left bytes → length bytes ≤ most_bytes → ReadsToEnd input left bytes (Err ReaderNeverEnds)
never_ended input left bytes consumed few = record {
  read = bytes;
  consumed = consumed;
  fits = ((λ same. absurd (cc)), ((λ same. absurd (cc)), λ more. absurd (omega (arith, few, more))));
}

-- ---- what is made

-- what was made of a text, for the game of its variant
pub imported_as : {game : Game} {text read : List ℕ} (variant : Variant) (options : ImportOptions) (state : State) (made notes : List ℕ)
    → game ≡ game_of variant → text ≡ read → Imported variant options game text state made notes
    → (IsPrinted variant game None text → (made ≡ text) × (notes ≡ [])) → IsImportedAs variant options read state made notes
imported_as variant options state made notes game_is text_is imported kept =
    let both = subst₂ (λ game text. Imported variant options game text state made notes
    × (IsPrinted variant game None text → (made ≡ text) × (notes ≡ []))) game_is text_is (imported, kept) in
    record { imported = both.0; kept = both.1 }

module _ (variant : Variant) (options : ImportOptions) (bytes made said : List ℕ) (summary : Summary) where
  -- the text has no board
  pub nothing_made : (state : State) (text notes : List ℕ)
      → IsImportedAs variant options (text_read bytes) state text notes → text ≡ []
      → refusals state.tally ≡ 0
      → made ≡ [] → said ≡ with_tally state.tally notes ++ no_board_line → summary.records ≡ 1 → summary.refused ≡ 1
      → Makes variant options bytes made said summary
  nothing_made state text notes imported nothing none made_is said_is records refused =
      subst₂ (λ made said. Makes variant options bytes made said summary) (sym made_is) (sym said_is)
      (subst₂ (λ records refused. Makes variant options bytes [] (with_tally state.tally notes ++ no_board_line)
      (record { records = records; refused = refused })) (sym records) (sym refused)
      (no_board state notes
      (subst (λ text. IsImportedAs variant options (text_read bytes) state text notes) nothing
      imported) none))

  -- more is made of it than `show` takes
  pub unshown_made : (state : State) (text notes : List ℕ)
      → IsImportedAs variant options (text_read bytes) state text notes
      → ((records : ℕ) → ¬ IsShown variant text records)
      → made ≡ [] → said ≡ notes ++ too_much_line → summary.records ≡ 1 → summary.refused ≡ 1
      → Makes variant options bytes made said summary
  unshown_made state text notes imported unshown made_is said_is records refused =
      subst₂ (λ made said. Makes variant options bytes made said summary) (sym made_is) (sym said_is)
      (subst₂ (λ records refused. Makes variant options bytes [] (notes ++ too_much_line)
      (record { records = records; refused = refused })) (sym records) (sym refused)
      (too_much state text notes imported unshown))

  -- a collection is made of it
  pub collection_made : (state : State) (notes : List ℕ) (records refused : ℕ)
      → IsImportedAs variant options (text_read bytes) state made notes → IsShown variant made records
      → (made ≢ []) ⊎ (0 < refusals state.tally)
      → refused ≡ refused_by options.noted state.tally notes → said ≡ with_tally state.tally notes
      → summary.records ≡ counted (records + refused) → summary.refused ≡ refused
      → Makes variant options bytes made said summary
  collection_made state notes records refused imported shown some_made refused_is said_is records_are refused_are =
      subst (λ said. Makes variant options bytes made said summary) (sym said_is)
      (subst₂ (λ records refused. Makes variant options bytes made (with_tally state.tally notes)
      (record { records = records; refused = refused }))
      (sym records_are) (sym refused_are)
      (collection state made notes records imported shown some_made refused refused_is))
