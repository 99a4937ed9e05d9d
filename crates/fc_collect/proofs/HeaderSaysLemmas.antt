-- A header is read exactly where it says something, and refused exactly where it is bad.
use Rattle.std.proofs.Common.{◌∷◌, ◌≡◌, ◌⊎◌, [], Bool, cond, drop, Err, false, inl, inr, length, List, None, Ok, Option}
use Rattle.std.proofs.Common.{refl, Result, Some, subst, true, ℕ}
use Rattle.{fc_board.specs.declared.rule.Variant.{Variant}, fc_text.specs.{Bytes.{is_gap}, Lines.{Piece, words_from}}}
use Rattle.fc_record.specs.Grammar.{BadHeaderAt, begins_with, fault_at, game_alone, game_and_name, HasHeader}
use Rattle.fc_record.specs.Grammar.{header_line, HeaderSays, Heading, heading_by, heading_of, heading_of_words, is_name}
use Rattle.fc_record.specs.Grammar.{no_game, no_header, no_name, no_word, third_word, variant_named, with_header}
use Rattle.fc_record.specs.{Grammar.{without_header}, RecordTexts.{header_mark}}
use Rattle.fc_record.specs.declared.record.{RecordFault.{RecordFault}, RecordFaultKind.TheVariants.{BadHeader}}

-- ---- what is said is read

pub ok-from_HeaderSays : {variant : Variant} {bytes : List ℕ} {heading : Heading} → HeaderSays variant bytes heading
    → heading_of variant bytes ≡ Ok heading
ok-from_HeaderSays (no_header unmarked) = rw unmarked
ok-from_HeaderSays (game_alone own (word, (marked, words), named)) = rw (marked, words, named)
ok-from_HeaderSays (game_and_name own name (word, (marked, words), named) is) = rw (marked, words, named, is)

pub err-from_BadHeaderAt : {bytes : List ℕ} {place : ℕ} → BadHeaderAt bytes place → (variant : Variant)
    → heading_of variant bytes ≡ Err (fault_at place BadHeader)
err-from_BadHeaderAt (no_word (marked, words)) variant = rw (marked, words)
err-from_BadHeaderAt (no_game word later (marked, words) named) variant = rw (marked, words, named)
err-from_BadHeaderAt (no_name own name [] (word, (marked, words), named) is) variant = rw (marked, words, named, is)
err-from_BadHeaderAt (no_name own name (third ∷ later) (word, (marked, words), named) is) variant =
    rw (marked, words, named, is)
err-from_BadHeaderAt (third_word own name third later (word, (marked, words), named) is) variant =
    rw (marked, words, named, is)

-- ---- what is read is said

module _ (variant : Variant) (bytes : List ℕ) where
  -- the header says what was read of it, or is bad where that was refused
  abbrev Meant : Result Heading RecordFault → Type 0
  Meant (Ok heading) = HeaderSays variant bytes heading
  Meant (Err fault) = (place : ℕ) × (fault ≡ fault_at place BadHeader) × BadHeaderAt bytes place

  by_game : (word : Piece) (later : List Piece) (own : Option Variant) → HasHeader bytes (word ∷ later)
      → variant_named word.bytes ≡ own → Meant (heading_by word.start own later)
  by_game word later None header named = (word.start, refl, no_game word later header named)
  by_game word [] (Some own) header named = game_alone own (word, header, named)
  by_game word (name ∷ []) (Some own) header named = by_test (is_name name.bytes) refl
    where
      by_test : (b : Bool) → is_name name.bytes ≡ b
          → Meant (cond b (Ok (with_header own (Some name.bytes))) (Err (fault_at name.start BadHeader)))
      by_test true is = game_and_name own name (word, header, named) is
      by_test false is = (name.start, refl, no_name own name [] (word, header, named) is)
  by_game word (name ∷ third ∷ later) (Some own) header named = by_test (is_name name.bytes) refl
    where
      by_test : (b : Bool) → is_name name.bytes ≡ b → Meant (Err (fault_at (cond b third.start name.start) BadHeader))
      by_test true is = (third.start, refl, third_word own name third later (word, header, named) is)
      by_test false is = (name.start, refl, no_name own name (third ∷ later) (word, header, named) is)

  by_words : (words : List Piece) → HasHeader bytes words → Meant (heading_of_words (length (header_line bytes)) words)
  by_words [] header = (length (header_line bytes), refl, no_word header)
  by_words (word ∷ later) header = by_game word later (variant_named word.bytes) header refl

  header_meant : Meant (heading_of variant bytes)
  header_meant = by_mark (begins_with header_mark bytes) refl
    where
      words : List Piece
      words = words_from is_gap 1 (drop 1 (header_line bytes))

      by_mark : (b : Bool) → begins_with header_mark bytes ≡ b
          → Meant (cond b (heading_of_words (length (header_line bytes)) words) (Ok (without_header variant)))
      by_mark true marked = by_words words (marked, refl)
      by_mark false unmarked = no_header unmarked

  pub HeaderSays-from_ok : (heading : Heading) → heading_of variant bytes ≡ Ok heading
      → HeaderSays variant bytes heading
  HeaderSays-from_ok heading e = subst Meant e header_meant

  pub BadHeaderAt-from_err : (fault : RecordFault) → heading_of variant bytes ≡ Err fault
      → (place : ℕ) × (fault ≡ fault_at place BadHeader) × BadHeaderAt bytes place
  BadHeaderAt-from_err fault e = subst Meant e header_meant

  -- a header says something or is bad
  pub says_or_is_bad : ((heading : Heading) × HeaderSays variant bytes heading)
      ⊎ ((place : ℕ) × BadHeaderAt bytes place)
  says_or_is_bad = by_reading (heading_of variant bytes) header_meant
    where
      by_reading : (read : Result Heading RecordFault) → Meant read
          → ((heading : Heading) × HeaderSays variant bytes heading) ⊎ ((place : ℕ) × BadHeaderAt bytes place)
      by_reading (Ok heading) says = inl (heading, says)
      by_reading (Err fault) (place, same, bad) = inr (place, bad)
