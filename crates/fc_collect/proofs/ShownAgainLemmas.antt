-- Records as `show` prints them, with headers and names: `show` takes a collection of them as it is.
use Rattle.std.proofs.Common.{◌++◌, ◌∙◌, ◌∷◌, ◌≡◌, ◌≤◌, [], All, ap, append-nil, append_assoc, ap₂, arith, drop, length}
use Rattle.std.proofs.Common.{length-append, List, map, Ok, refl, Some, sym, true, ℕ}
use Rattle.std.{proofs.lemmas.List.Elements.{All-head, All-tail}, specs.List.{count_by, flat_map}}
use Rattle.fc_board.specs.{Boards.{IsWellFormed}, declared.rule.Variant.{Variant}, Games.{game_of}}
use Rattle.fc_text.{proofs.PrintedTextLemmas.{text_spells}, specs.Printed.{text_of}}
use Rattle.fc_record.proofs.{HeadingLemmas.{IsGiven}, PrintedPartLemmas.{lines_of_board}}
use Rattle.fc_record.specs.Grammar.{Accepted, Contents, Reading, reading_of, with_header}
use Rattle.fc_record.specs.Printing.{header_text, is_refused, list_line, printed, printed_by, show_lines}
use Rattle.fc_record.specs.RecordTexts.{RecordText}
use Rattle.fc_collect.proofs.{MemberLemmas.{CanPrint}, PrintedRecordLemmas.{with_header-IsReadAs}}
use Rattle.fc_collect.{proofs.ReadAgainLemmas.{IsReadAs, Reads, Reads-lines}, specs.Limits.{standard}}
use Rattle.fc_collect.specs.{Promises.{IsWithinLimits}, Records.{records_of}, Runs.{TransfersWithin}}
use Rattle.fc_collect.specs.declared.commands.RunKind.TheVariants.{Show}

-- a record by its name and what it holds
pub record Entry : Type 0 where
  pub name : List ℕ
  pub contents : Contents

module _ (variant : Variant) where
  -- as it is printed
  abbrev pub entry_text : Entry → List ℕ
  entry_text entry = header_text variant entry.name ++ (text_of entry.contents.board ++ flat_map list_line entry.contents.lists)

  -- and as that is read
  abbrev pub entry_reading : Entry → Reading
  entry_reading entry = Accepted (with_header variant (Some entry.name)) entry.contents

  -- it can be printed
  pub record CanShow (entry : Entry) : Type 0 where
    pub given : IsGiven entry.name
    pub well : IsWellFormed (game_of variant) entry.contents.board
    pub lists : All (CanPrint (game_of variant)) entry.contents.lists

  is_read : (entry : Entry) → CanShow entry → IsReadAs variant true (entry_text entry) (entry_reading entry)
  is_read entry can =
      let board = entry.contents.board in
      with_header-IsReadAs variant (text_of board) entry.contents (lines_of_board (game_of variant) board can.well)
      variant entry.name can.given (text_spells (game_of variant) board can.well) can.lists

  -- ---- what the records of their texts say

  all_read : (entries : List Entry) → All CanShow entries → (collection : List ℕ) (readings : List Reading)
      → Reads variant collection readings
      → Reads variant (collection ++ flat_map entry_text entries) (readings ++ map entry_reading entries)
  all_read [] can collection readings reads = rw (append-nil collection, append-nil readings) reads
  all_read (entry ∷ entries) can collection readings reads =
      let first = is_read entry (All-head CanShow entry entries can) in
      let next = Reads-lines variant collection readings (entry_text entry) (entry_reading entry) first reads in
      let rest =
      all_read entries (All-tail CanShow entry entries can) (collection ++ entry_text entry)
      (readings ++ entry_reading entry ∷ []) next in
      rw (
        append_assoc readings (entry_reading entry ∷ []) (map entry_reading entries),
        append_assoc collection (entry_text entry) (flat_map entry_text entries),
      ) at rest

  abbrev said : RecordText → Reading
  said text = reading_of variant text.bytes

  entries_read : (entries : List Entry) → All CanShow entries
      → map said (records_of (flat_map entry_text entries)) ≡ map entry_reading entries
  entries_read entries can = (all_read entries can [] [] (record { ends = refl; are = refl })).are

  -- ---- what is printed for them

  -- these texts are read as the entries: each is printed as it is, and none is refused
  record AreShown (texts : List RecordText) (entries : List Entry) : Type 0 where
    pub printed : flat_map (printed show_lines variant) texts ≡ flat_map entry_text entries
    pub none_refused : count_by (is_refused variant) texts ≡ 0
    pub many : length texts ≡ length entries

  one_printed : (text : RecordText) (entry : Entry) → printed_by show_lines text (entry_reading entry) ≡ entry_text entry
  one_printed text entry =
      append_assoc (header_text variant entry.name) (text_of entry.contents.board) (flat_map list_line entry.contents.lists)

  are_shown : (texts : List RecordText) (entries : List Entry) → map said texts ≡ map entry_reading entries
      → AreShown texts entries
  are_shown [] [] same = record { printed = refl; none_refused = refl; many = refl }
  are_shown [] (entry ∷ entries) same = absurd (cc)
  are_shown (text ∷ texts) [] same = absurd (cc)
  are_shown (text ∷ texts) (entry ∷ entries) same =
      let first : said text ≡ entry_reading entry = cc in
      let rest = are_shown texts entries (ap (drop 1) same) in
      record {
        printed = ap₂ (λ one more. one ++ more) (ap (printed_by show_lines text) first ∙ one_printed text entry) rest.printed;
        none_refused = rw (first, rest.none_refused);
        many = rw (rest.many);
      }

  -- ---- the run

  pub shown_again : (entries : List Entry) → All CanShow entries → let text = flat_map entry_text entries in
      IsWithinLimits standard text
      → TransfersWithin standard Show variant
      (record { input = Some text; left = Some []; before = Some []; after = Some text })
      (Ok (record { records = length entries; refused = 0 }))
  shown_again entries can within =
      let text = flat_map entry_text entries in
      let shown = are_shown (records_of text) entries (entries_read entries can) in
      record {
        read = text;
        written = text;
        consumed = sym (append-nil text);
        appended = refl;
        fits = (
          refl,
          record {
            within = within;
            whole = sym (append-nil (flat_map (printed show_lines variant) (records_of text)) ∙ shown.printed);
            records = sym shown.many;
            refused = sym shown.none_refused;
          },
        );
      }

  -- each has a byte at least
  pub few_entries : (entries : List Entry) → length entries ≤ length (flat_map entry_text entries)
  few_entries [] = omega arith
  few_entries (entry ∷ entries) =
      let rest = few_entries entries in
      omega (arith, rest, length-append (entry_text entry) (flat_map entry_text entries))
