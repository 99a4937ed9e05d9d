-- What is printed for the records of a collection is read as those that were accepted.
use Rattle.std.proofs.Common.{◌&&◌, ◌++◌, ◌+◌, ◌==◌, ◌∙◌, ◌∷◌, ◌≡◌, ◌≤◌, [], All, ap, append-nil, append_assoc}
use Rattle.std.proofs.Common.{arith, Bool, codes, cond, drop, eqb, false, length, length-append, List, map, not, Option}
use Rattle.std.proofs.Common.{refl, slice_index, suc, sym, true, zero, ℕ}
use Rattle.std.proofs.lemmas.List.Elements.{All-append, All-cons, All-head, All-nil, All-tail, All-weaker}
use Rattle.std.proofs.lemmas.List.{Folds.{list_any-append}, map-append, Sums.{AllPass-from_list_all}}
use Rattle.std.specs.{Fmt.{decimal}, List.{flat_map, list_all, list_any}}
use Rattle.std.proofs.Math.Bool.{or-false}
use Rattle.fc_card.specs.{card_text, rank_letter, rank_letters, rank_of, suit_letter, suit_letters, suit_of}
use Rattle.fc_board.proofs.BoardLemmas.{All-right}
use Rattle.fc_text.proofs.{BlankLineLemmas.{begins_comment}, LineLemmas.{first_line, InLine}}
use Rattle.fc_text.specs.{Bytes.{line_feed, number_sign}, Lines.{lines_from, Piece}, Rows.{is_empty, line_of}}
use Rattle.fc_record.proofs.HeadingLemmas.{bytes_of_name, decimal-high, IsInName, refused_name}
use Rattle.fc_record.proofs.TextLineLemmas.{ends-after, ends-line_feed, ends_line-last, lines_after}
use Rattle.fc_record.specs.Grammar.{Accepted, begins_with, Contents, Heading, Reading, reading_of, Refused}
use Rattle.fc_record.specs.Printing.{name_of, printed, printed_by, record_reason, refusal_line}
use Rattle.fc_record.specs.RecordTexts.{ends_line, header_mark, RecordText}
use Rattle.fc_record.specs.declared.record.{RecordFault.{RecordFault}, RecordFaultKind.{RecordFaultKind}}
use Rattle.fc_collect.proofs.{CommentLemmas.{accepted-comment_after}, HeaderLemmas.{marks, marks-lines}}
use Rattle.fc_collect.proofs.{JoiningLemmas.{begun-ends_from, records-joined}, LimitLemmas.{IsNumbered}}
use Rattle.fc_collect.proofs.RecordLemmas.{begun-append, cut-induction, finished-append, records_of-last}
use Rattle.fc_collect.specs.{Groups.{if_accepted, Member, members_among}, inside.{member_of}, Limits.{most_countable}}
use Rattle.fc_collect.specs.{Pieces.{placed_after}, Records.{begun, cut, finished, finished_records, has_content}}
use Rattle.fc_collect.specs.Records.{if_record, longer, next_text, nothing, output_of_records, records_among}
use Rattle.fc_collect.specs.Records.{records_of}
use Rattle.fc_record.specs.declared.record.RecordFaultKind.TheVariants as kind
use Rattle.fc_board.specs.declared.rule.Variant.{Variant}
use Rattle.fc_text.specs.declared.fault.BoardFaultKind.TheVariants.{BadCard, BadFoundation, MissingCard, RepeatedCard}
use Rattle.fc_text.specs.declared.fault.BoardFaultKind.TheVariants.{RepeatedLine, TooManyCells, TooManyColumns}

-- ---- bytes without a header

no_mark : (begins : Bool) (place byte : ℕ) (rest : List ℕ) → marks begins place (byte ∷ rest) ≡ []
    → ((begins && byte == header_mark) ≡ false) × (marks (byte == line_feed) (place + 1) rest ≡ [])
no_mark begins place byte rest e = by_test (begins && byte == header_mark) e
  where
    by_test : (b : Bool) → cond b (place ∷ []) [] ++ marks (byte == line_feed) (place + 1) rest ≡ []
        → (b ≡ false) × (marks (byte == line_feed) (place + 1) rest ≡ [])
    by_test true e = absurd (cc)
    by_test false e = (refl, e)

-- bytes that begin no header make the text longer and finish nothing
pub one_text : (text : RecordText) (bytes : List ℕ) → marks (ends_line text.bytes) (text.start + length text.bytes) bytes ≡ []
    → (finished text bytes ≡ []) × (begun text bytes ≡ record { number = text.number; start = text.start; bytes = text.bytes ++ bytes })
one_text text [] none = (refl, ap (λ bytes. record { number = text.number; start = text.start; bytes = bytes }) (sym (append-nil text.bytes)))
one_text text (byte ∷ rest) none =
    let (unmarked, later) = no_mark (ends_line text.bytes) (text.start + length text.bytes) byte rest none in
    let long : text.start + length text.bytes + 1 ≡ text.start + length (text.bytes ++ byte ∷ []) =
    omega (arith, length-append text.bytes (byte ∷ [])) in
    let (none_finished, more) =
    one_text (longer text byte) rest (rw (ends_line-last text.bytes byte, ← long) later) in (
      rw (unmarked, none_finished),
      rw (unmarked, more, append_assoc text.bytes (byte ∷ []) rest),
    )

-- ---- the line of a refused record

pub codes_in_line : (text : List ℕ) → list_all (λ byte. not (eqb byte line_feed)) text ≡ true → All InLine text
codes_in_line text e =
    All-weaker (λ byte. not (eqb byte line_feed) ≡ true) InLine
    (λ byte no same. absurd (let yes = ap (λ byte. not (eqb byte line_feed)) same in cc)) text
    (AllPass-from_list_all (λ byte. not (eqb byte line_feed)) text e)

pub letter_in_line : (letters : List ℕ) → All InLine letters → (place : ℕ) → InLine (slice_index letters place)
letter_in_line [] are place e = absurd (omega (arith, e))
letter_in_line (letter ∷ letters) are zero e = All-head InLine letter letters are e
letter_in_line (letter ∷ letters) are (suc place) e = letter_in_line letters (All-tail InLine letter letters are) place e

pub decimal_in_line : (n : ℕ) → All InLine (decimal n)
decimal_in_line n = All-weaker (λ byte. 48 ≤ byte) InLine (λ byte high e. absurd (omega (arith, high, e))) (decimal n) (decimal-high n)

reason_in_line : (fault : RecordFaultKind) → All InLine (record_reason fault)
reason_in_line kind.BadHeader = codes_in_line (codes "bad header") refl
reason_in_line kind.BadToken = codes_in_line (codes "bad token") refl
reason_in_line kind.TooManyMoves = codes_in_line (codes "too many moves") refl
reason_in_line kind.StrayLine = codes_in_line (codes "stray line") refl
reason_in_line (kind.Board BadCard) = codes_in_line (codes "bad card") refl
reason_in_line (kind.Board TooManyColumns) = codes_in_line (codes "too many columns") refl
reason_in_line (kind.Board TooManyCells) = codes_in_line (codes "too many cells") refl
reason_in_line (kind.Board BadFoundation) = codes_in_line (codes "bad foundation") refl
reason_in_line (kind.Board RepeatedLine) = codes_in_line (codes "repeated line") refl
reason_in_line (kind.Board RepeatedCard) = codes_in_line (codes "repeated card") refl
reason_in_line (kind.Board (MissingCard card)) =
    All-append InLine (codes "missing card ") (card_text card) (codes_in_line (codes "missing card ") refl)
    (All-cons InLine (rank_letter (rank_of card)) (suit_letter (suit_of card) ∷ []) (letter_in_line rank_letters (codes_in_line rank_letters refl) _)
    (All-cons InLine (suit_letter (suit_of card)) [] (letter_in_line suit_letters (codes_in_line suit_letters refl) (suit_of card)) (All-nil InLine)))

pub refusal_is : (variant : Variant) (text : RecordText) (name : Option (List ℕ)) (fault : RecordFault) → text.number ≤ most_countable
    → reading_of variant text.bytes ≡ Refused name fault
    → (comment : List ℕ) × All InLine comment × (refusal_line text name fault ≡ number_sign ∷ comment ++ line_feed ∷ [])
refusal_is variant text name fault small e =
    let given = bytes_of_name (name_of text.number name) (refused_name variant text.number text.bytes name fault small e) in
    let named = All-weaker IsInName InLine (λ byte is e. absurd (omega (arith, is, e))) (name_of text.number name) given in (
      codes " refused " ++ name_of text.number name ++ codes " at " ++ decimal (text.start + fault.place) ++ codes ": " ++ record_reason fault.kind,
      All-append InLine (codes " refused " ++ name_of text.number name ++ codes " at " ++ decimal (text.start + fault.place)
          ++ codes ": ") (record_reason fault.kind)
          (All-append InLine (codes " refused " ++ name_of text.number name ++ codes " at " ++ decimal (text.start + fault.place)) (codes ": ")
          (All-append InLine (codes " refused " ++ name_of text.number name ++ codes " at ") (decimal (text.start + fault.place))
          (All-append InLine (codes " refused " ++ name_of text.number name) (codes " at ")
          (All-append InLine (codes " refused ") (name_of text.number name) (codes_in_line (codes " refused ") refl) named)
          (codes_in_line (codes " at ") refl))
          (decimal_in_line (text.start + fault.place))) (codes_in_line (codes ": ") refl)) (reason_in_line fault.kind),
      refl,
    )

-- ---- a line that is a comment

-- what is read of a record, without its name
module _ (variant : Variant) where
  abbrev said : RecordText → Reading
  said text = reading_of variant text.bytes

  -- the record is accepted
  abbrev pub IsAccepted : Reading → Type 0
  IsAccepted reading = (heading : Heading) × (contents : Contents) × (reading ≡ Accepted heading contents)

  -- the collection ends a line, and these are what its records say
  pub record Reads (collection : List ℕ) (readings : List Reading) : Type 0 where
    pub ends : ends_line collection ≡ true
    pub are : map said (records_of collection) ≡ readings

  module _ (comment : List ℕ) (in_line : All InLine comment) where
    abbrev line : List ℕ
    line = number_sign ∷ comment

    abbrev text_of_line : List ℕ
    text_of_line = line ++ line_feed ∷ []

    line_found : (place : ℕ) → lines_from place text_of_line ≡ record { start = place; bytes = line } ∷ []
    line_found place = first_line place line [] (All-cons InLine number_sign comment (λ e. absurd (omega (arith, e))) in_line)

    no_header : (place : ℕ) → marks true place text_of_line ≡ []
    no_header place = rw ((marks-lines place text_of_line).0, line_found place)

    holds_nothing_more : (bytes : List ℕ) → ends_line bytes ≡ true → has_content (bytes ++ text_of_line) ≡ has_content bytes
    holds_nothing_more bytes ends =
        let holds : Piece → Bool = λ line. not (is_empty (line_of line)) in
        rw (
          lines_after 0 bytes text_of_line ends,
          line_found (0 + length bytes),
          list_any-append holds (lines_from 0 bytes) (record { start = 0 + length bytes; bytes = line } ∷ []),
          begins_comment (0 + length bytes) comment,
          or-false (list_any holds (lines_from 0 bytes)),
        )

    -- a comment after a collection whose records are all accepted
    pub Reads-comment : (collection : List ℕ) (readings : List Reading) → All IsAccepted readings → Reads collection readings
        → Reads (collection ++ text_of_line) readings
    Reads-comment collection readings accepted reads = record {
      ends = ends-after collection text_of_line reads.ends (ends-line_feed line);
      are = all_said;
    }
      where
        last : RecordText
        last = begun nothing collection

        ended : ends_line last.bytes ≡ true
        ended = begun-ends_from nothing collection ∙ reads.ends

        more : RecordText
        more = record { number = last.number; start = last.start; bytes = last.bytes ++ text_of_line }

        grown : (finished last text_of_line ≡ []) × (begun last text_of_line ≡ more)
        grown =
            one_text last text_of_line
            (ap (λ b. marks b (last.start + length last.bytes) text_of_line) ended ∙ no_header (last.start + length last.bytes))

        records : records_of (collection ++ text_of_line) ≡ finished_records collection ++ if_record more
        records =
            rw (
              records_of-last (collection ++ text_of_line),
              finished-append nothing collection text_of_line,
              grown.0,
              append-nil (finished nothing collection),
              begun-append nothing collection text_of_line,
              grown.1,
            )

        all_accepted : All IsAccepted (map said (finished_records collection) ++ map said (if_record last))
        all_accepted = rw (← map-append said (finished_records collection) (if_record last), ← records_of-last collection, reads.are) accepted

        same_said : map said (if_record more) ≡ map said (if_record last)
        same_said =
            rw (
              holds_nothing_more last.bytes ended,
              by_test (has_content last.bytes)
                  (All-right IsAccepted (map said (finished_records collection)) (map said (if_record last)) all_accepted),
            )
          where
            by_test : (b : Bool) → All IsAccepted (map said (cond b (last ∷ []) []))
                → map said (cond b (more ∷ []) []) ≡ map said (cond b (last ∷ []) [])
            by_test false are = refl
            by_test true are =
                let (heading, contents, e) = All-head IsAccepted (said last) [] are in
                rw (accepted-comment_after variant last.bytes comment heading contents ended in_line e, ← e)

        all_said : map said (records_of (collection ++ text_of_line)) ≡ readings
        all_said = rw (
          records,
          map-append said (finished_records collection) (if_record more),
          same_said,
          ← map-append said (finished_records collection) (if_record last),
          ← records_of-last collection,
          reads.are,
        )

  -- ---- a record with a header

  said_placed : (records bytes : ℕ) (texts : List RecordText) → map said (map (placed_after records bytes) texts) ≡ map said texts
  said_placed records bytes [] = refl
  said_placed records bytes (text ∷ texts) = rw (said_placed records bytes texts)

  -- one record alone that begins with its one header
  headed_alone : (rest : List ℕ) → has_content (header_mark ∷ rest) ≡ true → marks false 1 rest ≡ []
      → map said (records_of (header_mark ∷ rest)) ≡ reading_of variant (header_mark ∷ rest) ∷ []
  headed_alone rest holds none =
      let (none_finished, begun_is) = one_text (next_text nothing) rest none in
      rw (none_finished, begun_is, holds)

  pub Reads-with_header : (collection rest : List ℕ) (readings : List Reading) → ends_line (header_mark ∷ rest) ≡ true
      → has_content (header_mark ∷ rest) ≡ true → marks false 1 rest ≡ []
      → Reads collection readings → Reads (collection ++ header_mark ∷ rest) (readings ++ reading_of variant (header_mark ∷ rest) ∷ [])
  Reads-with_header collection rest readings ends holds none reads = record {
    ends = ends-after collection (header_mark ∷ rest) reads.ends ends;
    are = rw (
      records-joined collection rest reads.ends,
      map-append said (records_of collection)
          (map (placed_after (length (records_of collection)) (length collection)) (records_of (header_mark ∷ rest))),
      reads.are,
      said_placed (length (records_of collection)) (length collection) (records_of (header_mark ∷ rest)),
      headed_alone rest holds none,
    );
  }

  -- a record without a header, which is first
  pub Reads-first : (bytes : List ℕ) → ends_line bytes ≡ true → has_content bytes ≡ true → marks true 0 bytes ≡ []
      → Reads bytes (reading_of variant bytes ∷ [])
  Reads-first bytes ends holds none =
      let (none_finished, begun_is) = one_text nothing bytes none in
      record {
        ends = ends;
        are = rw (records_of-last bytes, none_finished, begun_is, holds);
      }

-- ---- all texts but the first begin with a header

abbrev pub Marked : RecordText → Type 0
Marked text = begins_with header_mark text.bytes ≡ true

marked_longer : (bytes : List ℕ) (byte : ℕ) → begins_with header_mark bytes ≡ true → begins_with header_mark (bytes ++ byte ∷ []) ≡ true
marked_longer [] byte e = absurd (cc)
marked_longer (first ∷ bytes) byte e = e

all_marked : (text : RecordText) (bytes : List ℕ) → Marked text → All Marked (cut text bytes)
all_marked =
    cut-induction (λ text bytes texts. Marked text → All Marked texts) (λ text is. All-cons Marked text [] is (All-nil Marked))
    (λ text byte bytes e later is. All-cons Marked text (cut (next_text text) bytes) is (later refl))
    (λ text byte bytes e later is. later (marked_longer text.bytes byte is))

pub later_marked : (text : RecordText) (bytes : List ℕ) → All Marked (drop 1 (cut text bytes))
later_marked =
    cut-induction (λ text bytes texts. All Marked (drop 1 texts)) (λ text. All-nil Marked)
    (λ text byte bytes e later. all_marked (next_text text) bytes refl) (λ text byte bytes e later. later)

-- what holds of each text holds of those that are records
pub among-All : (P : RecordText → Type 0) (texts : List RecordText) → All P texts → All P (records_among texts)
among-All P [] all = all
among-All P (text ∷ texts) all = by_test (has_content text.bytes) (among-All P texts (All-tail P text texts all))
  where
    by_test : (b : Bool) → All P (records_among texts) → All P (cond b (text ∷ []) [] ++ records_among texts)
    by_test true rest = All-cons P text (records_among texts) (All-head P text texts all) rest
    by_test false rest = rest

-- what holds of records with headers, and of a first one before them, holds of the records of any collection
pub by_records : (P : List RecordText → Type 0)
    → ((records : List RecordText) → All Marked records → All (IsNumbered most_countable) records → P records)
    → ((first : RecordText) (rest : List RecordText) → All Marked rest → All (IsNumbered most_countable) (first ∷ rest) → P (first ∷ rest))
    → (collection : List ℕ) → All (IsNumbered most_countable) (records_of collection) → P (records_of collection)
by_records P headed begun_by collection small = by_texts (cut nothing collection) (later_marked nothing collection) small
  where
    by_texts : (texts : List RecordText) → All Marked (drop 1 texts) → All (IsNumbered most_countable) (records_among texts)
        → P (records_among texts)
    by_texts [] marked small = headed [] (All-nil Marked) small
    by_texts (first ∷ rest) marked small = by_test (has_content first.bytes) small
      where
        by_test : (b : Bool) → All (IsNumbered most_countable) (cond b (first ∷ []) [] ++ records_among rest)
            → P (cond b (first ∷ []) [] ++ records_among rest)
        by_test true small = begun_by first (records_among rest) (among-All Marked rest marked) small
        by_test false small = headed (records_among rest) (among-All Marked rest marked) small

-- ---- what is printed for a record

-- the lines are read as this reading, and begin with a header where the record had one
pub record IsReadAs (variant : Variant) (has_header : Bool) (lines : List ℕ) (reading : Reading) : Type 0 where
  pub ends : ends_line lines ≡ true
  pub holds : has_content lines ≡ true
  pub reads : reading_of variant lines ≡ reading
  pub accepted : IsAccepted variant reading
  pub with_header : has_header ≡ true → (rest : List ℕ) × (lines ≡ header_mark ∷ rest) × (marks false 1 rest ≡ [])
  pub without_header : has_header ≡ false → marks true 0 lines ≡ []

-- one more record with a header
pub Reads-lines : (variant : Variant) (collection : List ℕ) (readings : List Reading) (lines : List ℕ) (reading : Reading)
    → IsReadAs variant true lines reading
    → Reads variant collection readings → Reads variant (collection ++ lines) (readings ++ reading ∷ [])
Reads-lines variant collection readings lines reading is reads =
    let (rest, begins, none) = is.with_header refl in
    rw (← is.reads, begins) (Reads-with_header variant collection rest readings (ap ends_line (sym begins) ∙ is.ends)
    (ap has_content (sym begins) ∙ is.holds) none reads)

-- these lines of each accepted record are read as this
abbrev pub AreReadAs : Variant → (ℕ → Heading → Contents → List ℕ) → (Member → Reading) → Type 0
AreReadAs variant lines again =
    (number : ℕ) (bytes : List ℕ) (heading : Heading) (contents : Contents) → number ≤ most_countable
    → reading_of variant bytes ≡ Accepted heading contents
    → IsReadAs variant (begins_with header_mark bytes) (lines number heading contents) (again (member_of number heading contents))

-- and so what is printed for any collection is
abbrev pub ReadsAgain : Variant → (ℕ → Heading → Contents → List ℕ) → (Member → Reading) → Type 0
ReadsAgain variant lines again =
    (collection : List ℕ) → All (IsNumbered most_countable) (records_of collection)
    → map (λ text. reading_of variant text.bytes) (records_of (output_of_records (printed lines variant) collection))
    ≡ map again (members_among variant (records_of collection))

module _ (variant : Variant) (lines : ℕ → Heading → Contents → List ℕ) (again : Member → Reading) (own : AreReadAs variant lines again) where
  abbrev agains : RecordText → List Reading
  agains text = map again (if_accepted text.number (reading_of variant text.bytes))

  -- one record more
  pub one_more : (collection : List ℕ) (readings : List Reading) (text : RecordText) → text.number ≤ most_countable
      → (begins_with header_mark text.bytes ≡ false → collection ≡ [])
      → All (IsAccepted variant) readings → Reads variant collection readings
      → Reads variant (collection ++ printed lines variant text) (readings ++ agains text) × All (IsAccepted variant) (readings ++ agains text)
  one_more collection readings text small first accepted reads = by_reading (reading_of variant text.bytes) refl
    where
      by_header : (has : Bool) (bytes : List ℕ) (reading : Reading) → begins_with header_mark text.bytes ≡ has → IsReadAs variant has bytes reading
          → Reads variant (collection ++ bytes) (readings ++ reading ∷ [])
      by_header true bytes reading has is = Reads-lines variant collection readings bytes reading is reads
      by_header false bytes reading has is =
          let nothing_before = first has in
          let no_readings : readings ≡ [] = rw (← reads.are, nothing_before) in
          rw (nothing_before, no_readings) (rw is.reads at (Reads-first variant bytes is.ends is.holds (is.without_header refl)))

      by_reading : (reading : Reading) → reading_of variant text.bytes ≡ reading
          → Reads variant (collection ++ printed_by lines text reading) (readings ++ map again (if_accepted text.number reading))
          × All (IsAccepted variant) (readings ++ map again (if_accepted text.number reading))
      by_reading (Accepted heading contents) e =
          let is = own text.number text.bytes heading contents small e in
          let reading = again (record { number = text.number; heading = heading; contents = contents }) in (
            by_header (begins_with header_mark text.bytes) (lines text.number heading contents) reading refl is,
            All-append (IsAccepted variant) readings (reading ∷ []) accepted
                (All-cons (IsAccepted variant) reading [] is.accepted (All-nil (IsAccepted variant))),
          )
      by_reading (Refused name fault) e =
          let (comment, in_line, is) = refusal_is variant text name fault small e in (
            rw (append-nil readings, is) (Reads-comment variant comment in_line collection readings accepted reads),
            rw (append-nil readings) accepted,
          )

  -- and so one after another, where none but the first may be without a header
  pub all_more : (collection : List ℕ) (readings : List Reading) (texts : List RecordText)
      → All (λ text. text.number ≤ most_countable) texts → All (λ text. begins_with header_mark text.bytes ≡ true) texts
      → All (IsAccepted variant) readings → Reads variant collection readings
      → Reads variant (collection ++ flat_map (printed lines variant) texts) (readings ++ flat_map agains texts)
  all_more collection readings [] small marked accepted reads =
      rw (append-nil readings, append-nil collection) reads
  all_more collection readings (text ∷ texts) small marked accepted reads =
      let with_header = All-head (λ text. begins_with header_mark text.bytes ≡ true) text texts marked in
      let (next, all_accepted) =
      one_more collection readings text (All-head (λ text. text.number ≤ most_countable) text texts small) (λ none. absurd (cc)) accepted reads in
      let rest =
      all_more (collection ++ printed lines variant text) (readings ++ agains text) texts
      (All-tail (λ text. text.number ≤ most_countable) text texts small)
      (All-tail (λ text. begins_with header_mark text.bytes ≡ true) text texts marked) all_accepted next in
      rw (
        append_assoc readings (agains text) (flat_map agains texts),
        append_assoc collection (printed lines variant text) (flat_map (printed lines variant) texts),
      ) at rest

  -- ---- all of them

  none_read : Reads variant [] []
  none_read = record { ends = refl; are = refl }

  pub all_read : (collection : List ℕ) → All (IsNumbered most_countable) (records_of collection)
      → Reads variant (output_of_records (printed lines variant) collection) (flat_map agains (records_of collection))
  all_read = by_records Says headed begun_by
    where
      Says : List RecordText → Type 0
      Says records = Reads variant (flat_map (printed lines variant) records) (flat_map agains records)

      headed : (records : List RecordText) → All Marked records → All (IsNumbered most_countable) records → Says records
      headed records marked small = all_more [] [] records small marked (All-nil (IsAccepted variant)) none_read

      begun_by : (first : RecordText) (rest : List RecordText) → All Marked rest → All (IsNumbered most_countable) (first ∷ rest)
          → Says (first ∷ rest)
      begun_by first rest marked small =
          let (next, accepted) =
          one_more [] [] first (All-head (IsNumbered most_countable) first rest small) (λ none. refl) (All-nil (IsAccepted variant)) none_read in
          all_more (printed lines variant first) (agains first) rest (All-tail (IsNumbered most_countable) first rest small) marked accepted next

  -- as members
  pub agains-members : (texts : List RecordText) → flat_map agains texts ≡ map again (members_among variant texts)
  agains-members [] = refl
  agains-members (text ∷ texts) =
      rw (agains-members texts, map-append again (if_accepted text.number (reading_of variant text.bytes)) (members_among variant texts))

  pub all_again : ReadsAgain variant lines again
  all_again collection small = (all_read collection small).are ∙ agains-members (records_of collection)

-- ---- printed twice

module _ (variant : Variant) (lines : ℕ → Heading → Contents → List ℕ) (again : Member → Reading) (once : Member → List ℕ) where
  -- this is printed for the member when it is read again, whatever number it has then
  abbrev pub Stays : Member → Type 0
  Stays member = (text : RecordText) → printed_by lines text (again member) ≡ once member

  pub same_printed : (texts : List RecordText) (members : List Member) → map (λ text. reading_of variant text.bytes) texts ≡ map again members
      → All Stays members → flat_map (printed lines variant) texts ≡ flat_map once members
  same_printed [] [] e stay = refl
  same_printed [] (member ∷ members) e stay = absurd (cc)
  same_printed (text ∷ texts) [] e stay = absurd (cc)
  same_printed (text ∷ texts) (member ∷ members) e stay =
      let first : reading_of variant text.bytes ≡ again member = cc in
      let later : map (λ text. reading_of variant text.bytes) texts ≡ map again members = ap (drop 1) e in
      rw (first, All-head Stays member members stay text, same_printed texts members later (All-tail Stays member members stay))
