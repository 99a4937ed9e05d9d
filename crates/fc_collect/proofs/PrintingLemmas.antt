-- What a record says, and who is a member with it.
use Rattle.std.proofs.Common.{◌++◌, ◌+◌, ◌-◌, ◌∙◌, ◌∷◌, ◌≡◌, [], ap, append-nil, append_assoc, arith, Bool, cond, Err}
use Rattle.std.proofs.Common.{false, length, length-append, List, Ok, Option, refl, Result, subst, sym, true}
use Rattle.std.proofs.{Common.{true≢false, ℕ}, KnownBytes.{Appends-trans}, lemmas.Grind.{flat_map-append}}
use Rattle.std.{proofs.lemmas.List.Sums.{sum_by-append}, specs.{Io.KnownBytes.{Appends}, List.{count_by, flat_map}}}
use Rattle.fc_board.specs.{declared.rule.Variant.{Variant}, Games.{Game, game_of}}
use Rattle.fc_record.specs.Grammar.{Accepted, after_header, Contents, contents_of, Heading, Reading, reading_after}
use Rattle.fc_record.specs.{Grammar.{reading_with, Refused}, Printing.{is_refused, refuses}, RecordTexts.{RecordText}}
use Rattle.fc_record.specs.declared.record.RecordFault.{RecordFault}
use Rattle.fc_collect.proofs.WritingLemmas.{SendingFits-failed, Sends-then, SendsSome-after, SendsSome-more}
use Rattle.fc_collect.{proofs.WritingLemmas.{SendsSome-then}, specs.Groups.{if_accepted, Member, summary_of}}
use Rattle.fc_collect.specs.inside.{Finishes, IsAllowed, IsPrintFault, last_output, records_in, Sends, SendsSome}
use Rattle.fc_collect.specs.{inside.{TakeUpFault, Treats}, Promises.{WritesText}}
use Rattle.fc_collect.specs.Records.{has_content, if_record, next_number, outputs_after, records_among}
use Rattle.fc_collect.specs.declared.{engine.progress.Progress.{Progress}, streams.faults.RunFault.{RunFault}}
use Rattle.fc_collect.specs.declared.streams.faults.RunFault.TheVariants.{Memory, Read, ReaderNeverEnds, TooLarge}
use Rattle.fc_collect.specs.declared.streams.faults.{RunFault.TheVariants.{Write}, Summary.{Summary}}
use Rattle.fc_collect.specs.declared.streams.limits.Limits.{Limits}

-- a record is read as its body is, after its heading
pub read-as : (game : Game) (heading : Heading) (bytes body : List ℕ) (place : ℕ) (said : Result Contents RecordFault) → game ≡ game_of heading.variant → body ≡ after_header bytes
    → place ≡ length bytes - length body → contents_of game place body ≡ said → reading_after heading bytes ≡ reading_with heading said
read-as game heading bytes body place said played follows at_place found =
    let here = subst (λ n. contents_of game n body ≡ said) at_place found in
    let ensured = subst (λ rest. contents_of game (length bytes - length rest) rest ≡ said) follows here in
    ap (reading_with heading) (subst (λ rules. contents_of rules (length bytes - length (after_header bytes)) (after_header bytes) ≡ said) played ensured)

-- a refused record is no member
pub refused-same : (Holds : List Member → Type 0) (members : List Member) (number : ℕ) (reading : Reading) → refuses reading ≡ true
    → Holds members → Holds (members ++ if_accepted number reading)
refused-same Holds members number (Accepted heading contents) refused holds = absurd (true≢false (sym refused))
refused-same Holds members number (Refused name fault) refused holds = subst Holds (sym (append-nil members)) holds

-- ---- records that are printed one after another
pub records_among-append : (xs ys : List RecordText) → records_among (xs ++ ys) ≡ records_among xs ++ records_among ys
records_among-append xs ys = flat_map-append if_record xs ys

-- the records of one text more
pub records_among-one : (done : List RecordText) (text : RecordText) → records_among (done ++ text ∷ []) ≡ records_among done ++ if_record text
records_among-one done text = records_among-append done (text ∷ []) ∙ ap (λ l. records_among done ++ l) (append-nil (if_record text))

pub Treats-nil : (refuses : RecordText → Bool) (held : List RecordText → Type 0) (at : Progress) → Treats refuses held held at at []
Treats-nil refuses held at = record { refused = omega arith; keeps = λ seen h. subst held (sym (append-nil seen)) h }

pub Treats-then : (refuses : RecordText → Bool) (a b c : List RecordText → Type 0) (old at new : Progress) (xs ys : List RecordText)
    → Treats refuses a b old at xs → Treats refuses b c at new ys → Treats refuses a c old new (xs ++ ys)
Treats-then refuses a b c old at new xs ys first then = record {
  refused = omega (arith, first.refused, then.refused, sum_by-append (λ text. cond (refuses text) 1 0) xs ys);
  keeps = λ seen h. subst c (append_assoc seen xs ys) (then.keeps (seen ++ xs) (first.keeps seen h));
}

-- the records of one text more
pub Treats-texts : (refuses : RecordText → Bool) (a b c : List RecordText → Type 0) (old at new : Progress) (done : List RecordText) (text : RecordText)
    → Treats refuses a b old at (records_among done) → Treats refuses b c at new (if_record text) → Treats refuses a c old new (records_among (done ++ text ∷ []))
Treats-texts refuses a b c old at new done text first then =
    subst (Treats refuses a c old new) (sym (records_among-one done text)) (Treats-then refuses a b c old at new (records_among done) (if_record text) first then)

-- ---- what goes by the records before

-- records one after another
pub outputs_after-append : (output_of : List RecordText → RecordText → List ℕ) (seen xs ys : List RecordText)
    → outputs_after output_of seen (xs ++ ys) ≡ outputs_after output_of seen xs ++ outputs_after output_of (seen ++ xs) ys
outputs_after-append output_of seen [] ys = ap (λ seen. outputs_after output_of seen ys) (sym (append-nil seen))
outputs_after-append output_of seen (text ∷ xs) ys =
    ap (λ l. output_of seen text ++ l)
    (outputs_after-append output_of (seen ++ text ∷ []) xs ys
    ∙ ap (λ before. outputs_after output_of (seen ++ text ∷ []) xs ++ outputs_after output_of before ys) (append_assoc seen (text ∷ []) xs))
    ∙ sym (append_assoc (output_of seen text) (outputs_after output_of (seen ++ text ∷ []) xs) (outputs_after output_of (seen ++ text ∷ xs) ys))

-- where it goes by none of them
pub outputs_alone : (output_of : RecordText → List ℕ) (seen texts : List RecordText) → outputs_after (λ before. output_of) seen texts ≡ flat_map output_of texts
outputs_alone output_of seen [] = refl
outputs_alone output_of seen (text ∷ texts) = ap (λ l. output_of text ++ l) (outputs_alone output_of (seen ++ text ∷ []) texts)

-- the output of one text more
pub Sends-texts : (output_of : List RecordText → RecordText → List ℕ) (seen done : List RecordText) (text : RecordText) (old middle new : List ℕ) (a b c : Option (List ℕ))
    → Sends (outputs_after output_of seen (records_among done)) old middle a b → Sends (outputs_after output_of (seen ++ records_among done) (if_record text)) middle new b c
    → Sends (outputs_after output_of seen (records_among (done ++ text ∷ []))) old new a c
Sends-texts output_of seen done text old middle new a b c first then =
    subst (λ t. Sends t old new a c) (sym (ap (outputs_after output_of seen) (records_among-one done text) ∙ outputs_after-append output_of seen (records_among done) (if_record text))) (Sends-then first then)

-- some output of one text more, before others
pub SendsSome-texts : (output_of : List RecordText → RecordText → List ℕ) (seen done more : List RecordText) (text : RecordText) (all : List RecordText) (old middle : List ℕ) (a b c : Option (List ℕ))
    → all ≡ done ++ text ∷ more
    → Sends (outputs_after output_of seen (records_among done)) old middle a b → SendsSome (outputs_after output_of (seen ++ records_among done) (if_record text)) middle b c
    → SendsSome (outputs_after output_of seen (records_among all)) old a c
SendsSome-texts output_of seen done more text all old middle a b c same first then =
    let before = seen ++ records_among done in
    let later = outputs_after output_of (before ++ if_record text) (records_among more) in
    let each : outputs_after output_of seen (records_among all) ≡ outputs_after output_of seen (records_among done) ++ (outputs_after output_of before (if_record text) ++ later) =
    ap (λ l. outputs_after output_of seen (records_among l)) same
    ∙ ap (outputs_after output_of seen) (records_among-append done (text ∷ more))
    ∙ outputs_after-append output_of seen (records_among done) (records_among (text ∷ more))
    ∙ ap (λ l. outputs_after output_of seen (records_among done) ++ l) (outputs_after-append output_of before (if_record text) (records_among more)) in
    subst (λ t. SendsSome t old a c) (sym each) (SendsSome-then first (SendsSome-more later then))

-- ---- faults

pub TakeUpFault-sent : (limits : Limits) (output : List RecordText → List ℕ) (old : Progress) (held : List ℕ) (searched : ℕ) (a b : Option (List ℕ)) (fault : RunFault)
    → IsPrintFault fault → IsAllowed limits old held searched → SendsSome (output (records_in old held searched)) [] a b
    → TakeUpFault limits output old held searched a b fault
TakeUpFault-sent limits output old held searched a b Read is_one allowed some = absurd is_one
TakeUpFault-sent limits output old held searched a b Write is_one allowed some = (allowed, some)
TakeUpFault-sent limits output old held searched a b Memory is_one allowed some = (allowed, some)
TakeUpFault-sent limits output old held searched a b TooLarge is_one allowed some = absurd is_one
TakeUpFault-sent limits output old held searched a b ReaderNeverEnds is_one allowed some = absurd is_one

pub TakeUpFault-failed : (limits : Limits) (output : List RecordText → List ℕ) (old : Progress) (shown held : List ℕ) (searched : ℕ) (pending middle : List ℕ) (a b c : Option (List ℕ)) (fault : RunFault)
    → shown ≡ held → pending ≡ [] → IsAllowed limits old shown searched → Sends (output (records_in old shown searched)) pending middle a b
    → IsPrintFault fault → SendsSome [] middle b c → TakeUpFault limits output old held searched a c fault
TakeUpFault-failed limits output old shown held searched pending middle a b c fault same none allowed sent is_one some =
    subst (λ l. TakeUpFault limits output old l searched a c fault) same (TakeUpFault-sent limits output old shown searched a c fault is_one allowed (SendsSome-after none sent some))

-- the last text could not be printed whole
pub Finishes-begun : (number : ℕ) (output : List RecordText → List ℕ) (count : ℕ) (ending : List RecordText → List ℕ) (seen : List RecordText) (at : Progress) (text : RecordText)
    (old : List ℕ) (a b : Option (List ℕ)) (fault : RunFault) → old ≡ [] → IsPrintFault fault → SendsSome (output (if_record text)) old a b
    → Finishes number (last_output output ending seen text) count at text a b (Err fault)
Finishes-begun number output count ending seen at text old a b fault none is_one some =
    (is_one, subst (λ l. SendsSome (last_output output ending seen text) l a b) none (SendsSome-more (ending (seen ++ if_record text)) some))

-- the end could not be printed whole
pub Finishes-ended : (number : ℕ) (output : List RecordText → List ℕ) (count : ℕ) (ending : List RecordText → List ℕ) (seen : List RecordText) (at : Progress) (text : RecordText)
    (old middle : List ℕ) (a b c : Option (List ℕ)) (fault : RunFault)
    → old ≡ [] → Sends (output (if_record text)) old middle a b → IsPrintFault fault → SendsSome (ending (seen ++ if_record text)) middle b c
    → Finishes number (last_output output ending seen text) count at text a c (Err fault)
Finishes-ended number output count ending seen at text old middle a b c fault none sent is_one some =
    (is_one, subst (λ l. SendsSome (last_output output ending seen text) l a c) none (SendsSome-then sent some))

-- what was left of it could not be written whole
pub Finishes-failed : (number : ℕ) (output : List RecordText → List ℕ) (count : ℕ) (ending : List RecordText → List ℕ) (seen : List RecordText) (at : Progress) (text : RecordText)
    (old middle new pending : List ℕ) (a b c d : Option (List ℕ)) (fault : RunFault)
    → old ≡ [] → Sends (output (if_record text)) old middle a b → Sends (ending (seen ++ if_record text)) middle new b c → pending ≡ new
    → WritesText {A = Unit {0}} pending c d (Err fault) → Finishes number (last_output output ending seen text) count at text a d (Err fault)
Finishes-failed number output count ending seen at text old middle new pending a b c d fault none sent ended same writes =
    let (is_one, some) = SendingFits-failed pending [] c d fault writes in
    (is_one, SendsSome-after none (Sends-then sent ended) (subst (λ l. SendsSome [] l c d) same some))

-- a text and the same text
pub Sends-same : {text same old new : List ℕ} {a b : Option (List ℕ)} → text ≡ same → Sends text old new a b → Sends same old new a b
Sends-same {text} {same} {old} {new} {a} {b} e sent = subst (λ t. Sends t old new a b) e sent

pub SendsSome-same : {text same old : List ℕ} {a b : Option (List ℕ)} → text ≡ same → SendsSome text old a b → SendsSome same old a b
SendsSome-same {text} {same} {old} {a} {b} e some = subst (λ t. SendsSome t old a b) e some

-- it was all written
pub Finishes-whole : (number : ℕ) (output : List RecordText → List ℕ) (count : ℕ) (ending : List RecordText → List ℕ) (seen : List RecordText) (at : Progress) (text : RecordText)
    (old middle new pending : List ℕ) (a b c d : Option (List ℕ)) (summary : Summary)
    → old ≡ [] → Sends (output (if_record text)) old middle a b → Sends (ending (seen ++ if_record text)) middle new b c → pending ≡ new → WritesText {A = Unit {0}} pending c d (Ok tt)
    → summary.records + number ≡ at.number + length (if_record text) → summary.refused ≡ count
    → Finishes number (last_output output ending seen text) count at text a d (Ok summary)
Finishes-whole number output count ending seen at text old middle new pending a b c d summary none sent ended same writes records refused =
    let both = Sends-then sent ended in
    let all = ap (λ l. both.written ++ l) (writes.fits ∙ same) ∙ both.all ∙ ap (λ l. l ++ last_output output ending seen text) none in
    record {
      written = subst (Appends a d) all (Appends-trans a c d both.written writes.written both.appended writes.appended);
      records = records;
      refused_so = refused;
    }

-- ---- counts

-- a text that is a record takes a number
pub next_number-records : (text : RecordText) → next_number text ≡ text.number + length (if_record text)
next_number-records text = by (has_content text.bytes)
  where
    by : (b : Bool) → cond b (text.number + 1) text.number ≡ text.number + length (cond b (text ∷ []) [])
    by true = omega arith
    by false = omega arith

-- the counts of a run are those of all its records
pub summary-is : (variant : Variant) (number records refused : ℕ) (seen more : List RecordText) (summary : Summary) → summary.records + number ≡ records + length more
    → summary.refused ≡ refused + count_by (is_refused variant) more → records ≡ number + length seen → refused ≡ count_by (is_refused variant) seen → summary ≡ summary_of variant (seen ++ more)
summary-is variant number records refused seen more summary counted refusals before refused_before =
    let long : summary.records ≡ length (seen ++ more) = omega (arith, counted, before, length-append seen more) in
    let same = refusals ∙ ap (λ n. n + count_by (is_refused variant) more) refused_before ∙ sym (sum_by-append (λ text. cond (is_refused variant text) 1 0) seen more) in
    λ i. record { records = long i; refused = same i }
