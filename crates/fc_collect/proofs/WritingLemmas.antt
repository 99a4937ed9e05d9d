-- Lemmas on texts that go out in parts, with some of them pending.
use Rattle.std.proofs.Common.{◌++◌, ◌+◌, ◌-◌, ◌<◌, ◌∙◌, ◌≡◌, [], add-one, ap, append-nil, append_assoc, drop, Err}
use Rattle.std.proofs.Common.{flat_map, get_or, length, List, Ok, Option, refl, Result, subst, sym, take, take-suc, ℕ}
use Rattle.std.proofs.{KnownBytes.{Appends-nil, Appends-trans}, lemmas.Grind.{flat_map-append}}
use Rattle.std.proofs.{lemmas.List.{flat_map_more, take-append-drop, take_rest}, Math.Seq.{take-add}}
use Rattle.std.specs.Io.KnownBytes.{Appends}
use Rattle.fc_collect.specs.inside.{IsPrintFault, SendingFits, Sends, SendsSome}
use Rattle.fc_collect.specs.Promises.{Begins, WritesText, WritingFits}
use Rattle.fc_collect.specs.declared.streams.faults.RunFault.{RunFault, TheVariants.{Memory, Read, ReaderNeverEnds}}
use Rattle.fc_collect.specs.declared.streams.faults.RunFault.TheVariants.{TooLarge, Write}

-- one text after another
pub Sends-then : {text more old middle new : List ℕ} {a b c : Option (List ℕ)} → Sends text old middle a b → Sends more middle new b c → Sends (text ++ more) old new a c
Sends-then {text} {more} {old} {middle} {new} {a} {b} {c} first then = record {
  written = first.written ++ then.written;
  appended = Appends-trans a b c first.written then.written first.appended then.appended;
  all =
      append_assoc first.written then.written new
      ∙ ap (λ l. first.written ++ l) then.all
      ∙ sym (append_assoc first.written middle more)
      ∙ ap (λ l. l ++ more) first.all
      ∙ append_assoc old text more;
}

-- a text, and then some of another
pub SendsSome-then : {text more old middle : List ℕ} {a b c : Option (List ℕ)} → Sends text old middle a b → SendsSome more middle b c → SendsSome (text ++ more) old a c
SendsSome-then {text} {more} {old} {middle} {a} {b} {c} first then = record {
  written = first.written ++ then.written;
  appended = Appends-trans a b c first.written then.written first.appended then.appended;
  begins = let (rest, e) = then.begins in (
    rest,
    append_assoc first.written then.written rest
        ∙ ap (λ l. first.written ++ l) e
        ∙ sym (append_assoc first.written middle more)
        ∙ ap (λ l. l ++ more) first.all
        ∙ append_assoc old text more,
  );
}

-- some of a text is some of a longer one
pub SendsSome-more : {text old : List ℕ} {a b : Option (List ℕ)} → (more : List ℕ) → SendsSome text old a b → SendsSome (text ++ more) old a b
SendsSome-more {text} {old} more some = record {
  written = some.written;
  appended = some.appended;
  begins = let (rest, e) = some.begins in (rest ++ more, sym (append_assoc some.written rest more) ∙ ap (λ l. l ++ more) e ∙ append_assoc old text more);
}

pub Sends-none : (text old new : List ℕ) (a : Option (List ℕ)) → new ≡ old ++ text → Sends text old new a a
Sends-none text old new a e = record { written = []; appended = Appends-nil a; all = e }

-- none of a text went out
pub SendsSome-none : (text old : List ℕ) (a : Option (List ℕ)) → SendsSome text old a a
SendsSome-none text old a = record { written = []; appended = Appends-nil a; begins = (old ++ text, refl) }

-- a text was put after what was pending, and then some of both was written, or could not be
pub SendingFits-printed : {A : Type 0} (text old middle new : List ℕ) (a b : Option (List ℕ)) (result : Result A RunFault) → middle ≡ old ++ text
    → SendingFits [] middle new a b result → SendingFits text old new a b result
SendingFits-printed text old middle new a b (Ok _) e sent = subst (λ text. Sends text old new a b) (append-nil text) (Sends-then (Sends-none text old middle a e) sent)
SendingFits-printed text old middle new a b (Err fault) e some = (some.0, subst (λ text. SendsSome text old a b) (append-nil text) (SendsSome-then (Sends-none text old middle a e) some.1))

-- a front of what was pending went out
pub SendingFits-failed : {A : Type 0} (pending new : List ℕ) (a b : Option (List ℕ)) (fault : RunFault) → WritesText {A = A} pending a b (Err fault) → IsPrintFault fault × SendsSome [] pending a b
SendingFits-failed {A} pending new a b fault writes = (
  is_fault fault writes.fits,
  record {
    written = writes.written;
    appended = writes.appended;
    begins = let (rest, e) = begins fault writes.fits in (rest, e ∙ sym (append-nil pending));
  },
)
  where
    is_fault : (fault : RunFault) → WritingFits {A = A} pending writes.written (Err fault) → IsPrintFault fault
    is_fault Read fits = absurd fits
    is_fault Write fits = tt
    is_fault Memory fits = absurd fits
    is_fault TooLarge fits = absurd fits
    is_fault ReaderNeverEnds fits = absurd fits

    begins : (fault : RunFault) → WritingFits {A = A} pending writes.written (Err fault) → Begins writes.written pending
    begins Read fits = absurd fits
    begins Write fits = fits
    begins Memory fits = absurd fits
    begins TooLarge fits = absurd fits
    begins ReaderNeverEnds fits = absurd fits

-- a text was put after nothing, and then some of it went out
pub SendsSome-after : {text old middle : List ℕ} {a b c : Option (List ℕ)} → old ≡ [] → Sends text old middle a b → SendsSome [] middle b c → SendsSome text [] a c
SendsSome-after {text} {old} {middle} {a} {b} {c} none sent some =
    subst (λ t. SendsSome t [] a c) (append-nil text) (SendsSome-then (subst (λ l. Sends text l middle a b) none sent) some)

-- ---- texts that go out one after another

flat_map-next : {X : Type 0} (lines : X → List ℕ) (xs : List X) (d : X) (place : ℕ) → place < length xs
    → flat_map lines (take (place + 1) xs) ≡ flat_map lines (take place xs) ++ lines (get_or xs place d)
flat_map-next lines xs d place within =
    ap (λ count. flat_map lines (take count xs)) (add-one place) ∙ ap (flat_map lines) (take-suc xs place d within) ∙ sym (flat_map_more lines [] (take place xs) (get_or xs place d))

-- the text of one more
pub Sends-next : {X : Type 0} (lines : X → List ℕ) (xs : List X) (d : X) (place : ℕ) {old middle new : List ℕ} {a b c : Option (List ℕ)} → place < length xs
    → Sends (flat_map lines (take place xs)) old middle a b → Sends (lines (get_or xs place d)) middle new b c → Sends (flat_map lines (take (place + 1) xs)) old new a c
Sends-next lines xs d place {old} {middle} {new} {a} {b} {c} within first then =
    subst (λ text. Sends text old new a c) (sym (flat_map-next lines xs d place within)) (Sends-then first then)

-- some of the text of one more, before others
pub SendsSome-next : {X : Type 0} (lines : X → List ℕ) (xs : List X) (d : X) (place : ℕ) {old middle : List ℕ} {a b c : Option (List ℕ)} → place < length xs
    → Sends (flat_map lines (take place xs)) old middle a b → SendsSome (lines (get_or xs place d)) middle b c → SendsSome (flat_map lines xs) old a c
SendsSome-next lines xs d place {old} {middle} {a} {b} {c} within first some =
    let later = flat_map lines (drop (place + 1) xs) in
    let all : flat_map lines xs ≡ flat_map lines (take place xs) ++ (lines (get_or xs place d) ++ later) =
    ap (flat_map lines) (sym (take-append-drop (place + 1) xs))
    ∙ flat_map-append lines (take (place + 1) xs) (drop (place + 1) xs)
    ∙ ap (λ text. text ++ later) (flat_map-next lines xs d place within)
    ∙ append_assoc (flat_map lines (take place xs)) (lines (get_or xs place d)) later in
    subst (λ text. SendsSome text old a c) (sym all) (SendsSome-then first (SendsSome-more later some))

-- ---- a text that goes out piece by piece

-- a write took some more of the text
pub Appends-more : (a b c : Option (List ℕ)) (text : List ℕ) (at more : ℕ) → Appends a b (take at text)
    → Appends b c (take more (take (length text - at) (drop at text))) → Appends a c (take (at + more) text)
Appends-more a b c text at more before now =
    let joined : take (at + more) text ≡ take at text ++ take more (take (length text - at) (drop at text)) =
    take-add at more text ∙ ap (λ l. take at text ++ take more l) (sym (take_rest text at)) in
    subst (Appends a c) (sym joined) (Appends-trans a b c _ _ before now)

-- a write took none of the text
pub Appends-none : (a b c : Option (List ℕ)) (bytes : List ℕ) → Appends a b bytes → Appends b c [] → Appends a c bytes
Appends-none a b c bytes before now = subst (Appends a c) (append-nil bytes) (Appends-trans a b c bytes [] before now)
