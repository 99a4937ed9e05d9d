-- From what clap's calls give to the definitions of a request.
use Rattle.clap.proofs.{ValueTestLemmas.{Accepts-accepts, accepts-Accepts}, WalkLemmas.{first_value-rows}}
use Rattle.clap.specs.declared.{builder.value_parser.ValueParser.{ValueParser}, error.Error.{Error}}
use Rattle.clap.specs.declared.{error.kind.ErrorKind.TheVariants.{OutOfMemory}, parser.matches.ArgMatches.{ArgMatches}}
use Rattle.clap.specs.{declared.parser.matches.Found.{Found}, Values.{IsSignedIn}, ValueTests.{is_signed_in}}
use Rattle.clap.specs.Words.{App, FailsBy, fault_of, first_of, first_value, HasKind, HasMatchesOf, is_simple}
use Rattle.clap.specs.Words.{is_simple_and_free, IsAmong, kind_of, Kinds, rows_of, subcommand_rows_of, Text}
use Rattle.std.proofs.Common.{◌∙◌, ◌≡◌, ◌≤◌, ap, ap₂, arith, Bool, codes, cond, Err, false, FitsSigned, inl, inr, List}
use Rattle.std.proofs.Common.{None, of_z, Ok, Option, option_and_then, option_map, refl, Result, Some, subst, suc, sym}
use Rattle.std.{proofs.{Common.{to_z, true, zero, ℤ, ℕ}, lemmas.Int.{ints, to_z-of_z}}, specs.Borrow.{Bor}}
use Rattle.std.proofs.lemmas.Option.{same_Some}
use Rattle.std.specs.{Int.{FitsUnsignedBits, w64}, Prelude.{◌≤ℤ◌, neg_ℤ, negsuc, pos, unsigned_abs}}
use Rattle.std.specs.{Result.{OkIff, result_ok}, Str.Parse.{digits_value, IsNumeral, ParsesSigned, signed_digits_value}}
use Rattle.std.specs.Str.Parse.{starts_with_minus, without_leading_sign}
use Rattle.fc_tool.specs.{Answers, any_size_in, is_true, limits_in, limits_named, number_between, number_in, program}
use Rattle.fc_tool.specs.{request_of, variant_in, variant_of_argument}
use Rattle.fc_tool.specs.declared.request.{Request.{Request}, WordsFault.TheVariants.{Parser}}
use Rattle.clap.specs.declared.builder.value_parser.ValueParser.TheVariants as parser

-- what `get_str` reads is what the rows give
pub variant_read : (given : Option (Bor Text)) (found : Found) → option_map (λ text. text.now) given ≡ first_value found (codes "variant")
    → option_and_then variant_of_argument (option_map (λ text. text.now) given) ≡ variant_in (rows_of found)
variant_read given found read = ap (option_and_then variant_of_argument) (read ∙ first_value-rows found (codes "variant"))

pub flag_read : (id : Text) (given : Option Text) (found : Found) → given ≡ first_value found id → is_true given ≡ is_true (first_of id (rows_of found))
flag_read id given found read = ap is_true (read ∙ first_value-rows found id)

pub limits_read : (any_size : Bool) (number place : Option Text) (found : Found) → any_size ≡ any_size_in (rows_of found)
    → number ≡ first_value found (codes "from_record") → place ≡ first_value found (codes "from_byte")
    → limits_named any_size number place ≡ limits_in (rows_of found)
limits_read any_size number place found any is_number is_place =
    ap (λ of. limits_named of number place) any
    ∙ ap₂ (limits_named (any_size_in (rows_of found))) (is_number ∙ first_value-rows found (codes "from_record")) (is_place ∙ first_value-rows found (codes "from_byte"))

pub number_read : (given : Option (Bor Text)) (found : Found) → option_map (λ text. text.now) given ≡ first_value found (codes "number")
    → option_and_then (number_between 0 4294967295) (option_map (λ text. text.now) given) ≡ number_in (rows_of found)
number_read given found read = ap (option_and_then (number_between 0 4294967295)) (read ∙ first_value-rows found (codes "number"))

-- clap's walk gives the matches of this command line, and finds no fault of another kind than its own
pub is_simple_program : (choices dealt : ValueParser) → is_simple (program choices dealt) ≡ true
is_simple_program choices dealt = refl

pub is_free_program : (choices dealt : ValueParser) → is_simple_and_free (program choices dealt) ≡ true
is_free_program choices dealt = refl

answered_by : (line : App) (words : List Text) (matches : ArgMatches) (request : Option Request)
    → is_simple line ≡ true → is_simple_and_free line ≡ true
    → HasMatchesOf line words matches
    → (is_simple_and_free line ≡ true → FailsBy {T = ArgMatches} (fault_of line words) (Ok matches))
    → request ≡ option_and_then request_of (subcommand_rows_of matches)
    → Answers line words (Ok request)
answered_by line words matches request simple free given kinds asked =
    (kinds free, asked ∙ ap (option_and_then request_of) (given simple).1)

-- what a parse of a command gives is the answer of the command line that it is
pub answered : (line known : App) (words : List Text) (matches : ArgMatches) (request : Option Request)
    → line ≡ known → is_simple known ≡ true → is_simple_and_free known ≡ true
    → HasMatchesOf line words matches
    → (is_simple_and_free line ≡ true → FailsBy {T = ArgMatches} (fault_of line words) (Ok matches))
    → request ≡ option_and_then request_of (subcommand_rows_of matches)
    → Answers known words (Ok request)
answered line known words matches request is simple free given kinds asked =
    subst (λ of. Answers of words (Ok request)) is
    (answered_by line words matches request (ap is_simple is ∙ simple) (ap is_simple_and_free is ∙ free) given kinds asked)

-- and an error is of a kind that it finds, unless memory ran out
refused_by : (faults : Kinds) (error : Error) → (kind_of error ≡ OutOfMemory → ⊥) → HasKind faults error → IsAmong (kind_of error) faults
refused_by faults error other (inl memory) = absurd (other memory)
refused_by faults error other (inr among) = among

pub refused : (line known : App) (words : List Text) (error : Error)
    → line ≡ known → is_simple_and_free known ≡ true → (kind_of error ≡ OutOfMemory → ⊥)
    → (is_simple_and_free line ≡ true → FailsBy {T = ArgMatches} (fault_of line words) (Err error))
    → Answers known words (Err (Parser error))
refused line known words error is free other kinds =
    subst (λ of. IsAmong (kind_of error) (fault_of of words)) is
    (refused_by (fault_of line words) error other (kinds (ap is_simple_and_free is ∙ free)))

-- ---- a text that is read as an i64, and then as a u64 within bounds, is read as the parser reads a number within these
size_of_minus : (n : ℕ) → unsigned_abs (neg_ℤ (pos n)) ≡ n
size_of_minus zero = refl
size_of_minus (suc n) = refl

size_of_text : (text : List ℕ) → unsigned_abs (signed_digits_value 10 text) ≡ digits_value 10 (without_leading_sign text)
size_of_text text = by (starts_with_minus text)
  where
    by : (b : Bool) → unsigned_abs (cond b (neg_ℤ (pos (digits_value 10 (without_leading_sign text)))) (pos (digits_value 10 (without_leading_sign text)))) ≡ digits_value 10 (without_leading_sign text)
    by true = size_of_minus _
    by false = refl

module _ (least most : ℕ) where
  abbrev IsNumber : List ℕ → Type 0
  IsNumber text = IsSignedIn (pos least) (pos most) text

  named : (text : List ℕ) → IsNumber text → Some (digits_value 10 (without_leading_sign text)) ≡ number_between least most text
  named text is = rw (Accepts-accepts false (parser.Signed (pos least) (pos most)) text is) refl

  not_named : (text : List ℕ) → ¬ IsNumber text → None ≡ number_between least most text
  not_named text not_number = by (is_signed_in (pos least) (pos most) text) refl
    where
      by : (b : Bool) → is_signed_in (pos least) (pos most) text ≡ b → None ≡ number_between least most text
      by true is = absurd (not_number (accepts-Accepts false (parser.Signed (pos least) (pos most)) text is))
      by false is = rw is refl

  -- a text that is no i64, or one below 0
  pub not_read : {E : Type 0} (text : List ℕ) (parsed : Result ℤ E)
      → ParsesSigned w64 10 text parsed → result_ok parsed ≡ None → None ≡ number_between least most text
  not_read text (Ok y) parses is = absurd (cc)
  not_read text (Err e) parses is = not_named text (λ number. parses (number.0, number.1))

  -- a text that is an i64 from 0 on
  pub record IsRead (text : List ℕ) (number : ℕ) : Type 0 where
    numeral : IsNumeral 10 (without_leading_sign text)
    fits : FitsSigned w64 (signed_digits_value 10 text)
    value : signed_digits_value 10 text ≡ pos number

  of_size : (z : ℤ) (number : ℕ) → FitsUnsignedBits 64 z → number ≡ unsigned_abs z → z ≡ pos number
  of_size (pos n) number fits is = ap pos (sym is)
  of_size (negsuc n) number fits is = absurd fits

  pub read : {E F : Type 0} (text : List ℕ) (parsed : Result ℤ E) (z : ℤ) (result : Result ℕ F) (number : ℕ)
      → ParsesSigned w64 10 text parsed → result_ok parsed ≡ Some z
      → OkIff result (FitsUnsignedBits 64 (to_z w64 (of_z w64 z))) (unsigned_abs (to_z w64 (of_z w64 z)))
      → result_ok result ≡ Some number → IsRead text number
  read text (Ok y) z (Ok n) number parses is given same =
      let value : z ≡ signed_digits_value 10 text = sym (same_Some y z is) ∙ parses.1 in
      let kept : to_z w64 (of_z w64 z) ≡ z = to_z-of_z w64 z (subst (FitsSigned w64) (sym value) parses.0.1) in
      let sized = subst (λ of. FitsUnsignedBits 64 of × (n ≡ unsigned_abs of)) (kept ∙ value) given in
      record {
        numeral = parses.0.0;
        fits = parses.0.1;
        value = of_size _ number sized.0 (sym (same_Some n number same) ∙ sized.1);
      }
  read text (Ok y) z (Err e) number parses is given same = absurd (cc)
  read text (Err e) z result number parses is given same = absurd (cc)

  pub in_bounds : (text : List ℕ) (number : ℕ) → IsRead text number → least ≤ number → number ≤ most → Some number ≡ number_between least most text
  in_bounds text number is low high =
      ap (λ of. Some of) (ap unsigned_abs (sym is.value) ∙ size_of_text text)
      ∙ named text (is.numeral, is.fits, rw is.value (omega (arith, ints)), rw is.value (omega (arith, ints)))

  between : (z : ℤ) → pos least ≤ℤ z → z ≤ℤ pos most → (least ≤ unsigned_abs z) × (unsigned_abs z ≤ most)
  between (pos n) low high = (omega (arith, ints), omega (arith, ints))
  between (negsuc n) low high = absurd (omega (arith, ints))

  -- what is read is within the bounds
  pub bounded : (text : List ℕ) (number : ℕ) → number_between least most text ≡ Some number → (least ≤ number) × (number ≤ most)
  bounded text number is = by (is_signed_in (pos least) (pos most) text) refl
    where
      by : (b : Bool) → is_signed_in (pos least) (pos most) text ≡ b → (least ≤ number) × (number ≤ most)
      by true test =
          let given = accepts-Accepts false (parser.Signed (pos least) (pos most)) text test in
          let named' : Some (digits_value 10 (without_leading_sign text)) ≡ Some number = named text given ∙ is in
          subst (λ of. (least ≤ of) × (of ≤ most)) (size_of_text text ∙ same_Some _ number named') (between _ given.2 given.3)
      by false test = let none = rw test at is in absurd (cc)
