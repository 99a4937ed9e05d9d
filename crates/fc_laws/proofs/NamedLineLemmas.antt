-- Lines that begin with a name, in any case, and a colon.
use Rattle.std.proofs.Common.{◌++◌, ◌+◌, ◌<◌, ◌∙◌, ◌∷◌, ◌≡◌, [], All, ap, arith, Bool, cond, drop, false, inl, inr}
use Rattle.std.proofs.Common.{length, length-append, List, not, refl, suc, sym, take, true, ℕ}
use Rattle.std.proofs.lemmas.Bool.{Decides.{eqb_tells}, or_parts}
use Rattle.std.proofs.lemmas.List.{Elements.{All-cons, All-head, All-nil, All-tail}, take_at}
use Rattle.std.specs.{Char.{to_ascii_lowercase}, List.{list_any, position_or_len}}
use Rattle.std.specs.Str.{bytes_eq, str_eq_ignore_ascii_case, str_to_ascii_lowercase}
use Rattle.fc_text.{proofs.FrontLemmas.{cells_head, heights_head}, specs.Bytes.{colon}}
use Rattle.fc_text.specs.{Rows.{cells_names, heights_names, is_colon}, Spelling.{NamesRow}}
use Rattle.fc_text.specs.declared.board.reader.Section.TheVariants.{Foundations, Freecells}

-- no byte is a colon, since none is in lower case
no_colon : (spelled : List ℕ) → list_any is_colon (str_to_ascii_lowercase spelled) ≡ false → All (λ byte. is_colon byte ≡ false) spelled
no_colon [] e = All-nil (λ byte. is_colon byte ≡ false)
no_colon (byte ∷ spelled) e =
    let (first, rest) = or_parts (is_colon (to_ascii_lowercase byte)) (list_any is_colon (str_to_ascii_lowercase spelled)) e in
    All-cons (λ byte. is_colon byte ≡ false) byte spelled (elim (eqb_tells byte colon) [
      | inl (test, same) ↦
          absurd (let colon_stays : is_colon (to_ascii_lowercase byte) ≡ true = rw same in cc)
      | inr (test, other) ↦ test
    ]) (no_colon spelled rest)

-- the first colon is after them
first_colon : (spelled rest : List ℕ) → All (λ byte. is_colon byte ≡ false) spelled
    → position_or_len is_colon (spelled ++ colon ∷ rest) ≡ length spelled
first_colon [] rest are = refl
first_colon (byte ∷ spelled) rest are =
    ap (λ b. cond (not b) (1 + position_or_len is_colon (spelled ++ colon ∷ rest)) 0) (All-head (λ byte. is_colon byte ≡ false) byte spelled are)
    ∙ ap (λ n. 1 + n) (first_colon spelled rest (All-tail (λ byte. is_colon byte ≡ false) byte spelled are)) ∙ omega arith

after_is : (spelled rest : List ℕ) → drop (length spelled + 1) (spelled ++ colon ∷ rest) ≡ rest
after_is [] rest = refl
after_is (byte ∷ spelled) rest = rw (one_more (length spelled), after_is spelled rest)
  where
    one_more : (n : ℕ) → suc n + 1 ≡ suc (n + 1)
    one_more n = omega arith

module _ (name : List ℕ) (free : list_any is_colon name ≡ false) where
  front_tested : (names : List (List ℕ)) (b : Bool) (spelled rest : List ℕ) → str_to_ascii_lowercase spelled ≡ name
      → list_any (λ known. bytes_eq name (str_to_ascii_lowercase known)) names ≡ b
      → list_any (str_eq_ignore_ascii_case (take (length spelled) (spelled ++ colon ∷ rest))) names ≡ b
  front_tested names b spelled rest e is =
      ap (λ front. list_any (str_eq_ignore_ascii_case front) names) (take_at spelled (colon ∷ rest) (length spelled) refl)
      ∙ ap (λ lower. list_any (λ known. bytes_eq lower (str_to_ascii_lowercase known)) names) e ∙ is

  colon_at : (spelled rest : List ℕ) → str_to_ascii_lowercase spelled ≡ name → length spelled ≡ position_or_len is_colon (spelled ++ colon ∷ rest)
  colon_at spelled rest e = sym (first_colon spelled rest (no_colon spelled (rw e free)))

  inside : (spelled rest : List ℕ) → length spelled < length (spelled ++ colon ∷ rest)
  inside spelled rest = omega (arith, length-append spelled (colon ∷ rest))

  pub names_foundations : list_any (λ known. bytes_eq name (str_to_ascii_lowercase known)) heights_names ≡ true → NamesRow Foundations name
  names_foundations is start spelled rest e =
      rw (
        heights_head start (spelled ++ colon ∷ rest) (length spelled) (colon_at spelled rest e) (inside spelled rest)
            (front_tested heights_names true spelled rest e is),
        after_is spelled rest,
      )

  pub names_cells : list_any (λ known. bytes_eq name (str_to_ascii_lowercase known)) heights_names ≡ false
      → list_any (λ known. bytes_eq name (str_to_ascii_lowercase known)) cells_names ≡ true → NamesRow Freecells name
  names_cells is_not is start spelled rest e =
      rw (
        cells_head start (spelled ++ colon ∷ rest) (length spelled) (colon_at spelled rest e) (inside spelled rest)
            (front_tested heights_names false spelled rest e is_not)
            (front_tested cells_names true spelled rest e is),
        after_is spelled rest,
      )
