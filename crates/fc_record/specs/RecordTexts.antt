-- Where a record begins, and what of a collection is its text. From: this project's profile.
use Rattle.std.specs.Prelude.{◌==◌, ◌∷◌, [], Bool, true, ℕ}
use Rattle.{fc_card.specs.Types.{Text}, fc_text.specs.Bytes.{line_feed}}

-- the byte `@`, which begins a header
abbrev pub header_mark : ℕ
header_mark = 64

-- the bytes of a record, or those before the first header: the number that it has as a record, counted from 1, and the offset of its first byte
pub record RecordText : Type 0 where
  pub number : ℕ
  pub start : ℕ
  pub bytes : Text

-- what follows these bytes begins a line
abbrev pub ends_line : Text → Bool
ends_line [] = true
ends_line (byte ∷ []) = byte == line_feed
ends_line (byte ∷ next ∷ rest) = ends_line (next ∷ rest)
