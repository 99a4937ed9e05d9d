-- Bytes and texts.
use Rattle.std.specs.{Cmp.Lexicographic.{slice_cmp}, declared.cmp.Ordering.{Ordering}}
use Rattle.std.specs.{declared.cmp.Ordering.TheVariants.{Less}, List.{flat_map}}
use Rattle.std.specs.{List.Sorted.{IsStrictlySortedBy}, Ordering.{nat_cmp, ordering_then}}
use Rattle.std.specs.Prelude.{◌==◌, ◌||◌, ◌≡◌, [], Bool, List, slice_index_or, ℕ}
use Rattle.fc_card.specs.Types.{Order, Text}

-- -------- The bytes of the formats that are no letters, by name. From: ASCII.

abbrev pub tab : ℕ
tab = 9

abbrev pub line_feed : ℕ
line_feed = 10

abbrev pub carriage_return : ℕ
carriage_return = 13

abbrev pub blank : ℕ
blank = 32

abbrev pub number_sign : ℕ
number_sign = 35

abbrev pub star : ℕ
star = 42

abbrev pub dash : ℕ
dash = 45

abbrev pub colon : ℕ
colon = 58

-- what is between the words of a line
abbrev pub is_gap : ℕ → Bool
is_gap byte = byte == blank || byte == tab

-- -------- Texts and words in order, and words that are joined end to end. From: the lexicographic order.

-- the words end to end
abbrev pub joined : List Text → Text
joined words = flat_map (λ word. word) words

-- ---- in order
-- texts are compared byte by byte, and a proper prefix is less
abbrev pub IsLess : Text → Text → Type 0
IsLess text other = slice_cmp nat_cmp text other ≡ Less

-- two places compared by the words that are there, and where these are equal by the places themselves
abbrev pub place_cmp : List Text → ℕ → ℕ → Ordering
place_cmp words place other =
    ordering_then (slice_cmp nat_cmp (slice_index_or words place []) (slice_index_or words other [])) (nat_cmp place other)

-- the order puts the words in ascending order, and keeps the old order of equal ones
abbrev pub Sorts : List Text → Order → Type 0
Sorts words order = IsStrictlySortedBy (place_cmp words) order
