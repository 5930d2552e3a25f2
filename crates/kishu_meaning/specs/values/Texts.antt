-- What the calls on texts give. A text is the list of its code points, and places count code points (Python Language
-- Reference 3, "Data model"; Library Reference, "Text Sequence Type"). Its length is `length`, its code point at a place `slice_get`.
use Rattle.std.specs.Prelude.{ℕ, zero, suc, ◌-◌, ◌/◌, ◌%◌, ◌==◌, nat_lt, Bool, true, false, not, ◌&&◌, ◌||◌, if◌then◌else◌, List, [], ◌∷◌, ◌++◌, length, map, Option, Some, None, option_map, ℤ, pos, negsuc, ◌+ℤ◌, ◌≤ℤ◌, ◌<ℤ◌, slice_get}
use Rattle.std.specs.Char.{digit_char}
use Rattle.std.specs.List.{AllByRecursion, filter, filter_map, flat_map, list_any, onto_first, slice_split}
use Rattle.std.specs.Str.{chars}
use Rattle.std.specs.String.{string_bytes}
use Rattle.std.specs.declared.string.String.{String}
use Rattle.kishu_meaning.specs.values.White.{is_white}
use Rattle.kishu_language.specs.tokens.Quoted.{backslash}

-- the code points of each of these texts
abbrev pub code_points : {Z : Type 0} → List (String Z) → List (List ℕ)
code_points {Z} = map (λ (s : String Z). chars (string_bytes s))

-- ---- slices

-- n places: the first is `start`, and each other one is `step` behind the one before it
abbrev pub places : ℤ → ℤ → ℕ → List ℤ
places start step zero = []
places start step (suc n) = start ∷ places (start +ℤ step) step n

abbrev pub LieWithin : ℕ → List ℤ → Type 0
LieWithin size = AllByRecursion (λ z. (pos 0 ≤ℤ z) × (z <ℤ pos size))

abbrev pub code_point_at : List ℕ → ℤ → Option ℕ
code_point_at cs (pos i) = slice_get cs i
code_point_at cs (negsuc i) = None

-- the code points at these places
abbrev pub picked : List ℕ → List ℤ → List ℕ
picked cs = filter_map (code_point_at cs)

-- ---- occurrences of a part

-- whether a text begins with this part
abbrev pub begins : List ℕ → List ℕ → Bool
begins [] cs = true
begins (p ∷ ps) [] = false
begins (p ∷ ps) (c ∷ cs) = p == c && begins ps cs

-- the first place at which the part begins
abbrev pub first_place : List ℕ → List ℕ → Option ℕ
first_place part [] = if begins part [] then Some 0 else None
first_place part (c ∷ cs) = if begins part (c ∷ cs) then Some 0 else option_map suc (first_place part cs)

-- The text is cut at the occurrences of a part, which are taken from the left and without overlap. The first n code points belong to one that has begun.
abbrev pub pieces_behind : List ℕ → ℕ → List ℕ → List (List ℕ)
pieces_behind part n [] = [] ∷ []
pieces_behind part (suc n) (c ∷ cs) = pieces_behind part n cs
pieces_behind part zero (c ∷ cs) = if begins part (c ∷ cs) then [] ∷ pieces_behind part (length part - 1) cs else onto_first c (pieces_behind part zero cs)

-- the pieces between the occurrences of a part that isn't empty
abbrev pub pieces : List ℕ → List ℕ → List (List ℕ)
pieces part cs = pieces_behind part 0 cs

-- how many occurrences there are: one less than the pieces between them
abbrev pub occurrences : List ℕ → List ℕ → ℕ
occurrences part cs = length (pieces part cs) - 1

-- pieces, with another text between each two of them
abbrev pub joined : List ℕ → List (List ℕ) → List ℕ
joined by [] = []
joined by (piece ∷ more) = piece ++ flat_map (λ next. by ++ next) more

-- the text, with another text in place of each occurrence
abbrev pub replaced : List ℕ → List ℕ → List ℕ → List ℕ
replaced cs part by = joined by (pieces part cs)

-- ---- white space

abbrev pub is_nonempty : List ℕ → Bool
is_nonempty piece = not (length piece == 0)

-- the pieces between runs of white space: the text is cut at each white space, and the empty pieces are left out
abbrev pub words : List ℕ → List (List ℕ)
words cs = filter is_nonempty (slice_split is_white cs)

-- ---- the repr of a text (Library Reference, "Built-in Functions": repr)

abbrev pub apostrophe : ℕ
apostrophe = 39

abbrev pub quotation_mark : ℕ
quotation_mark = 34

-- the quote round a text
abbrev pub quote_of : List ℕ → ℕ
quote_of cs = if list_any (λ c. c == apostrophe) cs && not (list_any (λ c. c == quotation_mark) cs) then quotation_mark else apostrophe

-- What stands behind a backslash for a character, where there is such a letter: line feed, carriage return and tab have n, r and t.
abbrev pub letter_of : ℕ → ℕ → Option ℕ
letter_of quote c =
    if c == backslash || c == quote then Some c
    else if c == 10 then Some 110
    else if c == 13 then Some 114
    else if c == 9 then Some 116 else None

abbrev pub is_control : ℕ → Bool
is_control c = nat_lt c 32 || c == 127

abbrev pub escaped_by : Option ℕ → ℕ → List ℕ
escaped_by (Some letter) c = backslash ∷ letter ∷ []
escaped_by None c = if is_control c then backslash ∷ 120 ∷ digit_char (c / 16) ∷ digit_char (c % 16) ∷ [] else c ∷ []

-- a character as it stands between quotes
abbrev pub escaped : ℕ → ℕ → List ℕ
escaped quote c = escaped_by (letter_of quote c) c

abbrev pub quoted : List ℕ → List ℕ
quoted cs = quote_of cs ∷ flat_map (escaped (quote_of cs)) cs ++ quote_of cs ∷ []
