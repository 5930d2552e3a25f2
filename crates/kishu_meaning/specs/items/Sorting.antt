-- Sorting (Library Reference, "Built-in Functions": sorted; Python Sorting HOWTO, "Sort Stability").
use Rattle.std.specs.Prelude.{ℕ, ◌+◌, ◌*◌, ℤ, pos, Bool, if◌then◌else◌, List, [], ◌∷◌, length, Option, Some, None, is_some, unwrap_or}
use Rattle.std.specs.Int.Digits.{digits_of}
use Rattle.std.specs.List.{list_all}
use Rattle.std.specs.declared.cmp.Ordering.{Ordering}
use Rattle.std.specs.Ordering.{is_lt, nat_cmp, int_cmp}
use Rattle.std.specs.Cmp.Lexicographic.{slice_cmp}
use Rattle.kishu_meaning.specs.values.Values.{Value, none, bool, integer, text, range, builtin, class, node}
use Rattle.kishu_meaning.specs.comparing.Equal.{number_in}

module _ {A : Type 0} (is_less : A → A → Bool) where
  -- in front of the first that isn't less
  abbrev pub placed : A → List A → List A
  placed x [] = x ∷ []
  placed x (y ∷ ys) = if is_less y x then y ∷ placed x ys else x ∷ y ∷ ys

  -- None is less than one before it, and of two that tie the first stays first.
  abbrev pub sorted : List A → List A
  sorted [] = []
  sorted (x ∷ xs) = placed x (sorted xs)

-- by a key of each
abbrev pub sorted_by : {A K : Type 0} → (K → K → Ordering) → (A → K) → List A → List A
sorted_by compare key = sorted (λ a b. is_lt (compare (key a) (key b)))

-- ---- values

abbrev pub is_number : Value → Bool
is_number v = is_some (number_in v)

-- the number of a number, and 0 otherwise
abbrev pub number_key : Value → ℤ
number_key v = unwrap_or (number_in v) (pos 0)

abbrev pub text_in : Value → Option (List ℕ)
text_in none = None
text_in (bool b) = None
text_in (integer z) = None
text_in (text cs) = Some cs
text_in (range a b c) = None
text_in (builtin n) = None
text_in (class n) = None
text_in (node i) = None

abbrev pub is_text : Value → Bool
is_text v = is_some (text_in v)

-- the code points of a text, and none otherwise
abbrev pub text_key : Value → List ℕ
text_key v = unwrap_or (text_in v) []

-- Numbers are sorted by value, and texts by their code points; nothing else is, nor are the two together.
abbrev pub in_order : List Value → Option (List Value)
in_order vs =
    if list_all is_number vs then Some (sorted_by int_cmp number_key vs)
    else if list_all is_text vs then Some (sorted_by (slice_cmp nat_cmp) text_key vs) else None

-- ---- steps

-- n times the binary digits of n, and n
abbrev pub sort_steps : ℕ → ℕ
sort_steps n = n * length (digits_of 2 n) + n
