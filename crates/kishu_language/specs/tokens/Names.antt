-- Names (Python Language Reference 3, "Identifiers and keywords"), of ASCII characters.
use Rattle.std.specs.Prelude.{ℕ, suc, if◌then◌else◌, Option, Some, None, option_map, Bool, ◌&&◌, ◌||◌, not, nat_le, ◌==◌, List, [], ◌∷◌, length, codes, false}
use Rattle.std.specs.List.{list_any, list_all}
use Rattle.std.specs.Str.{bytes_eq}

abbrev pub is_digit : ℕ → Bool
is_digit c = nat_le 48 c && nat_le c 57

-- an ASCII letter or `_`
abbrev pub is_letter : ℕ → Bool
is_letter c = (nat_le 65 c && nat_le c 90) || ((nat_le 97 c && nat_le c 122) || (c == 95))

-- a character inside a name or a number
abbrev pub is_word_char : ℕ → Bool
is_word_char c = is_letter c || is_digit c

unfoldable pub reserved_words : List (List ℕ)
reserved_words =
    codes "False" ∷ codes "None" ∷ codes "True" ∷ codes "and" ∷ codes "as" ∷ codes "assert" ∷ codes "async" ∷ codes "await" ∷ codes "break" ∷ codes "class" ∷ codes "continue" ∷ codes "def"
    ∷ codes "del" ∷ codes "elif" ∷ codes "else" ∷ codes "except" ∷ codes "finally" ∷ codes "for" ∷ codes "from" ∷ codes "global" ∷ codes "if" ∷ codes "import" ∷ codes "in"
    ∷ codes "is" ∷ codes "lambda" ∷ codes "nonlocal" ∷ codes "not" ∷ codes "or" ∷ codes "pass" ∷ codes "raise" ∷ codes "return" ∷ codes "try" ∷ codes "while" ∷ codes "with"
    ∷ codes "yield" ∷ []

abbrev pub is_among : List ℕ → List (List ℕ) → Bool
is_among word words = list_any (bytes_eq word) words

-- at which place a word stands
abbrev pub place_among : List ℕ → List (List ℕ) → Option ℕ
place_among word [] = None
place_among word (w ∷ words) = if bytes_eq word w then Some 0 else option_map suc (place_among word words)

abbrev pub is_reserved_word : List ℕ → Bool
is_reserved_word word = is_among word reserved_words

abbrev pub begins_with_letter : List ℕ → Bool
begins_with_letter [] = false
begins_with_letter (c ∷ cs) = is_letter c

abbrev pub longest_name : ℕ
longest_name = 255

-- a letter or `_`, then letters, digits and `_`; at most 255, and not reserved
abbrev pub is_name : List ℕ → Bool
is_name word = begins_with_letter word && (list_all is_word_char word && (nat_le (length word) longest_name && not (is_reserved_word word)))
