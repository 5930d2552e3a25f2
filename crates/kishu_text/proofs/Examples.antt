-- Worked examples, computed on the definitions.
use Rattle.std.proofs.Common.{◌≡◌, pos, negsuc, [], ◌∷◌, codes, Some, None, refl}
use Rattle.kishu_meaning.specs.values.Texts.{places, picked, first_place, occurrences, pieces, replaced, words, quoted}
use Rattle.kishu_meaning.specs.values.White.{stripped}

backwards : picked (codes "abcdef") (places (pos 5) (negsuc 1) 3) ≡ codes "fdb"
backwards = refl

no_places : picked (codes "abc") (places (negsuc 6) (pos 9) 0) ≡ []
no_places = refl

empty_part : first_place [] (codes "abc") ≡ Some 0
empty_part = refl

part_of_nothing : first_place (codes "a") [] ≡ None
part_of_nothing = refl

at_the_end : first_place (codes "bc") (codes "abbc") ≡ Some 2
at_the_end = refl

code_points_count : first_place (codes "b") (233 ∷ 128512 ∷ 98 ∷ []) ≡ Some 2
code_points_count = refl

longer_part : first_place (codes "abcd") (codes "abc") ≡ None
longer_part = refl

no_overlap : occurrences (codes "aa") (codes "aaaaa") ≡ 2
no_overlap = refl

at_both_ends : pieces (codes "-") (codes "-a--b-") ≡ [] ∷ codes "a" ∷ [] ∷ codes "b" ∷ [] ∷ []
at_both_ends = refl

nothing_to_cut : pieces (codes "-") [] ≡ [] ∷ []
nothing_to_cut = refl

all_are_replaced : replaced (codes "aaaaa") (codes "aa") (codes "bc") ≡ codes "bcbca"
all_are_replaced = refl

without_empty_words : words (codes " a  b\tc ") ≡ codes "a" ∷ codes "b" ∷ codes "c" ∷ []
without_empty_words = refl

six_white_characters : words (97 ∷ 9 ∷ 10 ∷ 11 ∷ 12 ∷ 13 ∷ 32 ∷ 98 ∷ 28 ∷ 99 ∷ []) ≡ (97 ∷ []) ∷ (98 ∷ 28 ∷ 99 ∷ []) ∷ []
six_white_characters = refl

only_the_ends : stripped (codes " \t a b \n") ≡ codes "a b"
only_the_ends = refl

all_is_white : stripped (codes " \n ") ≡ []
all_is_white = refl

in_apostrophes : quoted (codes "a") ≡ 39 ∷ 97 ∷ 39 ∷ []
in_apostrophes = refl

in_quotation_marks : quoted (97 ∷ 39 ∷ []) ≡ 34 ∷ 97 ∷ 39 ∷ 34 ∷ []
in_quotation_marks = refl

both_quotes : quoted (39 ∷ 34 ∷ []) ≡ 39 ∷ 92 ∷ 39 ∷ 34 ∷ 39 ∷ []
both_quotes = refl

letters : quoted (92 ∷ 10 ∷ 13 ∷ 9 ∷ []) ≡ 39 ∷ 92 ∷ 92 ∷ 92 ∷ 110 ∷ 92 ∷ 114 ∷ 92 ∷ 116 ∷ 39 ∷ []
letters = refl

-- '\x1b\x7f' with the characters 0x20, 0x7e and 0x80 behind it, which stand as they are
control_characters : quoted (27 ∷ 127 ∷ 32 ∷ 126 ∷ 128 ∷ []) ≡ 39 ∷ 92 ∷ 120 ∷ 49 ∷ 98 ∷ 92 ∷ 120 ∷ 55 ∷ 102 ∷ 32 ∷ 126 ∷ 128 ∷ 39 ∷ []
control_characters = refl
