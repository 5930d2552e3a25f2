-- Which bytes are a picture, and of which state: by what is read from them. Made by tools/rows/rule_rows.py.
use Rattle.std.specs.Prelude.{◌≡◌, ℕ, pos, negsuc, true, List, [], ◌∷◌, codes, Ok, Err, refl}
use Rattle.std.specs.Prelude.{◌-◌}
use Rattle.std.proofs.Common.{arith}
use Rattle.std.specs.Prelude.{nat_lt}
use Rattle.std.specs.List.{list_all}
use Rattle.std.specs.Char.{encode_utf8}
use Rattle.std.specs.Str.{chars}
use Rattle.std.proofs.lemmas.Bool.{and_parts, ltb-true}
use Rattle.kishu_language.specs.tokens.Names.{reserved_words}
use Rattle.kishu_language.specs.declared.profile.Profile.TheVariants.{One}
use Rattle.kishu_language.specs.declared.profile.Profile.TheVariants.{Two}
use Rattle.kishu_meaning.specs.values.Keys as k
use Rattle.kishu_meaning.specs.values.Values.{none, bool, integer, text, range, builtin, class, node, list, tuple, dict, object, function, exception, State}
use Rattle.kishu_bytes.specs.Numbers.{sixteen}
use Rattle.kishu_objects.specs.Bytes.{in_four}
use Rattle.kishu_reading.specs.FromBytes.{read_picture}
use Rattle.kishu_reading.specs.Pictured.{HasKnownProfile, AreKnown, IsInPicture, IsPictureOf, IsPicture, AreBytes}
use Rattle.kishu_reading_laws.specs.PictureLaws.{read_back, picture_is_read, read_is_picture}

bytes_of : (bs : List ℕ) → list_all (λ b. nat_lt b 256) bs ≡ true → AreBytes bs
bytes_of [] h = tt
bytes_of (b ∷ bs) h = (let parts = and_parts (nat_lt b 256) (list_all (λ c. nat_lt c 256) bs) h in (ltb-true b 256 parts.0, bytes_of bs parts.1))

faulty : (n : ℕ) (p : State) → Err n ≡ Ok p → ⊥
faulty n p e = cc

-- ---- bytes that are the picture of a state, which is its own picture

abbrev unbound_bytes : List ℕ
unbound_bytes = 0 ∷ 0 ∷ 0 ∷ 0 ∷ 0 ∷ 0 ∷ 0 ∷ 0 ∷ []

is_picture_1 : IsPictureOf unbound_bytes (record { names = []; nodes = [] })
unfolding read_picture reserved_words chars encode_utf8
is_picture_1 = read_is_picture unbound_bytes (record { names = []; nodes = [] }) (bytes_of unbound_bytes refl) refl

in_picture_1 : IsInPicture (record { names = []; nodes = [] })
unfolding read_picture reserved_words chars encode_utf8
in_picture_1 = (read_is_picture unbound_bytes (record { names = []; nodes = [] }) (bytes_of unbound_bytes refl) refl).state

abbrev plain_bytes : List ℕ
plain_bytes = 0 ∷ 0 ∷ 0 ∷ 7 ∷ 1 ∷ 90 ∷ 3 ∷ 0 ∷ 0 ∷ 0 ∷ 0 ∷ 0 ∷ 0 ∷ 0 ∷ 0 ∷ 0 ∷ 0 ∷ 0 ∷ 0 ∷ 0 ∷ 0 ∷ 0 ∷ 1 ∷ 1 ∷ 95 ∷ 0 ∷ 1 ∷ 97 ∷ 2 ∷ 2 ∷ 97 ∷ 49 ∷ 4 ∷ 0 ∷ 0 ∷ 0 ∷ 2 ∷ 195 ∷ 169 ∷ 2 ∷ 97 ∷ 97 ∷ 5 ∷ 0 ∷ 0 ∷ 0 ∷ 0 ∷ 0 ∷ 0 ∷ 0 ∷ 0 ∷ 0 ∷ 0 ∷ 0 ∷ 0 ∷ 0 ∷ 0 ∷ 0 ∷ 0 ∷ 0 ∷ 0 ∷ 0 ∷ 0 ∷ 0 ∷ 0 ∷ 0 ∷ 0 ∷ 0 ∷ 0 ∷ 0 ∷ 0 ∷ 0 ∷ 0 ∷ 0 ∷ 3 ∷ 255 ∷ 255 ∷ 255 ∷ 255 ∷ 255 ∷ 255 ∷ 255 ∷ 255 ∷ 255 ∷ 255 ∷ 255 ∷ 255 ∷ 255 ∷ 255 ∷ 255 ∷ 255 ∷ 1 ∷ 98 ∷ 6 ∷ 10 ∷ 1 ∷ 99 ∷ 7 ∷ 1 ∷ 0 ∷ 0 ∷ 0 ∷ 0 ∷ []

is_picture_2 : IsPictureOf plain_bytes (record { names = (((codes "Z"), (integer (pos 1))) ∷ ((codes "_"), none) ∷ ((codes "a"), (bool true)) ∷ ((codes "a1"), (text (233 ∷ []))) ∷ ((codes "aa"), (range (pos 0) (pos 3) (negsuc 0))) ∷ ((codes "b"), (builtin 10)) ∷ ((codes "c"), (class 1)) ∷ []); nodes = [] })
unfolding read_picture reserved_words chars encode_utf8
is_picture_2 = read_is_picture plain_bytes (record { names = (((codes "Z"), (integer (pos 1))) ∷ ((codes "_"), none) ∷ ((codes "a"), (bool true)) ∷ ((codes "a1"), (text (233 ∷ []))) ∷ ((codes "aa"), (range (pos 0) (pos 3) (negsuc 0))) ∷ ((codes "b"), (builtin 10)) ∷ ((codes "c"), (class 1)) ∷ []); nodes = [] }) (bytes_of plain_bytes refl) refl

in_picture_2 : IsInPicture (record { names = (((codes "Z"), (integer (pos 1))) ∷ ((codes "_"), none) ∷ ((codes "a"), (bool true)) ∷ ((codes "a1"), (text (233 ∷ []))) ∷ ((codes "aa"), (range (pos 0) (pos 3) (negsuc 0))) ∷ ((codes "b"), (builtin 10)) ∷ ((codes "c"), (class 1)) ∷ []); nodes = [] })
unfolding read_picture reserved_words chars encode_utf8
in_picture_2 = (read_is_picture plain_bytes (record { names = (((codes "Z"), (integer (pos 1))) ∷ ((codes "_"), none) ∷ ((codes "a"), (bool true)) ∷ ((codes "a1"), (text (233 ∷ []))) ∷ ((codes "aa"), (range (pos 0) (pos 3) (negsuc 0))) ∷ ((codes "b"), (builtin 10)) ∷ ((codes "c"), (class 1)) ∷ []); nodes = [] }) (bytes_of plain_bytes refl) refl).state

abbrev shared_bytes : List ℕ
shared_bytes = 0 ∷ 0 ∷ 0 ∷ 2 ∷ 1 ∷ 97 ∷ 8 ∷ 0 ∷ 0 ∷ 0 ∷ 0 ∷ 1 ∷ 98 ∷ 8 ∷ 0 ∷ 0 ∷ 0 ∷ 0 ∷ 0 ∷ 0 ∷ 0 ∷ 1 ∷ 1 ∷ 0 ∷ 0 ∷ 0 ∷ 1 ∷ 3 ∷ 0 ∷ 0 ∷ 0 ∷ 0 ∷ 0 ∷ 0 ∷ 0 ∷ 0 ∷ 0 ∷ 0 ∷ 0 ∷ 0 ∷ 0 ∷ 0 ∷ 0 ∷ 1 ∷ []

is_picture_3 : IsPictureOf shared_bytes (record { names = (((codes "a"), (node 0)) ∷ ((codes "b"), (node 0)) ∷ []); nodes = ((list ((integer (pos 1)) ∷ [])) ∷ []) })
unfolding read_picture reserved_words chars encode_utf8
is_picture_3 = read_is_picture shared_bytes (record { names = (((codes "a"), (node 0)) ∷ ((codes "b"), (node 0)) ∷ []); nodes = ((list ((integer (pos 1)) ∷ [])) ∷ []) }) (bytes_of shared_bytes refl) refl

in_picture_3 : IsInPicture (record { names = (((codes "a"), (node 0)) ∷ ((codes "b"), (node 0)) ∷ []); nodes = ((list ((integer (pos 1)) ∷ [])) ∷ []) })
unfolding read_picture reserved_words chars encode_utf8
in_picture_3 = (read_is_picture shared_bytes (record { names = (((codes "a"), (node 0)) ∷ ((codes "b"), (node 0)) ∷ []); nodes = ((list ((integer (pos 1)) ∷ [])) ∷ []) }) (bytes_of shared_bytes refl) refl).state

abbrev apart_bytes : List ℕ
apart_bytes = 0 ∷ 0 ∷ 0 ∷ 2 ∷ 1 ∷ 97 ∷ 8 ∷ 0 ∷ 0 ∷ 0 ∷ 0 ∷ 1 ∷ 98 ∷ 8 ∷ 0 ∷ 0 ∷ 0 ∷ 1 ∷ 0 ∷ 0 ∷ 0 ∷ 2 ∷ 1 ∷ 0 ∷ 0 ∷ 0 ∷ 1 ∷ 3 ∷ 0 ∷ 0 ∷ 0 ∷ 0 ∷ 0 ∷ 0 ∷ 0 ∷ 0 ∷ 0 ∷ 0 ∷ 0 ∷ 0 ∷ 0 ∷ 0 ∷ 0 ∷ 1 ∷ 1 ∷ 0 ∷ 0 ∷ 0 ∷ 1 ∷ 3 ∷ 0 ∷ 0 ∷ 0 ∷ 0 ∷ 0 ∷ 0 ∷ 0 ∷ 0 ∷ 0 ∷ 0 ∷ 0 ∷ 0 ∷ 0 ∷ 0 ∷ 0 ∷ 1 ∷ []

is_picture_4 : IsPictureOf apart_bytes (record { names = (((codes "a"), (node 0)) ∷ ((codes "b"), (node 1)) ∷ []); nodes = ((list ((integer (pos 1)) ∷ [])) ∷ (list ((integer (pos 1)) ∷ [])) ∷ []) })
unfolding read_picture reserved_words chars encode_utf8
is_picture_4 = read_is_picture apart_bytes (record { names = (((codes "a"), (node 0)) ∷ ((codes "b"), (node 1)) ∷ []); nodes = ((list ((integer (pos 1)) ∷ [])) ∷ (list ((integer (pos 1)) ∷ [])) ∷ []) }) (bytes_of apart_bytes refl) refl

in_picture_4 : IsInPicture (record { names = (((codes "a"), (node 0)) ∷ ((codes "b"), (node 1)) ∷ []); nodes = ((list ((integer (pos 1)) ∷ [])) ∷ (list ((integer (pos 1)) ∷ [])) ∷ []) })
unfolding read_picture reserved_words chars encode_utf8
in_picture_4 = (read_is_picture apart_bytes (record { names = (((codes "a"), (node 0)) ∷ ((codes "b"), (node 1)) ∷ []); nodes = ((list ((integer (pos 1)) ∷ [])) ∷ (list ((integer (pos 1)) ∷ [])) ∷ []) }) (bytes_of apart_bytes refl) refl).state

abbrev itself_bytes : List ℕ
itself_bytes = 0 ∷ 0 ∷ 0 ∷ 1 ∷ 1 ∷ 97 ∷ 8 ∷ 0 ∷ 0 ∷ 0 ∷ 0 ∷ 0 ∷ 0 ∷ 0 ∷ 1 ∷ 1 ∷ 0 ∷ 0 ∷ 0 ∷ 1 ∷ 8 ∷ 0 ∷ 0 ∷ 0 ∷ 0 ∷ []

is_picture_5 : IsPictureOf itself_bytes (record { names = (((codes "a"), (node 0)) ∷ []); nodes = ((list ((node 0) ∷ [])) ∷ []) })
unfolding read_picture reserved_words chars encode_utf8
is_picture_5 = read_is_picture itself_bytes (record { names = (((codes "a"), (node 0)) ∷ []); nodes = ((list ((node 0) ∷ [])) ∷ []) }) (bytes_of itself_bytes refl) refl

in_picture_5 : IsInPicture (record { names = (((codes "a"), (node 0)) ∷ []); nodes = ((list ((node 0) ∷ [])) ∷ []) })
unfolding read_picture reserved_words chars encode_utf8
in_picture_5 = (read_is_picture itself_bytes (record { names = (((codes "a"), (node 0)) ∷ []); nodes = ((list ((node 0) ∷ [])) ∷ []) }) (bytes_of itself_bytes refl) refl).state

abbrev round_bytes : List ℕ
round_bytes = 0 ∷ 0 ∷ 0 ∷ 2 ∷ 1 ∷ 97 ∷ 8 ∷ 0 ∷ 0 ∷ 0 ∷ 0 ∷ 1 ∷ 98 ∷ 8 ∷ 0 ∷ 0 ∷ 0 ∷ 1 ∷ 0 ∷ 0 ∷ 0 ∷ 2 ∷ 1 ∷ 0 ∷ 0 ∷ 0 ∷ 1 ∷ 8 ∷ 0 ∷ 0 ∷ 0 ∷ 1 ∷ 1 ∷ 0 ∷ 0 ∷ 0 ∷ 1 ∷ 8 ∷ 0 ∷ 0 ∷ 0 ∷ 0 ∷ []

is_picture_6 : IsPictureOf round_bytes (record { names = (((codes "a"), (node 0)) ∷ ((codes "b"), (node 1)) ∷ []); nodes = ((list ((node 1) ∷ [])) ∷ (list ((node 0) ∷ [])) ∷ []) })
unfolding read_picture reserved_words chars encode_utf8
is_picture_6 = read_is_picture round_bytes (record { names = (((codes "a"), (node 0)) ∷ ((codes "b"), (node 1)) ∷ []); nodes = ((list ((node 1) ∷ [])) ∷ (list ((node 0) ∷ [])) ∷ []) }) (bytes_of round_bytes refl) refl

in_picture_6 : IsInPicture (record { names = (((codes "a"), (node 0)) ∷ ((codes "b"), (node 1)) ∷ []); nodes = ((list ((node 1) ∷ [])) ∷ (list ((node 0) ∷ [])) ∷ []) })
unfolding read_picture reserved_words chars encode_utf8
in_picture_6 = (read_is_picture round_bytes (record { names = (((codes "a"), (node 0)) ∷ ((codes "b"), (node 1)) ∷ []); nodes = ((list ((node 1) ∷ [])) ∷ (list ((node 0) ∷ [])) ∷ []) }) (bytes_of round_bytes refl) refl).state

abbrev linked_bytes : List ℕ
linked_bytes = 0 ∷ 0 ∷ 0 ∷ 3 ∷ 1 ∷ 120 ∷ 8 ∷ 0 ∷ 0 ∷ 0 ∷ 0 ∷ 1 ∷ 121 ∷ 8 ∷ 0 ∷ 0 ∷ 0 ∷ 1 ∷ 1 ∷ 122 ∷ 8 ∷ 0 ∷ 0 ∷ 0 ∷ 2 ∷ 0 ∷ 0 ∷ 0 ∷ 3 ∷ 1 ∷ 0 ∷ 0 ∷ 0 ∷ 1 ∷ 3 ∷ 0 ∷ 0 ∷ 0 ∷ 0 ∷ 0 ∷ 0 ∷ 0 ∷ 0 ∷ 0 ∷ 0 ∷ 0 ∷ 0 ∷ 0 ∷ 0 ∷ 0 ∷ 1 ∷ 1 ∷ 0 ∷ 0 ∷ 0 ∷ 2 ∷ 8 ∷ 0 ∷ 0 ∷ 0 ∷ 0 ∷ 8 ∷ 0 ∷ 0 ∷ 0 ∷ 2 ∷ 1 ∷ 0 ∷ 0 ∷ 0 ∷ 1 ∷ 3 ∷ 0 ∷ 0 ∷ 0 ∷ 0 ∷ 0 ∷ 0 ∷ 0 ∷ 0 ∷ 0 ∷ 0 ∷ 0 ∷ 0 ∷ 0 ∷ 0 ∷ 0 ∷ 2 ∷ []

is_picture_7 : IsPictureOf linked_bytes (record { names = (((codes "x"), (node 0)) ∷ ((codes "y"), (node 1)) ∷ ((codes "z"), (node 2)) ∷ []); nodes = ((list ((integer (pos 1)) ∷ [])) ∷ (list ((node 0) ∷ (node 2) ∷ [])) ∷ (list ((integer (pos 2)) ∷ [])) ∷ []) })
unfolding read_picture reserved_words chars encode_utf8
is_picture_7 = read_is_picture linked_bytes (record { names = (((codes "x"), (node 0)) ∷ ((codes "y"), (node 1)) ∷ ((codes "z"), (node 2)) ∷ []); nodes = ((list ((integer (pos 1)) ∷ [])) ∷ (list ((node 0) ∷ (node 2) ∷ [])) ∷ (list ((integer (pos 2)) ∷ [])) ∷ []) }) (bytes_of linked_bytes refl) refl

in_picture_7 : IsInPicture (record { names = (((codes "x"), (node 0)) ∷ ((codes "y"), (node 1)) ∷ ((codes "z"), (node 2)) ∷ []); nodes = ((list ((integer (pos 1)) ∷ [])) ∷ (list ((node 0) ∷ (node 2) ∷ [])) ∷ (list ((integer (pos 2)) ∷ [])) ∷ []) })
unfolding read_picture reserved_words chars encode_utf8
in_picture_7 = (read_is_picture linked_bytes (record { names = (((codes "x"), (node 0)) ∷ ((codes "y"), (node 1)) ∷ ((codes "z"), (node 2)) ∷ []); nodes = ((list ((integer (pos 1)) ∷ [])) ∷ (list ((node 0) ∷ (node 2) ∷ [])) ∷ (list ((integer (pos 2)) ∷ [])) ∷ []) }) (bytes_of linked_bytes refl) refl).state

abbrev parted_bytes : List ℕ
parted_bytes = 0 ∷ 0 ∷ 0 ∷ 3 ∷ 1 ∷ 120 ∷ 8 ∷ 0 ∷ 0 ∷ 0 ∷ 0 ∷ 1 ∷ 121 ∷ 3 ∷ 0 ∷ 0 ∷ 0 ∷ 0 ∷ 0 ∷ 0 ∷ 0 ∷ 0 ∷ 0 ∷ 0 ∷ 0 ∷ 0 ∷ 0 ∷ 0 ∷ 0 ∷ 0 ∷ 1 ∷ 122 ∷ 8 ∷ 0 ∷ 0 ∷ 0 ∷ 1 ∷ 0 ∷ 0 ∷ 0 ∷ 2 ∷ 1 ∷ 0 ∷ 0 ∷ 0 ∷ 1 ∷ 3 ∷ 0 ∷ 0 ∷ 0 ∷ 0 ∷ 0 ∷ 0 ∷ 0 ∷ 0 ∷ 0 ∷ 0 ∷ 0 ∷ 0 ∷ 0 ∷ 0 ∷ 0 ∷ 1 ∷ 1 ∷ 0 ∷ 0 ∷ 0 ∷ 1 ∷ 3 ∷ 0 ∷ 0 ∷ 0 ∷ 0 ∷ 0 ∷ 0 ∷ 0 ∷ 0 ∷ 0 ∷ 0 ∷ 0 ∷ 0 ∷ 0 ∷ 0 ∷ 0 ∷ 2 ∷ []

is_picture_8 : IsPictureOf parted_bytes (record { names = (((codes "x"), (node 0)) ∷ ((codes "y"), (integer (pos 0))) ∷ ((codes "z"), (node 1)) ∷ []); nodes = ((list ((integer (pos 1)) ∷ [])) ∷ (list ((integer (pos 2)) ∷ [])) ∷ []) })
unfolding read_picture reserved_words chars encode_utf8
is_picture_8 = read_is_picture parted_bytes (record { names = (((codes "x"), (node 0)) ∷ ((codes "y"), (integer (pos 0))) ∷ ((codes "z"), (node 1)) ∷ []); nodes = ((list ((integer (pos 1)) ∷ [])) ∷ (list ((integer (pos 2)) ∷ [])) ∷ []) }) (bytes_of parted_bytes refl) refl

in_picture_8 : IsInPicture (record { names = (((codes "x"), (node 0)) ∷ ((codes "y"), (integer (pos 0))) ∷ ((codes "z"), (node 1)) ∷ []); nodes = ((list ((integer (pos 1)) ∷ [])) ∷ (list ((integer (pos 2)) ∷ [])) ∷ []) })
unfolding read_picture reserved_words chars encode_utf8
in_picture_8 = (read_is_picture parted_bytes (record { names = (((codes "x"), (node 0)) ∷ ((codes "y"), (integer (pos 0))) ∷ ((codes "z"), (node 1)) ∷ []); nodes = ((list ((integer (pos 1)) ∷ [])) ∷ (list ((integer (pos 2)) ∷ [])) ∷ []) }) (bytes_of parted_bytes refl) refl).state

abbrev keyed_bytes : List ℕ
keyed_bytes = 0 ∷ 0 ∷ 0 ∷ 3 ∷ 1 ∷ 100 ∷ 8 ∷ 0 ∷ 0 ∷ 0 ∷ 0 ∷ 1 ∷ 101 ∷ 8 ∷ 0 ∷ 0 ∷ 0 ∷ 1 ∷ 1 ∷ 116 ∷ 8 ∷ 0 ∷ 0 ∷ 0 ∷ 2 ∷ 0 ∷ 0 ∷ 0 ∷ 4 ∷ 3 ∷ 0 ∷ 0 ∷ 0 ∷ 3 ∷ 9 ∷ 0 ∷ 0 ∷ 0 ∷ 2 ∷ 3 ∷ 0 ∷ 0 ∷ 0 ∷ 0 ∷ 0 ∷ 0 ∷ 0 ∷ 0 ∷ 0 ∷ 0 ∷ 0 ∷ 0 ∷ 0 ∷ 0 ∷ 0 ∷ 1 ∷ 4 ∷ 0 ∷ 0 ∷ 0 ∷ 2 ∷ 195 ∷ 169 ∷ 8 ∷ 0 ∷ 0 ∷ 0 ∷ 1 ∷ 0 ∷ 8 ∷ 0 ∷ 0 ∷ 0 ∷ 3 ∷ 3 ∷ 255 ∷ 255 ∷ 255 ∷ 255 ∷ 255 ∷ 255 ∷ 255 ∷ 255 ∷ 255 ∷ 255 ∷ 255 ∷ 255 ∷ 255 ∷ 255 ∷ 255 ∷ 255 ∷ 8 ∷ 0 ∷ 0 ∷ 0 ∷ 1 ∷ 1 ∷ 0 ∷ 0 ∷ 0 ∷ 0 ∷ 2 ∷ 0 ∷ 0 ∷ 0 ∷ 2 ∷ 3 ∷ 0 ∷ 0 ∷ 0 ∷ 0 ∷ 0 ∷ 0 ∷ 0 ∷ 0 ∷ 0 ∷ 0 ∷ 0 ∷ 0 ∷ 0 ∷ 0 ∷ 0 ∷ 1 ∷ 4 ∷ 0 ∷ 0 ∷ 0 ∷ 2 ∷ 195 ∷ 169 ∷ 2 ∷ 0 ∷ 0 ∷ 0 ∷ 0 ∷ []

is_picture_9 : IsPictureOf keyed_bytes (record { names = (((codes "d"), (node 0)) ∷ ((codes "e"), (node 1)) ∷ ((codes "t"), (node 2)) ∷ []); nodes = ((dict (((k.tuple ((k.integer (pos 1)) ∷ (k.text (233 ∷ [])) ∷ [])), (node 1)) ∷ ((k.single k.none), (node 3)) ∷ ((k.single (k.integer (negsuc 0))), (node 1)) ∷ [])) ∷ (list []) ∷ (tuple ((integer (pos 1)) ∷ (text (233 ∷ [])) ∷ [])) ∷ (tuple []) ∷ []) })
unfolding read_picture reserved_words chars encode_utf8
is_picture_9 = read_is_picture keyed_bytes (record { names = (((codes "d"), (node 0)) ∷ ((codes "e"), (node 1)) ∷ ((codes "t"), (node 2)) ∷ []); nodes = ((dict (((k.tuple ((k.integer (pos 1)) ∷ (k.text (233 ∷ [])) ∷ [])), (node 1)) ∷ ((k.single k.none), (node 3)) ∷ ((k.single (k.integer (negsuc 0))), (node 1)) ∷ [])) ∷ (list []) ∷ (tuple ((integer (pos 1)) ∷ (text (233 ∷ [])) ∷ [])) ∷ (tuple []) ∷ []) }) (bytes_of keyed_bytes refl) refl

in_picture_9 : IsInPicture (record { names = (((codes "d"), (node 0)) ∷ ((codes "e"), (node 1)) ∷ ((codes "t"), (node 2)) ∷ []); nodes = ((dict (((k.tuple ((k.integer (pos 1)) ∷ (k.text (233 ∷ [])) ∷ [])), (node 1)) ∷ ((k.single k.none), (node 3)) ∷ ((k.single (k.integer (negsuc 0))), (node 1)) ∷ [])) ∷ (list []) ∷ (tuple ((integer (pos 1)) ∷ (text (233 ∷ [])) ∷ [])) ∷ (tuple []) ∷ []) })
unfolding read_picture reserved_words chars encode_utf8
in_picture_9 = (read_is_picture keyed_bytes (record { names = (((codes "d"), (node 0)) ∷ ((codes "e"), (node 1)) ∷ ((codes "t"), (node 2)) ∷ []); nodes = ((dict (((k.tuple ((k.integer (pos 1)) ∷ (k.text (233 ∷ [])) ∷ [])), (node 1)) ∷ ((k.single k.none), (node 3)) ∷ ((k.single (k.integer (negsuc 0))), (node 1)) ∷ [])) ∷ (list []) ∷ (tuple ((integer (pos 1)) ∷ (text (233 ∷ [])) ∷ [])) ∷ (tuple []) ∷ []) }) (bytes_of keyed_bytes refl) refl).state

abbrev raised_bytes : List ℕ
raised_bytes = 0 ∷ 0 ∷ 0 ∷ 3 ∷ 1 ∷ 101 ∷ 8 ∷ 0 ∷ 0 ∷ 0 ∷ 0 ∷ 1 ∷ 120 ∷ 8 ∷ 0 ∷ 0 ∷ 0 ∷ 1 ∷ 1 ∷ 121 ∷ 8 ∷ 0 ∷ 0 ∷ 0 ∷ 2 ∷ 0 ∷ 0 ∷ 0 ∷ 3 ∷ 1 ∷ 0 ∷ 0 ∷ 0 ∷ 1 ∷ 4 ∷ 0 ∷ 0 ∷ 0 ∷ 2 ∷ 110 ∷ 111 ∷ 6 ∷ 24 ∷ 0 ∷ 0 ∷ 0 ∷ 2 ∷ 8 ∷ 0 ∷ 0 ∷ 0 ∷ 0 ∷ 3 ∷ 0 ∷ 0 ∷ 0 ∷ 0 ∷ 0 ∷ 0 ∷ 0 ∷ 0 ∷ 0 ∷ 0 ∷ 0 ∷ 0 ∷ 0 ∷ 0 ∷ 0 ∷ 1 ∷ 6 ∷ 16 ∷ 0 ∷ 0 ∷ 0 ∷ 1 ∷ 4 ∷ 0 ∷ 0 ∷ 0 ∷ 2 ∷ 110 ∷ 111 ∷ []

is_picture_10 : IsPictureOf raised_bytes (record { names = (((codes "e"), (node 0)) ∷ ((codes "x"), (node 1)) ∷ ((codes "y"), (node 2)) ∷ []); nodes = ((list ((text (codes "no")) ∷ [])) ∷ (exception 24 ((node 0) ∷ (integer (pos 1)) ∷ [])) ∷ (exception 16 ((text (codes "no")) ∷ [])) ∷ []) })
unfolding read_picture reserved_words chars encode_utf8
is_picture_10 = read_is_picture raised_bytes (record { names = (((codes "e"), (node 0)) ∷ ((codes "x"), (node 1)) ∷ ((codes "y"), (node 2)) ∷ []); nodes = ((list ((text (codes "no")) ∷ [])) ∷ (exception 24 ((node 0) ∷ (integer (pos 1)) ∷ [])) ∷ (exception 16 ((text (codes "no")) ∷ [])) ∷ []) }) (bytes_of raised_bytes refl) refl

in_picture_10 : IsInPicture (record { names = (((codes "e"), (node 0)) ∷ ((codes "x"), (node 1)) ∷ ((codes "y"), (node 2)) ∷ []); nodes = ((list ((text (codes "no")) ∷ [])) ∷ (exception 24 ((node 0) ∷ (integer (pos 1)) ∷ [])) ∷ (exception 16 ((text (codes "no")) ∷ [])) ∷ []) })
unfolding read_picture reserved_words chars encode_utf8
in_picture_10 = (read_is_picture raised_bytes (record { names = (((codes "e"), (node 0)) ∷ ((codes "x"), (node 1)) ∷ ((codes "y"), (node 2)) ∷ []); nodes = ((list ((text (codes "no")) ∷ [])) ∷ (exception 24 ((node 0) ∷ (integer (pos 1)) ∷ [])) ∷ (exception 16 ((text (codes "no")) ∷ [])) ∷ []) }) (bytes_of raised_bytes refl) refl).state

abbrev object_round_bytes : List ℕ
object_round_bytes = 0 ∷ 0 ∷ 0 ∷ 1 ∷ 1 ∷ 111 ∷ 8 ∷ 0 ∷ 0 ∷ 0 ∷ 0 ∷ 0 ∷ 0 ∷ 0 ∷ 2 ∷ 4 ∷ 0 ∷ 0 ∷ 0 ∷ 2 ∷ 4 ∷ 108 ∷ 101 ∷ 102 ∷ 116 ∷ 8 ∷ 0 ∷ 0 ∷ 0 ∷ 1 ∷ 4 ∷ 115 ∷ 101 ∷ 108 ∷ 102 ∷ 8 ∷ 0 ∷ 0 ∷ 0 ∷ 0 ∷ 1 ∷ 0 ∷ 0 ∷ 0 ∷ 1 ∷ 8 ∷ 0 ∷ 0 ∷ 0 ∷ 0 ∷ []

is_picture_11 : IsPictureOf object_round_bytes (record { names = (((codes "o"), (node 0)) ∷ []); nodes = ((object (((codes "left"), (node 1)) ∷ ((codes "self"), (node 0)) ∷ [])) ∷ (list ((node 0) ∷ [])) ∷ []) })
unfolding read_picture reserved_words chars encode_utf8
is_picture_11 = read_is_picture object_round_bytes (record { names = (((codes "o"), (node 0)) ∷ []); nodes = ((object (((codes "left"), (node 1)) ∷ ((codes "self"), (node 0)) ∷ [])) ∷ (list ((node 0) ∷ [])) ∷ []) }) (bytes_of object_round_bytes refl) refl

in_picture_11 : IsInPicture (record { names = (((codes "o"), (node 0)) ∷ []); nodes = ((object (((codes "left"), (node 1)) ∷ ((codes "self"), (node 0)) ∷ [])) ∷ (list ((node 0) ∷ [])) ∷ []) })
unfolding read_picture reserved_words chars encode_utf8
in_picture_11 = (read_is_picture object_round_bytes (record { names = (((codes "o"), (node 0)) ∷ []); nodes = ((object (((codes "left"), (node 1)) ∷ ((codes "self"), (node 0)) ∷ [])) ∷ (list ((node 0) ∷ [])) ∷ []) }) (bytes_of object_round_bytes refl) refl).state

abbrev wide_bytes : List ℕ
wide_bytes = 0 ∷ 0 ∷ 0 ∷ 2 ∷ 1 ∷ 97 ∷ 8 ∷ 0 ∷ 0 ∷ 0 ∷ 0 ∷ 1 ∷ 98 ∷ 8 ∷ 0 ∷ 0 ∷ 0 ∷ 1 ∷ 0 ∷ 0 ∷ 0 ∷ 7 ∷ 1 ∷ 0 ∷ 0 ∷ 0 ∷ 3 ∷ 8 ∷ 0 ∷ 0 ∷ 0 ∷ 2 ∷ 8 ∷ 0 ∷ 0 ∷ 0 ∷ 3 ∷ 8 ∷ 0 ∷ 0 ∷ 0 ∷ 4 ∷ 3 ∷ 0 ∷ 0 ∷ 0 ∷ 1 ∷ 4 ∷ 0 ∷ 0 ∷ 0 ∷ 1 ∷ 107 ∷ 8 ∷ 0 ∷ 0 ∷ 0 ∷ 5 ∷ 1 ∷ 0 ∷ 0 ∷ 0 ∷ 1 ∷ 8 ∷ 0 ∷ 0 ∷ 0 ∷ 6 ∷ 1 ∷ 0 ∷ 0 ∷ 0 ∷ 1 ∷ 3 ∷ 0 ∷ 0 ∷ 0 ∷ 0 ∷ 0 ∷ 0 ∷ 0 ∷ 0 ∷ 0 ∷ 0 ∷ 0 ∷ 0 ∷ 0 ∷ 0 ∷ 0 ∷ 2 ∷ 1 ∷ 0 ∷ 0 ∷ 0 ∷ 1 ∷ 4 ∷ 0 ∷ 0 ∷ 0 ∷ 1 ∷ 120 ∷ 1 ∷ 0 ∷ 0 ∷ 0 ∷ 1 ∷ 8 ∷ 0 ∷ 0 ∷ 0 ∷ 4 ∷ 1 ∷ 0 ∷ 0 ∷ 0 ∷ 1 ∷ 8 ∷ 0 ∷ 0 ∷ 0 ∷ 4 ∷ []

is_picture_12 : IsPictureOf wide_bytes (record { names = (((codes "a"), (node 0)) ∷ ((codes "b"), (node 1)) ∷ []); nodes = ((list ((node 2) ∷ (node 3) ∷ (node 4) ∷ [])) ∷ (dict (((k.single (k.text (codes "k"))), (node 5)) ∷ [])) ∷ (list ((node 6) ∷ [])) ∷ (list ((integer (pos 2)) ∷ [])) ∷ (list ((text (codes "x")) ∷ [])) ∷ (list ((node 4) ∷ [])) ∷ (list ((node 4) ∷ [])) ∷ []) })
unfolding read_picture reserved_words chars encode_utf8
is_picture_12 = read_is_picture wide_bytes (record { names = (((codes "a"), (node 0)) ∷ ((codes "b"), (node 1)) ∷ []); nodes = ((list ((node 2) ∷ (node 3) ∷ (node 4) ∷ [])) ∷ (dict (((k.single (k.text (codes "k"))), (node 5)) ∷ [])) ∷ (list ((node 6) ∷ [])) ∷ (list ((integer (pos 2)) ∷ [])) ∷ (list ((text (codes "x")) ∷ [])) ∷ (list ((node 4) ∷ [])) ∷ (list ((node 4) ∷ [])) ∷ []) }) (bytes_of wide_bytes refl) refl

in_picture_12 : IsInPicture (record { names = (((codes "a"), (node 0)) ∷ ((codes "b"), (node 1)) ∷ []); nodes = ((list ((node 2) ∷ (node 3) ∷ (node 4) ∷ [])) ∷ (dict (((k.single (k.text (codes "k"))), (node 5)) ∷ [])) ∷ (list ((node 6) ∷ [])) ∷ (list ((integer (pos 2)) ∷ [])) ∷ (list ((text (codes "x")) ∷ [])) ∷ (list ((node 4) ∷ [])) ∷ (list ((node 4) ∷ [])) ∷ []) })
unfolding read_picture reserved_words chars encode_utf8
in_picture_12 = (read_is_picture wide_bytes (record { names = (((codes "a"), (node 0)) ∷ ((codes "b"), (node 1)) ∷ []); nodes = ((list ((node 2) ∷ (node 3) ∷ (node 4) ∷ [])) ∷ (dict (((k.single (k.text (codes "k"))), (node 5)) ∷ [])) ∷ (list ((node 6) ∷ [])) ∷ (list ((integer (pos 2)) ∷ [])) ∷ (list ((text (codes "x")) ∷ [])) ∷ (list ((node 4) ∷ [])) ∷ (list ((node 4) ∷ [])) ∷ []) }) (bytes_of wide_bytes refl) refl).state

abbrev diamond_bytes : List ℕ
diamond_bytes = 0 ∷ 0 ∷ 0 ∷ 1 ∷ 1 ∷ 116 ∷ 8 ∷ 0 ∷ 0 ∷ 0 ∷ 0 ∷ 0 ∷ 0 ∷ 0 ∷ 4 ∷ 1 ∷ 0 ∷ 0 ∷ 0 ∷ 4 ∷ 8 ∷ 0 ∷ 0 ∷ 0 ∷ 1 ∷ 8 ∷ 0 ∷ 0 ∷ 0 ∷ 2 ∷ 8 ∷ 0 ∷ 0 ∷ 0 ∷ 3 ∷ 8 ∷ 0 ∷ 0 ∷ 0 ∷ 3 ∷ 1 ∷ 0 ∷ 0 ∷ 0 ∷ 1 ∷ 8 ∷ 0 ∷ 0 ∷ 0 ∷ 3 ∷ 1 ∷ 0 ∷ 0 ∷ 0 ∷ 1 ∷ 8 ∷ 0 ∷ 0 ∷ 0 ∷ 3 ∷ 1 ∷ 0 ∷ 0 ∷ 0 ∷ 0 ∷ []

is_picture_13 : IsPictureOf diamond_bytes (record { names = (((codes "t"), (node 0)) ∷ []); nodes = ((list ((node 1) ∷ (node 2) ∷ (node 3) ∷ (node 3) ∷ [])) ∷ (list ((node 3) ∷ [])) ∷ (list ((node 3) ∷ [])) ∷ (list []) ∷ []) })
unfolding read_picture reserved_words chars encode_utf8
is_picture_13 = read_is_picture diamond_bytes (record { names = (((codes "t"), (node 0)) ∷ []); nodes = ((list ((node 1) ∷ (node 2) ∷ (node 3) ∷ (node 3) ∷ [])) ∷ (list ((node 3) ∷ [])) ∷ (list ((node 3) ∷ [])) ∷ (list []) ∷ []) }) (bytes_of diamond_bytes refl) refl

in_picture_13 : IsInPicture (record { names = (((codes "t"), (node 0)) ∷ []); nodes = ((list ((node 1) ∷ (node 2) ∷ (node 3) ∷ (node 3) ∷ [])) ∷ (list ((node 3) ∷ [])) ∷ (list ((node 3) ∷ [])) ∷ (list []) ∷ []) })
unfolding read_picture reserved_words chars encode_utf8
in_picture_13 = (read_is_picture diamond_bytes (record { names = (((codes "t"), (node 0)) ∷ []); nodes = ((list ((node 1) ∷ (node 2) ∷ (node 3) ∷ (node 3) ∷ [])) ∷ (list ((node 3) ∷ [])) ∷ (list ((node 3) ∷ [])) ∷ (list []) ∷ []) }) (bytes_of diamond_bytes refl) refl).state

abbrev inside_bytes : List ℕ
inside_bytes = 0 ∷ 0 ∷ 0 ∷ 3 ∷ 1 ∷ 97 ∷ 8 ∷ 0 ∷ 0 ∷ 0 ∷ 0 ∷ 1 ∷ 98 ∷ 8 ∷ 0 ∷ 0 ∷ 0 ∷ 1 ∷ 1 ∷ 99 ∷ 8 ∷ 0 ∷ 0 ∷ 0 ∷ 2 ∷ 0 ∷ 0 ∷ 0 ∷ 5 ∷ 1 ∷ 0 ∷ 0 ∷ 0 ∷ 2 ∷ 8 ∷ 0 ∷ 0 ∷ 0 ∷ 3 ∷ 8 ∷ 0 ∷ 0 ∷ 0 ∷ 1 ∷ 2 ∷ 0 ∷ 0 ∷ 0 ∷ 1 ∷ 8 ∷ 0 ∷ 0 ∷ 0 ∷ 4 ∷ 1 ∷ 0 ∷ 0 ∷ 0 ∷ 1 ∷ 8 ∷ 0 ∷ 0 ∷ 0 ∷ 4 ∷ 1 ∷ 0 ∷ 0 ∷ 0 ∷ 1 ∷ 8 ∷ 0 ∷ 0 ∷ 0 ∷ 1 ∷ 1 ∷ 0 ∷ 0 ∷ 0 ∷ 1 ∷ 3 ∷ 0 ∷ 0 ∷ 0 ∷ 0 ∷ 0 ∷ 0 ∷ 0 ∷ 0 ∷ 0 ∷ 0 ∷ 0 ∷ 0 ∷ 0 ∷ 0 ∷ 0 ∷ 1 ∷ []

is_picture_14 : IsPictureOf inside_bytes (record { names = (((codes "a"), (node 0)) ∷ ((codes "b"), (node 1)) ∷ ((codes "c"), (node 2)) ∷ []); nodes = ((list ((node 3) ∷ (node 1) ∷ [])) ∷ (tuple ((node 4) ∷ [])) ∷ (list ((node 4) ∷ [])) ∷ (list ((node 1) ∷ [])) ∷ (list ((integer (pos 1)) ∷ [])) ∷ []) })
unfolding read_picture reserved_words chars encode_utf8
is_picture_14 = read_is_picture inside_bytes (record { names = (((codes "a"), (node 0)) ∷ ((codes "b"), (node 1)) ∷ ((codes "c"), (node 2)) ∷ []); nodes = ((list ((node 3) ∷ (node 1) ∷ [])) ∷ (tuple ((node 4) ∷ [])) ∷ (list ((node 4) ∷ [])) ∷ (list ((node 1) ∷ [])) ∷ (list ((integer (pos 1)) ∷ [])) ∷ []) }) (bytes_of inside_bytes refl) refl

in_picture_14 : IsInPicture (record { names = (((codes "a"), (node 0)) ∷ ((codes "b"), (node 1)) ∷ ((codes "c"), (node 2)) ∷ []); nodes = ((list ((node 3) ∷ (node 1) ∷ [])) ∷ (tuple ((node 4) ∷ [])) ∷ (list ((node 4) ∷ [])) ∷ (list ((node 1) ∷ [])) ∷ (list ((integer (pos 1)) ∷ [])) ∷ []) })
unfolding read_picture reserved_words chars encode_utf8
in_picture_14 = (read_is_picture inside_bytes (record { names = (((codes "a"), (node 0)) ∷ ((codes "b"), (node 1)) ∷ ((codes "c"), (node 2)) ∷ []); nodes = ((list ((node 3) ∷ (node 1) ∷ [])) ∷ (tuple ((node 4) ∷ [])) ∷ (list ((node 4) ∷ [])) ∷ (list ((node 1) ∷ [])) ∷ (list ((integer (pos 1)) ∷ [])) ∷ []) }) (bytes_of inside_bytes refl) refl).state

abbrev equal_bytes : List ℕ
equal_bytes = 0 ∷ 0 ∷ 0 ∷ 3 ∷ 1 ∷ 97 ∷ 8 ∷ 0 ∷ 0 ∷ 0 ∷ 0 ∷ 1 ∷ 98 ∷ 8 ∷ 0 ∷ 0 ∷ 0 ∷ 1 ∷ 1 ∷ 99 ∷ 8 ∷ 0 ∷ 0 ∷ 0 ∷ 2 ∷ 0 ∷ 0 ∷ 0 ∷ 4 ∷ 2 ∷ 0 ∷ 0 ∷ 0 ∷ 2 ∷ 3 ∷ 0 ∷ 0 ∷ 0 ∷ 0 ∷ 0 ∷ 0 ∷ 0 ∷ 0 ∷ 0 ∷ 0 ∷ 0 ∷ 0 ∷ 0 ∷ 0 ∷ 0 ∷ 1 ∷ 3 ∷ 0 ∷ 0 ∷ 0 ∷ 0 ∷ 0 ∷ 0 ∷ 0 ∷ 0 ∷ 0 ∷ 0 ∷ 0 ∷ 0 ∷ 0 ∷ 0 ∷ 0 ∷ 2 ∷ 2 ∷ 0 ∷ 0 ∷ 0 ∷ 2 ∷ 3 ∷ 0 ∷ 0 ∷ 0 ∷ 0 ∷ 0 ∷ 0 ∷ 0 ∷ 0 ∷ 0 ∷ 0 ∷ 0 ∷ 0 ∷ 0 ∷ 0 ∷ 0 ∷ 1 ∷ 3 ∷ 0 ∷ 0 ∷ 0 ∷ 0 ∷ 0 ∷ 0 ∷ 0 ∷ 0 ∷ 0 ∷ 0 ∷ 0 ∷ 0 ∷ 0 ∷ 0 ∷ 0 ∷ 2 ∷ 1 ∷ 0 ∷ 0 ∷ 0 ∷ 1 ∷ 8 ∷ 0 ∷ 0 ∷ 0 ∷ 3 ∷ 2 ∷ 0 ∷ 0 ∷ 0 ∷ 2 ∷ 3 ∷ 0 ∷ 0 ∷ 0 ∷ 0 ∷ 0 ∷ 0 ∷ 0 ∷ 0 ∷ 0 ∷ 0 ∷ 0 ∷ 0 ∷ 0 ∷ 0 ∷ 0 ∷ 1 ∷ 3 ∷ 0 ∷ 0 ∷ 0 ∷ 0 ∷ 0 ∷ 0 ∷ 0 ∷ 0 ∷ 0 ∷ 0 ∷ 0 ∷ 0 ∷ 0 ∷ 0 ∷ 0 ∷ 2 ∷ []

is_picture_15 : IsPictureOf equal_bytes (record { names = (((codes "a"), (node 0)) ∷ ((codes "b"), (node 1)) ∷ ((codes "c"), (node 2)) ∷ []); nodes = ((tuple ((integer (pos 1)) ∷ (integer (pos 2)) ∷ [])) ∷ (tuple ((integer (pos 1)) ∷ (integer (pos 2)) ∷ [])) ∷ (list ((node 3) ∷ [])) ∷ (tuple ((integer (pos 1)) ∷ (integer (pos 2)) ∷ [])) ∷ []) })
unfolding read_picture reserved_words chars encode_utf8
is_picture_15 = read_is_picture equal_bytes (record { names = (((codes "a"), (node 0)) ∷ ((codes "b"), (node 1)) ∷ ((codes "c"), (node 2)) ∷ []); nodes = ((tuple ((integer (pos 1)) ∷ (integer (pos 2)) ∷ [])) ∷ (tuple ((integer (pos 1)) ∷ (integer (pos 2)) ∷ [])) ∷ (list ((node 3) ∷ [])) ∷ (tuple ((integer (pos 1)) ∷ (integer (pos 2)) ∷ [])) ∷ []) }) (bytes_of equal_bytes refl) refl

in_picture_15 : IsInPicture (record { names = (((codes "a"), (node 0)) ∷ ((codes "b"), (node 1)) ∷ ((codes "c"), (node 2)) ∷ []); nodes = ((tuple ((integer (pos 1)) ∷ (integer (pos 2)) ∷ [])) ∷ (tuple ((integer (pos 1)) ∷ (integer (pos 2)) ∷ [])) ∷ (list ((node 3) ∷ [])) ∷ (tuple ((integer (pos 1)) ∷ (integer (pos 2)) ∷ [])) ∷ []) })
unfolding read_picture reserved_words chars encode_utf8
in_picture_15 = (read_is_picture equal_bytes (record { names = (((codes "a"), (node 0)) ∷ ((codes "b"), (node 1)) ∷ ((codes "c"), (node 2)) ∷ []); nodes = ((tuple ((integer (pos 1)) ∷ (integer (pos 2)) ∷ [])) ∷ (tuple ((integer (pos 1)) ∷ (integer (pos 2)) ∷ [])) ∷ (list ((node 3) ∷ [])) ∷ (tuple ((integer (pos 1)) ∷ (integer (pos 2)) ∷ [])) ∷ []) }) (bytes_of equal_bytes refl) refl).state

abbrev twice_bytes : List ℕ
twice_bytes = 0 ∷ 0 ∷ 0 ∷ 1 ∷ 1 ∷ 97 ∷ 8 ∷ 0 ∷ 0 ∷ 0 ∷ 0 ∷ 0 ∷ 0 ∷ 0 ∷ 3 ∷ 1 ∷ 0 ∷ 0 ∷ 0 ∷ 3 ∷ 8 ∷ 0 ∷ 0 ∷ 0 ∷ 1 ∷ 8 ∷ 0 ∷ 0 ∷ 0 ∷ 1 ∷ 8 ∷ 0 ∷ 0 ∷ 0 ∷ 2 ∷ 1 ∷ 0 ∷ 0 ∷ 0 ∷ 1 ∷ 3 ∷ 0 ∷ 0 ∷ 0 ∷ 0 ∷ 0 ∷ 0 ∷ 0 ∷ 0 ∷ 0 ∷ 0 ∷ 0 ∷ 0 ∷ 0 ∷ 0 ∷ 0 ∷ 1 ∷ 1 ∷ 0 ∷ 0 ∷ 0 ∷ 1 ∷ 3 ∷ 0 ∷ 0 ∷ 0 ∷ 0 ∷ 0 ∷ 0 ∷ 0 ∷ 0 ∷ 0 ∷ 0 ∷ 0 ∷ 0 ∷ 0 ∷ 0 ∷ 0 ∷ 1 ∷ []

is_picture_16 : IsPictureOf twice_bytes (record { names = (((codes "a"), (node 0)) ∷ []); nodes = ((list ((node 1) ∷ (node 1) ∷ (node 2) ∷ [])) ∷ (list ((integer (pos 1)) ∷ [])) ∷ (list ((integer (pos 1)) ∷ [])) ∷ []) })
unfolding read_picture reserved_words chars encode_utf8
is_picture_16 = read_is_picture twice_bytes (record { names = (((codes "a"), (node 0)) ∷ []); nodes = ((list ((node 1) ∷ (node 1) ∷ (node 2) ∷ [])) ∷ (list ((integer (pos 1)) ∷ [])) ∷ (list ((integer (pos 1)) ∷ [])) ∷ []) }) (bytes_of twice_bytes refl) refl

in_picture_16 : IsInPicture (record { names = (((codes "a"), (node 0)) ∷ []); nodes = ((list ((node 1) ∷ (node 1) ∷ (node 2) ∷ [])) ∷ (list ((integer (pos 1)) ∷ [])) ∷ (list ((integer (pos 1)) ∷ [])) ∷ []) })
unfolding read_picture reserved_words chars encode_utf8
in_picture_16 = (read_is_picture twice_bytes (record { names = (((codes "a"), (node 0)) ∷ []); nodes = ((list ((node 1) ∷ (node 1) ∷ (node 2) ∷ [])) ∷ (list ((integer (pos 1)) ∷ [])) ∷ (list ((integer (pos 1)) ∷ [])) ∷ []) }) (bytes_of twice_bytes refl) refl).state

abbrev twice_there_bytes : List ℕ
twice_there_bytes = 0 ∷ 0 ∷ 0 ∷ 1 ∷ 1 ∷ 97 ∷ 8 ∷ 0 ∷ 0 ∷ 0 ∷ 0 ∷ 0 ∷ 0 ∷ 0 ∷ 3 ∷ 1 ∷ 0 ∷ 0 ∷ 0 ∷ 3 ∷ 8 ∷ 0 ∷ 0 ∷ 0 ∷ 1 ∷ 8 ∷ 0 ∷ 0 ∷ 0 ∷ 1 ∷ 8 ∷ 0 ∷ 0 ∷ 0 ∷ 2 ∷ 1 ∷ 0 ∷ 0 ∷ 0 ∷ 1 ∷ 3 ∷ 0 ∷ 0 ∷ 0 ∷ 0 ∷ 0 ∷ 0 ∷ 0 ∷ 0 ∷ 0 ∷ 0 ∷ 0 ∷ 0 ∷ 0 ∷ 0 ∷ 0 ∷ 1 ∷ 1 ∷ 0 ∷ 0 ∷ 0 ∷ 1 ∷ 3 ∷ 0 ∷ 0 ∷ 0 ∷ 0 ∷ 0 ∷ 0 ∷ 0 ∷ 0 ∷ 0 ∷ 0 ∷ 0 ∷ 0 ∷ 0 ∷ 0 ∷ 0 ∷ 1 ∷ []

is_picture_17 : IsPictureOf twice_there_bytes (record { names = (((codes "a"), (node 0)) ∷ []); nodes = ((list ((node 1) ∷ (node 1) ∷ (node 2) ∷ [])) ∷ (list ((integer (pos 1)) ∷ [])) ∷ (list ((integer (pos 1)) ∷ [])) ∷ []) })
unfolding read_picture reserved_words chars encode_utf8
is_picture_17 = read_is_picture twice_there_bytes (record { names = (((codes "a"), (node 0)) ∷ []); nodes = ((list ((node 1) ∷ (node 1) ∷ (node 2) ∷ [])) ∷ (list ((integer (pos 1)) ∷ [])) ∷ (list ((integer (pos 1)) ∷ [])) ∷ []) }) (bytes_of twice_there_bytes refl) refl

in_picture_17 : IsInPicture (record { names = (((codes "a"), (node 0)) ∷ []); nodes = ((list ((node 1) ∷ (node 1) ∷ (node 2) ∷ [])) ∷ (list ((integer (pos 1)) ∷ [])) ∷ (list ((integer (pos 1)) ∷ [])) ∷ []) })
unfolding read_picture reserved_words chars encode_utf8
in_picture_17 = (read_is_picture twice_there_bytes (record { names = (((codes "a"), (node 0)) ∷ []); nodes = ((list ((node 1) ∷ (node 1) ∷ (node 2) ∷ [])) ∷ (list ((integer (pos 1)) ∷ [])) ∷ (list ((integer (pos 1)) ∷ [])) ∷ []) }) (bytes_of twice_there_bytes refl) refl).state

abbrev thrice_bytes : List ℕ
thrice_bytes = 0 ∷ 0 ∷ 0 ∷ 1 ∷ 1 ∷ 97 ∷ 8 ∷ 0 ∷ 0 ∷ 0 ∷ 0 ∷ 0 ∷ 0 ∷ 0 ∷ 2 ∷ 1 ∷ 0 ∷ 0 ∷ 0 ∷ 3 ∷ 8 ∷ 0 ∷ 0 ∷ 0 ∷ 1 ∷ 8 ∷ 0 ∷ 0 ∷ 0 ∷ 1 ∷ 8 ∷ 0 ∷ 0 ∷ 0 ∷ 1 ∷ 1 ∷ 0 ∷ 0 ∷ 0 ∷ 1 ∷ 3 ∷ 0 ∷ 0 ∷ 0 ∷ 0 ∷ 0 ∷ 0 ∷ 0 ∷ 0 ∷ 0 ∷ 0 ∷ 0 ∷ 0 ∷ 0 ∷ 0 ∷ 0 ∷ 1 ∷ []

is_picture_18 : IsPictureOf thrice_bytes (record { names = (((codes "a"), (node 0)) ∷ []); nodes = ((list ((node 1) ∷ (node 1) ∷ (node 1) ∷ [])) ∷ (list ((integer (pos 1)) ∷ [])) ∷ []) })
unfolding read_picture reserved_words chars encode_utf8
is_picture_18 = read_is_picture thrice_bytes (record { names = (((codes "a"), (node 0)) ∷ []); nodes = ((list ((node 1) ∷ (node 1) ∷ (node 1) ∷ [])) ∷ (list ((integer (pos 1)) ∷ [])) ∷ []) }) (bytes_of thrice_bytes refl) refl

in_picture_18 : IsInPicture (record { names = (((codes "a"), (node 0)) ∷ []); nodes = ((list ((node 1) ∷ (node 1) ∷ (node 1) ∷ [])) ∷ (list ((integer (pos 1)) ∷ [])) ∷ []) })
unfolding read_picture reserved_words chars encode_utf8
in_picture_18 = (read_is_picture thrice_bytes (record { names = (((codes "a"), (node 0)) ∷ []); nodes = ((list ((node 1) ∷ (node 1) ∷ (node 1) ∷ [])) ∷ (list ((integer (pos 1)) ∷ [])) ∷ []) }) (bytes_of thrice_bytes refl) refl).state

abbrev once_each_bytes : List ℕ
once_each_bytes = 0 ∷ 0 ∷ 0 ∷ 1 ∷ 1 ∷ 97 ∷ 8 ∷ 0 ∷ 0 ∷ 0 ∷ 0 ∷ 0 ∷ 0 ∷ 0 ∷ 4 ∷ 1 ∷ 0 ∷ 0 ∷ 0 ∷ 3 ∷ 8 ∷ 0 ∷ 0 ∷ 0 ∷ 1 ∷ 8 ∷ 0 ∷ 0 ∷ 0 ∷ 2 ∷ 8 ∷ 0 ∷ 0 ∷ 0 ∷ 3 ∷ 1 ∷ 0 ∷ 0 ∷ 0 ∷ 1 ∷ 3 ∷ 0 ∷ 0 ∷ 0 ∷ 0 ∷ 0 ∷ 0 ∷ 0 ∷ 0 ∷ 0 ∷ 0 ∷ 0 ∷ 0 ∷ 0 ∷ 0 ∷ 0 ∷ 1 ∷ 1 ∷ 0 ∷ 0 ∷ 0 ∷ 1 ∷ 3 ∷ 0 ∷ 0 ∷ 0 ∷ 0 ∷ 0 ∷ 0 ∷ 0 ∷ 0 ∷ 0 ∷ 0 ∷ 0 ∷ 0 ∷ 0 ∷ 0 ∷ 0 ∷ 1 ∷ 1 ∷ 0 ∷ 0 ∷ 0 ∷ 1 ∷ 3 ∷ 0 ∷ 0 ∷ 0 ∷ 0 ∷ 0 ∷ 0 ∷ 0 ∷ 0 ∷ 0 ∷ 0 ∷ 0 ∷ 0 ∷ 0 ∷ 0 ∷ 0 ∷ 1 ∷ []

is_picture_19 : IsPictureOf once_each_bytes (record { names = (((codes "a"), (node 0)) ∷ []); nodes = ((list ((node 1) ∷ (node 2) ∷ (node 3) ∷ [])) ∷ (list ((integer (pos 1)) ∷ [])) ∷ (list ((integer (pos 1)) ∷ [])) ∷ (list ((integer (pos 1)) ∷ [])) ∷ []) })
unfolding read_picture reserved_words chars encode_utf8
is_picture_19 = read_is_picture once_each_bytes (record { names = (((codes "a"), (node 0)) ∷ []); nodes = ((list ((node 1) ∷ (node 2) ∷ (node 3) ∷ [])) ∷ (list ((integer (pos 1)) ∷ [])) ∷ (list ((integer (pos 1)) ∷ [])) ∷ (list ((integer (pos 1)) ∷ [])) ∷ []) }) (bytes_of once_each_bytes refl) refl

in_picture_19 : IsInPicture (record { names = (((codes "a"), (node 0)) ∷ []); nodes = ((list ((node 1) ∷ (node 2) ∷ (node 3) ∷ [])) ∷ (list ((integer (pos 1)) ∷ [])) ∷ (list ((integer (pos 1)) ∷ [])) ∷ (list ((integer (pos 1)) ∷ [])) ∷ []) })
unfolding read_picture reserved_words chars encode_utf8
in_picture_19 = (read_is_picture once_each_bytes (record { names = (((codes "a"), (node 0)) ∷ []); nodes = ((list ((node 1) ∷ (node 2) ∷ (node 3) ∷ [])) ∷ (list ((integer (pos 1)) ∷ [])) ∷ (list ((integer (pos 1)) ∷ [])) ∷ (list ((integer (pos 1)) ∷ [])) ∷ []) }) (bytes_of once_each_bytes refl) refl).state

-- ---- bytes that are the picture of no state

no_picture_1 : IsPicture (0 ∷ 0 ∷ 0 ∷ 2 ∷ 1 ∷ 97 ∷ 8 ∷ 0 ∷ 0 ∷ 0 ∷ 0 ∷ 1 ∷ 98 ∷ 8 ∷ 0 ∷ 0 ∷ 0 ∷ 0 ∷ 0 ∷ 0 ∷ 0 ∷ 1 ∷ 1 ∷ 0 ∷ 0 ∷ 0 ∷ 1 ∷ 3 ∷ 0 ∷ 0 ∷ 0 ∷ 0 ∷ 0 ∷ 0 ∷ 0 ∷ 0 ∷ 0 ∷ 0 ∷ 0 ∷ 0 ∷ 0 ∷ 0 ∷ 0 ∷ []) → ⊥
unfolding read_picture reserved_words chars encode_utf8
no_picture_1 = λ h. faulty 28 h.0 (picture_is_read (0 ∷ 0 ∷ 0 ∷ 2 ∷ 1 ∷ 97 ∷ 8 ∷ 0 ∷ 0 ∷ 0 ∷ 0 ∷ 1 ∷ 98 ∷ 8 ∷ 0 ∷ 0 ∷ 0 ∷ 0 ∷ 0 ∷ 0 ∷ 0 ∷ 1 ∷ 1 ∷ 0 ∷ 0 ∷ 0 ∷ 1 ∷ 3 ∷ 0 ∷ 0 ∷ 0 ∷ 0 ∷ 0 ∷ 0 ∷ 0 ∷ 0 ∷ 0 ∷ 0 ∷ 0 ∷ 0 ∷ 0 ∷ 0 ∷ 0 ∷ []) h.0 h.1)

no_picture_2 : IsPicture (0 ∷ 0 ∷ 0 ∷ 2 ∷ 1 ∷ 97 ∷ 8 ∷ 0 ∷ 0 ∷ 0 ∷ 0 ∷ 1 ∷ 98 ∷ 8 ∷ 0 ∷ 0 ∷ 0 ∷ 0 ∷ 0 ∷ 0 ∷ 0 ∷ 1 ∷ 1 ∷ 0 ∷ 0 ∷ 0 ∷ 1 ∷ 3 ∷ 0 ∷ 0 ∷ 0 ∷ 0 ∷ 0 ∷ 0 ∷ 0 ∷ 0 ∷ 0 ∷ 0 ∷ 0 ∷ 0 ∷ 0 ∷ 0 ∷ 0 ∷ 1 ∷ 0 ∷ []) → ⊥
unfolding read_picture reserved_words chars encode_utf8
no_picture_2 = λ h. faulty 44 h.0 (picture_is_read (0 ∷ 0 ∷ 0 ∷ 2 ∷ 1 ∷ 97 ∷ 8 ∷ 0 ∷ 0 ∷ 0 ∷ 0 ∷ 1 ∷ 98 ∷ 8 ∷ 0 ∷ 0 ∷ 0 ∷ 0 ∷ 0 ∷ 0 ∷ 0 ∷ 1 ∷ 1 ∷ 0 ∷ 0 ∷ 0 ∷ 1 ∷ 3 ∷ 0 ∷ 0 ∷ 0 ∷ 0 ∷ 0 ∷ 0 ∷ 0 ∷ 0 ∷ 0 ∷ 0 ∷ 0 ∷ 0 ∷ 0 ∷ 0 ∷ 0 ∷ 1 ∷ 0 ∷ []) h.0 h.1)

no_picture_3 : IsPicture (1 ∷ 0 ∷ 0 ∷ 2 ∷ 1 ∷ 97 ∷ 8 ∷ 0 ∷ 0 ∷ 0 ∷ 0 ∷ 1 ∷ 98 ∷ 8 ∷ 0 ∷ 0 ∷ 0 ∷ 0 ∷ 0 ∷ 0 ∷ 0 ∷ 1 ∷ 1 ∷ 0 ∷ 0 ∷ 0 ∷ 1 ∷ 3 ∷ 0 ∷ 0 ∷ 0 ∷ 0 ∷ 0 ∷ 0 ∷ 0 ∷ 0 ∷ 0 ∷ 0 ∷ 0 ∷ 0 ∷ 0 ∷ 0 ∷ 0 ∷ 1 ∷ []) → ⊥
unfolding read_picture reserved_words chars encode_utf8
no_picture_3 = λ h. faulty 18 h.0 (picture_is_read (1 ∷ 0 ∷ 0 ∷ 2 ∷ 1 ∷ 97 ∷ 8 ∷ 0 ∷ 0 ∷ 0 ∷ 0 ∷ 1 ∷ 98 ∷ 8 ∷ 0 ∷ 0 ∷ 0 ∷ 0 ∷ 0 ∷ 0 ∷ 0 ∷ 1 ∷ 1 ∷ 0 ∷ 0 ∷ 0 ∷ 1 ∷ 3 ∷ 0 ∷ 0 ∷ 0 ∷ 0 ∷ 0 ∷ 0 ∷ 0 ∷ 0 ∷ 0 ∷ 0 ∷ 0 ∷ 0 ∷ 0 ∷ 0 ∷ 0 ∷ 1 ∷ []) h.0 h.1)

no_picture_4 : IsPicture (0 ∷ 0 ∷ 0 ∷ 1 ∷ 1 ∷ 97 ∷ 8 ∷ 0 ∷ 0 ∷ 0 ∷ 0 ∷ 0 ∷ 0 ∷ 0 ∷ 1 ∷ 1 ∷ 0 ∷ 0 ∷ 0 ∷ 1 ∷ 8 ∷ 0 ∷ 0 ∷ 0 ∷ []) → ⊥
unfolding read_picture reserved_words chars encode_utf8
no_picture_4 = λ h. faulty 21 h.0 (picture_is_read (0 ∷ 0 ∷ 0 ∷ 1 ∷ 1 ∷ 97 ∷ 8 ∷ 0 ∷ 0 ∷ 0 ∷ 0 ∷ 0 ∷ 0 ∷ 0 ∷ 1 ∷ 1 ∷ 0 ∷ 0 ∷ 0 ∷ 1 ∷ 8 ∷ 0 ∷ 0 ∷ 0 ∷ []) h.0 h.1)

no_picture_5 : IsPicture (0 ∷ 0 ∷ 0 ∷ 1 ∷ 1 ∷ 97 ∷ 8 ∷ 0 ∷ 0 ∷ 0 ∷ 0 ∷ 0 ∷ 0 ∷ 0 ∷ 1 ∷ 1 ∷ 0 ∷ 0 ∷ 0 ∷ 1 ∷ 8 ∷ 0 ∷ 0 ∷ 0 ∷ 0 ∷ 0 ∷ []) → ⊥
unfolding read_picture reserved_words chars encode_utf8
no_picture_5 = λ h. faulty 25 h.0 (picture_is_read (0 ∷ 0 ∷ 0 ∷ 1 ∷ 1 ∷ 97 ∷ 8 ∷ 0 ∷ 0 ∷ 0 ∷ 0 ∷ 0 ∷ 0 ∷ 0 ∷ 1 ∷ 1 ∷ 0 ∷ 0 ∷ 0 ∷ 1 ∷ 8 ∷ 0 ∷ 0 ∷ 0 ∷ 0 ∷ 0 ∷ []) h.0 h.1)

no_picture_6 : IsPicture (1 ∷ 0 ∷ 0 ∷ 1 ∷ 1 ∷ 97 ∷ 8 ∷ 0 ∷ 0 ∷ 0 ∷ 0 ∷ 0 ∷ 0 ∷ 0 ∷ 1 ∷ 1 ∷ 0 ∷ 0 ∷ 0 ∷ 1 ∷ 8 ∷ 0 ∷ 0 ∷ 0 ∷ 0 ∷ []) → ⊥
unfolding read_picture reserved_words chars encode_utf8
no_picture_6 = λ h. faulty 11 h.0 (picture_is_read (1 ∷ 0 ∷ 0 ∷ 1 ∷ 1 ∷ 97 ∷ 8 ∷ 0 ∷ 0 ∷ 0 ∷ 0 ∷ 0 ∷ 0 ∷ 0 ∷ 1 ∷ 1 ∷ 0 ∷ 0 ∷ 0 ∷ 1 ∷ 8 ∷ 0 ∷ 0 ∷ 0 ∷ 0 ∷ []) h.0 h.1)

no_picture_7 : IsPicture (0 ∷ 0 ∷ 0 ∷ 3 ∷ 1 ∷ 100 ∷ 8 ∷ 0 ∷ 0 ∷ 0 ∷ 0 ∷ 1 ∷ 101 ∷ 8 ∷ 0 ∷ 0 ∷ 0 ∷ 1 ∷ 1 ∷ 116 ∷ 8 ∷ 0 ∷ 0 ∷ 0 ∷ 2 ∷ 0 ∷ 0 ∷ 0 ∷ 4 ∷ 3 ∷ 0 ∷ 0 ∷ 0 ∷ 3 ∷ 9 ∷ 0 ∷ 0 ∷ 0 ∷ 2 ∷ 3 ∷ 0 ∷ 0 ∷ 0 ∷ 0 ∷ 0 ∷ 0 ∷ 0 ∷ 0 ∷ 0 ∷ 0 ∷ 0 ∷ 0 ∷ 0 ∷ 0 ∷ 0 ∷ 1 ∷ 4 ∷ 0 ∷ 0 ∷ 0 ∷ 2 ∷ 195 ∷ 169 ∷ 8 ∷ 0 ∷ 0 ∷ 0 ∷ 1 ∷ 0 ∷ 8 ∷ 0 ∷ 0 ∷ 0 ∷ 3 ∷ 3 ∷ 255 ∷ 255 ∷ 255 ∷ 255 ∷ 255 ∷ 255 ∷ 255 ∷ 255 ∷ 255 ∷ 255 ∷ 255 ∷ 255 ∷ 255 ∷ 255 ∷ 255 ∷ 255 ∷ 8 ∷ 0 ∷ 0 ∷ 0 ∷ 1 ∷ 1 ∷ 0 ∷ 0 ∷ 0 ∷ 0 ∷ 2 ∷ 0 ∷ 0 ∷ 0 ∷ 2 ∷ 3 ∷ 0 ∷ 0 ∷ 0 ∷ 0 ∷ 0 ∷ 0 ∷ 0 ∷ 0 ∷ 0 ∷ 0 ∷ 0 ∷ 0 ∷ 0 ∷ 0 ∷ 0 ∷ 1 ∷ 4 ∷ 0 ∷ 0 ∷ 0 ∷ 2 ∷ 195 ∷ 169 ∷ 2 ∷ 0 ∷ 0 ∷ 0 ∷ []) → ⊥
unfolding read_picture reserved_words chars encode_utf8
no_picture_7 = λ h. faulty 131 h.0 (picture_is_read (0 ∷ 0 ∷ 0 ∷ 3 ∷ 1 ∷ 100 ∷ 8 ∷ 0 ∷ 0 ∷ 0 ∷ 0 ∷ 1 ∷ 101 ∷ 8 ∷ 0 ∷ 0 ∷ 0 ∷ 1 ∷ 1 ∷ 116 ∷ 8 ∷ 0 ∷ 0 ∷ 0 ∷ 2 ∷ 0 ∷ 0 ∷ 0 ∷ 4 ∷ 3 ∷ 0 ∷ 0 ∷ 0 ∷ 3 ∷ 9 ∷ 0 ∷ 0 ∷ 0 ∷ 2 ∷ 3 ∷ 0 ∷ 0 ∷ 0 ∷ 0 ∷ 0 ∷ 0 ∷ 0 ∷ 0 ∷ 0 ∷ 0 ∷ 0 ∷ 0 ∷ 0 ∷ 0 ∷ 0 ∷ 1 ∷ 4 ∷ 0 ∷ 0 ∷ 0 ∷ 2 ∷ 195 ∷ 169 ∷ 8 ∷ 0 ∷ 0 ∷ 0 ∷ 1 ∷ 0 ∷ 8 ∷ 0 ∷ 0 ∷ 0 ∷ 3 ∷ 3 ∷ 255 ∷ 255 ∷ 255 ∷ 255 ∷ 255 ∷ 255 ∷ 255 ∷ 255 ∷ 255 ∷ 255 ∷ 255 ∷ 255 ∷ 255 ∷ 255 ∷ 255 ∷ 255 ∷ 8 ∷ 0 ∷ 0 ∷ 0 ∷ 1 ∷ 1 ∷ 0 ∷ 0 ∷ 0 ∷ 0 ∷ 2 ∷ 0 ∷ 0 ∷ 0 ∷ 2 ∷ 3 ∷ 0 ∷ 0 ∷ 0 ∷ 0 ∷ 0 ∷ 0 ∷ 0 ∷ 0 ∷ 0 ∷ 0 ∷ 0 ∷ 0 ∷ 0 ∷ 0 ∷ 0 ∷ 1 ∷ 4 ∷ 0 ∷ 0 ∷ 0 ∷ 2 ∷ 195 ∷ 169 ∷ 2 ∷ 0 ∷ 0 ∷ 0 ∷ []) h.0 h.1)

no_picture_8 : IsPicture (0 ∷ 0 ∷ 0 ∷ 3 ∷ 1 ∷ 100 ∷ 8 ∷ 0 ∷ 0 ∷ 0 ∷ 0 ∷ 1 ∷ 101 ∷ 8 ∷ 0 ∷ 0 ∷ 0 ∷ 1 ∷ 1 ∷ 116 ∷ 8 ∷ 0 ∷ 0 ∷ 0 ∷ 2 ∷ 0 ∷ 0 ∷ 0 ∷ 4 ∷ 3 ∷ 0 ∷ 0 ∷ 0 ∷ 3 ∷ 9 ∷ 0 ∷ 0 ∷ 0 ∷ 2 ∷ 3 ∷ 0 ∷ 0 ∷ 0 ∷ 0 ∷ 0 ∷ 0 ∷ 0 ∷ 0 ∷ 0 ∷ 0 ∷ 0 ∷ 0 ∷ 0 ∷ 0 ∷ 0 ∷ 1 ∷ 4 ∷ 0 ∷ 0 ∷ 0 ∷ 2 ∷ 195 ∷ 169 ∷ 8 ∷ 0 ∷ 0 ∷ 0 ∷ 1 ∷ 0 ∷ 8 ∷ 0 ∷ 0 ∷ 0 ∷ 3 ∷ 3 ∷ 255 ∷ 255 ∷ 255 ∷ 255 ∷ 255 ∷ 255 ∷ 255 ∷ 255 ∷ 255 ∷ 255 ∷ 255 ∷ 255 ∷ 255 ∷ 255 ∷ 255 ∷ 255 ∷ 8 ∷ 0 ∷ 0 ∷ 0 ∷ 1 ∷ 1 ∷ 0 ∷ 0 ∷ 0 ∷ 0 ∷ 2 ∷ 0 ∷ 0 ∷ 0 ∷ 2 ∷ 3 ∷ 0 ∷ 0 ∷ 0 ∷ 0 ∷ 0 ∷ 0 ∷ 0 ∷ 0 ∷ 0 ∷ 0 ∷ 0 ∷ 0 ∷ 0 ∷ 0 ∷ 0 ∷ 1 ∷ 4 ∷ 0 ∷ 0 ∷ 0 ∷ 2 ∷ 195 ∷ 169 ∷ 2 ∷ 0 ∷ 0 ∷ 0 ∷ 0 ∷ 0 ∷ []) → ⊥
unfolding read_picture reserved_words chars encode_utf8
no_picture_8 = λ h. faulty 135 h.0 (picture_is_read (0 ∷ 0 ∷ 0 ∷ 3 ∷ 1 ∷ 100 ∷ 8 ∷ 0 ∷ 0 ∷ 0 ∷ 0 ∷ 1 ∷ 101 ∷ 8 ∷ 0 ∷ 0 ∷ 0 ∷ 1 ∷ 1 ∷ 116 ∷ 8 ∷ 0 ∷ 0 ∷ 0 ∷ 2 ∷ 0 ∷ 0 ∷ 0 ∷ 4 ∷ 3 ∷ 0 ∷ 0 ∷ 0 ∷ 3 ∷ 9 ∷ 0 ∷ 0 ∷ 0 ∷ 2 ∷ 3 ∷ 0 ∷ 0 ∷ 0 ∷ 0 ∷ 0 ∷ 0 ∷ 0 ∷ 0 ∷ 0 ∷ 0 ∷ 0 ∷ 0 ∷ 0 ∷ 0 ∷ 0 ∷ 1 ∷ 4 ∷ 0 ∷ 0 ∷ 0 ∷ 2 ∷ 195 ∷ 169 ∷ 8 ∷ 0 ∷ 0 ∷ 0 ∷ 1 ∷ 0 ∷ 8 ∷ 0 ∷ 0 ∷ 0 ∷ 3 ∷ 3 ∷ 255 ∷ 255 ∷ 255 ∷ 255 ∷ 255 ∷ 255 ∷ 255 ∷ 255 ∷ 255 ∷ 255 ∷ 255 ∷ 255 ∷ 255 ∷ 255 ∷ 255 ∷ 255 ∷ 8 ∷ 0 ∷ 0 ∷ 0 ∷ 1 ∷ 1 ∷ 0 ∷ 0 ∷ 0 ∷ 0 ∷ 2 ∷ 0 ∷ 0 ∷ 0 ∷ 2 ∷ 3 ∷ 0 ∷ 0 ∷ 0 ∷ 0 ∷ 0 ∷ 0 ∷ 0 ∷ 0 ∷ 0 ∷ 0 ∷ 0 ∷ 0 ∷ 0 ∷ 0 ∷ 0 ∷ 1 ∷ 4 ∷ 0 ∷ 0 ∷ 0 ∷ 2 ∷ 195 ∷ 169 ∷ 2 ∷ 0 ∷ 0 ∷ 0 ∷ 0 ∷ 0 ∷ []) h.0 h.1)

no_picture_9 : IsPicture (1 ∷ 0 ∷ 0 ∷ 3 ∷ 1 ∷ 100 ∷ 8 ∷ 0 ∷ 0 ∷ 0 ∷ 0 ∷ 1 ∷ 101 ∷ 8 ∷ 0 ∷ 0 ∷ 0 ∷ 1 ∷ 1 ∷ 116 ∷ 8 ∷ 0 ∷ 0 ∷ 0 ∷ 2 ∷ 0 ∷ 0 ∷ 0 ∷ 4 ∷ 3 ∷ 0 ∷ 0 ∷ 0 ∷ 3 ∷ 9 ∷ 0 ∷ 0 ∷ 0 ∷ 2 ∷ 3 ∷ 0 ∷ 0 ∷ 0 ∷ 0 ∷ 0 ∷ 0 ∷ 0 ∷ 0 ∷ 0 ∷ 0 ∷ 0 ∷ 0 ∷ 0 ∷ 0 ∷ 0 ∷ 1 ∷ 4 ∷ 0 ∷ 0 ∷ 0 ∷ 2 ∷ 195 ∷ 169 ∷ 8 ∷ 0 ∷ 0 ∷ 0 ∷ 1 ∷ 0 ∷ 8 ∷ 0 ∷ 0 ∷ 0 ∷ 3 ∷ 3 ∷ 255 ∷ 255 ∷ 255 ∷ 255 ∷ 255 ∷ 255 ∷ 255 ∷ 255 ∷ 255 ∷ 255 ∷ 255 ∷ 255 ∷ 255 ∷ 255 ∷ 255 ∷ 255 ∷ 8 ∷ 0 ∷ 0 ∷ 0 ∷ 1 ∷ 1 ∷ 0 ∷ 0 ∷ 0 ∷ 0 ∷ 2 ∷ 0 ∷ 0 ∷ 0 ∷ 2 ∷ 3 ∷ 0 ∷ 0 ∷ 0 ∷ 0 ∷ 0 ∷ 0 ∷ 0 ∷ 0 ∷ 0 ∷ 0 ∷ 0 ∷ 0 ∷ 0 ∷ 0 ∷ 0 ∷ 1 ∷ 4 ∷ 0 ∷ 0 ∷ 0 ∷ 2 ∷ 195 ∷ 169 ∷ 2 ∷ 0 ∷ 0 ∷ 0 ∷ 0 ∷ []) → ⊥
unfolding read_picture reserved_words chars encode_utf8
no_picture_9 = λ h. faulty 25 h.0 (picture_is_read (1 ∷ 0 ∷ 0 ∷ 3 ∷ 1 ∷ 100 ∷ 8 ∷ 0 ∷ 0 ∷ 0 ∷ 0 ∷ 1 ∷ 101 ∷ 8 ∷ 0 ∷ 0 ∷ 0 ∷ 1 ∷ 1 ∷ 116 ∷ 8 ∷ 0 ∷ 0 ∷ 0 ∷ 2 ∷ 0 ∷ 0 ∷ 0 ∷ 4 ∷ 3 ∷ 0 ∷ 0 ∷ 0 ∷ 3 ∷ 9 ∷ 0 ∷ 0 ∷ 0 ∷ 2 ∷ 3 ∷ 0 ∷ 0 ∷ 0 ∷ 0 ∷ 0 ∷ 0 ∷ 0 ∷ 0 ∷ 0 ∷ 0 ∷ 0 ∷ 0 ∷ 0 ∷ 0 ∷ 0 ∷ 1 ∷ 4 ∷ 0 ∷ 0 ∷ 0 ∷ 2 ∷ 195 ∷ 169 ∷ 8 ∷ 0 ∷ 0 ∷ 0 ∷ 1 ∷ 0 ∷ 8 ∷ 0 ∷ 0 ∷ 0 ∷ 3 ∷ 3 ∷ 255 ∷ 255 ∷ 255 ∷ 255 ∷ 255 ∷ 255 ∷ 255 ∷ 255 ∷ 255 ∷ 255 ∷ 255 ∷ 255 ∷ 255 ∷ 255 ∷ 255 ∷ 255 ∷ 8 ∷ 0 ∷ 0 ∷ 0 ∷ 1 ∷ 1 ∷ 0 ∷ 0 ∷ 0 ∷ 0 ∷ 2 ∷ 0 ∷ 0 ∷ 0 ∷ 2 ∷ 3 ∷ 0 ∷ 0 ∷ 0 ∷ 0 ∷ 0 ∷ 0 ∷ 0 ∷ 0 ∷ 0 ∷ 0 ∷ 0 ∷ 0 ∷ 0 ∷ 0 ∷ 0 ∷ 1 ∷ 4 ∷ 0 ∷ 0 ∷ 0 ∷ 2 ∷ 195 ∷ 169 ∷ 2 ∷ 0 ∷ 0 ∷ 0 ∷ 0 ∷ []) h.0 h.1)

no_picture_10 : IsPicture (0 ∷ 0 ∷ 0 ∷ 3 ∷ 1 ∷ 101 ∷ 8 ∷ 0 ∷ 0 ∷ 0 ∷ 0 ∷ 1 ∷ 120 ∷ 8 ∷ 0 ∷ 0 ∷ 0 ∷ 1 ∷ 1 ∷ 121 ∷ 8 ∷ 0 ∷ 0 ∷ 0 ∷ 2 ∷ 0 ∷ 0 ∷ 0 ∷ 3 ∷ 1 ∷ 0 ∷ 0 ∷ 0 ∷ 1 ∷ 4 ∷ 0 ∷ 0 ∷ 0 ∷ 2 ∷ 110 ∷ 111 ∷ 6 ∷ 24 ∷ 0 ∷ 0 ∷ 0 ∷ 2 ∷ 8 ∷ 0 ∷ 0 ∷ 0 ∷ 0 ∷ 3 ∷ 0 ∷ 0 ∷ 0 ∷ 0 ∷ 0 ∷ 0 ∷ 0 ∷ 0 ∷ 0 ∷ 0 ∷ 0 ∷ 0 ∷ 0 ∷ 0 ∷ 0 ∷ 1 ∷ 6 ∷ 16 ∷ 0 ∷ 0 ∷ 0 ∷ 1 ∷ 4 ∷ 0 ∷ 0 ∷ 0 ∷ 2 ∷ 110 ∷ []) → ⊥
unfolding read_picture reserved_words chars encode_utf8
no_picture_10 = λ h. faulty 80 h.0 (picture_is_read (0 ∷ 0 ∷ 0 ∷ 3 ∷ 1 ∷ 101 ∷ 8 ∷ 0 ∷ 0 ∷ 0 ∷ 0 ∷ 1 ∷ 120 ∷ 8 ∷ 0 ∷ 0 ∷ 0 ∷ 1 ∷ 1 ∷ 121 ∷ 8 ∷ 0 ∷ 0 ∷ 0 ∷ 2 ∷ 0 ∷ 0 ∷ 0 ∷ 3 ∷ 1 ∷ 0 ∷ 0 ∷ 0 ∷ 1 ∷ 4 ∷ 0 ∷ 0 ∷ 0 ∷ 2 ∷ 110 ∷ 111 ∷ 6 ∷ 24 ∷ 0 ∷ 0 ∷ 0 ∷ 2 ∷ 8 ∷ 0 ∷ 0 ∷ 0 ∷ 0 ∷ 3 ∷ 0 ∷ 0 ∷ 0 ∷ 0 ∷ 0 ∷ 0 ∷ 0 ∷ 0 ∷ 0 ∷ 0 ∷ 0 ∷ 0 ∷ 0 ∷ 0 ∷ 0 ∷ 1 ∷ 6 ∷ 16 ∷ 0 ∷ 0 ∷ 0 ∷ 1 ∷ 4 ∷ 0 ∷ 0 ∷ 0 ∷ 2 ∷ 110 ∷ []) h.0 h.1)

no_picture_11 : IsPicture (0 ∷ 0 ∷ 0 ∷ 3 ∷ 1 ∷ 101 ∷ 8 ∷ 0 ∷ 0 ∷ 0 ∷ 0 ∷ 1 ∷ 120 ∷ 8 ∷ 0 ∷ 0 ∷ 0 ∷ 1 ∷ 1 ∷ 121 ∷ 8 ∷ 0 ∷ 0 ∷ 0 ∷ 2 ∷ 0 ∷ 0 ∷ 0 ∷ 3 ∷ 1 ∷ 0 ∷ 0 ∷ 0 ∷ 1 ∷ 4 ∷ 0 ∷ 0 ∷ 0 ∷ 2 ∷ 110 ∷ 111 ∷ 6 ∷ 24 ∷ 0 ∷ 0 ∷ 0 ∷ 2 ∷ 8 ∷ 0 ∷ 0 ∷ 0 ∷ 0 ∷ 3 ∷ 0 ∷ 0 ∷ 0 ∷ 0 ∷ 0 ∷ 0 ∷ 0 ∷ 0 ∷ 0 ∷ 0 ∷ 0 ∷ 0 ∷ 0 ∷ 0 ∷ 0 ∷ 1 ∷ 6 ∷ 16 ∷ 0 ∷ 0 ∷ 0 ∷ 1 ∷ 4 ∷ 0 ∷ 0 ∷ 0 ∷ 2 ∷ 110 ∷ 111 ∷ 0 ∷ []) → ⊥
unfolding read_picture reserved_words chars encode_utf8
no_picture_11 = λ h. faulty 82 h.0 (picture_is_read (0 ∷ 0 ∷ 0 ∷ 3 ∷ 1 ∷ 101 ∷ 8 ∷ 0 ∷ 0 ∷ 0 ∷ 0 ∷ 1 ∷ 120 ∷ 8 ∷ 0 ∷ 0 ∷ 0 ∷ 1 ∷ 1 ∷ 121 ∷ 8 ∷ 0 ∷ 0 ∷ 0 ∷ 2 ∷ 0 ∷ 0 ∷ 0 ∷ 3 ∷ 1 ∷ 0 ∷ 0 ∷ 0 ∷ 1 ∷ 4 ∷ 0 ∷ 0 ∷ 0 ∷ 2 ∷ 110 ∷ 111 ∷ 6 ∷ 24 ∷ 0 ∷ 0 ∷ 0 ∷ 2 ∷ 8 ∷ 0 ∷ 0 ∷ 0 ∷ 0 ∷ 3 ∷ 0 ∷ 0 ∷ 0 ∷ 0 ∷ 0 ∷ 0 ∷ 0 ∷ 0 ∷ 0 ∷ 0 ∷ 0 ∷ 0 ∷ 0 ∷ 0 ∷ 0 ∷ 1 ∷ 6 ∷ 16 ∷ 0 ∷ 0 ∷ 0 ∷ 1 ∷ 4 ∷ 0 ∷ 0 ∷ 0 ∷ 2 ∷ 110 ∷ 111 ∷ 0 ∷ []) h.0 h.1)

no_picture_12 : IsPicture (1 ∷ 0 ∷ 0 ∷ 3 ∷ 1 ∷ 101 ∷ 8 ∷ 0 ∷ 0 ∷ 0 ∷ 0 ∷ 1 ∷ 120 ∷ 8 ∷ 0 ∷ 0 ∷ 0 ∷ 1 ∷ 1 ∷ 121 ∷ 8 ∷ 0 ∷ 0 ∷ 0 ∷ 2 ∷ 0 ∷ 0 ∷ 0 ∷ 3 ∷ 1 ∷ 0 ∷ 0 ∷ 0 ∷ 1 ∷ 4 ∷ 0 ∷ 0 ∷ 0 ∷ 2 ∷ 110 ∷ 111 ∷ 6 ∷ 24 ∷ 0 ∷ 0 ∷ 0 ∷ 2 ∷ 8 ∷ 0 ∷ 0 ∷ 0 ∷ 0 ∷ 3 ∷ 0 ∷ 0 ∷ 0 ∷ 0 ∷ 0 ∷ 0 ∷ 0 ∷ 0 ∷ 0 ∷ 0 ∷ 0 ∷ 0 ∷ 0 ∷ 0 ∷ 0 ∷ 1 ∷ 6 ∷ 16 ∷ 0 ∷ 0 ∷ 0 ∷ 1 ∷ 4 ∷ 0 ∷ 0 ∷ 0 ∷ 2 ∷ 110 ∷ 111 ∷ []) → ⊥
unfolding read_picture reserved_words chars encode_utf8
no_picture_12 = λ h. faulty 25 h.0 (picture_is_read (1 ∷ 0 ∷ 0 ∷ 3 ∷ 1 ∷ 101 ∷ 8 ∷ 0 ∷ 0 ∷ 0 ∷ 0 ∷ 1 ∷ 120 ∷ 8 ∷ 0 ∷ 0 ∷ 0 ∷ 1 ∷ 1 ∷ 121 ∷ 8 ∷ 0 ∷ 0 ∷ 0 ∷ 2 ∷ 0 ∷ 0 ∷ 0 ∷ 3 ∷ 1 ∷ 0 ∷ 0 ∷ 0 ∷ 1 ∷ 4 ∷ 0 ∷ 0 ∷ 0 ∷ 2 ∷ 110 ∷ 111 ∷ 6 ∷ 24 ∷ 0 ∷ 0 ∷ 0 ∷ 2 ∷ 8 ∷ 0 ∷ 0 ∷ 0 ∷ 0 ∷ 3 ∷ 0 ∷ 0 ∷ 0 ∷ 0 ∷ 0 ∷ 0 ∷ 0 ∷ 0 ∷ 0 ∷ 0 ∷ 0 ∷ 0 ∷ 0 ∷ 0 ∷ 0 ∷ 1 ∷ 6 ∷ 16 ∷ 0 ∷ 0 ∷ 0 ∷ 1 ∷ 4 ∷ 0 ∷ 0 ∷ 0 ∷ 2 ∷ 110 ∷ 111 ∷ []) h.0 h.1)

no_picture_13 : IsPicture (0 ∷ 0 ∷ 0 ∷ 1 ∷ 1 ∷ 111 ∷ 8 ∷ 0 ∷ 0 ∷ 0 ∷ 0 ∷ 0 ∷ 0 ∷ 0 ∷ 2 ∷ 4 ∷ 0 ∷ 0 ∷ 0 ∷ 2 ∷ 4 ∷ 108 ∷ 101 ∷ 102 ∷ 116 ∷ 8 ∷ 0 ∷ 0 ∷ 0 ∷ 1 ∷ 4 ∷ 115 ∷ 101 ∷ 108 ∷ 102 ∷ 8 ∷ 0 ∷ 0 ∷ 0 ∷ 0 ∷ 1 ∷ 0 ∷ 0 ∷ 0 ∷ 1 ∷ 8 ∷ 0 ∷ 0 ∷ 0 ∷ []) → ⊥
unfolding read_picture reserved_words chars encode_utf8
no_picture_13 = λ h. faulty 46 h.0 (picture_is_read (0 ∷ 0 ∷ 0 ∷ 1 ∷ 1 ∷ 111 ∷ 8 ∷ 0 ∷ 0 ∷ 0 ∷ 0 ∷ 0 ∷ 0 ∷ 0 ∷ 2 ∷ 4 ∷ 0 ∷ 0 ∷ 0 ∷ 2 ∷ 4 ∷ 108 ∷ 101 ∷ 102 ∷ 116 ∷ 8 ∷ 0 ∷ 0 ∷ 0 ∷ 1 ∷ 4 ∷ 115 ∷ 101 ∷ 108 ∷ 102 ∷ 8 ∷ 0 ∷ 0 ∷ 0 ∷ 0 ∷ 1 ∷ 0 ∷ 0 ∷ 0 ∷ 1 ∷ 8 ∷ 0 ∷ 0 ∷ 0 ∷ []) h.0 h.1)

no_picture_14 : IsPicture (0 ∷ 0 ∷ 0 ∷ 1 ∷ 1 ∷ 111 ∷ 8 ∷ 0 ∷ 0 ∷ 0 ∷ 0 ∷ 0 ∷ 0 ∷ 0 ∷ 2 ∷ 4 ∷ 0 ∷ 0 ∷ 0 ∷ 2 ∷ 4 ∷ 108 ∷ 101 ∷ 102 ∷ 116 ∷ 8 ∷ 0 ∷ 0 ∷ 0 ∷ 1 ∷ 4 ∷ 115 ∷ 101 ∷ 108 ∷ 102 ∷ 8 ∷ 0 ∷ 0 ∷ 0 ∷ 0 ∷ 1 ∷ 0 ∷ 0 ∷ 0 ∷ 1 ∷ 8 ∷ 0 ∷ 0 ∷ 0 ∷ 0 ∷ 0 ∷ []) → ⊥
unfolding read_picture reserved_words chars encode_utf8
no_picture_14 = λ h. faulty 50 h.0 (picture_is_read (0 ∷ 0 ∷ 0 ∷ 1 ∷ 1 ∷ 111 ∷ 8 ∷ 0 ∷ 0 ∷ 0 ∷ 0 ∷ 0 ∷ 0 ∷ 0 ∷ 2 ∷ 4 ∷ 0 ∷ 0 ∷ 0 ∷ 2 ∷ 4 ∷ 108 ∷ 101 ∷ 102 ∷ 116 ∷ 8 ∷ 0 ∷ 0 ∷ 0 ∷ 1 ∷ 4 ∷ 115 ∷ 101 ∷ 108 ∷ 102 ∷ 8 ∷ 0 ∷ 0 ∷ 0 ∷ 0 ∷ 1 ∷ 0 ∷ 0 ∷ 0 ∷ 1 ∷ 8 ∷ 0 ∷ 0 ∷ 0 ∷ 0 ∷ 0 ∷ []) h.0 h.1)

no_picture_15 : IsPicture (1 ∷ 0 ∷ 0 ∷ 1 ∷ 1 ∷ 111 ∷ 8 ∷ 0 ∷ 0 ∷ 0 ∷ 0 ∷ 0 ∷ 0 ∷ 0 ∷ 2 ∷ 4 ∷ 0 ∷ 0 ∷ 0 ∷ 2 ∷ 4 ∷ 108 ∷ 101 ∷ 102 ∷ 116 ∷ 8 ∷ 0 ∷ 0 ∷ 0 ∷ 1 ∷ 4 ∷ 115 ∷ 101 ∷ 108 ∷ 102 ∷ 8 ∷ 0 ∷ 0 ∷ 0 ∷ 0 ∷ 1 ∷ 0 ∷ 0 ∷ 0 ∷ 1 ∷ 8 ∷ 0 ∷ 0 ∷ 0 ∷ 0 ∷ []) → ⊥
unfolding read_picture reserved_words chars encode_utf8
no_picture_15 = λ h. faulty 11 h.0 (picture_is_read (1 ∷ 0 ∷ 0 ∷ 1 ∷ 1 ∷ 111 ∷ 8 ∷ 0 ∷ 0 ∷ 0 ∷ 0 ∷ 0 ∷ 0 ∷ 0 ∷ 2 ∷ 4 ∷ 0 ∷ 0 ∷ 0 ∷ 2 ∷ 4 ∷ 108 ∷ 101 ∷ 102 ∷ 116 ∷ 8 ∷ 0 ∷ 0 ∷ 0 ∷ 1 ∷ 4 ∷ 115 ∷ 101 ∷ 108 ∷ 102 ∷ 8 ∷ 0 ∷ 0 ∷ 0 ∷ 0 ∷ 1 ∷ 0 ∷ 0 ∷ 0 ∷ 1 ∷ 8 ∷ 0 ∷ 0 ∷ 0 ∷ 0 ∷ []) h.0 h.1)

no_picture_16 : IsPicture (0 ∷ 0 ∷ 0 ∷ 3 ∷ 1 ∷ 97 ∷ 8 ∷ 0 ∷ 0 ∷ 0 ∷ 0 ∷ 1 ∷ 98 ∷ 8 ∷ 0 ∷ 0 ∷ 0 ∷ 1 ∷ 1 ∷ 99 ∷ 8 ∷ 0 ∷ 0 ∷ 0 ∷ 2 ∷ 0 ∷ 0 ∷ 0 ∷ 4 ∷ 2 ∷ 0 ∷ 0 ∷ 0 ∷ 2 ∷ 3 ∷ 0 ∷ 0 ∷ 0 ∷ 0 ∷ 0 ∷ 0 ∷ 0 ∷ 0 ∷ 0 ∷ 0 ∷ 0 ∷ 0 ∷ 0 ∷ 0 ∷ 0 ∷ 1 ∷ 3 ∷ 0 ∷ 0 ∷ 0 ∷ 0 ∷ 0 ∷ 0 ∷ 0 ∷ 0 ∷ 0 ∷ 0 ∷ 0 ∷ 0 ∷ 0 ∷ 0 ∷ 0 ∷ 2 ∷ 2 ∷ 0 ∷ 0 ∷ 0 ∷ 2 ∷ 3 ∷ 0 ∷ 0 ∷ 0 ∷ 0 ∷ 0 ∷ 0 ∷ 0 ∷ 0 ∷ 0 ∷ 0 ∷ 0 ∷ 0 ∷ 0 ∷ 0 ∷ 0 ∷ 1 ∷ 3 ∷ 0 ∷ 0 ∷ 0 ∷ 0 ∷ 0 ∷ 0 ∷ 0 ∷ 0 ∷ 0 ∷ 0 ∷ 0 ∷ 0 ∷ 0 ∷ 0 ∷ 0 ∷ 2 ∷ 1 ∷ 0 ∷ 0 ∷ 0 ∷ 1 ∷ 8 ∷ 0 ∷ 0 ∷ 0 ∷ 3 ∷ 2 ∷ 0 ∷ 0 ∷ 0 ∷ 2 ∷ 3 ∷ 0 ∷ 0 ∷ 0 ∷ 0 ∷ 0 ∷ 0 ∷ 0 ∷ 0 ∷ 0 ∷ 0 ∷ 0 ∷ 0 ∷ 0 ∷ 0 ∷ 0 ∷ 1 ∷ 3 ∷ 0 ∷ 0 ∷ 0 ∷ 0 ∷ 0 ∷ 0 ∷ 0 ∷ 0 ∷ 0 ∷ 0 ∷ 0 ∷ 0 ∷ 0 ∷ 0 ∷ 0 ∷ []) → ⊥
unfolding read_picture reserved_words chars encode_utf8
no_picture_16 = λ h. faulty 140 h.0 (picture_is_read (0 ∷ 0 ∷ 0 ∷ 3 ∷ 1 ∷ 97 ∷ 8 ∷ 0 ∷ 0 ∷ 0 ∷ 0 ∷ 1 ∷ 98 ∷ 8 ∷ 0 ∷ 0 ∷ 0 ∷ 1 ∷ 1 ∷ 99 ∷ 8 ∷ 0 ∷ 0 ∷ 0 ∷ 2 ∷ 0 ∷ 0 ∷ 0 ∷ 4 ∷ 2 ∷ 0 ∷ 0 ∷ 0 ∷ 2 ∷ 3 ∷ 0 ∷ 0 ∷ 0 ∷ 0 ∷ 0 ∷ 0 ∷ 0 ∷ 0 ∷ 0 ∷ 0 ∷ 0 ∷ 0 ∷ 0 ∷ 0 ∷ 0 ∷ 1 ∷ 3 ∷ 0 ∷ 0 ∷ 0 ∷ 0 ∷ 0 ∷ 0 ∷ 0 ∷ 0 ∷ 0 ∷ 0 ∷ 0 ∷ 0 ∷ 0 ∷ 0 ∷ 0 ∷ 2 ∷ 2 ∷ 0 ∷ 0 ∷ 0 ∷ 2 ∷ 3 ∷ 0 ∷ 0 ∷ 0 ∷ 0 ∷ 0 ∷ 0 ∷ 0 ∷ 0 ∷ 0 ∷ 0 ∷ 0 ∷ 0 ∷ 0 ∷ 0 ∷ 0 ∷ 1 ∷ 3 ∷ 0 ∷ 0 ∷ 0 ∷ 0 ∷ 0 ∷ 0 ∷ 0 ∷ 0 ∷ 0 ∷ 0 ∷ 0 ∷ 0 ∷ 0 ∷ 0 ∷ 0 ∷ 2 ∷ 1 ∷ 0 ∷ 0 ∷ 0 ∷ 1 ∷ 8 ∷ 0 ∷ 0 ∷ 0 ∷ 3 ∷ 2 ∷ 0 ∷ 0 ∷ 0 ∷ 2 ∷ 3 ∷ 0 ∷ 0 ∷ 0 ∷ 0 ∷ 0 ∷ 0 ∷ 0 ∷ 0 ∷ 0 ∷ 0 ∷ 0 ∷ 0 ∷ 0 ∷ 0 ∷ 0 ∷ 1 ∷ 3 ∷ 0 ∷ 0 ∷ 0 ∷ 0 ∷ 0 ∷ 0 ∷ 0 ∷ 0 ∷ 0 ∷ 0 ∷ 0 ∷ 0 ∷ 0 ∷ 0 ∷ 0 ∷ []) h.0 h.1)

no_picture_17 : IsPicture (0 ∷ 0 ∷ 0 ∷ 3 ∷ 1 ∷ 97 ∷ 8 ∷ 0 ∷ 0 ∷ 0 ∷ 0 ∷ 1 ∷ 98 ∷ 8 ∷ 0 ∷ 0 ∷ 0 ∷ 1 ∷ 1 ∷ 99 ∷ 8 ∷ 0 ∷ 0 ∷ 0 ∷ 2 ∷ 0 ∷ 0 ∷ 0 ∷ 4 ∷ 2 ∷ 0 ∷ 0 ∷ 0 ∷ 2 ∷ 3 ∷ 0 ∷ 0 ∷ 0 ∷ 0 ∷ 0 ∷ 0 ∷ 0 ∷ 0 ∷ 0 ∷ 0 ∷ 0 ∷ 0 ∷ 0 ∷ 0 ∷ 0 ∷ 1 ∷ 3 ∷ 0 ∷ 0 ∷ 0 ∷ 0 ∷ 0 ∷ 0 ∷ 0 ∷ 0 ∷ 0 ∷ 0 ∷ 0 ∷ 0 ∷ 0 ∷ 0 ∷ 0 ∷ 2 ∷ 2 ∷ 0 ∷ 0 ∷ 0 ∷ 2 ∷ 3 ∷ 0 ∷ 0 ∷ 0 ∷ 0 ∷ 0 ∷ 0 ∷ 0 ∷ 0 ∷ 0 ∷ 0 ∷ 0 ∷ 0 ∷ 0 ∷ 0 ∷ 0 ∷ 1 ∷ 3 ∷ 0 ∷ 0 ∷ 0 ∷ 0 ∷ 0 ∷ 0 ∷ 0 ∷ 0 ∷ 0 ∷ 0 ∷ 0 ∷ 0 ∷ 0 ∷ 0 ∷ 0 ∷ 2 ∷ 1 ∷ 0 ∷ 0 ∷ 0 ∷ 1 ∷ 8 ∷ 0 ∷ 0 ∷ 0 ∷ 3 ∷ 2 ∷ 0 ∷ 0 ∷ 0 ∷ 2 ∷ 3 ∷ 0 ∷ 0 ∷ 0 ∷ 0 ∷ 0 ∷ 0 ∷ 0 ∷ 0 ∷ 0 ∷ 0 ∷ 0 ∷ 0 ∷ 0 ∷ 0 ∷ 0 ∷ 1 ∷ 3 ∷ 0 ∷ 0 ∷ 0 ∷ 0 ∷ 0 ∷ 0 ∷ 0 ∷ 0 ∷ 0 ∷ 0 ∷ 0 ∷ 0 ∷ 0 ∷ 0 ∷ 0 ∷ 2 ∷ 0 ∷ []) → ⊥
unfolding read_picture reserved_words chars encode_utf8
no_picture_17 = λ h. faulty 156 h.0 (picture_is_read (0 ∷ 0 ∷ 0 ∷ 3 ∷ 1 ∷ 97 ∷ 8 ∷ 0 ∷ 0 ∷ 0 ∷ 0 ∷ 1 ∷ 98 ∷ 8 ∷ 0 ∷ 0 ∷ 0 ∷ 1 ∷ 1 ∷ 99 ∷ 8 ∷ 0 ∷ 0 ∷ 0 ∷ 2 ∷ 0 ∷ 0 ∷ 0 ∷ 4 ∷ 2 ∷ 0 ∷ 0 ∷ 0 ∷ 2 ∷ 3 ∷ 0 ∷ 0 ∷ 0 ∷ 0 ∷ 0 ∷ 0 ∷ 0 ∷ 0 ∷ 0 ∷ 0 ∷ 0 ∷ 0 ∷ 0 ∷ 0 ∷ 0 ∷ 1 ∷ 3 ∷ 0 ∷ 0 ∷ 0 ∷ 0 ∷ 0 ∷ 0 ∷ 0 ∷ 0 ∷ 0 ∷ 0 ∷ 0 ∷ 0 ∷ 0 ∷ 0 ∷ 0 ∷ 2 ∷ 2 ∷ 0 ∷ 0 ∷ 0 ∷ 2 ∷ 3 ∷ 0 ∷ 0 ∷ 0 ∷ 0 ∷ 0 ∷ 0 ∷ 0 ∷ 0 ∷ 0 ∷ 0 ∷ 0 ∷ 0 ∷ 0 ∷ 0 ∷ 0 ∷ 1 ∷ 3 ∷ 0 ∷ 0 ∷ 0 ∷ 0 ∷ 0 ∷ 0 ∷ 0 ∷ 0 ∷ 0 ∷ 0 ∷ 0 ∷ 0 ∷ 0 ∷ 0 ∷ 0 ∷ 2 ∷ 1 ∷ 0 ∷ 0 ∷ 0 ∷ 1 ∷ 8 ∷ 0 ∷ 0 ∷ 0 ∷ 3 ∷ 2 ∷ 0 ∷ 0 ∷ 0 ∷ 2 ∷ 3 ∷ 0 ∷ 0 ∷ 0 ∷ 0 ∷ 0 ∷ 0 ∷ 0 ∷ 0 ∷ 0 ∷ 0 ∷ 0 ∷ 0 ∷ 0 ∷ 0 ∷ 0 ∷ 1 ∷ 3 ∷ 0 ∷ 0 ∷ 0 ∷ 0 ∷ 0 ∷ 0 ∷ 0 ∷ 0 ∷ 0 ∷ 0 ∷ 0 ∷ 0 ∷ 0 ∷ 0 ∷ 0 ∷ 2 ∷ 0 ∷ []) h.0 h.1)

no_picture_18 : IsPicture (1 ∷ 0 ∷ 0 ∷ 3 ∷ 1 ∷ 97 ∷ 8 ∷ 0 ∷ 0 ∷ 0 ∷ 0 ∷ 1 ∷ 98 ∷ 8 ∷ 0 ∷ 0 ∷ 0 ∷ 1 ∷ 1 ∷ 99 ∷ 8 ∷ 0 ∷ 0 ∷ 0 ∷ 2 ∷ 0 ∷ 0 ∷ 0 ∷ 4 ∷ 2 ∷ 0 ∷ 0 ∷ 0 ∷ 2 ∷ 3 ∷ 0 ∷ 0 ∷ 0 ∷ 0 ∷ 0 ∷ 0 ∷ 0 ∷ 0 ∷ 0 ∷ 0 ∷ 0 ∷ 0 ∷ 0 ∷ 0 ∷ 0 ∷ 1 ∷ 3 ∷ 0 ∷ 0 ∷ 0 ∷ 0 ∷ 0 ∷ 0 ∷ 0 ∷ 0 ∷ 0 ∷ 0 ∷ 0 ∷ 0 ∷ 0 ∷ 0 ∷ 0 ∷ 2 ∷ 2 ∷ 0 ∷ 0 ∷ 0 ∷ 2 ∷ 3 ∷ 0 ∷ 0 ∷ 0 ∷ 0 ∷ 0 ∷ 0 ∷ 0 ∷ 0 ∷ 0 ∷ 0 ∷ 0 ∷ 0 ∷ 0 ∷ 0 ∷ 0 ∷ 1 ∷ 3 ∷ 0 ∷ 0 ∷ 0 ∷ 0 ∷ 0 ∷ 0 ∷ 0 ∷ 0 ∷ 0 ∷ 0 ∷ 0 ∷ 0 ∷ 0 ∷ 0 ∷ 0 ∷ 2 ∷ 1 ∷ 0 ∷ 0 ∷ 0 ∷ 1 ∷ 8 ∷ 0 ∷ 0 ∷ 0 ∷ 3 ∷ 2 ∷ 0 ∷ 0 ∷ 0 ∷ 2 ∷ 3 ∷ 0 ∷ 0 ∷ 0 ∷ 0 ∷ 0 ∷ 0 ∷ 0 ∷ 0 ∷ 0 ∷ 0 ∷ 0 ∷ 0 ∷ 0 ∷ 0 ∷ 0 ∷ 1 ∷ 3 ∷ 0 ∷ 0 ∷ 0 ∷ 0 ∷ 0 ∷ 0 ∷ 0 ∷ 0 ∷ 0 ∷ 0 ∷ 0 ∷ 0 ∷ 0 ∷ 0 ∷ 0 ∷ 2 ∷ []) → ⊥
unfolding read_picture reserved_words chars encode_utf8
no_picture_18 = λ h. faulty 25 h.0 (picture_is_read (1 ∷ 0 ∷ 0 ∷ 3 ∷ 1 ∷ 97 ∷ 8 ∷ 0 ∷ 0 ∷ 0 ∷ 0 ∷ 1 ∷ 98 ∷ 8 ∷ 0 ∷ 0 ∷ 0 ∷ 1 ∷ 1 ∷ 99 ∷ 8 ∷ 0 ∷ 0 ∷ 0 ∷ 2 ∷ 0 ∷ 0 ∷ 0 ∷ 4 ∷ 2 ∷ 0 ∷ 0 ∷ 0 ∷ 2 ∷ 3 ∷ 0 ∷ 0 ∷ 0 ∷ 0 ∷ 0 ∷ 0 ∷ 0 ∷ 0 ∷ 0 ∷ 0 ∷ 0 ∷ 0 ∷ 0 ∷ 0 ∷ 0 ∷ 1 ∷ 3 ∷ 0 ∷ 0 ∷ 0 ∷ 0 ∷ 0 ∷ 0 ∷ 0 ∷ 0 ∷ 0 ∷ 0 ∷ 0 ∷ 0 ∷ 0 ∷ 0 ∷ 0 ∷ 2 ∷ 2 ∷ 0 ∷ 0 ∷ 0 ∷ 2 ∷ 3 ∷ 0 ∷ 0 ∷ 0 ∷ 0 ∷ 0 ∷ 0 ∷ 0 ∷ 0 ∷ 0 ∷ 0 ∷ 0 ∷ 0 ∷ 0 ∷ 0 ∷ 0 ∷ 1 ∷ 3 ∷ 0 ∷ 0 ∷ 0 ∷ 0 ∷ 0 ∷ 0 ∷ 0 ∷ 0 ∷ 0 ∷ 0 ∷ 0 ∷ 0 ∷ 0 ∷ 0 ∷ 0 ∷ 2 ∷ 1 ∷ 0 ∷ 0 ∷ 0 ∷ 1 ∷ 8 ∷ 0 ∷ 0 ∷ 0 ∷ 3 ∷ 2 ∷ 0 ∷ 0 ∷ 0 ∷ 2 ∷ 3 ∷ 0 ∷ 0 ∷ 0 ∷ 0 ∷ 0 ∷ 0 ∷ 0 ∷ 0 ∷ 0 ∷ 0 ∷ 0 ∷ 0 ∷ 0 ∷ 0 ∷ 0 ∷ 1 ∷ 3 ∷ 0 ∷ 0 ∷ 0 ∷ 0 ∷ 0 ∷ 0 ∷ 0 ∷ 0 ∷ 0 ∷ 0 ∷ 0 ∷ 0 ∷ 0 ∷ 0 ∷ 0 ∷ 2 ∷ []) h.0 h.1)

no_picture_19 : IsPicture [] → ⊥
unfolding read_picture reserved_words chars encode_utf8
no_picture_19 = λ h. faulty 0 h.0 (picture_is_read [] h.0 h.1)

-- ---- states that aren't their own pictures

-- nodes in another order than that of first meeting
not_own_1 : IsInPicture (record { names = (((codes "x"), (node 1)) ∷ ((codes "y"), (node 0)) ∷ []); nodes = ((list ((integer (pos 1)) ∷ [])) ∷ (list []) ∷ []) }) → ⊥
unfolding read_picture reserved_words chars encode_utf8 in_four sixteen
not_own_1 = λ h. faulty 7 (record { names = (((codes "x"), (node 1)) ∷ ((codes "y"), (node 0)) ∷ []); nodes = ((list ((integer (pos 1)) ∷ [])) ∷ (list []) ∷ []) }) (read_back (record { names = (((codes "x"), (node 1)) ∷ ((codes "y"), (node 0)) ∷ []); nodes = ((list ((integer (pos 1)) ∷ [])) ∷ (list []) ∷ []) }) h)

-- a node that nothing reaches
not_own_2 : IsInPicture (record { names = (((codes "x"), (node 0)) ∷ []); nodes = ((list []) ∷ (list ((integer (pos 1)) ∷ [])) ∷ []) }) → ⊥
unfolding read_picture reserved_words chars encode_utf8 in_four sixteen
not_own_2 = λ h. faulty 20 (record { names = (((codes "x"), (node 0)) ∷ []); nodes = ((list []) ∷ (list ((integer (pos 1)) ∷ [])) ∷ []) }) (read_back (record { names = (((codes "x"), (node 0)) ∷ []); nodes = ((list []) ∷ (list ((integer (pos 1)) ∷ [])) ∷ []) }) h)

-- a row before its node was met
not_own_3 : IsInPicture (record { names = (((codes "x"), (node 0)) ∷ []); nodes = ((list ((node 2) ∷ (node 1) ∷ [])) ∷ (list []) ∷ (list ((integer (pos 1)) ∷ [])) ∷ []) }) → ⊥
unfolding read_picture reserved_words chars encode_utf8 in_four sixteen
not_own_3 = λ h. faulty 21 (record { names = (((codes "x"), (node 0)) ∷ []); nodes = ((list ((node 2) ∷ (node 1) ∷ [])) ∷ (list []) ∷ (list ((integer (pos 1)) ∷ [])) ∷ []) }) (read_back (record { names = (((codes "x"), (node 0)) ∷ []); nodes = ((list ((node 2) ∷ (node 1) ∷ [])) ∷ (list []) ∷ (list ((integer (pos 1)) ∷ [])) ∷ []) }) h)

-- names that don't rise
not_own_4 : IsInPicture (record { names = (((codes "y"), (integer (pos 1))) ∷ ((codes "x"), (integer (pos 2))) ∷ []); nodes = [] }) → ⊥
unfolding read_picture reserved_words chars encode_utf8 in_four sixteen
not_own_4 = λ h. faulty 24 (record { names = (((codes "y"), (integer (pos 1))) ∷ ((codes "x"), (integer (pos 2))) ∷ []); nodes = [] }) (read_back (record { names = (((codes "y"), (integer (pos 1))) ∷ ((codes "x"), (integer (pos 2))) ∷ []); nodes = [] }) h)

-- a name that is none
not_own_5 : IsInPicture (record { names = (((codes "if"), (integer (pos 1))) ∷ []); nodes = [] }) → ⊥
unfolding read_picture reserved_words chars encode_utf8 in_four sixteen
not_own_5 = λ h. faulty 5 (record { names = (((codes "if"), (integer (pos 1))) ∷ []); nodes = [] }) (read_back (record { names = (((codes "if"), (integer (pos 1))) ∷ []); nodes = [] }) h)

-- one key twice
not_own_6 : IsInPicture (record { names = (((codes "d"), (node 0)) ∷ []); nodes = ((dict (((k.single (k.integer (pos 1))), none) ∷ ((k.single (k.bool true)), none) ∷ [])) ∷ []) }) → ⊥
unfolding read_picture reserved_words chars encode_utf8 in_four sixteen
not_own_6 = λ h. faulty 38 (record { names = (((codes "d"), (node 0)) ∷ []); nodes = ((dict (((k.single (k.integer (pos 1))), none) ∷ ((k.single (k.bool true)), none) ∷ [])) ∷ []) }) (read_back (record { names = (((codes "d"), (node 0)) ∷ []); nodes = ((dict (((k.single (k.integer (pos 1))), none) ∷ ((k.single (k.bool true)), none) ∷ [])) ∷ []) }) h)

-- one attribute twice
not_own_7 : IsInPicture (record { names = (((codes "o"), (node 0)) ∷ []); nodes = ((object (((codes "x"), (integer (pos 1))) ∷ ((codes "x"), (integer (pos 2))) ∷ [])) ∷ []) }) → ⊥
unfolding read_picture reserved_words chars encode_utf8 in_four sixteen
not_own_7 = λ h. faulty 39 (record { names = (((codes "o"), (node 0)) ∷ []); nodes = ((object (((codes "x"), (integer (pos 1))) ∷ ((codes "x"), (integer (pos 2))) ∷ [])) ∷ []) }) (read_back (record { names = (((codes "o"), (node 0)) ∷ []); nodes = ((object (((codes "x"), (integer (pos 1))) ∷ ((codes "x"), (integer (pos 2))) ∷ [])) ∷ []) }) h)

-- ---- profiles and bytes

known_1 : AreKnown (list [] ∷ tuple [] ∷ dict [] ∷ object [] ∷ exception 8 [] ∷ function One [] [] ∷ [])
known_1 = (tt, (tt, (tt, (tt, (tt, (refl, tt))))))

unknown_1 : HasKnownProfile (function Two [] []) → ⊥
unknown_1 = λ h. cc

bytes_1 : AreBytes (0 ∷ 255 ∷ [])
bytes_1 = bytes_of (0 ∷ 255 ∷ []) refl

no_bytes_1 : AreBytes (0 ∷ 256 ∷ []) → ⊥
no_bytes_1 = λ h. absurd (omega (arith, h.1.0))
