-- What a file holds for the rows of tables, and what it doesn't: computed on the definitions. Made by tools/rows/checkout_rows.py.
use Rattle.std.specs.Prelude.{◌≡◌, ℕ, false, List, [], ◌∷◌, codes, Some, None, refl}
use Rattle.std.proofs.Common.{arith}
use Rattle.std.specs.Char.{encode_utf8}
use Rattle.std.specs.Str.{bytes_eq}
use Rattle.std.proofs.lemmas.Slice.Eq.{bytes_eq-Decides}
use Rattle.kishu_bytes.specs.Numbers.{sixteen}
use Rattle.kishu_objects.specs.Bytes.{in_four, state_bytes}
use Rattle.kishu_objects.specs.Picture.{picture}
use Rattle.kishu_history.specs.Stored.{bytes_at, Held, IsWritten, HasLength, Stored, joined}
use Rattle.kishu_history_laws.specs.Choices.{false_no}
use Rattle.kishu_object_rows.proofs.States.{plain, shared, itself, default, keyed, raised, object_round}

apart_bytes : (a b : List ℕ) → bytes_eq a b ≡ false → a ≡ b → ⊥
apart_bytes a b e = false_no (bytes_eq a b) (bytes_eq-Decides a b) e

-- ---- the picture of Z in `plain`

abbrev plain_file : List ℕ
plain_file = 9 ∷ 8 ∷ 7 ∷ 0 ∷ 0 ∷ 0 ∷ 1 ∷ 1 ∷ 90 ∷ 3 ∷ 0 ∷ 0 ∷ 0 ∷ 0 ∷ 0 ∷ 0 ∷ 0 ∷ 0 ∷ 0 ∷ 0 ∷ 0 ∷ 0 ∷ 0 ∷ 0 ∷ 0 ∷ 1 ∷ 0 ∷ 0 ∷ 0 ∷ 0 ∷ 6 ∷ []

there_1 : Held plain_file (record { group = ((codes "Z") ∷ []); version = 1; place = 3; len = 27 }) (picture plain ((codes "Z") ∷ []))
unfolding in_four sixteen encode_utf8
there_1 = record { bytes = refl; len = refl; fits = ((omega arith, (record { sfits = omega arith }, tt)), (omega arith, tt)) }

there_2 : IsWritten plain_file (record { group = ((codes "Z") ∷ []); version = 1; place = 3; len = 27 }) (picture plain ((codes "Z") ∷ []))
unfolding in_four sixteen encode_utf8
there_2 = record { bytes = refl; len = refl }

long_1 : HasLength (record { group = ((codes "Z") ∷ []); version = 1; place = 77; len = 27 }) (picture plain ((codes "Z") ∷ []))
unfolding in_four sixteen encode_utf8
long_1 = record { len = refl; fits = ((omega arith, (record { sfits = omega arith }, tt)), (omega arith, tt)) }

told_1 : Stored (Some plain_file) (record { group = ((codes "Z") ∷ []); version = 1; place = 3; len = 27 }) (picture plain ((codes "Z") ∷ []))
unfolding in_four sixteen encode_utf8
told_1 = record { bytes = refl; len = refl; fits = ((omega arith, (record { sfits = omega arith }, tt)), (omega arith, tt)) }

told_2 : Stored None (record { group = ((codes "Z") ∷ []); version = 1; place = 99; len = 27 }) (picture plain ((codes "Z") ∷ []))
unfolding in_four sixteen encode_utf8
told_2 = record { len = refl; fits = ((omega arith, (record { sfits = omega arith }, tt)), (omega arith, tt)) }

not_there_1 : Held plain_file (record { group = ((codes "Z") ∷ []); version = 1; place = 2; len = 27 }) (picture plain ((codes "Z") ∷ [])) → ⊥
unfolding in_four sixteen encode_utf8
not_there_1 = λ h. apart_bytes (bytes_at plain_file (record { group = ((codes "Z") ∷ []); version = 1; place = 2; len = 27 })) (state_bytes (picture plain ((codes "Z") ∷ []))) refl h.bytes

not_there_2 : Held plain_file (record { group = ((codes "Z") ∷ []); version = 1; place = 4; len = 27 }) (picture plain ((codes "Z") ∷ [])) → ⊥
unfolding in_four sixteen encode_utf8
not_there_2 = λ h. apart_bytes (bytes_at plain_file (record { group = ((codes "Z") ∷ []); version = 1; place = 4; len = 27 })) (state_bytes (picture plain ((codes "Z") ∷ []))) refl h.bytes

not_there_3 : IsWritten plain_file (record { group = ((codes "Z") ∷ []); version = 1; place = 3; len = 28 }) (picture plain ((codes "Z") ∷ [])) → ⊥
unfolding in_four sixteen encode_utf8
not_there_3 = λ h. absurd (omega (arith, h.len))

not_long_1 : HasLength (record { group = ((codes "Z") ∷ []); version = 1; place = 3; len = 26 }) (picture plain ((codes "Z") ∷ [])) → ⊥
unfolding in_four sixteen encode_utf8
not_long_1 = λ h. absurd (omega (arith, h.len))

-- ---- the picture of a, b in `shared`

abbrev shared_file : List ℕ
shared_file = 9 ∷ 8 ∷ 7 ∷ 0 ∷ 0 ∷ 0 ∷ 2 ∷ 1 ∷ 97 ∷ 8 ∷ 0 ∷ 0 ∷ 0 ∷ 0 ∷ 1 ∷ 98 ∷ 8 ∷ 0 ∷ 0 ∷ 0 ∷ 0 ∷ 0 ∷ 0 ∷ 0 ∷ 1 ∷ 1 ∷ 0 ∷ 0 ∷ 0 ∷ 1 ∷ 3 ∷ 0 ∷ 0 ∷ 0 ∷ 0 ∷ 0 ∷ 0 ∷ 0 ∷ 0 ∷ 0 ∷ 0 ∷ 0 ∷ 0 ∷ 0 ∷ 0 ∷ 0 ∷ 1 ∷ 6 ∷ []

there_3 : Held shared_file (record { group = ((codes "a") ∷ (codes "b") ∷ []); version = 1; place = 3; len = 44 }) (picture shared ((codes "a") ∷ (codes "b") ∷ []))
unfolding in_four sixteen encode_utf8
there_3 = record { bytes = refl; len = refl; fits = ((omega arith, (omega arith, (omega arith, tt))), (omega arith, ((omega arith, (record { sfits = omega arith }, tt)), tt))) }

there_4 : IsWritten shared_file (record { group = ((codes "a") ∷ (codes "b") ∷ []); version = 1; place = 3; len = 44 }) (picture shared ((codes "a") ∷ (codes "b") ∷ []))
unfolding in_four sixteen encode_utf8
there_4 = record { bytes = refl; len = refl }

long_2 : HasLength (record { group = ((codes "a") ∷ (codes "b") ∷ []); version = 1; place = 77; len = 44 }) (picture shared ((codes "a") ∷ (codes "b") ∷ []))
unfolding in_four sixteen encode_utf8
long_2 = record { len = refl; fits = ((omega arith, (omega arith, (omega arith, tt))), (omega arith, ((omega arith, (record { sfits = omega arith }, tt)), tt))) }

told_3 : Stored (Some shared_file) (record { group = ((codes "a") ∷ (codes "b") ∷ []); version = 1; place = 3; len = 44 }) (picture shared ((codes "a") ∷ (codes "b") ∷ []))
unfolding in_four sixteen encode_utf8
told_3 = record { bytes = refl; len = refl; fits = ((omega arith, (omega arith, (omega arith, tt))), (omega arith, ((omega arith, (record { sfits = omega arith }, tt)), tt))) }

told_4 : Stored None (record { group = ((codes "a") ∷ (codes "b") ∷ []); version = 1; place = 99; len = 44 }) (picture shared ((codes "a") ∷ (codes "b") ∷ []))
unfolding in_four sixteen encode_utf8
told_4 = record { len = refl; fits = ((omega arith, (omega arith, (omega arith, tt))), (omega arith, ((omega arith, (record { sfits = omega arith }, tt)), tt))) }

not_there_4 : Held shared_file (record { group = ((codes "a") ∷ (codes "b") ∷ []); version = 1; place = 2; len = 44 }) (picture shared ((codes "a") ∷ (codes "b") ∷ [])) → ⊥
unfolding in_four sixteen encode_utf8
not_there_4 = λ h. apart_bytes (bytes_at shared_file (record { group = ((codes "a") ∷ (codes "b") ∷ []); version = 1; place = 2; len = 44 })) (state_bytes (picture shared ((codes "a") ∷ (codes "b") ∷ []))) refl h.bytes

not_there_5 : Held shared_file (record { group = ((codes "a") ∷ (codes "b") ∷ []); version = 1; place = 4; len = 44 }) (picture shared ((codes "a") ∷ (codes "b") ∷ [])) → ⊥
unfolding in_four sixteen encode_utf8
not_there_5 = λ h. apart_bytes (bytes_at shared_file (record { group = ((codes "a") ∷ (codes "b") ∷ []); version = 1; place = 4; len = 44 })) (state_bytes (picture shared ((codes "a") ∷ (codes "b") ∷ []))) refl h.bytes

not_there_6 : IsWritten shared_file (record { group = ((codes "a") ∷ (codes "b") ∷ []); version = 1; place = 3; len = 45 }) (picture shared ((codes "a") ∷ (codes "b") ∷ [])) → ⊥
unfolding in_four sixteen encode_utf8
not_there_6 = λ h. absurd (omega (arith, h.len))

not_long_2 : HasLength (record { group = ((codes "a") ∷ (codes "b") ∷ []); version = 1; place = 3; len = 43 }) (picture shared ((codes "a") ∷ (codes "b") ∷ [])) → ⊥
unfolding in_four sixteen encode_utf8
not_long_2 = λ h. absurd (omega (arith, h.len))

-- ---- the picture of a in `itself`

abbrev itself_file : List ℕ
itself_file = 9 ∷ 8 ∷ 7 ∷ 0 ∷ 0 ∷ 0 ∷ 1 ∷ 1 ∷ 97 ∷ 8 ∷ 0 ∷ 0 ∷ 0 ∷ 0 ∷ 0 ∷ 0 ∷ 0 ∷ 1 ∷ 1 ∷ 0 ∷ 0 ∷ 0 ∷ 1 ∷ 8 ∷ 0 ∷ 0 ∷ 0 ∷ 0 ∷ 6 ∷ []

there_5 : Held itself_file (record { group = ((codes "a") ∷ []); version = 1; place = 3; len = 25 }) (picture itself ((codes "a") ∷ []))
unfolding in_four sixteen encode_utf8
there_5 = record { bytes = refl; len = refl; fits = ((omega arith, (omega arith, tt)), (omega arith, ((omega arith, (omega arith, tt)), tt))) }

there_6 : IsWritten itself_file (record { group = ((codes "a") ∷ []); version = 1; place = 3; len = 25 }) (picture itself ((codes "a") ∷ []))
unfolding in_four sixteen encode_utf8
there_6 = record { bytes = refl; len = refl }

long_3 : HasLength (record { group = ((codes "a") ∷ []); version = 1; place = 77; len = 25 }) (picture itself ((codes "a") ∷ []))
unfolding in_four sixteen encode_utf8
long_3 = record { len = refl; fits = ((omega arith, (omega arith, tt)), (omega arith, ((omega arith, (omega arith, tt)), tt))) }

told_5 : Stored (Some itself_file) (record { group = ((codes "a") ∷ []); version = 1; place = 3; len = 25 }) (picture itself ((codes "a") ∷ []))
unfolding in_four sixteen encode_utf8
told_5 = record { bytes = refl; len = refl; fits = ((omega arith, (omega arith, tt)), (omega arith, ((omega arith, (omega arith, tt)), tt))) }

told_6 : Stored None (record { group = ((codes "a") ∷ []); version = 1; place = 99; len = 25 }) (picture itself ((codes "a") ∷ []))
unfolding in_four sixteen encode_utf8
told_6 = record { len = refl; fits = ((omega arith, (omega arith, tt)), (omega arith, ((omega arith, (omega arith, tt)), tt))) }

not_there_7 : Held itself_file (record { group = ((codes "a") ∷ []); version = 1; place = 2; len = 25 }) (picture itself ((codes "a") ∷ [])) → ⊥
unfolding in_four sixteen encode_utf8
not_there_7 = λ h. apart_bytes (bytes_at itself_file (record { group = ((codes "a") ∷ []); version = 1; place = 2; len = 25 })) (state_bytes (picture itself ((codes "a") ∷ []))) refl h.bytes

not_there_8 : Held itself_file (record { group = ((codes "a") ∷ []); version = 1; place = 4; len = 25 }) (picture itself ((codes "a") ∷ [])) → ⊥
unfolding in_four sixteen encode_utf8
not_there_8 = λ h. apart_bytes (bytes_at itself_file (record { group = ((codes "a") ∷ []); version = 1; place = 4; len = 25 })) (state_bytes (picture itself ((codes "a") ∷ []))) refl h.bytes

not_there_9 : IsWritten itself_file (record { group = ((codes "a") ∷ []); version = 1; place = 3; len = 26 }) (picture itself ((codes "a") ∷ [])) → ⊥
unfolding in_four sixteen encode_utf8
not_there_9 = λ h. absurd (omega (arith, h.len))

not_long_3 : HasLength (record { group = ((codes "a") ∷ []); version = 1; place = 3; len = 24 }) (picture itself ((codes "a") ∷ [])) → ⊥
unfolding in_four sixteen encode_utf8
not_long_3 = λ h. absurd (omega (arith, h.len))

-- ---- the picture of d, e in `keyed`

abbrev keyed_file : List ℕ
keyed_file = 9 ∷ 8 ∷ 7 ∷ 0 ∷ 0 ∷ 0 ∷ 2 ∷ 1 ∷ 100 ∷ 8 ∷ 0 ∷ 0 ∷ 0 ∷ 0 ∷ 1 ∷ 101 ∷ 8 ∷ 0 ∷ 0 ∷ 0 ∷ 1 ∷ 0 ∷ 0 ∷ 0 ∷ 3 ∷ 3 ∷ 0 ∷ 0 ∷ 0 ∷ 3 ∷ 9 ∷ 0 ∷ 0 ∷ 0 ∷ 2 ∷ 3 ∷ 0 ∷ 0 ∷ 0 ∷ 0 ∷ 0 ∷ 0 ∷ 0 ∷ 0 ∷ 0 ∷ 0 ∷ 0 ∷ 0 ∷ 0 ∷ 0 ∷ 0 ∷ 1 ∷ 4 ∷ 0 ∷ 0 ∷ 0 ∷ 2 ∷ 195 ∷ 169 ∷ 8 ∷ 0 ∷ 0 ∷ 0 ∷ 1 ∷ 0 ∷ 8 ∷ 0 ∷ 0 ∷ 0 ∷ 2 ∷ 3 ∷ 255 ∷ 255 ∷ 255 ∷ 255 ∷ 255 ∷ 255 ∷ 255 ∷ 255 ∷ 255 ∷ 255 ∷ 255 ∷ 255 ∷ 255 ∷ 255 ∷ 255 ∷ 255 ∷ 8 ∷ 0 ∷ 0 ∷ 0 ∷ 1 ∷ 1 ∷ 0 ∷ 0 ∷ 0 ∷ 0 ∷ 2 ∷ 0 ∷ 0 ∷ 0 ∷ 0 ∷ 6 ∷ []

there_7 : Held keyed_file (record { group = ((codes "d") ∷ (codes "e") ∷ []); version = 1; place = 3; len = 99 }) (picture keyed ((codes "d") ∷ (codes "e") ∷ []))
unfolding in_four sixteen encode_utf8
there_7 = record { bytes = refl; len = refl; fits = ((omega arith, (omega arith, (omega arith, tt))), (omega arith, ((omega arith, (((omega arith, (record { sfits = omega arith }, ((refl, omega arith), tt))), omega arith), ((tt, omega arith), ((record { sfits = omega arith }, omega arith), tt)))), ((omega arith, tt), ((omega arith, tt), tt))))) }

there_8 : IsWritten keyed_file (record { group = ((codes "d") ∷ (codes "e") ∷ []); version = 1; place = 3; len = 99 }) (picture keyed ((codes "d") ∷ (codes "e") ∷ []))
unfolding in_four sixteen encode_utf8
there_8 = record { bytes = refl; len = refl }

long_4 : HasLength (record { group = ((codes "d") ∷ (codes "e") ∷ []); version = 1; place = 77; len = 99 }) (picture keyed ((codes "d") ∷ (codes "e") ∷ []))
unfolding in_four sixteen encode_utf8
long_4 = record { len = refl; fits = ((omega arith, (omega arith, (omega arith, tt))), (omega arith, ((omega arith, (((omega arith, (record { sfits = omega arith }, ((refl, omega arith), tt))), omega arith), ((tt, omega arith), ((record { sfits = omega arith }, omega arith), tt)))), ((omega arith, tt), ((omega arith, tt), tt))))) }

told_7 : Stored (Some keyed_file) (record { group = ((codes "d") ∷ (codes "e") ∷ []); version = 1; place = 3; len = 99 }) (picture keyed ((codes "d") ∷ (codes "e") ∷ []))
unfolding in_four sixteen encode_utf8
told_7 = record { bytes = refl; len = refl; fits = ((omega arith, (omega arith, (omega arith, tt))), (omega arith, ((omega arith, (((omega arith, (record { sfits = omega arith }, ((refl, omega arith), tt))), omega arith), ((tt, omega arith), ((record { sfits = omega arith }, omega arith), tt)))), ((omega arith, tt), ((omega arith, tt), tt))))) }

told_8 : Stored None (record { group = ((codes "d") ∷ (codes "e") ∷ []); version = 1; place = 99; len = 99 }) (picture keyed ((codes "d") ∷ (codes "e") ∷ []))
unfolding in_four sixteen encode_utf8
told_8 = record { len = refl; fits = ((omega arith, (omega arith, (omega arith, tt))), (omega arith, ((omega arith, (((omega arith, (record { sfits = omega arith }, ((refl, omega arith), tt))), omega arith), ((tt, omega arith), ((record { sfits = omega arith }, omega arith), tt)))), ((omega arith, tt), ((omega arith, tt), tt))))) }

not_there_10 : Held keyed_file (record { group = ((codes "d") ∷ (codes "e") ∷ []); version = 1; place = 2; len = 99 }) (picture keyed ((codes "d") ∷ (codes "e") ∷ [])) → ⊥
unfolding in_four sixteen encode_utf8
not_there_10 = λ h. apart_bytes (bytes_at keyed_file (record { group = ((codes "d") ∷ (codes "e") ∷ []); version = 1; place = 2; len = 99 })) (state_bytes (picture keyed ((codes "d") ∷ (codes "e") ∷ []))) refl h.bytes

not_there_11 : Held keyed_file (record { group = ((codes "d") ∷ (codes "e") ∷ []); version = 1; place = 4; len = 99 }) (picture keyed ((codes "d") ∷ (codes "e") ∷ [])) → ⊥
unfolding in_four sixteen encode_utf8
not_there_11 = λ h. apart_bytes (bytes_at keyed_file (record { group = ((codes "d") ∷ (codes "e") ∷ []); version = 1; place = 4; len = 99 })) (state_bytes (picture keyed ((codes "d") ∷ (codes "e") ∷ []))) refl h.bytes

not_there_12 : IsWritten keyed_file (record { group = ((codes "d") ∷ (codes "e") ∷ []); version = 1; place = 3; len = 100 }) (picture keyed ((codes "d") ∷ (codes "e") ∷ [])) → ⊥
unfolding in_four sixteen encode_utf8
not_there_12 = λ h. absurd (omega (arith, h.len))

not_long_4 : HasLength (record { group = ((codes "d") ∷ (codes "e") ∷ []); version = 1; place = 3; len = 98 }) (picture keyed ((codes "d") ∷ (codes "e") ∷ [])) → ⊥
unfolding in_four sixteen encode_utf8
not_long_4 = λ h. absurd (omega (arith, h.len))

-- ---- the picture of e, x in `raised`

abbrev raised_file : List ℕ
raised_file = 9 ∷ 8 ∷ 7 ∷ 0 ∷ 0 ∷ 0 ∷ 2 ∷ 1 ∷ 101 ∷ 8 ∷ 0 ∷ 0 ∷ 0 ∷ 0 ∷ 1 ∷ 120 ∷ 8 ∷ 0 ∷ 0 ∷ 0 ∷ 1 ∷ 0 ∷ 0 ∷ 0 ∷ 2 ∷ 1 ∷ 0 ∷ 0 ∷ 0 ∷ 1 ∷ 4 ∷ 0 ∷ 0 ∷ 0 ∷ 2 ∷ 110 ∷ 111 ∷ 6 ∷ 24 ∷ 0 ∷ 0 ∷ 0 ∷ 2 ∷ 8 ∷ 0 ∷ 0 ∷ 0 ∷ 0 ∷ 3 ∷ 0 ∷ 0 ∷ 0 ∷ 0 ∷ 0 ∷ 0 ∷ 0 ∷ 0 ∷ 0 ∷ 0 ∷ 0 ∷ 0 ∷ 0 ∷ 0 ∷ 0 ∷ 1 ∷ 6 ∷ []

there_9 : Held raised_file (record { group = ((codes "e") ∷ (codes "x") ∷ []); version = 1; place = 3; len = 62 }) (picture raised ((codes "e") ∷ (codes "x") ∷ []))
unfolding in_four sixteen encode_utf8
there_9 = record { bytes = refl; len = refl; fits = ((omega arith, (omega arith, (omega arith, tt))), (omega arith, ((omega arith, ((refl, omega arith), tt)), ((omega arith, (omega arith, (record { sfits = omega arith }, tt))), tt)))) }

there_10 : IsWritten raised_file (record { group = ((codes "e") ∷ (codes "x") ∷ []); version = 1; place = 3; len = 62 }) (picture raised ((codes "e") ∷ (codes "x") ∷ []))
unfolding in_four sixteen encode_utf8
there_10 = record { bytes = refl; len = refl }

long_5 : HasLength (record { group = ((codes "e") ∷ (codes "x") ∷ []); version = 1; place = 77; len = 62 }) (picture raised ((codes "e") ∷ (codes "x") ∷ []))
unfolding in_four sixteen encode_utf8
long_5 = record { len = refl; fits = ((omega arith, (omega arith, (omega arith, tt))), (omega arith, ((omega arith, ((refl, omega arith), tt)), ((omega arith, (omega arith, (record { sfits = omega arith }, tt))), tt)))) }

told_9 : Stored (Some raised_file) (record { group = ((codes "e") ∷ (codes "x") ∷ []); version = 1; place = 3; len = 62 }) (picture raised ((codes "e") ∷ (codes "x") ∷ []))
unfolding in_four sixteen encode_utf8
told_9 = record { bytes = refl; len = refl; fits = ((omega arith, (omega arith, (omega arith, tt))), (omega arith, ((omega arith, ((refl, omega arith), tt)), ((omega arith, (omega arith, (record { sfits = omega arith }, tt))), tt)))) }

told_10 : Stored None (record { group = ((codes "e") ∷ (codes "x") ∷ []); version = 1; place = 99; len = 62 }) (picture raised ((codes "e") ∷ (codes "x") ∷ []))
unfolding in_four sixteen encode_utf8
told_10 = record { len = refl; fits = ((omega arith, (omega arith, (omega arith, tt))), (omega arith, ((omega arith, ((refl, omega arith), tt)), ((omega arith, (omega arith, (record { sfits = omega arith }, tt))), tt)))) }

not_there_13 : Held raised_file (record { group = ((codes "e") ∷ (codes "x") ∷ []); version = 1; place = 2; len = 62 }) (picture raised ((codes "e") ∷ (codes "x") ∷ [])) → ⊥
unfolding in_four sixteen encode_utf8
not_there_13 = λ h. apart_bytes (bytes_at raised_file (record { group = ((codes "e") ∷ (codes "x") ∷ []); version = 1; place = 2; len = 62 })) (state_bytes (picture raised ((codes "e") ∷ (codes "x") ∷ []))) refl h.bytes

not_there_14 : Held raised_file (record { group = ((codes "e") ∷ (codes "x") ∷ []); version = 1; place = 4; len = 62 }) (picture raised ((codes "e") ∷ (codes "x") ∷ [])) → ⊥
unfolding in_four sixteen encode_utf8
not_there_14 = λ h. apart_bytes (bytes_at raised_file (record { group = ((codes "e") ∷ (codes "x") ∷ []); version = 1; place = 4; len = 62 })) (state_bytes (picture raised ((codes "e") ∷ (codes "x") ∷ []))) refl h.bytes

not_there_15 : IsWritten raised_file (record { group = ((codes "e") ∷ (codes "x") ∷ []); version = 1; place = 3; len = 63 }) (picture raised ((codes "e") ∷ (codes "x") ∷ [])) → ⊥
unfolding in_four sixteen encode_utf8
not_there_15 = λ h. absurd (omega (arith, h.len))

not_long_5 : HasLength (record { group = ((codes "e") ∷ (codes "x") ∷ []); version = 1; place = 3; len = 61 }) (picture raised ((codes "e") ∷ (codes "x") ∷ [])) → ⊥
unfolding in_four sixteen encode_utf8
not_long_5 = λ h. absurd (omega (arith, h.len))

-- ---- the picture of o in `object_round`

abbrev object_round_file : List ℕ
object_round_file = 9 ∷ 8 ∷ 7 ∷ 0 ∷ 0 ∷ 0 ∷ 1 ∷ 1 ∷ 111 ∷ 8 ∷ 0 ∷ 0 ∷ 0 ∷ 0 ∷ 0 ∷ 0 ∷ 0 ∷ 2 ∷ 4 ∷ 0 ∷ 0 ∷ 0 ∷ 2 ∷ 4 ∷ 108 ∷ 101 ∷ 102 ∷ 116 ∷ 8 ∷ 0 ∷ 0 ∷ 0 ∷ 1 ∷ 4 ∷ 115 ∷ 101 ∷ 108 ∷ 102 ∷ 8 ∷ 0 ∷ 0 ∷ 0 ∷ 0 ∷ 1 ∷ 0 ∷ 0 ∷ 0 ∷ 1 ∷ 8 ∷ 0 ∷ 0 ∷ 0 ∷ 0 ∷ 6 ∷ []

there_11 : Held object_round_file (record { group = ((codes "o") ∷ []); version = 1; place = 3; len = 50 }) (picture object_round ((codes "o") ∷ []))
unfolding in_four sixteen encode_utf8
there_11 = record { bytes = refl; len = refl; fits = ((omega arith, (omega arith, tt)), (omega arith, ((omega arith, (omega arith, (omega arith, tt))), ((omega arith, (omega arith, tt)), tt)))) }

there_12 : IsWritten object_round_file (record { group = ((codes "o") ∷ []); version = 1; place = 3; len = 50 }) (picture object_round ((codes "o") ∷ []))
unfolding in_four sixteen encode_utf8
there_12 = record { bytes = refl; len = refl }

long_6 : HasLength (record { group = ((codes "o") ∷ []); version = 1; place = 77; len = 50 }) (picture object_round ((codes "o") ∷ []))
unfolding in_four sixteen encode_utf8
long_6 = record { len = refl; fits = ((omega arith, (omega arith, tt)), (omega arith, ((omega arith, (omega arith, (omega arith, tt))), ((omega arith, (omega arith, tt)), tt)))) }

told_11 : Stored (Some object_round_file) (record { group = ((codes "o") ∷ []); version = 1; place = 3; len = 50 }) (picture object_round ((codes "o") ∷ []))
unfolding in_four sixteen encode_utf8
told_11 = record { bytes = refl; len = refl; fits = ((omega arith, (omega arith, tt)), (omega arith, ((omega arith, (omega arith, (omega arith, tt))), ((omega arith, (omega arith, tt)), tt)))) }

told_12 : Stored None (record { group = ((codes "o") ∷ []); version = 1; place = 99; len = 50 }) (picture object_round ((codes "o") ∷ []))
unfolding in_four sixteen encode_utf8
told_12 = record { len = refl; fits = ((omega arith, (omega arith, tt)), (omega arith, ((omega arith, (omega arith, (omega arith, tt))), ((omega arith, (omega arith, tt)), tt)))) }

not_there_16 : Held object_round_file (record { group = ((codes "o") ∷ []); version = 1; place = 2; len = 50 }) (picture object_round ((codes "o") ∷ [])) → ⊥
unfolding in_four sixteen encode_utf8
not_there_16 = λ h. apart_bytes (bytes_at object_round_file (record { group = ((codes "o") ∷ []); version = 1; place = 2; len = 50 })) (state_bytes (picture object_round ((codes "o") ∷ []))) refl h.bytes

not_there_17 : Held object_round_file (record { group = ((codes "o") ∷ []); version = 1; place = 4; len = 50 }) (picture object_round ((codes "o") ∷ [])) → ⊥
unfolding in_four sixteen encode_utf8
not_there_17 = λ h. apart_bytes (bytes_at object_round_file (record { group = ((codes "o") ∷ []); version = 1; place = 4; len = 50 })) (state_bytes (picture object_round ((codes "o") ∷ []))) refl h.bytes

not_there_18 : IsWritten object_round_file (record { group = ((codes "o") ∷ []); version = 1; place = 3; len = 51 }) (picture object_round ((codes "o") ∷ [])) → ⊥
unfolding in_four sixteen encode_utf8
not_there_18 = λ h. absurd (omega (arith, h.len))

not_long_6 : HasLength (record { group = ((codes "o") ∷ []); version = 1; place = 3; len = 49 }) (picture object_round ((codes "o") ∷ [])) → ⊥
unfolding in_four sixteen encode_utf8
not_long_6 = λ h. absurd (omega (arith, h.len))

-- ---- the picture of g, p in `default`

abbrev default_file : List ℕ
default_file = 9 ∷ 8 ∷ 7 ∷ 0 ∷ 0 ∷ 0 ∷ 2 ∷ 1 ∷ 103 ∷ 8 ∷ 0 ∷ 0 ∷ 0 ∷ 0 ∷ 1 ∷ 112 ∷ 8 ∷ 0 ∷ 0 ∷ 0 ∷ 1 ∷ 0 ∷ 0 ∷ 0 ∷ 2 ∷ 5 ∷ 1 ∷ 0 ∷ 0 ∷ 0 ∷ 28 ∷ 100 ∷ 101 ∷ 102 ∷ 32 ∷ 103 ∷ 40 ∷ 120 ∷ 44 ∷ 32 ∷ 97 ∷ 99 ∷ 99 ∷ 61 ∷ 91 ∷ 93 ∷ 41 ∷ 58 ∷ 32 ∷ 114 ∷ 101 ∷ 116 ∷ 117 ∷ 114 ∷ 110 ∷ 32 ∷ 97 ∷ 99 ∷ 99 ∷ 0 ∷ 0 ∷ 0 ∷ 1 ∷ 8 ∷ 0 ∷ 0 ∷ 0 ∷ 1 ∷ 1 ∷ 0 ∷ 0 ∷ 0 ∷ 1 ∷ 3 ∷ 0 ∷ 0 ∷ 0 ∷ 0 ∷ 0 ∷ 0 ∷ 0 ∷ 0 ∷ 0 ∷ 0 ∷ 0 ∷ 0 ∷ 0 ∷ 0 ∷ 0 ∷ 7 ∷ 6 ∷ []

there_13 : Held default_file (record { group = ((codes "g") ∷ (codes "p") ∷ []); version = 1; place = 3; len = 87 }) (picture default ((codes "g") ∷ (codes "p") ∷ []))
unfolding in_four sixteen encode_utf8
there_13 = record { bytes = refl; len = refl; fits = ((omega arith, (omega arith, (omega arith, tt))), (omega arith, ((omega arith, (omega arith, (omega arith, tt))), ((omega arith, (record { sfits = omega arith }, tt)), tt)))) }

there_14 : IsWritten default_file (record { group = ((codes "g") ∷ (codes "p") ∷ []); version = 1; place = 3; len = 87 }) (picture default ((codes "g") ∷ (codes "p") ∷ []))
unfolding in_four sixteen encode_utf8
there_14 = record { bytes = refl; len = refl }

long_7 : HasLength (record { group = ((codes "g") ∷ (codes "p") ∷ []); version = 1; place = 77; len = 87 }) (picture default ((codes "g") ∷ (codes "p") ∷ []))
unfolding in_four sixteen encode_utf8
long_7 = record { len = refl; fits = ((omega arith, (omega arith, (omega arith, tt))), (omega arith, ((omega arith, (omega arith, (omega arith, tt))), ((omega arith, (record { sfits = omega arith }, tt)), tt)))) }

told_13 : Stored (Some default_file) (record { group = ((codes "g") ∷ (codes "p") ∷ []); version = 1; place = 3; len = 87 }) (picture default ((codes "g") ∷ (codes "p") ∷ []))
unfolding in_four sixteen encode_utf8
told_13 = record { bytes = refl; len = refl; fits = ((omega arith, (omega arith, (omega arith, tt))), (omega arith, ((omega arith, (omega arith, (omega arith, tt))), ((omega arith, (record { sfits = omega arith }, tt)), tt)))) }

told_14 : Stored None (record { group = ((codes "g") ∷ (codes "p") ∷ []); version = 1; place = 99; len = 87 }) (picture default ((codes "g") ∷ (codes "p") ∷ []))
unfolding in_four sixteen encode_utf8
told_14 = record { len = refl; fits = ((omega arith, (omega arith, (omega arith, tt))), (omega arith, ((omega arith, (omega arith, (omega arith, tt))), ((omega arith, (record { sfits = omega arith }, tt)), tt)))) }

not_there_19 : Held default_file (record { group = ((codes "g") ∷ (codes "p") ∷ []); version = 1; place = 2; len = 87 }) (picture default ((codes "g") ∷ (codes "p") ∷ [])) → ⊥
unfolding in_four sixteen encode_utf8
not_there_19 = λ h. apart_bytes (bytes_at default_file (record { group = ((codes "g") ∷ (codes "p") ∷ []); version = 1; place = 2; len = 87 })) (state_bytes (picture default ((codes "g") ∷ (codes "p") ∷ []))) refl h.bytes

not_there_20 : Held default_file (record { group = ((codes "g") ∷ (codes "p") ∷ []); version = 1; place = 4; len = 87 }) (picture default ((codes "g") ∷ (codes "p") ∷ [])) → ⊥
unfolding in_four sixteen encode_utf8
not_there_20 = λ h. apart_bytes (bytes_at default_file (record { group = ((codes "g") ∷ (codes "p") ∷ []); version = 1; place = 4; len = 87 })) (state_bytes (picture default ((codes "g") ∷ (codes "p") ∷ []))) refl h.bytes

not_there_21 : IsWritten default_file (record { group = ((codes "g") ∷ (codes "p") ∷ []); version = 1; place = 3; len = 88 }) (picture default ((codes "g") ∷ (codes "p") ∷ [])) → ⊥
unfolding in_four sixteen encode_utf8
not_there_21 = λ h. absurd (omega (arith, h.len))

not_long_7 : HasLength (record { group = ((codes "g") ∷ (codes "p") ∷ []); version = 1; place = 3; len = 86 }) (picture default ((codes "g") ∷ (codes "p") ∷ [])) → ⊥
unfolding in_four sixteen encode_utf8
not_long_7 = λ h. absurd (omega (arith, h.len))

-- ---- pictures of a record, one behind another

joined_1 : joined [] ∷ joined ((1 ∷ 2 ∷ []) ∷ [] ∷ (3 ∷ []) ∷ []) ∷ joined ([] ∷ []) ∷ []
    ≡ [] ∷ (1 ∷ 2 ∷ 3 ∷ []) ∷ [] ∷ []
joined_1 = refl
