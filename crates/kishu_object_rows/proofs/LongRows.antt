-- States that are as large as a commit may keep, and one byte larger: texts of just so many letters, which aren't written out.
use Rattle.std.specs.Prelude.{◌≡◌, ◌+◌, ◌*◌, ◌^◌, ℕ, zero, suc, List, [], ◌∷◌, ◌++◌, codes, length, refl}
use Rattle.std.proofs.Common.{arith, ap, length-append}
use Rattle.std.specs.Char.{encode_utf8}
use Rattle.std.specs.Str.{encode_utf8_all}
use Rattle.kishu_language.specs.declared.profile.Profile.TheVariants.{One}
use Rattle.kishu_meaning.specs.values.Values.{Value, text, State, empty}
use Rattle.kishu_objects.specs.Bytes.{in_four}
use Rattle.kishu_objects.specs.Sizes.{size, most_bytes}
use Rattle.kishu_store.specs.Graph.{Commit}
use Rattle.kishu_history.specs.Sizes.{StaySmall, AllStaySmall}
use Rattle.kishu_object_rows.proofs.OnLiterals.{codes_on_literals, cells_on_literals}

-- so many letters a
unfoldable letters : ℕ → List ℕ
letters zero = []
letters (suc n) = 97 ∷ letters n

in_bytes : (n : ℕ) → length (encode_utf8_all (letters n)) ≡ n
unfolding letters encode_utf8
in_bytes zero = refl
in_bytes (suc n) = ap suc (in_bytes n)

-- a is a text of so many letters: its picture takes 15 bytes more
abbrev long_text : ℕ → State
long_text n = record { names = (codes "a", text (letters n)) ∷ []; nodes = [] }

takes : (n : ℕ) → size (long_text n) ≡ 15 + n
unfolding in_four
takes n = omega (arith, length-append (encode_utf8_all (letters n) ++ []) (0 ∷ 0 ∷ 0 ∷ 0 ∷ []), length-append (encode_utf8_all (letters n)) [], in_bytes n)

size_1 : size (long_text 268435441) ≡ 2 ^ 28
size_1 = takes 268435441

-- what an empty cell leaves
small_1 : StaySmall One ([] ∷ []) (long_text 268435441)
unfolding cells_on_literals
small_1 = (omega (arith, takes 268435441), tt)

large_1 : StaySmall One ([] ∷ []) (long_text 268435442) → ⊥
unfolding cells_on_literals
large_1 h = absurd (omega (arith, takes 268435442, h.0))

-- and a cell that does nothing, or raises
small_2 : StaySmall One (codes "pass" ∷ codes "1 // 0" ∷ []) (long_text 268435441)
unfolding cells_on_literals
small_2 = (omega (arith, takes 268435441), (omega (arith, takes 268435441), tt))

large_2 : StaySmall One (codes "pass" ∷ []) (long_text 268435442) → ⊥
unfolding cells_on_literals
large_2 h = absurd (omega (arith, takes 268435442, h.0))

-- What was too large after one cell isn't made good by the next.
large_3 : StaySmall One (codes "pass" ∷ codes "del a" ∷ []) (long_text 268435442) → ⊥
unfolding cells_on_literals
large_3 h = absurd (omega (arith, takes 268435442, h.0))

-- A state that was too large before the cell isn't asked.
small_3 : StaySmall One (codes "del a" ∷ []) (long_text 268435442)
unfolding cells_on_literals
small_3 = (omega arith, tt)

small_4 : StaySmall One [] (long_text 268435442)
small_4 = tt

-- over the cells of commits
abbrev commit_of : List ℕ → Commit
commit_of cell = record { parent = 0; profile = One; cells = cell ∷ [] }

small_5 : AllStaySmall (commit_of (codes "pass") ∷ commit_of [] ∷ []) (long_text 268435441)
unfolding cells_on_literals
small_5 = ((omega (arith, takes 268435441), tt), ((omega (arith, takes 268435441), tt), tt))

large_4 : AllStaySmall (commit_of (codes "pass") ∷ []) (long_text 268435442) → ⊥
unfolding cells_on_literals
large_4 h = absurd (omega (arith, takes 268435442, h.0.0))

small_6 : AllStaySmall (commit_of (codes "del a; b = 1") ∷ commit_of [] ∷ commit_of (codes "1") ∷ []) (long_text 268435442)
unfolding cells_on_literals
small_6 = ((omega arith, tt), ((omega arith, tt), ((omega arith, tt), tt)))
