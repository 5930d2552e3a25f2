-- States as large as a commit may keep, and larger by a byte. Made by tools/rows/limit_rows.py.
use Rattle.std.specs.Prelude.{◌≡◌, ℕ, true, false, List, [], ◌∷◌, ◌++◌, codes, refl}
use Rattle.std.specs.Prelude.{◌+◌, ◌*◌, zero, suc, length, min, nat_lt, Bool}
use Rattle.std.proofs.Common.{arith, ap, ◌∙◌, length-append}
use Rattle.std.specs.Char.{encode_utf8}
use Rattle.std.specs.Str.{encode_utf8_all}
use Rattle.kishu_meaning.specs.values.Keys as k
use Rattle.kishu_meaning.specs.values.Values.{none, text, node, list, dict, State}
use Rattle.kishu_objects.specs.Bytes.{in_four}
use Rattle.kishu_objects.specs.Sizes.{size, most_bytes}
use Rattle.kishu_store.specs.Graph.{Graph, new_graph}
use Rattle.kishu_model.specs.Answers.{state_too_large}
use Rattle.kishu_model.specs.Request.{Stepped, refused_with}
use Rattle.kishu_model.specs.requests.TooLarge.{is_too_large, too_large, most_told, unless_too_large}

-- so many letters a
unfoldable letters : ℕ → List ℕ
letters zero = []
letters (suc n) = 97 ∷ letters n

in_bytes : (n : ℕ) → length (encode_utf8_all (letters n)) ≡ n
unfolding letters encode_utf8
in_bytes zero = refl
in_bytes (suc n) = ap suc (in_bytes n)

abbrev coded : ℕ → List ℕ
coded n = encode_utf8_all (letters n)

large : (s : State) (size_is : ℕ) (b : Bool) → size s ≡ size_is → nat_lt most_bytes size_is ≡ b → is_too_large s ≡ b
large s size_is b t e = ap (nat_lt most_bytes) t ∙ e

told : (s : State) (size_is : ℕ) → size s ≡ size_is → too_large s ≡ state_too_large (min size_is most_told)
told s size_is t = ap (λ k. state_too_large (min k most_told)) t

kept_where : (s : State) (g : Graph) (k : Stepped) → is_too_large s ≡ false → unless_too_large s g k ≡ k
kept_where s g k e = rw e refl

refused_where : (s : State) (g : Graph) (k : Stepped) (bytes : ℕ) → is_too_large s ≡ true → too_large s ≡ state_too_large bytes → unless_too_large s g k ≡ refused_with (state_too_large bytes) g
refused_where s g k bytes e f = rw (e, f) refl

-- ---- two names, each with the text: two groups

abbrev twice : ℕ → State
twice n = record { names = (codes "a", text (letters n)) ∷ (codes "b", text (letters n)) ∷ []; nodes = [] }

twice_takes : (n : ℕ) → size (twice n) ≡ 30 + 2 * n
unfolding in_four
twice_takes n = omega (arith, length-append (coded n ++ []) (0 ∷ 0 ∷ 0 ∷ 0 ∷ []), length-append (coded n) [], in_bytes n)

twice_large_1 : is_too_large (twice 0) ≡ false
twice_large_1 = large (twice 0) 30 false (twice_takes 0) refl

twice_kept_1 : (q : Stepped) → unless_too_large (twice 0) new_graph q ≡ q
twice_kept_1 = λ q. kept_where (twice 0) new_graph q (large (twice 0) 30 false (twice_takes 0) refl)

twice_large_2 : is_too_large (twice 134217713) ≡ false
twice_large_2 = large (twice 134217713) 268435456 false (twice_takes 134217713) refl

twice_kept_2 : (q : Stepped) → unless_too_large (twice 134217713) new_graph q ≡ q
twice_kept_2 = λ q. kept_where (twice 134217713) new_graph q (large (twice 134217713) 268435456 false (twice_takes 134217713) refl)

twice_large_3 : is_too_large (twice 134217714) ≡ true
twice_large_3 = large (twice 134217714) 268435458 true (twice_takes 134217714) refl

twice_told_1 : too_large (twice 134217714) ≡ state_too_large 268435458
twice_told_1 = told (twice 134217714) 268435458 (twice_takes 134217714)

twice_refused_1 : (q : Stepped) → unless_too_large (twice 134217714) new_graph q ≡ refused_with (state_too_large 268435458) new_graph
twice_refused_1 = λ q. refused_where (twice 134217714) new_graph q 268435458 (large (twice 134217714) 268435458 true (twice_takes 134217714) refl) (told (twice 134217714) 268435458 (twice_takes 134217714))

twice_large_4 : is_too_large (twice 1099511627776) ≡ true
twice_large_4 = large (twice 1099511627776) 2199023255582 true (twice_takes 1099511627776) refl

twice_told_2 : too_large (twice 1099511627776) ≡ state_too_large 2199023255582
twice_told_2 = told (twice 1099511627776) 2199023255582 (twice_takes 1099511627776)

twice_refused_2 : (q : Stepped) → unless_too_large (twice 1099511627776) new_graph q ≡ refused_with (state_too_large 2199023255582) new_graph
twice_refused_2 = λ q. refused_where (twice 1099511627776) new_graph q 2199023255582 (large (twice 1099511627776) 2199023255582 true (twice_takes 1099511627776) refl) (told (twice 1099511627776) 2199023255582 (twice_takes 1099511627776))

-- ---- a list that holds the text

abbrev listed : ℕ → State
listed n = record { names = (codes "a", node 0) ∷ []; nodes = list (text (letters n) ∷ []) ∷ [] }

listed_takes : (n : ℕ) → size (listed n) ≡ 25 + n
unfolding in_four
listed_takes n = omega (arith, length-append (coded n ++ []) [], length-append (coded n) [], in_bytes n)

listed_large_1 : is_too_large (listed 0) ≡ false
listed_large_1 = large (listed 0) 25 false (listed_takes 0) refl

listed_kept_1 : (q : Stepped) → unless_too_large (listed 0) new_graph q ≡ q
listed_kept_1 = λ q. kept_where (listed 0) new_graph q (large (listed 0) 25 false (listed_takes 0) refl)

listed_large_2 : is_too_large (listed 268435431) ≡ false
listed_large_2 = large (listed 268435431) 268435456 false (listed_takes 268435431) refl

listed_kept_2 : (q : Stepped) → unless_too_large (listed 268435431) new_graph q ≡ q
listed_kept_2 = λ q. kept_where (listed 268435431) new_graph q (large (listed 268435431) 268435456 false (listed_takes 268435431) refl)

listed_large_3 : is_too_large (listed 268435432) ≡ true
listed_large_3 = large (listed 268435432) 268435457 true (listed_takes 268435432) refl

listed_told_1 : too_large (listed 268435432) ≡ state_too_large 268435457
listed_told_1 = told (listed 268435432) 268435457 (listed_takes 268435432)

listed_refused_1 : (q : Stepped) → unless_too_large (listed 268435432) new_graph q ≡ refused_with (state_too_large 268435457) new_graph
listed_refused_1 = λ q. refused_where (listed 268435432) new_graph q 268435457 (large (listed 268435432) 268435457 true (listed_takes 268435432) refl) (told (listed 268435432) 268435457 (listed_takes 268435432))

listed_large_4 : is_too_large (listed 1099511627776) ≡ true
listed_large_4 = large (listed 1099511627776) 1099511627801 true (listed_takes 1099511627776) refl

listed_told_2 : too_large (listed 1099511627776) ≡ state_too_large 1099511627801
listed_told_2 = told (listed 1099511627776) 1099511627801 (listed_takes 1099511627776)

listed_refused_2 : (q : Stepped) → unless_too_large (listed 1099511627776) new_graph q ≡ refused_with (state_too_large 1099511627801) new_graph
listed_refused_2 = λ q. refused_where (listed 1099511627776) new_graph q 1099511627801 (large (listed 1099511627776) 1099511627801 true (listed_takes 1099511627776) refl) (told (listed 1099511627776) 1099511627801 (listed_takes 1099511627776))

-- ---- a dict whose key is the text

abbrev keyed : ℕ → State
keyed n = record { names = (codes "a", node 0) ∷ []; nodes = dict ((k.single (k.text (letters n)), none) ∷ []) ∷ [] }

keyed_takes : (n : ℕ) → size (keyed n) ≡ 26 + n
unfolding in_four
keyed_takes n = omega (arith, length-append ((coded n ++ (0 ∷ [])) ++ []) [], length-append (coded n ++ (0 ∷ [])) [], length-append (coded n) (0 ∷ []), in_bytes n)

keyed_large_1 : is_too_large (keyed 0) ≡ false
keyed_large_1 = large (keyed 0) 26 false (keyed_takes 0) refl

keyed_kept_1 : (q : Stepped) → unless_too_large (keyed 0) new_graph q ≡ q
keyed_kept_1 = λ q. kept_where (keyed 0) new_graph q (large (keyed 0) 26 false (keyed_takes 0) refl)

keyed_large_2 : is_too_large (keyed 268435430) ≡ false
keyed_large_2 = large (keyed 268435430) 268435456 false (keyed_takes 268435430) refl

keyed_kept_2 : (q : Stepped) → unless_too_large (keyed 268435430) new_graph q ≡ q
keyed_kept_2 = λ q. kept_where (keyed 268435430) new_graph q (large (keyed 268435430) 268435456 false (keyed_takes 268435430) refl)

keyed_large_3 : is_too_large (keyed 268435431) ≡ true
keyed_large_3 = large (keyed 268435431) 268435457 true (keyed_takes 268435431) refl

keyed_told_1 : too_large (keyed 268435431) ≡ state_too_large 268435457
keyed_told_1 = told (keyed 268435431) 268435457 (keyed_takes 268435431)

keyed_refused_1 : (q : Stepped) → unless_too_large (keyed 268435431) new_graph q ≡ refused_with (state_too_large 268435457) new_graph
keyed_refused_1 = λ q. refused_where (keyed 268435431) new_graph q 268435457 (large (keyed 268435431) 268435457 true (keyed_takes 268435431) refl) (told (keyed 268435431) 268435457 (keyed_takes 268435431))

keyed_large_4 : is_too_large (keyed 1099511627776) ≡ true
keyed_large_4 = large (keyed 1099511627776) 1099511627802 true (keyed_takes 1099511627776) refl

keyed_told_2 : too_large (keyed 1099511627776) ≡ state_too_large 1099511627802
keyed_told_2 = told (keyed 1099511627776) 1099511627802 (keyed_takes 1099511627776)

keyed_refused_2 : (q : Stepped) → unless_too_large (keyed 1099511627776) new_graph q ≡ refused_with (state_too_large 1099511627802) new_graph
keyed_refused_2 = λ q. refused_where (keyed 1099511627776) new_graph q 1099511627802 (large (keyed 1099511627776) 1099511627802 true (keyed_takes 1099511627776) refl) (told (keyed 1099511627776) 1099511627802 (keyed_takes 1099511627776))
