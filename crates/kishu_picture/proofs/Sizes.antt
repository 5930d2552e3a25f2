-- New numbers of nodes keep the length of what is written.
use Rattle.std.specs.Prelude.{◌≡◌, ℕ, ℤ, suc, ◌+◌, ◌≤◌, true, false, List, [], ◌∷◌, ◌++◌, length, map, flat_map}
use Rattle.std.proofs.Common.{refl, ap, sym, ◌∙◌, arith, length-append}
use Rattle.kishu_bytes.specs.Numbers.{sixteen}
use Rattle.kishu_meaning.specs.values.Keys.{Key, KeyPart}
use Rattle.kishu_meaning.specs.values.Keys as k
use Rattle.kishu_meaning.specs.values.Values.{Value, none, bool, integer, text, range, builtin, class}
use Rattle.kishu_meaning.specs.values.Values.{node, Node, list, tuple, dict, object, function, exception}
use Rattle.kishu_objects.specs.Bytes.{in_four, long, many, value_bytes, part_bytes, key_bytes, entry_bytes, name_bytes, row_bytes}
use Rattle.kishu_objects.specs.Picture.{renumbered, named}
use Rattle.kishu_objects.specs.Shape.{each_child, node_at}

pub four_long : (n : ℕ) → length (in_four n) ≡ 4
unfolding in_four
four_long n = refl

pub sixteen_long : (z : ℤ) → length (sixteen z) ≡ 16
unfolding sixteen
sixteen_long z = refl

pub many_long : {A : Type 0} (bytes : A → List ℕ) (as' : List A) → length (many bytes as') ≡ 4 + length (flat_map bytes as')
many_long bytes as' = length-append (in_four (length as')) (flat_map bytes as') ∙ ap (λ n. n + length (flat_map bytes as')) (four_long (length as'))

module _ {A : Type 0} (bytes : A → List ℕ) (change : A → A) (same : (a : A) → length (bytes (change a)) ≡ length (bytes a)) where
  all_long : (as' : List A) → length (flat_map bytes (map change as')) ≡ length (flat_map bytes as')
  all_long [] = refl
  all_long (a ∷ as') = (
      let k = length-append (bytes (change a)) (flat_map bytes (map change as')) in
      let l = length-append (bytes a) (flat_map bytes as') in
      let m = same a in
      let r = all_long as' in
      omega (arith, k, l, m, r)
      )

  pub many_same : (as' : List A) → length (many bytes (map change as')) ≡ length (many bytes as')
  many_same as' = (let k = many_long bytes (map change as') in let l = many_long bytes as' in let r = all_long as' in omega (arith, k, l, r))

module _ (f : ℕ → ℕ) where
  pub value_same : (v : Value) → length (value_bytes (renumbered f v)) ≡ length (value_bytes v)
  value_same (node i) = ap suc (four_long (f i) ∙ sym (four_long i))
  value_same v = refl

  entry_same : (e : Key × Value) → length (entry_bytes (e.0, renumbered f e.1)) ≡ length (entry_bytes e)
  entry_same e = length-append (key_bytes e.0) (value_bytes (renumbered f e.1)) ∙ ap (λ n. length (key_bytes e.0) + n) (value_same e.1)
      ∙ sym (length-append (key_bytes e.0) (value_bytes e.1))

  pub name_same : (b : List ℕ × Value) → length (name_bytes (named f b)) ≡ length (name_bytes b)
  name_same b = ap suc (length-append b.0 (value_bytes (renumbered f b.1)) ∙ ap (λ n. length b.0 + n) (value_same b.1)
      ∙ sym (length-append b.0 (value_bytes b.1)))

  pub row_same : (n : Node) → length (row_bytes (each_child (renumbered f) n)) ≡ length (row_bytes n)
  row_same (list vs) = ap suc (many_same value_bytes (renumbered f) value_same vs)
  row_same (tuple vs) = ap suc (many_same value_bytes (renumbered f) value_same vs)
  row_same (dict es) = ap suc (many_same entry_bytes (λ (e : Key × Value). (e.0, renumbered f e.1)) entry_same es)
  row_same (object as') = ap suc (many_same name_bytes (named f) name_same as')
  row_same (function profile code vs) = (
      let k = length-append (in_four (length code) ++ code) (many value_bytes (map (renumbered f) vs)) in
      let l = length-append (in_four (length code) ++ code) (many value_bytes vs) in
      let r = many_same value_bytes (renumbered f) value_same vs in
      omega (arith, k, l, r)
      )
  row_same (exception kind vs) = ap (λ n. suc (suc n)) (many_same value_bytes (renumbered f) value_same vs)

  map_both : (nodes : List Node) (is : List ℕ) → map (λ i. each_child (renumbered f) (node_at nodes i)) is ≡ map (each_child (renumbered f))
      (map (node_at nodes) is)
  map_both nodes [] = refl
  map_both nodes (i ∷ is) = ap (λ z. each_child (renumbered f) (node_at nodes i) ∷ z) (map_both nodes is)

  pub rows_same : (nodes : List Node) (is : List ℕ) → length (many row_bytes (map (λ i. each_child (renumbered f) (node_at nodes i)) is)) ≡ length
      (many row_bytes (map (node_at nodes) is))
  rows_same nodes is = ap (λ z. length (many row_bytes z)) (map_both nodes is)
      ∙ many_same row_bytes (each_child (renumbered f)) row_same (map (node_at nodes) is)

-- ---- texts

pub long_length : (cs : List ℕ) → length (long cs) ≡ 4 + length cs
long_length cs = length-append (in_four (length cs)) cs ∙ ap (λ n. n + length cs) (four_long (length cs))

-- ---- each thing takes a byte at least

pub value_some : (v : Value) → 1 ≤ length (value_bytes v)
value_some none = omega arith
value_some (bool false) = omega arith
value_some (bool true) = omega arith
value_some (integer z) = omega arith
value_some (text cs) = omega arith
value_some (range a b c) = omega arith
value_some (builtin n) = omega arith
value_some (class n) = omega arith
value_some (node i) = omega arith

pub part_some : (p : KeyPart) → 1 ≤ length (part_bytes p)
part_some k.none = omega arith
part_some (k.bool false) = omega arith
part_some (k.bool true) = omega arith
part_some (k.integer z) = omega arith
part_some (k.text cs) = omega arith

pub entry_some : (e : Key × Value) → 1 ≤ length (entry_bytes e)
entry_some e = (let n = length-append (key_bytes e.0) (value_bytes e.1) in let s = value_some e.1 in omega (arith, n, s))

pub name_some : (b : List ℕ × Value) → 1 ≤ length (name_bytes b)
name_some b = omega arith

pub row_some : (n : Node) → 1 ≤ length (row_bytes n)
row_some (list vs) = omega arith
row_some (tuple vs) = omega arith
row_some (dict es) = omega arith
row_some (object as') = omega arith
row_some (function profile code vs) = omega arith
row_some (exception kind vs) = omega arith
