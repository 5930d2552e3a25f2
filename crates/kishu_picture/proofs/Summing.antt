-- Lengths that are added up to at most 2^64-1.
use Rattle.std.specs.Prelude.{◌≡◌, ℕ, ℤ, suc, ◌+◌, ◌-◌, ◌≤◌, ◌^◌, List, [], ◌∷◌, ◌++◌, length, flat_map, map}
use Rattle.std.specs.Str.{chars, encode_utf8_all, IsUtf8}
use Rattle.std.specs.declared.alloc.Global.{Global}
use Rattle.std.specs.declared.rc.RcStr.{RcStr}
use Rattle.std.proofs.Common.{ap, sym, ◌∙◌, arith, length-append}
use Rattle.std.proofs.lemmas.Str.{encodes-chars}
use Rattle.kishu_bytes.specs.Numbers.{sixteen}
use Rattle.kishu_meaning.specs.values.Values.{Node}
use Rattle.kishu_names.specs.Namespace.{Namespace}
use Rattle.kishu_names.specs.Record.{texts_of}
use Rattle.kishu_objects.specs.Bytes.{in_four, long, many, name_bytes, row_bytes}
use Rattle.kishu_objects.specs.Picture.{place, renumbered, named, bound}
use Rattle.kishu_objects.specs.Shape.{each_child, node_at}
use Rattle.kishu_picture.specs.Held.{held, order_of, bytes_of}
use Rattle.kishu_picture.specs.Lengths.{capped}
use Rattle.kishu_picture.proofs.Sizes.{four_long, sixteen_long, many_long, many_same, name_same, rows_same}

-- The sum so far with the length of the rest is the whole.
abbrev pub IsSumming : {A : Type 0} → (A → List ℕ) → List A → ℕ → List A → Type 0
IsSumming bytes all sum rest = (sum ≤ 2 ^ 64 - 1) × (capped (sum + length (flat_map bytes rest)) ≡ capped (length (many bytes all)))

module _ {A : Type 0} (bytes : A → List ℕ) where
  pub summing_begins : (all : List A) (sum : ℕ) → sum ≡ 4 → IsSumming bytes all sum all
  summing_begins all sum e = (omega (arith, e), ap capped (ap (λ k. k + length (flat_map bytes all)) e ∙ sym (many_long bytes all)))

  -- one more
  pub summing_goes_on : (all rest more : List A) (a : A) (sum new : ℕ) → IsSumming bytes all sum rest → rest ≡ a ∷ more
      → new ≡ capped (sum + length (bytes a)) → IsSumming bytes all new more
  summing_goes_on all rest more a sum new s e step =
      let k = ap (λ r. length (flat_map bytes r)) e ∙ length-append (bytes a) (flat_map bytes more) in
      let goes : capped (new + length (flat_map bytes more)) ≡ capped (sum + length (flat_map bytes rest)) = omega (arith, step, k) in
      (omega (arith, step), goes ∙ s.1)

  pub summed : (all rest : List A) (sum : ℕ) → IsSumming bytes all sum rest → rest ≡ [] → sum ≡ capped (length (many bytes all))
  summed all rest sum s e = (let k = ap (λ r. length (flat_map bytes r)) e in let l = s.0 in let m = s.1 in omega (arith, k, l, m))

  -- one more, in two parts
  pub pair_goes_on : (all rest more : List A) (a : A) (sum mid new first second : ℕ) → IsSumming bytes all sum rest → rest ≡ a ∷ more
      → length (bytes a) ≡ first + second → mid ≡ capped (sum + capped first) → new ≡ capped (mid + capped second) → IsSumming bytes all new more
  pair_goes_on all rest more a sum mid new first second s e parts one two =
      summing_goes_on all rest more a sum new s e (omega (arith, parts, one, two))

-- a text behind its length and one byte more
pub text_summed : (bs read : List ℕ) (sum new : ℕ) → read ≡ bs → IsUtf8 read → sum ≡ capped (length (long read)) → new ≡ capped (sum + 1)
    → new ≡ capped (suc (length (long (encode_utf8_all (chars bs)))))
text_summed bs read sum new e u one two =
    let same : long (encode_utf8_all (chars bs)) ≡ long read = ap (λ z. long (encode_utf8_all (chars z))) (sym e) ∙ ap long (encodes-chars read u) in
    let k = ap length same in
    omega (arith, one, two, k)

pub integer_long : (z : ℤ) → 17 ≡ capped (suc (length (sixteen z)))
integer_long z = ap (λ n. capped (suc n)) (sym (sixteen_long z))

pub range_long : (a b c : ℤ) → 49 ≡ capped (suc (length (sixteen a ++ (sixteen b ++ sixteen c))))
range_long a b c = (
    let k = length-append (sixteen a) (sixteen b ++ sixteen c) in
    let l = length-append (sixteen b) (sixteen c) in
    omega (arith, k, l, sixteen_long a, sixteen_long b, sixteen_long c)
    )

pub node_long : (i : ℕ) → 5 ≡ capped (suc (length (in_four i)))
node_long i = ap (λ n. capped (suc n)) (sym (four_long i))

pub picture_long : (nodes : List Node) (names : Namespace) (group : List (RcStr Global)) (found : List ℕ) → found ≡ order_of nodes names group
    → length (bytes_of nodes names group) ≡ length (many name_bytes (bound (held [] names) (texts_of group))) + length
    (many row_bytes (map (node_at nodes) found))
picture_long nodes names group found e =
    let o = order_of nodes names group in
    let of = bound (held [] names) (texts_of group) in
    let a = length-append (many name_bytes (map (named (place o)) of))
    (many row_bytes (map (λ i. each_child (renumbered (place o)) (node_at nodes i)) o)) in
    let b = many_same name_bytes (named (place o)) (name_same (place o)) of in
    let c = rows_same (place o) nodes o in
    let d = ap (λ is. length (many row_bytes (map (node_at nodes) is))) e in
    omega (arith, a, b, c, d)
