-- What is written of a state fits into bytes, where it takes fewer than 2^32 of them: so the picture of a state does.
use Rattle.std.specs.Prelude.{◌≡◌, ◌↔◌, ℕ, ◌<◌, ◌≤◌, ◌^◌, ℤ, pos, negsuc, true, false, FitsSigned, IsTrue, List, [], ◌∷◌, ◌++◌, length, flat_map}
use Rattle.std.specs.Int.{w128}
use Rattle.std.specs.List.{AllByRecursion as Each}
use Rattle.std.specs.Str.{encode_utf8_all, all_scalars}
use Rattle.std.proofs.Common.{ap, arith, length-append}
use Rattle.std.proofs.lemmas.Bool.Decides.{nat_tests}
use Rattle.kishu_meaning.specs.values.Keys.{Key, KeyPart}
use Rattle.kishu_meaning.specs.values.Keys as k
use Rattle.kishu_meaning.specs.values.Numbers.{is_whole}
use Rattle.kishu_meaning.specs.values.Values.{Value, none, bool, integer, text, range, builtin, class, node, Node, list, tuple, dict, object, function, exception, Names, State}
use Rattle.kishu_objects.specs.Bytes.{in_four, long, many, value_bytes, part_bytes, key_bytes, entry_bytes, name_bytes, row_bytes, state_bytes, picture_bytes}
use Rattle.kishu_objects.specs.Fits.{Spells, ValueFits, PartFits, AllFit, KeyFits, NodeFits, StateFits}
use Rattle.kishu_objects.specs.Lists.{Rise}
use Rattle.kishu_objects.specs.Picture.{picture, listed, whole}
use Rattle.kishu_objects.specs.Same.{Same}
use Rattle.kishu_objects.specs.State.{IsValue, AreValues, IsKeyPart, IsKey, keys_in, values_in, IsNode, IsState}
use Rattle.kishu_objects_laws.specs.BytesLaws.{reads_state}
use Rattle.kishu_objects_laws.specs.WholeLaws.{same_whole, whole_same}
use Rattle.kishu_state_laws.specs.Pictures.{picture_is_state}
use Rattle.kishu_state_laws.specs.Real.{state_is_real}

whole_fits : (z : ℤ) → IsTrue (is_whole z) → FitsSigned w128 z
whole_fits (pos n) h = (let below : n < 2 ^ 127 = grind (arith, nat_tests) in record { sfits = below })
whole_fits (negsuc n) h = (let below : n < 2 ^ 127 = grind (arith, nat_tests) in record { sfits = below })

-- ---- lists of things that are written

-- what is behind a number is no longer than both
behind : (n : ℕ) (xs : List ℕ) → length xs ≤ length (in_four n ++ xs)
behind n xs = (let e = length-append (in_four n) xs in omega (arith, e))

module _ {A : Type 0} (bytes : A → List ℕ) (some : (a : A) → 1 ≤ length (bytes a)) where
  no_more : (as' : List A) → length as' ≤ length (flat_map bytes as')
  no_more [] = omega arith
  no_more (a ∷ as') = (let e = length-append (bytes a) (flat_map bytes as') in let o = some a in let r = no_more as' in omega (arith, e, o, r))

  module _ (Fits Ok : A → Type 0) (fits : (a : A) → Ok a → length (bytes a) < 2 ^ 32 → Fits a) where
    each_fits : (as' : List A) → Each Ok as' → length (flat_map bytes as') < 2 ^ 32 → Each Fits as'
    each_fits [] h l = tt
    each_fits (a ∷ as') h l = (let e = length-append (bytes a) (flat_map bytes as') in (fits a h.0 (omega (arith, e, l)), each_fits as' h.1 (omega (arith, e, l))))

    all_fit : (as' : List A) → Each Ok as' → length (many bytes as') < 2 ^ 32 → AllFit Fits as'
    all_fit as' h l =
        let b = behind (length as') (flat_map bytes as') in
        let n = no_more as' in
        (omega (arith, b, n, l), each_fits as' h (omega (arith, b, l)))

text_fits : (cs : List ℕ) → IsTrue (all_scalars cs) → length (long (encode_utf8_all cs)) < 2 ^ 32 → Spells cs
text_fits cs h l = (h, let b = behind (length (encode_utf8_all cs)) (encode_utf8_all cs) in omega (arith, b, l))

-- ---- values and keys

some_value : (v : Value) → 1 ≤ length (value_bytes v)
some_value none = omega arith
some_value (bool false) = omega arith
some_value (bool true) = omega arith
some_value (integer z) = omega arith
some_value (text cs) = omega arith
some_value (range a b c) = omega arith
some_value (builtin n) = omega arith
some_value (class n) = omega arith
some_value (node i) = omega arith

some_part : (p : KeyPart) → 1 ≤ length (part_bytes p)
some_part k.none = omega arith
some_part (k.bool false) = omega arith
some_part (k.bool true) = omega arith
some_part (k.integer z) = omega arith
some_part (k.text cs) = omega arith

some_key : (key : Key) → 1 ≤ length (key_bytes key)
some_key (k.single p) = some_part p
some_key (k.tuple ps) = omega arith

some_entry : (e : Key × Value) → 1 ≤ length (entry_bytes e)
some_entry e = (let a = length-append (key_bytes e.0) (value_bytes e.1) in let s = some_key e.0 in omega (arith, a, s))

some_name : (b : List ℕ × Value) → 1 ≤ length (name_bytes b)
some_name b = omega arith

some_row : (n : Node) → 1 ≤ length (row_bytes n)
some_row (list vs) = omega arith
some_row (tuple vs) = omega arith
some_row (dict es) = omega arith
some_row (object as') = omega arith
some_row (function profile code vs) = omega arith
some_row (exception kind vs) = omega arith

part_fits : (p : KeyPart) → IsKeyPart p → length (part_bytes p) < 2 ^ 32 → PartFits p
part_fits k.none h l = tt
part_fits (k.bool b) h l = tt
part_fits (k.integer z) h l = whole_fits z h
part_fits (k.text cs) h l = text_fits cs h (omega (arith, l))

key_fits : (key : Key) → IsKey key → length (key_bytes key) < 2 ^ 32 → KeyFits key
key_fits (k.single p) h l = part_fits p h l
key_fits (k.tuple ps) h l = all_fit part_bytes some_part PartFits IsKeyPart part_fits ps h (omega (arith, l))

-- ---- among n nodes

module _ (n : ℕ) (small : n < 2 ^ 32) where
  value_fits : (v : Value) → IsValue n v → length (value_bytes v) < 2 ^ 32 → ValueFits v
  value_fits none h l = tt
  value_fits (bool b) h l = tt
  value_fits (integer z) h l = whole_fits z h
  value_fits (text cs) h l = text_fits cs h (omega (arith, l))
  value_fits (range a b c) h l = (whole_fits a h.0, whole_fits b h.1, whole_fits c h.2)
  value_fits (builtin m) h l = tt
  value_fits (class m) h l = tt
  value_fits (node i) h l = omega (arith, h, small)

  values_fit : (vs : List Value) → AreValues n vs → length (many value_bytes vs) < 2 ^ 32 → AllFit ValueFits vs
  values_fit vs h l = all_fit value_bytes some_value ValueFits (IsValue n) value_fits vs h l

  entry_fits : (e : Key × Value) → IsKey e.0 × IsValue n e.1 → length (entry_bytes e) < 2 ^ 32 → KeyFits e.0 × ValueFits e.1
  entry_fits e h l = (let a = length-append (key_bytes e.0) (value_bytes e.1) in (key_fits e.0 h.0 (omega (arith, a, l)), value_fits e.1 h.1 (omega (arith, a, l))))

  entries : (es : List (Key × Value)) → Each IsKey (keys_in es) → AreValues n (values_in es) → Each (λ (e : Key × Value). IsKey e.0 × IsValue n e.1) es
  entries [] h v = tt
  entries (e ∷ es) h v = ((h.0, v.0), entries es h.1 v.1)

  name_fits : (b : List ℕ × Value) → IsValue n b.1 → length (name_bytes b) < 2 ^ 32 → ValueFits b.1
  name_fits b h l = (let a = length-append b.0 (value_bytes b.1) in value_fits b.1 h (omega (arith, a, l)))

  named : (bs : Names) → AreValues n (values_in bs) → Each (λ (b : List ℕ × Value). IsValue n b.1) bs
  named [] v = tt
  named (b ∷ bs) v = (v.0, named bs v.1)

  names_fit : (bs : Names) → AreValues n (values_in bs) → length (many name_bytes bs) < 2 ^ 32 → AllFit (λ (b : List ℕ × Value). ValueFits b.1) bs
  names_fit bs v l = all_fit name_bytes some_name (λ (b : List ℕ × Value). ValueFits b.1) (λ (b : List ℕ × Value). IsValue n b.1) name_fits bs (named bs v) l

  node_fits : (m : Node) → IsNode n m → length (row_bytes m) < 2 ^ 32 → NodeFits m
  node_fits (list vs) h l = values_fit vs h (omega (arith, l))
  node_fits (tuple vs) h l = values_fit vs h (omega (arith, l))
  node_fits (dict es) h l = all_fit entry_bytes some_entry (λ (e : Key × Value). KeyFits e.0 × ValueFits e.1) (λ (e : Key × Value). IsKey e.0 × IsValue n e.1) entry_fits es (entries es h.0 h.2) (omega (arith, l))
  node_fits (object as') h l = names_fit as' h.2 (omega (arith, l))
  node_fits (function profile code vs) h l =
      let a = length-append (long code) (many value_bytes vs) in
      let b = behind (length code) code in
      (omega (arith, a, b, l), values_fit vs h.1 (omega (arith, a, l)))
  node_fits (exception kind vs) h l = values_fit vs h.1 (omega (arith, l))

-- ---- states

pub state_fits : (p : State) → IsState p → length (state_bytes p) < 2 ^ 32 → StateFits p
state_fits p h l =
    let a = length-append (many name_bytes p.names) (many row_bytes p.nodes) in
    let b = behind (length p.nodes) (flat_map row_bytes p.nodes) in
    let c = no_more row_bytes some_row p.nodes in
    let small : length p.nodes < 2 ^ 32 = omega (arith, a, b, c, l) in
    (names_fit (length p.nodes) small p.names h.names.values (omega (arith, a, l)), all_fit row_bytes some_row NodeFits (IsNode (length p.nodes)) (node_fits (length p.nodes) small) p.nodes h.nodes (omega (arith, a, l)))

pub picture_fits : (s : State) (names : List (List ℕ)) → IsState s → Rise names → length (picture_bytes s names) < 2 ^ 32 → StateFits (picture s names)
picture_fits s names h rise l = state_fits (picture s names) (picture_is_state s h names rise) l

-- So two states are the same exactly where the pictures of all their own names have equal bytes.
pub same_in_bytes : (s t : State) → IsState s → IsState t → length (state_bytes (whole s)) < 2 ^ 32 → length (state_bytes (whole t)) < 2 ^ 32 → (Same s t ↔ (state_bytes (whole s) ≡ state_bytes (whole t)))
same_in_bytes s t hs ht l m =
    let a = state_is_real s hs in
    let b = state_is_real t ht in (
      λ h. ap state_bytes (same_whole s t a.sound b.sound a.rise b.rise h),
      λ e. whole_same s t a.sound b.sound (reads_state (whole s) (whole t) (picture_fits s (listed s) hs a.rise l) (picture_fits t (listed t) ht b.rise m) e),
    )
