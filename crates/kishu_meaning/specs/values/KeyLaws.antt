-- Keys that are one are fed to a hasher alike.
use Rattle.std.specs.Prelude.{◌≡◌, ℕ, ℤ, ◌==◌, ◌&&◌, true, List, [], ◌∷◌, ◌++◌, map}
use Rattle.std.proofs.Common.{refl, sym, ap, ◌∙◌}
use Rattle.std.proofs.lemmas.Str.{encodes-chars, IsUtf8-string_bytes, IsUtf8-nil, chars-nil}
use Rattle.std.specs.Bool.{one_answer}
use Rattle.std.specs.Cmp.{IsEquivalence, and_equiv, on_equiv, nat_eq_equiv, int_eq_equiv, signed_Decides, unsigned_Decides}
use Rattle.std.specs.Cmp.Lexicographic.{pointwise, bytes_decides, lists_equiv, nat_list_eq_equiv}
use Rattle.std.specs.Ordering.{int_eq, on}
use Rattle.std.specs.Hash as fed
use Rattle.std.specs.Rc.{rc_str_bytes}
use Rattle.std.specs.Str.{chars, bytes_eq, encode_utf8_all, IsUtf8}
use Rattle.kishu_meaning.specs.declared.key.KeyPart as rust_part
use Rattle.kishu_meaning.specs.declared.key.KeyPart.TheVariants as rust_parts
use Rattle.kishu_meaning.specs.declared.key.Key as rust_key
use Rattle.kishu_meaning.specs.declared.key.Key.TheVariants as rust_keys
use Rattle.kishu_meaning.specs.values.Keys.{part_kind, part_number, part_text, part_of, key_kind, key_number, key_text, key_parts, key_of, is_one_part, is_one, same_part, same_key}

-- the bytes of the text
abbrev pub part_bytes : rust_part.KeyPart → List ℕ
part_bytes rust_parts.None = []
part_bytes (rust_parts.Bool b) = []
part_bytes (rust_parts.Int z) = []
part_bytes (rust_parts.Text x) = rc_str_bytes x

abbrev pub key_bytes : rust_key.Key → List ℕ
key_bytes rust_keys.None = []
key_bytes (rust_keys.Bool b) = []
key_bytes (rust_keys.Int z) = []
key_bytes (rust_keys.Text x) = rc_str_bytes x
key_bytes (rust_keys.Tuple ps) = []

abbrev pub tuple_items : rust_key.Key → List rust_part.KeyPart
tuple_items rust_keys.None = []
tuple_items (rust_keys.Bool b) = []
tuple_items (rust_keys.Int z) = []
tuple_items (rust_keys.Text x) = []
tuple_items (rust_keys.Tuple ps) = ps.items

-- Texts have the same bytes where they have the same code points.
pub same_text : (a b : List ℕ) → IsUtf8 a → IsUtf8 b → bytes_eq a b ≡ bytes_eq (chars a) (chars b)
same_text a b u w =
    let P : Type 0 = a ≡ b in
    one_answer {P = P} (bytes_eq a b) (bytes_eq (chars a) (chars b)) (bytes_decides a b)
    ((λ h. sym (encodes-chars a u) ∙ ap encode_utf8_all ((bytes_decides (chars a) (chars b)).0 h) ∙ encodes-chars b w), (λ e. (bytes_decides (chars a) (chars b)).1 (ap chars e)))

part_utf8 : (p : rust_part.KeyPart) → IsUtf8 (part_bytes p)
part_utf8 rust_parts.None = IsUtf8-nil
part_utf8 (rust_parts.Bool b) = IsUtf8-nil
part_utf8 (rust_parts.Int z) = IsUtf8-nil
part_utf8 (rust_parts.Text x) = IsUtf8-string_bytes x.text.value

pub part_chars : (p : rust_part.KeyPart) → chars (part_bytes p) ≡ part_text (part_of p)
part_chars rust_parts.None = chars-nil
part_chars (rust_parts.Bool b) = chars-nil
part_chars (rust_parts.Int z) = chars-nil
part_chars (rust_parts.Text x) = refl

key_utf8 : (k : rust_key.Key) → IsUtf8 (key_bytes k)
key_utf8 rust_keys.None = IsUtf8-nil
key_utf8 (rust_keys.Bool b) = IsUtf8-nil
key_utf8 (rust_keys.Int z) = IsUtf8-nil
key_utf8 (rust_keys.Text x) = IsUtf8-string_bytes x.text.value
key_utf8 (rust_keys.Tuple ps) = IsUtf8-nil

pub key_chars : (k : rust_key.Key) → chars (key_bytes k) ≡ key_text (key_of k)
key_chars rust_keys.None = chars-nil
key_chars (rust_keys.Bool b) = chars-nil
key_chars (rust_keys.Int z) = chars-nil
key_chars (rust_keys.Text x) = refl
key_chars (rust_keys.Tuple ps) = chars-nil

pub parts_of_items : (k : rust_key.Key) → map part_of (tuple_items k) ≡ key_parts (key_of k)
parts_of_items rust_keys.None = refl
parts_of_items (rust_keys.Bool b) = refl
parts_of_items (rust_keys.Int z) = refl
parts_of_items (rust_keys.Text x) = refl
parts_of_items (rust_keys.Tuple ps) = refl

-- ---- what is fed to a hasher

abbrev pub part_input : rust_part.KeyPart → fed.HashWrites
part_input p = fed.u8 (part_kind (part_of p)) ++ (fed.i128 (part_number (part_of p)) ++ fed.str (part_bytes p))

abbrev pub key_input : rust_key.Key → fed.HashWrites
key_input k = fed.u8 (key_kind (key_of k)) ++ (fed.i128 (key_number (key_of k)) ++ (fed.str (key_bytes k) ++ fed.slice part_input (tuple_items k)))

-- the texts of two keys by their bytes
by_bytes : {T : Type 0} (bytes text : T → List ℕ) → ((x : T) → IsUtf8 (bytes x)) → ((x : T) → chars (bytes x) ≡ text x) → (x y : T) → bytes_eq (text x) (text y) ≡ true → bytes x ≡ bytes y
by_bytes bytes text u e x y h =
    (bytes_decides (bytes x) (bytes y)).0 (same_text (bytes x) (bytes y) (u x) (u y) ∙ ap (λ t. bytes_eq t (chars (bytes y))) (e x) ∙ ap (bytes_eq (text x)) (e y) ∙ h)

text_alike : {T : Type 0} (bytes text : T → List ℕ) → ((x : T) → IsUtf8 (bytes x)) → ((x : T) → chars (bytes x) ≡ text x) → fed.Alike (on text bytes_eq) (λ x. fed.str (bytes x))
text_alike bytes text u e = record { fed = λ x y h. ap fed.str (by_bytes bytes text u e x y h) }

kinds_alike : {T : Type 0} (kind : T → ℕ) → fed.Alike (on kind ◌==◌) (λ x. fed.u8 (kind x))
kinds_alike kind = record { fed = λ x y h. ap fed.u8 ((unsigned_Decides (kind x) (kind y)).0 h) }

numbers_alike : {T : Type 0} (number : T → ℤ) → fed.Alike (on number int_eq) (λ x. fed.i128 (number x))
numbers_alike number = record { fed = λ x y h. ap fed.i128 ((signed_Decides (number x) (number y)).0 h) }

pub parts_Alike : fed.Alike same_part part_input
parts_Alike =
    fed.and-Alike (kinds_alike (λ p. part_kind (part_of p))) (fed.and-Alike (numbers_alike (λ p. part_number (part_of p))) (text_alike part_bytes (λ p. part_text (part_of p)) part_utf8 part_chars))

pub pointwise_of : (ps qs : List rust_part.KeyPart) → pointwise is_one_part (map part_of ps) (map part_of qs) ≡ pointwise same_part ps qs
pointwise_of [] [] = refl
pointwise_of [] (q ∷ qs) = refl
pointwise_of (p ∷ ps) [] = refl
pointwise_of (p ∷ ps) (q ∷ qs) = ap (λ b. same_part p q && b) (pointwise_of ps qs)

items_alike : fed.Alike (on (λ k. key_parts (key_of k)) (pointwise is_one_part)) (λ k. fed.slice part_input (tuple_items k))
items_alike = record { fed = λ x y h. (fed.items_Alike parts_Alike).fed (tuple_items x) (tuple_items y) (sym (pointwise_of (tuple_items x) (tuple_items y)) ∙ ap (λ ps. pointwise is_one_part ps (map part_of (tuple_items y))) (parts_of_items x) ∙ ap (pointwise is_one_part (key_parts (key_of x))) (parts_of_items y) ∙ h) }

pub keys_Alike : fed.Alike same_key key_input
keys_Alike =
    fed.and-Alike (kinds_alike (λ k. key_kind (key_of k))) (fed.and-Alike (numbers_alike (λ k. key_number (key_of k)))
    (fed.and-Alike (text_alike key_bytes (λ k. key_text (key_of k)) key_utf8 key_chars) items_alike))

-- ---- being one is an equivalence

pub is_one_part_equiv : IsEquivalence is_one_part
is_one_part_equiv = and_equiv (on_equiv part_kind nat_eq_equiv) (and_equiv (on_equiv part_number int_eq_equiv) (on_equiv part_text nat_list_eq_equiv))

pub is_one_equiv : IsEquivalence is_one
is_one_equiv =
    and_equiv (on_equiv key_kind nat_eq_equiv) (and_equiv (on_equiv key_number int_eq_equiv)
    (and_equiv (on_equiv key_text nat_list_eq_equiv) (on_equiv key_parts (lists_equiv is_one_part_equiv))))

pub same_part_equiv : IsEquivalence same_part
same_part_equiv = on_equiv part_of is_one_part_equiv

pub same_key_equiv : IsEquivalence same_key
same_key_equiv = on_equiv key_of is_one_equiv
