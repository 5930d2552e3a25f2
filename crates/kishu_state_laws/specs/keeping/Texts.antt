-- Texts that are made of texts are of Unicode scalar values: parts, pieces, reprs, names and messages.
use Rattle.std.specs.Prelude.{◌≡◌, ℕ, zero, suc, ◌-◌, ◌/◌, ◌%◌, ◌<◌, ◌==◌, Bool, true, false, ◌&&◌, not, cond, IsTrue, if◌then◌else◌, ℤ, pos, negsuc, List, [], ◌∷◌, ◌++◌, length, map, reverse, replicate, codes, Option, Some, None, slice_get}
use Rattle.std.specs.Char.{digit_char}
use Rattle.std.specs.Fmt.{decimal, signed_decimal, digits, digits_onto, digit_glyph}
use Rattle.std.specs.List.{AllByRecursion as Each, flat_map, list_all, list_any, onto_first, slice_split}
use Rattle.std.specs.Ordering.{int_eq}
use Rattle.std.specs.Str.{all_scalars, chars, IsAscii}
use Rattle.std.proofs.Common.{refl, ap, ◌∙◌, arith}
use Rattle.std.proofs.lemmas.Bool.Decides.{nat_tests}
use Rattle.std.proofs.lemmas.Str.{chars-IsAscii}
use lib.Utf8.{scalar, low_scalar}
use Rattle.kishu_language.specs.tokens.Names.{is_word_char, begins_with_letter}
use Rattle.kishu_meaning.specs.values.BuiltinNames.{builtin_names, class_names}
use Rattle.kishu_meaning.specs.values.Keys as k
use Rattle.kishu_meaning.specs.values.Keys.{KeyPart, Key}
use Rattle.kishu_meaning.specs.values.Kinds.{kind_at, kind_in, in_quotes}
use Rattle.kishu_meaning.specs.values.Texts.{begins, pieces_behind, pieces, joined, replaced, words, is_nonempty, quote_of, letter_of, is_control, escaped_by, escaped, quoted, apostrophe, quotation_mark}
use Rattle.kishu_meaning.specs.values.Values.{Value, none, bool, integer, text, range, builtin, class, node, Node, list, tuple, dict, object, function, exception}
use Rattle.kishu_meaning.specs.values.White.{is_white, without_front, stripped}
use Rattle.kishu_meaning.specs.comparing.Show.{bool_text, or_empty, class_name, builtin_name, step_text, repr_text, part_text, key_text, tuple_end}
use Rattle.kishu_objects.specs.State.{IsValue, IsName, IsKey, IsKeyPart}
use Rattle.kishu_state_laws.specs.keeping.Logic.{Maybe, IsText, each_get}
use Rattle.kishu_state_laws.specs.keeping.Lists.{each_reverse, each_many, each_filter}
pub use Rattle.kishu_state_laws.specs.trees.Literals.{scalars_append}

both : (a b : Bool) → (a && b) ≡ true → (a ≡ true) × (b ≡ true)
both true b h = (refl, h)
both false b h = absurd cc

-- ---- code point by code point

abbrev pub IsScalar : ℕ → Type 0
IsScalar c = scalar c ≡ true

pub each_scalar : (cs : List ℕ) → IsText cs → Each IsScalar cs
each_scalar [] h = tt
each_scalar (c ∷ cs) h = let p = both (scalar c) (all_scalars cs) h in (p.0, each_scalar cs p.1)

pub of_scalars : (cs : List ℕ) → Each IsScalar cs → IsText cs
of_scalars [] h = refl
of_scalars (c ∷ cs) h = λ i. h.0 i && of_scalars cs h.1 i

pub one_text : (c : ℕ) → IsScalar c → IsText (c ∷ [])
one_text c h = ap (λ b. b && true) h

abbrev pub AreTexts : List (List ℕ) → Type 0
AreTexts = Each IsText

pub text_many : (n : ℕ) (cs : List ℕ) → IsText cs → IsText (flat_map (λ part. part) (replicate n cs))
text_many n cs h = of_scalars _ (each_many IsScalar n cs (each_scalar cs h))

-- ---- white space

front_scalars : (cs : List ℕ) → Each IsScalar cs → Each IsScalar (without_front cs)
front_scalars [] h = tt
front_scalars (c ∷ cs) h = front_if (is_white c) (front_scalars cs h.1)
  where
    front_if : (b : Bool) → Each IsScalar (without_front cs) → Each IsScalar (if b then without_front cs else c ∷ cs)
    front_if true k = k
    front_if false k = h

pub text_stripped : (cs : List ℕ) → IsText cs → IsText (stripped cs)
text_stripped cs h =
    of_scalars (stripped cs) (each_reverse IsScalar (without_front (reverse (without_front cs))) (front_scalars (reverse (without_front cs)) (each_reverse IsScalar (without_front cs) (front_scalars cs (each_scalar cs h)))))

-- ---- pieces

first_texts : (c : ℕ) (parts : List (List ℕ)) → IsScalar c → AreTexts parts → AreTexts (onto_first c parts)
first_texts c [] p h = (one_text c p, tt)
first_texts c (part ∷ parts) p h = ((λ i. p i && h.0 i), h.1)

split_texts : (cs : List ℕ) → Each IsScalar cs → AreTexts (slice_split is_white cs)
split_texts [] h = (refl, tt)
split_texts (c ∷ cs) h = split_if (is_white c) (split_texts cs h.1)
  where
    split_if : (b : Bool) → AreTexts (slice_split is_white cs) → AreTexts (cond b ([] ∷ slice_split is_white cs) (onto_first c (slice_split is_white cs)))
    split_if true k = (refl, k)
    split_if false k = first_texts c (slice_split is_white cs) h.0 k

pub texts_words : (cs : List ℕ) → IsText cs → AreTexts (words cs)
texts_words cs h = each_filter IsText is_nonempty (slice_split is_white cs) (split_texts cs (each_scalar cs h))

behind_texts : (part : List ℕ) (n : ℕ) (cs : List ℕ) → Each IsScalar cs → AreTexts (pieces_behind part n cs)
behind_texts part n [] h = (refl, tt)
behind_texts part (suc n) (c ∷ cs) h = behind_texts part n cs h.1
behind_texts part zero (c ∷ cs) h = piece_if (begins part (c ∷ cs)) (behind_texts part (length part - 1) cs h.1) (first_texts c (pieces_behind part zero cs) h.0 (behind_texts part zero cs h.1))
  where
    piece_if : (b : Bool) → AreTexts (pieces_behind part (length part - 1) cs) → AreTexts (onto_first c (pieces_behind part zero cs)) → AreTexts (if b then [] ∷ pieces_behind part (length part - 1) cs else onto_first c (pieces_behind part zero cs))
    piece_if true f g = (refl, f)
    piece_if false f g = g

pub texts_pieces : (part cs : List ℕ) → IsText cs → AreTexts (pieces part cs)
texts_pieces part cs h = behind_texts part 0 cs (each_scalar cs h)

further_text : (by : List ℕ) (parts : List (List ℕ)) → IsText by → AreTexts parts → IsText (flat_map (λ next. by ++ next) parts)
further_text by [] b h = refl
further_text by (part ∷ parts) b h = scalars_append (by ++ part) (flat_map (λ next. by ++ next) parts) (scalars_append by part b h.0) (further_text by parts b h.1)

pub text_joined : (by : List ℕ) (parts : List (List ℕ)) → IsText by → AreTexts parts → IsText (joined by parts)
text_joined by [] b h = refl
text_joined by (part ∷ parts) b h = scalars_append part (flat_map (λ next. by ++ next) parts) h.0 (further_text by parts b h.1)

pub text_replaced : (cs part by : List ℕ) → IsText cs → IsText by → IsText (replaced cs part by)
text_replaced cs part by h b = text_joined by (pieces part cs) b (texts_pieces part cs h)

-- ---- numbers

low : (c : ℕ) → c < 128 → IsScalar c
low c h = low_scalar c (omega (arith, h))

glyph : (d : ℕ) → IsScalar (digit_glyph false (d % 10))
glyph d = low (digit_glyph false (d % 10)) (glyph_low (d % 10) (omega arith))
  where
    glyph_low : (d : ℕ) → d < 10 → digit_glyph false d < 128
    glyph_low d h = grind (arith, nat_tests)

onto_scalars : (k n : ℕ) (acc : List ℕ) → Each IsScalar acc → Each IsScalar (digits_onto k 10 false n acc)
onto_scalars zero n acc h = h
onto_scalars (suc k) n acc h = digits_if (n / 10 == 0) (onto_scalars k (n / 10) (digit_glyph false (n % 10) ∷ acc) (glyph n, h))
  where
    digits_if : (b : Bool) → Each IsScalar (digits_onto k 10 false (n / 10) (digit_glyph false (n % 10) ∷ acc)) → Each IsScalar (if b then digit_glyph false (n % 10) ∷ acc else digits_onto k 10 false (n / 10) (digit_glyph false (n % 10) ∷ acc))
    digits_if true q = (glyph n, h)
    digits_if false q = q

pub text_decimal : (n : ℕ) → IsText (decimal n)
unfolding digits
text_decimal n = of_scalars (decimal n) (onto_scalars 64 n [] tt)

pub text_number : (z : ℤ) → IsText (signed_decimal z)
text_number (pos n) = text_decimal n
text_number (negsuc n) = scalars_append (45 ∷ []) (decimal (suc n)) refl (text_decimal (suc n))

-- ---- names

word_low : (c : ℕ) → is_word_char c ≡ true → c < 128
word_low c h = grind (arith, nat_tests)

word_ascii : (cs : List ℕ) → list_all is_word_char cs ≡ true → IsAscii cs
word_ascii [] h i = omega arith
word_ascii (c ∷ cs) h zero = word_low c (both (is_word_char c) (list_all is_word_char cs) h).0
word_ascii (c ∷ cs) h (suc i) = word_ascii cs (both (is_word_char c) (list_all is_word_char cs) h).1 i

word_scalars : (cs : List ℕ) → list_all is_word_char cs ≡ true → Each IsScalar cs
word_scalars [] h = tt
word_scalars (c ∷ cs) h = let p = both (is_word_char c) (list_all is_word_char cs) h in (low c (word_low c p.0), word_scalars cs p.1)

pub text_title : (x : List ℕ) → IsName x → IsText x
text_title x h = of_scalars x (word_scalars x (both (list_all is_word_char x) _ (both (begins_with_letter x) _ h).1).0)

pub text_name : (x : List ℕ) → IsName x → IsText (chars x)
text_name x h = ap all_scalars (chars-IsAscii x (word_ascii x (both (list_all is_word_char x) _ (both (begins_with_letter x) _ h).1).0)) ∙ text_title x h

all_texts : (names : List (List ℕ)) → IsTrue (list_all all_scalars names) → AreTexts names
all_texts [] h = tt
all_texts (x ∷ names) h = let p = both (all_scalars x) (list_all all_scalars names) h in (p.0, all_texts names p.1)

text_or_empty : (o : Option (List ℕ)) → Maybe IsText o → IsText (or_empty o)
text_or_empty None h = refl
text_or_empty (Some x) h = h

classes_texts : AreTexts class_names
unfolding class_names
classes_texts = all_texts class_names refl

builtins_texts : AreTexts builtin_names
unfolding builtin_names
builtins_texts = all_texts builtin_names refl

pub text_class : (n : ℕ) → IsText (class_name n)
text_class n = text_or_empty (slice_get class_names n) (each_get IsText class_names n classes_texts)

pub text_builtin : (n : ℕ) → IsText (builtin_name n)
text_builtin n = text_or_empty (slice_get builtin_names n) (each_get IsText builtin_names n builtins_texts)

-- ---- kinds

text_node_kind : (o : Option Node) → IsText (kind_at o)
text_node_kind None = refl
text_node_kind (Some (list vs)) = refl
text_node_kind (Some (tuple vs)) = refl
text_node_kind (Some (dict es)) = refl
text_node_kind (Some (object es)) = refl
text_node_kind (Some (function profile code vs)) = refl
text_node_kind (Some (exception kind vs)) = text_class kind

pub text_kind : (ns : List Node) (v : Value) → IsText (kind_in ns v)
text_kind ns none = refl
text_kind ns (bool b) = refl
text_kind ns (integer z) = refl
text_kind ns (text cs) = refl
text_kind ns (range a b c) = refl
text_kind ns (builtin n) = refl
text_kind ns (class n) = refl
text_kind ns (node i) = text_node_kind (slice_get ns i)

pub text_in_quotes : (cs : List ℕ) → IsText cs → IsText (in_quotes cs)
text_in_quotes cs h = scalars_append (codes "'") (cs ++ codes "'") refl (scalars_append cs (codes "'") h refl)

-- ---- reprs

hexadecimal_low : (d : ℕ) → d < 16 → digit_char d < 128
hexadecimal_low d h = grind (arith, nat_tests)

small_control : (c : ℕ) → is_control c ≡ true → c / 16 < 16
small_control c h = grind (arith, nat_tests)

escaped_text : (o : Option ℕ) (c : ℕ) → Maybe IsScalar o → IsScalar c → IsText (escaped_by o c)
escaped_text (Some letter) c p h = scalars_append (92 ∷ []) (letter ∷ []) refl (one_text letter p)
escaped_text None c p h = escaped_if (is_control c) refl
  where
    escaped_if : (b : Bool) → is_control c ≡ b → IsText (if b then 92 ∷ 120 ∷ digit_char (c / 16) ∷ digit_char (c % 16) ∷ [] else c ∷ [])
    escaped_if true e = of_scalars (92 ∷ 120 ∷ digit_char (c / 16) ∷ digit_char (c % 16) ∷ []) (refl, (refl, (low (digit_char (c / 16)) (hexadecimal_low (c / 16) (small_control c e)), (low (digit_char (c % 16)) (hexadecimal_low (c % 16) (omega arith)), tt))))
    escaped_if false e = one_text c h

letter_scalar : (quote c : ℕ) → IsScalar c → Maybe IsScalar (letter_of quote c)
letter_scalar quote c h = pick _ (Some c) _ h (pick (c == 10) (Some 110) _ refl (pick (c == 13) (Some 114) _ refl (pick (c == 9) (Some 116) None refl tt)))
  where
    pick : (b : Bool) (o p : Option ℕ) → Maybe IsScalar o → Maybe IsScalar p → Maybe IsScalar (if b then o else p)
    pick true o p f g = f
    pick false o p f g = g

escaped_all : (quote : ℕ) (cs : List ℕ) → Each IsScalar cs → IsText (flat_map (escaped quote) cs)
escaped_all quote [] h = refl
escaped_all quote (c ∷ cs) h = scalars_append (escaped quote c) (flat_map (escaped quote) cs) (escaped_text (letter_of quote c) c (letter_scalar quote c h.0) h.0) (escaped_all quote cs h.1)

quote_scalar : (b : Bool) → IsScalar (if b then 34 else 39)
quote_scalar true = refl
quote_scalar false = refl

pub text_quoted : (cs : List ℕ) → IsText cs → IsText (quoted cs)
text_quoted cs h =
    let q = one_text (quote_of cs) (quote_scalar (list_any (λ c. c == apostrophe) cs && not (list_any (λ c. c == quotation_mark) cs))) in
    scalars_append (quote_of cs ∷ []) (flat_map (escaped (quote_of cs)) cs ++ quote_of cs ∷ []) q
    (scalars_append (flat_map (escaped (quote_of cs)) cs) (quote_of cs ∷ []) (escaped_all (quote_of cs) cs (each_scalar cs h)) q)

pub text_bool : (b : Bool) → IsText (bool_text b)
text_bool true = refl
text_bool false = refl

step_shown : (b : Bool) (c : ℤ) → IsText (if b then [] else codes ", " ++ signed_decimal c)
step_shown true c = refl
step_shown false c = scalars_append (codes ", ") (signed_decimal c) refl (text_number c)

-- between two closed texts
pub text_between : (front cs back : List ℕ) → IsText front → IsText cs → IsText back → IsText (front ++ (cs ++ back))
text_between front cs back f h b = scalars_append front (cs ++ back) f (scalars_append cs back h b)

pub text_repr : (k : ℕ) (v : Value) → IsValue k v → IsText (repr_text v)
text_repr k none h = refl
text_repr k (bool b) h = text_bool b
text_repr k (integer z) h = text_number z
text_repr k (text cs) h = text_quoted cs h
text_repr k (range a b c) h =
    let first : IsText (codes "range(" ++ signed_decimal a ++ codes ", ") = text_between (codes "range(") (signed_decimal a) (codes ", ") refl (text_number a) refl in
    let second = scalars_append (codes "range(" ++ signed_decimal a ++ codes ", ") (signed_decimal b) first (text_number b) in
    let third = scalars_append (codes "range(" ++ signed_decimal a ++ codes ", " ++ signed_decimal b) (step_text c) second (step_shown (int_eq c (pos 1)) c) in
    scalars_append (codes "range(" ++ signed_decimal a ++ codes ", " ++ signed_decimal b ++ step_text c) (codes ")") third refl
text_repr k (builtin n) h = text_between (codes "<built-in function ") (builtin_name n) (codes ">") refl (text_builtin n) refl
text_repr k (class n) h = text_between (codes "<class '") (class_name n) (codes "'>") refl (text_class n) refl
text_repr k (node n) h = refl

text_part : (p : KeyPart) → IsKeyPart p → IsText (part_text p)
text_part k.none h = refl
text_part (k.bool b) h = text_bool b
text_part (k.integer z) h = text_number z
text_part (k.text cs) h = text_quoted cs h

texts_parts : (ps : List KeyPart) → Each IsKeyPart ps → AreTexts (map part_text ps)
texts_parts [] h = tt
texts_parts (p ∷ ps) h = (text_part p h.0, texts_parts ps h.1)

pub text_tuple_end : {A : Type 0} (as' : List A) → IsText (tuple_end as')
text_tuple_end [] = refl
text_tuple_end (a ∷ []) = refl
text_tuple_end (a ∷ (b ∷ as')) = refl

pub text_key : (key : Key) → IsKey key → IsText (key_text key)
text_key (k.single p) h = text_part p h
text_key (k.tuple ps) h = text_between (codes "(") (joined (codes ", ") (map part_text ps)) (tuple_end ps) refl (text_joined (codes ", ") (map part_text ps) refl (texts_parts ps h)) (text_tuple_end ps)
