-- The characters of texts that are put together.
use Rattle.std.proofs.Common.{◌≡◌, ◌∙◌, ap, refl, arith, ℕ, zero, suc, Bool, true, false, ◌&&◌, List, [], ◌∷◌, ◌++◌, IfOk, Result, Ok, Err, append_assoc}
use Rattle.std.specs.Prelude.{slice_get, nat_lt, codes}
use Rattle.std.specs.List.{list_all}
use Rattle.std.specs.String.{string_bytes}
use Rattle.std.specs.Prelude.{OnOk, replicate, ◌==◌, length, ◌≤◌, is_ok, if◌then◌else◌}
use Rattle.std.specs.List.{flat_map}
use Rattle.std.proofs.lemmas.Str.{encodes-chars, length-le-encodes}
use Rattle.std.proofs.Math.Utf8.{encodes}
use Rattle.std.specs.declared.alloc.Global.{Global}
use Rattle.std.specs.declared.string.String.{String}
use Rattle.std.specs.Str.{chars, IsUtf8, IsAscii}
use Rattle.std.proofs.lemmas.Str.{chars-append, chars-IsAscii, IsUtf8-from_ascii}
use Rattle.kishu_meaning.specs.values.BuiltinNames.{class_names}
use Rattle.kishu_meaning.specs.comparing.Show.{or_empty, class_name}
use borrow.Author.Tests.{ltb-true}

is_both : (a b : Bool) → (a && b) ≡ true → (a ≡ true) × (b ≡ true)
is_both true b e = (refl, e)
is_both false b e = absurd (cc e)

abbrev pub is_plain : List ℕ → Bool
is_plain = list_all (λ c. nat_lt c 128)

pub plain-IsAscii : (bs : List ℕ) → is_plain bs ≡ true → IsAscii bs
plain-IsAscii [] e i = omega arith
plain-IsAscii (b ∷ bs) e zero = ltb-true b 128 (is_both (nat_lt b 128) (is_plain bs) e).0
plain-IsAscii (b ∷ bs) e (suc i) = plain-IsAscii bs (is_both (nat_lt b 128) (is_plain bs) e).1 i

pub chars-plain : (bs : List ℕ) → is_plain bs ≡ true → chars bs ≡ bs
chars-plain bs e = chars-IsAscii bs (plain-IsAscii bs e)

pub ok_chars : {E : Type 0} (r : Result (String Global) E) (bs ds : List ℕ) → chars bs ≡ ds → IfOk r (λ s. string_bytes s ≡ bs) → IfOk r (λ s. chars (string_bytes s) ≡ ds)
ok_chars (Ok s) bs ds e h = ap chars h ∙ e
ok_chars (Err x) bs ds e h = tt

pub chars_behind : (x back : List ℕ) → IsUtf8 x → is_plain back ≡ true → chars (x ++ back) ≡ chars x ++ back
chars_behind x back u e = chars-append x back u ∙ ap (λ y. chars x ++ y) (chars-plain back e)

pub chars_before : (front x : List ℕ) → is_plain front ≡ true → chars (front ++ x) ≡ front ++ chars x
chars_before front x e = chars-append front x (IsUtf8-from_ascii front (plain-IsAscii front e)) ∙ ap (λ y. y ++ chars x) (chars-plain front e)

-- a quoted name, with a text before it and one behind
pub chars_quoted : (front name back : List ℕ) → is_plain front ≡ true → IsUtf8 name → is_plain back ≡ true
    → chars (front ++ (codes "'" ++ (name ++ (codes "'" ++ back)))) ≡ front ++ (codes "'" ++ chars name ++ codes "'") ++ back
chars_quoted front name back e u f =
    chars_before front (codes "'" ++ (name ++ (codes "'" ++ back))) e
    ∙ ap (λ y. front ++ y) (chars_before (codes "'") (name ++ (codes "'" ++ back)) refl)
    ∙ ap (λ y. front ++ (codes "'" ++ y)) (chars_behind name (codes "'" ++ back) u f)
    ∙ simp append_assoc

-- ---- names of classes

pub name-plain : (ws : List (List ℕ)) (n : ℕ) → list_all is_plain ws ≡ true → is_plain (or_empty (slice_get ws n)) ≡ true
name-plain [] n e = refl
name-plain (w ∷ ws) zero e = (is_both (is_plain w) (list_all is_plain ws) e).0
name-plain (w ∷ ws) (suc n) e = name-plain ws n (is_both (is_plain w) (list_all is_plain ws) e).1

-- ---- texts behind others

pub pushed_text : {T E : Type 0} (r : Result T E) (new old more : List ℕ) → IsUtf8 old → new ≡ (if is_ok r then old ++ more else old) → OnOk r (chars new ≡ chars old ++ chars more)
pushed_text (Ok x) new old more v e = ap chars e ∙ chars-append old more v
pushed_text (Err x) new old more v e = tt

-- a sign in a text, before a kind in quotes
pub plain_both : (a b : List ℕ) → is_plain a ≡ true → is_plain b ≡ true → is_plain (a ++ b) ≡ true
plain_both [] b e f = f
plain_both (x ∷ a) b e f =
    let h = is_both (nat_lt x 128) (is_plain a) e in
    rw h.0 (plain_both a b h.1 f)

-- ---- the empty text

none_of : (cs : List ℕ) → (length cs == 0) ≡ (length (encodes cs) == 0)
none_of [] = refl
none_of (c ∷ cs) =
    let some : 1 ≤ length (encodes (c ∷ cs)) = omega (arith, length-le-encodes (c ∷ cs)) in
    grind arith

pub is_nothing : (bs : List ℕ) → IsUtf8 bs → (length (chars bs) == 0) ≡ (length bs == 0)
is_nothing bs v = none_of (chars bs) ∙ ap (λ x. length x == 0) (encodes-chars bs v)

-- ---- texts of nothing

pub nothing_many : (cs : List ℕ) (n : ℕ) → length cs ≡ 0 → [] ≡ flat_map (λ part. part) (replicate n cs)
nothing_many [] zero h = refl
nothing_many [] (suc n) h = nothing_many [] n h
nothing_many (c ∷ cs) n h = absurd (omega arith)

-- ---- signs and attributes

regroup_operand : (a s b q k : List ℕ) → a ++ (s ++ ((b ++ q) ++ (k ++ q))) ≡ a ++ s ++ b ++ (q ++ k ++ q)
regroup_operand a s b q k = simp append_assoc

-- a sign, and behind it a quoted kind
pub chars_operand : (sign kind : List ℕ) → is_plain sign ≡ true → IsUtf8 kind
    → chars (codes "bad operand type for " ++ (sign ++ (codes ": '" ++ (kind ++ codes "'")))) ≡ codes "bad operand type for " ++ sign ++ codes ": " ++ (codes "'" ++ chars kind ++ codes "'")
chars_operand sign kind e u =
    chars_before (codes "bad operand type for ") _ refl
    ∙ ap (λ y. codes "bad operand type for " ++ y) (chars_before sign _ e)
    ∙ ap (λ y. codes "bad operand type for " ++ (sign ++ y)) (chars_before (codes ": '") _ refl)
    ∙ ap (λ y. codes "bad operand type for " ++ (sign ++ (codes ": '" ++ y))) (chars_behind kind (codes "'") u refl)
    ∙ regroup_operand (codes "bad operand type for ") sign (codes ": ") (codes "'") (chars kind)

regroup_attribute : (q k m n : List ℕ) → q ++ (k ++ ((q ++ m) ++ (n ++ q))) ≡ (q ++ k ++ q) ++ m ++ n ++ q
regroup_attribute q k m n = simp append_assoc

-- a quoted kind, and behind it a quoted attribute
pub chars_attribute : (kind name : List ℕ) → IsUtf8 kind → IsUtf8 name
    → chars (codes "'" ++ (kind ++ (codes "' object has no attribute '" ++ (name ++ codes "'")))) ≡ (codes "'" ++ chars kind ++ codes "'") ++ codes " object has no attribute '" ++ chars name ++ codes "'"
chars_attribute kind name u v =
    chars_before (codes "'") _ refl
    ∙ ap (λ y. codes "'" ++ y) (chars-append kind _ u)
    ∙ ap (λ y. codes "'" ++ (chars kind ++ y)) (chars_before (codes "' object has no attribute '") _ refl)
    ∙ ap (λ y. codes "'" ++ (chars kind ++ (codes "' object has no attribute '" ++ y))) (chars_behind name (codes "'") v refl)
    ∙ regroup_attribute (codes "'") (chars kind) (codes " object has no attribute '") (chars name)
