-- The characters of texts that are put together.
use Rattle.std.proofs.Common.{◌≡◌, ◌∙◌, ◌≤◌, ◌==◌, length, ap, refl, arith, ℕ, zero, suc, Bool, true, false, ◌&&◌, List, [], ◌∷◌, ◌++◌, IfOk, Result, Ok, Err, append_assoc}
use Rattle.std.specs.Prelude.{slice_get, nat_lt, codes}
use Rattle.std.specs.List.{list_all}
use Rattle.std.specs.String.{string_bytes}
use Rattle.std.specs.declared.alloc.Global.{Global}
use Rattle.std.specs.declared.string.String.{String}
use Rattle.std.specs.Str.{chars, IsUtf8, IsAscii}
use Rattle.std.proofs.lemmas.Str.{chars-append, chars-IsAscii, IsUtf8-from_ascii, encodes-chars, length-le-encodes}
use Rattle.std.proofs.Math.Utf8.{encodes}
use Rattle.kishu_meaning.specs.values.BuiltinNames.{class_names}
use Rattle.kishu_meaning.specs.comparing.Show.{or_empty, class_name}
use borrow.Author.Tests.{ltb-true}

is_both : (a b : Bool) → (a && b) ≡ true → (a ≡ true) × (b ≡ true)
is_both true b e = (refl, e)
is_both false b e = absurd (cc e)

abbrev pub is_plain : List ℕ → Bool
is_plain = list_all (λ c. nat_lt c 128)

pub plain-IsAscii : (bs : List ℕ) → is_plain bs ≡ true → IsAscii bs
plain-IsAscii [] e i = omega arith
plain-IsAscii (b ∷ bs) e zero = ltb-true b 128 (is_both (nat_lt b 128) (is_plain bs) e).0
plain-IsAscii (b ∷ bs) e (suc i) = plain-IsAscii bs (is_both (nat_lt b 128) (is_plain bs) e).1 i

pub chars-plain : (bs : List ℕ) → is_plain bs ≡ true → chars bs ≡ bs
chars-plain bs e = chars-IsAscii bs (plain-IsAscii bs e)

pub ok_plain : {E : Type 0} (r : Result (String Global) E) (bs : List ℕ) → is_plain bs ≡ true → IfOk r (λ s. string_bytes s ≡ bs) → IfOk r (λ s. chars (string_bytes s) ≡ bs)
ok_plain (Ok s) bs e h = ap chars h ∙ chars-plain bs e
ok_plain (Err x) bs e h = tt

pub ok_chars : {E : Type 0} (r : Result (String Global) E) (bs ds : List ℕ) → chars bs ≡ ds → IfOk r (λ s. string_bytes s ≡ bs) → IfOk r (λ s. chars (string_bytes s) ≡ ds)
ok_chars (Ok s) bs ds e h = ap chars h ∙ e
ok_chars (Err x) bs ds e h = tt

pub ok_same : {T E : Type 0} (f : T → List ℕ) (r : Result T E) (bs ds : List ℕ) → bs ≡ ds → IfOk r (λ s. f s ≡ bs) → IfOk r (λ s. f s ≡ ds)
ok_same f (Ok s) bs ds e h = h ∙ e
ok_same f (Err x) bs ds e h = tt

pub chars_behind : (x back : List ℕ) → IsUtf8 x → is_plain back ≡ true → chars (x ++ back) ≡ chars x ++ back
chars_behind x back u e = chars-append x back u ∙ ap (λ y. chars x ++ y) (chars-plain back e)

pub chars_before : (front x : List ℕ) → is_plain front ≡ true → chars (front ++ x) ≡ front ++ chars x
chars_before front x e = chars-append front x (IsUtf8-from_ascii front (plain-IsAscii front e)) ∙ ap (λ y. y ++ chars x) (chars-plain front e)

-- a quoted name, with a text before it and one behind
pub chars_quoted : (front name back : List ℕ) → is_plain front ≡ true → IsUtf8 name → is_plain back ≡ true
    → chars (front ++ (codes "'" ++ (name ++ (codes "'" ++ back)))) ≡ front ++ (codes "'" ++ chars name ++ codes "'") ++ back
chars_quoted front name back e u f =
    chars_before front (codes "'" ++ (name ++ (codes "'" ++ back))) e
    ∙ ap (λ y. front ++ y) (chars_before (codes "'") (name ++ (codes "'" ++ back)) refl)
    ∙ ap (λ y. front ++ (codes "'" ++ y)) (chars_behind name (codes "'" ++ back) u f)
    ∙ simp append_assoc

-- ---- names of classes

pub name-plain : (ws : List (List ℕ)) (n : ℕ) → list_all is_plain ws ≡ true → is_plain (or_empty (slice_get ws n)) ≡ true
name-plain [] n e = refl
name-plain (w ∷ ws) zero e = (is_both (is_plain w) (list_all is_plain ws) e).0
name-plain (w ∷ ws) (suc n) e = name-plain ws n (is_both (is_plain w) (list_all is_plain ws) e).1

pub chars-class : (n : ℕ) → chars (class_name n) ≡ class_name n
unfolding class_names
chars-class n = chars-plain (class_name n) (name-plain class_names n refl)

regroup : (a s b q l m r : List ℕ) → a ++ (s ++ ((b ++ q) ++ (l ++ ((q ++ (m ++ q)) ++ (r ++ q))))) ≡ a ++ s ++ b ++ (q ++ l ++ q) ++ m ++ (q ++ r ++ q)
regroup a s b q l m r = simp append_assoc

-- two quoted names behind a sign
pub chars_operands : (sign left right : List ℕ) → is_plain sign ≡ true → IsUtf8 left → IsUtf8 right
    → chars (codes "bad operand types for " ++ (sign ++ (codes ": '" ++ (left ++ (codes "' and '" ++ (right ++ codes "'"))))))
    ≡ codes "bad operand types for " ++ sign ++ codes ": " ++ (codes "'" ++ chars left ++ codes "'") ++ codes " and " ++ (codes "'" ++ chars right ++ codes "'")
chars_operands sign left right e u v =
    chars_before (codes "bad operand types for ") _ refl
    ∙ ap (λ y. codes "bad operand types for " ++ y) (chars_before sign _ e)
    ∙ ap (λ y. codes "bad operand types for " ++ (sign ++ y)) (chars_before (codes ": '") _ refl)
    ∙ ap (λ y. codes "bad operand types for " ++ (sign ++ (codes ": '" ++ y))) (chars-append left _ u)
    ∙ ap (λ y. codes "bad operand types for " ++ (sign ++ (codes ": '" ++ (chars left ++ y)))) (chars_before (codes "' and '") _ refl)
    ∙ ap (λ y. codes "bad operand types for " ++ (sign ++ (codes ": '" ++ (chars left ++ (codes "' and '" ++ y))))) (chars_behind right (codes "'") v refl)
    ∙ regroup (codes "bad operand types for ") sign (codes ": ") (codes "'") (chars left) (codes " and ") (chars right)

-- ---- the empty text

none_of : (cs : List ℕ) → (length cs == 0) ≡ (length (encodes cs) == 0)
none_of [] = refl
none_of (c ∷ cs) =
    let some : 1 ≤ length (encodes (c ∷ cs)) = omega (arith, length-le-encodes (c ∷ cs)) in
    grind arith

pub is_nothing : (bs : List ℕ) → IsUtf8 bs → (length (chars bs) == 0) ≡ (length bs == 0)
is_nothing bs v = none_of (chars bs) ∙ ap (λ x. length x == 0) (encodes-chars bs v)
