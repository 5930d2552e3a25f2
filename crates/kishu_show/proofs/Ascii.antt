-- The characters of texts that are put together.
use Rattle.std.proofs.Common.{◌≡◌, ◌∙◌, ap, refl, arith, ℕ, zero, suc, Bool, true, false, ◌&&◌, List, [], ◌∷◌, ◌++◌, OnOk, IfOk, Result, Ok, Err}
use lib.Signed.{mag}
use Rattle.std.specs.Prelude.{ℤ, pos, negsuc, decimal, ◌<◌, ◌^◌, slice_get, nat_lt, codes, is_ok, if◌then◌else◌}
use Rattle.std.specs.Fmt.{signed_decimal}
use Rattle.std.specs.List.{list_all}
use Rattle.std.specs.String.{string_bytes}
use Rattle.std.specs.declared.alloc.Global.{Global}
use Rattle.std.specs.declared.string.String.{String}
use Rattle.std.specs.Str.{chars, IsUtf8, IsAscii}
use Rattle.std.proofs.lemmas.Fmt.{IsAscii-decimal_wide}
use Rattle.std.proofs.lemmas.Str.{chars-append, chars-nil, chars-IsAscii, IsAscii-append}
use Rattle.kishu_meaning.specs.values.BuiltinNames.{builtin_names, class_names}
use Rattle.kishu_meaning.specs.comparing.Show.{or_empty, builtin_name, class_name}
use borrow.Author.Tests.{ltb-true}

is_both : (a b : Bool) → (a && b) ≡ true → (a ≡ true) × (b ≡ true)
is_both true b e = (refl, e)
is_both false b e = absurd (cc e)

pub all-IsAscii : (bs : List ℕ) → list_all (λ c. nat_lt c 128) bs ≡ true → IsAscii bs
all-IsAscii [] e i = omega arith
all-IsAscii (b ∷ bs) e zero = ltb-true b 128 (is_both (nat_lt b 128) (list_all (λ c. nat_lt c 128) bs) e).0
all-IsAscii (b ∷ bs) e (suc i) = all-IsAscii bs (is_both (nat_lt b 128) (list_all (λ c. nat_lt c 128) bs) e).1 i

pub chars-plain : (bs : List ℕ) → list_all (λ c. nat_lt c 128) bs ≡ true → chars bs ≡ bs
chars-plain bs e = chars-IsAscii bs (all-IsAscii bs e)

pub pushed_text : {T E : Type 0} (r : Result T E) (new old more : List ℕ) → IsUtf8 old → new ≡ (if is_ok r then old ++ more else old) → OnOk r (chars new ≡ chars old ++ chars more)
pushed_text (Ok x) new old more v e = ap chars e ∙ chars-append old more v
pushed_text (Err x) new old more v e = tt

pub pushed_plain : {T E : Type 0} (r : Result T E) (new old bs : List ℕ) → chars bs ≡ bs → OnOk r (new ≡ old ++ chars bs) → OnOk r (new ≡ old ++ bs)
pushed_plain (Ok x) new old bs e h = h ∙ ap (λ y. old ++ y) e
pushed_plain (Err x) new old bs e h = tt

-- a text of ASCII characters, of whose bytes a call says what they are
pub ok_ascii : {E : Type 0} (r : Result (String Global) E) (bs : List ℕ) → IsAscii bs → IfOk r (λ s. string_bytes s ≡ bs) → IfOk r (λ s. chars (string_bytes s) ≡ bs)
ok_ascii (Ok s) bs e h = ap chars h ∙ chars-IsAscii bs e
ok_ascii (Err x) bs e h = tt

-- ---- names of builtin functions and classes

all_at : (ws : List (List ℕ)) (n : ℕ) → list_all (λ w. list_all (λ c. nat_lt c 128) w) ws ≡ true → list_all (λ c. nat_lt c 128) (or_empty (slice_get ws n)) ≡ true
all_at [] n e = refl
all_at (w ∷ ws) zero e = (is_both (list_all (λ c. nat_lt c 128) w) (list_all (λ v. list_all (λ c. nat_lt c 128) v) ws) e).0
all_at (w ∷ ws) (suc n) e = all_at ws n (is_both (list_all (λ c. nat_lt c 128) w) (list_all (λ v. list_all (λ c. nat_lt c 128) v) ws) e).1

pub class_plain : (n : ℕ) → list_all (λ c. nat_lt c 128) (class_name n) ≡ true
unfolding class_names
class_plain n = all_at class_names n refl

builtin_plain : (n : ℕ) → list_all (λ c. nat_lt c 128) (builtin_name n) ≡ true
unfolding builtin_names
builtin_plain n = all_at builtin_names n refl

pub builtin-IsAscii : (n : ℕ) → IsAscii (codes "<built-in function " ++ builtin_name n ++ codes ">")
builtin-IsAscii n =
    let begin = codes "<built-in function " in
    IsAscii-append (begin ++ builtin_name n) (codes ">") (IsAscii-append begin (builtin_name n) (all-IsAscii begin refl) (all-IsAscii (builtin_name n) (builtin_plain n))) (all-IsAscii (codes ">") refl)

pub class-IsAscii : (n : ℕ) → IsAscii (codes "<class '" ++ class_name n ++ codes "'>")
class-IsAscii n =
    let begin = codes "<class '" in
    IsAscii-append (begin ++ class_name n) (codes "'>") (IsAscii-append begin (class_name n) (all-IsAscii begin refl) (all-IsAscii (class_name n) (class_plain n))) (all-IsAscii (codes "'>") refl)

-- ---- numbers

pub signed-IsAscii : (z : ℤ) → mag z < 2 ^ 127 → IsAscii (signed_decimal z)
signed-IsAscii (pos n) h = IsAscii-decimal_wide n (omega (arith, h))
signed-IsAscii (negsuc n) h = IsAscii-append (codes "-") (decimal (suc n)) (all-IsAscii (codes "-") refl) (IsAscii-decimal_wide (suc n) (omega (arith, h)))

pub pushed_ascii : {T E : Type 0} (r : Result T E) (new old more bs : List ℕ) → more ≡ bs → IsAscii bs → OnOk r (new ≡ old ++ chars more) → OnOk r (new ≡ old ++ bs)
pushed_ascii (Ok x) new old more bs e a h = h ∙ ap (λ y. old ++ y) (ap chars e ∙ chars-IsAscii bs a)
pushed_ascii (Err x) new old more bs e a h = tt

pub no_text : (bs : List ℕ) → bs ≡ [] → chars bs ≡ []
no_text bs e = ap chars e ∙ chars-nil
