-- Arguments by their number.
use Rattle.std.proofs.Common.{◌≡◌, ◌∙◌, ◌≢◌, ap, ap₂, sym, refl, arith, ℕ, ◌<◌, ◌≤◌, Bool, true, false, ◌&&◌, IsTrue, List, [], ◌∷◌, length, map, get_or, Option, Some, None}
use Rattle.std.specs.Prelude.{ℤ, codes, ◌==◌, if◌then◌else◌}
use Rattle.std.proofs.lemmas.Bool.Decides.{nat_tests}
use Rattle.std.proofs.lemmas.List.{length-map}
use Rattle.kishu_language.specs.declared.tree.Comparison.{Comparison}
use Rattle.kishu_meaning.specs.declared.value.Value as rust
use Rattle.kishu_meaning.specs.calls.Builtins.{of_one, of_two, of_none_or_one, best, best_of, range_from}
use Rattle.kishu_meaning.specs.calls.Callees.{construct, empty_object}
use Rattle.kishu_meaning.specs.values.Classes.{namespace_class}
use Rattle.kishu_meaning.specs.comparing.Equal.{number_in}
use Rattle.kishu_meaning.specs.values.Kinds.{bad_arguments}
use Rattle.kishu_meaning.specs.moments.Moment.{M, make}
use Rattle.kishu_meaning.specs.values.BuiltinNames.{class_names}
use Rattle.kishu_meaning.specs.values.Sound.{is_sound, are_sound, is_exception_class, classes}
use Rattle.kishu_meaning.specs.values.Values.{Value, value_of, object, exception}
use Rattle.kishu_meaning.specs.items.Walks.{along_tuple}
use Rattle.kishu_items.specs.Holding.{first, second}
use Rattle.kishu_builtins.specs.Called.{plainly}

-- ---- as many as these

pub one_is : (xs : List rust.Value) (x : rust.Value) → length xs ≡ 1 → x ≡ get_or xs 0 x → map value_of xs ≡ value_of x ∷ []
one_is [] x h e = absurd (omega arith)
one_is (y ∷ []) x h e = ap (λ z. value_of z ∷ []) (sym e)
one_is (y ∷ (z ∷ zs)) x h e = absurd (omega arith)

pub two_are : (xs : List rust.Value) (x y : rust.Value) → length xs ≡ 2 → x ≡ get_or xs 0 x → y ≡ get_or xs 1 y → map value_of xs ≡ value_of x ∷ value_of y ∷ []
two_are [] x y h e f = absurd (omega arith)
two_are (a ∷ []) x y h e f = absurd (omega arith)
two_are (a ∷ (b ∷ [])) x y h e f = ap₂ (λ v w. value_of v ∷ value_of w ∷ []) (sym e) (sym f)
two_are (a ∷ (b ∷ (c ∷ cs))) x y h e f = absurd (omega arith)

pub three_are : (xs : List rust.Value) (x y z : rust.Value) → length xs ≡ 3 → x ≡ get_or xs 0 x → y ≡ get_or xs 1 y → z ≡ get_or xs 2 z → map value_of xs ≡ value_of x ∷ value_of y ∷ value_of z ∷ []
three_are [] x y z h e f g = absurd (omega arith)
three_are (a ∷ []) x y z h e f g = absurd (omega arith)
three_are (a ∷ (b ∷ [])) x y z h e f g = absurd (omega arith)
three_are (a ∷ (b ∷ (c ∷ []))) x y z h e f g = rw (← e, ← f, ← g) refl
three_are (a ∷ (b ∷ (c ∷ (d ∷ ds)))) x y z h e f g = absurd (omega arith)

pub none_are : (xs : List rust.Value) → length xs ≡ 0 → map value_of xs ≡ []
none_are [] h = refl
none_are (x ∷ xs) h = absurd (omega arith)

pub several_are : (xs : List rust.Value) → length xs ≢ 0 → length xs ≢ 1 → 1 < length (map value_of xs)
several_are [] p q = absurd (p refl)
several_are (x ∷ []) p q = absurd (q refl)
several_are (x ∷ (y ∷ xs)) p q = omega arith

pub not_single : (xs : List rust.Value) → length xs ≢ 1 → length (map value_of xs) ≢ 1
not_single xs h e = h (sym (length-map xs value_of) ∙ e)

pub item_sound : (n : ℕ) (v : Value) (vs ws : List Value) → vs ≡ v ∷ ws → IsTrue (are_sound n vs) → IsTrue (is_sound n v)
item_sound n v vs ws e h = first (is_sound n v) (are_sound n ws) (rw e at h)

pub second_sound : (n : ℕ) (v w : Value) (vs ws : List Value) → vs ≡ v ∷ w ∷ ws → IsTrue (are_sound n vs) → IsTrue (is_sound n w)
second_sound n v w vs ws e h = first (is_sound n w) (are_sound n ws) (second (is_sound n v) (is_sound n w && are_sound n ws) (rw e at h))

-- ---- rows with another number of arguments

pub not_one : (name : List ℕ) (f : Value → M Value) (vs : List Value) → length vs ≢ 1 → of_one name f vs ≡ bad_arguments name
not_one name f [] h = refl
not_one name f (v ∷ []) h = absurd (h refl)
not_one name f (v ∷ (w ∷ vs)) h = refl

pub not_two : (name : List ℕ) (f : Value → Value → M Value) (vs : List Value) → length vs ≢ 2 → of_two name f vs ≡ bad_arguments name
not_two name f [] h = refl
not_two name f (v ∷ []) h = refl
not_two name f (v ∷ (w ∷ [])) h = absurd (h refl)
not_two name f (v ∷ (w ∷ (x ∷ vs))) h = refl

pub more_than_one : (name : List ℕ) (empty : M Value) (f : Value → M Value) (vs : List Value) → 1 < length vs → of_none_or_one name empty f vs ≡ bad_arguments name
more_than_one name empty f [] h = absurd (omega arith)
more_than_one name empty f (v ∷ []) h = absurd (omega arith)
more_than_one name empty f (v ∷ (w ∷ vs)) h = refl

pub several : (name : List ℕ) (comparison : Comparison) (vs : List Value) → 1 < length vs → best name comparison vs ≡ best_of comparison (along_tuple vs)
several name comparison [] h = absurd (omega arith)
several name comparison (v ∷ []) h = absurd (omega arith)
several name comparison (v ∷ (w ∷ vs)) h = refl

four_or_more : (a b c d : Option ℤ) (rest : List (Option ℤ)) → range_from (a ∷ (b ∷ (c ∷ (d ∷ rest)))) ≡ bad_arguments (codes "range")
four_or_more (Some a) (Some b) (Some c) d rest = refl
four_or_more (Some a) (Some b) None d rest = refl
four_or_more (Some a) None (Some c) d rest = refl
four_or_more (Some a) None None d rest = refl
four_or_more None (Some b) (Some c) d rest = refl
four_or_more None (Some b) None d rest = refl
four_or_more None None (Some c) d rest = refl
four_or_more None None None d rest = refl

pub no_range : (vs : List Value) → length vs ≢ 1 → length vs ≢ 2 → length vs ≢ 3 → range_from (map number_in vs) ≡ bad_arguments (codes "range")
no_range [] p q r = refl
no_range (a ∷ []) p q r = absurd (p refl)
no_range (a ∷ (b ∷ [])) p q r = absurd (q refl)
no_range (a ∷ (b ∷ (c ∷ []))) p q r = absurd (r refl)
no_range (a ∷ (b ∷ (c ∷ (d ∷ ds)))) p q r = four_or_more (number_in a) (number_in b) (number_in c) (number_in d) (map number_in ds)

not_nothing : (n : ℕ) → n ≢ 0 → (n == 0) ≡ false
not_nothing n h = grind (arith, nat_tests)

otherwise : (x : Bool) (m n : M Value) → x ≡ false → (if x then m else n) ≡ n
otherwise true m n p = absurd cc
otherwise false m n p = refl

pub no_object : (vs : List rust.Value) → length vs ≢ 0 → empty_object (map value_of vs) ≡ bad_arguments (codes "SimpleNamespace")
unfolding class_names
no_object vs h = otherwise (length (map value_of vs) == 0) (make (object [])) (bad_arguments (codes "SimpleNamespace")) (not_nothing (length (map value_of vs)) (λ e. h (sym (length-map vs value_of) ∙ e)))

-- ---- exceptions

pub from_eight : (n : ℕ) → 8 ≤ n → n < classes → is_exception_class n ≡ true
from_eight n p q = grind (arith, nat_tests)

no_namespace : (n : ℕ) → 8 ≤ n → (n == namespace_class) ≡ false
no_namespace n p = grind (arith, nat_tests)

either_way : (x y : Bool) (a b c : M Value) → x ≡ false → y ≡ true → (if x then a else (if y then b else c)) ≡ b
either_way true y a b c p q = absurd cc
either_way false true a b c p q = refl
either_way false false a b c p q = absurd cc

pub exception_made : (n : ℕ) (vs : List Value) → 8 ≤ n → n < classes → construct n (plainly vs) ≡ make (exception n vs)
exception_made n vs p q = either_way (n == namespace_class) (is_exception_class n) _ (make (exception n vs)) _ (no_namespace n p) (from_eight n p q)
