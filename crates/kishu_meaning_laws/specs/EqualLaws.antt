-- Two ranges are equal just where they have the same numbers, and two keys are one just where their values are equal (Library Reference, "Ranges" and
-- "Mapping Types"; Python Language Reference 3, "Value comparisons").
use Rattle.std.specs.Prelude.{◌≡◌, ◌≢◌, ℕ, zero, suc, ◌+◌, ◌-◌, ◌*◌, ◌/◌, ◌<◌, ◌≤◌, ◌==◌, nat_lt, nat_le, ℤ, pos, negsuc, ◌+ℤ◌, ◌-ℤ◌, ◌*ℤ◌, ◌<ℤ◌, int_lt, unsigned_abs, Bool, true, false, ◌&&◌, ◌||◌, if◌then◌else◌, List, [], ◌∷◌, length, map, slice_get, Option, Some, None, option_and_then}
use Rattle.std.specs.Bool.{Decides, beq}
use Rattle.std.specs.Ordering.{int_eq}
use Rattle.std.specs.Cmp.Lexicographic.{pointwise, unequal}
use Rattle.std.specs.Str.{bytes_eq}
use Rattle.std.proofs.Common.{T, refl, sym, ap, ap₂, subst, subst₂, ◌∙◌, inl, inr, ◌⊎◌, ⊎_elim, true≢false, arith, mul_comm, le-div_iff_mul-le, zero-lt-suc}
use Rattle.std.proofs.Math.Bool.{and-true}
use Rattle.std.proofs.lemmas.Int.{ints}
use Rattle.std.proofs.lemmas.Bool.{cases_lt}
use Rattle.std.proofs.lemmas.Bool.Decides.{Decides-and, Decides-or, Decides-eqb, Decides-int_eq, Decides-ltb, Decides-like}
use Rattle.std.proofs.lemmas.Option.{none-some, same_Some, slice_get_past}
use Rattle.kishu_meaning.specs.values.Keys as k
use Rattle.kishu_meaning.specs.values.Keys.{KeyPart, Key, number_of_bool, part_kind, part_number, part_text, is_one_part, is_one}
use Rattle.kishu_meaning.specs.values.Values.{Value, none, bool, integer, text, range, node, Node, tuple}
use Rattle.kishu_meaning.specs.values.Texts.{places}
use Rattle.kishu_meaning.specs.values.Nodes.{value_at, with_entry, on_dict, insert, dict_in, value_under, changed, found}
use Rattle.kishu_meaning.specs.moments.Moment.{most_depth}
use Rattle.kishu_meaning.specs.moments.Counting.{Count, Counted, answer, too_deep, spent, and_then, ◌>>=◌, ◌>>◌, give, spend}
use Rattle.kishu_meaning.specs.comparing.Equal.{is_same, pair_steps, steps_between, range_length, same_numbers, is_equal, equal_by, pair_equal, items_equal, lists_equal, nodes_equal, equal_nodes, equal_in, room_at}
use Rattle.kishu_meaning.specs.items.KeyOf.{value_of_part}

-- ---- the numbers of a range

-- The number at place i, counted from 0, is start + step * i.
abbrev pub number_at : ℤ → ℤ → ℕ → ℤ
number_at start step i = start +ℤ step *ℤ pos i

-- whether a number lies before the stop: below it, or above it for a step below 0
abbrev pub is_before : ℤ → ℤ → ℤ → Bool
is_before stop (pos n) z = int_lt z stop
is_before stop (negsuc n) z = int_lt stop z

-- what a range has at place i: that number, where it lies before the stop, and else nothing
abbrev pub range_at : ℤ → ℤ → ℤ → ℕ → Option ℤ
range_at start stop step i = if is_before stop step (number_at start step i) then Some (number_at start step i) else None

-- The list has at each place what the range has there.
pub record AreNumbers (start stop step : ℤ) (zs : List ℤ) : Type 0 where
  pub places : (i : ℕ) → slice_get zs i ≡ range_at start stop step i

-- These are the numbers of a value that is a range.
abbrev pub HasNumbers : List ℤ → Value → Type 0
HasNumbers zs (range start stop step) = AreNumbers start stop step zs
HasNumbers zs v = ⊥

-- One list has the numbers of both.
abbrev pub HaveSameNumbers : Value → Value → Type 0
HaveSameNumbers v w = (zs : List ℤ) × HasNumbers zs v × HasNumbers zs w

-- a range, whose step isn't 0
abbrev pub IsRange : Value → Type 0
IsRange v = (start : ℤ) × (stop : ℤ) × (step : ℤ) × (v ≡ range start stop step) × (step ≢ pos 0)

-- ---- a list by its places

same_by_places : {A : Type 0} (xs ys : List A) → ((i : ℕ) → slice_get xs i ≡ slice_get ys i) → xs ≡ ys
same_by_places [] [] h = refl
same_by_places [] (y ∷ ys) h = absurd (none-some y (h 0))
same_by_places (x ∷ xs) [] h = absurd (none-some x (sym (h 0)))
same_by_places (x ∷ xs) (y ∷ ys) h = ap₂ ◌∷◌ (same_Some x y (h 0)) (same_by_places xs ys (λ i. h (suc i)))

next_number : (start step : ℤ) (i : ℕ) → number_at (start +ℤ step) step i ≡ number_at start step (suc i)
next_number start (pos n) i = omega (arith, ints)
next_number start (negsuc n) i = omega (arith, ints)

first_number : (start step : ℤ) → start ≡ number_at start step 0
first_number start (pos n) = omega (arith, ints)
first_number start (negsuc n) = omega (arith, ints)

length_places : (start step : ℤ) (n : ℕ) → length (places start step n) ≡ n
length_places start step zero = refl
length_places start step (suc n) = ap suc (length_places (start +ℤ step) step n)

within : (start step : ℤ) (n i : ℕ) → i < n → slice_get (places start step n) i ≡ Some (number_at start step i)
within start step zero i h = absurd (omega (arith, h))
within start step (suc n) zero h = ap Some (first_number start step)
within start step (suc n) (suc i) h = within (start +ℤ step) step n i (omega (arith, h)) ∙ ap Some (next_number start step i)

past : (start step : ℤ) (n i : ℕ) → n ≤ i → slice_get (places start step n) i ≡ None
past start step n i h = slice_get_past (places start step n) i (omega (arith, h, length_places start step n))

-- ---- how many numbers a range has

is_so : (b : Bool) → T b → b ≡ true
is_so true h = refl
is_so false h = absurd h

int_lt_decides : (x y : ℤ) → Decides (int_lt x y) (x <ℤ y)
int_lt_decides x y = (λ e. record { lt = subst T (sym e) tt }, λ h. is_so (int_lt x y) h.lt)

distance : (from to z : ℤ) → z ≡ to -ℤ from → from <ℤ to → (to ≡ from +ℤ pos (unsigned_abs z)) × (0 < unsigned_abs z)
distance from to (pos d) e h = (omega (arith, ints), omega (arith, ints))
distance from to (negsuc d) e h = absurd (omega (arith, ints))

module _ (n i : ℕ) where
  counted_to : (d : ℕ) → 0 < d → i < (d - 1) / suc n + 1 → suc n * i < d
  counted_to d p h =
      let l : i * suc n ≤ d - 1 = (le-div_iff_mul-le (zero-lt-suc n)).0 (omega (arith, h)) in
      let m : suc n * i ≤ d - 1 = subst (λ x. x ≤ d - 1) (mul_comm i (suc n)) l in
      omega (arith, m, p)

  counts_to : (d : ℕ) → 0 < d → suc n * i < d → i < (d - 1) / suc n + 1
  counts_to d p h =
      let m : suc n * i ≤ d - 1 = omega (arith, h, p) in
      let l : i ≤ (d - 1) / suc n = (le-div_iff_mul-le (zero-lt-suc n)).1 (subst (λ x. x ≤ d - 1) (mul_comm (suc n) i) m) in
      omega (arith, l)

  plus_less : (from to : ℤ) (m d : ℕ) → to ≡ from +ℤ pos d → m < d → (from +ℤ pos m) <ℤ to
  plus_less from to m d e h = omega (arith, ints, e, h)

  less_plus : (from to : ℤ) (m d : ℕ) → to ≡ from +ℤ pos d → (from +ℤ pos m) <ℤ to → m < d
  less_plus from to m d e h = omega (arith, ints, e, h)

  steps_decide : (b : Bool) (from to : ℤ) → int_lt from to ≡ b
      → Decides (nat_lt i (if b then (unsigned_abs (to -ℤ from) - 1) / suc n + 1 else 0)) ((from +ℤ pos (suc n * i)) <ℤ to)
  steps_decide true from to e =
      let apart = distance from to (to -ℤ from) refl ((int_lt_decides from to).0 e) in
      let d = unsigned_abs (to -ℤ from) in
      Decides-like (nat_lt i ((d - 1) / suc n + 1))
      (λ h. plus_less from to (suc n * i) d apart.0 (counted_to d apart.1 h))
      (λ h. counts_to d apart.1 (less_plus from to (suc n * i) d apart.0 h))
      (Decides-ltb i ((d - 1) / suc n + 1))
  steps_decide false from to e =
      Decides-like (nat_lt i 0)
      (λ h. absurd (omega (arith, h)))
      (λ h. absurd (true≢false (sym ((int_lt_decides from to).1 (omega (arith, ints, h))) ∙ e)))
      (Decides-ltb i 0)

below_turned : (start stop : ℤ) (n i : ℕ) → (stop +ℤ pos (suc n * i)) <ℤ start → stop <ℤ number_at start (negsuc n) i
below_turned start stop n i h = omega (arith, ints, h)

turned_below : (start stop : ℤ) (n i : ℕ) → stop <ℤ number_at start (negsuc n) i → (stop +ℤ pos (suc n * i)) <ℤ start
turned_below start stop n i h = omega (arith, ints, h)

-- Place i is one of a range's just where the number there lies before the stop.
pub range_counts : (start stop step : ℤ) → step ≢ pos 0 → (i : ℕ) → Decides (is_before stop step (number_at start step i)) (i < range_length start stop step)
range_counts start stop (pos zero) h i = absurd (h refl)
range_counts start stop (pos (suc n)) h i =
    let place = Decides-ltb i (steps_between (suc n) start stop) in
    let steps = steps_decide n i (int_lt start stop) start stop refl in
    Decides-like (int_lt (number_at start (pos (suc n)) i) stop)
    (λ l. place.0 (steps.1 l))
    (λ l. steps.0 (place.1 l))
    (int_lt_decides (number_at start (pos (suc n)) i) stop)
range_counts start stop (negsuc n) h i =
    let place = Decides-ltb i (steps_between (suc n) stop start) in
    let steps = steps_decide n i (int_lt stop start) stop start refl in
    Decides-like (int_lt stop (number_at start (negsuc n) i))
    (λ l. place.0 (steps.1 (turned_below start stop n i l)))
    (λ l. below_turned start stop n i (steps.0 (place.1 l)))
    (int_lt_decides stop (number_at start (negsuc n) i))

not_within : (n i : ℕ) (b : Bool) → Decides b (i < n) → b ≡ false → n ≤ i
not_within n i b d e = ⊎_elim (λ l. absurd (true≢false (sym (d.1 l) ∙ e))) (λ l. l) (cases_lt i n)

as_the_range : (start stop step : ℤ) → step ≢ pos 0 → (i : ℕ) (b : Bool) → is_before stop step (number_at start step i) ≡ b
    → slice_get (places start step (range_length start stop step)) i ≡ (if b then Some (number_at start step i) else None)
as_the_range start stop step h i true e = within start step (range_length start stop step) i ((range_counts start stop step h i).0 e)
as_the_range start stop step h i false e =
    past start step (range_length start stop step) i (not_within (range_length start stop step) i (is_before stop step (number_at start step i)) (range_counts start stop step h i) e)

-- The items by which a range is walked are its numbers.
pub range_numbers : (start stop step : ℤ) → step ≢ pos 0 → AreNumbers start stop step (places start step (range_length start stop step))
range_numbers start stop step h = record { places = λ i. as_the_range start stop step h i (is_before stop step (number_at start step i)) refl }

-- No other list is.
pub one_list : {start stop step : ℤ} (xs ys : List ℤ) → AreNumbers start stop step xs → AreNumbers start stop step ys → xs ≡ ys
one_list xs ys h g = same_by_places xs ys (λ i. h.places i ∙ sym (g.places i))

-- ---- ranges are equal just where they have the same numbers

-- as many, the first the same where there is one, the step where there are two
abbrev SameParts : ℕ → ℕ → ℤ → ℤ → ℤ → ℤ → Type 0
SameParts n m a c d f = (n ≡ m) × ((n ≡ 0) ⊎ ((a ≡ d) × ((n ≡ 1) ⊎ (c ≡ f))))

parts_decide : (n m : ℕ) (a c d f : ℤ) → Decides (same_numbers (n, a, c) (m, d, f)) (SameParts n m a c d f)
parts_decide n m a c d f =
    Decides-and (n == m) (n == 0 || (int_eq a d && (n == 1 || int_eq c f))) (Decides-eqb n m)
    (Decides-or (n == 0) (int_eq a d && (n == 1 || int_eq c f)) (Decides-eqb n 0)
    (Decides-and (int_eq a d) (n == 1 || int_eq c f) (Decides-int_eq a d)
    (Decides-or (n == 1) (int_eq c f) (Decides-eqb n 1) (Decides-int_eq c f))))

same_list : (n : ℕ) (a c d f : ℤ) → (n ≡ 0) ⊎ ((a ≡ d) × ((n ≡ 1) ⊎ (c ≡ f))) → places a c n ≡ places d f n
same_list zero a c d f h = refl
same_list (suc zero) a c d f (inl e) = absurd (omega (arith, e))
same_list (suc zero) a c d f (inr h) = ap (λ z. z ∷ []) h.0
same_list (suc (suc n)) a c d f (inl e) = absurd (omega (arith, e))
same_list (suc (suc n)) a c d f (inr (e, inl g)) = absurd (omega (arith, g))
same_list (suc (suc n)) a c d f (inr (e, inr g)) = ap₂ (λ z s. places z s (suc (suc n))) e g

from_list : (n : ℕ) (a c d f : ℤ) → places a c n ≡ places d f n → (n ≡ 0) ⊎ ((a ≡ d) × ((n ≡ 1) ⊎ (c ≡ f)))
from_list zero a c d f h = inl refl
from_list (suc zero) a c d f h = inr (same_Some a d (ap (λ zs. slice_get zs 0) h), inl refl)
from_list (suc (suc n)) a c d f h =
    let first = same_Some a d (ap (λ zs. slice_get zs 0) h) in
    let second = same_Some (a +ℤ c) (d +ℤ f) (ap (λ zs. slice_get zs 1) h) in
    inr (first, inr (omega (arith, ints, first, second)))

lists_decide : (n m : ℕ) (a c d f : ℤ) → Decides (same_numbers (n, a, c) (m, d, f)) (places a c n ≡ places d f m)
lists_decide n m a c d f =
    Decides-like (same_numbers (n, a, c) (m, d, f))
    (λ p. same_list n a c d f p.1 ∙ ap (places d f) p.0)
    (λ e. let long : n ≡ m = sym (length_places a c n) ∙ ap length e ∙ length_places d f m in
    (long, from_list n a c d f (e ∙ ap (places d f) (sym long))))
    (parts_decide n m a c d f)

two_ranges : (a b c d e f : ℤ) → c ≢ pos 0 → f ≢ pos 0 → Decides (is_equal (range a b c) (range d e f)) (HaveSameNumbers (range a b c) (range d e f))
two_ranges a b c d e f h g =
    let left = range_numbers a b c h in
    let right = range_numbers d e f g in
    Decides-like (is_equal (range a b c) (range d e f))
    (λ same. (places d f (range_length d e f), subst (AreNumbers a b c) same left, right))
    (λ both. one_list (places a c (range_length a b c)) both.0 left both.1 ∙ one_list both.0 (places d f (range_length d e f)) both.2 right)
    (lists_decide (range_length a b c) (range_length d e f) a c d f)

pub ranges_equal : (v w : Value) → IsRange v → IsRange w → Decides (is_equal v w) (HaveSameNumbers v w)
ranges_equal v w (a, b, c, h, p) (d, e, f, g, q) = subst₂ (λ x y. Decides (is_equal x y) (HaveSameNumbers x y)) (sym h) (sym g) (two_ranges a b c d e f p q)

-- ---- keys are one just where their values are equal

-- by the values of the parts: a value each, or tuples as long whose items are equal, in order
abbrev pub have_equal_values : Key → Key → Bool
have_equal_values (k.single p) (k.single q) = is_equal (value_of_part p) (value_of_part q)
have_equal_values (k.single p) (k.tuple qs) = false
have_equal_values (k.tuple ps) (k.single q) = false
have_equal_values (k.tuple ps) (k.tuple qs) = pointwise is_equal (map value_of_part ps) (map value_of_part qs)

pub parts_equal : (p q : KeyPart) → is_one_part p q ≡ is_equal (value_of_part p) (value_of_part q)
parts_equal k.none k.none = refl
parts_equal k.none (k.bool b) = refl
parts_equal k.none (k.integer y) = refl
parts_equal k.none (k.text ds) = refl
parts_equal (k.bool a) k.none = refl
parts_equal (k.bool a) (k.bool b) = and-true (int_eq (number_of_bool a) (number_of_bool b))
parts_equal (k.bool a) (k.integer y) = and-true (int_eq (number_of_bool a) y)
parts_equal (k.bool a) (k.text ds) = refl
parts_equal (k.integer x) k.none = refl
parts_equal (k.integer x) (k.bool b) = and-true (int_eq x (number_of_bool b))
parts_equal (k.integer x) (k.integer y) = and-true (int_eq x y)
parts_equal (k.integer x) (k.text ds) = refl
parts_equal (k.text cs) k.none = refl
parts_equal (k.text cs) (k.bool b) = refl
parts_equal (k.text cs) (k.integer y) = refl
parts_equal (k.text cs) (k.text ds) = refl

tuples_equal : (ps qs : List KeyPart) → pointwise is_one_part ps qs ≡ pointwise is_equal (map value_of_part ps) (map value_of_part qs)
tuples_equal [] [] = refl
tuples_equal [] (q ∷ qs) = refl
tuples_equal (p ∷ ps) [] = refl
tuples_equal (p ∷ ps) (q ∷ qs) = ap₂ ◌&&◌ (parts_equal p q) (tuples_equal ps qs)

single_and_tuple : (p : KeyPart) (qs : List KeyPart) → is_one (k.single p) (k.tuple qs) ≡ false
single_and_tuple k.none qs = refl
single_and_tuple (k.bool b) qs = refl
single_and_tuple (k.integer z) qs = refl
single_and_tuple (k.text cs) qs = refl

tuple_and_single : (ps : List KeyPart) (q : KeyPart) → is_one (k.tuple ps) (k.single q) ≡ false
tuple_and_single ps k.none = refl
tuple_and_single ps (k.bool b) = refl
tuple_and_single ps (k.integer z) = refl
tuple_and_single ps (k.text cs) = refl

single_keys : (p q : KeyPart) → is_one (k.single p) (k.single q) ≡ is_one_part p q
single_keys p q =
    ap (λ b. part_kind p == part_kind q && (int_eq (part_number p) (part_number q) && b)) (and-true (bytes_eq (part_text p) (part_text q)))

pub keys_equal : (left right : Key) → is_one left right ≡ have_equal_values left right
keys_equal (k.single p) (k.single q) = single_keys p q ∙ parts_equal p q
keys_equal (k.single p) (k.tuple qs) = single_and_tuple p qs
keys_equal (k.tuple ps) (k.single q) = tuple_and_single ps q
keys_equal (k.tuple ps) (k.tuple qs) = tuples_equal ps qs

same_test : is_one ≡ have_equal_values
same_test = λ i left right. keys_equal left right i

-- the value that a dict has under the first key with equal values
abbrev pub value_under_equal : Key → Node → Option Value
value_under_equal key n = option_and_then (value_at have_equal_values key) (dict_in n)

pub finds_equal : (key : Key) (i : ℕ) (nodes : List Node) → found (value_under key) i nodes ≡ found (value_under_equal key) i nodes
finds_equal key i nodes = ap (λ test. found (λ n. option_and_then (value_at test key) (dict_in n)) i nodes) same_test

-- The value replaces that of the first key with equal values, and where there is none a new entry goes last.
abbrev pub insert_by_values : Key → Value → Node → Node
insert_by_values key v = on_dict (with_entry have_equal_values key v)

pub inserts_by_values : (key : Key) (v : Value) (i : ℕ) (nodes : List Node) → changed (insert key v) i nodes ≡ changed (insert_by_values key v) i nodes
inserts_by_values key v i nodes = ap (λ test. changed (on_dict (with_entry test key v)) i nodes) same_test

-- ---- what `==` answers for the values of keys

-- However many steps are left, the run answers so, where it answers.
pub record AnswersOnly {A : Type 0} (run : Count A) (a : A) : Type 0 where
  pub only : (left after : ℕ) (b : A) → run left ≡ answer b after → b ≡ a

abbrev answer_in : {A : Type 0} → A → Counted A → A
answer_in d (answer a n) = a
answer_in d (too_deep n) = d
answer_in d (spent n) = d

give_only : {A : Type 0} (a : A) → AnswersOnly (give a) a
give_only a = record { only = λ left after b e. ap (answer_in b) (sym e) }

spent_no_answer : {A : Type 0} (n m : ℕ) (a : A) → spent n ≡ answer a m → ⊥
spent_no_answer n m a e = cc

deep_no_answer : {A : Type 0} (n m : ℕ) (a : A) → too_deep n ≡ answer a m → ⊥
deep_no_answer n m a e = cc

module _ {A : Type 0} (steps : ℕ) (run : Count A) (a : A) (h : AnswersOnly run a) where
  spend_by : (t : Bool) (left after : ℕ) (b : A) → and_then {A = Unit {0}} (if t then answer tt (left - steps) else spent 0) (λ _. run) ≡ answer b after → b ≡ a
  spend_by true left after b e = h.only (left - steps) after b e
  spend_by false left after b e = absurd (spent_no_answer 0 after b e)

  spend_only : AnswersOnly (spend steps >> run) a
  spend_only = record { only = λ left after b e. spend_by (nat_le steps left) left after b e }

module _ (first more : Count Bool) (s t : Bool) (h : AnswersOnly first s) (g : AnswersOnly more t) where
  either_only : (x : Bool) (n after : ℕ) (b : Bool) → (if x then more else give false) n ≡ answer b after → b ≡ (x && t)
  either_only true n after b e = g.only n after b e
  either_only false n after b e = (give_only false).only n after b e

  both_by : (left : ℕ) (c : Counted Bool) → first left ≡ c → (after : ℕ) (b : Bool) → and_then c (λ same. if same then more else give false) ≡ answer b after → b ≡ (s && t)
  both_by left (answer x n) e after b f = either_only x n after b f ∙ ap (λ y. y && t) (h.only left n x e)
  both_by left (too_deep n) e after b f = absurd (deep_no_answer n after b f)
  both_by left (spent n) e after b f = absurd (spent_no_answer n after b f)

  both_only : AnswersOnly (first >>= λ same. if same then more else give false) (s && t)
  both_only = record { only = λ left after b e. both_by left (first left) refl after b e }

no_true : false ≡ true → ⊥
no_true e = true≢false (sym e)

same_bools : (a b : Bool) → beq a b ≡ true → int_eq (number_of_bool a) (number_of_bool b) ≡ true
same_bools true true e = refl
same_bools true false e = absurd (no_true e)
same_bools false true e = absurd (no_true e)
same_bools false false e = refl

-- What is the same is equal.
same_is_equal : (p q : KeyPart) → is_same (value_of_part p) (value_of_part q) ≡ true → is_equal (value_of_part p) (value_of_part q) ≡ true
same_is_equal k.none k.none e = e
same_is_equal k.none (k.bool b) e = e
same_is_equal k.none (k.integer y) e = e
same_is_equal k.none (k.text ds) e = e
same_is_equal (k.bool a) k.none e = e
same_is_equal (k.bool a) (k.bool b) e = same_bools a b e
same_is_equal (k.bool a) (k.integer y) e = absurd (no_true e)
same_is_equal (k.bool a) (k.text ds) e = e
same_is_equal (k.integer x) k.none e = e
same_is_equal (k.integer x) (k.bool b) e = absurd (no_true e)
same_is_equal (k.integer x) (k.integer y) e = e
same_is_equal (k.integer x) (k.text ds) e = e
same_is_equal (k.text cs) k.none e = e
same_is_equal (k.text cs) (k.bool b) e = e
same_is_equal (k.text cs) (k.integer y) e = e
same_is_equal (k.text cs) (k.text ds) e = e

module _ (nodes : ℕ → ℕ → Count Bool) where
  spent_on : (v w : Value) → AnswersOnly (spend (pair_steps v w) >> give (is_equal v w)) (is_equal v w)
  spent_on v w = spend_only (pair_steps v w) (give (is_equal v w)) (is_equal v w) (give_only (is_equal v w))

  part_only : (p : KeyPart) (w : Value) → AnswersOnly (equal_by nodes (value_of_part p) w) (is_equal (value_of_part p) w)
  part_only k.none w = spent_on none w
  part_only (k.bool b) w = spent_on (bool b) w
  part_only (k.integer z) w = spent_on (integer z) w
  part_only (k.text cs) w = spent_on (text cs) w

  node_and_part : (i : ℕ) (q : KeyPart) → AnswersOnly (equal_by nodes (node i) (value_of_part q)) (is_equal (node i) (value_of_part q))
  node_and_part i k.none = spent_on (node i) none
  node_and_part i (k.bool b) = spent_on (node i) (bool b)
  node_and_part i (k.integer z) = spent_on (node i) (integer z)
  node_and_part i (k.text cs) = spent_on (node i) (text cs)

  pair_by : (p q : KeyPart) (t : Bool) → is_same (value_of_part p) (value_of_part q) ≡ t
      → AnswersOnly (if t then (spend (pair_steps (value_of_part p) (value_of_part q)) >> give true) else equal_by nodes (value_of_part p) (value_of_part q)) (is_equal (value_of_part p) (value_of_part q))
  pair_by p q true e =
      let steps = pair_steps (value_of_part p) (value_of_part q) in
      subst (AnswersOnly (spend steps >> give true)) (sym (same_is_equal p q e)) (spend_only steps (give true) true (give_only true))
  pair_by p q false e = part_only p (value_of_part q)

  pair_only : (p q : KeyPart) → AnswersOnly (pair_equal nodes (value_of_part p) (value_of_part q)) (is_equal (value_of_part p) (value_of_part q))
  pair_only p q =
      let v = value_of_part p in
      let w = value_of_part q in
      spend_only 1 (if is_same v w then (spend (pair_steps v w) >> give true) else equal_by nodes v w) (is_equal v w) (pair_by p q (is_same v w) refl)

  items_only : (ps qs : List KeyPart) → length (map value_of_part ps) ≡ length (map value_of_part qs)
      → AnswersOnly (items_equal nodes (map value_of_part ps) (map value_of_part qs)) (pointwise is_equal (map value_of_part ps) (map value_of_part qs))
  items_only [] [] e = give_only true
  items_only [] (q ∷ qs) e = absurd (omega (arith, e))
  items_only (p ∷ ps) [] e = absurd (omega (arith, e))
  items_only (p ∷ ps) (q ∷ qs) e =
      both_only (pair_equal nodes (value_of_part p) (value_of_part q)) (items_equal nodes (map value_of_part ps) (map value_of_part qs))
      (is_equal (value_of_part p) (value_of_part q)) (pointwise is_equal (map value_of_part ps) (map value_of_part qs))
      (pair_only p q) (items_only ps qs (omega (arith, e)))

  lists_by : (ps qs : List KeyPart) (t : Bool) → (length (map value_of_part ps) == length (map value_of_part qs)) ≡ t
      → AnswersOnly (if t then items_equal nodes (map value_of_part ps) (map value_of_part qs) else give false) (pointwise is_equal (map value_of_part ps) (map value_of_part qs))
  lists_by ps qs true e = items_only ps qs ((Decides-eqb (length (map value_of_part ps)) (length (map value_of_part qs))).0 e)
  lists_by ps qs false e =
      let long = Decides-eqb (length (map value_of_part ps)) (length (map value_of_part qs)) in
      subst (AnswersOnly (give false)) (sym (unequal is_equal (map value_of_part ps) (map value_of_part qs) (λ same. no_true (sym e ∙ long.1 same)))) (give_only false)

  lists_only : (ps qs : List KeyPart)
      → AnswersOnly (lists_equal nodes (map value_of_part ps) (map value_of_part qs)) (pointwise is_equal (map value_of_part ps) (map value_of_part qs))
  lists_only ps qs = lists_by ps qs (length (map value_of_part ps) == length (map value_of_part qs)) refl

-- The key is this value among the nodes: a part's own value, or a tuple of the parts' values.
abbrev pub IsValueOf : List Node → Key → Value → Type 0
IsValueOf nodes (k.single p) v = v ≡ value_of_part p
IsValueOf nodes (k.tuple ps) v = (i : ℕ) × (v ≡ node i) × (slice_get nodes i ≡ Some (tuple (map value_of_part ps)))

part_and_node : (p : KeyPart) (i : ℕ) → is_equal (value_of_part p) (node i) ≡ false
part_and_node k.none i = refl
part_and_node (k.bool b) i = refl
part_and_node (k.integer z) i = refl
part_and_node (k.text cs) i = refl

not_a_node : (i : ℕ) (p : KeyPart) → is_equal (node i) (value_of_part p) ≡ false
not_a_node i k.none = refl
not_a_node i (k.bool b) = refl
not_a_node i (k.integer z) = refl
not_a_node i (k.text cs) = refl

two_tuples : (nodes : List Node) (room i j : ℕ) (ps qs : List KeyPart)
    → slice_get nodes i ≡ Some (tuple (map value_of_part ps)) → slice_get nodes j ≡ Some (tuple (map value_of_part qs))
    → AnswersOnly (equal_nodes nodes (suc room) i j) (pointwise is_equal (map value_of_part ps) (map value_of_part qs))
two_tuples nodes room i j ps qs e f =
    let inner = equal_nodes nodes room in
    let answers = pointwise is_equal (map value_of_part ps) (map value_of_part qs) in
    subst₂ (λ a b. AnswersOnly (nodes_equal inner i j a b) answers) (sym e) (sym f) (lists_only inner ps qs)

values_only : (nodes : List Node) (depth : ℕ) (left right : Key) (v w : Value) → IsValueOf nodes left v → IsValueOf nodes right w
    → AnswersOnly (equal_in nodes depth v w) (have_equal_values left right)
values_only nodes depth (k.single p) (k.single q) v w h g =
    subst₂ (λ x y. AnswersOnly (equal_in nodes depth x y) (is_equal (value_of_part p) (value_of_part q))) (sym h) (sym g)
    (part_only (equal_nodes nodes (room_at depth)) p (value_of_part q))
values_only nodes depth (k.single p) (k.tuple qs) v w h (j, g, _) =
    subst₂ (λ x y. AnswersOnly (equal_in nodes depth x y) false) (sym h) (sym g)
    (subst (AnswersOnly (equal_in nodes depth (value_of_part p) (node j))) (part_and_node p j) (part_only (equal_nodes nodes (room_at depth)) p (node j)))
values_only nodes depth (k.tuple ps) (k.single q) v w (i, h, _) g =
    subst₂ (λ x y. AnswersOnly (equal_in nodes depth x y) false) (sym h) (sym g)
    (subst (AnswersOnly (equal_in nodes depth (node i) (value_of_part q))) (not_a_node i q) (node_and_part (equal_nodes nodes (room_at depth)) i q))
values_only nodes depth (k.tuple ps) (k.tuple qs) v w (i, h, e) (j, g, f) =
    subst₂ (λ x y. AnswersOnly (equal_in nodes depth x y) (pointwise is_equal (map value_of_part ps) (map value_of_part qs))) (sym h) (sym g)
    (two_tuples nodes (most_depth - depth) i j ps qs e f)

-- Of the values of two keys, `==` answers whether the keys are one.
pub equal_just_where_one : (nodes : List Node) (depth : ℕ) (left right : Key) (v w : Value) → IsValueOf nodes left v → IsValueOf nodes right w
    → AnswersOnly (equal_in nodes depth v w) (is_one left right)
equal_just_where_one nodes depth left right v w h g =
    subst (AnswersOnly (equal_in nodes depth v w)) (sym (keys_equal left right)) (values_only nodes depth left right v w h g)

ranges_only : (nodes : List Node) (depth : ℕ) (v w : Value) → IsRange v → IsRange w → AnswersOnly (equal_in nodes depth v w) (is_equal v w)
ranges_only nodes depth v w (a, b, c, h, p) (d, e, f, g, q) =
    subst₂ (λ x y. AnswersOnly (equal_in nodes depth x y) (is_equal x y)) (sym h) (sym g) (spent_on (equal_nodes nodes (room_at depth)) (range a b c) (range d e f))

-- Of two ranges, `==` answers whether they have the same numbers.
pub equal_just_where_same_numbers : (nodes : List Node) (depth : ℕ) (v w : Value) → IsRange v → IsRange w
    → (left after : ℕ) (same : Bool) → equal_in nodes depth v w left ≡ answer same after → Decides same (HaveSameNumbers v w)
equal_just_where_same_numbers nodes depth v w r s left after same e =
    subst (λ b. Decides b (HaveSameNumbers v w)) (sym ((ranges_only nodes depth v w r s).only left after same e)) (ranges_equal v w r s)
