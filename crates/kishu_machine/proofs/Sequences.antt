-- Sums and products of sequences, in the parts in which the code makes them.
use Rattle.std.proofs.Common.{◌≡◌, ◌∙◌, refl, sym, ap, subst, arith, ℕ, zero, suc, ◌+◌, ◌*◌, ◌<◌, Bool, true, false, IsTrue, ℤ, List, [], ◌∷◌, ◌++◌, length, map, replicate, Option, Some, None, Result, Ok, Err}
use Rattle.std.specs.Prelude.{nat_le, OnOk, IfOk, IfNone, if◌then◌else◌, codes, pos, negsuc, ◌+ℤ◌, ◌-ℤ◌, ◌*ℤ◌}
use Rattle.std.specs.Ordering.{int_eq}
use Rattle.std.specs.List.{flat_map}
use Rattle.std.proofs.lemmas.Bool.Decides.{nat_tests}
use Rattle.kishu_language.specs.declared.tree.Operator.{Operator}
use Rattle.kishu_language.specs.declared.tree.Operator.TheVariants as operators
use Rattle.kishu_meaning.specs.declared.value.Value as rust
use Rattle.kishu_meaning.specs.values.Numbers.{is_whole, floor_quotient, floor_remainder, power}
use Rattle.kishu_meaning.specs.values.Values.{Value, none, bool, integer, text, range, builtin, class, node, Node, list, tuple, dict, object, function, exception, value_of}
use Rattle.kishu_meaning.specs.values.Sound.{is_sound, are_sound}
use Rattle.kishu_meaning.specs.moments.Moment.{Moment, Thrown, Ends, fine, raised, stopped, M, and_then, give, throw, raise, or_else, spend, node_at}
use Rattle.kishu_meaning.specs.comparing.Equal.{by_both}
use Rattle.kishu_meaning.specs.calls.Operators.{new_list, new_tuple, both, often, times, repeated, list_from, tuple_from, node_times, value_times, bad_operands, bad_operand, whole, raised_to, arithmetic}
use Rattle.kishu_meaning.specs.values.Classes.{overflow_error_class, zero_division_error_class}
use Rattle.kishu_items.specs.Holding as holding
use Rattle.kishu_machine.specs.declared.fault.Fault.{Fault}
use Rattle.kishu_machine.specs.declared.fault.Fault.TheVariants as faults
use Rattle.kishu_machine.specs.Forms.{maybe_both, maybe_often, some, some_tuple, some_value, maybe_tuple_times, maybe_node_times, maybe_value_times, text_from}
use Rattle.kishu_machine.specs.Machine.{Fails, Gives, IsSound, thrown_of, is_sound_thrown}
use Rattle.kishu_machine.specs.Raising.{is_sound_end}
use Rattle.kishu_machine.specs.Composing.{fails_on, gives_on}
use Rattle.kishu_machine.specs.Lists.{values_in, is_sound_in}

-- ---- steps that are too many

module _ (s : Moment) where
  spend_short : (k : ℕ) → s.left < k → spend k s ≡ stopped (record s { left = 0 })
  spend_short k h = (let e : nat_le k s.left ≡ false = grind (arith, nat_tests) in rw e refl)

  -- It makes no difference how many.
  pub spend_beyond : (j k : ℕ) → s.left < j → s.left < k → spend j s ≡ spend k s
  spend_beyond j k h i = spend_short j h ∙ sym (spend_short k i)

pub taken_beyond : {X E : Type 0} (r : Result X E) (a b j k : ℕ) → b < j → OnOk r (a + j ≡ b) → OnOk r (a + k ≡ b)
taken_beyond (Ok x) a b j k p h = absurd (omega arith)
taken_beyond (Err f) a b j k p h = tt

-- ---- what is sound

-- what raises what is sound, whatever is returned
pub raised_sound : {X A : Type 0} (view : X → A) (n : ℕ) (r : Result X Fault) (t : Moment) (e : Ends A) → IsTrue (is_sound_end n e) → Gives view r t e → IsSound (λ _. true) n r
raised_sound view n (Ok x) t e h g = refl
raised_sound view n (Err (faults.Raised x)) t e h g = subst (λ (y : Ends _). IsTrue (is_sound_end n y)) g h
raised_sound view n (Err faults.Stopped) t e h g = tt
raised_sound view n (Err faults.NoMemory) t e h g = tt

-- a fault, whatever would have been returned
pub fault_sound : {X Y : Type 0} (p : X → Bool) (q : Y → Bool) (n : ℕ) (f : Fault) → IsSound {X = X} p n (Err f) → IsSound {X = Y} q n (Err f)
fault_sound p q n (faults.Raised x) h = h
fault_sound p q n faults.Stopped h = tt
fault_sound p q n faults.NoMemory h = tt

-- what a function that only raises gives, gives it as any other kind of answer
pub raised_as : {X A B : Type 0} (v : X → A) (w : X → B) (r : Result X Fault) (x : Thrown) (s t : Moment) → Gives v r t (throw {A = A} x s) → Gives w r t (throw {A = B} x s)
raised_as v w (Ok y) x s t h = absurd cc
raised_as v w (Err (faults.Raised y)) x s t h = (let p : x ≡ thrown_of y = cc in let q : s ≡ t = cc in rw (p, q) refl)
raised_as v w (Err faults.Stopped) x s t h = absurd cc
raised_as v w (Err faults.NoMemory) x s t h = tt

pub raised_all : {X A : Type 0} (v : X → A) (holds : X → Bool) (n : ℕ) (r : Result X Fault) (x : Thrown) (s t : Moment) → IsTrue (is_sound_thrown n x) → Gives v r t (throw {A = A} x s) → IsSound holds n r
raised_all v holds n (Ok y) x s t w h = absurd cc
raised_all v holds n (Err (faults.Raised y)) x s t w h = (let p : x ≡ thrown_of y = cc in subst (λ (z : Thrown). IsTrue (is_sound_thrown n z)) p w)
raised_all v holds n (Err faults.Stopped) x s t w h = tt
raised_all v holds n (Err faults.NoMemory) x s t w h = tt

pub sound_both : (n : ℕ) (vs ws : List Value) → IsTrue (are_sound n vs) → IsTrue (are_sound n ws) → IsTrue (are_sound n (vs ++ ws))
sound_both n [] ws h k = k
sound_both n (v ∷ vs) ws h k = holding.both (is_sound n v) _ (holding.first (is_sound n v) _ h) (sound_both n vs ws (holding.second (is_sound n v) _ h) k)

pub sound_often : (n : ℕ) (k : ℕ) (vs : List Value) → IsTrue (are_sound n vs) → IsTrue (are_sound n (flat_map (λ part. part) (replicate k vs)))
sound_often n zero vs h = refl
sound_often n (suc k) vs h = sound_both n vs (flat_map (λ part. part) (replicate k vs)) h (sound_often n k vs h)

-- ---- sums

-- what is made of the items, where there are some
abbrev pub made : (List Value → M Value) → M Value → Option (List Value) → M Value
made new other (Some vs) = new vs
made new other None = other

spent_made : (new : List Value → M Value) (other : M Value) (vs : List Value) (e : Ends (Unit {0})) → and_then e (λ _. new vs) ≡ and_then (and_then e (λ _. give (Some vs))) (made new other)
spent_made new other vs (fine u t) = refl
spent_made new other vs (raised x t) = refl
spent_made new other vs (stopped t) = refl

pub sum_made : (new : List Value → M Value) (other : M Value) (o p : Option (List Value)) (s : Moment) → by_both o p (both new) other s ≡ and_then (maybe_both o p s) (made new other)
sum_made new other (Some vs) (Some ws) s = spent_made new other (vs ++ ws) (spend (length vs + length ws) s)
sum_made new other (Some vs) None s = refl
sum_made new other None p s = refl

-- ---- products

abbrev pub some_list : M (Option Value) → Option (List Value) → M (Option Value)
some_list other (Some vs) = some (new_list vs)
some_list other None = other

spent_some : (new : List Value → M Value) (f : Option (List Value) → M (Option Value)) (vs : List Value) (e : Ends (Unit {0})) → ((t : Moment) → some (new vs) t ≡ f (Some vs) t)
    → and_then (and_then e (λ _. new vs)) (λ v. give (Some v)) ≡ and_then (and_then e (λ _. give (Some vs))) f
spent_some new f vs (fine u t) h = h t
spent_some new f vs (raised x t) h = refl
spent_some new f vs (stopped t) h = refl

pub product_made : (m : Option Node) (z : ℤ) (s : Moment) → maybe_node_times m z s ≡ and_then (maybe_often (list_from m) (times z) s) (some_list (maybe_tuple_times m z))
product_made (Some (list vs)) z s = spent_some new_list (some_list (maybe_tuple_times (Some (list vs)) z)) (flat_map (λ part. part) (replicate (times z) vs)) (spend (length vs * times z) s) (λ t. refl)
product_made (Some (tuple vs)) z s = spent_some new_tuple some_tuple (flat_map (λ part. part) (replicate (times z) vs)) (spend (length vs * times z) s) (λ t. refl)
product_made (Some (dict es)) z s = refl
product_made (Some (object as')) z s = refl
product_made (Some (function p c vs)) z s = refl
product_made (Some (exception k vs)) z s = refl
product_made None z s = refl

given_some : (other : M Value) (e : Ends Value) → e ≡ and_then (and_then e (λ v. give (Some v))) (or_else other)
given_some other (fine v t) = refl
given_some other (raised x t) = refl
given_some other (stopped t) = refl

node_product : (m : Option Node) (z : ℤ) (other : M Value) (s : Moment) → node_times m z other s ≡ and_then (maybe_node_times m z s) (or_else other)
node_product (Some (list vs)) z other s = given_some other (often new_list vs z s)
node_product (Some (tuple vs)) z other s = given_some other (often new_tuple vs z s)
node_product (Some (dict es)) z other s = refl
node_product (Some (object as')) z other s = refl
node_product (Some (function p c vs)) z other s = refl
node_product (Some (exception k vs)) z other s = refl
node_product None z other s = refl

pub value_product : (v : Value) (o : Option ℤ) (other : M Value) (s : Moment) → value_times v o other s ≡ and_then (maybe_value_times v o s) (or_else other)
value_product (text cs) (Some z) other s = given_some other (repeated cs z s)
value_product (node i) (Some z) other s = node_product (node_at s.nodes (node i)) z other s
value_product none (Some z) other s = refl
value_product (bool b) (Some z) other s = refl
value_product (integer y) (Some z) other s = refl
value_product (range a b c) (Some z) other s = refl
value_product (builtin n) (Some z) other s = refl
value_product (class n) (Some z) other s = refl
value_product none None other s = refl
value_product (bool b) None other s = refl
value_product (integer y) None other s = refl
value_product (text cs) None other s = refl
value_product (range a b c) None other s = refl
value_product (builtin n) None other s = refl
value_product (class n) None other s = refl
value_product (node i) None other s = refl

-- ---- a definition in two parts: the first fails, or ends well

module _ {A B : Type 0} (g : A → M B) (x : Ends A) (e : Ends B) (p : e ≡ and_then x g) where
  pub parts_fail : (f : Fault) (t : Moment) → Fails f t x → Fails f t e
  parts_fail f t h = subst (λ (y : Ends B). Fails f t y) (sym p) (fails_on g f t x h)

  pub parts_give : {X : Type 0} (view : X → B) (r : Result X Fault) (a : A) (u t : Moment) → x ≡ fine a u → Gives view r t (g a u) → Gives view r t e
  parts_give view r a u t q h = subst (λ (y : Ends B). Gives view r t y) (sym p) (gives_on g view r a u t x q h)

-- ---- at nodes that stayed

-- two tuples, or what else there is
abbrev pub tuples_or : Value → Value → M Value → List Node → M Value
tuples_or a b other ns = by_both (tuple_from (node_at ns a)) (tuple_from (node_at ns b)) (both new_tuple) other

module _ (new : List Value → M Value) (other : M Value) (o p : Option (List Value)) (s : Moment) where
  pub sum_fails : (f : Fault) (t : Moment) → Fails f t (maybe_both o p s) → Fails f t (by_both o p (both new) other s)
  sum_fails f t h = parts_fail (made new other) (maybe_both o p s) _ (sum_made new other o p s) f t h

  pub sum_gives : (r : Result rust.Value Fault) (i : Option (List Value)) (u t : Moment) → maybe_both o p s ≡ fine i u → Gives value_of r t (made new other i u) → Gives value_of r t (by_both o p (both new) other s)
  sum_gives r i u t q h = parts_give (made new other) (maybe_both o p s) _ (sum_made new other o p s) value_of r i u t q h

module _ (m : Option Node) (z : ℤ) (s : Moment) where
  pub product_fails : (f : Fault) (t : Moment) → Fails f t (maybe_often (list_from m) (times z) s) → Fails f t (maybe_node_times m z s)
  product_fails f t h = parts_fail (some_list (maybe_tuple_times m z)) (maybe_often (list_from m) (times z) s) _ (product_made m z s) f t h

  pub product_gives : (r : Result (Option rust.Value) Fault) (i : Option (List Value)) (u t : Moment) → maybe_often (list_from m) (times z) s ≡ fine i u
      → Gives values_in r t (some_list (maybe_tuple_times m z) i u) → Gives values_in r t (maybe_node_times m z s)
  product_gives r i u t q h = parts_give (some_list (maybe_tuple_times m z)) (maybe_often (list_from m) (times z) s) _ (product_made m z s) values_in r i u t q h

module _ (v : Value) (o : Option ℤ) (other : M Value) (s : Moment) where
  pub value_fails : (f : Fault) (t : Moment) → Fails f t (maybe_value_times v o s) → Fails f t (value_times v o other s)
  value_fails f t h = parts_fail (or_else other) (maybe_value_times v o s) _ (value_product v o other s) f t h

  pub value_gives : (r : Result rust.Value Fault) (i : Option Value) (u t : Moment) → maybe_value_times v o s ≡ fine i u → Gives value_of r t (or_else other i u) → Gives value_of r t (value_times v o other s)
  value_gives r i u t q h = parts_give (or_else other) (maybe_value_times v o s) _ (value_product v o other s) value_of r i u t q h

-- ---- what was made, which is there

pub some_gives : (r : Result rust.Value Fault) (s : Moment) (e : Ends Value) → Gives value_of r s e → Gives values_in (some_value r) s (and_then e (λ v. give (Some v)))
some_gives (Ok v) s e h = ap (λ x. and_then x (λ v. give (Some v))) h
some_gives (Err f) s e h = fails_on (λ v. give (Some v)) f s e h

pub some_sound : (r : Result rust.Value Fault) (n : ℕ) → IsSound (λ v. is_sound n (value_of v)) n r → IsSound (λ o. is_sound_in n (values_in o)) n (some_value r)
some_sound (Ok v) n h = h
some_sound (Err f) n h = fault_sound (λ v. is_sound n (value_of v)) (λ o. is_sound_in n (values_in o)) n f h

pub some_there : (r : Result rust.Value Fault) (P : Type 0) → IfOk (some_value r) (λ o. IfNone o P)
some_there (Ok v) P = tt
some_there (Err f) P = tt

pub unmade_on : {X : Type 0} (r : Result (Option X) Fault) (P Q : Type 0) → (P → Q) → IfOk r (λ o. IfNone o P) → IfOk r (λ o. IfNone o Q)
unmade_on (Ok (Some x)) P Q f h = tt
unmade_on (Ok None) P Q f h = f h
unmade_on (Err x) P Q f h = tt

-- ---- values so many times

pub spent_value : (e : Ends (Unit {0})) (v w : Value) (t : Moment) → e ≡ fine tt t → v ≡ w → and_then e (λ _. give v) ≡ fine w t
spent_value e v w t h k = rw (h, k) refl

pub times_text : (v : Value) (z : ℤ) (cs : List ℕ) (s : Moment) → Some cs ≡ text_from v → maybe_value_times v (Some z) s ≡ some (repeated cs z) s
times_text none z cs s h = absurd (cc)
times_text (bool b) z cs s h = absurd (cc)
times_text (integer y) z cs s h = absurd (cc)
times_text (text ds) z cs s h = (let p : cs ≡ ds = cc in rw p refl)
times_text (range a b c) z cs s h = absurd (cc)
times_text (builtin n) z cs s h = absurd (cc)
times_text (class n) z cs s h = absurd (cc)
times_text (node i) z cs s h = absurd (cc)

pub times_node : (v : Value) (z : ℤ) (s : Moment) → None ≡ text_from v → maybe_value_times v (Some z) s ≡ maybe_node_times (node_at s.nodes v) z s
times_node none z s h = refl
times_node (bool b) z s h = refl
times_node (integer y) z s h = refl
times_node (text ds) z s h = absurd (cc)
times_node (range a b c) z s h = refl
times_node (builtin n) z s h = refl
times_node (class n) z s h = refl
times_node (node i) z s h = refl

pub times_nothing : (v : Value) (s : Moment) → maybe_value_times v None s ≡ fine None s
times_nothing none s = refl
times_nothing (bool b) s = refl
times_nothing (integer y) s = refl
times_nothing (text ds) s = refl
times_nothing (range a b c) s = refl
times_nothing (builtin n) s = refl
times_nothing (class n) s = refl
times_nothing (node i) s = refl

-- ---- what operands aren't taken by

module _ {X A : Type 0} (v : X → A) (r : Result X Fault) (sign : List ℕ) (a b : Value) (s t : Moment) where
  pub bad_as : {B : Type 0} (w : X → B) → Gives v r t (bad_operands {A = A} sign a b s) → Gives w r t (bad_operands {A = B} sign a b s)
  bad_as w h = raised_as v w r _ s t h

  pub bad_sound : (holds : X → Bool) (n : ℕ) → Gives v r t (bad_operands {A = A} sign a b s) → IsSound holds n r
  bad_sound holds n h = raised_all v holds n r _ s t refl h

module _ {X A B : Type 0} (v : X → A) (w : X → B) (r : Result X Fault) (sign : List ℕ) (a : Value) (s t : Moment) where
  pub operand_as : Gives v r t (bad_operand {A = A} sign a s) → Gives w r t (bad_operand {A = B} sign a s)
  operand_as h = raised_as v w r _ s t h

-- ---- what is worked out of numbers is sound

abbrev pub is_sound_value : ℕ → Ends Value → Bool
is_sound_value n (fine v t) = is_sound n v
is_sound_value n (raised x t) = is_sound_thrown n x
is_sound_value n (stopped t) = true

pub value_sound : (n : ℕ) (r : Result rust.Value Fault) (t : Moment) (e : Ends Value) → IsTrue (is_sound_value n e) → Gives value_of r t e → IsSound (λ v. is_sound n (value_of v)) n r
value_sound n (Ok v) t e h g = subst (λ (y : Ends Value). IsTrue (is_sound_value n y)) g h
value_sound n (Err (faults.Raised x)) t e h g = subst (λ (y : Ends Value). IsTrue (is_sound_value n y)) g h
value_sound n (Err faults.Stopped) t e h g = tt
value_sound n (Err faults.NoMemory) t e h g = tt

whole_if : (n : ℕ) (b : Bool) (z : ℤ) (s : Moment) → IsTrue (is_sound_value n ((if b then give (integer z) else raise overflow_error_class (codes "whole number too large")) s))
whole_if n true z s = refl
whole_if n false z s = refl

pub whole_sound : (n : ℕ) (z : ℤ) (s : Moment) → IsTrue (is_sound_value n (whole z s))
whole_sound n z s = whole_if n (is_whole z) z s

divided_if : (n : ℕ) (b : Bool) (z : ℤ) (s : Moment) → IsTrue (is_sound_value n ((if b then raise zero_division_error_class (codes "division by zero") else whole z) s))
divided_if n true z s = refl
divided_if n false z s = whole_sound n z s

power_sound : (n : ℕ) (a b : ℤ) (s : Moment) → IsTrue (is_sound_value n (raised_to a b s))
power_sound n a (pos k) s = whole_sound n (power a k) s
power_sound n a (negsuc k) s = refl

pub arithmetic_sound : (n : ℕ) (o : Operator) (a b : ℤ) (s : Moment) → IsTrue (is_sound_value n (arithmetic o a b s))
arithmetic_sound n operators.Add a b s = whole_sound n (a +ℤ b) s
arithmetic_sound n operators.Subtract a b s = whole_sound n (a -ℤ b) s
arithmetic_sound n operators.Multiply a b s = whole_sound n (a *ℤ b) s
arithmetic_sound n operators.FloorDivide a b s = divided_if n (int_eq b (pos 0)) (floor_quotient a b) s
arithmetic_sound n operators.Modulo a b s = divided_if n (int_eq b (pos 0)) (floor_remainder a b) s
arithmetic_sound n operators.Power a b s = power_sound n a b s

-- ---- items of nothing

nothing_times : (vs : List Value) (k : ℕ) → length vs ≡ 0 → [] ≡ flat_map (λ part. part) (replicate k vs)
nothing_times [] zero h = refl
nothing_times [] (suc k) h = nothing_times [] k h
nothing_times (v ∷ vs) k h = absurd (omega arith)

pub nothing_often : (xs ys : List rust.Value) (k : ℕ) → length xs ≡ 0 → length ys ≡ 0 → map value_of xs ≡ flat_map (λ part. part) (replicate k (map value_of ys))
nothing_often [] [] k h e = nothing_times [] k refl
nothing_often (x ∷ xs) ys k h e = absurd (omega arith)
nothing_often [] (y ∷ ys) k h e = absurd (omega arith)

pub factor_below : (n k m : ℕ) → 0 < n → n * k < m → k < m
factor_below zero k m h p = absurd (omega arith)
factor_below (suc n) k m h p = omega arith
