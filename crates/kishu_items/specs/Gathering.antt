-- Lists that are made one after the other, and nodes that come to a heap.
use Rattle.std.proofs.Common.{◌≡◌, ◌∙◌, ap, sym, refl, arith, ℕ, zero, suc, ◌+◌, ◌<◌, ◌≤◌, true, IsTrue, List, [], ◌∷◌, ◌++◌, length, map, drop, get_or, drop-cons, add-one, append_assoc, length-append, rules}
use Rattle.std.specs.Prelude.{nat_lt}
use Rattle.std.proofs.lemmas.Bool.Decides.{nat_tests}
use Rattle.kishu_meaning.specs.declared.value.Value as rust
use Rattle.kishu_meaning.specs.values.Values.{value_of, Value, none, bool, integer, text, range, builtin, class, node, Node}
use Rattle.kishu_meaning.specs.moments.Moment.{M, Moment, Ends, fine, raised, stopped, and_then, ◌>>=◌, give}
use Rattle.kishu_meaning.specs.values.Sound.{is_sound, are_sound}
use Rattle.kishu_items.specs.Contents.{IsGrown}
use Rattle.kishu_heap.specs.declared.fault.CallFault.{CallFault}
use Rattle.kishu_items.specs.Called.{Fails}
use Rattle.kishu_items.specs.Failing.{fails_through}
use Rattle.kishu_items.specs.Holding.{both, first, second}

-- what is still to be made, behind what is there
abbrev pub behind : {A : Type 0} → List A → List A → M (List A)
behind done rest s = fine (done ++ rest) s

pub gathered : {A : Type 0} (done : List A) (a : A) (e : Ends (List A)) → and_then (and_then e (λ rest. give (a ∷ rest))) (behind done) ≡ and_then e (behind (done ++ a ∷ []))
gathered done a (fine rest s) = ap (λ l. fine l s) (sym (append_assoc done (a ∷ []) rest))
gathered done a (raised x s) = refl
gathered done a (stopped s) = refl

pub dropped : {A : Type 0} (xs : List A) (i : ℕ) (x : A) → i < length xs → x ≡ get_or xs i x → drop i xs ≡ x ∷ drop (i + 1) xs
dropped xs i x h p = rw add-one (drop-cons xs i x h ∙ ap (λ y. y ∷ drop (suc i) xs) (sym p))

-- one, and then the others, behind what is there
module _ {A : Type 0} (one : M A) (others : M (List A)) (done : List A) (s t : Moment) where
  abbrev pub each : Ends (List A)
  each = (one >>= λ a. others >>= λ rest. give (a ∷ rest)) s

  pub each_fault : (f : CallFault) → Fails {A = A} f t (one s) → Fails {A = List A} f t (and_then each (behind done))
  each_fault f h = fails_through f t each (behind done) (fails_through f t (one s) (λ a. others >>= λ rest. give (a ∷ rest)) h)

  pub each_further : (a : A) → one s ≡ fine a t → and_then each (behind done) ≡ and_then (others t) (behind (done ++ a ∷ []))
  each_further a h = ap (λ e. and_then (and_then e (λ a. others >>= λ rest. give (a ∷ rest))) (behind done)) h ∙ gathered done a (others t)

-- ---- nodes that come

pub stays_grown : (k : ℕ) (ns : List Node) → IsGrown k ns ns
stays_grown k ns = record { more = []; is = search rules; few = omega arith }

pub grows_on : (j k m : ℕ) (a b c : List Node) → IsGrown j a b → IsGrown k b c → j + k ≤ m → IsGrown m a c
grows_on j k m a b c g h le = record {
  more = g.more ++ h.more;
  is = h.is ∙ ap (λ ns. ns ++ h.more) g.is ∙ append_assoc a g.more h.more;
  few = omega (arith, length-append g.more h.more, g.few, h.few);
}

pub grown_length : (k : ℕ) (a b : List Node) → IsGrown k a b → length b ≤ length a + k
grown_length k a b g = omega (arith, ap length g.is, length-append a g.more, g.few)

pub grown_least : (k : ℕ) (a b : List Node) → IsGrown k a b → length a ≤ length b
grown_least k a b g = omega (arith, ap length g.is, length-append a g.more)

pub less_true : (i n m : ℕ) → n ≤ m → IsTrue (nat_lt i n) → IsTrue (nat_lt i m)
less_true i n m p h = grind (arith, nat_tests)

pub value_more : (n m : ℕ) → n ≤ m → (v : Value) → IsTrue (is_sound n v) → IsTrue (is_sound m v)
value_more n m p none h = h
value_more n m p (bool b) h = h
value_more n m p (integer z) h = h
value_more n m p (text cs) h = h
value_more n m p (range a b c) h = h
value_more n m p (builtin k) h = h
value_more n m p (class k) h = h
value_more n m p (node i) h = less_true i n m p h

pub values_more : (n m : ℕ) → n ≤ m → (vs : List Value) → IsTrue (are_sound n vs) → IsTrue (are_sound m vs)
values_more n m p [] a = refl
values_more n m p (v ∷ vs) a = both (is_sound m v) _ (value_more n m p v (first (is_sound n v) _ a)) (values_more n m p vs (second (is_sound n v) _ a))

-- ---- items that are sound

pub sound_on : (n : ℕ) (vs : List Value) (v : Value) → IsTrue (are_sound n vs) → IsTrue (is_sound n v) → IsTrue (are_sound n (vs ++ v ∷ []))
sound_on n [] v a h = both (is_sound n v) true h refl
sound_on n (w ∷ vs) v a h = both (is_sound n w) _ (first (is_sound n w) _ a) (sound_on n vs v (second (is_sound n w) _ a) h)

pub sound_at : (n : ℕ) (xs : List rust.Value) (i : ℕ) (x : rust.Value) → i < length xs → x ≡ get_or xs i x → IsTrue (are_sound n (map value_of xs)) → IsTrue (is_sound n (value_of x))
sound_at n [] i x h p a = absurd (omega arith)
sound_at n (y ∷ ys) zero x h p a = rw p (first (is_sound n (value_of y)) _ a)
sound_at n (y ∷ ys) (suc i) x h p a = sound_at n ys i x (omega arith) p (second (is_sound n (value_of y)) _ a)
