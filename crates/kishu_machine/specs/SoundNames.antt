-- Names that are bound and unbound stay sound, and what is found under one is sound.
use Rattle.std.proofs.Common.{◌≡◌, ◌∙◌, refl, sym, ap, cond, arith, ℕ, suc, ◌<◌, ◌+◌, Bool, true, false, ◌&&◌, IsTrue, List, [], ◌∷◌, length, Option, Some, None, Ordering, Result, Ok, Err, OnOk, subst}
use Rattle.std.specs.Prelude.{option_map, nat_lt, ◌||◌, OnErr}
use Rattle.std.proofs.lemmas.Bool.Decides.{nat_tests}
use Rattle.std.specs.Ordering.{nat_cmp, match_ordering}
use Rattle.std.specs.Cmp.Lexicographic.{slice_cmp}
use Rattle.std.specs.Str.{bytes_eq}
use Rattle.std.specs.declared.cmp.Ordering.TheVariants.{Less, Equal, Greater}
use Rattle.kishu_meaning.specs.values.Values.{Value, class, builtin, find, bind, Names, Node}
use Rattle.kishu_language.specs.tokens.Names.{is_name, is_among, place_among}
use Rattle.kishu_meaning.specs.values.BuiltinNames.{builtin_names, class_names}
use Rattle.kishu_meaning.specs.moments.Accesses.{unbind}
use Rattle.kishu_meaning.specs.values.Sound.{builtins, classes, is_sound, are_sound_names}
use Rattle.kishu_items.specs.Holding.{both, first, second}
use Rattle.kishu_names.specs.Namespace.{Namespace}
use Rattle.kishu_meaning.specs.moments.Moment.{Locals}
use Rattle.kishu_machine.specs.Frames.{is_sound_run}
use Rattle.kishu_machine.specs.SoundMore.{names_in_run, run_with_names}

abbrev pub is_sound_found : ℕ → Option Value → Bool
is_sound_found n None = true
is_sound_found n (Some v) = is_sound n v

module _ (n : ℕ) where
  found_either : (b : Bool) (v : Value) (rest : Option Value) → IsTrue (is_sound n v) → IsTrue (is_sound_found n rest) → IsTrue (is_sound_found n (cond b (Some v) rest))
  found_either true v rest h k = h
  found_either false v rest h k = k

  pub finds_sound : (x : List ℕ) (names : Names) → IsTrue (are_sound_names n names) → IsTrue (is_sound_found n (find x names))
  finds_sound x [] h = refl
  finds_sound x (b ∷ names) h =
      let here = first (is_name b.0 && is_sound n b.1) _ h in
      found_either (bytes_eq x b.0) b.1 _ (second (is_name b.0) _ here) (finds_sound x names (second (is_name b.0 && is_sound n b.1) _ h))

  bind_either : (x : List ℕ) (v : Value) (b : List ℕ × Value) (names rest : Names) (o : Ordering) → IsTrue (is_name x && is_sound n v) → IsTrue (is_name b.0 && is_sound n b.1) → IsTrue (are_sound_names n names) → IsTrue (are_sound_names n rest)
      → IsTrue (are_sound_names n (match_ordering o ((x, v) ∷ b ∷ names) ((x, v) ∷ names) (b ∷ rest)))
  bind_either x v b names rest Less h here all more = both (is_name x && is_sound n v) _ h (both (is_name b.0 && is_sound n b.1) _ here all)
  bind_either x v b names rest Equal h here all more = both (is_name x && is_sound n v) _ h all
  bind_either x v b names rest Greater h here all more = both (is_name b.0 && is_sound n b.1) _ here more

  pub binds_sound : (x : List ℕ) (v : Value) (names : Names) → IsTrue (is_name x) → IsTrue (is_sound n v) → IsTrue (are_sound_names n names) → IsTrue (are_sound_names n (bind x v names))
  binds_sound x v [] p q h = both (is_name x && is_sound n v) true (both (is_name x) _ p q) refl
  binds_sound x v (b ∷ names) p q h =
      let here = first (is_name b.0 && is_sound n b.1) _ h in
      let all = second (is_name b.0 && is_sound n b.1) _ h in
      bind_either x v b names _ (slice_cmp nat_cmp x b.0) (both (is_name x) _ p q) here all (binds_sound x v names p q all)

  unbind_either : (c : Bool) (b : List ℕ × Value) (names rest : Names) → IsTrue (is_name b.0 && is_sound n b.1) → IsTrue (are_sound_names n names) → IsTrue (are_sound_names n rest) → IsTrue (are_sound_names n (cond c names (b ∷ rest)))
  unbind_either true b names rest here all more = all
  unbind_either false b names rest here all more = both (is_name b.0 && is_sound n b.1) _ here more

  pub unbinds_sound : (x : List ℕ) (names : Names) → IsTrue (are_sound_names n names) → IsTrue (are_sound_names n (unbind x names))
  unbinds_sound x [] h = refl
  unbinds_sound x (b ∷ names) h =
      let all = second (is_name b.0 && is_sound n b.1) _ h in
      unbind_either (bytes_eq x b.0) b names _ (first (is_name b.0 && is_sound n b.1) _ h) all (unbinds_sound x names all)

-- ---- places of words

place_either : (b : Bool) (o : Option ℕ) (n m : ℕ) → ((k : ℕ) → o ≡ Some k → k < m) → cond b (Some 0) (option_map suc o) ≡ Some n → n < m + 1
place_either true o n m h e = (let z : 0 ≡ n = cc in omega arith)
place_either false None n m h e = absurd cc
place_either false (Some k) n m h e = (let z : suc k ≡ n = cc in let s = h k refl in omega arith)

pub place_within : (word : List ℕ) (words : List (List ℕ)) (n : ℕ) → place_among word words ≡ Some n → n < length words
place_within word [] n e = absurd cc
place_within word (w ∷ words) n e = (let s = place_either (bytes_eq word w) (place_among word words) n (length words) (place_within word words) e in omega arith)

pub less_test : (i n : ℕ) → i < n → IsTrue (nat_lt i n)
less_test i n h = grind (arith, nat_tests)

pub builtin_sound : (k : ℕ) (word : List ℕ) (n : ℕ) → place_among word builtin_names ≡ Some n → IsTrue (is_sound k (builtin n))
unfolding builtin_names
builtin_sound k word n e = both (nat_lt n builtins) true (less_test n builtins (place_within word builtin_names n e)) refl

pub class_sound : (k : ℕ) (word : List ℕ) (n : ℕ) → place_among word class_names ≡ Some n → IsTrue (is_sound k (class n))
unfolding class_names
class_sound k word n e = both (nat_lt n classes) true (less_test n classes (place_within word class_names n e)) refl

-- ---- words among others

pub among_here : (name x : List ℕ) (rest all : List (List ℕ)) → bytes_eq name x ≡ true → is_among name (x ∷ rest) ≡ is_among name all → true ≡ is_among name all
among_here name x rest all h e = sym (ap (λ b. b || is_among name rest) h) ∙ e

-- ---- a run whose names change, unless memory ran out

module _ (ns : List Node) (old new : Namespace) (locals : Option Locals) (handled : Option Value) where
  pub kept_run : new.bound ≡ old.bound → IsTrue (is_sound_run ns old.bound locals handled) → IsTrue (is_sound_run ns new.bound locals handled)
  kept_run e h = subst (λ (names : Names). IsTrue (is_sound_run ns names locals handled)) (sym e) h

  pub unbound_run : {T E : Type 0} (x : List ℕ) (r : Result T E) → OnOk r (new.bound ≡ unbind x old.bound) → OnErr r (new ≡ old) → IsTrue (is_sound_run ns old.bound locals handled) → IsTrue (is_sound_run ns new.bound locals handled)
  unbound_run x (Ok y) e k h = subst (λ (names : Names). IsTrue (is_sound_run ns names locals handled)) (sym e) (run_with_names ns old.bound (unbind x old.bound) locals handled (unbinds_sound (length ns) x old.bound (names_in_run ns old.bound locals handled h)) h)
  unbound_run x (Err y) e k h = kept_run (ap (λ (n : Namespace). n.bound) k) h

  pub bound_run : {T E : Type 0} (x : List ℕ) (v : Value) (r : Result T E) → IsTrue (is_name x) → IsTrue (is_sound (length ns) v) → OnOk r (new.bound ≡ bind x v old.bound) → OnErr r (new ≡ old) → IsTrue (is_sound_run ns old.bound locals handled) → IsTrue (is_sound_run ns new.bound locals handled)
  bound_run x v (Ok y) p q e k h = subst (λ (names : Names). IsTrue (is_sound_run ns names locals handled)) (sym e) (run_with_names ns old.bound (bind x v old.bound) locals handled (binds_sound (length ns) x v old.bound p q (names_in_run ns old.bound locals handled h)) h)
  bound_run x v (Err y) p q e k h = kept_run (ap (λ (n : Namespace). n.bound) k) h
