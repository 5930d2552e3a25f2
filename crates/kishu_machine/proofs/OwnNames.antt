-- The names of a function in progress: read, bound and unbound as the definitions say.
use Rattle.std.proofs.Common.{◌≡◌, refl, sym, ap, cond, subst, ℕ, Bool, true, false, IsTrue, List, [], ◌∷◌, ◌++◌, length, Option, Some, None, Result, Ok, Err, OnOk}
use Rattle.std.specs.Prelude.{OnErr, option_map, is_some, codes, not}
use Rattle.std.proofs.lemmas.Bool.{false≢true}
use Rattle.std.specs.Str.{bytes_eq, chars}
use Rattle.kishu_meaning.specs.moments.Accesses.{unbind, with_access}
use Rattle.kishu_meaning.specs.moments.Moment.{Moment, Locals, fine, assign, read, read_global, or_unbound, bind_global, delete, delete_global, delete_local}
use Rattle.kishu_language.specs.tokens.Names.{is_name}
use Rattle.kishu_meaning.specs.values.Sound.{is_sound}
use Rattle.kishu_meaning.specs.values.Values.{Value, Node, Names, find, bind}
use Rattle.kishu_meaning.specs.cells.Ways.{forget, forget_global}
use Rattle.kishu_meaning.specs.values.Classes.{name_error_class, unbound_local_error_class}
use Rattle.kishu_machine.specs.declared.fault.Fault.{Fault}
use Rattle.kishu_machine.specs.Frames.{is_own, own_value, own_bound, own_unbound, is_sound_locals, is_sound_run}
use Rattle.kishu_machine.specs.Machine.{Gives, IsRaised}
use Rattle.kishu_machine.specs.Raising.{raises_text}
use Rattle.kishu_machine.specs.SoundMore.{locals_in_run, run_with_locals}
use Rattle.kishu_machine.specs.SoundNames.{is_sound_found, finds_sound, binds_sound, unbinds_sound}

-- ---- which rule is taken

pub read_own : (x : List ℕ) (s : Moment) (l : Option Locals) → is_own x l ≡ true → read x (record s { locals = l }) ≡ or_unbound x (own_value x l) (record s { locals = l })
read_own x s None h = absurd (false≢true h)
read_own x s (Some here) h = rw h refl

pub read_other : (x : List ℕ) (s : Moment) (l : Option Locals) → is_own x l ≡ false → read x (record s { locals = l }) ≡ read_global x (record s { locals = l })
read_other x s None h = refl
read_other x s (Some here) h = rw h refl

pub assign_own : (x : List ℕ) (v : Value) (s : Moment) (l : Option Locals) → is_own x l ≡ true → assign x v (record s { locals = l }) ≡ fine tt (record s { locals = own_bound x v l })
assign_own x v s None h = absurd (false≢true h)
assign_own x v s (Some here) h = rw h refl

pub assign_other : (x : List ℕ) (v : Value) (s : Moment) (l : Option Locals) → is_own x l ≡ false → assign x v (record s { locals = l }) ≡ bind_global x v (record s { locals = l })
assign_other x v s None h = refl
assign_other x v s (Some here) h = rw h refl

pub forget_own : (x : List ℕ) (s : Moment) (l : Option Locals) → is_own x l ≡ true → forget x (record s { locals = l }) ≡ fine tt (record s { locals = own_unbound x l })
forget_own x s None h = absurd (false≢true h)
forget_own x s (Some here) h = rw h refl

pub forget_other : (x : List ℕ) (s : Moment) (l : Option Locals) → is_own x l ≡ false → forget x (record s { locals = l }) ≡ forget_global x (record s { locals = l })
forget_other x s None h = refl
forget_other x s (Some here) h = rw h refl

pub delete_other : (x : List ℕ) (s : Moment) (l : Option Locals) → is_own x l ≡ false → delete x (record s { locals = l }) ≡ delete_global x (record s { locals = l })
delete_other x s None h = refl
delete_other x s (Some here) h = rw h refl

-- ---- a name that has no value

found_not : (b : Bool) (v : Value) (rest : Option Value) → is_some (cond b (Some v) rest) ≡ false → (b ≡ false) × (is_some rest ≡ false)
found_not true v rest h = absurd (false≢true (sym h))
found_not false v rest h = (refl, h)

pub unbind_none : (x : List ℕ) (names : Names) → is_some (find x names) ≡ false → unbind x names ≡ names
unbind_none x [] h = refl
unbind_none x (n ∷ names) h =
    let two = found_not (bytes_eq x n.0) n.1 (find x names) h in
    let further = unbind_none x names two.1 in
    rw two.0 (ap (λ (ns : Names). n ∷ ns) further)

pub some_mapped : {A B : Type 0} (f : A → B) (o : Option A) → is_some (option_map f o) ≡ is_some o
some_mapped f (Some a) = refl
some_mapped f None = refl

module _ (x : List ℕ) (s : Moment) where
  pub bound_global : (v : Value) (names : Names) (accessed : List (List ℕ)) → names ≡ bind x v s.names → accessed ≡ with_access x s.accessed → bind_global x v s ≡ fine tt (record s { names = names; accessed = accessed })
  bound_global v names accessed p q = rw (p, q) refl

  pub forgotten_global : (names : Names) (accessed : List (List ℕ)) → names ≡ unbind x s.names → accessed ≡ with_access x s.accessed → forget_global x s ≡ fine tt (record s { names = names; accessed = accessed })
  forgotten_global names accessed p q = rw (p, q) refl

  pub missing_global : (names : Names) (accessed : List (List ℕ)) (r : Result (Unit {0}) Fault) → names ≡ unbind x s.names → accessed ≡ with_access x s.accessed → is_some (find x s.names) ≡ false
      → IsRaised r name_error_class (codes "name '" ++ chars x ++ codes "' is not defined") → Gives (λ u. u) r (record s { names = names; accessed = accessed }) (delete_global x s)
  missing_global names accessed r p q h k = rw (p, q, h, unbind_none x s.names h) (raises_text (λ u. u) name_error_class (codes "name '" ++ chars x ++ codes "' is not defined") r (record s { accessed = with_access x s.accessed }) k)

  deleted_by : (here : Locals) (r : Result (Unit {0}) Fault) (b : Bool) → is_some (find x here.values) ≡ b → (IsTrue b → r ≡ Ok tt) → (IsTrue (not b) → IsRaised r unbound_local_error_class (codes "local name '" ++ chars x ++ codes "' has no value"))
      → Gives (λ u. u) r (record s { locals = Some (record here { values = unbind x here.values }) }) (delete_local x here (record s { locals = Some here }))
  deleted_by here r true e some none = rw (e, some refl) refl
  deleted_by here r false e some none = rw (e, unbind_none x here.values e) (raises_text (λ u. u) unbound_local_error_class (codes "local name '" ++ chars x ++ codes "' has no value") r (record s { locals = Some here }) (none refl))

  deleted_here : (l : Option Locals) (r : Result (Unit {0}) Fault) → is_own x l ≡ true → (IsTrue (is_some (own_value x l)) → r ≡ Ok tt) → (IsTrue (not (is_some (own_value x l))) → IsRaised r unbound_local_error_class (codes "local name '" ++ chars x ++ codes "' has no value"))
      → Gives (λ u. u) r (record s { locals = own_unbound x l }) (delete x (record s { locals = l }))
  deleted_here None r h some none = absurd (false≢true h)
  deleted_here (Some here) r h some none = rw h (deleted_by here r (is_some (find x here.values)) refl some none)

  pub deleted_own : (l new : Option Locals) (r : Result (Unit {0}) Fault) → is_own x l ≡ true → new ≡ own_unbound x l → (IsTrue (is_some (own_value x l)) → r ≡ Ok tt) → (IsTrue (not (is_some (own_value x l))) → IsRaised r unbound_local_error_class (codes "local name '" ++ chars x ++ codes "' has no value"))
      → Gives (λ u. u) r (record s { locals = new }) (delete x (record s { locals = l }))
  deleted_own l new r h p some none = rw p (deleted_here l r h some none)

-- ---- what stays sound

pub own_value_sound : (n : ℕ) (x : List ℕ) (l : Option Locals) → IsTrue (is_sound_locals n l) → IsTrue (is_sound_found n (own_value x l))
own_value_sound n x None h = refl
own_value_sound n x (Some here) h = finds_sound n x here.values h

own_bound_sound : (n : ℕ) (x : List ℕ) (v : Value) (l : Option Locals) → IsTrue (is_name x) → IsTrue (is_sound n v) → IsTrue (is_sound_locals n l) → IsTrue (is_sound_locals n (own_bound x v l))
own_bound_sound n x v None p q h = refl
own_bound_sound n x v (Some here) p q h = binds_sound n x v here.values p q h

own_unbound_sound : (n : ℕ) (x : List ℕ) (l : Option Locals) → IsTrue (is_sound_locals n l) → IsTrue (is_sound_locals n (own_unbound x l))
own_unbound_sound n x None h = refl
own_unbound_sound n x (Some here) h = unbinds_sound n x here.values h

module _ (ns : List Node) (names : Names) (old new : Option Locals) (handled : Option Value) (x : List ℕ) where
  same_run : (l : Option Locals) → new ≡ l → IsTrue (is_sound_run ns names l handled) → IsTrue (is_sound_run ns names new handled)
  same_run l e h = subst (λ (k : Option Locals). IsTrue (is_sound_run ns names k handled)) (sym e) h

  pub own_unbound_run : new ≡ own_unbound x old → IsTrue (is_sound_run ns names old handled) → IsTrue (is_sound_run ns names new handled)
  own_unbound_run e h = same_run (own_unbound x old) e (run_with_locals ns names old (own_unbound x old) handled (own_unbound_sound (length ns) x old (locals_in_run ns names old handled h)) h)

  pub own_bound_run : {T E : Type 0} (v : Value) (r : Result T E) → IsTrue (is_name x) → IsTrue (is_sound (length ns) v) → OnOk r (new ≡ own_bound x v old) → OnErr r (new ≡ old) → IsTrue (is_sound_run ns names old handled) → IsTrue (is_sound_run ns names new handled)
  own_bound_run v (Ok y) p q e k h = same_run (own_bound x v old) e (run_with_locals ns names old (own_bound x v old) handled (own_bound_sound (length ns) x v old p q (locals_in_run ns names old handled h)) h)
  own_bound_run v (Err y) p q e k h = same_run old k h
