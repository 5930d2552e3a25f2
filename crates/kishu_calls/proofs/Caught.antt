-- Which exceptions a class or a tuple of classes catches.
use Rattle.std.proofs.Common.{◌≡◌, refl, ap, ℕ, Bool, true, false, ◌||◌}
use Rattle.kishu_meaning.specs.values.Classes.{is_within}
use Rattle.kishu_meaning.specs.moments.Moment.{Moment, fine, node_at}
use Rattle.kishu_meaning.specs.calls.Operators.{tuple_from}
use Rattle.kishu_meaning.specs.values.Values.{Value, none, bool, integer, text, range, builtin, class, node}
use Rattle.kishu_meaning.specs.cells.Ways.{is_caught_by, is_class_of_exceptions, caught_among, caught_by}

or_no : (b : Bool) → (b || false) ≡ b
or_no true = refl
or_no false = refl

pub by_class : (kind : ℕ) (v : Value) (s : Moment) → is_class_of_exceptions v ≡ true → caught_by kind v s ≡ fine (is_caught_by kind v) s
by_class kind (class n) s e = rw e (ap (λ b. fine b s) (or_no (is_within kind n)))
by_class kind none s e = absurd cc
by_class kind (bool b) s e = absurd cc
by_class kind (integer z) s e = absurd cc
by_class kind (text cs) s e = absurd cc
by_class kind (range a b c) s e = absurd cc
by_class kind (builtin n) s e = absurd cc
by_class kind (node i) s e = absurd cc

pub by_tuple : (kind : ℕ) (v : Value) (s : Moment) → is_class_of_exceptions v ≡ false → caught_by kind v s ≡ caught_among kind (tuple_from (node_at s.nodes v)) s
by_tuple kind (class n) s e = rw e refl
by_tuple kind none s e = refl
by_tuple kind (bool b) s e = refl
by_tuple kind (integer z) s e = refl
by_tuple kind (text cs) s e = refl
by_tuple kind (range a b c) s e = refl
by_tuple kind (builtin n) s e = refl
by_tuple kind (node i) s e = refl

pub ruleset caught_rules = (by_class, by_tuple)
