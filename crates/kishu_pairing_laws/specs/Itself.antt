-- A run beside itself: from it follows that what looks at no name records no access.
use Rattle.std.specs.Prelude.{[], ℕ, List, Option, ◌≡◌, slice_get}
use Rattle.std.proofs.Common.{inr, arith, refl, subst, inl, sym}
use Rattle.kishu_meaning.specs.moments.Moment.{Thrown, fresh, thrown_object, Moment, M}
use Rattle.kishu_meaning.specs.values.Values.{Value, node, Node, list, tuple, dict, object, function, exception}
use Rattle.kishu_objects.specs.Lists.{In}
use Rattle.kishu_pairing_laws.specs.World.{World, Paired, SameValue, paired, plain, SameValues, SameEntries, SameEntry, SameNode, lists, tuples, dicts, objects, functions, exceptions, SameThrown, both_fresh, both_thrown, BothOrNeither, SameMoment, SameLocals, GoQuietly, end_of, Grows}
use Rattle.kishu_pairing_laws.specs.values.Lists.{zip_itself, opt_itself}

abbrev pub itself : World
itself = record {
  P = λ i j. ⊥;
  N = λ x. Unit {0};
  Sorted = ⊥;
  nodes_here = [];
  nodes_there = [];
  names_here = [];
  names_there = [];
  left_in = λ i j p. absurd p;
  right_in = λ i j p. absurd p;
  one_right = λ i j k p q. absurd p;
  one_left = λ i j k p q. absurd p;
}

pub one_pair : (i : ℕ) → Paired itself i i
one_pair i = inr (omega arith, refl)

pub one_value : (v : Value) → SameValue itself v v
one_value (node i) = paired i i (one_pair i)
one_value v = plain v tt

pub one_list : (vs : List Value) → SameValues itself vs vs
one_list = zip_itself (SameValue itself) one_value

pub one_entries : {K : Type 0} (es : List (K × Value)) → SameEntries itself es es
one_entries = zip_itself (SameEntry itself) (λ e. (refl, one_value e.1))

pub one_node : (n : Node) → SameNode itself n n
one_node (list vs) = lists (one_list vs)
one_node (tuple vs) = tuples (one_list vs)
one_node (dict es) = dicts (one_entries es)
one_node (object es) = objects (one_entries es)
one_node (function profile code vs) = functions profile code (one_list vs)
one_node (exception kind vs) = exceptions kind (one_list vs)

pub one_thrown : (x : Thrown) → SameThrown itself x x
one_thrown (fresh kind vs) = both_fresh kind (one_list vs)
one_thrown (thrown_object i) = both_thrown i i (one_pair i)

node_opt : (o p : Option Node) → o ≡ p → BothOrNeither (SameNode itself) o p
node_opt o p e = subst (BothOrNeither (SameNode itself) o) e (opt_itself (SameNode itself) one_node o)

at_both : (ns : List Node) (i j : ℕ) → Paired itself i j → BothOrNeither (SameNode itself) (slice_get ns i) (slice_get ns j)
at_both ns i j (inl p) = absurd p
at_both ns i j (inr p) = (let e : i ≡ j = omega arith in subst (λ k. BothOrNeither (SameNode itself) (slice_get ns i) (slice_get ns k)) e (opt_itself (SameNode itself) one_node (slice_get ns i)))

pub one_moment : (s : Moment) → SameMoment itself s s
one_moment s = record {
  profile = refl;
  names = record { bound = λ x n. opt_itself (SameValue itself) one_value _; left_others = λ x no. absurd (no tt); right_others = λ x no. absurd (no tt); left_rise = λ h. absurd h; right_rise = λ h. absurd h };
  heaps = record { base = omega arith; counts = refl; closed = at_both s.nodes; left_stays = λ i lt un. absurd (omega arith); right_stays = λ j lt un. absurd (omega arith) };
  accessed = refl;
  locals = opt_itself (SameLocals itself) (λ f. record { own = refl; values = one_entries f.values }) s.locals;
  handled = opt_itself (SameValue itself) one_value s.handled;
  left = refl;
  depth = refl;
  out = refl;
}

pub quiet_stays : {A B : Type 0} {R : A → B → Type 0} {m : M A} {n : M B} → GoQuietly itself R m n → (s : Moment) → (end_of (m s)).accessed ≡ s.accessed
quiet_stays q s = q.stays s s (one_moment s)

pub quiet_grows : {A B : Type 0} {R : A → B → Type 0} {m : M A} {n : M B} → GoQuietly itself R m n → Grows m
quiet_grows q = record { grows = λ s x h. subst (In x) (sym (q.stays s s (one_moment s))) h }
