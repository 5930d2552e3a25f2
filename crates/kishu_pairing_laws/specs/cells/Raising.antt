-- What is raised and what is caught look at no name, and go alike.
use Rattle.std.specs.Prelude.{List, ℕ, Option, ◌≡◌, if◌then◌else◌, ◌&&◌, ◌||◌}
use Rattle.std.specs.List.{list_all, list_any}
use Rattle.std.proofs.Common.{refl, subst, ap, ◌∙◌}
use Rattle.kishu_meaning.specs.calls.Operators.{tuple_from}
use Rattle.kishu_meaning.specs.cells.Ways.{no_exception, object_of, is_exception, throw_object, throw_value, throw_caught, throw_again, kind_of_node, kind_of_thrown, is_class_of_exceptions, is_caught_by, are_caught_by, caught_among, caught_by, is_caught}
use Rattle.kishu_meaning.specs.moments.Moment.{Thrown, throw, thrown_object, Moment, give, node_now, ◌>>=◌, look}
use Rattle.kishu_meaning.specs.values.Sound.{is_exception_class}
use Rattle.kishu_meaning.specs.values.Values.{Value, Node, node, class}
use Rattle.kishu_pairing_laws.specs.World.{World, SameValue, GoQuietly, SameThrown, both_fresh, exceptions, both_thrown, paired, BothOrNeither, SameNode, neither, both, lists, tuples, dicts, objects, functions, Paired, IsPlain, plain, nil, SameMoment, SameValues, cons, Is}
use Rattle.kishu_pairing_laws.specs.moments.Steps.{raise_quiet, give_quiet, cond_quiet, throw_quiet, bind_quiet, asking_quiet, look_quiet, bind_is}
use Rattle.kishu_pairing_laws.specs.moments.Heap.{make_quiet, node_now_quiet}
use Rattle.kishu_pairing_laws.specs.values.Nodes.{tuple_there}

module _ (W : World) where
  pub no_exception_quiet : {A B : Type 0} {R : A → B → Type 0} → GoQuietly W R no_exception no_exception
  no_exception_quiet = raise_quiet W _ _

  pub object_of_quiet : {x y : Thrown} → SameThrown W x y → GoQuietly W (SameValue W) (object_of x) (object_of y)
  object_of_quiet (both_fresh kind z) = make_quiet W (exceptions kind z)
  object_of_quiet (both_thrown i j p) = give_quiet W (paired i j p)

  exception_is : {o p : Option Node} → BothOrNeither (SameNode W) o p → is_exception o ≡ is_exception p
  exception_is neither = refl
  exception_is (both (lists z)) = refl
  exception_is (both (tuples z)) = refl
  exception_is (both (dicts z)) = refl
  exception_is (both (objects z)) = refl
  exception_is (both (functions profile code z)) = refl
  exception_is (both (exceptions kind z)) = refl

  thrown_node : {A B : Type 0} {R : A → B → Type 0} {i j : ℕ} {o q : Option Node} → Paired W i j → BothOrNeither (SameNode W) o q → GoQuietly W R (if is_exception o then throw (thrown_object i) else no_exception) (if is_exception q then throw (thrown_object j) else no_exception)
  thrown_node {R = R} {i = i} {j = j} {o = o} p oq = subst (λ b. GoQuietly W R (if is_exception o then throw (thrown_object i) else no_exception) (if b then throw (thrown_object j) else no_exception)) (exception_is oq) (cond_quiet W (is_exception o) (throw_quiet W (both_thrown i j p)) no_exception_quiet)

  module _ {A B : Type 0} {R : A → B → Type 0} where
    throw_plain : (v : Value) → IsPlain v → GoQuietly W R (throw_object v) (throw_object v)
    throw_plain (node i) p = absurd p
    throw_plain v p = no_exception_quiet

    pub throw_object_quiet : {v w : Value} → SameValue W v w → GoQuietly W R (throw_object v) (throw_object w)
    throw_object_quiet (plain v p) = throw_plain v p
    throw_object_quiet (paired i j p) = bind_quiet W (node_now_quiet W (paired i j p)) (λ o q oq. thrown_node p oq)

    value_plain : (v : Value) → IsPlain v → GoQuietly W R (throw_value v) (throw_value v)
    value_plain (class n) p = cond_quiet W (is_exception_class n) (bind_quiet W (make_quiet W (exceptions n nil)) (λ v w vw. throw_object_quiet vw)) no_exception_quiet
    value_plain (node i) p = absurd p
    value_plain v p = no_exception_quiet

    pub throw_value_quiet : {v w : Value} → SameValue W v w → GoQuietly W R (throw_value v) (throw_value w)
    throw_value_quiet (plain v p) = value_plain v p
    throw_value_quiet (paired i j p) = throw_object_quiet (paired i j p)

    caught_quiet : {o p : Option Value} → BothOrNeither (SameValue W) o p → GoQuietly W R (throw_caught o) (throw_caught p)
    caught_quiet (both vw) = throw_object_quiet vw
    caught_quiet neither = no_exception_quiet

    pub throw_again_quiet : GoQuietly W R throw_again throw_again
    throw_again_quiet = asking_quiet W (λ s. throw_caught s.handled) (λ s. throw_caught s.handled) (λ s t st. caught_quiet st.handled)

  node_kind_is : {o p : Option Node} → BothOrNeither (SameNode W) o p → kind_of_node o ≡ kind_of_node p
  node_kind_is neither = refl
  node_kind_is (both (lists z)) = refl
  node_kind_is (both (tuples z)) = refl
  node_kind_is (both (dicts z)) = refl
  node_kind_is (both (objects z)) = refl
  node_kind_is (both (functions profile code z)) = refl
  node_kind_is (both (exceptions kind z)) = refl

  pub thrown_kind : {x y : Thrown} {s t : Moment} → SameThrown W x y → SameMoment W s t → kind_of_thrown s.nodes x ≡ kind_of_thrown t.nodes y
  thrown_kind (both_fresh kind z) st = refl
  thrown_kind (both_thrown i j p) st = node_kind_is (st.heaps.closed i j p)

  class_is : {v w : Value} → SameValue W v w → is_class_of_exceptions v ≡ is_class_of_exceptions w
  class_is (plain v p) = refl
  class_is (paired i j p) = refl

  classes_are : {vs ws : List Value} → SameValues W vs ws → list_all is_class_of_exceptions vs ≡ list_all is_class_of_exceptions ws
  classes_are nil = refl
  classes_are (cons {b = w} {as' = vs} vw z) = ap (λ b. b && list_all is_class_of_exceptions vs) (class_is vw) ∙ ap (λ b. is_class_of_exceptions w && b) (classes_are z)

  caught_is : (kind : ℕ) {v w : Value} → SameValue W v w → is_caught_by kind v ≡ is_caught_by kind w
  caught_is kind (plain v p) = refl
  caught_is kind (paired i j p) = refl

  any_caught : (kind : ℕ) {vs ws : List Value} → SameValues W vs ws → list_any (is_caught_by kind) vs ≡ list_any (is_caught_by kind) ws
  any_caught kind nil = refl
  any_caught kind (cons {b = w} {as' = vs} vw z) = ap (λ b. b || list_any (is_caught_by kind) vs) (caught_is kind vw) ∙ ap (λ b. is_caught_by kind w || b) (any_caught kind z)

  are_caught_quiet : (kind : ℕ) {vs ws : List Value} → SameValues W vs ws → GoQuietly W Is (are_caught_by kind vs) (are_caught_by kind ws)
  are_caught_quiet kind {vs = vs} {ws = ws} z = subst (λ b. GoQuietly W Is (are_caught_by kind vs) (if b then give (list_any (is_caught_by kind) ws) else no_exception)) (classes_are z) (cond_quiet W (list_all is_class_of_exceptions vs) (give_quiet W (any_caught kind z)) no_exception_quiet)

  among_quiet : (kind : ℕ) {o p : Option (List Value)} → BothOrNeither (SameValues W) o p → GoQuietly W Is (caught_among kind o) (caught_among kind p)
  among_quiet kind (both z) = are_caught_quiet kind z
  among_quiet kind neither = no_exception_quiet

  by_plain_value : (kind : ℕ) (v : Value) → IsPlain v → GoQuietly W Is (caught_by kind v) (caught_by kind v)
  by_plain_value kind (class n) p = are_caught_quiet kind (cons (plain (class n) tt) nil)
  by_plain_value kind (node i) p = absurd p
  by_plain_value kind v p = no_exception_now v p
    where
      no_exception_now : (v : Value) → IsPlain v → GoQuietly W Is (node_now v >>= λ found. caught_among kind (tuple_from found)) (node_now v >>= λ found. caught_among kind (tuple_from found))
      no_exception_now v p = bind_quiet W (node_now_quiet W (plain v p)) (λ o q oq. among_quiet kind (tuple_there W oq))

  caught_by_quiet : (kind : ℕ) {v w : Value} → SameValue W v w → GoQuietly W Is (caught_by kind v) (caught_by kind w)
  caught_by_quiet kind (plain v p) = by_plain_value kind v p
  caught_by_quiet kind (paired i j p) = bind_quiet W (node_now_quiet W (paired i j p)) (λ o q oq. among_quiet kind (tuple_there W oq))

  kind_quiet : {x y : Thrown} → SameThrown W x y → GoQuietly W Is (look (λ ns. kind_of_thrown ns x)) (look (λ ns. kind_of_thrown ns y))
  kind_quiet xy = look_quiet W _ _ (λ s t st. thrown_kind xy st)

  pub is_caught_quiet : {x y : Thrown} {v w : Value} → SameThrown W x y → SameValue W v w → GoQuietly W Is (is_caught x v) (is_caught y w)
  is_caught_quiet xy vw = bind_is W (kind_quiet xy) (λ kind. caught_by_quiet kind vw)
