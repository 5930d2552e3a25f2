-- The small parts of a cell's forms that look at no name go alike.
use Rattle.std.specs.Prelude.{List, ℕ, Option, Some}
use Rattle.std.proofs.Common.{subst, refl}
use Rattle.kishu_language.specs.declared.tree.Operator.{Operator}
use Rattle.kishu_language.specs.declared.tree.Operator.TheVariants as operators
use Rattle.kishu_language.specs.trees.Tree.{Trailers, no_trailers, more_trailers}
use Rattle.kishu_meaning.specs.cells.Meaning.{Place, named, attribute_of, item_of, no_place, nodes, with_pairs, new_dict, add_to, updated, new_function, shown_text}
use Rattle.kishu_meaning.specs.comparing.Show.{repr_of}
use Rattle.kishu_meaning.specs.moments.Moment.{make, give, ◌>>=◌}
use Rattle.kishu_meaning.specs.values.Keys.{Key, is_one}
use Rattle.kishu_meaning.specs.values.Values.{Value, node, none, bool, integer, text, range, builtin, class, function}
use Rattle.kishu_pairing_laws.specs.World.{World, SameValue, GoQuietly, Any, Zip, SameEntries, nil, cons, dicts, IsPlain, BothOrNeither, SameValues, plain, paired, neither, both, functions, Is}
use Rattle.kishu_pairing_laws.specs.moments.Steps.{give_quiet, raise_quiet, then_quiet, tick_quiet, bind_is, bind_quiet, asking_quiet}
use Rattle.kishu_pairing_laws.specs.values.Lists.{entries_with}
use Rattle.kishu_pairing_laws.specs.moments.Heap.{make_quiet, node_now_quiet}
use Rattle.kishu_pairing_laws.specs.values.Nodes.{list_there}
use Rattle.kishu_pairing_laws.specs.calls.Operators.{operate_quiet}
use Rattle.kishu_pairing_laws.specs.items.KeyOf.{key_quiet}
use Rattle.kishu_pairing_laws.specs.comparing.Show.{repr_quiet}
use Rattle.kishu_pairing_laws.specs.items.Sequences.{extended_quiet}

abbrev pub SamePair : World → Value × Value → Value × Value → Type 0
SamePair W p q = SameValue W p.0 q.0 × SameValue W p.1 q.1

pub data SamePlace (W : World) : Place → Place → Type 0 where
  named_places : (x : List ℕ) → SamePlace W (named x) (named x)
  attribute_places : {v w : Value} (x : List ℕ) → SameValue W v w → SamePlace W (attribute_of v x) (attribute_of w x)
  item_places : {v w i j : Value} → SameValue W v w → SameValue W i j → SamePlace W (item_of v i) (item_of w j)

module _ (W : World) where
  pub no_place_quiet : {A B : Type 0} {R : A → B → Type 0} → GoQuietly W R (no_place {A = A}) (no_place {A = B})
  no_place_quiet = raise_quiet W _ _

  pub nodes_quiet : (ts : Trailers) → GoQuietly W Any (nodes ts) (nodes ts)
  nodes_quiet no_trailers = give_quiet W tt
  nodes_quiet (more_trailers first ts) = then_quiet W (tick_quiet W) (nodes_quiet ts)

  with_pairs_quiet : {ps qs : List (Value × Value)} {es fs : List (Key × Value)} → Zip (SamePair W) ps qs → SameEntries W es fs → GoQuietly W (SameEntries W) (with_pairs ps es) (with_pairs qs fs)
  with_pairs_quiet nil z = give_quiet W z
  with_pairs_quiet (cons h k) z = bind_is W (key_quiet W h.0) (λ key. with_pairs_quiet k (entries_with W is_one key h.1 z))

  pub new_dict_quiet : {ps qs : List (Value × Value)} → Zip (SamePair W) ps qs → GoQuietly W (SameValue W) (new_dict ps) (new_dict qs)
  new_dict_quiet z = bind_quiet W (with_pairs_quiet z nil) (λ es fs h. make_quiet W (dicts h))

  add_plain : (v : Value) → IsPlain v → {x y : Value} {o p : Option (List Value)} → SameValue W x y → BothOrNeither (SameValues W) o p → GoQuietly W (SameValue W) (add_to v x o) (add_to v y p)
  add_plain (node i) p xy op = absurd p
  add_plain none p xy op = operate_quiet W operators.Add (plain none p) xy
  add_plain (bool b) p xy op = operate_quiet W operators.Add (plain (bool b) p) xy
  add_plain (integer z) p xy op = operate_quiet W operators.Add (plain (integer z) p) xy
  add_plain (text cs) p xy op = operate_quiet W operators.Add (plain (text cs) p) xy
  add_plain (range a b c) p xy op = operate_quiet W operators.Add (plain (range a b c) p) xy
  add_plain (builtin n) p xy op = operate_quiet W operators.Add (plain (builtin n) p) xy
  add_plain (class n) p xy op = operate_quiet W operators.Add (plain (class n) p) xy

  add_to_quiet : {v w x y : Value} {o p : Option (List Value)} → SameValue W v w → SameValue W x y → BothOrNeither (SameValues W) o p → GoQuietly W (SameValue W) (add_to v x o) (add_to w y p)
  add_to_quiet (plain v p) xy op = add_plain v p xy op
  add_to_quiet (paired i j p) xy neither = operate_quiet W operators.Add (paired i j p) xy
  add_to_quiet (paired i j p) xy (both z) = then_quiet W (extended_quiet W p xy) (give_quiet W (paired i j p))

  pub updated_quiet : (operator : Operator) {v w x y : Value} → SameValue W v w → SameValue W x y → GoQuietly W (SameValue W) (updated operator v x) (updated operator w y)
  updated_quiet operators.Add vw xy = bind_quiet W (node_now_quiet W vw) (λ o p op. add_to_quiet vw xy (list_there W op))
  updated_quiet operators.Subtract vw xy = operate_quiet W operators.Subtract vw xy
  updated_quiet operators.Multiply vw xy = operate_quiet W operators.Multiply vw xy
  updated_quiet operators.FloorDivide vw xy = operate_quiet W operators.FloorDivide vw xy
  updated_quiet operators.Modulo vw xy = operate_quiet W operators.Modulo vw xy
  updated_quiet operators.Power vw xy = operate_quiet W operators.Power vw xy

  pub new_function_quiet : (code : List ℕ) {vs ws : List Value} → SameValues W vs ws → GoQuietly W (SameValue W) (new_function code vs) (new_function code ws)
  new_function_quiet code {vs = vs} {ws = ws} z = asking_quiet W (λ s. make (function s.profile code vs)) (λ s. make (function s.profile code ws)) (λ s t st. subst (λ p. GoQuietly W (SameValue W) (make (function s.profile code vs)) (make (function p code ws))) st.profile (make_quiet W (functions s.profile code z)))

  shown_rest : {v w : Value} → SameValue W v w → GoQuietly W Is (repr_of v >>= λ cs. give (Some cs)) (repr_of w >>= λ cs. give (Some cs))
  shown_rest vw = bind_is W (repr_quiet W vw) (λ cs. give_quiet W refl)

  shown_plain : (v : Value) → IsPlain v → GoQuietly W Is (shown_text v) (shown_text v)
  shown_plain none p = give_quiet W refl
  shown_plain (node i) p = absurd p
  shown_plain v p = shown_rest (plain v p)

  pub shown_text_quiet : {v w : Value} → SameValue W v w → GoQuietly W Is (shown_text v) (shown_text w)
  shown_text_quiet (plain v p) = shown_plain v p
  shown_text_quiet (paired i j p) = shown_rest (paired i j p)
