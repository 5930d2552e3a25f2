-- Sequences and their items on both sides.
use Rattle.std.specs.Prelude.{Some, ◌≡◌, Option, option_and_then, List, ℕ, [], ◌∷◌, ℤ, map}
use Rattle.std.proofs.Common.{ap, refl, subst}
use Rattle.kishu_meaning.specs.items.KeyOf.{values_of_keys}
use Rattle.kishu_meaning.specs.items.Sequences.{node_count, count_in, count_of, text_items, node_items, items_of, walked, extended}
use Rattle.kishu_meaning.specs.moments.Moment.{Moment, look}
use Rattle.kishu_meaning.specs.values.Keys.{Key}
use Rattle.kishu_meaning.specs.values.Values.{Node, Value, node, integer, dict, text, range}
use Rattle.kishu_pairing_laws.specs.World.{World, SameNode, lists, tuples, dicts, objects, functions, exceptions, BothOrNeither, neither, both, IsPlain, SameValue, SameMoment, plain, paired, GoQuietly, Is, SameValues, nil, cons, SameEntries, Paired, Any}
use Rattle.kishu_pairing_laws.specs.moments.Steps.{look_quiet, bind_is, or_else_quiet, give_quiet, bind_quiet, spend_quiet}
use Rattle.kishu_pairing_laws.specs.values.Lists.{zip_length, zip_equal, zip_append}
use Rattle.kishu_pairing_laws.specs.moments.Heap.{node_now_quiet, change_quiet}
use Rattle.kishu_pairing_laws.specs.values.Nodes.{opt_is, on_list_same}
use Rattle.kishu_pairing_laws.specs.values.Kinds.{not_iterable_quiet}
use Rattle.kishu_pairing_laws.specs.items.KeyOf.{values_of_keys_quiet}

module _ (W : World) where
  node_counts : (a b : Node) → SameNode W a b → node_count a ≡ node_count b
  node_counts _ _ (lists z) = ap Some (zip_length z)
  node_counts _ _ (tuples z) = ap Some (zip_length z)
  node_counts _ _ (dicts z) = ap Some (zip_length z)
  node_counts _ _ (objects z) = refl
  node_counts _ _ (functions profile code z) = refl
  node_counts _ _ (exceptions kind z) = refl

  counts_at : {o p : Option Node} → BothOrNeither (SameNode W) o p → option_and_then node_count o ≡ option_and_then node_count p
  counts_at neither = refl
  counts_at (both h) = node_counts _ _ h

  count_plain : (ns ms : List Node) (v : Value) → IsPlain v → count_in ns v ≡ count_in ms v
  count_plain ns ms (node i) p = absurd p
  count_plain ns ms v p = refl

  counts_in : {v w : Value} {s t : Moment} → SameValue W v w → SameMoment W s t → count_in s.nodes v ≡ count_in t.nodes w
  counts_in {s = s} {t = t} (plain v p) st = count_plain s.nodes t.nodes v p
  counts_in (paired i j p) st = counts_at (st.heaps.closed i j p)

  counting_quiet : {v w : Value} → SameValue W v w → GoQuietly W Is (look (λ ns. count_in ns v)) (look (λ ns. count_in ns w))
  counting_quiet vw = look_quiet W _ _ (λ s t st. counts_in vw st)

  pub count_of_quiet : {v w : Value} → SameValue W v w → GoQuietly W Is (count_of v) (count_of w)
  count_of_quiet vw = bind_is W (counting_quiet vw) (λ o. or_else_quiet W (not_iterable_quiet W vw) (opt_is W o))

  pub text_same : (cs : List ℕ) → SameValues W (text_items cs) (text_items cs)
  text_same [] = nil
  text_same (c ∷ cs) = cons (plain _ tt) (text_same cs)

  integers_same : (zs : List ℤ) → SameValues W (map integer zs) (map integer zs)
  integers_same [] = nil
  integers_same (z ∷ zs) = cons (plain _ tt) (integers_same zs)

  keys_are : {es fs : List (Key × Value)} → SameEntries W es fs → map (λ (e : Key × Value). e.0) es ≡ map (λ (e : Key × Value). e.0) fs
  keys_are = zip_equal (λ (e : Key × Value). e.0) (λ (e : Key × Value). e.0) (λ a b h. h.0)

  node_items_quiet : {v w : Value} {o p : Option Node} → SameValue W v w → BothOrNeither (SameNode W) o p → GoQuietly W (SameValues W) (node_items v o) (node_items w p)
  node_items_quiet vw neither = not_iterable_quiet W vw
  node_items_quiet vw (both (lists z)) = give_quiet W z
  node_items_quiet vw (both (tuples z)) = give_quiet W z
  node_items_quiet {v = v} vw (both (dicts {es = es} z)) = subst (λ ks. GoQuietly W (SameValues W) (node_items v (Some (dict es))) (values_of_keys ks)) (keys_are z) (values_of_keys_quiet W (map (λ (e : Key × Value). e.0) es))
  node_items_quiet vw (both (objects z)) = not_iterable_quiet W vw
  node_items_quiet vw (both (functions profile code z)) = not_iterable_quiet W vw
  node_items_quiet vw (both (exceptions kind z)) = not_iterable_quiet W vw

  items_plain : (v : Value) → IsPlain v → GoQuietly W (SameValues W) (items_of v) (items_of v)
  items_plain (text cs) p = give_quiet W (text_same cs)
  items_plain (range a b c) p = give_quiet W (integers_same _)
  items_plain (node i) p = absurd p
  items_plain v p = not_iterable_quiet W (plain v p)

  pub items_of_quiet : {v w : Value} → SameValue W v w → GoQuietly W (SameValues W) (items_of v) (items_of w)
  items_of_quiet (plain v p) = items_plain v p
  items_of_quiet (paired i j p) = bind_quiet W (node_now_quiet W (paired i j p)) (λ o q oq. node_items_quiet (paired i j p) oq)

  pub walked_quiet : {v w : Value} → SameValue W v w → GoQuietly W (SameValues W) (walked v) (walked w)
  walked_quiet vw = bind_quiet W (bind_is W (count_of_quiet vw) (λ n. spend_quiet W n)) (λ _ _ _. items_of_quiet vw)

  pub extended_quiet : {i j : ℕ} {v w : Value} → Paired W i j → SameValue W v w → GoQuietly W Any (extended i v) (extended j w)
  extended_quiet p vw = bind_quiet W (walked_quiet vw) (λ vs ws z. change_quiet W _ _ p (on_list_same W _ _ (λ a b h. zip_append h z)))
