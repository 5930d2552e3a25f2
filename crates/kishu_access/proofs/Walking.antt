-- Walks, as the rules say.
use borrow.Author.Tests.{ltb-true}
use Rattle.std.specs.List.{list_all}
use Rattle.kishu_items.specs.Holding.{first, second}
use Rattle.std.proofs.Common.{◌≡◌, ◌∙◌, refl, ap, sym, subst, arith, ℕ, zero, suc, ◌≤◌, ◌++◌, Bool, true, false, IsTrue, List, [], ◌∷◌, length, Option, Some, None, Result, Ok, Err, IfOk}
use Rattle.std.specs.Prelude.{IfSome, ◌==◌, nat_lt, if◌then◌else◌, codes, decimal, slice_get, option_map, option_and_then}
use Rattle.std.specs.Str.{chars, IsAscii}
use Rattle.std.specs.String.{string_bytes}
use Rattle.std.specs.declared.alloc.Global.{Global}
use Rattle.std.specs.declared.string.String.{String}
use Rattle.std.proofs.lemmas.Str.{chars-IsAscii}
use Rattle.kishu_meaning.specs.declared.value.Value as rust
use Rattle.kishu_meaning.specs.values.Keys.{Key}
use Rattle.kishu_meaning.specs.values.Sound.{is_sound}
use Rattle.kishu_meaning.specs.values.Kinds.{not_iterable, value_error}
use Rattle.kishu_meaning.specs.moments.Moment.{Moment, Ends, fine, M, and_then, ◌>>=◌, or_else, spend, give, look}
use Rattle.kishu_meaning.specs.values.Nodes.{dict_in}
use Rattle.kishu_meaning.specs.calls.Operators.{list_from, new_tuple}
use Rattle.kishu_meaning.specs.items.KeyOf.{value_of_key}
use Rattle.kishu_meaning.specs.items.Sequences.{count_in, items_of}
use Rattle.kishu_meaning.specs.values.Values.{Value, value_of, none, bool, integer, text, range, builtin, class, node, Node, list, tuple, dict, object, function, exception}
use Rattle.kishu_meaning.specs.items.Walks.{unpacked, Walk, View, keys, values, items, along_list, along_dict, along_tuple, along_text, along_range, node_walk, walk_of, walk_view, item_for, seen, entry_seen, items_now, entries_now, size_changed, or_none_there}
use Rattle.kishu_meaning_laws.specs.Bare.{IsBare}
use Rattle.kishu_meaning_laws.specs.BareLaws.{then_bare, give_bare, look_bare, make_bare, raise_bare, value_bare}
use Rattle.kishu_heap.specs.declared.fault.CallFault.{CallFault}
use Rattle.kishu_items.specs.Called as called
use Rattle.kishu_items.specs.Walks.{nodes_seen, nodes_for}
use Rattle.kishu_machine.specs.declared.fault.Fault.{Fault}
use Rattle.kishu_machine.specs.Composing.{fails_on}
use Rattle.kishu_machine.specs.Lists.{values_in}
use Rattle.kishu_machine.specs.Machine.{Fails}
use Rattle.kishu_machine.specs.Raising.{RaisesSound, then_raises, give_raises, look_raises, make_raises, not_iterable_raises, value_raises}
use Rattle.kishu_access.specs.Access.{is_sound_maybe}

-- ---- all items at once

module _ (n : ℕ) (v : Value) (s : Moment) where
  abbrev behind : ℕ → M (List Value)
  behind k = if k == n then items_of v else value_error (codes "cannot unpack into " ++ decimal n)

  abbrev after : ℕ → M (List Value)
  after k = spend k >>= λ _. behind k

  pub not_unpacked : count_in s.nodes v ≡ None → unpacked n v s ≡ not_iterable v s
  not_unpacked h = ap (λ (o : Option ℕ). and_then (or_else (not_iterable v) o s) after) h

  counted : (k : ℕ) → count_in s.nodes v ≡ Some k → unpacked n v s ≡ and_then (spend k s) (λ _. behind k)
  counted k h = ap (λ (o : Option ℕ). and_then (or_else (not_iterable v) o s) after) h

  pub unpack_fails : (k : ℕ) (f : Fault) (t : Moment) → count_in s.nodes v ≡ Some k → Fails f t (spend k s) → Fails f t (unpacked n v s)
  unpack_fails k f t h e = subst (λ (x : Ends (List Value)). Fails f t x) (sym (counted k h)) (fails_on (λ _. behind k) f t (spend k s) e)

  spent : (k : ℕ) (t : Moment) → count_in s.nodes v ≡ Some k → spend k s ≡ fine tt t → unpacked n v s ≡ behind k t
  spent k t h e = counted k h ∙ ap (λ (x : Ends (Unit {0})). and_then x (λ _. behind k)) e

  pub unpacked_items : (k : ℕ) (t : Moment) → count_in s.nodes v ≡ Some k → spend k s ≡ fine tt t → (k == n) ≡ true → unpacked n v s ≡ items_of v t
  unpacked_items k t h e q = spent k t h e ∙ ap (λ (b : Bool). (if b then items_of v else value_error (codes "cannot unpack into " ++ decimal n)) t) q

  pub unpacked_wrong : (k : ℕ) (t : Moment) → count_in s.nodes v ≡ Some k → spend k s ≡ fine tt t → (k == n) ≡ false → unpacked n v s ≡ value_error (codes "cannot unpack into " ++ decimal n) t
  unpacked_wrong k t h e q = spent k t h e ∙ ap (λ (b : Bool). (if b then items_of v else value_error (codes "cannot unpack into " ++ decimal n)) t) q

pub all_ascii : (bs : List ℕ) → IsTrue (list_all (λ c. nat_lt c 128) bs) → IsAscii bs
all_ascii [] e i = omega arith
all_ascii (b ∷ bs) e zero = ltb-true b 128 (first (nat_lt b 128) (list_all (λ c. nat_lt c 128) bs) e)
all_ascii (b ∷ bs) e (suc i) = all_ascii bs (second (nat_lt b 128) (list_all (λ c. nat_lt c 128) bs) e) i

pub ok_ascii : {E : Type 0} (r : Result (String Global) E) (bs : List ℕ) → IsAscii bs → IfOk r (λ s. string_bytes s ≡ bs) → IfOk r (λ s. chars (string_bytes s) ≡ bs)
ok_ascii (Ok s) bs e h = ap chars h ∙ chars-IsAscii bs e
ok_ascii (Err x) bs e h = tt

-- ---- a walk and its items are worked out from the nodes, the steps and the depth alone

not_iterable_bare : {A : Type 0} (v : Value) → IsBare (not_iterable {A = A} v)
not_iterable_bare v = record { ends = λ s. refl }

node_walk_bare : (n : ℕ) (o : Option Node) → IsBare (node_walk n o)
node_walk_bare n (Some (list vs)) = give_bare _
node_walk_bare n (Some (tuple vs)) = give_bare _
node_walk_bare n (Some (dict es)) = give_bare _
node_walk_bare n (Some (object as')) = not_iterable_bare (node n)
node_walk_bare n (Some (function profile code vs)) = not_iterable_bare (node n)
node_walk_bare n (Some (exception kind vs)) = not_iterable_bare (node n)
node_walk_bare n None = not_iterable_bare (node n)

pub walk_bare : (v : Value) → IsBare (walk_of v)
walk_bare (text cs) = give_bare _
walk_bare (range start stop step) = give_bare _
walk_bare (node n) = then_bare (look (λ ns. slice_get ns n)) (node_walk n) (look_bare (λ ns. slice_get ns n)) (node_walk_bare n)
walk_bare none = not_iterable_bare none
walk_bare (bool b) = not_iterable_bare (bool b)
walk_bare (integer z) = not_iterable_bare (integer z)
walk_bare (builtin k) = not_iterable_bare (builtin k)
walk_bare (class k) = not_iterable_bare (class k)

items_now_bare : (n : ℕ) → IsBare (items_now n)
items_now_bare n = then_bare (look (λ ns. slice_get ns n)) (λ found. give (or_none_there (list_from found))) (look_bare (λ ns. slice_get ns n)) (λ found. give_bare (or_none_there (list_from found)))

entries_bare : (n : ℕ) → IsBare (entries_now n)
entries_bare n = then_bare (look (λ ns. slice_get ns n)) (λ found. give (or_none_there (option_and_then dict_in found))) (look_bare (λ ns. slice_get ns n)) (λ found. give_bare (or_none_there (option_and_then dict_in found)))

pub view_bare : (n : ℕ) (view : View) → IsBare (walk_view n view)
view_bare n view = then_bare (entries_now n) (λ es. give (along_dict n (length es) view)) (entries_bare n) (λ es. give_bare (along_dict n (length es) view))

seen_bare : (view : View) (e : Key × Value) → IsBare (seen view e)
seen_bare keys e = value_bare e.0
seen_bare values e = give_bare e.1
seen_bare items e = then_bare (value_of_key e.0) (λ k. new_tuple (k ∷ e.1 ∷ [])) (value_bare e.0) (λ k. make_bare (tuple (k ∷ e.1 ∷ [])))

entry_seen_bare : (view : View) (o : Option (Key × Value)) → IsBare (entry_seen view o)
entry_seen_bare view (Some e) = then_bare (seen view e) (λ v. give (Some v)) (seen_bare view e) (λ v. give_bare (Some v))
entry_seen_bare view None = give_bare None

either_bare : (b : Bool) (view : View) (o : Option (Key × Value)) → IsBare (if b then entry_seen view o else size_changed)
either_bare true view o = entry_seen_bare view o
either_bare false view o = raise_bare _ _

pub item_bare : (walk : Walk) (k : ℕ) → IsBare (item_for walk k)
item_bare (along_list n) k = then_bare (items_now n) (λ vs. give (slice_get vs k)) (items_now_bare n) (λ vs. give_bare (slice_get vs k))
item_bare (along_dict n start view) k = then_bare (entries_now n) (λ es. if length es == start then entry_seen view (slice_get es k) else size_changed) (entries_bare n) (λ es. either_bare (length es == start) view (slice_get es k))
item_bare (along_tuple vs) k = give_bare _
item_bare (along_text cs) k = give_bare _
item_bare (along_range start stop step) k = give_bare _

-- ---- what they raise is sound

module _ (m : ℕ) where
  node_walk_raises : (n : ℕ) (o : Option Node) → RaisesSound m (node_walk n o)
  node_walk_raises n (Some (list vs)) = give_raises m _
  node_walk_raises n (Some (tuple vs)) = give_raises m _
  node_walk_raises n (Some (dict es)) = give_raises m _
  node_walk_raises n (Some (object as')) = not_iterable_raises m (node n)
  node_walk_raises n (Some (function profile code vs)) = not_iterable_raises m (node n)
  node_walk_raises n (Some (exception kind vs)) = not_iterable_raises m (node n)
  node_walk_raises n None = not_iterable_raises m (node n)

  pub walk_raises : (v : Value) → RaisesSound m (walk_of v)
  walk_raises (text cs) = give_raises m _
  walk_raises (range start stop step) = give_raises m _
  walk_raises (node n) = then_raises m (look (λ ns. slice_get ns n)) (node_walk n) (look_raises m (λ ns. slice_get ns n)) (node_walk_raises n)
  walk_raises none = not_iterable_raises m none
  walk_raises (bool b) = not_iterable_raises m (bool b)
  walk_raises (integer z) = not_iterable_raises m (integer z)
  walk_raises (builtin k) = not_iterable_raises m (builtin k)
  walk_raises (class k) = not_iterable_raises m (class k)

  seen_raises : (view : View) (e : Key × Value) → RaisesSound m (seen view e)
  seen_raises keys e = value_raises m e.0
  seen_raises values e = give_raises m e.1
  seen_raises items e = then_raises m (value_of_key e.0) (λ k. new_tuple (k ∷ e.1 ∷ [])) (value_raises m e.0) (λ k. make_raises m (tuple (k ∷ e.1 ∷ [])))

  either_raises : (b : Bool) (view : View) (o : Option (Key × Value)) → RaisesSound m (if b then entry_seen view o else size_changed)
  either_raises true view (Some e) = then_raises m (seen view e) (λ v. give (Some v)) (seen_raises view e) (λ v. give_raises m (Some v))
  either_raises true view None = give_raises m None
  either_raises false view o = record { raises = λ s. refl }

  pub item_raises : (walk : Walk) (k : ℕ) → RaisesSound m (item_for walk k)
  item_raises (along_list n) k = record { raises = λ s. refl }
  item_raises (along_dict n start view) k = then_raises m (entries_now n) (λ es. if length es == start then entry_seen view (slice_get es k) else size_changed) (record { raises = λ s. refl }) (λ es. either_raises (length es == start) view (slice_get es k))
  item_raises (along_tuple vs) k = give_raises m _
  item_raises (along_text cs) k = give_raises m _
  item_raises (along_range start stop step) k = give_raises m _

-- ---- an item, where there is one

same_value : (o : Option rust.Value) → option_map value_of o ≡ values_in o
same_value (Some v) = refl
same_value None = refl

pub found_gives : (r : Result (Option rust.Value) CallFault) (t : Moment) (e : Ends (Option Value)) → called.Gives (option_map value_of) r t e → called.Gives values_in r t e
found_gives (Ok o) t e h = h ∙ ap (λ (x : Option Value). fine x t) (same_value o)
found_gives (Err f) t e h = h

pub found_sound : (n : ℕ) (r : Result (Option rust.Value) CallFault) → IfOk r (λ o. IfSome o (λ v. IsTrue (is_sound n (value_of v)))) → IfOk r (λ o. IsTrue (is_sound_maybe n o))
found_sound n (Ok (Some v)) h = h
found_sound n (Ok None) h = refl
found_sound n (Err f) h = tt

-- ---- how many nodes an item is made of

view_most : (view : View) → nodes_seen view ≤ 2
view_most keys = omega arith
view_most values = omega arith
view_most items = omega arith

pub walk_most : (walk : Walk) → nodes_for walk ≤ 2
walk_most (along_list n) = omega arith
walk_most (along_dict n start view) = view_most view
walk_most (along_tuple vs) = omega arith
walk_most (along_text cs) = omega arith
walk_most (along_range start stop step) = omega arith
