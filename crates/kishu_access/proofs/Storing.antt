-- Items that are stored and deleted, as the rules say.
use Rattle.std.proofs.Common.{◌≡◌, ◌∙◌, refl, ap, sym, ℕ, ◌<◌, true, false, List, length, Option, Some, None}
use Rattle.std.specs.Prelude.{option_and_then, is_some, IfSome}
use Rattle.kishu_meaning.specs.values.Keys.{Key}
use Rattle.kishu_meaning.specs.items.KeyOf.{key_of_value}
use Rattle.kishu_meaning.specs.values.Kinds.{no_key}
use Rattle.kishu_meaning.specs.moments.Moment.{Moment, Ends, fine, M, and_then, change}
use Rattle.kishu_meaning.specs.values.Nodes.{set_item, insert, remove, on_list, list_in, value_under}
use Rattle.kishu_meaning.specs.items.Subscripts.{position, store_in_node, delete_in_node, not_subscriptable, where_found, without_place}
use Rattle.kishu_meaning.specs.values.Values.{Value, node, Node, list, tuple, dict, object, function, exception}
use Rattle.kishu_machine.specs.declared.fault.Fault.{Fault}
use Rattle.kishu_machine.specs.Composing.{fails_on}
use Rattle.kishu_machine.specs.Machine.{Fails}
use Rattle.kishu_meaning.specs.calls.Operators.{list_from}
use Rattle.kishu_meaning.specs.items.Walks.{or_none_there}
use Rattle.kishu_access.specs.declared.stores.Container.TheVariants as containers
use Rattle.kishu_access.specs.Access.{container_of}

-- A list of so many items has each place below.
pub has_place : (len k : ℕ) (o : Option Node) → containers.List len ≡ container_of o → k < len → IfSome (option_and_then list_in o) (λ vs. k < length vs)
has_place len k (Some (list vs)) e h =
    let same : len ≡ length vs = cc in
    rw same at h
has_place len k (Some (tuple vs)) e h = tt
has_place len k (Some (dict es)) e h = tt
has_place len k (Some (object as')) e h = tt
has_place len k (Some (function profile code vs)) e h = tt
has_place len k (Some (exception kind vs)) e h = tt
has_place len k None e h = tt

pub has_item : (len k : ℕ) (o : Option Node) → containers.List len ≡ container_of o → k < len → k < length (or_none_there (list_from o))
has_item len k (Some (list vs)) e h =
    let same : len ≡ length vs = cc in
    rw same at h
has_item len k (Some (tuple vs)) e h = absurd cc
has_item len k (Some (dict es)) e h = absurd cc
has_item len k (Some (object as')) e h = absurd cc
has_item len k (Some (function profile code vs)) e h = absurd cc
has_item len k (Some (exception kind vs)) e h = absurd cc
has_item len k None e h = absurd cc

module _ (n : ℕ) (i w : Value) (s t : Moment) where
  -- ---- lists
  item_stored : (vs : List Value) (len k : ℕ) → len ≡ length vs → position len i s ≡ fine k t → store_in_node n i w (Some (list vs)) s ≡ change n (set_item k w) t
  item_stored vs len k e h =
      ap (λ (m : ℕ). and_then (position m i s) (λ k. change n (set_item k w))) (sym e) ∙ ap (λ (x : Ends ℕ). and_then x (λ k. change n (set_item k w))) h

  pub list_stored : (o : Option Node) (len k : ℕ) → containers.List len ≡ container_of o → position len i s ≡ fine k t → store_in_node n i w o s ≡ change n (set_item k w) t
  list_stored (Some (list vs)) len k e h = item_stored vs len k (let same : len ≡ length vs = cc in same) h
  list_stored (Some (tuple vs)) len k e h = absurd cc
  list_stored (Some (dict es)) len k e h = absurd cc
  list_stored (Some (object as')) len k e h = absurd cc
  list_stored (Some (function profile code vs)) len k e h = absurd cc
  list_stored (Some (exception kind vs)) len k e h = absurd cc
  list_stored None len k e h = absurd cc

  item_store_fails : (vs : List Value) (len : ℕ) (f : Fault) → len ≡ length vs → Fails f t (position len i s) → Fails f t (store_in_node n i w (Some (list vs)) s)
  item_store_fails vs len f e h = rw e at (fails_on (λ k. change n (set_item k w)) f t (position len i s) h)

  pub list_store_fails : (o : Option Node) (len : ℕ) (f : Fault) → containers.List len ≡ container_of o → Fails f t (position len i s) → Fails f t (store_in_node n i w o s)
  list_store_fails (Some (list vs)) len f e h = item_store_fails vs len f (let same : len ≡ length vs = cc in same) h
  list_store_fails (Some (tuple vs)) len f e h = absurd cc
  list_store_fails (Some (dict es)) len f e h = absurd cc
  list_store_fails (Some (object as')) len f e h = absurd cc
  list_store_fails (Some (function profile code vs)) len f e h = absurd cc
  list_store_fails (Some (exception kind vs)) len f e h = absurd cc
  list_store_fails None len f e h = absurd cc

  -- ---- dicts
  pub dict_stored : (o : Option Node) (k : Key) → containers.Dict ≡ container_of o → key_of_value i s ≡ fine k t → store_in_node n i w o s ≡ change n (insert k w) t
  dict_stored (Some (dict es)) k e h = ap (λ (x : Ends Key). and_then x (λ k. change n (insert k w))) h
  dict_stored (Some (list vs)) k e h = absurd cc
  dict_stored (Some (tuple vs)) k e h = absurd cc
  dict_stored (Some (object as')) k e h = absurd cc
  dict_stored (Some (function profile code vs)) k e h = absurd cc
  dict_stored (Some (exception kind vs)) k e h = absurd cc
  dict_stored None k e h = absurd cc

  pub dict_store_fails : (o : Option Node) (f : Fault) → containers.Dict ≡ container_of o → Fails f t (key_of_value i s) → Fails f t (store_in_node n i w o s)
  dict_store_fails (Some (dict es)) f e h = fails_on (λ k. change n (insert k w)) f t (key_of_value i s) h
  dict_store_fails (Some (list vs)) f e h = absurd cc
  dict_store_fails (Some (tuple vs)) f e h = absurd cc
  dict_store_fails (Some (object as')) f e h = absurd cc
  dict_store_fails (Some (function profile code vs)) f e h = absurd cc
  dict_store_fails (Some (exception kind vs)) f e h = absurd cc
  dict_store_fails None f e h = absurd cc

  pub not_stored : (o : Option Node) → containers.Other ≡ container_of o → store_in_node n i w o s ≡ not_subscriptable (node n) s
  not_stored (Some (dict es)) e = absurd cc
  not_stored (Some (list vs)) e = absurd cc
  not_stored (Some (tuple vs)) e = refl
  not_stored (Some (object as')) e = refl
  not_stored (Some (function profile code vs)) e = refl
  not_stored (Some (exception kind vs)) e = refl
  not_stored None e = refl

module _ (n : ℕ) (i : Value) (s t : Moment) where
  item_deleted : (vs : List Value) (len k : ℕ) → len ≡ length vs → position len i s ≡ fine k t → delete_in_node n i (Some (list vs)) s ≡ change n (on_list (without_place k)) t
  item_deleted vs len k e h =
      ap (λ (m : ℕ). and_then (position m i s) (λ k. change n (on_list (without_place k)))) (sym e) ∙ ap (λ (x : Ends ℕ). and_then x (λ k. change n (on_list (without_place k)))) h

  pub list_deleted : (o : Option Node) (len k : ℕ) → containers.List len ≡ container_of o → position len i s ≡ fine k t → delete_in_node n i o s ≡ change n (on_list (without_place k)) t
  list_deleted (Some (list vs)) len k e h = item_deleted vs len k (let same : len ≡ length vs = cc in same) h
  list_deleted (Some (tuple vs)) len k e h = absurd cc
  list_deleted (Some (dict es)) len k e h = absurd cc
  list_deleted (Some (object as')) len k e h = absurd cc
  list_deleted (Some (function profile code vs)) len k e h = absurd cc
  list_deleted (Some (exception kind vs)) len k e h = absurd cc
  list_deleted None len k e h = absurd cc

  item_delete_fails : (vs : List Value) (len : ℕ) (f : Fault) → len ≡ length vs → Fails f t (position len i s) → Fails f t (delete_in_node n i (Some (list vs)) s)
  item_delete_fails vs len f e h = rw e at (fails_on (λ k. change n (on_list (without_place k))) f t (position len i s) h)

  pub list_delete_fails : (o : Option Node) (len : ℕ) (f : Fault) → containers.List len ≡ container_of o → Fails f t (position len i s) → Fails f t (delete_in_node n i o s)
  list_delete_fails (Some (list vs)) len f e h = item_delete_fails vs len f (let same : len ≡ length vs = cc in same) h
  list_delete_fails (Some (tuple vs)) len f e h = absurd cc
  list_delete_fails (Some (dict es)) len f e h = absurd cc
  list_delete_fails (Some (object as')) len f e h = absurd cc
  list_delete_fails (Some (function profile code vs)) len f e h = absurd cc
  list_delete_fails (Some (exception kind vs)) len f e h = absurd cc
  list_delete_fails None len f e h = absurd cc

  pub dict_deleted : (o : Option Node) (k : Key) → containers.Dict ≡ container_of o → key_of_value i s ≡ fine k t → delete_in_node n i o s ≡ where_found (no_key i) (option_and_then (value_under k) o) (change n (remove k)) t
  dict_deleted (Some (dict es)) k e h = ap (λ (x : Ends Key). and_then x (λ k. where_found (no_key i) (option_and_then (value_under k) (Some (dict es))) (change n (remove k)))) h
  dict_deleted (Some (list vs)) k e h = absurd cc
  dict_deleted (Some (tuple vs)) k e h = absurd cc
  dict_deleted (Some (object as')) k e h = absurd cc
  dict_deleted (Some (function profile code vs)) k e h = absurd cc
  dict_deleted (Some (exception kind vs)) k e h = absurd cc
  dict_deleted None k e h = absurd cc

  pub dict_delete_fails : (o : Option Node) (f : Fault) → containers.Dict ≡ container_of o → Fails f t (key_of_value i s) → Fails f t (delete_in_node n i o s)
  dict_delete_fails (Some (dict es)) f e h = fails_on (λ k. where_found (no_key i) (option_and_then (value_under k) (Some (dict es))) (change n (remove k))) f t (key_of_value i s) h
  dict_delete_fails (Some (list vs)) f e h = absurd cc
  dict_delete_fails (Some (tuple vs)) f e h = absurd cc
  dict_delete_fails (Some (object as')) f e h = absurd cc
  dict_delete_fails (Some (function profile code vs)) f e h = absurd cc
  dict_delete_fails (Some (exception kind vs)) f e h = absurd cc
  dict_delete_fails None f e h = absurd cc

  pub not_deleted : (o : Option Node) → containers.Other ≡ container_of o → delete_in_node n i o s ≡ not_subscriptable (node n) s
  not_deleted (Some (dict es)) e = absurd cc
  not_deleted (Some (list vs)) e = absurd cc
  not_deleted (Some (tuple vs)) e = refl
  not_deleted (Some (object as')) e = refl
  not_deleted (Some (function profile code vs)) e = refl
  not_deleted (Some (exception kind vs)) e = refl
  not_deleted None e = refl

-- where a value is looked for first
module _ (other m : M (Unit {0})) (s : Moment) where
  pub found_there : (f : Option Value) → is_some f ≡ true → where_found other f m s ≡ m s
  found_there (Some w) h = refl
  found_there None h = absurd cc

  pub found_nowhere : (f : Option Value) → is_some f ≡ false → where_found other f m s ≡ other s
  found_nowhere (Some w) h = absurd cc
  found_nowhere None h = refl
