-- Attributes, as the rules say.
use Rattle.std.proofs.Common.{◌≡◌, refl, ap, sym, ℕ, Bool, true, false, List, Option, Some, None}
use Rattle.std.specs.Prelude.{option_and_then, if◌then◌else◌, codes, is_some}
use Rattle.std.specs.Str.{bytes_eq}
use Rattle.kishu_meaning.specs.values.Kinds.{no_attribute}
use Rattle.kishu_meaning.specs.moments.Moment.{Moment, fine, or_else, change}
use Rattle.kishu_meaning.specs.values.Nodes as nodes
use Rattle.kishu_meaning.specs.values.Nodes.{set_attr, remove_attr}
use Rattle.kishu_meaning.specs.calls.Operators.{new_tuple}
use Rattle.kishu_meaning.specs.items.Subscripts.{node_attribute, store_on_node, delete_on_node, where_found}
use Rattle.kishu_meaning.specs.values.Values.{Value, node, Node, list, tuple, dict, object, function, exception}
use Rattle.kishu_access.specs.Forms.{arguments_at, is_object}

no_arguments : (b : Bool) (vs : List Value) → Some vs ≡ (if b then None else None) → ⊥
no_arguments true vs h = absurd cc
no_arguments false vs h = absurd cc

module _ (v : Value) (x : List ℕ) (s : Moment) where
  pub attribute_found : (o : Option Node) (w : Value) → Some w ≡ option_and_then (nodes.attribute x) o → node_attribute v x o s ≡ fine w s
  attribute_found (Some (object as')) w h = ap (λ (f : Option Value). or_else (no_attribute v x) f s) (sym h)
  attribute_found (Some (list vs)) w h = absurd cc
  attribute_found (Some (tuple vs)) w h = absurd cc
  attribute_found (Some (dict es)) w h = absurd cc
  attribute_found (Some (function profile code vs)) w h = absurd cc
  attribute_found (Some (exception kind vs)) w h = absurd cc
  attribute_found None w h = absurd cc

  named : (b : Bool) (vs ws : List Value) → Some vs ≡ (if b then Some ws else None) → (if b then new_tuple ws else no_attribute v x) s ≡ new_tuple vs s
  named true vs ws h =
      let same : ws ≡ vs = cc in
      ap (λ (us : List Value). new_tuple us s) same
  named false vs ws h = absurd cc

  pub arguments_found : (o : Option Node) (vs : List Value) → Some vs ≡ arguments_at x o → node_attribute v x o s ≡ new_tuple vs s
  arguments_found (Some (exception kind ws)) vs h = named (bytes_eq x (codes "args")) vs ws h
  arguments_found (Some (object as')) vs h = absurd (no_arguments (bytes_eq x (codes "args")) vs h)
  arguments_found (Some (list ws)) vs h = absurd (no_arguments (bytes_eq x (codes "args")) vs h)
  arguments_found (Some (tuple ws)) vs h = absurd (no_arguments (bytes_eq x (codes "args")) vs h)
  arguments_found (Some (dict es)) vs h = absurd (no_arguments (bytes_eq x (codes "args")) vs h)
  arguments_found (Some (function profile code ws)) vs h = absurd (no_arguments (bytes_eq x (codes "args")) vs h)
  arguments_found None vs h = absurd (no_arguments (bytes_eq x (codes "args")) vs h)

  not_named : (b : Bool) (ws : List Value) → None ≡ (if b then Some ws else None) → (if b then new_tuple ws else no_attribute v x) s ≡ no_attribute v x s
  not_named true ws h = absurd cc
  not_named false ws h = refl

  pub nothing_found : (o : Option Node) → None ≡ option_and_then (nodes.attribute x) o → None ≡ arguments_at x o → node_attribute v x o s ≡ no_attribute v x s
  nothing_found (Some (exception kind ws)) h k = not_named (bytes_eq x (codes "args")) ws k
  nothing_found (Some (object as')) h k = ap (λ (f : Option Value). or_else (no_attribute v x) f s) (sym h)
  nothing_found (Some (list ws)) h k = refl
  nothing_found (Some (tuple ws)) h k = refl
  nothing_found (Some (dict es)) h k = refl
  nothing_found (Some (function profile code ws)) h k = refl
  nothing_found None h k = refl

module _ (n : ℕ) (x : List ℕ) (s : Moment) where
  pub stored_on : (w : Value) (o : Option Node) → is_object o ≡ true → store_on_node n x w o s ≡ change n (set_attr x w) s
  stored_on w (Some (object as')) h = refl
  stored_on w (Some (list ws)) h = absurd cc
  stored_on w (Some (tuple ws)) h = absurd cc
  stored_on w (Some (dict es)) h = absurd cc
  stored_on w (Some (function profile code ws)) h = absurd cc
  stored_on w (Some (exception kind ws)) h = absurd cc
  stored_on w None h = absurd cc

  pub not_stored_on : (w : Value) (o : Option Node) → is_object o ≡ false → store_on_node n x w o s ≡ no_attribute (node n) x s
  not_stored_on w (Some (object as')) h = absurd cc
  not_stored_on w (Some (list ws)) h = refl
  not_stored_on w (Some (tuple ws)) h = refl
  not_stored_on w (Some (dict es)) h = refl
  not_stored_on w (Some (function profile code ws)) h = refl
  not_stored_on w (Some (exception kind ws)) h = refl
  not_stored_on w None h = refl

  there : (f : Option Value) → is_some f ≡ true → where_found (no_attribute (node n) x) f (change n (remove_attr x)) s ≡ change n (remove_attr x) s
  there (Some w) h = refl
  there None h = absurd cc

  absent : (f : Option Value) → is_some f ≡ false → where_found (no_attribute (node n) x) f (change n (remove_attr x)) s ≡ no_attribute (node n) x s
  absent (Some w) h = absurd cc
  absent None h = refl

  pub deleted_on : (o : Option Node) → is_some (option_and_then (nodes.attribute x) o) ≡ true → delete_on_node n x o s ≡ change n (remove_attr x) s
  deleted_on (Some (object as')) h = there (option_and_then (nodes.attribute x) (Some (object as'))) h
  deleted_on (Some (list ws)) h = absurd cc
  deleted_on (Some (tuple ws)) h = absurd cc
  deleted_on (Some (dict es)) h = absurd cc
  deleted_on (Some (function profile code ws)) h = absurd cc
  deleted_on (Some (exception kind ws)) h = absurd cc
  deleted_on None h = absurd cc

  pub not_deleted_on : (o : Option Node) → is_some (option_and_then (nodes.attribute x) o) ≡ false → delete_on_node n x o s ≡ no_attribute (node n) x s
  not_deleted_on (Some (object as')) h = absent (option_and_then (nodes.attribute x) (Some (object as'))) h
  not_deleted_on (Some (list ws)) h = refl
  not_deleted_on (Some (tuple ws)) h = refl
  not_deleted_on (Some (dict es)) h = refl
  not_deleted_on (Some (function profile code ws)) h = refl
  not_deleted_on (Some (exception kind ws)) h = refl
  not_deleted_on None h = refl
