-- Values of other kinds, as the rules say.
use Rattle.std.proofs.Common.{◌≡◌, refl, List, ℕ}
use Rattle.std.specs.Prelude.{ℤ}
use Rattle.std.specs.declared.alloc.Global.{Global}
use Rattle.std.specs.declared.rc.RcStr.{RcStr}
use Rattle.kishu_meaning.specs.declared.value.NodeId.{NodeId}
use Rattle.kishu_meaning.specs.declared.value.Value as rust
use Rattle.kishu_meaning.specs.declared.value.Value.TheVariants as values
use Rattle.kishu_meaning.specs.values.Kinds.{no_attribute}
use Rattle.kishu_meaning.specs.moments.Moment.{Moment}
use Rattle.kishu_meaning.specs.items.Subscripts.{item, slice, store_item, delete_item, store_attribute, delete_attribute, not_subscriptable}
use Rattle.kishu_meaning.specs.values.Values.{Value, value_of}

pub no_item : (v : rust.Value) (i : Value) (s : Moment) → ((t : RcStr Global) → v ≡ values.Text t → ⊥) → ((a b c : ℤ) → v ≡ values.Range a b c → ⊥) → ((k : NodeId) → v ≡ values.Node k → ⊥) → item (value_of v) i s ≡ not_subscriptable (value_of v) s
no_item values.None i s h1 h2 h3 = refl
no_item (values.Bool b) i s h1 h2 h3 = refl
no_item (values.Int z) i s h1 h2 h3 = refl
no_item (values.Text t) i s h1 h2 h3 = absurd (h1 t refl)
no_item (values.Range a b c) i s h1 h2 h3 = absurd (h2 a b c refl)
no_item (values.Builtin k) i s h1 h2 h3 = refl
no_item (values.Class k) i s h1 h2 h3 = refl
no_item (values.Node k) i s h1 h2 h3 = absurd (h3 k refl)

pub no_slice : (v : rust.Value) (x y z : Value) (s : Moment) → ((t : RcStr Global) → v ≡ values.Text t → ⊥) → ((k : NodeId) → v ≡ values.Node k → ⊥) → slice (value_of v) x y z s ≡ not_subscriptable (value_of v) s
no_slice values.None x y z s h1 h3 = refl
no_slice (values.Bool b) x y z s h1 h3 = refl
no_slice (values.Int k) x y z s h1 h3 = refl
no_slice (values.Text t) x y z s h1 h3 = absurd (h1 t refl)
no_slice (values.Range a b c) x y z s h1 h3 = refl
no_slice (values.Builtin k) x y z s h1 h3 = refl
no_slice (values.Class k) x y z s h1 h3 = refl
no_slice (values.Node k) x y z s h1 h3 = absurd (h3 k refl)

pub no_store : (v : rust.Value) (i w : Value) (s : Moment) → ((k : NodeId) → v ≡ values.Node k → ⊥) → store_item (value_of v) i w s ≡ not_subscriptable (value_of v) s
no_store values.None i w s h3 = refl
no_store (values.Bool b) i w s h3 = refl
no_store (values.Int z) i w s h3 = refl
no_store (values.Text t) i w s h3 = refl
no_store (values.Range a b c) i w s h3 = refl
no_store (values.Builtin k) i w s h3 = refl
no_store (values.Class k) i w s h3 = refl
no_store (values.Node k) i w s h3 = absurd (h3 k refl)

pub no_delete : (v : rust.Value) (i : Value) (s : Moment) → ((k : NodeId) → v ≡ values.Node k → ⊥) → delete_item (value_of v) i s ≡ not_subscriptable (value_of v) s
no_delete values.None i s h3 = refl
no_delete (values.Bool b) i s h3 = refl
no_delete (values.Int z) i s h3 = refl
no_delete (values.Text t) i s h3 = refl
no_delete (values.Range a b c) i s h3 = refl
no_delete (values.Builtin k) i s h3 = refl
no_delete (values.Class k) i s h3 = refl
no_delete (values.Node k) i s h3 = absurd (h3 k refl)

pub no_attribute_stored : (v : rust.Value) (x : List ℕ) (w : Value) (s : Moment) → ((k : NodeId) → v ≡ values.Node k → ⊥) → store_attribute (value_of v) x w s ≡ no_attribute (value_of v) x s
no_attribute_stored values.None x w s h3 = refl
no_attribute_stored (values.Bool b) x w s h3 = refl
no_attribute_stored (values.Int z) x w s h3 = refl
no_attribute_stored (values.Text t) x w s h3 = refl
no_attribute_stored (values.Range a b c) x w s h3 = refl
no_attribute_stored (values.Builtin k) x w s h3 = refl
no_attribute_stored (values.Class k) x w s h3 = refl
no_attribute_stored (values.Node k) x w s h3 = absurd (h3 k refl)

pub no_attribute_deleted : (v : rust.Value) (x : List ℕ) (s : Moment) → ((k : NodeId) → v ≡ values.Node k → ⊥) → delete_attribute (value_of v) x s ≡ no_attribute (value_of v) x s
no_attribute_deleted values.None x s h3 = refl
no_attribute_deleted (values.Bool b) x s h3 = refl
no_attribute_deleted (values.Int z) x s h3 = refl
no_attribute_deleted (values.Text t) x s h3 = refl
no_attribute_deleted (values.Range a b c) x s h3 = refl
no_attribute_deleted (values.Builtin k) x s h3 = refl
no_attribute_deleted (values.Class k) x s h3 = refl
no_attribute_deleted (values.Node k) x s h3 = absurd (h3 k refl)
