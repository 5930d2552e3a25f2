-- A call of a method that there is gives what its row says.
use Rattle.std.proofs.Common.{◌≡◌, ◌∙◌, ap, ℕ, List, Option, Some, None}
use Rattle.std.specs.Prelude.{slice_get, is_some, option_map}
use Rattle.kishu_meaning.specs.calls.Methods.{Method, method_named, methods_at, text_methods, node_row, text_row, value_row, call_method}
use Rattle.kishu_meaning.specs.moments.Moment.{Moment, ◌>>=◌, or_else}
use Rattle.kishu_meaning.specs.values.Kinds.{no_attribute}
use Rattle.kishu_meaning.specs.values.Values.{Value, text, node, Node}

module _ (name : List ℕ) (args : List Value) (m : Method) (s : Moment) where
  pub node_called : (i : ℕ) (found : Option Node) → slice_get s.nodes i ≡ found → method_named name (methods_at found) ≡ Some m → call_method (node i) name args s ≡ node_row m i args found s
  node_called i found here named =
      ap (λ o. (or_else (no_attribute (node i) name) (method_named name (methods_at o)) >>= λ method. value_row method (node i) args) s) here
      ∙ (ap (λ o. (or_else (no_attribute (node i) name) o >>= λ method. value_row method (node i) args) s) named ∙ ap (λ o. node_row m i args o s) here)

  pub text_called : (cs : List ℕ) → method_named name text_methods ≡ Some m → call_method (text cs) name args s ≡ text_row m cs args s
  text_called cs named = ap (λ o. (or_else (no_attribute (text cs) name) o >>= λ method. value_row method (text cs) args) s) named

pub still_some : {A B : Type 0} (f : A → B) (o : Option A) (p : Option B) → option_map f o ≡ p → is_some o ≡ is_some p
still_some f None p e = ap is_some e
still_some f (Some a) p e = ap is_some e
