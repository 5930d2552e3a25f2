-- What `op=` stores, as the rules say.
use Rattle.std.proofs.Common.{◌≡◌, refl, ap, ℕ, Option, Some, None}
use Rattle.std.specs.Prelude.{slice_get}
use Rattle.kishu_language.specs.declared.tree.Operator.{Operator}
use Rattle.kishu_language.specs.declared.tree.Operator.TheVariants as operators
use Rattle.kishu_meaning.specs.cells.Meaning.{add_to, updated}
use Rattle.kishu_meaning.specs.moments.Moment.{Moment, and_then, give}
use Rattle.kishu_meaning.specs.calls.Operators.{operate, list_from}
use Rattle.kishu_meaning.specs.items.Sequences.{extended}
use Rattle.kishu_meaning.specs.values.Values.{Value, none, bool, integer, text, range, builtin, class, node, Node, list, tuple, dict, object, function, exception}
use Rattle.kishu_access.specs.Forms.{list_number, number_if_list}

module _ (w : Value) (s : Moment) where
  added : (i j : ℕ) (o : Option Node) → Some i ≡ number_if_list j o → add_to (node j) w (list_from o) s ≡ and_then (extended i w s) (λ _. give (node j))
  added i j (Some (list vs)) h =
      let same : j ≡ i = cc in
      ap (λ (k : ℕ). and_then (extended k w s) (λ _. give (node j))) same
  added i j (Some (tuple vs)) h = absurd cc
  added i j (Some (dict es)) h = absurd cc
  added i j (Some (object as')) h = absurd cc
  added i j (Some (function profile code vs)) h = absurd cc
  added i j (Some (exception kind vs)) h = absurd cc
  added i j None h = absurd cc

  pub updated_list : (v : Value) (i : ℕ) → Some i ≡ list_number s.nodes v → updated operators.Add v w s ≡ and_then (extended i w s) (λ _. give v)
  updated_list (node j) i h = added i j (slice_get s.nodes j) h
  updated_list none i h = absurd cc
  updated_list (bool b) i h = absurd cc
  updated_list (integer z) i h = absurd cc
  updated_list (text cs) i h = absurd cc
  updated_list (range a b c) i h = absurd cc
  updated_list (builtin k) i h = absurd cc
  updated_list (class k) i h = absurd cc

  operated : (j : ℕ) (o : Option Node) → None ≡ number_if_list j o → add_to (node j) w (list_from o) s ≡ operate operators.Add (node j) w s
  operated j (Some (list vs)) h = absurd cc
  operated j (Some (tuple vs)) h = refl
  operated j (Some (dict es)) h = refl
  operated j (Some (object as')) h = refl
  operated j (Some (function profile code vs)) h = refl
  operated j (Some (exception kind vs)) h = refl
  operated j None h = refl

  pub updated_otherwise : (v : Value) → None ≡ list_number s.nodes v → updated operators.Add v w s ≡ operate operators.Add v w s
  updated_otherwise (node j) h = operated j (slice_get s.nodes j) h
  updated_otherwise none h = refl
  updated_otherwise (bool b) h = refl
  updated_otherwise (integer z) h = refl
  updated_otherwise (text cs) h = refl
  updated_otherwise (range a b c) h = refl
  updated_otherwise (builtin k) h = refl
  updated_otherwise (class k) h = refl
