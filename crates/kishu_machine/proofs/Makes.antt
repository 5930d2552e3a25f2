-- Nodes that are made, and the truth of values in a run.
use Rattle.std.proofs.Common.{◌≡◌, refl, ap, arith, ◌≤◌, List, [], ◌∷◌, ◌++◌, length, length-append, Result, Ok, Err, OnOk}
use Rattle.std.specs.Prelude.{OnErr}
use Rattle.kishu_meaning.specs.values.Values.{Value, none, bool, integer, text, range, builtin, class, node, Node}
use Rattle.kishu_meaning_laws.specs.Bare.{IsBare}
use Rattle.kishu_meaning.specs.calls.Operators.{truth}

-- A heap to which a node was added has no fewer.
pub made_least : {T E : Type 0} (old : List Node) (x : Node) (new : List Node) (r : Result T E) → OnOk r (new ≡ old ++ x ∷ []) → OnErr r (new ≡ old) → length old ≤ length new
made_least old x new (Ok y) h k = omega (arith, ap length h, length-append old (x ∷ []))
made_least old x new (Err y) h k = omega (arith, ap length k)

pub truth_bare : (v : Value) → IsBare (truth v)
truth_bare none = record { ends = λ s. refl }
truth_bare (bool b) = record { ends = λ s. refl }
truth_bare (integer z) = record { ends = λ s. refl }
truth_bare (text cs) = record { ends = λ s. refl }
truth_bare (range a b c) = record { ends = λ s. refl }
truth_bare (builtin n) = record { ends = λ s. refl }
truth_bare (class n) = record { ends = λ s. refl }
truth_bare (node i) = record { ends = λ s. refl }
