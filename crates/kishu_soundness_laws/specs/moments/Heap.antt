-- New nodes and changed ones keep node numbers those of nodes.
use Rattle.std.specs.Prelude.{ℕ, ◌+◌, [], ◌∷◌, List, length, zero, suc, ◌≡◌, ◌≤◌}
use Rattle.std.proofs.Common.{arith, length-append, refl, ap, sym, ◌∙◌}
use Rattle.kishu_meaning.specs.moments.Moment.{make, Locals, change}
use Rattle.kishu_meaning.specs.values.Nodes.{changed}
use Rattle.kishu_meaning.specs.values.Values.{Node}
use Rattle.kishu_soundness_laws.specs.Below.{NodeBelow, Below, values_in, EntriesBelow, Each, Any}
use Rattle.kishu_soundness_laws.specs.BelowLaws.{each_append, each_later, node_later, all_later, maybe_later, below_later}
use Rattle.kishu_soundness_laws.specs.moments.Steps.{IsSafe, ends_fine}

pub make_safe : {k : ℕ} (n : Node) → NodeBelow k n → IsSafe k Below (make n)
make_safe {k = k} n h = record {
  go = λ l le s g. ends_fine (l + 1) (omega arith) (omega (arith, g.many)) (record {
    many = omega (arith, g.many, length-append s.nodes (n ∷ []));
    nodes = each_append (NodeBelow (l + 1)) s.nodes (n ∷ []) (each_later (NodeBelow l) (NodeBelow (l + 1)) (node_later l (l + 1) (omega arith)) s.nodes g.nodes) (node_later k (l + 1) (omega (arith, le)) n h, tt);
    names = all_later l (l + 1) (omega arith) (values_in s.names) g.names;
    locals = maybe_later (λ (here : Locals). EntriesBelow l here.values) (λ (here : Locals). EntriesBelow (l + 1) here.values) (λ here. all_later l (l + 1) (omega arith) (values_in here.values)) s.locals g.locals;
    handled = maybe_later (Below l) (Below (l + 1)) (below_later l (l + 1) (omega arith)) s.handled g.handled;
  });
}

pub changed_length : (f : Node → Node) (i : ℕ) (ns : List Node) → length (changed f i ns) ≡ length ns
changed_length f i [] = refl
changed_length f zero (n ∷ ns) = refl
changed_length f (suc i) (n ∷ ns) = ap suc (changed_length f i ns)

changed_each : (k : ℕ) (f : Node → Node) → ((n : Node) → NodeBelow k n → NodeBelow k (f n)) → (i : ℕ) (ns : List Node) → Each (NodeBelow k) ns → Each (NodeBelow k) (changed f i ns)
changed_each k f h i [] p = tt
changed_each k f h zero (n ∷ ns) p = (h n p.0, p.1)
changed_each k f h (suc i) (n ∷ ns) p = (p.0, changed_each k f h i ns p.1)

pub change_safe : {k : ℕ} (i : ℕ) (f : Node → Node) → ((l : ℕ) → k ≤ l → (n : Node) → NodeBelow l n → NodeBelow l (f n)) → IsSafe k Any (change i f)
change_safe i f h = record {
  go = λ l le s g. ends_fine l (omega arith) tt (record { many = g.many ∙ sym (changed_length f i s.nodes); nodes = changed_each l f (h l le) i s.nodes g.nodes; names = g.names; locals = g.locals; handled = g.handled });
}
