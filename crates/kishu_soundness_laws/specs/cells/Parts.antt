-- The small parts of a cell's forms keep node numbers those of nodes.
use Rattle.std.specs.Prelude.{ℕ, List, ◌≤◌, [], ◌∷◌, Option, Some}
use Rattle.kishu_language.specs.declared.tree.Operator.{Operator}
use Rattle.kishu_language.specs.declared.tree.Operator.TheVariants as operators
use Rattle.kishu_language.specs.trees.Tree.{Trailers, no_trailers, more_trailers}
use Rattle.kishu_meaning.specs.calls.Operators.{list_from}
use Rattle.kishu_meaning.specs.cells.Meaning.{no_place, nodes, with_pairs, new_dict, add_to, updated, new_function, shown_text}
use Rattle.kishu_meaning.specs.comparing.Show.{repr_of, repr_in}
use Rattle.kishu_meaning.specs.moments.Moment.{make, give, ◌>>=◌}
use Rattle.kishu_meaning.specs.values.Keys.{Key, is_one}
use Rattle.kishu_meaning.specs.values.Nodes.{with_entry}
use Rattle.kishu_meaning.specs.values.Values.{Value, dict, node, function, none}
use Rattle.kishu_soundness_laws.specs.Below.{Any, EntriesBelow, Each, Below, values_in, AllBelow, EntriesAt}
use Rattle.kishu_soundness_laws.specs.BelowLaws.{below_later, all_later}
use Rattle.kishu_soundness_laws.specs.moments.Steps.{IsSafe, raise_safe, any_safe, then_safe, tick_safe, give_safe, plain_safe, bind_safe, value_safe, node_now_safe, asking_safe, counted_safe}
use Rattle.kishu_soundness_laws.specs.moments.Heap.{make_safe}
use Rattle.kishu_soundness_laws.specs.values.Lists.{with_below}
use Rattle.kishu_soundness_laws.specs.items.KeyOf.{key_safe}
use Rattle.kishu_soundness_laws.specs.calls.Operators.{operate_safe}
use Rattle.kishu_soundness_laws.specs.items.Sequences.{extended_safe}

-- ---- the small parts of the forms

pub no_place_safe : {A : Type 0} {k : ℕ} {Q : ℕ → A → Type 0} → IsSafe k Q no_place
no_place_safe = raise_safe _ _

pub nodes_safe : {k : ℕ} (ts : Trailers) → IsSafe k Any (nodes ts)
nodes_safe no_trailers = any_safe
nodes_safe (more_trailers first ts) = then_safe tick_safe (nodes_safe ts)

abbrev pub PairsBelow : ℕ → List (Value × Value) → Type 0
PairsBelow k = Each (λ p. Below k p.0 × Below k p.1)

pub pairs_later : (k l : ℕ) → k ≤ l → (ps : List (Value × Value)) → PairsBelow k ps → PairsBelow l ps
pairs_later k l h [] p = tt
pairs_later k l h (x ∷ ps) p = ((below_later k l h x.0 p.0.0, below_later k l h x.1 p.0.1), pairs_later k l h ps p.1)

with_pairs_safe : {k : ℕ} (ps : List (Value × Value)) (es : List (Key × Value)) → PairsBelow k ps → EntriesBelow k es → IsSafe k EntriesAt (with_pairs ps es)
with_pairs_safe {k = k} [] es h e = give_safe EntriesAt (λ l le. all_later k l le (values_in es) e)
with_pairs_safe {k = k} (p ∷ ps) es h e = plain_safe (key_safe p.0) (λ key. with_pairs_safe ps (with_entry is_one key p.1 es) h.1 (with_below k is_one key p.1 es h.0.1 e))

pub new_dict_safe : {k : ℕ} (ps : List (Value × Value)) → PairsBelow k ps → IsSafe k Below (new_dict ps)
new_dict_safe ps h = bind_safe (with_pairs_safe ps [] h tt) (λ l le es q. make_safe (dict es) q)

add_to_safe : {k : ℕ} (v w : Value) (o : Option (List Value)) → Below k v → IsSafe k Below (add_to v w o)
add_to_safe (node i) w (Some vs) p = then_safe (extended_safe i w) (value_safe (node i) p)
add_to_safe v w o p = operate_safe operators.Add v w

pub updated_safe : {k : ℕ} (operator : Operator) (v w : Value) → Below k v → IsSafe k Below (updated operator v w)
updated_safe {k = k} operators.Add v w p = bind_safe (node_now_safe v) (λ l le o q. add_to_safe v w (list_from o) (below_later k l le v p))
updated_safe operators.Subtract v w p = operate_safe operators.Subtract v w
updated_safe operators.Multiply v w p = operate_safe operators.Multiply v w
updated_safe operators.FloorDivide v w p = operate_safe operators.FloorDivide v w
updated_safe operators.Modulo v w p = operate_safe operators.Modulo v w
updated_safe operators.Power v w p = operate_safe operators.Power v w

pub new_function_safe : {k : ℕ} (code : List ℕ) (vs : List Value) → AllBelow k vs → IsSafe k Below (new_function code vs)
new_function_safe {k = k} code vs h = asking_safe (λ s. make (function s.profile code vs)) (λ l s le g. make_safe (function s.profile code vs) (all_later k l le vs h))

-- ---- cells

shown_rest : {k : ℕ} (v : Value) → IsSafe k Any (repr_of v >>= λ cs. give (Some cs))
shown_rest v = plain_safe (counted_safe (λ s. repr_in s.nodes s.depth v)) (λ cs. any_safe)

pub shown_safe : {k : ℕ} (v : Value) → IsSafe k Any (shown_text v)
shown_safe none = any_safe
shown_safe v = shown_rest v
