-- The small parts of the forms keep what holds of every state: places, dict displays, stores, arguments and calls.
use Rattle.std.specs.Prelude.{◌≡◌, ℕ, ◌≤◌, Bool, true, false, not, ◌&&◌, IsTrue, List, [], ◌∷◌, length, Option, Some}
use Rattle.std.specs.List.{AllByRecursion as Each}
use Rattle.std.specs.Str.{bytes_eq}
use Rattle.std.proofs.Common.{refl, sym, subst}
use Rattle.kishu_language.specs.declared.profile.Profile.{Profile}
use Rattle.kishu_language.specs.declared.tree.Operator.{Operator}
use Rattle.kishu_language.specs.declared.tree.Operator.TheVariants as operators
use Rattle.kishu_language.specs.grammar.Refusals.{all_differ}
use Rattle.kishu_language.specs.tokens.Names.{is_among}
use Rattle.kishu_language.specs.trees.Fits.{keywords}
use Rattle.kishu_language.specs.trees.Tree.{Text, Parameter, Trailers, no_trailers, more_trailers, Arguments, no_arguments, more_arguments, Statements, no_statements, more_statements}
use Rattle.kishu_language.specs.trees.Tree as t
use Rattle.kishu_meaning.specs.values.Keys.{Key, is_one}
use Rattle.kishu_meaning.specs.values.Nodes.{with_entry}
use Rattle.kishu_meaning.specs.values.Sound.{with_default}
use Rattle.kishu_meaning.specs.values.Values.{Value, node, dict, function}
use Rattle.kishu_meaning.specs.moments.Moment.{M, give}
use Rattle.kishu_meaning.specs.calls.Operators.{list_from}
use Rattle.kishu_meaning.specs.calls.Callees.{Given}
use Rattle.kishu_meaning.specs.cells.Ways.{Flow}
use Rattle.kishu_meaning.specs.cells.Meaning.{Calls, no_place, nodes, with_pairs, new_dict, Place, named, attribute_of, item_of, read_place, store_in, delete_place, add_to, updated, new_function, in_block}
use Rattle.kishu_objects.specs.State.{IsValue, AreValues, IsName, IsCode, AreApart, keys_in, values_in}
use Rattle.kishu_state_laws.specs.trees.Sound.{ArgumentsSound, CodeSound}
use Rattle.kishu_state_laws.specs.keeping.Logic.{Any, Safe, bind_s, with_s, then_s, give_s, any_s, value_s, raise_s, both_fine, node_now_s, tick_s, deeper_s, make_ends, make_s, value_later, values_later}
use Rattle.kishu_state_laws.specs.keeping.Lists.{AreEntries, no_entries, entries_with, dict_node}
use Rattle.kishu_state_laws.specs.keeping.Leaves.{key_s, extended_s}
use Rattle.kishu_state_laws.specs.keeping.Subscripts.{item_s, attribute_s, store_item_s, store_attribute_s, delete_item_s, delete_attribute_s}
use Rattle.kishu_state_laws.specs.keeping.Operating.{operate_s}
use Rattle.kishu_state_laws.specs.keeping.Callees.{IsGiven}
use Rattle.kishu_state_laws.specs.keeping.Names.{read_s, assign_s, delete_s}
use Rattle.kishu_state_laws.specs.keeping.Flows.{IsFlow, onward_s}

pub no_place_s : {A : Type 0} {k : ℕ} {Q : ℕ → A → Type 0} → Safe k Q no_place
no_place_s = raise_s _ _ refl refl

pub nodes_s : {k : ℕ} (ts : Trailers) → Safe k Any (nodes ts)
nodes_s no_trailers = any_s
nodes_s (more_trailers first ts) = then_s tick_s (nodes_s ts)

-- ---- dict displays

abbrev pub ArePairs : ℕ → List (Value × Value) → Type 0
ArePairs k = Each (λ p. IsValue k p.0 × IsValue k p.1)

pub pairs_later : (k l : ℕ) → k ≤ l → (ps : List (Value × Value)) → ArePairs k ps → ArePairs l ps
pairs_later k l h [] p = tt
pairs_later k l h (x ∷ ps) p = ((value_later k l h x.0 p.0.0, value_later k l h x.1 p.0.1), pairs_later k l h ps p.1)

entries_later : (k l : ℕ) → k ≤ l → (es : List (Key × Value)) → AreEntries k es → AreEntries l es
entries_later k l h es p = record { keys = p.keys; values = values_later k l h (values_in es) p.values }

with_pairs_s : {k : ℕ} (ps : List (Value × Value)) (es : List (Key × Value)) → ArePairs k ps → AreEntries k es → Safe k AreEntries (with_pairs ps es)
with_pairs_s {k = k} [] es h e = give_s AreEntries (λ l le. entries_later k l le es e)
with_pairs_s {k = k} (p ∷ ps) es h e = with_s (key_s p.0 h.0.0) (λ key q. with_pairs_s ps (with_entry is_one key p.1 es) h.1 (entries_with k key p.1 es q h.0.1 e))

pub new_dict_s : {k : ℕ} (ps : List (Value × Value)) → ArePairs k ps → Safe k IsValue (new_dict ps)
new_dict_s ps h = bind_s (with_pairs_s ps [] h no_entries) (λ l le es q. make_s (dict es) (dict_node l es q) (λ p. tt))

-- ---- `p op= e`

add_to_s : {k : ℕ} (v w : Value) (o : Option (List Value)) → IsValue k v → IsValue k w → Safe k IsValue (add_to v w o)
add_to_s (node i) w (Some vs) p q = then_s (extended_s i w q) (value_s (node i) p)
add_to_s v w o p q = operate_s operators.Add v w p q

pub updated_s : {k : ℕ} (operator : Operator) (v w : Value) → IsValue k v → IsValue k w → Safe k IsValue (updated operator v w)
updated_s {k = k} operators.Add v w p q = bind_s (node_now_s v) (λ l le o r. add_to_s v w (list_from o) (value_later k l le v p) (value_later k l le w q))
updated_s operators.Subtract v w p q = operate_s operators.Subtract v w p q
updated_s operators.Multiply v w p q = operate_s operators.Multiply v w p q
updated_s operators.FloorDivide v w p q = operate_s operators.FloorDivide v w p q
updated_s operators.Modulo v w p q = operate_s operators.Modulo v w p q
updated_s operators.Power v w p q = operate_s operators.Power v w p q

-- ---- functions

pub new_function_s : {k : ℕ} (code : Text) (ps : List Parameter) (vs : List Value) → CodeSound code ps → length vs ≡ with_default ps → AreValues k vs → Safe k IsValue (new_function code vs)
new_function_s {k = k} code ps vs c e h = record {
  go = λ l le s g. make_ends (function s.profile code vs) l s (subst (λ n. IsCode s.profile code n) (sym e) (c s.profile), values_later k l le vs h) refl g;
  wide = λ l le s g d pos fits. both_fine;
}

-- ---- places

abbrev pub IsPlace : ℕ → Place → Type 0
IsPlace k (named x) = IsName x
IsPlace k (attribute_of v x) = IsValue k v × IsName x
IsPlace k (item_of v i) = IsValue k v × IsValue k i

pub place_later : (k l : ℕ) → k ≤ l → (p : Place) → IsPlace k p → IsPlace l p
place_later k l h (named x) q = q
place_later k l h (attribute_of v x) q = (value_later k l h v q.0, q.1)
place_later k l h (item_of v i) q = (value_later k l h v q.0, value_later k l h i q.1)

pub place_give : {k : ℕ} (p : Place) → IsPlace k p → Safe k IsPlace (give p)
place_give {k = k} p h = give_s IsPlace (λ l le. place_later k l le p h)

pub read_place_s : {k : ℕ} (p : Place) → IsPlace k p → Safe k IsValue (read_place p)
read_place_s (named x) h = read_s x h
read_place_s (attribute_of v x) h = attribute_s v x h.1
read_place_s (item_of v i) h = item_s v i h.0 h.1

pub store_in_s : {k : ℕ} (p : Place) (w : Value) → IsPlace k p → IsValue k w → Safe k Any (store_in p w)
store_in_s (named x) w q h = assign_s x w q h
store_in_s (attribute_of v x) w q h = store_attribute_s v x w q.1 h
store_in_s (item_of v i) w q h = store_item_s v i w q.1 h

pub delete_place_s : {k : ℕ} (p : Place) → IsPlace k p → Safe k Any (delete_place p)
delete_place_s (named x) h = delete_s x h
delete_place_s (attribute_of v x) h = delete_attribute_s v x h.1
delete_place_s (item_of v i) h = delete_item_s v i h.1

pub in_block_s : {k : ℕ} (ss : Statements) {m : M Flow} → Safe k IsFlow m → Safe k IsFlow (in_block ss m)
in_block_s no_statements h = onward_s
in_block_s (more_statements s ss) h = deeper_s h

-- ---- arguments: what is given under names has the keywords of the call, in order

pub record GivenBy (es : Arguments) (k : ℕ) (g : Given) : Type 0 where
  pub plain : AreValues k g.plain
  pub values : AreValues k (values_in g.named)
  pub keys : keys_in g.named ≡ keywords es

pub given_by : {k : ℕ} (es : Arguments) (g : Given) → GivenBy es k g → Safe k (GivenBy es) (give g)
given_by {k = k} es g h = give_s (GivenBy es) (λ l le. record { plain = values_later k l le g.plain h.plain; values = values_later k l le (values_in g.named) h.values; keys = h.keys })

keywords_are_names : (es : Arguments) → ArgumentsSound es → Each IsName (keywords es)
keywords_are_names no_arguments h = tt
keywords_are_names (more_arguments (t.plain e) es) h = keywords_are_names es h.1
keywords_are_names (more_arguments (t.keyword x e) es) h = (h.0.0, keywords_are_names es h.1)

both_true : (a b : Bool) → (not a && b) ≡ true → (a ≡ false) × (b ≡ true)
both_true true b h = absurd cc
both_true false b h = (refl, h)

differing : (xs : List Text) → IsTrue (all_differ xs) → AreApart bytes_eq xs
differing [] h = tt
differing (x ∷ xs) h = let p = both_true (is_among x xs) (all_differ xs) h in (p.0, differing xs p.1)

pub given_sound : (k : ℕ) (es : Arguments) (g : Given) → ArgumentsSound es → IsTrue (all_differ (keywords es)) → GivenBy es k g → IsGiven k g
given_sound k es g s d h = record {
  plain = h.plain;
  named = record { keys = record { each = subst (Each IsName) (sym h.keys) (keywords_are_names es s); apart = subst (AreApart bytes_eq) (sym h.keys) (differing (keywords es) d) }; values = h.values };
}

-- ---- calls

abbrev pub CallsSafe : Calls → Type 0
CallsSafe calls = (k : ℕ) (profile : Profile) (code : List ℕ) (vs : List Value) (g : Given) → IsCode profile code (length vs) → AreValues k vs → IsGiven k g → Safe k IsValue (calls profile code vs g)
