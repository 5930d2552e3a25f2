-- Displays of dicts: pairs one after the other, and the entries that they make.
use Rattle.std.proofs.Common.{◌≡◌, ◌∙◌, refl, ap, sym, subst, cond, ℕ, map, Bool, true, false, IsTrue, List, [], ◌∷◌, ◌++◌, ◌&&◌}
use Rattle.std.specs.List.{list_all}
use Rattle.indexmap.specs.IndexMap.{insert_entry}
use Rattle.kishu_meaning.specs.declared.key.Key as rust_key
use Rattle.kishu_meaning.specs.declared.value.Value as rust_value
use Rattle.kishu_meaning.specs.values.Values.{Value, value_of}
use Rattle.kishu_language.specs.trees.Tree.{Expression, Pairs, more_pairs}
use Rattle.kishu_meaning.specs.cells.Meaning.{Calls, expr, pairs, with_pairs}
use Rattle.kishu_meaning.specs.moments.Moment.{Moment, Ends, fine, give, and_then, deeper}
use Rattle.kishu_meaning.specs.values.Keys.{Key, is_one, key_of, same_key}
use Rattle.kishu_meaning.specs.items.KeyOf.{key_of_value}
use Rattle.kishu_meaning.specs.values.Nodes.{with_entry}
use Rattle.kishu_meaning.specs.values.Sound.{is_sound}
use Rattle.kishu_heap.specs.Cells.{entries_of}
use Rattle.kishu_items.specs.Holding.{both, first, second}
use Rattle.kishu_machine.specs.Lists.{are_sound_pairs}
use Rattle.kishu_statements.proofs.Lists.{behind}

module _ (calls : Calls) (before : List (Value × Value)) (v w : Value) (s t u : Moment) (key e : Expression) (ps : Pairs) where
  pub pairs_on : deeper (expr calls key) s ≡ fine v t → deeper (expr calls e) t ≡ fine w u → and_then (pairs calls (more_pairs key e ps) s) (λ vs. give (before ++ vs)) ≡ and_then (pairs calls ps u) (λ vs. give ((before ++ (v, w) ∷ []) ++ vs))
  pairs_on h k =
      ap (λ (x : Ends Value). and_then (and_then x (λ a s1. and_then (deeper (expr calls e) s1) (λ b s2. and_then (pairs calls ps s2) (λ es. give ((a, b) ∷ es))))) (λ vs. give (before ++ vs))) h
      ∙ ap (λ (x : Ends Value). and_then (and_then x (λ b s2. and_then (pairs calls ps s2) (λ es. give ((v, b) ∷ es)))) (λ vs. give (before ++ vs))) k
      ∙ behind before (v, w) (pairs calls ps u)

pub pair_pushed : (n : ℕ) (ps : List (Value × Value)) (q : Value × Value) → IsTrue (are_sound_pairs n ps) → IsTrue (is_sound n q.0) → IsTrue (is_sound n q.1) → IsTrue (are_sound_pairs n (ps ++ q ∷ []))
pair_pushed n [] q h k l = both (is_sound n q.0 && is_sound n q.1) _ (both (is_sound n q.0) _ k l) refl
pair_pushed n (p ∷ ps) q h k l = both (is_sound n p.0 && is_sound n p.1) _ (first (is_sound n p.0 && is_sound n p.1) _ h) (pair_pushed n ps q (second (is_sound n p.0 && is_sound n p.1) _ h) k l)

-- one entry made, and then the others
pub entries_on : (p : Value × Value) (ps : List (Value × Value)) (es : List (Key × Value)) (k : Key) (s t : Moment) → key_of_value p.0 s ≡ fine k t → with_pairs (p ∷ ps) es s ≡ with_pairs ps (with_entry is_one k p.1 es) t
entries_on p ps es k s t h = ap (λ (x : Ends Key). and_then x (λ j. with_pairs ps (with_entry is_one j p.1 es))) h

sound_first : (n : ℕ) (es rest : List (Key × Value)) (e : Key × Value) (b : Bool) (v : Value) → IsTrue (is_sound n v) → IsTrue (list_all (λ e. is_sound n e.1) (e ∷ es)) → IsTrue (list_all (λ e. is_sound n e.1) rest)
    → IsTrue (list_all (λ e. is_sound n e.1) (cond b ((e.0, v) ∷ es) (e ∷ rest)))
sound_first n es rest e true v h k l = both (is_sound n v) _ h (second (is_sound n e.1) _ k)
sound_first n es rest e false v h k l = both (is_sound n e.1) _ (first (is_sound n e.1) _ k) l

pub sound_entry : (n : ℕ) (k : Key) (v : Value) (es : List (Key × Value)) → IsTrue (is_sound n v) → IsTrue (list_all (λ e. is_sound n e.1) es) → IsTrue (list_all (λ e. is_sound n e.1) (with_entry is_one k v es))
sound_entry n k v [] h l = both (is_sound n v) _ h refl
sound_entry n k v (e ∷ es) h l = sound_first n es (with_entry is_one k v es) e (is_one k e.0) v h l (sound_entry n k v es h (second (is_sound n e.1) _ l))

-- ---- a map in order of insertion takes an entry as the definition says

set_at : (v : rust_value.Value) (e : rust_key.Key × rust_value.Value) (es new : List (rust_key.Key × rust_value.Value)) (news : List (Key × Value)) (b : Bool) → entries_of new ≡ news
    → entries_of (cond b ((e.0, v) ∷ es) (e ∷ new)) ≡ cond b ((key_of e.0, value_of v) ∷ entries_of es) ((key_of e.0, value_of e.1) ∷ news)
set_at v e es new news true h = refl
set_at v e es new news false h = ap (λ rest. (key_of e.0, value_of e.1) ∷ rest) h

pub inserted : (k : rust_key.Key) (v : rust_value.Value) (es : List (rust_key.Key × rust_value.Value)) → entries_of (insert_entry same_key es k v) ≡ with_entry is_one (key_of k) (value_of v) (entries_of es)
inserted k v [] = refl
inserted k v (e ∷ es) = set_at v e es _ _ (same_key k e.0) (inserted k v es)

abbrev pub seen_pairs : List (rust_value.Value × rust_value.Value) → List (Value × Value)
seen_pairs = map (λ p. (value_of p.0, value_of p.1))

-- the next pair, and the entry that it makes
module _ (items rest : List (rust_value.Value × rust_value.Value)) (k v : rust_value.Value) (j : rust_key.Key) (es new : List (rust_key.Key × rust_value.Value)) (next : items ≡ (k, v) ∷ rest) (made : new ≡ insert_entry same_key es j v) where
  entry_made : entries_of new ≡ with_entry is_one (key_of j) (value_of v) (entries_of es)
  entry_made = ap entries_of made ∙ inserted j v es

  pub entry_told : (e : Ends (List (Key × Value))) (s t : Moment) → e ≡ with_pairs (seen_pairs items) (entries_of es) s → key_of_value (value_of k) s ≡ fine (key_of j) t → e ≡ with_pairs (seen_pairs rest) (entries_of new) t
  entry_told e s t h g =
      h ∙ ap (λ (ps : List (rust_value.Value × rust_value.Value)). with_pairs (seen_pairs ps) (entries_of es) s) next
      ∙ entries_on (value_of k, value_of v) (seen_pairs rest) (entries_of es) (key_of j) s t g
      ∙ ap (λ (xs : List (Key × Value)). with_pairs (seen_pairs rest) xs t) (sym entry_made)

  all_here : (n : ℕ) → IsTrue (are_sound_pairs n (seen_pairs items)) → IsTrue (are_sound_pairs n ((value_of k, value_of v) ∷ seen_pairs rest))
  all_here n h = subst (λ (ps : List (rust_value.Value × rust_value.Value)). IsTrue (are_sound_pairs n (seen_pairs ps))) next h

  pub entry_others : (n : ℕ) → IsTrue (are_sound_pairs n (seen_pairs items)) → IsTrue (are_sound_pairs n (seen_pairs rest))
  entry_others n h = second (is_sound n (value_of k) && is_sound n (value_of v)) _ (all_here n h)

  pub entry_sound : (n : ℕ) → IsTrue (are_sound_pairs n (seen_pairs items)) → IsTrue (list_all (λ e. is_sound n e.1) (entries_of es)) → IsTrue (list_all (λ e. is_sound n e.1) (entries_of new))
  entry_sound n h l =
      subst (λ (xs : List (Key × Value)). IsTrue (list_all (λ e. is_sound n e.1) xs)) (sym entry_made)
      (sound_entry n (key_of j) (value_of v) (entries_of es) (second (is_sound n (value_of k)) _ (first (is_sound n (value_of k) && is_sound n (value_of v)) _ (all_here n h))) l)
