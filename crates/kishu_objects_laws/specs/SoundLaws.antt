-- Where the tests of sound heaps and names hold, each node number of the state is that of a node.
use Rattle.std.specs.Prelude.{◌≡◌, ℕ, zero, suc, ◌<◌, IsTrue, Bool, true, ◌&&◌, List, [], ◌∷◌, length, ◌⊎◌}
use Rattle.std.specs.List.{list_all}
use Rattle.std.proofs.Common.{refl, ap, ◌∙◌, subst, inl, inr}
use Rattle.std.proofs.lemmas.Bool.{and_parts, ltb-true}
use Rattle.kishu_language.specs.tokens.Names.{is_name}
use Rattle.kishu_meaning.specs.values.Keys.{Key}
use Rattle.kishu_meaning.specs.values.Values.{Value, node, Node, list, tuple, dict, object, function, exception, State}
use Rattle.kishu_meaning.specs.values.Sound.{is_below, is_sound, are_sound, is_sound_node, is_sound_heap, is_exception_class, are_sound_names}
use Rattle.kishu_objects.specs.Lists.{In}
use Rattle.kishu_objects.specs.Shape.{children, node_at}
use Rattle.kishu_objects.specs.Sound.{IsSound}
use Rattle.kishu_objects_laws.specs.ListLaws.{map_in}
use Rattle.kishu_objects_laws.specs.NameLaws.{find_in}
use Rattle.kishu_objects_laws.specs.OrderLaws.{in_numbers}

all_in : {A : Type 0} (test : A → Bool) (xs : List A) (a : A) → IsTrue (list_all test xs) → In a xs → IsTrue (test a)
all_in test [] a h m = absurd m
all_in test (x ∷ xs) a h (inl e) = ap test e ∙ (and_parts (test x) (list_all test xs) h).0
all_in test (x ∷ xs) a h (inr m) = all_in test xs a (and_parts (test x) (list_all test xs) h).1 m

sound_below : (n i : ℕ) → IsTrue (is_sound n (node i)) → i < n
sound_below n i h = ltb-true i n (and_parts true (is_below n (node i)) h).1

node_there : (ns : List Node) (i : ℕ) → In (node_at ns i) ns ⊎ (node_at ns i ≡ list [])
node_there [] i = inr refl
node_there (n ∷ ns) zero = inl (inl refl)
node_there (n ∷ ns) (suc i) = elim (node_there ns i) [ inl h ↦ inl (inr h) | inr e ↦ inr e ]

child_sound : (n : ℕ) (m : Node) (a : ℕ) → IsTrue (is_sound_node n m) → In (node a) (children m) → IsTrue (is_sound n (node a))
child_sound n (list vs) a h k = all_in (is_sound n) vs (node a) h k
child_sound n (tuple vs) a h k = all_in (is_sound n) vs (node a) h k
child_sound n (dict es) a h k = (let r = map_in (λ (e : Key × Value). e.1) es (node a) k in ap (is_sound n) r.2 ∙ all_in (λ (e : Key × Value). is_sound n e.1) es r.0 h r.1)
child_sound n (object as') a h k = (let r = map_in (λ (e : List ℕ × Value). e.1) as' (node a) k in ap (is_sound n) r.2 ∙ (and_parts (is_name r.0.0) (is_sound n r.0.1) (all_in (λ (e : List ℕ × Value). is_name e.0 && is_sound n e.1) as' r.0 h r.1)).1)
child_sound n (function profile code vs) a h k = all_in (is_sound n) vs (node a) h k
child_sound n (exception kind vs) a h k = all_in (is_sound n) vs (node a) (and_parts (is_exception_class kind) (are_sound n vs) h).1 k

-- the state of which the tests hold
pub sound_of : (s : State) → IsTrue (is_sound_heap s.nodes) → IsTrue (are_sound_names (length s.nodes) s.names) → IsSound s
sound_of s nodes names = record {
  names = λ x i e. sound_below (length s.nodes) i (and_parts (is_name x) (is_sound (length s.nodes) (node i)) (all_in (λ (b : List ℕ × Value). is_name b.0 && is_sound (length s.nodes) b.1) s.names (x, node i) names (find_in x s.names (node i) e))).1;
  nodes = λ i a h. sound_below (length s.nodes) a (in_node i a (in_numbers (children (node_at s.nodes i)) a h));
}
  where
    in_node : (i a : ℕ) → In (node a) (children (node_at s.nodes i)) → IsTrue (is_sound (length s.nodes) (node a))
    in_node i a h = elim (node_there s.nodes i) [
      | inl m ↦ child_sound (length s.nodes) (node_at s.nodes i) a (all_in (is_sound_node (length s.nodes)) s.nodes (node_at s.nodes i) nodes m) h
      | inr e ↦ absurd (subst (λ n. In (node a) (children n)) e h)
    ]
