-- The test of two states decides whether they are one.
use Rattle.std.specs.Prelude.{◌≡◌, ℕ, ℤ, ◌==◌, Bool, true, false, ◌&&◌, List}
use Rattle.std.specs.Bool.{Decides, beq}
use Rattle.std.specs.Cmp.{booleans_Decides}
use Rattle.std.specs.Ordering.{int_eq}
use Rattle.std.specs.Str.{bytes_eq}
use Rattle.std.specs.Cmp.Lexicographic.{pointwise}
use Rattle.std.proofs.Common.{refl, ap}
use Rattle.std.proofs.lemmas.Bool.Decides.{Decides-eqb, Decides-int_eq}
use Rattle.std.proofs.lemmas.Slice.Eq.{bytes_eq-Decides, slice_eq-Decides}
use Rattle.kishu_language.specs.declared.profile.Profile.{Profile}
use Rattle.kishu_language.specs.declared.profile.Profile.TheVariants.{One, Two}
use Rattle.kishu_meaning.specs.values.Keys.{KeyPart, Key, single}
use Rattle.kishu_meaning.specs.values.Keys as k
use Rattle.kishu_meaning.specs.values.Values.{Value, none, bool, integer, text, range, builtin, class, node, Node, list, tuple, dict, object, function, exception, State}
use Rattle.kishu_history.specs.Alike.{is_value, is_profile, is_part, is_key, is_node, is_state}

pub not_true : false ≡ true → ⊥
not_true e = cc

-- the test of one part, and of two
by_one : {A B : Type 0} (f : A → B) (r : Bool) (a b : A) → Decides r (a ≡ b) → (f a ≡ f b → a ≡ b) → Decides r (f a ≡ f b)
by_one f r a b d g = (λ e. ap f (d.0 e), λ e. d.1 (g e))

pub and_both : (a b : Bool) → (a && b) ≡ true → (a ≡ true) × (b ≡ true)
and_both true b e = (refl, e)
and_both false b e = absurd (not_true e)

pub both_and : (a b : Bool) → a ≡ true → b ≡ true → (a && b) ≡ true
both_and a b e f = rw (e, f) refl

pub by_two : {P Q R : Type 0} (a b : Bool) → Decides a P → Decides b Q → (P → Q → R) → (R → P) → (R → Q) → Decides (a && b) R
by_two a b d e both left right = ((λ h. let k = and_both a b h in both (d.0 k.0) (e.0 k.1)), (λ r. both_and a b (d.1 (left r)) (e.1 (right r))))

neither : {A : Type 0} (a b : A) → (a ≡ b → ⊥) → Decides false (a ≡ b)
neither a b h = ((λ e. absurd (not_true e)), (λ e. absurd (h e)))

range_decides : (a b c d e f : ℤ) → Decides (int_eq a d && (int_eq b e && int_eq c f)) (range a b c ≡ range d e f)
range_decides a b c d e f = by_two (int_eq a d) (int_eq b e && int_eq c f) (Decides-int_eq a d)
    (by_two {R = (b ≡ e) × (c ≡ f)} (int_eq b e) (int_eq c f) (Decides-int_eq b e) (Decides-int_eq c f) (λ p q. (p, q)) (λ r. r.0) (λ r. r.1))
    (λ p q. let g = q.0 in let h = q.1 in cc) (λ r. cc) (λ r. let g : b ≡ e = cc in let h : c ≡ f = cc in (g, h))

value_decides : (v w : Value) → Decides (is_value v w) (v ≡ w)
value_decides none none = ((λ e. refl), (λ e. refl))
value_decides (bool a) (bool b) = by_one bool (beq a b) a b (booleans_Decides a b) (λ e. cc)
value_decides (integer a) (integer b) = by_one integer (int_eq a b) a b (Decides-int_eq a b) (λ e. cc)
value_decides (text a) (text b) = by_one text (bytes_eq a b) a b (bytes_eq-Decides a b) (λ e. cc)
value_decides (range a b c) (range d e f) = range_decides a b c d e f
value_decides (builtin a) (builtin b) = by_one builtin (a == b) a b (Decides-eqb a b) (λ e. cc)
value_decides (class a) (class b) = by_one class (a == b) a b (Decides-eqb a b) (λ e. cc)
value_decides (node a) (node b) = by_one node (a == b) a b (Decides-eqb a b) (λ e. cc)
value_decides v w = neither v w (λ e. cc)

part_decides : (p q : KeyPart) → Decides (is_part p q) (p ≡ q)
part_decides k.none k.none = ((λ e. refl), (λ e. refl))
part_decides (k.bool a) (k.bool b) = by_one k.bool (beq a b) a b (booleans_Decides a b) (λ e. cc)
part_decides (k.integer a) (k.integer b) = by_one k.integer (int_eq a b) a b (Decides-int_eq a b) (λ e. cc)
part_decides (k.text a) (k.text b) = by_one k.text (bytes_eq a b) a b (bytes_eq-Decides a b) (λ e. cc)
part_decides p q = neither p q (λ e. cc)

profile_decides : (p q : Profile) → Decides (is_profile p q) (p ≡ q)
profile_decides One One = ((λ e. refl), (λ e. refl))
profile_decides Two Two = ((λ e. refl), (λ e. refl))
profile_decides p q = neither p q (λ e. cc)

pub all_decide : {A : Type 0} (test : A → A → Bool) → ((a b : A) → Decides (test a b) (a ≡ b)) → (xs ys : List A) → Decides (pointwise test xs ys) (xs ≡ ys)
all_decide test h xs ys = slice_eq-Decides h xs ys (pointwise test xs ys) refl

key_decides : (p q : Key) → Decides (is_key p q) (p ≡ q)
key_decides (single p) (single q) = by_one single (is_part p q) p q (part_decides p q) (λ e. cc)
key_decides (k.tuple ps) (k.tuple qs) = by_one k.tuple (pointwise is_part ps qs) ps qs (all_decide is_part part_decides ps qs) (λ e. cc)
key_decides p q = neither p q (λ e. cc)

pair_decides : {A B : Type 0} (f : A → A → Bool) (g : B → B → Bool) → ((a b : A) → Decides (f a b) (a ≡ b)) → ((a b : B) → Decides (g a b) (a ≡ b)) → (p q : A × B) → Decides (f p.0 q.0 && g p.1 q.1) (p ≡ q)
pair_decides f g h k p q = by_two (f p.0 q.0) (g p.1 q.1) (h p.0 q.0) (k p.1 q.1) (λ d e. λ i. (d i, e i)) (λ e. ap (λ r. r.0) e) (λ e. ap (λ r. r.1) e)

values_decide : (vs ws : List Value) → Decides (pointwise is_value vs ws) (vs ≡ ws)
values_decide = all_decide is_value value_decides

code_decides : (a b : List ℕ) (vs ws : List Value) → Decides (bytes_eq a b && pointwise is_value vs ws) ((a ≡ b) × (vs ≡ ws))
code_decides a b vs ws = by_two {R = (a ≡ b) × (vs ≡ ws)} (bytes_eq a b) (pointwise is_value vs ws) (bytes_eq-Decides a b) (values_decide vs ws) (λ d e. (d, e)) (λ r. r.0) (λ r. r.1)

entry_decides : (e f : Key × Value) → Decides (is_key e.0 f.0 && is_value e.1 f.1) (e ≡ f)
entry_decides = pair_decides is_key is_value key_decides value_decides

name_decides : (e f : List ℕ × Value) → Decides (bytes_eq e.0 f.0 && is_value e.1 f.1) (e ≡ f)
name_decides = pair_decides bytes_eq is_value bytes_eq-Decides value_decides

node_decides : (n m : Node) → Decides (is_node n m) (n ≡ m)
node_decides (list vs) (list ws) = by_one list _ vs ws (values_decide vs ws) (λ e. cc)
node_decides (tuple vs) (tuple ws) = by_one tuple _ vs ws (values_decide vs ws) (λ e. cc)
node_decides (dict es) (dict fs) = by_one dict _ es fs (all_decide _ entry_decides es fs) (λ e. cc)
node_decides (object es) (object fs) = by_one object _ es fs (all_decide _ name_decides es fs) (λ e. cc)
node_decides (function p a vs) (function q b ws) =
    by_two (is_profile p q) (bytes_eq a b && pointwise is_value vs ws) (profile_decides p q) (code_decides a b vs ws) (λ d e. let g = e.0 in let h = e.1 in cc) (λ e. cc) (λ e. let g : a ≡ b = cc in let h : vs ≡ ws = cc in (g, h))
node_decides (exception a vs) (exception b ws) = by_two (a == b) (pointwise is_value vs ws) (Decides-eqb a b) (values_decide vs ws) (λ p q. cc) (λ e. cc) (λ e. cc)
node_decides n m = neither n m (λ e. cc)

pub state_decides : (s t : State) → Decides (is_state s t) (s ≡ t)
state_decides s t = by_two _ _ (all_decide _ name_decides s.names t.names) (all_decide _ node_decides s.nodes t.nodes) (λ d e. λ i. record { names = d i; nodes = e i }) (λ e. ap (λ u. u.names) e) (λ e. ap (λ u. u.nodes) e)
