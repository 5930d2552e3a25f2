-- What only counts: the texts of values are of Unicode scalar values, and a place or a number of items that is found is no more than the steps that it took.
use Rattle.std.specs.Prelude.{◌≡◌, ℕ, zero, suc, ◌+◌, ◌-◌, ◌≤◌, ◌==◌, nat_le, Bool, true, false, if◌then◌else◌, List, [], ◌∷◌, ◌++◌, length, codes, Option, Some, None, slice_get}
use Rattle.std.specs.List.{AllByRecursion as Each, list_any}
use Rattle.std.specs.Str.{chars}
use Rattle.std.proofs.Common.{refl, sym, subst, arith, leb-true}
use Rattle.kishu_language.specs.declared.profile.Profile.{Profile}
use Rattle.kishu_language.specs.trees.Tree.{Text}
use Rattle.kishu_language.specs.trees.Tree as t
use Rattle.kishu_meaning.specs.values.Keys.{Key}
use Rattle.kishu_meaning.specs.values.Values.{Value, none, bool, integer, text, range, builtin, class, node, Node, list, tuple, dict, object, function, exception}
use Rattle.kishu_meaning.specs.moments.Moment.{Thrown, fresh, thrown_object, most_depth}
use Rattle.kishu_meaning.specs.moments.Counting.{Counted, answer, too_deep, spent, Count, and_then, ◌>>=◌, ◌>>◌, give, spend, stop_deep, counted}
use Rattle.kishu_meaning.specs.comparing.Equal.{is_same, pair_steps, pair_equal, equal_nodes, equal_in, less_in, greater_in, equal, less, greater, room_at}
use Rattle.kishu_meaning.specs.values.Classes.{key_error_class}
use Rattle.kishu_meaning.specs.comparing.Show.{function_name, function_text, class_name, repr_text, key_text, tuple_end, made, ◌⊕◌, further, listed, repr_by, entry_repr, attribute_repr, tuple_repr, contents_repr, again, repr_at, repr_nodes, repr_in, repr_of, show_by, argument_text, exception_text, show_at, show_nodes, show_in, show, show_all_in, show_all, thrown_in, show_thrown}
use Rattle.kishu_meaning.specs.items.Finding.{is_found, place_from, count_from, place_among, count_among}
use Rattle.kishu_meaning_laws.specs.CountingLaws.{Falls, left_of, then_falls, both_fall, give_falls, spend_falls, either_falls, equal_in_falls, less_in_falls, greater_in_falls, place_falls, count_falls, show_falls, repr_falls}
use Rattle.kishu_meaning_laws.specs.ShowLaws.{thrown_covers, name_as_read}
use Rattle.kishu_objects.specs.State.{IsValue, AreValues, IsKey, IsName, IsCode, IsNode, keys_in, values_in}
use Rattle.kishu_state_laws.specs.Moments.{widest_budget}
use Rattle.kishu_state_laws.specs.trees.Read.{tree_sound}
use Rattle.kishu_state_laws.specs.keeping.Logic.{Maybe, Any, IsText, IsThrown, Safe, Answers, each_get, value_later, values_later, counted_at, counted_s}
use Rattle.kishu_state_laws.specs.keeping.Texts.{scalars_append, text_between, text_repr, text_key, text_name, text_class, text_tuple_end, AreTexts}

-- ---- a text that is made

pub record IsShown (m : Count (List ℕ)) : Type 0 where
  pub told : (n : ℕ) → Answers (λ cs left. IsText cs) (m n)

made_if : (cs : List ℕ) (n : ℕ) (b : Bool) → IsText cs → Answers (λ cs left. IsText cs) (and_then {A = Unit {0}} (if b then answer tt (n - length cs) else spent 0) (λ _. give cs))
made_if cs n true h = h
made_if cs n false h = tt

made_shown : (cs : List ℕ) → IsText cs → IsShown (made cs)
made_shown cs h = record { told = λ n. made_if cs n (nat_le (length cs) n) h }

nothing_shown : IsShown (give [])
nothing_shown = record { told = λ n. refl }

deep_shown : IsShown stop_deep
deep_shown = record { told = λ n. tt }

behind : (front : List ℕ) (e : Counted (List ℕ)) → IsText front → Answers (λ cs left. IsText cs) e → Answers (λ cs left. IsText cs) (and_then e (λ back. give (front ++ back)))
behind front (answer back left) f h = scalars_append front back f h
behind front (too_deep left) f h = tt
behind front (spent left) f h = tt

in_front : (b : Count (List ℕ)) → IsShown b → (e : Counted (List ℕ)) → Answers (λ cs left. IsText cs) e → Answers (λ cs left. IsText cs) (and_then e (λ front. b >>= λ back. give (front ++ back)))
in_front b h (answer front left) f = behind front (b left) f (h.told left)
in_front b h (too_deep left) f = tt
in_front b h (spent left) f = tt

both_shown : (a b : Count (List ℕ)) → IsShown a → IsShown b → IsShown (a ⊕ b)
both_shown a b ha hb = record { told = λ n. in_front b hb (a n) (ha.told n) }

either_shown : (b : Bool) (m k : Count (List ℕ)) → IsShown m → IsShown k → IsShown (if b then m else k)
either_shown true m k h g = h
either_shown false m k h g = g

three_shown : (a b c : Count (List ℕ)) → IsShown a → IsShown b → IsShown c → IsShown (a ⊕ b ⊕ c)
three_shown a b c ha hb hc = both_shown a (b ⊕ c) ha (both_shown b c hb hc)

module _ {A : Type 0} (P : A → Type 0) (text_of : A → Count (List ℕ)) (h : (a : A) → P a → IsShown (text_of a)) where
  further_shown : (as' : List A) → Each P as' → IsShown (further text_of as')
  further_shown [] p = nothing_shown
  further_shown (a ∷ as') p = three_shown (made (codes ", ")) (text_of a) (further text_of as') (made_shown (codes ", ") refl) (h a p.0) (further_shown as' p.1)

  listed_shown : (as' : List A) → Each P as' → IsShown (listed text_of as')
  listed_shown [] p = nothing_shown
  listed_shown (a ∷ as') p = both_shown (text_of a) (further text_of as') (h a p.0) (further_shown as' p.1)

-- ---- functions

text_function : (profile : Profile) (code : Text) (n : ℕ) → IsCode profile code n → IsText (function_text profile code)
text_function profile code n c =
    let d = c.function in
    let tree = tree_sound profile code c.utf8 c.short (t.define d.title d.parameters d.body code ∷ []) c.reads in
    let name = subst IsText (sym (name_as_read profile code d c.reads)) (text_name d.title tree.0.0) in
    text_between (codes "<function ") (function_name profile code) (codes ">") refl name refl

-- ---- repr

abbrev IsEntry : ℕ → Key × Value → Type 0
IsEntry k e = IsKey e.0 × IsValue k e.1

abbrev IsAttribute : ℕ → List ℕ × Value → Type 0
IsAttribute k e = IsName e.0 × IsValue k e.1

each_both : {K : Type 0} (P : K → Type 0) (k : ℕ) (es : List (K × Value)) → Each P (keys_in es) → AreValues k (values_in es) → Each (λ (e : K × Value). P e.0 × IsValue k e.1) es
each_both P k [] p q = tt
each_both P k (e ∷ es) p q = ((p.0, q.0), each_both P k es p.1 q.1)

module _ (k : ℕ) (nodes : ℕ → Count (List ℕ)) (h : (i : ℕ) → IsShown (nodes i)) where
  repr_shown : (v : Value) → IsValue k v → IsShown (repr_by nodes v)
  repr_shown (node i) p = h i
  repr_shown none p = made_shown (repr_text none) (text_repr k none p)
  repr_shown (bool b) p = made_shown (repr_text (bool b)) (text_repr k (bool b) p)
  repr_shown (integer z) p = made_shown (repr_text (integer z)) (text_repr k (integer z) p)
  repr_shown (text cs) p = made_shown (repr_text (text cs)) (text_repr k (text cs) p)
  repr_shown (range a b c) p = made_shown (repr_text (range a b c)) (text_repr k (range a b c) p)
  repr_shown (builtin n) p = made_shown (repr_text (builtin n)) (text_repr k (builtin n) p)
  repr_shown (class n) p = made_shown (repr_text (class n)) (text_repr k (class n) p)

  entry_shown : (e : Key × Value) → IsEntry k e → IsShown (entry_repr nodes e)
  entry_shown e p = three_shown (made (key_text e.0)) (made (codes ": ")) (repr_by nodes e.1) (made_shown (key_text e.0) (text_key e.0 p.0)) (made_shown (codes ": ") refl) (repr_shown e.1 p.1)

  attribute_shown : (e : List ℕ × Value) → IsAttribute k e → IsShown (attribute_repr nodes e)
  attribute_shown e p = three_shown (made (chars e.0)) (made (codes "=")) (repr_by nodes e.1) (made_shown (chars e.0) (text_name e.0 p.0)) (made_shown (codes "=") refl) (repr_shown e.1 p.1)

  values_shown : (vs : List Value) → AreValues k vs → IsShown (listed (repr_by nodes) vs)
  values_shown vs p = listed_shown (IsValue k) (repr_by nodes) repr_shown vs p

  tuple_shown : (vs : List Value) → AreValues k vs → IsShown (tuple_repr nodes vs)
  tuple_shown vs p = three_shown (made (codes "(")) (listed (repr_by nodes) vs) (made (tuple_end vs)) (made_shown (codes "(") refl) (values_shown vs p) (made_shown (tuple_end vs) (text_tuple_end vs))

  contents_shown : (n : Node) → IsNode k n → IsShown (contents_repr nodes n)
  contents_shown (list vs) p = three_shown (made (codes "[")) (listed (repr_by nodes) vs) (made (codes "]")) (made_shown (codes "[") refl) (values_shown vs p) (made_shown (codes "]") refl)
  contents_shown (tuple vs) p = tuple_shown vs p
  contents_shown (dict es) p =
      three_shown (made (codes "{")) (listed (entry_repr nodes) es) (made (codes "}")) (made_shown (codes "{") refl) (listed_shown (IsEntry k) (entry_repr nodes) entry_shown es (each_both IsKey k es p.0 p.2)) (made_shown (codes "}") refl)
  contents_shown (object es) p =
      three_shown (made (codes "namespace(")) (listed (attribute_repr nodes) es) (made (codes ")")) (made_shown (codes "namespace(") refl) (listed_shown (IsAttribute k) (attribute_repr nodes) attribute_shown es (each_both IsName k es p.0 p.2)) (made_shown (codes ")") refl)
  contents_shown (function profile code vs) p = made_shown (function_text profile code) (text_function profile code (length vs) p.0)
  contents_shown (exception kind vs) p =
      both_shown (made (class_name kind)) (made (codes "(") ⊕ listed (repr_by nodes) vs ⊕ made (codes ")")) (made_shown (class_name kind) (text_class kind))
      (three_shown (made (codes "(")) (listed (repr_by nodes) vs) (made (codes ")")) (made_shown (codes "(") refl) (values_shown vs p.1) (made_shown (codes ")") refl))

again_text : (k : ℕ) (n : Node) → IsNode k n → IsText (again n)
again_text k (list vs) p = refl
again_text k (tuple vs) p = refl
again_text k (dict es) p = refl
again_text k (object es) p = refl
again_text k (function profile code vs) p = text_function profile code (length vs) p.0
again_text k (exception kind vs) p = scalars_append (class_name kind) (codes "(...)") (text_class kind) refl

at_shown : (k : ℕ) (nodes : ℕ → Count (List ℕ)) → ((i : ℕ) → IsShown (nodes i)) → (b : Bool) (o : Option Node) → Maybe (IsNode k) o → IsShown (repr_at nodes b o)
at_shown k nodes h b (Some n) p = either_shown b (made (again n)) (contents_repr nodes n) (made_shown (again n) (again_text k n p)) (contents_shown k nodes h n p)
at_shown k nodes h b None p = nothing_shown

module _ (k : ℕ) (ns : List Node) (g : Each (IsNode k) ns) where
  nodes_shown : (room : ℕ) (around : List ℕ) (i : ℕ) → IsShown (repr_nodes ns room around i)
  nodes_shown zero around i = deep_shown
  nodes_shown (suc room) around i = at_shown k (repr_nodes ns room (i ∷ around)) (nodes_shown room (i ∷ around)) (list_any (λ j. i == j) around) (slice_get ns i) (each_get (IsNode k) ns i g)

  repr_in_shown : (depth : ℕ) (v : Value) → IsValue k v → IsShown (repr_in ns depth v)
  repr_in_shown depth v p = repr_shown k (repr_nodes ns (room_at depth) []) (nodes_shown (room_at depth) []) v p

  -- ---- str

  by_shown : (nodes : ℕ → Count (List ℕ)) → ((i : ℕ) → IsShown (nodes i)) → (v : Value) → IsValue k v → IsShown (show_by nodes v)
  by_shown nodes h (text cs) p = made_shown cs p
  by_shown nodes h none p = repr_shown k nodes h none p
  by_shown nodes h (bool b) p = repr_shown k nodes h (bool b) p
  by_shown nodes h (integer z) p = repr_shown k nodes h (integer z) p
  by_shown nodes h (range a b c) p = repr_shown k nodes h (range a b c) p
  by_shown nodes h (builtin n) p = repr_shown k nodes h (builtin n) p
  by_shown nodes h (class n) p = repr_shown k nodes h (class n) p
  by_shown nodes h (node i) p = repr_shown k nodes h (node i) p

  step_then : (m : Count (List ℕ)) (n : ℕ) (b : Bool) → IsShown m → Answers (λ cs left. IsText cs) (and_then {A = Unit {0}} (if b then answer tt (n - 1) else spent 0) (λ _. m))
  step_then m n true h = h.told (n - 1)
  step_then m n false h = tt

  exception_shown : (reprs shows : ℕ → Count (List ℕ)) → ((i : ℕ) → IsShown (reprs i)) → ((i : ℕ) → IsShown (shows i)) → (kind : ℕ) (vs : List Value) → AreValues k vs → IsShown (exception_text reprs shows kind vs)
  exception_shown reprs shows h e kind [] p = nothing_shown
  exception_shown reprs shows h e kind (v ∷ []) p = record { told = λ n. step_then (argument_text reprs shows kind v) n (nat_le 1 n) (either_shown (kind == key_error_class) (repr_by reprs v) (show_by shows v) (repr_shown k reprs h v p.0) (by_shown shows e v p.0)) }
  exception_shown reprs shows h e kind (v ∷ (w ∷ vs)) p = tuple_shown k reprs h (v ∷ w ∷ vs) p

  shown_at : (exceptions : ℕ → List Value → Count (List ℕ)) (other : Count (List ℕ)) → ((kind : ℕ) (vs : List Value) → AreValues k vs → IsShown (exceptions kind vs)) → IsShown other → (o : Option Node) → Maybe (IsNode k) o → IsShown (show_at exceptions other o)
  shown_at exceptions other h e None p = e
  shown_at exceptions other h e (Some (list vs)) p = e
  shown_at exceptions other h e (Some (tuple vs)) p = e
  shown_at exceptions other h e (Some (dict es)) p = e
  shown_at exceptions other h e (Some (object es)) p = e
  shown_at exceptions other h e (Some (function profile code vs)) p = e
  shown_at exceptions other h e (Some (exception kind vs)) p = h kind vs p.1

  shows_shown : (room i : ℕ) → IsShown (show_nodes ns room i)
  shows_shown zero i = deep_shown
  shows_shown (suc room) i =
      shown_at (exception_text (repr_nodes ns room []) (show_nodes ns room)) (repr_nodes ns (suc room) [] i)
      (exception_shown (repr_nodes ns room []) (show_nodes ns room) (nodes_shown room []) (shows_shown room)) (nodes_shown (suc room) [] i) (slice_get ns i) (each_get (IsNode k) ns i g)

  show_in_shown : (depth : ℕ) (v : Value) → IsValue k v → IsShown (show_in ns depth v)
  show_in_shown depth v p = by_shown (show_nodes ns (room_at depth)) (shows_shown (room_at depth)) v p

  thrown_in_shown : (depth kind : ℕ) (vs : List Value) → AreValues k vs → IsShown (thrown_in ns depth kind vs)
  thrown_in_shown depth kind vs p = exception_shown (repr_nodes ns (most_depth - depth) []) (show_nodes ns (most_depth - depth)) (nodes_shown (most_depth - depth) []) (shows_shown (most_depth - depth)) kind vs p

  behind_all : (first : List ℕ) (e : Counted (List (List ℕ))) → IsText first → Answers (λ parts left. AreTexts parts) e → Answers (λ parts left. AreTexts parts) (and_then e (λ following. give (first ∷ following)))
  behind_all first (answer following left) f h = (f, h)
  behind_all first (too_deep left) f h = tt
  behind_all first (spent left) f h = tt

  all_after : (rest : Count (List (List ℕ))) → ((n : ℕ) → Answers (λ parts left. AreTexts parts) (rest n)) → (e : Counted (List ℕ)) → Answers (λ cs left. IsText cs) e → Answers (λ parts left. AreTexts parts) (and_then e (λ first. rest >>= λ following. give (first ∷ following)))
  all_after rest h (answer first left) f = behind_all first (rest left) f (h left)
  all_after rest h (too_deep left) f = tt
  all_after rest h (spent left) f = tt

  all_shown : (depth : ℕ) (vs : List Value) → AreValues k vs → (n : ℕ) → Answers (λ parts left. AreTexts parts) (show_all_in ns depth vs n)
  all_shown depth [] p n = tt
  all_shown depth (v ∷ vs) p n = all_after (show_all_in ns depth vs) (all_shown depth vs p.1) (show_in ns depth v n) ((show_in_shown depth v p.0).told n)

-- ---- steps

all_falls : (ns : List Node) (depth : ℕ) (vs : List Value) → Falls (show_all_in ns depth vs)
all_falls ns depth [] = give_falls []
all_falls ns depth (v ∷ vs) = then_falls (show_in ns depth v) _ (show_falls ns depth v) (λ first. then_falls (show_all_in ns depth vs) _ (all_falls ns depth vs) (λ following. give_falls (first ∷ following)))

thrown_falls : (ns : List Node) (depth kind : ℕ) (vs : List Value) → Falls (thrown_in ns depth kind vs)
thrown_falls ns depth kind vs = (thrown_covers ns depth kind vs).counts

pair_falls : (ns : List Node) (depth : ℕ) (v w : Value) → Falls (pair_equal (equal_nodes ns (room_at depth)) v w)
pair_falls ns depth v w =
    both_fall (spend 1) (if is_same v w then (spend (pair_steps v w) >> give true) else equal_in ns depth v w) (spend_falls 1)
    (either_falls (is_same v w) (spend (pair_steps v w) >> give true) (equal_in ns depth v w) (both_fall (spend (pair_steps v w)) (give true) (spend_falls (pair_steps v w)) (give_falls true)) (equal_in_falls ns depth v w))

-- ---- items that are found: each that is visited takes a step

fallen : {A : Type 0} (n : ℕ) (e : Counted A) → left_of e ≤ n → Answers (λ a left. left ≤ n) e
fallen n (answer a left) h = h
fallen n (too_deep left) h = tt
fallen n (spent left) h = tt

lesser : {A : Type 0} (n : ℕ) (e : Counted A) → 1 ≤ n → Answers (λ a left. left ≤ n - 1) e → Answers (λ a left. suc left ≤ n) e
lesser n (answer a left) p h = omega (arith, p, h)
lesser n (too_deep left) p h = tt
lesser n (spent left) p h = tt

step_taken : {A : Type 0} (m : Count A) (n : ℕ) (b : Bool) → nat_le 1 n ≡ b → Falls m → Answers (λ a left. suc left ≤ n) (and_then {A = Unit {0}} (if b then answer tt (n - 1) else spent 0) (λ _. m))
step_taken m n true e h = let p : 1 ≤ n = leb-true 1 n e in lesser n (m (n - 1)) p (fallen (n - 1) (m (n - 1)) (h.falls (n - 1)))
step_taken m n false e h = tt

module _ (ns : List Node) (depth : ℕ) (x : Value) where
  found_takes : (v : Value) (n : ℕ) → Answers (λ b left. suc left ≤ n) (is_found ns depth x v n)
  found_takes v n =
      step_taken (if is_same v x then (spend (pair_steps v x) >> give true) else equal_in ns depth v x) n (nat_le 1 n) refl
      (either_falls (is_same v x) (spend (pair_steps v x) >> give true) (equal_in ns depth v x) (both_fall (spend (pair_steps v x)) (give true) (spend_falls (pair_steps v x)) (give_falls true)) (equal_in_falls ns depth v x))

  abbrev Near : ℕ → ℕ → Counted (Option ℕ) → Type 0
  Near at n e = Answers (λ o left. Maybe (λ p. p + left ≤ at + n) o) e

  nearer : (at m n : ℕ) (e : Counted (Option ℕ)) → suc m ≤ n → Near (suc at) m e → Near at n e
  nearer at m n (answer None left) p h = tt
  nearer at m n (answer (Some q) left) p h = omega (arith, p, h)
  nearer at m n (too_deep left) p h = tt
  nearer at m n (spent left) p h = tt

  place_if : (at m n : ℕ) (b : Bool) (vs : List Value) → suc m ≤ n → Near (suc at) m (place_from ns depth x (suc at) vs m) → Near at n ((if b then give (Some at) else place_from ns depth x (suc at) vs) m)
  place_if at m n true vs p h = omega (arith, p)
  place_if at m n false vs p h = nearer at m n (place_from ns depth x (suc at) vs m) p h

  place_after : (at n : ℕ) (vs : List Value) (e : Counted Bool) → Answers (λ b left. suc left ≤ n) e → ((m : ℕ) → Near (suc at) m (place_from ns depth x (suc at) vs m)) → Near at n (and_then e (λ same. if same then give (Some at) else place_from ns depth x (suc at) vs))
  place_after at n vs (answer b left) p h = place_if at left n b vs p (h left)
  place_after at n vs (too_deep left) p h = tt
  place_after at n vs (spent left) p h = tt

  place_near : (at : ℕ) (vs : List Value) (n : ℕ) → Near at n (place_from ns depth x at vs n)
  place_near at [] n = tt
  place_near at (v ∷ vs) n = place_after at n vs (is_found ns depth x v n) (found_takes v n) (place_near (suc at) vs)

  abbrev Few : ℕ → ℕ → Counted ℕ → Type 0
  Few c n e = Answers (λ d left. d + left ≤ c + n) e

  fewer : (b : Bool) (c m n : ℕ) (e : Counted ℕ) → suc m ≤ n → Few (if b then suc c else c) m e → Few c n e
  fewer true c m n (answer d left) p h = omega (arith, p, h)
  fewer false c m n (answer d left) p h = omega (arith, p, h)
  fewer b c m n (too_deep left) p h = tt
  fewer b c m n (spent left) p h = tt

  count_after : (c n : ℕ) (vs : List Value) (e : Counted Bool) → Answers (λ b left. suc left ≤ n) e → ((d m : ℕ) → Few d m (count_from ns depth x d vs m)) → Few c n (and_then e (λ same. count_from ns depth x (if same then suc c else c) vs))
  count_after c n vs (answer b left) p h = fewer b c left n (count_from ns depth x (if b then suc c else c) vs left) p (h (if b then suc c else c) left)
  count_after c n vs (too_deep left) p h = tt
  count_after c n vs (spent left) p h = tt

  count_few : (c : ℕ) (vs : List Value) (n : ℕ) → Few c n (count_from ns depth x c vs n)
  count_few c [] n = omega arith
  count_few c (v ∷ vs) n = count_after c n vs (is_found ns depth x v n) (found_takes v n) (λ d m. count_few d vs m)

place_within : (n : ℕ) (e : Counted (Option ℕ)) → n ≤ widest_budget → Answers (λ o left. Maybe (λ p. p + left ≤ 0 + n) o) e → Answers (λ o left. Maybe (λ p. p ≤ widest_budget) o) e
place_within n (answer None left) p h = tt
place_within n (answer (Some q) left) p h = omega (arith, p, h)
place_within n (too_deep left) p h = tt
place_within n (spent left) p h = tt

count_within : (n : ℕ) (e : Counted ℕ) → n ≤ widest_budget → Answers (λ d left. d + left ≤ 0 + n) e → Answers (λ d left. d ≤ widest_budget) e
count_within n (answer d left) p h = omega (arith, p, h)
count_within n (too_deep left) p h = tt
count_within n (spent left) p h = tt

-- ---- in a run

module _ {k : ℕ} where
  pub repr_s : (v : Value) → IsValue k v → Safe k (λ l. IsText) (repr_of v)
  repr_s v p = counted_at (λ l cs. IsText cs) (λ s. repr_in s.nodes s.depth v) (λ d s. refl) (λ s. repr_falls s.nodes s.depth v) (λ l s le g. (repr_in_shown l s.nodes g.nodes s.depth v (value_later k l le v p)).told s.left)

  pub show_s : (v : Value) → IsValue k v → Safe k (λ l. IsText) (show v)
  show_s v p = counted_at (λ l cs. IsText cs) (λ s. show_in s.nodes s.depth v) (λ d s. refl) (λ s. show_falls s.nodes s.depth v) (λ l s le g. (show_in_shown l s.nodes g.nodes s.depth v (value_later k l le v p)).told s.left)

  pub show_all_s : (vs : List Value) → AreValues k vs → Safe k (λ l. AreTexts) (show_all vs)
  show_all_s vs p = counted_at (λ l parts. AreTexts parts) (λ s. show_all_in s.nodes s.depth vs) (λ d s. refl) (λ s. all_falls s.nodes s.depth vs) (λ l s le g. all_shown l s.nodes g.nodes s.depth vs (values_later k l le vs p) s.left)

  pub show_thrown_s : (x : Thrown) → IsThrown k x → Safe k (λ l. IsText) (show_thrown x)
  show_thrown_s (fresh kind vs) p = counted_at (λ l cs. IsText cs) (λ s. thrown_in s.nodes s.depth kind vs) (λ d s. refl) (λ s. thrown_falls s.nodes s.depth kind vs) (λ l s le g. (thrown_in_shown l s.nodes g.nodes s.depth kind vs (values_later k l le vs p.1)).told s.left)
  show_thrown_s (thrown_object i) p = show_s (node i) p

  pub place_s : (x : Value) (vs : List Value) → Safe k (λ l. Maybe (λ p. p ≤ widest_budget)) (place_among x vs)
  place_s x vs = counted_at (λ l o. Maybe (λ p. p ≤ widest_budget) o) (λ s. place_from s.nodes s.depth x 0 vs) (λ d s. refl) (λ s. place_falls s.nodes s.depth x 0 vs) (λ l s le g. place_within s.left (place_from s.nodes s.depth x 0 vs s.left) g.budget (place_near s.nodes s.depth x 0 vs s.left))

  pub count_s : (x : Value) (vs : List Value) → Safe k (λ l d. d ≤ widest_budget) (count_among x vs)
  count_s x vs = counted_at (λ l d. d ≤ widest_budget) (λ s. count_from s.nodes s.depth x 0 vs) (λ d s. refl) (λ s. count_falls s.nodes s.depth x 0 vs) (λ l s le g. count_within s.left (count_from s.nodes s.depth x 0 vs s.left) g.budget (count_few s.nodes s.depth x 0 vs s.left))

  pub equal_s : (v w : Value) → Safe k Any (equal v w)
  equal_s v w = counted_s (λ s. equal_in s.nodes s.depth v w) (λ d s. refl) (λ s. equal_in_falls s.nodes s.depth v w)

  pub less_s : (v w : Value) → Safe k Any (less v w)
  less_s v w = counted_s (λ s. less_in s.nodes s.depth v w) (λ d s. refl) (λ s. less_in_falls s.nodes s.depth v w)

  pub greater_s : (v w : Value) → Safe k Any (greater v w)
  greater_s v w = counted_s (λ s. greater_in s.nodes s.depth v w) (λ d s. refl) (λ s. greater_in_falls s.nodes s.depth v w)

  pub pair_s : (v w : Value) → Safe k Any (λ s. counted (pair_equal (equal_nodes s.nodes (room_at s.depth)) v w) s)
  pair_s v w = counted_s (λ s. pair_equal (equal_nodes s.nodes (room_at s.depth)) v w) (λ d s. refl) (λ s. pair_falls s.nodes s.depth v w)
