-- Comparisons, in the parts in which the code makes them.
use Rattle.std.proofs.Common.{◌≡◌, ◌∙◌, refl, ap, ℕ, ◌+◌, ◌<◌, Bool, true, false, cond, IsTrue, if◌then◌else◌, List, [], ◌∷◌, length, map, drop, get_or, Option, Some, None, Result, Ok, Err}
use Rattle.std.specs.Prelude.{ℤ, option_map, is_some}
use Rattle.std.specs.Map.{lookup}
use Rattle.kishu_language.specs.declared.tree.Comparison.{Comparison}
use Rattle.kishu_meaning.specs.declared.key.Key as rust_key
use Rattle.kishu_meaning.specs.declared.value.Value as rust
use Rattle.kishu_meaning_laws.specs.CountingLaws.{left_of}
use Rattle.kishu_meaning.specs.values.Keys.{Key, key_of, is_one}
use Rattle.kishu_meaning.specs.values.Nodes.{value_at}
use Rattle.kishu_heap.specs.Cells.{entries_of}
use Rattle.kishu_heap.specs.Compared as compared
use Rattle.kishu_heap.specs.declared.fault.CompareFault.{CompareFault}
use Rattle.kishu_heap.specs.declared.fault.CompareFault.TheVariants as compares
use Rattle.kishu_meaning.specs.values.Values.{Value, none, bool, integer, text, range, builtin, class, node, value_of}
use Rattle.kishu_meaning.specs.moments.Moment.{Moment, Ends, fine, M, and_then, ◌>>=◌, give, node_now}
use Rattle.kishu_meaning.specs.moments.Counting.{Counted, answer, too_deep, spent, ended_in}
use Rattle.kishu_meaning.specs.comparing.Equal.{number_in, pair_equal, equal_nodes, room_at}
use Rattle.kishu_meaning.specs.values.Kinds.{not_iterable}
use Rattle.kishu_meaning.specs.comparing.Comparing.{comparison_sign, part_in, equals_item, among, in_range, in_node, member}
use Rattle.kishu_meaning.specs.calls.Operators.{bad_operands}
use Rattle.kishu_items.specs.Called as called
use Rattle.kishu_items.specs.Gathering.{dropped}
use Rattle.kishu_heap.specs.declared.fault.CallFault.{CallFault}
use Rattle.kishu_heap.specs.declared.fault.CallFault.TheVariants as calls
use Rattle.kishu_machine.specs.declared.fault.Fault.{Fault}
use Rattle.kishu_machine.specs.Forms.{text_from}
use Rattle.kishu_machine.specs.Lifted.{passed}
use Rattle.kishu_machine.specs.Machine.{Fails, Gives}
use Rattle.kishu_machine.proofs.Sequences.{parts_fail}
use Rattle.kishu_machine.specs.Raising.{RaisesSound, is_sound_end, then_raises, give_raises, counted_raises}

-- what a call over a heap and a budget gives at a moment, as a call of a run
pub passed_gives : {X A : Type 0} (view : X → A) (r : Result X CallFault) (s : Moment) (e : Ends A) → called.Gives view r s e → Gives view (passed r) s e
passed_gives view (Ok x) s e h = h
passed_gives view (Err (calls.Raise kind message)) s e h = h
passed_gives view (Err (calls.RaiseWith kind v)) s e h = h
passed_gives view (Err calls.Spent) s e h = h
passed_gives view (Err calls.NoMemory) s e h = tt

-- ---- what counting ends with

-- how many steps were left before makes no difference
pub ended_at : {A : Type 0} (s : Moment) (k d : ℕ) (e : Counted A) → d ≡ s.depth → ended_in (record s { left = k; depth = d }) e ≡ ended_in s e
ended_at s k d (answer a n) h = rw h refl
ended_at s k d (too_deep n) h = rw h refl
ended_at s k d (spent n) h = rw h refl

pub ended_sound : {A : Type 0} (n : ℕ) (s : Moment) (e : Counted A) → IsTrue (is_sound_end n (ended_in s e))
ended_sound n s (answer a k) = refl
ended_sound n s (too_deep k) = refl
ended_sound n s (spent k) = refl

-- ---- `in`

module _ (n : ℕ) where
  either_raises : (b : Bool) (m : M Bool) → RaisesSound n m → RaisesSound n (if b then give b else m)
  either_raises true m h = give_raises n true
  either_raises false m h = h

  pub among_raises : (v : Value) (ws : List Value) → RaisesSound n (among v ws)
  among_raises v [] = give_raises n false
  among_raises v (w ∷ ws) = then_raises n (equals_item v w) _ (counted_raises n (λ ns depth. pair_equal (equal_nodes ns (room_at depth)) w v)) (λ b. either_raises b (among v ws) (among_raises v ws))

-- what is among the items from a place on
module _ (v : Value) (items : List rust.Value) (i : ℕ) (item : rust.Value) (s : Moment) (l : i < length items) (p : item ≡ get_or items i item) where
  abbrev or_later : Bool → M Bool
  or_later found = if found then give found else among v (map value_of (drop (i + 1) items))

  from_here : among v (map value_of (drop i items)) s ≡ and_then (equals_item v (value_of item) s) or_later
  from_here = ap (λ vs. among v (map value_of vs) s) (dropped items i item l p)

  pub found_fails : (f : Fault) (t : Moment) → Fails f t (equals_item v (value_of item) s) → Fails f t (among v (map value_of (drop i items)) s)
  found_fails f t h = parts_fail or_later (equals_item v (value_of item) s) _ from_here f t h

  pub found_here : (t : Moment) → equals_item v (value_of item) s ≡ fine true t → among v (map value_of (drop i items)) s ≡ fine true t
  found_here t h = from_here ∙ ap (λ e. and_then e or_later) h

  pub found_later : (t : Moment) → equals_item v (value_of item) s ≡ fine false t → among v (map value_of (drop i items)) s ≡ among v (map value_of (drop (i + 1) items)) t
  found_later t h = from_here ∙ ap (λ e. and_then e or_later) h

-- ---- steps that are left

pub gives_left : {A : Type 0} (r : Result A CompareFault) (n : ℕ) (e : Counted A) → compared.Gives r n e → left_of e ≡ n
gives_left (Ok a) n e h = ap left_of h
gives_left (Err compares.Unordered) n e h = absurd h
gives_left (Err compares.Depth) n e h = ap left_of h
gives_left (Err compares.Spent) n e h = ap left_of h

pub orders_left : (r : Result Bool CompareFault) (n : ℕ) (e : Counted (Option Bool)) → compared.Orders r n e → left_of e ≡ n
orders_left (Ok a) n e h = ap left_of h
orders_left (Err compares.Unordered) n e h = ap left_of h
orders_left (Err compares.Depth) n e h = ap left_of h
orders_left (Err compares.Spent) n e h = ap left_of h

-- ---- keys of dicts

found_at : (v : rust.Value) (rest : Option rust.Value) (others : Option Value) (b : Bool) → option_map value_of rest ≡ others → option_map value_of (cond b (Some v) rest) ≡ cond b (Some (value_of v)) others
found_at v rest others true h = refl
found_at v rest others false h = h

pub finds_entry : (k : Key) (es : List (rust_key.Key × rust.Value)) → option_map value_of (lookup (λ y. is_one k (key_of y)) es) ≡ value_at is_one k (entries_of es)
finds_entry k [] = refl
finds_entry k (e ∷ es) = found_at e.1 _ _ (is_one k (key_of e.0)) (finds_entry k es)

pub still_some : {X Y : Type 0} (f : X → Y) (o : Option X) → is_some o ≡ is_some (option_map f o)
still_some f (Some x) = refl
still_some f None = refl

-- by the text that is looked for
abbrev pub in_text_by : Comparison → Value → List ℕ → Option (List ℕ) → M Bool
in_text_by c v cs (Some part) = part_in part cs
in_text_by c v cs None = bad_operands (comparison_sign c) v (text cs)

pub in_text_is : (c : Comparison) (v : Value) (cs : List ℕ) (s : Moment) → member c v (text cs) s ≡ in_text_by c v cs (text_from v) s
in_text_is c (text part) cs s = refl
in_text_is c none cs s = refl
in_text_is c (bool b) cs s = refl
in_text_is c (integer z) cs s = refl
in_text_is c (range x y z) cs s = refl
in_text_is c (builtin n) cs s = refl
in_text_is c (class n) cs s = refl
in_text_is c (node i) cs s = refl

pub member_range : (c : Comparison) (v : Value) (x y z : ℤ) (s : Moment) → member c v (range x y z) s ≡ fine (in_range (number_in v) x y z) s
member_range c none x y z s = refl
member_range c (bool b) x y z s = refl
member_range c (integer a) x y z s = refl
member_range c (text cs) x y z s = refl
member_range c (range i j k) x y z s = refl
member_range c (builtin n) x y z s = refl
member_range c (class n) x y z s = refl
member_range c (node n) x y z s = refl

pub member_node : (c : Comparison) (v : Value) (m : ℕ) (s : Moment) → member c v (node m) s ≡ (node_now (node m) >>= in_node v (node m)) s
member_node c none m s = refl
member_node c (bool b) m s = refl
member_node c (integer z) m s = refl
member_node c (text cs) m s = refl
member_node c (range i j k) m s = refl
member_node c (builtin n) m s = refl
member_node c (class n) m s = refl
member_node c (node n) m s = refl

-- what has no items, whatever is looked for
abbrev pub is_plain : Value → Bool
is_plain none = true
is_plain (bool b) = true
is_plain (integer z) = true
is_plain (text cs) = false
is_plain (range x y z) = false
is_plain (builtin n) = true
is_plain (class n) = true
is_plain (node m) = false

none_in : (c : Comparison) (w : Value) (s : Moment) → IsTrue (is_plain w) → member c none w s ≡ not_iterable w s
none_in c none s h = refl
none_in c (bool a) s h = refl
none_in c (integer a) s h = refl
none_in c (text as') s h = absurd (cc)
none_in c (range x y z) s h = absurd (cc)
none_in c (builtin a) s h = refl
none_in c (class a) s h = refl
none_in c (node a) s h = absurd (cc)

bool_in : (c : Comparison) (b : Bool) (w : Value) (s : Moment) → IsTrue (is_plain w) → member c (bool b) w s ≡ not_iterable w s
bool_in c b none s h = refl
bool_in c b (bool a) s h = refl
bool_in c b (integer a) s h = refl
bool_in c b (text as') s h = absurd (cc)
bool_in c b (range x y z) s h = absurd (cc)
bool_in c b (builtin a) s h = refl
bool_in c b (class a) s h = refl
bool_in c b (node a) s h = absurd (cc)

integer_in : (c : Comparison) (k : ℤ) (w : Value) (s : Moment) → IsTrue (is_plain w) → member c (integer k) w s ≡ not_iterable w s
integer_in c k none s h = refl
integer_in c k (bool a) s h = refl
integer_in c k (integer a) s h = refl
integer_in c k (text as') s h = absurd (cc)
integer_in c k (range x y z) s h = absurd (cc)
integer_in c k (builtin a) s h = refl
integer_in c k (class a) s h = refl
integer_in c k (node a) s h = absurd (cc)

range_in : (c : Comparison) (i j k : ℤ) (w : Value) (s : Moment) → IsTrue (is_plain w) → member c (range i j k) w s ≡ not_iterable w s
range_in c i j k none s h = refl
range_in c i j k (bool a) s h = refl
range_in c i j k (integer a) s h = refl
range_in c i j k (text as') s h = absurd (cc)
range_in c i j k (range x y z) s h = absurd (cc)
range_in c i j k (builtin a) s h = refl
range_in c i j k (class a) s h = refl
range_in c i j k (node a) s h = absurd (cc)

builtin_in : (c : Comparison) (n : ℕ) (w : Value) (s : Moment) → IsTrue (is_plain w) → member c (builtin n) w s ≡ not_iterable w s
builtin_in c n none s h = refl
builtin_in c n (bool a) s h = refl
builtin_in c n (integer a) s h = refl
builtin_in c n (text as') s h = absurd (cc)
builtin_in c n (range x y z) s h = absurd (cc)
builtin_in c n (builtin a) s h = refl
builtin_in c n (class a) s h = refl
builtin_in c n (node a) s h = absurd (cc)

class_in : (c : Comparison) (n : ℕ) (w : Value) (s : Moment) → IsTrue (is_plain w) → member c (class n) w s ≡ not_iterable w s
class_in c n none s h = refl
class_in c n (bool a) s h = refl
class_in c n (integer a) s h = refl
class_in c n (text as') s h = absurd (cc)
class_in c n (range x y z) s h = absurd (cc)
class_in c n (builtin a) s h = refl
class_in c n (class a) s h = refl
class_in c n (node a) s h = absurd (cc)

node_in : (c : Comparison) (n : ℕ) (w : Value) (s : Moment) → IsTrue (is_plain w) → member c (node n) w s ≡ not_iterable w s
node_in c n none s h = refl
node_in c n (bool a) s h = refl
node_in c n (integer a) s h = refl
node_in c n (text as') s h = absurd (cc)
node_in c n (range x y z) s h = absurd (cc)
node_in c n (builtin a) s h = refl
node_in c n (class a) s h = refl
node_in c n (node a) s h = absurd (cc)

text_in : (c : Comparison) (cs : List ℕ) (w : Value) (s : Moment) → IsTrue (is_plain w) → member c (text cs) w s ≡ not_iterable w s
text_in c cs none s h = refl
text_in c cs (bool a) s h = refl
text_in c cs (integer a) s h = refl
text_in c cs (text as') s h = absurd (cc)
text_in c cs (range x y z) s h = absurd (cc)
text_in c cs (builtin a) s h = refl
text_in c cs (class a) s h = refl
text_in c cs (node a) s h = absurd (cc)

pub member_plain : (c : Comparison) (v w : Value) (s : Moment) → IsTrue (is_plain w) → member c v w s ≡ not_iterable w s
member_plain c none w s h = none_in c w s h
member_plain c (bool b) w s h = bool_in c b w s h
member_plain c (integer z) w s h = integer_in c z w s h
member_plain c (text cs) w s h = text_in c cs w s h
member_plain c (range i j k) w s h = range_in c i j k w s h
member_plain c (builtin n) w s h = builtin_in c n w s h
member_plain c (class n) w s h = class_in c n w s h
member_plain c (node n) w s h = node_in c n w s h
