-- The states that cells lead from and to: what holds of each value, each node, and the names (Python Language Reference 3, "Data model"; Library Reference, "Built-in Types").
use Rattle.std.specs.Prelude.{◌≡◌, ℕ, ◌<◌, ◌≤◌, pos, Bool, IsTrue, IsFalse, List, [], ◌∷◌, length, map}
use Rattle.std.specs.List.{AllByRecursion, list_any}
use Rattle.std.specs.List.Sorted.{IsStrictlySortedBy}
use Rattle.std.specs.Cmp.Lexicographic.{slice_cmp}
use Rattle.std.specs.Ordering.{nat_cmp, int_eq}
use Rattle.std.specs.Str.{IsUtf8, all_scalars, bytes_eq}
use Rattle.kishu_language.specs.Limits.{longest_text}
use Rattle.kishu_language.specs.declared.profile.Profile.{Profile}
use Rattle.kishu_language.specs.tokens.Names.{is_name}
use Rattle.kishu_language.specs.trees.Tree.{Text, Definition}
use Rattle.kishu_language.specs.reading.ReadText.{ReadsDef}
use Rattle.kishu_meaning.specs.values.Keys.{KeyPart, Key, is_one}
use Rattle.kishu_meaning.specs.values.Keys as k
use Rattle.kishu_meaning.specs.values.Numbers.{is_whole}
use Rattle.kishu_meaning.specs.values.Sound.{builtins, classes, is_exception_class, default_count}
use Rattle.kishu_meaning.specs.values.Values.{Value, none, bool, integer, text, range, builtin, class, node, Node, list, tuple, dict, object, function, exception, Names, State}

-- ---- values

-- among k nodes: a whole number lies in -2^127 to 2^127-1, a text's code points are Unicode scalar values, a range has a step, builtin functions and classes exist, and a node's number is that of a node
abbrev pub IsValue : ℕ → Value → Type 0
IsValue k none = Unit {0}
IsValue k (bool b) = Unit {0}
IsValue k (integer z) = IsTrue (is_whole z)
IsValue k (text cs) = IsTrue (all_scalars cs)
IsValue k (range a b c) = IsTrue (is_whole a) × IsTrue (is_whole b) × IsTrue (is_whole c) × IsFalse (int_eq c (pos 0))
IsValue k (builtin n) = n < builtins
IsValue k (class n) = n < classes
IsValue k (node i) = i < k

abbrev pub AreValues : ℕ → List Value → Type 0
AreValues k = AllByRecursion (IsValue k)

-- ---- keys and names

abbrev pub IsKeyPart : KeyPart → Type 0
IsKeyPart k.none = Unit {0}
IsKeyPart (k.bool b) = Unit {0}
IsKeyPart (k.integer z) = IsTrue (is_whole z)
IsKeyPart (k.text cs) = IsTrue (all_scalars cs)

abbrev pub IsKey : Key → Type 0
IsKey (k.single p) = IsKeyPart p
IsKey (k.tuple ps) = AllByRecursion IsKeyPart ps

-- No two of them are one.
abbrev pub AreApart : {K : Type 0} → (K → K → Bool) → List K → Type 0
AreApart is_key [] = Unit {0}
AreApart is_key (x ∷ xs) = IsFalse (list_any (is_key x) xs) × AreApart is_key xs

abbrev pub IsName : List ℕ → Type 0
IsName x = IsTrue (is_name x)

abbrev pub keys_in : {K : Type 0} → List (K × Value) → List K
keys_in es = map (λ e. e.0) es

abbrev pub values_in : {K : Type 0} → List (K × Value) → List Value
values_in es = map (λ e. e.1) es

-- ---- nodes

-- The code of a function: a text of at most 1,048,576 bytes that reads as the function and as nothing else, which has so many defaults.
pub record IsCode (profile : Profile) (code : Text) (defaults : ℕ) : Type 0 where
  pub utf8 : IsUtf8 code
  pub short : length code ≤ longest_text
  pub function : Definition
  pub reads : ReadsDef profile code function
  pub filled : defaults ≡ default_count function

-- among k nodes: the keys of a dict are keys and no two of them are one, the attributes of an object are names and differ, a function has a value for each of its defaults, and an exception is of a class of exceptions
abbrev pub IsNode : ℕ → Node → Type 0
IsNode k (list vs) = AreValues k vs
IsNode k (tuple vs) = AreValues k vs
IsNode k (dict es) = AllByRecursion IsKey (keys_in es) × AreApart is_one (keys_in es) × AreValues k (values_in es)
IsNode k (object as') = AllByRecursion IsName (keys_in as') × AreApart bytes_eq (keys_in as') × AreValues k (values_in as')
IsNode k (function profile code vs) = IsCode profile code (length vs) × AreValues k vs
IsNode k (exception kind vs) = IsTrue (is_exception_class kind) × AreValues k vs

-- ---- states

-- among k nodes: what is bound are names, in byte order and each once, to values
pub record AreNames (k : ℕ) (ns : Names) : Type 0 where
  pub titles : AllByRecursion IsName (keys_in ns)
  pub rise : IsStrictlySortedBy (slice_cmp nat_cmp) (keys_in ns)
  pub values : AreValues k (values_in ns)

-- Names and nodes lead to nodes that are there.
pub record IsState (s : State) : Type 0 where
  pub names : AreNames (length s.nodes) s.names
  pub nodes : AllByRecursion (IsNode (length s.nodes)) s.nodes

-- ---- from one state to a later one

-- the text of a cell
abbrev pub IsCell : List ℕ → Type 0
IsCell cell = IsUtf8 cell × (length cell ≤ longest_text)

-- What a node may become: a list, a dict or an object may hold other things, and a tuple, a function and an exception stay.
pub data Stays : Node → Node → Type 0 where
  the_same : (n : Node) → Stays n n
  lists : (vs ws : List Value) → Stays (list vs) (list ws)
  dicts : (es fs : List (Key × Value)) → Stays (dict es) (dict fs)
  objects : (es fs : List (List ℕ × Value)) → Stays (object es) (object fs)

-- Old nodes keep their numbers, and new ones stand behind them.
abbrev pub Grown : List Node → List Node → Type 0
Grown [] ms = Unit {0}
Grown (n ∷ ns) [] = ⊥
Grown (n ∷ ns) (m ∷ ms) = Stays n m × Grown ns ms
