-- When what two runs hold corresponds: values, nodes, and all else of a moment; and when two computations go alike.
use Rattle.std.specs.Prelude.{ℕ, List, length, ◌≡◌, ◌<◌, [], ◌∷◌, Option, None, Some, ◌+◌, ◌≤◌, ◌⊎◌, slice_get, map}
use Rattle.kishu_language.specs.declared.profile.Profile.{Profile}
use Rattle.kishu_meaning.specs.moments.Moment.{Thrown, fresh, thrown_object, Locals, Moment, Ends, fine, raised, stopped, M}
use Rattle.kishu_meaning.specs.values.Keys.{Key}
use Rattle.kishu_meaning.specs.values.Values.{Node, Names, Value, node, list, tuple, dict, object, function, exception, find}
use Rattle.kishu_objects.specs.Lists.{In, Rise}

-- What two runs begin with: a pairing of nodes of the one with nodes of the other, the names that correspond, and the nodes and names at the start.
pub record World : Type 1 where
  -- the pairs of old nodes
  pub P : ℕ → ℕ → Type 0
  -- the names that correspond
  pub N : List ℕ → Type 0
  -- whether names stand in order
  pub Sorted : Type 0
  -- what both begin with
  pub nodes_here : List Node
  pub nodes_there : List Node
  pub names_here : Names
  pub names_there : Names
  -- P pairs nodes that are there, and it is one to one.
  pub left_in : (i j : ℕ) → P i j → i < length nodes_here
  pub right_in : (i j : ℕ) → P i j → j < length nodes_there
  pub one_right : (i j k : ℕ) → P i j → P i k → j ≡ k
  pub one_left : (i j k : ℕ) → P i k → P j k → i ≡ j

-- ---- lists and options

-- as many here as there, which correspond one by one
pub data Zip {A B : Type 0} (R : A → B → Type 0) : List A → List B → Type 0 where
  nil : Zip R [] []
  cons : {a : A} {b : B} {as' : List A} {bs : List B} → R a b → Zip R as' bs → Zip R (a ∷ as') (b ∷ bs)

-- something on both sides, or nothing
pub data BothOrNeither {A B : Type 0} (R : A → B → Type 0) : Option A → Option B → Type 0 where
  neither : BothOrNeither R None None
  both : {a : A} {b : B} → R a b → BothOrNeither R (Some a) (Some b)

-- the same on both sides
abbrev pub Is : {A : Type 0} → A → A → Type 0
Is a b = a ≡ b

-- where it doesn't matter what there is
abbrev pub Any : {A : Type 0} → A → A → Type 0
Any a b = Unit {0}

-- ---- values

-- A pair of P, or new nodes at one place of making, made yet or not.
abbrev pub Paired : World → ℕ → ℕ → Type 0
Paired W i j = W.P i j ⊎ (length W.nodes_here ≤ i) × (i + length W.nodes_there ≡ j + length W.nodes_here)

-- a value that is no node
abbrev pub IsPlain : Value → Type 0
IsPlain (node i) = ⊥
IsPlain _ = Unit {0}

-- Values that correspond are one plain value, or paired nodes.
pub data SameValue (W : World) : Value → Value → Type 0 where
  plain : (v : Value) → IsPlain v → SameValue W v v
  paired : (i j : ℕ) → Paired W i j → SameValue W (node i) (node j)

abbrev pub SameValues : World → List Value → List Value → Type 0
SameValues W = Zip (SameValue W)

abbrev pub SameEntry : World → {K : Type 0} → K × Value → K × Value → Type 0
SameEntry W e f = (e.0 ≡ f.0) × SameValue W e.1 f.1

-- under equal keys
abbrev pub SameEntries : World → {K : Type 0} → List (K × Value) → List (K × Value) → Type 0
SameEntries W es fs = Zip (SameEntry W) es fs

-- Nodes that correspond are of one kind, and their values correspond in order.
pub data SameNode (W : World) : Node → Node → Type 0 where
  lists : {vs ws : List Value} → SameValues W vs ws → SameNode W (list vs) (list ws)
  tuples : {vs ws : List Value} → SameValues W vs ws → SameNode W (tuple vs) (tuple ws)
  dicts : {es fs : List (Key × Value)} → SameEntries W es fs → SameNode W (dict es) (dict fs)
  objects : {es fs : List (List ℕ × Value)} → SameEntries W es fs → SameNode W (object es) (object fs)
  functions : (profile : Profile) (code : List ℕ) {vs ws : List Value} → SameValues W vs ws → SameNode W (function profile code vs) (function profile code ws)
  exceptions : (kind : ℕ) {vs ws : List Value} → SameValues W vs ws → SameNode W (exception kind vs) (exception kind ws)

-- exceptions on their way
pub data SameThrown (W : World) : Thrown → Thrown → Type 0 where
  both_fresh : (kind : ℕ) {vs ws : List Value} → SameValues W vs ws → SameThrown W (fresh kind vs) (fresh kind ws)
  both_thrown : (i j : ℕ) → Paired W i j → SameThrown W (thrown_object i) (thrown_object j)

-- a function's own names and their values
pub record SameLocals (W : World) (f g : Locals) : Type 0 where
  pub own : f.own ≡ g.own
  pub values : SameEntries W f.values g.values

-- ---- moments

-- Nodes were added alone, as many here as there, and paired places hold corresponding nodes or none.
pub record SameHeaps (W : World) (ns ms : List Node) : Type 0 where
  pub base : length W.nodes_here ≤ length ns
  pub counts : length ns + length W.nodes_there ≡ length ms + length W.nodes_here
  pub closed : (i j : ℕ) → Paired W i j → BothOrNeither (SameNode W) (slice_get ns i) (slice_get ms j)
  -- old nodes outside the pairing stay
  pub left_stays : (i : ℕ) → i < length W.nodes_here → ((j : ℕ) → W.P i j → ⊥) → slice_get ns i ≡ slice_get W.nodes_here i
  pub right_stays : (j : ℕ) → j < length W.nodes_there → ((i : ℕ) → W.P i j → ⊥) → slice_get ms j ≡ slice_get W.nodes_there j

-- the names alone
abbrev pub titles : Names → List (List ℕ)
titles f = map (λ (b : List ℕ × Value). b.0) f

-- The names of which N holds correspond, and others are as at the start.
pub record SameNames (W : World) (f g : Names) : Type 0 where
  pub bound : (x : List ℕ) → W.N x → BothOrNeither (SameValue W) (find x f) (find x g)
  pub left_others : (x : List ℕ) → (W.N x → ⊥) → find x f ≡ find x W.names_here
  pub right_others : (x : List ℕ) → (W.N x → ⊥) → find x g ≡ find x W.names_there
  pub left_rise : W.Sorted → Rise (titles f)
  pub right_rise : W.Sorted → Rise (titles g)

-- All that is at hand corresponds, and all that no node stands in is equal.
pub record SameMoment (W : World) (s t : Moment) : Type 0 where
  pub profile : s.profile ≡ t.profile
  pub names : SameNames W s.names t.names
  pub heaps : SameHeaps W s.nodes t.nodes
  pub accessed : s.accessed ≡ t.accessed
  pub locals : BothOrNeither (SameLocals W) s.locals t.locals
  pub handled : BothOrNeither (SameValue W) s.handled t.handled
  pub left : s.left ≡ t.left
  pub depth : s.depth ≡ t.depth
  pub out : s.out ≡ t.out

-- ---- computations

-- Both end in one way, in corresponding moments.
pub data SameEnds (W : World) {A B : Type 0} (R : A → B → Type 0) : Ends A → Ends B → Type 0 where
  both_fine : {a : A} {b : B} {s t : Moment} → R a b → SameMoment W s t → SameEnds W R (fine a s) (fine b t)
  both_raised : {x y : Thrown} {s t : Moment} → SameThrown W x y → SameMoment W s t → SameEnds W R (raised x s) (raised y t)
  both_stopped : {s t : Moment} → SameMoment W s t → SameEnds W R (stopped s) (stopped t)

-- the moment at the end
abbrev pub end_of : {A : Type 0} → Ends A → Moment
end_of (fine a s) = s
end_of (raised x s) = s
end_of (stopped s) = s

-- no access leaves N
abbrev pub Within : World → {A : Type 0} → Ends A → Type 0
Within W e = (x : List ℕ) → In x (end_of e).accessed → W.N x

-- What is accessed stays recorded.
pub record Grows {A : Type 0} (m : M A) : Type 0 where
  pub grows : (s : Moment) (x : List ℕ) → In x s.accessed → In x (end_of (m s)).accessed

-- from corresponding moments, with no access outside N, to corresponding ends
pub record GoAlike (W : World) {A B : Type 0} (R : A → B → Type 0) (m : M A) (n : M B) : Type 0 where
  pub go : (s t : Moment) → SameMoment W s t → Within W (m s) → SameEnds W R (m s) (n t)

-- the same, where no name is looked at: no premise on accesses is needed, and none is recorded
pub record GoQuietly (W : World) {A B : Type 0} (R : A → B → Type 0) (m : M A) (n : M B) : Type 0 where
  pub go : (s t : Moment) → SameMoment W s t → SameEnds W R (m s) (n t)
  pub stays : (s t : Moment) → SameMoment W s t → (end_of (m s)).accessed ≡ s.accessed
