-- From a pairing of two states to what their runs begin with, and back.
use Rattle.std.specs.Prelude.{List, ℕ, length, slice_get, Some, zero, suc, ◌≡◌, ◌<◌, [], ◌∷◌, None, ◌≤◌, Option, map}
use Rattle.std.specs.List.{AllZip}
use Rattle.std.proofs.Common.{arith, refl, sym, ◌∙◌, subst, ap}
use Rattle.kishu_meaning.specs.values.Keys.{Key}
use Rattle.kishu_meaning.specs.values.Values.{Node, list, Value, node, none, dict, object, tuple, function, exception, State}
use Rattle.kishu_objects.specs.Pairings.{Pairs, Alike, bare}
use Rattle.kishu_objects.specs.Same.{BothOrNone}
use Rattle.kishu_objects.specs.Shape.{node_at, children}
use Rattle.kishu_pairing_laws.specs.World.{World, Paired, SameValue, paired, plain, IsPlain, SameValues, nil, cons, SameEntries, SameNode, lists, tuples, dicts, objects, functions, exceptions, BothOrNeither, neither, both, SameNames, SameHeaps}
use Rattle.kishu_pairing_laws.specs.moments.Heap.{paired_right, paired_left}

pub get_node : (ns : List Node) (i : ℕ) → i < length ns → slice_get ns i ≡ Some (node_at ns i)
get_node [] i h = absurd (omega arith)
get_node (n ∷ ns) zero h = refl
get_node (n ∷ ns) (suc i) h = get_node ns i (omega arith)

pub no_node : (ns : List Node) (i : ℕ) → length ns ≤ i → slice_get ns i ≡ None
no_node [] i h = refl
no_node (n ∷ ns) zero h = absurd (omega arith)
no_node (n ∷ ns) (suc i) h = no_node ns i (omega arith)

got_node : (ns : List Node) (i : ℕ) (n : Node) → slice_get ns i ≡ Some n → node_at ns i ≡ n
got_node [] i n e = absurd (cc)
got_node (m ∷ ns) zero n e = cc
got_node (m ∷ ns) (suc i) n e = got_node ns i n e

missed_node : (ns : List Node) (i : ℕ) → slice_get ns i ≡ None → node_at ns i ≡ list []
missed_node [] i e = refl
missed_node (m ∷ ns) zero e = absurd (cc)
missed_node (m ∷ ns) (suc i) e = missed_node ns i e

got_by : (ns ms : List Node) (i : ℕ) (o : Option Node) → slice_get ns i ≡ o → slice_get ms i ≡ o → node_at ns i ≡ node_at ms i
got_by ns ms i (Some n) e f = got_node ns i n e ∙ sym (got_node ms i n f)
got_by ns ms i None e f = missed_node ns i e ∙ sym (missed_node ms i f)

pub got_same : (ns ms : List Node) (i : ℕ) → slice_get ns i ≡ slice_get ms i → node_at ns i ≡ node_at ms i
got_same ns ms i e = got_by ns ms i (slice_get ms i) e refl

module _ (W : World) where
  same_of : (v w : Value) → Alike (Paired W) v w → SameValue W v w
  same_of (node i) (node j) h = paired i j h
  same_of (node i) w h = absurd h
  same_of v (node j) h = absurd h
  same_of v w h = subst (SameValue W v) h (plain v tt)

  plain_alike : (v : Value) → IsPlain v → Alike (Paired W) v v
  plain_alike (node i) p = absurd p
  plain_alike v p = refl

  alike_of : {v w : Value} → SameValue W v w → Alike (Paired W) v w
  alike_of (plain v p) = plain_alike v p
  alike_of (paired i j p) = p

  all_of : (vs ws : List Value) → AllZip (Alike (Paired W)) vs ws → SameValues W vs ws
  all_of [] [] h = nil
  all_of (v ∷ vs) (w ∷ ws) h = cons (same_of v w h.0) (all_of vs ws h.1)
  all_of [] (w ∷ ws) h = absurd h
  all_of (v ∷ vs) [] h = absurd h

  zip_of : {vs ws : List Value} → SameValues W vs ws → AllZip (Alike (Paired W)) vs ws
  zip_of nil = tt
  zip_of (cons h z) = (alike_of h, zip_of z)

  module _ {K : Type 0} where
    abbrev blank : List (K × Value) → List (K × Value)
    blank es = map {B = K × Value} (λ (e : K × Value). (e.0, none)) es

    abbrev kids : List (K × Value) → List Value
    kids es = map (λ (e : K × Value). e.1) es

    first_key : K × Value → List (K × Value) → K
    first_key d [] = d.0
    first_key d (e ∷ es) = e.0

    rest_of : List (K × Value) → List (K × Value)
    rest_of [] = []
    rest_of (e ∷ es) = es

    entries_of : (es fs : List (K × Value)) → blank es ≡ blank fs → AllZip (Alike (Paired W)) (kids es) (kids fs) → SameEntries W es fs
    unfolding first_key rest_of
    entries_of [] [] e h = nil
    entries_of (x ∷ es) (y ∷ fs) e h = cons (ap (first_key x) e, same_of x.1 y.1 h.0) (entries_of es fs (ap rest_of e) h.1)
    entries_of [] (y ∷ fs) e h = absurd h
    entries_of (x ∷ es) [] e h = absurd h

    blanks_is : {es fs : List (K × Value)} → SameEntries W es fs → blank es ≡ blank fs
    blanks_is nil = refl
    blanks_is (cons {a = x} {b = y} {as' = es} h z) = ap {B = List (K × Value)} (λ (k : K). (k, none) ∷ blank es) h.0 ∙ ap {B = List (K × Value)} (λ l. (y.0, none) ∷ l) (blanks_is z)

    kids_of : {es fs : List (K × Value)} → SameEntries W es fs → AllZip (Alike (Paired W)) (kids es) (kids fs)
    kids_of nil = tt
    kids_of (cons h z) = (alike_of h.1, kids_of z)

  entries_in : Node → List (Key × Value)
  entries_in (dict es) = es
  entries_in _ = []

  attributes_in : Node → List (List ℕ × Value)
  attributes_in (object es) = es
  attributes_in _ = []

  pub node_of : (m n : Node) → bare m ≡ bare n → AllZip (Alike (Paired W)) (children m) (children n) → SameNode W m n
  unfolding entries_in attributes_in
  node_of (list vs) (list ws) e h = lists (all_of vs ws h)
  node_of (tuple vs) (tuple ws) e h = tuples (all_of vs ws h)
  node_of (dict es) (dict fs) e h = dicts (entries_of es fs (ap entries_in e) h)
  node_of (object es) (object fs) e h = objects (entries_of es fs (ap attributes_in e) h)
  node_of (function profile code vs) (function profile' code' ws) e h =
      let p : profile ≡ profile' = cc in let c : code ≡ code' = cc in
      subst (λ q. SameNode W (function profile code vs) (function q code' ws)) p (subst (λ d. SameNode W (function profile code vs) (function profile d ws)) c (functions profile code (all_of vs ws h)))
  node_of (exception kind vs) (exception kind' ws) e h = let k : kind ≡ kind' = cc in subst (λ d. SameNode W (exception kind vs) (exception d ws)) k (exceptions kind (all_of vs ws h))
  node_of m n e h = absurd (cc)

  nones : {vs ws : List Value} → SameValues W vs ws → map (λ (v : Value). none) vs ≡ map (λ (v : Value). none) ws
  nones nil = refl
  nones (cons h z) = ap (λ l. none ∷ l) (nones z)

  bares_is : {m n : Node} → SameNode W m n → bare m ≡ bare n
  bares_is (lists z) = ap list (nones z)
  bares_is (tuples z) = ap tuple (nones z)
  bares_is (dicts z) = ap dict (blanks_is z)
  bares_is (objects z) = ap object (blanks_is z)
  bares_is (functions profile code z) = ap (function profile code) (nones z)
  bares_is (exceptions kind z) = ap (exception kind) (nones z)

  children_of : {m n : Node} → SameNode W m n → AllZip (Alike (Paired W)) (children m) (children n)
  children_of (lists z) = zip_of z
  children_of (tuples z) = zip_of z
  children_of (dicts z) = kids_of z
  children_of (objects z) = kids_of z
  children_of (functions profile code z) = zip_of z
  children_of (exceptions kind z) = zip_of z

  pub opt_of : (o p : Option Value) → BothOrNone (Alike (Paired W)) o p → BothOrNeither (SameValue W) o p
  opt_of None None h = neither
  opt_of (Some v) (Some w) h = both (same_of v w h)
  opt_of None (Some w) h = absurd h
  opt_of (Some v) None h = absurd h

  both_of : {o p : Option Value} → BothOrNeither (SameValue W) o p → BothOrNone (Alike (Paired W)) o p
  both_of neither = tt
  both_of (both h) = alike_of h

  -- the nodes at two places, where they correspond
  abbrev AtBoth : (ns ms : List Node) → ℕ → ℕ → Type 0
  AtBoth ns ms i j = (bare (node_at ns i) ≡ bare (node_at ms j)) × AllZip (Alike (Paired W)) (children (node_at ns i)) (children (node_at ms j))

  at_both : (ns ms : List Node) (i j : ℕ) {o p : Option Node} → slice_get ns i ≡ o → slice_get ms j ≡ p → BothOrNeither (SameNode W) o p → AtBoth ns ms i j
  at_both ns ms i j e f neither = rw (missed_node ns i e, missed_node ms j f) (refl, tt)
  at_both ns ms i j e f (both {a = m} {b = n} h) = rw (got_node ns i m e, got_node ms j n f) (bares_is h, children_of h)

  -- what corresponds is paired, by P and the new nodes
  pub pairs_of : {s t : State} → SameNames W s.names t.names → SameHeaps W s.nodes t.nodes → Pairs (Paired W) W.N s t
  pairs_of {s = s} {t = t} n h = record {
    one_right = paired_right W;
    one_left = paired_left W;
    shows = λ i j p. (at_both s.nodes t.nodes i j refl refl (h.closed i j p)).0;
    leads_on = λ i j p. (at_both s.nodes t.nodes i j refl refl (h.closed i j p)).1;
    names = λ x m. both_of (n.bound x m);
  }
