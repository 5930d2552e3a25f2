-- Names that are read, bound and deleted keep node numbers those of nodes.
use Rattle.std.specs.Prelude.{ℕ, List, Some, Bool, Option, true, false, if◌then◌else◌, [], ◌∷◌, None, is_some}
use Rattle.std.specs.Cmp.Lexicographic.{slice_cmp}
use Rattle.std.specs.Ordering.{match_ordering, nat_cmp}
use Rattle.std.specs.Str.{bytes_eq}
use Rattle.std.specs.declared.cmp.Ordering.TheVariants.{Less, Equal, Greater}
use Rattle.std.proofs.Common.{Ordering, arith}
use Rattle.kishu_language.specs.tokens.Names.{place_among, is_among}
use Rattle.kishu_meaning.specs.moments.Accesses.{unbind, with_access}
use Rattle.kishu_meaning.specs.moments.Moment.{Moment, Locals, or_class, or_builtin, or_other, M, fine, name_error, unbound_local, read_global, or_unbound, read_in, bind_global, bind_local, bind_in, delete_global, delete_in, read, assign, delete}
use Rattle.kishu_meaning.specs.values.BuiltinNames.{class_names, builtin_names}
use Rattle.kishu_meaning.specs.values.Values.{Names, find, Value, bind, class, builtin}
use Rattle.kishu_soundness_laws.specs.Below.{EntriesBelow, Below, Maybe, Any, values_in}
use Rattle.kishu_soundness_laws.specs.BelowLaws.{below_later, all_later}
use Rattle.kishu_soundness_laws.specs.moments.Steps.{IsGood, IsSafe, value_safe, raise_safe, EndsSafe, ends_fine, ends_raised, if_safe, asking_safe}
use Rattle.kishu_soundness_laws.specs.values.Nodes.{MaybeBelow}
use Rattle.kishu_soundness_laws.specs.values.Lists.{maybe_if, entries_if}

pub found_below : (k : ℕ) (x : List ℕ) (ns : Names) → EntriesBelow k ns → MaybeBelow k (find x ns)
found_below k x [] h = tt
found_below k x (b ∷ ns) h = maybe_if (Below k) (bytes_eq x b.0) (Some b.1) (find x ns) h.0 (found_below k x ns h.1)

ordered_below : (k : ℕ) (o : Ordering) (f g h : Names) → EntriesBelow k f → EntriesBelow k g → EntriesBelow k h → EntriesBelow k (match_ordering o f g h)
ordered_below k Less f g h a b c = a
ordered_below k Equal f g h a b c = b
ordered_below k Greater f g h a b c = c

pub bound_below : (k : ℕ) (x : List ℕ) (v : Value) (ns : Names) → Below k v → EntriesBelow k ns → EntriesBelow k (bind x v ns)
bound_below k x v [] p h = (p, tt)
bound_below k x v (b ∷ ns) p h = ordered_below k (slice_cmp nat_cmp x b.0) ((x, v) ∷ b ∷ ns) ((x, v) ∷ ns) (b ∷ bind x v ns) (p, h) (p, h.1) (h.0, bound_below k x v ns p h.1)

pub unbound_below : (k : ℕ) (x : List ℕ) (ns : Names) → EntriesBelow k ns → EntriesBelow k (unbind x ns)
unbound_below k x [] h = tt
unbound_below k x (b ∷ ns) h = entries_if k (bytes_eq x b.0) ns (b ∷ unbind x ns) h.1 (h.0, unbound_below k x ns h.1)

pub with_names : {l : ℕ} {s : Moment} (f : Names) (xs : List (List ℕ)) → EntriesBelow l f → IsGood l s → IsGood l (record s { names = f; accessed = xs })
with_names f xs h g = record { many = g.many; nodes = g.nodes; names = h; locals = g.locals; handled = g.handled }

pub with_locals : {l : ℕ} {s : Moment} (o : Option Locals) → Maybe (λ (here : Locals). EntriesBelow l here.values) o → IsGood l s → IsGood l (record s { locals = o })
with_locals o h g = record { many = g.many; nodes = g.nodes; names = g.names; locals = h; handled = g.handled }

or_class_safe : {k : ℕ} (x : List ℕ) (o : Option ℕ) → IsSafe k Below (or_class x o)
or_class_safe x (Some m) = value_safe (class m) tt
or_class_safe x None = raise_safe _ _

or_builtin_safe : {k : ℕ} (x : List ℕ) (o : Option ℕ) → IsSafe k Below (or_builtin x o)
or_builtin_safe x (Some m) = value_safe (builtin m) tt
or_builtin_safe x None = or_class_safe x (place_among x class_names)

or_other_safe : {k : ℕ} (x : List ℕ) (o : Option Value) → MaybeBelow k o → IsSafe k Below (or_other x o)
or_other_safe x (Some v) h = value_safe v h
or_other_safe x None h = or_builtin_safe x (place_among x builtin_names)

-- a name taken out, or what is raised in its place
abbrev pub taking_global : List ℕ → Bool → M (Unit {0})
taking_global x b s = if b then fine tt (record s { names = unbind x s.names }) else name_error x s

abbrev pub taking_local : List ℕ → Locals → Bool → M (Unit {0})
taking_local x here b s = if b then fine tt (record s { locals = Some (record here { values = unbind x here.values }) }) else unbound_local x s

taken_ends : (x : List ℕ) (b : Bool) (l : ℕ) (s : Moment) → IsGood l s → EndsSafe l Any (taking_global x b s)
taken_ends x true l s g = ends_fine l (omega arith) tt (with_names (unbind x s.names) s.accessed (unbound_below l x s.names g.names) g)
taken_ends x false l s g = ends_raised l (omega arith) (tt, tt) g

local_ends : (x : List ℕ) (here : Locals) (b : Bool) (l : ℕ) (s : Moment) → EntriesBelow l here.values → IsGood l s → EndsSafe l Any (taking_local x here b s)
local_ends x here true l s h g = ends_fine l (omega arith) tt (with_locals (Some (record here { values = unbind x here.values })) (unbound_below l x here.values h) g)
local_ends x here false l s h g = ends_raised l (omega arith) (tt, tt) g

module _ {k : ℕ} where
  read_global_safe : (x : List ℕ) → IsSafe k Below (read_global x)
  read_global_safe x = record { go = λ l le s g. (or_other_safe x (find x s.names) (found_below l x s.names g.names)).go l (omega arith) (record s { accessed = with_access x s.accessed }) (with_names s.names (with_access x s.accessed) g.names g) }

  or_unbound_safe : (x : List ℕ) (o : Option Value) → MaybeBelow k o → IsSafe k Below (or_unbound x o)
  or_unbound_safe x (Some v) h = value_safe v h
  or_unbound_safe x None h = raise_safe _ _

  read_in_safe : (x : List ℕ) (o : Option Locals) → Maybe (λ (here : Locals). EntriesBelow k here.values) o → IsSafe k Below (read_in x o)
  read_in_safe x None h = read_global_safe x
  read_in_safe x (Some here) h = if_safe (is_among x here.own) (or_unbound_safe x (find x here.values) (found_below k x here.values h)) (read_global_safe x)

  bind_global_safe : (x : List ℕ) (v : Value) → Below k v → IsSafe k Any (bind_global x v)
  bind_global_safe x v p = record { go = λ l le s g. ends_fine l (omega arith) tt (with_names (bind x v s.names) (with_access x s.accessed) (bound_below l x v s.names (below_later k l le v p) g.names) g) }

  bind_local_safe : (x : List ℕ) (v : Value) (here : Locals) → Below k v → EntriesBelow k here.values → IsSafe k Any (bind_local x v here)
  bind_local_safe x v here p h = record { go = λ l le s g. ends_fine l (omega arith) tt (with_locals (Some (record here { values = bind x v here.values })) (bound_below l x v here.values (below_later k l le v p) (all_later k l le (values_in here.values) h)) g) }

  bind_in_safe : (x : List ℕ) (v : Value) (o : Option Locals) → Below k v → Maybe (λ (here : Locals). EntriesBelow k here.values) o → IsSafe k Any (bind_in x v o)
  bind_in_safe x v None p h = bind_global_safe x v p
  bind_in_safe x v (Some here) p h = if_safe (is_among x here.own) (bind_local_safe x v here p h) (bind_global_safe x v p)

  delete_global_safe : (x : List ℕ) → IsSafe k Any (delete_global x)
  delete_global_safe x = record { go = λ l le s g. taken_ends x (is_some (find x s.names)) l (record s { accessed = with_access x s.accessed }) (with_names s.names (with_access x s.accessed) g.names g) }

  delete_in_safe : (x : List ℕ) (o : Option Locals) → Maybe (λ (here : Locals). EntriesBelow k here.values) o → IsSafe k Any (delete_in x o)
  delete_in_safe x None h = delete_global_safe x
  delete_in_safe x (Some here) h = if_safe (is_among x here.own) (record { go = λ l le s g. local_ends x here (is_some (find x here.values)) l s (all_later k l le (values_in here.values) h) g }) (delete_global_safe x)

module _ {k : ℕ} where
  pub read_safe : (x : List ℕ) → IsSafe k Below (read x)
  read_safe x = asking_safe (λ s. read_in x s.locals) (λ l s le g. read_in_safe x s.locals g.locals)

  pub assign_safe : (x : List ℕ) (v : Value) → Below k v → IsSafe k Any (assign x v)
  assign_safe x v p = asking_safe (λ s. bind_in x v s.locals) (λ l s le g. bind_in_safe x v s.locals (below_later k l le v p) g.locals)

  pub delete_safe : (x : List ℕ) → IsSafe k Any (delete x)
  delete_safe x = asking_safe (λ s. delete_in x s.locals) (λ l s le g. delete_in_safe x s.locals g.locals)
