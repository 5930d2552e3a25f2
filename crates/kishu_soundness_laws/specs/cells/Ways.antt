-- Ways out of a statement, loops, exceptions and handlers keep node numbers those of nodes.
use Rattle.std.specs.Prelude.{ℕ, List, Option, None, Some, ◌≤◌, codes, [], ◌∷◌, zero, suc}
use Rattle.std.proofs.Common.{arith}
use Rattle.kishu_language.specs.tokens.Names.{is_among}
use Rattle.kishu_meaning.specs.calls.Operators.{tuple_from}
use Rattle.kishu_meaning.specs.cells.Ways.{forget_global, forget_in, forget, Flow, returned, onward, object_of, no_exception, throw_object, is_exception, throw_value, throw_again, throw_caught, are_caught_by, caught_among, caught_by, is_caught, kind_of_thrown, go_on, broke, continued, turn_on, unless_left, turns, repeat, with_item, walk_on, walk_along, after_body, attempt, and_last, finally, handled_as, handling, bind_caught, forget_caught, handle}
use Rattle.kishu_meaning.specs.items.Walks.{Walk}
use Rattle.kishu_meaning.specs.moments.Accesses.{unbind, with_access}
use Rattle.kishu_meaning.specs.moments.Moment.{Locals, give, Thrown, fresh, thrown_object, node_now, ◌>>=◌, M, Ends, Moment}
use Rattle.kishu_meaning.specs.values.Sound.{is_exception_class}
use Rattle.kishu_meaning.specs.values.Values.{exception, node, Value, class}
use Rattle.kishu_soundness_laws.specs.Below.{Any, Maybe, EntriesBelow, values_in, Below, ThrownBelow}
use Rattle.kishu_soundness_laws.specs.BelowLaws.{all_later, below_later, thrown_later, maybe_later}
use Rattle.kishu_soundness_laws.specs.moments.Steps.{IsSafe, ends_fine, if_safe, asking_safe, give_safe, value_safe, raise_safe, bind_safe, node_now_safe, throw_safe, any_safe, plain_safe, look_any, exhausted_safe, then_safe, tick_safe, safe_later, by_left_safe, EndsSafe, ends_raised, ends_stopped, IsGood, ends_later}
use Rattle.kishu_soundness_laws.specs.moments.Heap.{make_safe}
use Rattle.kishu_soundness_laws.specs.values.Nodes.{MaybeBelow}
use Rattle.kishu_soundness_laws.specs.calls.Operators.{truth_safe}
use Rattle.kishu_soundness_laws.specs.items.Walks.{WalkBelow, item_for_safe}
use Rattle.kishu_soundness_laws.specs.moments.Names.{with_names, unbound_below, with_locals, assign_safe}

module _ {k : ℕ} where
  forget_global_safe : (x : List ℕ) → IsSafe k Any (forget_global x)
  forget_global_safe x = record { go = λ l le s g. ends_fine l (omega arith) tt (with_names (unbind x s.names) (with_access x s.accessed) (unbound_below l x s.names g.names) g) }

  forget_in_safe : (x : List ℕ) (o : Option Locals) → Maybe (λ (here : Locals). EntriesBelow k here.values) o → IsSafe k Any (forget_in x o)
  forget_in_safe x None h = forget_global_safe x
  forget_in_safe x (Some here) h = if_safe (is_among x here.own) (record { go = λ l le s g. ends_fine l (omega arith) tt (with_locals (Some (record here { values = unbind x here.values })) (unbound_below l x here.values (all_later k l le (values_in here.values) h)) g) }) (forget_global_safe x)

module _ {k : ℕ} where
  forget_safe : (x : List ℕ) → IsSafe k Any (forget x)
  forget_safe x = asking_safe (λ s. forget_in x s.locals) (λ l s le g. forget_in_safe x s.locals g.locals)

-- ---- flows and exceptions

abbrev pub FlowBelow : ℕ → Flow → Type 0
FlowBelow k (returned v) = Below k v
FlowBelow k _ = Unit {0}

flow_later : (k l : ℕ) → k ≤ l → (f : Flow) → FlowBelow k f → FlowBelow l f
flow_later k l h (returned v) p = below_later k l h v p
flow_later k l h f p = tt

pub give_flow_safe : {k : ℕ} (f : Flow) → FlowBelow k f → IsSafe k FlowBelow (give f)
give_flow_safe {k = k} f h = give_safe FlowBelow (λ l le. flow_later k l le f h)

pub onward_safe : {k : ℕ} → IsSafe k FlowBelow (give onward)
onward_safe = give_flow_safe onward tt

object_of_safe : {k : ℕ} (x : Thrown) → ThrownBelow k x → IsSafe k Below (object_of x)
object_of_safe (fresh kind vs) h = make_safe (exception kind vs) h
object_of_safe (thrown_object i) h = value_safe (node i) h

no_exception_safe : {A : Type 0} {k : ℕ} {Q : ℕ → A → Type 0} → IsSafe k Q no_exception
no_exception_safe = raise_safe _ (codes "exceptions must be exception classes or objects")

throw_object_safe : {A : Type 0} {k : ℕ} {Q : ℕ → A → Type 0} (v : Value) → Below k v → IsSafe k Q (throw_object v)
throw_object_safe {k = k} (node i) h = bind_safe (node_now_safe (node i)) (λ l le o q. if_safe (is_exception o) (throw_safe (thrown_object i) (below_later k l le (node i) h)) no_exception_safe)
throw_object_safe v h = raise_safe _ _

pub throw_value_safe : {A : Type 0} {k : ℕ} {Q : ℕ → A → Type 0} (v : Value) → Below k v → IsSafe k Q (throw_value v)
throw_value_safe (class m) h = if_safe (is_exception_class m) (bind_safe (make_safe (exception m []) tt) (λ l le v q. throw_object_safe v q)) no_exception_safe
throw_value_safe (node i) h = throw_object_safe (node i) h
throw_value_safe v h = raise_safe _ _

pub throw_again_safe : {A : Type 0} {k : ℕ} {Q : ℕ → A → Type 0} → IsSafe k Q throw_again
throw_again_safe {Q = Q} = asking_safe (λ s. throw_caught s.handled) (λ l s le g. caught_safe s.handled g.handled)
  where
    caught_safe : {l : ℕ} (o : Option Value) → MaybeBelow l o → IsSafe l Q (throw_caught o)
    caught_safe (Some v) h = throw_object_safe v h
    caught_safe None h = raise_safe _ _

are_caught_safe : {k : ℕ} (kind : ℕ) (vs : List Value) → IsSafe k Any (are_caught_by kind vs)
are_caught_safe kind vs = if_safe _ any_safe (raise_safe _ _)

among_safe : {k : ℕ} (kind : ℕ) (o : Option (List Value)) → IsSafe k Any (caught_among kind o)
among_safe kind (Some vs) = are_caught_safe kind vs
among_safe kind None = raise_safe _ _

caught_rest : {k : ℕ} (kind : ℕ) (v : Value) → IsSafe k Any (node_now v >>= λ found. caught_among kind (tuple_from found))
caught_rest kind v = bind_safe (node_now_safe v) (λ l le o q. among_safe kind (tuple_from o))

caught_by_safe : {k : ℕ} (kind : ℕ) (v : Value) → IsSafe k Any (caught_by kind v)
caught_by_safe kind (class m) = are_caught_safe kind (class m ∷ [])
caught_by_safe kind v = caught_rest kind v

pub is_caught_safe : {k : ℕ} (x : Thrown) (v : Value) → IsSafe k Any (is_caught x v)
is_caught_safe x v = plain_safe (look_any (λ ns. kind_of_thrown ns x)) (λ kind. caught_by_safe kind v)

-- ---- loops and ways out

pub go_on_safe : {k : ℕ} (f : Flow) {m : M Flow} → FlowBelow k f → IsSafe k FlowBelow m → IsSafe k FlowBelow (go_on f m)
go_on_safe onward h e = e
go_on_safe broke h e = give_flow_safe broke tt
go_on_safe continued h e = give_flow_safe continued tt
go_on_safe (returned v) h e = give_flow_safe (returned v) h

turn_on_safe : {k : ℕ} (f : Flow) {m : M Flow} → FlowBelow k f → IsSafe k FlowBelow m → IsSafe k FlowBelow (turn_on f m)
turn_on_safe onward h e = e
turn_on_safe broke h e = onward_safe
turn_on_safe continued h e = e
turn_on_safe (returned v) h e = give_flow_safe (returned v) h

unless_safe : {k : ℕ} (f : Flow) {m : M Flow} → FlowBelow k f → IsSafe k FlowBelow m → IsSafe k FlowBelow (unless_left f m)
unless_safe onward h e = e
unless_safe broke h e = give_flow_safe broke tt
unless_safe continued h e = give_flow_safe continued tt
unless_safe (returned v) h e = give_flow_safe (returned v) h

turns_safe : {k : ℕ} (m : ℕ) {test : M Value} {body : M Flow} → IsSafe k Below test → IsSafe k FlowBelow body → IsSafe k FlowBelow (turns m test body)
turns_safe zero h e = exhausted_safe
turns_safe (suc m) h e = bind_safe h (λ l le v q. plain_safe (truth_safe v) (λ b. if_safe b (bind_safe (then_safe tick_safe (safe_later le e)) (λ l' le' f r. turn_on_safe f r (safe_later le' (safe_later le (turns_safe m h e))))) onward_safe))

pub repeat_safe : {k : ℕ} {test : M Value} {body : M Flow} → IsSafe k Below test → IsSafe k FlowBelow body → IsSafe k FlowBelow (repeat test body)
repeat_safe {test = test} {body = body} h e = by_left_safe (λ m. turns m test body) (λ m. turns_safe m h e)

with_item_safe : {k : ℕ} (o : Option Value) {turn : Value → M Flow} → MaybeBelow k o → ((v : Value) → Below k v → IsSafe k FlowBelow (turn v)) → IsSafe k FlowBelow (with_item o turn)
with_item_safe (Some v) p h = then_safe tick_safe (h v p)
with_item_safe None p h = give_flow_safe broke tt

-- a turn is given at each number of nodes
abbrev TurnSafe : ℕ → (Value → M Flow) → Type 0
TurnSafe k turn = (l : ℕ) → k ≤ l → (v : Value) → Below l v → IsSafe l FlowBelow (turn v)

walk_on_safe : (k m : ℕ) (u : Walk) (i : ℕ) {turn : Value → M Flow} → WalkBelow k u → TurnSafe k turn → IsSafe k FlowBelow (walk_on m u i turn)
walk_on_safe k zero u i p h = exhausted_safe
walk_on_safe k (suc m) u i p h = bind_safe (item_for_safe u i p) (λ l le o q. bind_safe (with_item_safe o q (h l le)) (λ l' le' f r. turn_on_safe f r (safe_later le' (safe_later le (walk_on_safe k m u (suc i) p h)))))

pub walk_along_safe : (k : ℕ) (u : Walk) {turn : Value → M Flow} → WalkBelow k u → TurnSafe k turn → IsSafe k FlowBelow (walk_along u turn)
walk_along_safe k u {turn = turn} p h = by_left_safe (λ m. walk_on m u 0 turn) (λ m. walk_on_safe k m u 0 p h)

abbrev HandlerSafe : ℕ → (Thrown → M Flow) → Type 0
HandlerSafe k handler = (l : ℕ) → k ≤ l → (x : Thrown) → ThrownBelow l x → IsSafe l FlowBelow (handler x)

after_safe : {k l : ℕ} {e : Ends Flow} {handler : Thrown → M Flow} {other : M Flow} → k ≤ l → EndsSafe l FlowBelow e → HandlerSafe k handler → IsSafe k FlowBelow other → EndsSafe l FlowBelow (after_body e handler other)
after_safe kl (ends_fine n {a = onward} {s = s} le q g) h e = ends_later le (e.go n (omega (arith, kl, le)) s g)
after_safe kl (ends_fine n {a = broke} le q g) h e = ends_fine n le tt g
after_safe kl (ends_fine n {a = continued} le q g) h e = ends_fine n le tt g
after_safe kl (ends_fine n {a = returned v} le q g) h e = ends_fine n le q g
after_safe kl (ends_raised n {x = x} {s = s} le q g) h e = ends_later le ((h n (omega (arith, kl, le)) x q).go n (omega arith) s g)
after_safe kl (ends_stopped n le g) h e = ends_stopped n le g

pub attempt_safe : {k : ℕ} {body other : M Flow} {handler : Thrown → M Flow} → IsSafe k FlowBelow body → HandlerSafe k handler → IsSafe k FlowBelow other → IsSafe k FlowBelow (attempt body handler other)
attempt_safe b h e = record { go = λ l le s g. after_safe le (b.go l le s g) h e }

last_safe : {k l : ℕ} {e : Ends Flow} {last : M Flow} → k ≤ l → EndsSafe l FlowBelow e → IsSafe k FlowBelow last → EndsSafe l FlowBelow (and_last e last)
last_safe kl (ends_fine n {a = f} {s = s} le q g) h = ends_later le ((bind_safe (safe_later (omega (arith, kl, le)) h) (λ m le' f' r. unless_safe f' r (give_flow_safe f (flow_later n m le' f q)))).go n (omega arith) s g)
last_safe kl (ends_raised n {x = x} {s = s} le q g) h = ends_later le ((bind_safe (safe_later (omega (arith, kl, le)) h) (λ m le' f' r. unless_safe f' r (throw_safe x (thrown_later n m le' x q)))).go n (omega arith) s g)
last_safe kl (ends_stopped n le g) h = ends_stopped n le g

pub finally_safe : {k : ℕ} {body last : M Flow} → IsSafe k FlowBelow body → IsSafe k FlowBelow last → IsSafe k FlowBelow (finally body last)
finally_safe b h = record { go = λ l le s g. last_safe le (b.go l le s g) h }

with_handled : {l : ℕ} {s : Moment} (o : Option Value) → MaybeBelow l o → IsGood l s → IsGood l (record s { handled = o })
with_handled o h g = record { many = g.many; nodes = g.nodes; names = g.names; locals = g.locals; handled = h }

handled_ends : {A : Type 0} {k : ℕ} (Q : ℕ → A → Type 0) (o : Option Value) {e : Ends A} → MaybeBelow k o → EndsSafe k Q e → EndsSafe k Q (handled_as o e)
handled_ends {k = k} Q o h (ends_fine l le q g) = ends_fine l le q (with_handled o (maybe_later (Below k) (Below l) (below_later k l le) o h) g)
handled_ends {k = k} Q o h (ends_raised l le q g) = ends_raised l le q (with_handled o (maybe_later (Below k) (Below l) (below_later k l le) o h) g)
handled_ends {k = k} Q o h (ends_stopped l le g) = ends_stopped l le (with_handled o (maybe_later (Below k) (Below l) (below_later k l le) o h) g)

handling_safe : {k : ℕ} (v : Value) {m : M Flow} → Below k v → IsSafe k FlowBelow m → IsSafe k FlowBelow (handling v m)
handling_safe {k = k} v p h = record { go = λ l le s g. handled_ends FlowBelow s.handled g.handled (h.go l le (record s { handled = Some v }) (with_handled (Some v) (below_later k l le v p) g)) }

bind_caught_safe : {k : ℕ} (o : Option (List ℕ)) (v : Value) → Below k v → IsSafe k Any (bind_caught o v)
bind_caught_safe None v p = any_safe
bind_caught_safe (Some x) v p = assign_safe x v p

forget_caught_safe : {k : ℕ} (o : Option (List ℕ)) → IsSafe k Any (forget_caught o)
forget_caught_safe None = any_safe
forget_caught_safe (Some x) = forget_safe x

pub handle_safe : {k : ℕ} (o : Option (List ℕ)) {block : M Flow} → IsSafe k FlowBelow block → HandlerSafe k (handle o block)
handle_safe o h l le x p = bind_safe (object_of_safe x p) (λ m le' v q. then_safe (bind_caught_safe o v q) (finally_safe (handling_safe v q (safe_later le' (safe_later le h))) (then_safe (forget_caught_safe o) onward_safe)))
