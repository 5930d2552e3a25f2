-- Ways out, exceptions, loops and handlers keep what holds of every state.
use Rattle.std.specs.Prelude.{◌≡◌, ℕ, suc, ◌+◌, ◌<◌, ◌≤◌, if◌then◌else◌, List, [], ◌∷◌, codes, Option, Some, None}
use Rattle.std.proofs.Common.{refl, sym, subst, arith}
use Rattle.kishu_language.specs.declared.profile.Profile.{Profile}
use Rattle.kishu_meaning.specs.values.Sound.{is_exception_class}
use Rattle.kishu_meaning.specs.values.Values.{Value, class, node, Node, exception}
use Rattle.kishu_meaning.specs.moments.Moment.{Moment, Thrown, fresh, thrown_object, Ends, fine, raised, stopped, M, ◌>>=◌, ◌>>◌, give, throw, tick, node_now}
use Rattle.kishu_meaning.specs.calls.Operators.{tuple_from, truth}
use Rattle.kishu_meaning.specs.items.Walks.{Walk, item_for}
use Rattle.kishu_meaning.specs.cells.Ways.{Flow, onward, broke, continued, returned, turn_on, turns, repeat, with_item, walk_on, walk_along, kind_of_thrown, no_exception, is_exception, object_of, throw_object, throw_value, throw_caught, throw_again, after_body, attempt, unless_left, and_last, finally, are_caught_by, caught_among, caught_by, is_caught, bind_caught, forget_caught, handled_as, handling}
use Rattle.kishu_objects.specs.State.{IsValue, IsName}
use Rattle.kishu_pairing_laws.specs.World.{end_of}
use Rattle.kishu_state_laws.specs.Moments.{widest_budget}
use Rattle.kishu_state_laws.specs.Moments.{IsWalk}
use Rattle.kishu_state_laws.specs.keeping.Logic.{Maybe, Any, IsThrown, IsMoment, SafeEnds, fines, raiseds, stoppeds, more, more_good, WiderEnds, both_fine, both_raised, one_stopped, falls_in, Safe, safe_later, ends_later, bind_s, plain_s, give_s, any_s, value_s, throw_s, raise_s, if_s, when_s, asking_s, look_any, node_now_s, make_s, value_later, thrown_later, optional_later}
use Rattle.kishu_state_laws.specs.keeping.Leaves.{MaybeValue, truth_s}
use Rattle.kishu_state_laws.specs.keeping.Operating.{walk_later, item_for_s}
use Rattle.kishu_state_laws.specs.keeping.Loops.{Both, both_safe, if_both, bind_both, turn_both, loop_s}
use Rattle.kishu_state_laws.specs.keeping.Names.{assign_s, forget_s}

-- ---- ways out

abbrev pub IsFlow : ℕ → Flow → Type 0
IsFlow k (returned v) = IsValue k v
IsFlow k _ = Unit {0}

flow_later : (k l : ℕ) → k ≤ l → (f : Flow) → IsFlow k f → IsFlow l f
flow_later k l h (returned v) p = value_later k l h v p
flow_later k l h f p = tt

pub flow_s : {k : ℕ} (f : Flow) → IsFlow k f → Safe k IsFlow (give f)
flow_s {k = k} f h = give_s IsFlow (λ l le. flow_later k l le f h)

pub onward_s : {k : ℕ} → Safe k IsFlow (give onward)
onward_s = flow_s onward tt

-- ---- exceptions

pub object_of_s : {k : ℕ} (x : Thrown) → IsThrown k x → Safe k IsValue (object_of x)
object_of_s (fresh kind vs) h = make_s (exception kind vs) h (λ p. tt)
object_of_s (thrown_object i) h = value_s (node i) h

no_exception_s : {A : Type 0} {k : ℕ} {Q : ℕ → A → Type 0} → Safe k Q no_exception
no_exception_s = raise_s _ (codes "exceptions must be exception classes or objects") refl refl

throw_object_s : {A : Type 0} {k : ℕ} {Q : ℕ → A → Type 0} (v : Value) → IsValue k v → Safe k Q (throw_object v)
throw_object_s {k = k} (node i) h = bind_s (node_now_s (node i)) (λ l le o q. if_s (is_exception o) (throw_s (thrown_object i) (value_later k l le (node i) h)) no_exception_s)
throw_object_s v h = no_exception_s

pub throw_value_s : {A : Type 0} {k : ℕ} {Q : ℕ → A → Type 0} (v : Value) → IsValue k v → Safe k Q (throw_value v)
throw_value_s (class m) h = when_s (is_exception_class m) (λ e. bind_s (make_s (exception m []) (e, tt) (λ p. tt)) (λ l le v q. throw_object_s v q)) (λ e. no_exception_s)
throw_value_s (node i) h = throw_object_s (node i) h
throw_value_s v h = no_exception_s

pub throw_again_s : {A : Type 0} {k : ℕ} {Q : ℕ → A → Type 0} → Safe k Q throw_again
throw_again_s {Q = Q} = asking_s (λ s. throw_caught s.handled) (λ d s. refl) (λ l s le g. caught_s s.handled g.handled)
  where
    caught_s : {l : ℕ} (o : Option Value) → MaybeValue l o → Safe l Q (throw_caught o)
    caught_s (Some v) h = throw_object_s v h
    caught_s None h = no_exception_s

are_caught_s : {k : ℕ} (kind : ℕ) (vs : List Value) → Safe k Any (are_caught_by kind vs)
are_caught_s kind vs = if_s _ any_s no_exception_s

among_s : {k : ℕ} (kind : ℕ) (o : Option (List Value)) → Safe k Any (caught_among kind o)
among_s kind (Some vs) = are_caught_s kind vs
among_s kind None = no_exception_s

caught_rest : {k : ℕ} (kind : ℕ) (v : Value) → Safe k Any (node_now v >>= λ found. caught_among kind (tuple_from found))
caught_rest kind v = bind_s (node_now_s v) (λ l le o q. among_s kind (tuple_from o))

caught_by_s : {k : ℕ} (kind : ℕ) (v : Value) → Safe k Any (caught_by kind v)
caught_by_s kind (class m) = are_caught_s kind (class m ∷ [])
caught_by_s kind v = caught_rest kind v

pub is_caught_s : {k : ℕ} (x : Thrown) (v : Value) → Safe k Any (is_caught x v)
is_caught_s x v = plain_s (look_any (λ ns. kind_of_thrown ns x)) (λ kind. caught_by_s kind v)

-- ---- what follows a way out

unless_s : {k : ℕ} (f : Flow) {m : M Flow} → IsFlow k f → Safe k IsFlow m → Safe k IsFlow (unless_left f m)
unless_s onward h e = e
unless_s broke h e = flow_s broke tt
unless_s continued h e = flow_s continued tt
unless_s (returned v) h e = flow_s (returned v) h

-- ---- loops

turn_on_both : {k n n' : ℕ} (f : Flow) {m m' : M Flow} → IsFlow k f → Both n n' k IsFlow m m' → Both n n' k IsFlow (turn_on f m) (turn_on f m')
turn_on_both onward h e = e
turn_on_both broke h e = both_safe onward_s
turn_on_both continued h e = e
turn_on_both (returned v) h e = both_safe (flow_s (returned v) h)

abbrev turn_of : M Value → M Flow → M Flow → M Flow
turn_of test body m = test >>= λ v. truth v >>= λ b. if b then (tick >> body >>= λ f. turn_on f m) else give onward

while_both : {k n n' : ℕ} {test : M Value} {body m m' : M Flow} → Safe k IsValue test → Safe k IsFlow body → ((l : ℕ) → k ≤ l → Both n n' l IsFlow m m') → Both (suc n) (suc n') k IsFlow (turn_of test body m) (turn_of test body m')
while_both h e rest = bind_both (both_safe h) (λ l le v q. bind_both (both_safe (truth_s v)) (λ l1 le1 b r. if_both b (turn_both (safe_later le1 (safe_later le e)) (λ l2 le2 f t. turn_on_both f t (rest l2 (omega (arith, le, le1, le2))))) (both_safe onward_s)))

pub repeat_s : {k : ℕ} {test : M Value} {body : M Flow} → Safe k IsValue test → Safe k IsFlow body → Safe k IsFlow (repeat test body)
repeat_s {k = k} {test = test} {body = body} h e =
    loop_s {I = Unit {0}} IsFlow (λ l i. k ≤ l) (λ n i. turns n test body) (λ n n' l rest i p. while_both (safe_later p h) (safe_later p e) (λ j le. rest j le tt (omega (arith, p, le)))) k tt (omega arith)

-- a turn is given at each number of nodes
abbrev TurnSafe : ℕ → (Value → M Flow) → Type 0
TurnSafe k turn = (l : ℕ) → k ≤ l → (v : Value) → IsValue l v → Safe l IsFlow (turn v)

with_item_both : {k n n' : ℕ} (o : Option Value) {turn : Value → M Flow} {m m' : M Flow} → MaybeValue k o → ((v : Value) → IsValue k v → Safe k IsFlow (turn v)) → ((l : ℕ) → k ≤ l → Both n n' l IsFlow m m') → Both (suc n) (suc n') k IsFlow (with_item o turn >>= λ f. turn_on f m) (with_item o turn >>= λ f. turn_on f m')
with_item_both (Some v) q h rest = turn_both (h v q) (λ l le f t. turn_on_both f t (rest l le))
with_item_both None q h rest = both_safe onward_s

walk_both : {k n n' : ℕ} (u : Walk) (i : ℕ) {turn : Value → M Flow} {m m' : M Flow} → IsWalk k u → TurnSafe k turn → ((l : ℕ) → k ≤ l → Both n n' l IsFlow m m') → Both (suc n) (suc n') k IsFlow (item_for u i >>= λ found. with_item found turn >>= λ f. turn_on f m) (item_for u i >>= λ found. with_item found turn >>= λ f. turn_on f m')
walk_both u i p h rest = bind_both (both_safe (item_for_s u i p)) (λ l le o q. with_item_both o q (h l le) (λ j le'. rest j (omega (arith, le, le'))))

pub walk_along_s : (k : ℕ) (u : Walk) {turn : Value → M Flow} → IsWalk k u → TurnSafe k turn → Safe k IsFlow (walk_along u turn)
walk_along_s k u {turn = turn} p h =
    loop_s IsFlow (λ l i. k ≤ l) (λ n i. walk_on n u i turn) (λ n n' l rest i q. walk_both u i (walk_later k l q u p) (λ j le. h j (omega (arith, q, le))) (λ j le. rest j le (suc i) (omega (arith, q, le)))) k 0 (omega arith)

-- ---- handlers

abbrev HandlerSafe : ℕ → (Thrown → M Flow) → Type 0
HandlerSafe k handler = (l : ℕ) → k ≤ l → (x : Thrown) → IsThrown l x → Safe l IsFlow (handler x)

after_s : {k l n : ℕ} {ns : List Node} {deep : ℕ} {profile : Profile} {e : Ends Flow} {handler : Thrown → M Flow} {other : M Flow} → k ≤ l → SafeEnds l n ns deep profile IsFlow e → HandlerSafe k handler → Safe k IsFlow other → SafeEnds l n ns deep profile IsFlow (after_body e handler other)
after_s kl (fines n {a = onward} {s = s} le after q g) h e = ends_later s le after (e.go n (omega (arith, kl, le)) s g)
after_s kl (fines n {a = broke} le after q g) h e = fines n le after tt g
after_s kl (fines n {a = continued} le after q g) h e = fines n le after tt g
after_s kl (fines n {a = returned v} le after q g) h e = fines n le after q g
after_s kl (raiseds n {x = x} {s = s} le after q g) h e = ends_later s le after ((h n (omega (arith, kl, le)) x q).go n (omega arith) s g)
after_s kl (stoppeds n le after g) h e = stoppeds n le after g

-- what ends with fewer than d steps left goes on so
after_short : {k l d n : ℕ} {ns : List Node} {deep : ℕ} {profile : Profile} {e : Ends Flow} {handler : Thrown → M Flow} {other : M Flow} → k ≤ l → SafeEnds l n ns deep profile IsFlow e → (end_of e).left < d → HandlerSafe k handler → Safe k IsFlow other → (end_of (after_body e handler other)).left < d
after_short kl (fines n {a = onward} {s = s} le after q g) short h e = let p = falls_in (e.go n (omega (arith, kl, le)) s g) in omega (arith, p, short)
after_short kl (fines n {a = broke} le after q g) short h e = short
after_short kl (fines n {a = continued} le after q g) short h e = short
after_short kl (fines n {a = returned v} le after q g) short h e = short
after_short kl (raiseds n {x = x} {s = s} le after q g) short h e = let p = falls_in ((h n (omega (arith, kl, le)) x q).go n (omega arith) s g) in omega (arith, p, short)
after_short kl (stoppeds n le after g) short h e = short

after_wide : {k l d n n' : ℕ} {ns ns' : List Node} {deep deep' : ℕ} {profile profile' : Profile} {e e' : Ends Flow} {handler : Thrown → M Flow} {other : M Flow} → k ≤ l → 0 < d → n + d ≤ widest_budget → WiderEnds d e e' → SafeEnds l n ns deep profile IsFlow e → SafeEnds l n' ns' deep' profile' IsFlow e' → HandlerSafe k handler → Safe k IsFlow other → WiderEnds d (after_body e handler other) (after_body e' handler other)
after_wide {d = d} {n = most} kl pos fits both_fine (fines n {a = onward} {s = s} le after q g) two h e = let p : s.left ≤ most = after.0 in e.wide n (omega (arith, kl, le)) s g d pos (omega (arith, p, fits))
after_wide kl pos fits both_fine (fines n {a = broke} le after q g) two h e = both_fine
after_wide kl pos fits both_fine (fines n {a = continued} le after q g) two h e = both_fine
after_wide kl pos fits both_fine (fines n {a = returned v} le after q g) two h e = both_fine
after_wide {d = d} {n = most} kl pos fits both_raised (raiseds n {x = x} {s = s} le after q g) two h e = let p : s.left ≤ most = after.0 in (h n (omega (arith, kl, le)) x q).wide n (omega arith) s g d pos (omega (arith, p, fits))
after_wide kl pos fits (one_stopped z short) one two h e = one_stopped z (after_short kl two short h e)

pub attempt_s : {k : ℕ} {body other : M Flow} {handler : Thrown → M Flow} → Safe k IsFlow body → HandlerSafe k handler → Safe k IsFlow other → Safe k IsFlow (attempt body handler other)
attempt_s b h e = record {
  go = λ l le s g. after_s le (b.go l le s g) h e;
  wide = λ l le s g d pos fits. after_wide le pos fits (b.wide l le s g d pos fits) (b.go l le s g) (b.go l le (more d s) (more_good d fits g)) h e;
}

-- the last block, and behind it the way out that was taken
last_flow : {n : ℕ} (f : Flow) {last : M Flow} → IsFlow n f → Safe n IsFlow last → Safe n IsFlow (last >>= λ g. unless_left g (give f))
last_flow {n = n} f q h = bind_s h (λ m le f' r. unless_s f' r (flow_s f (flow_later n m le f q)))

last_thrown : {n : ℕ} (x : Thrown) {last : M Flow} → IsThrown n x → Safe n IsFlow last → Safe n IsFlow (last >>= λ g. unless_left g (throw x))
last_thrown {n = n} x q h = bind_s h (λ m le f' r. unless_s f' r (throw_s x (thrown_later n m le x q)))

last_s : {k l n : ℕ} {ns : List Node} {deep : ℕ} {profile : Profile} {e : Ends Flow} {last : M Flow} → k ≤ l → SafeEnds l n ns deep profile IsFlow e → Safe k IsFlow last → SafeEnds l n ns deep profile IsFlow (and_last e last)
last_s kl (fines n {a = f} {s = s} le after q g) h = ends_later s le after ((last_flow f q (safe_later (omega (arith, kl, le)) h)).go n (omega arith) s g)
last_s kl (raiseds n {x = x} {s = s} le after q g) h = ends_later s le after ((last_thrown x q (safe_later (omega (arith, kl, le)) h)).go n (omega arith) s g)
last_s kl (stoppeds n le after g) h = stoppeds n le after g

last_short : {k l d n : ℕ} {ns : List Node} {deep : ℕ} {profile : Profile} {e : Ends Flow} {last : M Flow} → k ≤ l → SafeEnds l n ns deep profile IsFlow e → (end_of e).left < d → Safe k IsFlow last → (end_of (and_last e last)).left < d
last_short kl (fines n {a = f} {s = s} le after q g) short h = let p = falls_in ((last_flow f q (safe_later (omega (arith, kl, le)) h)).go n (omega arith) s g) in omega (arith, p, short)
last_short kl (raiseds n {x = x} {s = s} le after q g) short h = let p = falls_in ((last_thrown x q (safe_later (omega (arith, kl, le)) h)).go n (omega arith) s g) in omega (arith, p, short)
last_short kl (stoppeds n le after g) short h = short

last_wide : {k l d n n' : ℕ} {ns ns' : List Node} {deep deep' : ℕ} {profile profile' : Profile} {e e' : Ends Flow} {last : M Flow} → k ≤ l → 0 < d → n + d ≤ widest_budget → WiderEnds d e e' → SafeEnds l n ns deep profile IsFlow e → SafeEnds l n' ns' deep' profile' IsFlow e' → Safe k IsFlow last → WiderEnds d (and_last e last) (and_last e' last)
last_wide {d = d} {n = most} kl pos fits both_fine (fines n {a = f} {s = s} le after q g) two h = let p : s.left ≤ most = after.0 in (last_flow f q (safe_later (omega (arith, kl, le)) h)).wide n (omega arith) s g d pos (omega (arith, p, fits))
last_wide {d = d} {n = most} kl pos fits both_raised (raiseds n {x = x} {s = s} le after q g) two h = let p : s.left ≤ most = after.0 in (last_thrown x q (safe_later (omega (arith, kl, le)) h)).wide n (omega arith) s g d pos (omega (arith, p, fits))
last_wide kl pos fits (one_stopped z short) one two h = one_stopped z (last_short kl two short h)

pub finally_s : {k : ℕ} {body last : M Flow} → Safe k IsFlow body → Safe k IsFlow last → Safe k IsFlow (finally body last)
finally_s b h = record {
  go = λ l le s g. last_s le (b.go l le s g) h;
  wide = λ l le s g d pos fits. last_wide le pos fits (b.wide l le s g d pos fits) (b.go l le s g) (b.go l le (more d s) (more_good d fits g)) h;
}

pub with_handled : {l : ℕ} {s : Moment} (o : Option Value) → MaybeValue l o → IsMoment l s → IsMoment l (record s { handled = o })
with_handled o h g = record { many = g.many; nodes = g.nodes; names = g.names; locals = g.locals; handled = h; budget = g.budget }

handled_ends : {A : Type 0} {k n : ℕ} {ns : List Node} {deep : ℕ} {profile : Profile} (Q : ℕ → A → Type 0) (o : Option Value) {e : Ends A} → MaybeValue k o → SafeEnds k n ns deep profile Q e → SafeEnds k n ns deep profile Q (handled_as o e)
handled_ends {k = k} Q o h (fines l le after q g) = fines l le after q (with_handled o (optional_later k l le o h) g)
handled_ends {k = k} Q o h (raiseds l le after q g) = raiseds l le after q (with_handled o (optional_later k l le o h) g)
handled_ends {k = k} Q o h (stoppeds l le after g) = stoppeds l le after (with_handled o (optional_later k l le o h) g)

handled_left : {A : Type 0} (o : Option Value) (e : Ends A) → (end_of (handled_as o e)).left ≡ (end_of e).left
handled_left o (fine a s) = refl
handled_left o (raised x s) = refl
handled_left o (stopped s) = refl

handled_wide : {A : Type 0} {d : ℕ} (o : Option Value) {e e' : Ends A} → WiderEnds d e e' → WiderEnds d (handled_as o e) (handled_as o e')
handled_wide o both_fine = both_fine
handled_wide o both_raised = both_raised
handled_wide {d = d} o (one_stopped {e = e} z short) = one_stopped z (subst (λ (j : ℕ). j < d) (sym (handled_left o e)) short)

pub handling_s : {k : ℕ} (v : Value) {m : M Flow} → IsValue k v → Safe k IsFlow m → Safe k IsFlow (handling v m)
handling_s {k = k} v p h = record {
  go = λ l le s g. handled_ends IsFlow s.handled g.handled (h.go l le (record s { handled = Some v }) (with_handled (Some v) (value_later k l le v p) g));
  wide = λ l le s g d pos fits. handled_wide s.handled (h.wide l le (record s { handled = Some v }) (with_handled (Some v) (value_later k l le v p) g) d pos fits);
}

pub bind_caught_s : {k : ℕ} (o : Option (List ℕ)) (v : Value) → Maybe IsName o → IsValue k v → Safe k Any (bind_caught o v)
bind_caught_s None v n p = any_s
bind_caught_s (Some x) v n p = assign_s x v n p

pub forget_caught_s : {k : ℕ} (o : Option (List ℕ)) → Safe k Any (forget_caught o)
forget_caught_s None = any_s
forget_caught_s (Some x) = forget_s x
