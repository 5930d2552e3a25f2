-- Computations that keep what holds of every state, and that go the same way as others from moments of some depth on.
use Rattle.std.specs.Prelude.{◌≡◌, ℕ, zero, suc, ◌≤◌, nat_lt, Bool, true, false, if◌then◌else◌, List, Option, Some, None}
use Rattle.std.proofs.Common.{refl, ap, ◌∙◌, arith}
use Rattle.kishu_language.specs.declared.profile.Profile.{Profile}
use Rattle.kishu_language.specs.trees.Tree.{Statements, no_statements, more_statements}
use Rattle.kishu_meaning.specs.values.Values.{Value, Node}
use Rattle.kishu_meaning.specs.moments.Moment.{Locals, Moment, Thrown, Ends, M, and_then, ◌>>=◌, ◌>>◌, give, throw, most_depth, back_at, recursion_error, deeper}
use Rattle.kishu_meaning.specs.items.Walks.{Walk}
use Rattle.kishu_meaning.specs.calls.Functions.{left_at, in_frame}
use Rattle.kishu_meaning.specs.cells.Ways.{Flow, onward, broke, continued, returned, go_on, turn_on, turns, repeat, with_item, walk_on, walk_along, after_body, attempt, unless_left, and_last, finally, handled_as, handling, handle}
use Rattle.kishu_meaning.specs.cells.Meaning.{in_block}
use Rattle.kishu_objects.specs.State.{IsValue, AreValues, IsName, values_in}
use Rattle.kishu_state_laws.specs.Moments.{Maybe, IsMoment, IsWalk}
use Rattle.kishu_state_laws.specs.keeping.Logic.{Any, IsThrown, SafeEnds, fines, raiseds, stoppeds, Safe, safe_later, bind_s, so_s, tick_s, deeper_s, then_s, at_depth, value_later, values_later}
use Rattle.kishu_state_laws.specs.keeping.Leaves.{MaybeValue, truth_s}
use Rattle.kishu_state_laws.specs.keeping.Operating.{walk_later, item_for_s}
use Rattle.kishu_state_laws.specs.keeping.Names.{with_locals, frame_s}
use Rattle.kishu_state_laws.specs.keeping.Flows.{IsFlow, onward_s, flow_s, repeat_s, walk_along_s, attempt_s, finally_s, object_of_s, bind_caught_s, forget_caught_s, handling_s, with_handled}

-- from moments with k nodes or more, at depth d or deeper
pub record Same {A : Type 0} (d k : ℕ) (m m' : M A) : Type 0 where
  pub go : (l : ℕ) → k ≤ l → (s : Moment) → IsMoment l s → d ≤ s.depth → m s ≡ m' s

pub record Agree {A : Type 0} (d k : ℕ) (Q : ℕ → A → Type 0) (m m' : M A) : Type 0 where
  pub safe : Safe k Q m
  pub same : Same d k m m'

pub itself : {A : Type 0} {d k : ℕ} {m : M A} → Same d k m m
itself = record { go = λ l le s g deep. refl }

pub one : {A : Type 0} {d k : ℕ} {Q : ℕ → A → Type 0} {m : M A} → Safe k Q m → Agree d k Q m m
one h = record { safe = h; same = itself }

pub same_later : {A : Type 0} {d k l : ℕ} {m m' : M A} → k ≤ l → Same d k m m' → Same d l m m'
same_later h m = record { go = λ n le s g deep. m.go n (omega (arith, h, le)) s g deep }

pub agree_later : {A : Type 0} {d k l : ℕ} {Q : ℕ → A → Type 0} {m m' : M A} → k ≤ l → Agree d k Q m m' → Agree d l Q m m'
agree_later h m = record { safe = safe_later h m.safe; same = same_later h m.same }

-- ---- one after the other

ends_same : {A B : Type 0} {d k l n deep : ℕ} {ns : List Node} {profile : Profile} (Q : ℕ → A → Type 0) (f f' : A → M B) {e : Ends A} → k ≤ l → d ≤ deep → SafeEnds l n ns deep profile Q e → ((j : ℕ) → k ≤ j → (a : A) → Q j a → Same d j (f a) (f' a)) → and_then e f ≡ and_then e f'
ends_same {d = d} {deep = deep} Q f f' kl enough (fines j {a = a} {s = s} le after q g) h =
    let still : s.depth ≡ deep = after.2 in
    (h j (omega (arith, kl, le)) a q).go j (omega arith) s g (omega (arith, still, enough))
ends_same Q f f' kl enough (raiseds j le after q g) h = refl
ends_same Q f f' kl enough (stoppeds j le after g) h = refl

pub bind_same : {A B : Type 0} {d k : ℕ} {Q : ℕ → A → Type 0} {m m' : M A} {f f' : A → M B} → Safe k Q m → Same d k m m' → ((j : ℕ) → k ≤ j → (a : A) → Q j a → Same d j (f a) (f' a)) → Same d k (m >>= f) (m' >>= f')
bind_same {Q = Q} {f = f} {f' = f'} h e g = record { go = λ l le s gs enough. ends_same Q f f' le enough (h.go l le s gs) g ∙ ap (λ r. and_then r f') (e.go l le s gs enough) }

pub bind_a : {A B : Type 0} {d k : ℕ} {Q : ℕ → A → Type 0} {S : ℕ → B → Type 0} {m m' : M A} {f f' : A → M B} → Agree d k Q m m' → ((n : ℕ) → k ≤ n → (a : A) → Q n a → Agree d n S (f a) (f' a)) → Agree d k S (m >>= f) (m' >>= f')
bind_a h g = record { safe = bind_s h.safe (λ n le a q. (g n le a q).safe); same = bind_same h.safe h.same (λ n le a q. (g n le a q).same) }

pub plain_a : {A B : Type 0} {d k : ℕ} {S : ℕ → B → Type 0} {m m' : M A} {f f' : A → M B} → Agree d k Any m m' → ((a : A) → Agree d k S (f a) (f' a)) → Agree d k S (m >>= f) (m' >>= f')
plain_a h g = bind_a h (λ n le a q. agree_later le (g a))

pub then_a : {A B : Type 0} {d k : ℕ} {Q : ℕ → A → Type 0} {S : ℕ → B → Type 0} {m m' : M A} {n n' : M B} → Agree d k Q m m' → Agree d k S n n' → Agree d k S (m >> n) (m' >> n')
then_a h g = bind_a h (λ n le a q. agree_later le g)

pub if_a : {A : Type 0} {d k : ℕ} {Q : ℕ → A → Type 0} (b : Bool) {m m' n n' : M A} → Agree d k Q m m' → Agree d k Q n n' → Agree d k Q (if b then m else n) (if b then m' else n')
if_a true h g = h
if_a false h g = g

pub so_a : {A : Type 0} {d k : ℕ} {Q S : ℕ → A → Type 0} {m m' : M A} → Agree d k Q m m' → ((l : ℕ) (a : A) → Q l a → S l a) → Agree d k S m m'
so_a h q = record { safe = so_s h.safe q; same = h.same }

deeper_same : {A : Type 0} {d k : ℕ} {m m' : M A} → Same d k m m' → Same d k (deeper m) (deeper m')
deeper_same {A = A} h = record {
  go = λ l le s g enough. ap (λ (e : Ends A). if nat_lt s.depth most_depth then back_at s.depth e else recursion_error s) (h.go l le (record s { depth = suc s.depth }) (at_depth (suc s.depth) g) (omega (arith, enough)));
}

pub deeper_a : {A : Type 0} {d k : ℕ} {Q : ℕ → A → Type 0} {m m' : M A} → Agree d k Q m m' → Agree d k Q (deeper m) (deeper m')
deeper_a h = record { safe = deeper_s h.safe; same = deeper_same h.same }

pub in_block_a : {d k : ℕ} (ss : Statements) {m m' : M Flow} → Agree d k IsFlow m m' → Agree d k IsFlow (in_block ss m) (in_block ss m')
in_block_a no_statements h = one onward_s
in_block_a (more_statements s ss) h = deeper_a h

-- ---- ways out

pub go_on_a : {d k : ℕ} (f : Flow) {m m' : M Flow} → IsFlow k f → Agree d k IsFlow m m' → Agree d k IsFlow (go_on f m) (go_on f m')
go_on_a onward h e = e
go_on_a broke h e = one (flow_s broke tt)
go_on_a continued h e = one (flow_s continued tt)
go_on_a (returned v) h e = one (flow_s (returned v) h)

turn_same : {d k : ℕ} (f : Flow) {m m' : M Flow} → Same d k m m' → Same d k (turn_on f m) (turn_on f m')
turn_same onward e = e
turn_same broke e = itself
turn_same continued e = e
turn_same (returned v) e = itself

if_same : {A : Type 0} {d k : ℕ} (b : Bool) {m m' n n' : M A} → Same d k m m' → Same d k n n' → Same d k (if b then m else n) (if b then m' else n')
if_same true h g = h
if_same false h g = g

turns_same : {d k : ℕ} (n : ℕ) {test test' : M Value} {body body' : M Flow} → Agree d k IsValue test test' → Agree d k IsFlow body body' → Same d k (turns n test body) (turns n test' body')
turns_same zero h e = itself
turns_same (suc n) h e =
    bind_same h.safe h.same (λ l le v q. bind_same (truth_s v) itself (λ l1 le1 b r. if_same b
    (let inner = then_a (one tick_s) (agree_later (omega (arith, le, le1)) e) in bind_same inner.safe inner.same (λ l2 le2 f t. turn_same f (turns_same n (agree_later (omega (arith, le, le1, le2)) h) (agree_later (omega (arith, le, le1, le2)) e))))
    itself))

pub repeat_a : {d k : ℕ} {test test' : M Value} {body body' : M Flow} → Agree d k IsValue test test' → Agree d k IsFlow body body' → Agree d k IsFlow (repeat test body) (repeat test' body')
repeat_a h e = record { safe = repeat_s h.safe e.safe; same = record { go = λ l le s g enough. (turns_same (suc s.left) h e).go l le s g enough } }

abbrev pub TurnAgree : ℕ → ℕ → (Value → M Flow) → (Value → M Flow) → Type 0
TurnAgree d k turn turn' = (l : ℕ) → k ≤ l → (v : Value) → IsValue l v → Agree d l IsFlow (turn v) (turn' v)

item_same : {d k : ℕ} (n i : ℕ) (u : Walk) {turn turn' : Value → M Flow} (o : Option Value) → MaybeValue k o → ((v : Value) → IsValue k v → Agree d k IsFlow (turn v) (turn' v)) → ((l : ℕ) → k ≤ l → Same d l (walk_on n u i turn) (walk_on n u i turn')) → Same d k (with_item o turn >>= λ f. turn_on f (walk_on n u i turn)) (with_item o turn' >>= λ f. turn_on f (walk_on n u i turn'))
item_same n i u (Some v) q h rest = (let inner = then_a (one tick_s) (h v q) in bind_same inner.safe inner.same (λ l le f t. turn_same f (rest l le)))
item_same n i u None q h rest = itself

walk_same : {d k : ℕ} (n i : ℕ) (u : Walk) {turn turn' : Value → M Flow} → IsWalk k u → TurnAgree d k turn turn' → Same d k (walk_on n u i turn) (walk_on n u i turn')
walk_same zero i u p h = itself
walk_same {k = k} (suc n) i u p h =
    bind_same (item_for_s u i p) itself (λ l le o q. item_same n (suc i) u o q (h l le) (λ j le'. walk_same n (suc i) u (walk_later k j (omega (arith, le, le')) u p) (λ m le2 v r. h m (omega (arith, le, le', le2)) v r)))

pub walk_along_a : {d : ℕ} (k : ℕ) (u : Walk) {turn turn' : Value → M Flow} → IsWalk k u → TurnAgree d k turn turn' → Agree d k IsFlow (walk_along u turn) (walk_along u turn')
walk_along_a k u p h = record { safe = walk_along_s k u p (λ l le v q. (h l le v q).safe); same = record { go = λ l le s g enough. (walk_same (suc s.left) 0 u p h).go l le s g enough } }

-- ---- handlers

abbrev pub HandlerAgree : ℕ → ℕ → (Thrown → M Flow) → (Thrown → M Flow) → Type 0
HandlerAgree d k handler handler' = (l : ℕ) → k ≤ l → (x : Thrown) → IsThrown l x → Agree d l IsFlow (handler x) (handler' x)

after_same : {d k l n deep : ℕ} {ns : List Node} {profile : Profile} {e : Ends Flow} {handler handler' : Thrown → M Flow} {other other' : M Flow} → k ≤ l → d ≤ deep → SafeEnds l n ns deep profile IsFlow e → HandlerAgree d k handler handler' → Agree d k IsFlow other other' → after_body e handler other ≡ after_body e handler' other'
after_same {deep = deep} kl enough (fines j {a = onward} {s = s} le after q g) h o = (let still : s.depth ≡ deep = after.2 in o.same.go j (omega (arith, kl, le)) s g (omega (arith, still, enough)))
after_same kl enough (fines j {a = broke} le after q g) h o = refl
after_same kl enough (fines j {a = continued} le after q g) h o = refl
after_same kl enough (fines j {a = returned v} le after q g) h o = refl
after_same {deep = deep} kl enough (raiseds j {x = x} {s = s} le after q g) h o = (let still : s.depth ≡ deep = after.2 in (h j (omega (arith, kl, le)) x q).same.go j (omega arith) s g (omega (arith, still, enough)))
after_same kl enough (stoppeds j le after g) h o = refl

pub attempt_a : {d k : ℕ} {body body' other other' : M Flow} {handler handler' : Thrown → M Flow} → Agree d k IsFlow body body' → HandlerAgree d k handler handler' → Agree d k IsFlow other other' → Agree d k IsFlow (attempt body handler other) (attempt body' handler' other')
attempt_a {other' = other'} {handler' = handler'} b h o = record {
  safe = attempt_s b.safe (λ l le x p. (h l le x p).safe) o.safe;
  same = record { go = λ l le s g enough. after_same le enough (b.safe.go l le s g) h o ∙ ap (λ e. after_body e handler' other') (b.same.go l le s g enough) };
}

last_same : {d k l n deep : ℕ} {ns : List Node} {profile : Profile} {e : Ends Flow} {last last' : M Flow} → k ≤ l → d ≤ deep → SafeEnds l n ns deep profile IsFlow e → Agree d k IsFlow last last' → and_last e last ≡ and_last e last'
last_same {deep = deep} kl enough (fines j {a = f} {s = s} le after q g) h =
    (let still : s.depth ≡ deep = after.2 in ap (λ e. and_then e (λ g. unless_left g (give f))) (h.same.go j (omega (arith, kl, le)) s g (omega (arith, still, enough))))
last_same {deep = deep} kl enough (raiseds j {x = x} {s = s} le after q g) h =
    (let still : s.depth ≡ deep = after.2 in ap (λ e. and_then e (λ g. unless_left g (throw x))) (h.same.go j (omega (arith, kl, le)) s g (omega (arith, still, enough))))
last_same kl enough (stoppeds j le after g) h = refl

pub finally_a : {d k : ℕ} {body body' last last' : M Flow} → Agree d k IsFlow body body' → Agree d k IsFlow last last' → Agree d k IsFlow (finally body last) (finally body' last')
finally_a {last' = last'} b h = record {
  safe = finally_s b.safe h.safe;
  same = record { go = λ l le s g enough. last_same le enough (b.safe.go l le s g) h ∙ ap (λ e. and_last e last') (b.same.go l le s g enough) };
}

handling_a : {d k : ℕ} (v : Value) {m m' : M Flow} → IsValue k v → Agree d k IsFlow m m' → Agree d k IsFlow (handling v m) (handling v m')
handling_a {k = k} v p h = record {
  safe = handling_s v p h.safe;
  same = record { go = λ l le s g enough. ap (λ (e : Ends Flow). handled_as s.handled e) (h.same.go l le (record s { handled = Some v }) (with_handled (Some v) (value_later k l le v p) g) enough) };
}

pub handle_a : {d k : ℕ} (o : Option (List ℕ)) {block block' : M Flow} → Maybe IsName o → Agree d k IsFlow block block' → HandlerAgree d k (handle o block) (handle o block')
handle_a o n h l le x p = bind_a (one (object_of_s x p)) (λ m le' v q. then_a (one (bind_caught_s o v n q)) (finally_a (handling_a v q (agree_later le' (agree_later le h))) (one (then_s (forget_caught_s o) onward_s))))

-- ---- a function's own names

pub frame_a : {A : Type 0} {d k : ℕ} (Q : ℕ → A → Type 0) (here : Locals) {m m' : M A} → AreValues k (values_in here.values) → Agree d k Q m m' → Agree d k Q (in_frame here m) (in_frame here m')
frame_a {A = A} {k = k} Q here h e = record {
  safe = frame_s Q here h e.safe;
  same = record { go = λ l le s g enough. ap (λ (r : Ends A). left_at s.locals r) (e.same.go l le (record s { locals = Some here }) (with_locals (Some here) (values_later k l le (values_in here.values) h) g) enough) };
}
