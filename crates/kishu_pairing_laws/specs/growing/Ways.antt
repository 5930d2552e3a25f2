-- What ways out of a statement, loops and handlers have accessed stays recorded.
use Rattle.std.specs.Prelude.{List, ℕ, Option, None, Some, ◌≡◌, zero, suc}
use Rattle.std.proofs.Common.{refl, subst, sym}
use Rattle.kishu_language.specs.tokens.Names.{is_among}
use Rattle.kishu_meaning.specs.cells.Ways.{forget_in, forget, Flow, onward, broke, continued, returned, go_on, turn_on, unless_left, turns, repeat, with_item, walk_on, walk_along, after_body, attempt, and_last, finally, handled_as, handling, bind_caught, forget_caught, handle}
use Rattle.kishu_meaning.specs.items.Walks.{Walk, item_for}
use Rattle.kishu_meaning.specs.moments.Moment.{Locals, Thrown, give, M, stopped, Ends, fine, raised, ◌>>◌}
use Rattle.kishu_meaning.specs.values.Values.{Value}
use Rattle.kishu_objects.specs.Lists.{In}
use Rattle.kishu_pairing_laws.specs.World.{Grows, end_of}
use Rattle.kishu_pairing_laws.specs.moments.Steps.{cond_grows, asking_grows, give_grows, bind_grows, throw_grows}
use Rattle.kishu_pairing_laws.specs.Itself.{quiet_grows, itself, one_thrown}
use Rattle.kishu_pairing_laws.specs.items.Walks.{item_for_quiet, one_walk}
use Rattle.kishu_pairing_laws.specs.moments.Accesses.{access_keeps}
use Rattle.kishu_pairing_laws.specs.moments.Names.{assign_grows}
use Rattle.kishu_pairing_laws.specs.cells.Raising.{object_of_quiet}
use Rattle.kishu_pairing_laws.specs.growing.Parts.{exhausted_grows, tick_grows, truth_grows}

forget_in_grows : (x : List ℕ) (o : Option Locals) → Grows (forget_in x o)
forget_in_grows x None = record { grows = λ s y h. access_keeps y x s.accessed h }
forget_in_grows x (Some here) = cond_grows (is_among x here.own) (record { grows = λ s y h. h }) (record { grows = λ s y h. access_keeps y x s.accessed h })

pub forget_grows : (x : List ℕ) → Grows (forget x)
forget_grows x = asking_grows (λ s. forget_in x s.locals) (λ s. forget_in_grows x s.locals)

pub go_on_grows : (f : Flow) {m : M Flow} → Grows m → Grows (go_on f m)
go_on_grows onward h = h
go_on_grows broke h = give_grows _
go_on_grows continued h = give_grows _
go_on_grows (returned v) h = give_grows _

pub turn_on_grows : (f : Flow) {m : M Flow} → Grows m → Grows (turn_on f m)
turn_on_grows onward h = h
turn_on_grows broke h = give_grows _
turn_on_grows continued h = h
turn_on_grows (returned v) h = give_grows _

pub unless_grows : (f : Flow) {m : M Flow} → Grows m → Grows (unless_left f m)
unless_grows onward h = h
unless_grows broke h = give_grows _
unless_grows continued h = give_grows _
unless_grows (returned v) h = give_grows _

pub turns_grows : (n : ℕ) {test : M Value} {body : M Flow} → Grows test → Grows body → Grows (turns n test body)
turns_grows zero h k = exhausted_grows
turns_grows (suc n) h k = bind_grows h (λ v. bind_grows (truth_grows v) (λ b. cond_grows b (bind_grows (bind_grows tick_grows (λ _. k)) (λ f. turn_on_grows f (turns_grows n h k))) (give_grows _)))

pub repeat_grows : {test : M Value} {body : M Flow} → Grows test → Grows body → Grows (repeat test body)
repeat_grows {test = test} {body = body} h k = asking_grows (λ s. turns (suc s.left) test body) (λ s. turns_grows (suc s.left) h k)

pub with_item_grows : (o : Option Value) {turn : Value → M Flow} → ((v : Value) → Grows (turn v)) → Grows (with_item o turn)
with_item_grows (Some v) h = bind_grows tick_grows (λ _. h v)
with_item_grows None h = give_grows _

pub item_for_grows : (u : Walk) (k : ℕ) → Grows (item_for u k)
item_for_grows u k = quiet_grows (item_for_quiet itself k (one_walk u))

pub walk_on_grows : (n : ℕ) (u : Walk) (k : ℕ) {turn : Value → M Flow} → ((v : Value) → Grows (turn v)) → Grows (walk_on n u k turn)
walk_on_grows zero u k h = exhausted_grows
walk_on_grows (suc n) u k h = bind_grows (item_for_grows u k) (λ o. bind_grows (with_item_grows o h) (λ f. turn_on_grows f (walk_on_grows n u (suc k) h)))

pub walk_along_grows : (u : Walk) {turn : Value → M Flow} → ((v : Value) → Grows (turn v)) → Grows (walk_along u turn)
walk_along_grows u {turn = turn} h = asking_grows (λ s. walk_on (suc s.left) u 0 turn) (λ s. walk_on_grows (suc s.left) u 0 h)

pub after_grown : (e : Ends Flow) (handler : Thrown → M Flow) (other : M Flow) (x : List ℕ) → ((y : Thrown) → Grows (handler y)) → Grows other → In x (end_of e).accessed → In x (end_of (after_body e handler other)).accessed
after_grown (fine onward s) handler other x h k m = k.grows s x m
after_grown (fine broke s) handler other x h k m = m
after_grown (fine continued s) handler other x h k m = m
after_grown (fine (returned v) s) handler other x h k m = m
after_grown (raised y s) handler other x h k m = (h y).grows s x m
after_grown (stopped s) handler other x h k m = m

pub attempt_grows : {body other : M Flow} {handler : Thrown → M Flow} → Grows body → ((x : Thrown) → Grows (handler x)) → Grows other → Grows (attempt body handler other)
attempt_grows {body = body} {other = other} {handler = handler} g h k = record { grows = λ s x m. after_grown (body s) handler other x h k (g.grows s x m) }

pub last_grown : (e : Ends Flow) (last : M Flow) (x : List ℕ) → Grows last → In x (end_of e).accessed → In x (end_of (and_last e last)).accessed
last_grown (fine f s) last x h m = (bind_grows h (λ g. unless_grows g (give_grows f))).grows s x m
last_grown (raised y s) last x h m = (bind_grows h (λ g. unless_grows g (throw_grows y))).grows s x m
last_grown (stopped s) last x h m = m

pub finally_grows : {body last : M Flow} → Grows body → Grows last → Grows (finally body last)
finally_grows {body = body} {last = last} g h = record { grows = λ s x m. last_grown (body s) last x h (g.grows s x m) }

pub handled_keeps : {A : Type 0} (o : Option Value) (e : Ends A) → (end_of (handled_as o e)).accessed ≡ (end_of e).accessed
handled_keeps o (fine a s) = refl
handled_keeps o (raised x s) = refl
handled_keeps o (stopped s) = refl

pub handling_grows : {A : Type 0} (v : Value) {m : M A} → Grows m → Grows (handling v m)
handling_grows v {m = m} h = record { grows = λ s x k. subst (In x) (sym (handled_keeps s.handled (m (record s { handled = Some v })))) (h.grows (record s { handled = Some v }) x k) }

bind_caught_grows : (o : Option (List ℕ)) (v : Value) → Grows (bind_caught o v)
bind_caught_grows None v = give_grows _
bind_caught_grows (Some x) v = assign_grows x v

pub forget_caught_grows : (o : Option (List ℕ)) → Grows (forget_caught o)
forget_caught_grows None = give_grows _
forget_caught_grows (Some x) = forget_grows x

pub handle_tail_grows : (o : Option (List ℕ)) {block : M Flow} → Grows block → (v : Value) → Grows (bind_caught o v >> finally (handling v block) (forget_caught o >> give onward))
handle_tail_grows o h v = bind_grows (bind_caught_grows o v) (λ _. finally_grows (handling_grows v h) (bind_grows (forget_caught_grows o) (λ _. give_grows _)))

pub handle_grows : (o : Option (List ℕ)) {block : M Flow} → Grows block → (x : Thrown) → Grows (handle o block x)
handle_grows o h x = bind_grows (quiet_grows (object_of_quiet itself (one_thrown x))) (handle_tail_grows o h)
