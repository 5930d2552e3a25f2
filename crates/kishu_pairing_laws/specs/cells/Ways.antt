-- Ways out of a statement, loops and handlers go alike.
use Rattle.std.specs.Prelude.{List, ℕ, Option, None, Some, zero, suc}
use Rattle.std.proofs.Common.{subst, sym}
use Rattle.kishu_meaning.specs.cells.Ways.{Flow, onward, broke, continued, returned, go_on, turn_on, unless_left, turns, repeat, with_item, walk_on, walk_along, after_body, attempt, and_last, finally, handled_as, handling, bind_caught, forget_caught, handle}
use Rattle.kishu_meaning.specs.items.Walks.{Walk}
use Rattle.kishu_meaning.specs.moments.Moment.{Thrown, Moment, M, Ends}
use Rattle.kishu_meaning.specs.values.Values.{Value}
use Rattle.kishu_objects.specs.Lists.{In}
use Rattle.kishu_pairing_laws.specs.World.{Grows, World, SameValue, SameThrown, BothOrNeither, neither, both, SameMoment, GoAlike, SameEnds, Within, both_fine, both_raised, both_stopped, Any}
use Rattle.kishu_pairing_laws.specs.moments.Steps.{cond_grows, give_quiet, throw_quiet, give_grows, tick_quiet, bind_grows, throw_grows, quiet, bind_alike, exhausted_quiet, by_left_alike, choose_alike}
use Rattle.kishu_pairing_laws.specs.calls.Operators.{truth_quiet}
use Rattle.kishu_pairing_laws.specs.items.Walks.{item_for_quiet, SameWalk}
use Rattle.kishu_pairing_laws.specs.moments.Names.{assign_alike, forget_alike}
use Rattle.kishu_pairing_laws.specs.cells.Raising.{object_of_quiet}
use Rattle.kishu_pairing_laws.specs.growing.Parts.{tick_grows, truth_grows}
use Rattle.kishu_pairing_laws.specs.growing.Ways.{after_grown, finally_grows, forget_caught_grows, handle_tail_grows, handled_keeps, handling_grows, last_grown, turn_on_grows, turns_grows, unless_grows, walk_on_grows, with_item_grows}

pub data SameFlow (W : World) : Flow → Flow → Type 0 where
  both_onward : SameFlow W onward onward
  both_broke : SameFlow W broke broke
  both_continued : SameFlow W continued continued
  both_returned : {v w : Value} → SameValue W v w → SameFlow W (returned v) (returned w)

module _ (W : World) where
  pub go_on_alike : {f g : Flow} {m n : M Flow} → SameFlow W f g → GoAlike W (SameFlow W) m n → GoAlike W (SameFlow W) (go_on f m) (go_on g n)
  go_on_alike both_onward h = h
  go_on_alike both_broke h = quiet W (give_quiet W both_broke)
  go_on_alike both_continued h = quiet W (give_quiet W both_continued)
  go_on_alike (both_returned vw) h = quiet W (give_quiet W (both_returned vw))

  turn_on_alike : {f g : Flow} {m n : M Flow} → SameFlow W f g → GoAlike W (SameFlow W) m n → GoAlike W (SameFlow W) (turn_on f m) (turn_on g n)
  turn_on_alike both_onward h = h
  turn_on_alike both_broke h = quiet W (give_quiet W both_onward)
  turn_on_alike both_continued h = h
  turn_on_alike (both_returned vw) h = quiet W (give_quiet W (both_returned vw))

  unless_alike : {f g : Flow} {m n : M Flow} → SameFlow W f g → GoAlike W (SameFlow W) m n → GoAlike W (SameFlow W) (unless_left f m) (unless_left g n)
  unless_alike both_onward h = h
  unless_alike both_broke h = quiet W (give_quiet W both_broke)
  unless_alike both_continued h = quiet W (give_quiet W both_continued)
  unless_alike (both_returned vw) h = quiet W (give_quiet W (both_returned vw))

  turns_alike : (n : ℕ) {test test' : M Value} {body body' : M Flow} → GoAlike W (SameValue W) test test' → GoAlike W (SameFlow W) body body' → Grows test → Grows body → GoAlike W (SameFlow W) (turns n test body) (turns n test' body')
  turns_alike zero h k gt gb = quiet W (exhausted_quiet W)
  turns_alike (suc n) h k gt gb =
      bind_alike W h (λ v. bind_grows (truth_grows v) (λ b. cond_grows b (bind_grows (bind_grows tick_grows (λ _. gb)) (λ f. turn_on_grows f (turns_grows n gt gb))) (give_grows _))) (λ v w vw.
      choose_alike W (quiet W (truth_quiet W vw)) (bind_grows (bind_grows tick_grows (λ _. gb)) (λ f. turn_on_grows f (turns_grows n gt gb))) (give_grows _)
      (bind_alike W (bind_alike W (quiet W (tick_quiet W)) (λ _. gb) (λ _ _ _. k)) (λ f. turn_on_grows f (turns_grows n gt gb)) (λ f g fg. turn_on_alike fg (turns_alike n h k gt gb)))
      (quiet W (give_quiet W both_onward)))

  pub repeat_alike : {test test' : M Value} {body body' : M Flow} → GoAlike W (SameValue W) test test' → GoAlike W (SameFlow W) body body' → Grows test → Grows body → GoAlike W (SameFlow W) (repeat test body) (repeat test' body')
  repeat_alike {test = test} {test' = test'} {body = body} {body' = body'} h k gt gb = by_left_alike W (SameFlow W) (λ n. turns n test body) (λ n. turns n test' body') (λ n. turns_alike n h k gt gb)

  with_item_alike : {o p : Option Value} {f g : Value → M Flow} → BothOrNeither (SameValue W) o p → ((v : Value) → Grows (f v)) → ((v w : Value) → SameValue W v w → GoAlike W (SameFlow W) (f v) (g w)) → GoAlike W (SameFlow W) (with_item o f) (with_item p g)
  with_item_alike (both {a = v} {b = w} vw) gf fg = bind_alike W (quiet W (tick_quiet W)) (λ _. gf v) (λ _ _ _. fg v w vw)
  with_item_alike neither gf fg = quiet W (give_quiet W both_broke)

  walk_on_alike : (n : ℕ) {u v : Walk} (k : ℕ) {f g : Value → M Flow} → SameWalk W u v → ((v : Value) → Grows (f v)) → ((v w : Value) → SameValue W v w → GoAlike W (SameFlow W) (f v) (g w)) → GoAlike W (SameFlow W) (walk_on n u k f) (walk_on n v k g)
  walk_on_alike zero k uv gf fg = quiet W (exhausted_quiet W)
  walk_on_alike (suc n) {u = u} k uv gf fg =
      bind_alike W (quiet W (item_for_quiet W k uv)) (λ o. bind_grows (with_item_grows o gf) (λ f. turn_on_grows f (walk_on_grows n u (suc k) gf))) (λ o p op.
      bind_alike W (with_item_alike op gf fg) (λ f. turn_on_grows f (walk_on_grows n u (suc k) gf)) (λ f g ff. turn_on_alike ff (walk_on_alike n (suc k) uv gf fg)))

  pub walk_along_alike : {u v : Walk} {f g : Value → M Flow} → SameWalk W u v → ((v : Value) → Grows (f v)) → ((v w : Value) → SameValue W v w → GoAlike W (SameFlow W) (f v) (g w)) → GoAlike W (SameFlow W) (walk_along u f) (walk_along v g)
  walk_along_alike {u = u} {v = v} {f = f} {g = g} uv gf fg = by_left_alike W (SameFlow W) (λ n. walk_on n u 0 f) (λ n. walk_on n v 0 g) (λ n. walk_on_alike n 0 uv gf fg)

  -- ---- `try`

  after_ends : {e e' : Ends Flow} {handler handler' : Thrown → M Flow} {other other' : M Flow} → SameEnds W (SameFlow W) e e' → ((x y : Thrown) → SameThrown W x y → GoAlike W (SameFlow W) (handler x) (handler' y)) → GoAlike W (SameFlow W) other other' → Within W (after_body e handler other) → SameEnds W (SameFlow W) (after_body e handler other) (after_body e' handler' other')
  after_ends (both_fine {s = s} {t = t} both_onward st) h k w = k.go s t st w
  after_ends (both_fine both_broke st) h k w = both_fine both_broke st
  after_ends (both_fine both_continued st) h k w = both_fine both_continued st
  after_ends (both_fine (both_returned vw) st) h k w = both_fine (both_returned vw) st
  after_ends (both_raised {x = x} {y = y} {s = s} {t = t} xy st) h k w = (h x y xy).go s t st w
  after_ends (both_stopped st) h k w = both_stopped st

  pub attempt_alike : {body body' other other' : M Flow} {handler handler' : Thrown → M Flow} → GoAlike W (SameFlow W) body body' → ((x y : Thrown) → SameThrown W x y → GoAlike W (SameFlow W) (handler x) (handler' y)) → GoAlike W (SameFlow W) other other' → ((x : Thrown) → Grows (handler x)) → Grows other → GoAlike W (SameFlow W) (attempt body handler other) (attempt body' handler' other')
  attempt_alike {body = body} {other = other} {handler = handler} b h k gh go = record {
    go = λ s t st w. after_ends (b.go s t st (λ x m. w x (after_grown (body s) handler other x gh go m))) h k w;
  }

  last_ends : {e e' : Ends Flow} {last last' : M Flow} → SameEnds W (SameFlow W) e e' → GoAlike W (SameFlow W) last last' → Grows last → Within W (and_last e last) → SameEnds W (SameFlow W) (and_last e last) (and_last e' last')
  last_ends (both_fine {a = f} {s = s} {t = t} ff st) h gl w = (bind_alike W h (λ g. unless_grows g (give_grows f)) (λ g g' gg. unless_alike gg (quiet W (give_quiet W ff)))).go s t st w
  last_ends (both_raised {x = x} {s = s} {t = t} xy st) h gl w = (bind_alike W h (λ g. unless_grows g (throw_grows x)) (λ g g' gg. unless_alike gg (quiet W (throw_quiet W xy)))).go s t st w
  last_ends (both_stopped st) h gl w = both_stopped st

  pub finally_alike : {body body' last last' : M Flow} → GoAlike W (SameFlow W) body body' → GoAlike W (SameFlow W) last last' → Grows last → GoAlike W (SameFlow W) (finally body last) (finally body' last')
  finally_alike {body = body} {last = last} b h gl = record { go = λ s t st w. last_ends (b.go s t st (λ x m. w x (last_grown (body s) last x gl m))) h gl w }

  with_handled : {s t : Moment} {o p : Option Value} → BothOrNeither (SameValue W) o p → SameMoment W s t → SameMoment W (record s { handled = o }) (record t { handled = p })
  with_handled h st = record { profile = st.profile; names = st.names; heaps = st.heaps; accessed = st.accessed; locals = st.locals; handled = h; left = st.left; depth = st.depth; out = st.out }

  handled_ends : {A B : Type 0} (R : A → B → Type 0) {o p : Option Value} {e : Ends A} {e' : Ends B} → BothOrNeither (SameValue W) o p → SameEnds W R e e' → SameEnds W R (handled_as o e) (handled_as p e')
  handled_ends R h (both_fine ab st) = both_fine ab (with_handled h st)
  handled_ends R h (both_raised xy st) = both_raised xy (with_handled h st)
  handled_ends R h (both_stopped st) = both_stopped (with_handled h st)

  handling_alike : {v w : Value} {m n : M Flow} → SameValue W v w → GoAlike W (SameFlow W) m n → GoAlike W (SameFlow W) (handling v m) (handling w n)
  handling_alike {v = v} {m = m} vw mn = record {
    go = λ s t st w. handled_ends (SameFlow W) st.handled (mn.go _ _ (with_handled (both vw) st) (λ x h. w x (subst (In x) (sym (handled_keeps s.handled (m (record s { handled = Some v })))) h)));
  }

  module _ (sorted : W.Sorted) where
    bind_caught_alike : (o : Option (List ℕ)) {v w : Value} → SameValue W v w → GoAlike W Any (bind_caught o v) (bind_caught o w)
    bind_caught_alike None vw = quiet W (give_quiet W tt)
    bind_caught_alike (Some x) vw = assign_alike W x vw

    forget_caught_alike : (o : Option (List ℕ)) → GoAlike W Any (forget_caught o) (forget_caught o)
    forget_caught_alike None = quiet W (give_quiet W tt)
    forget_caught_alike (Some x) = forget_alike W sorted x

    pub handle_alike : (o : Option (List ℕ)) {block block' : M Flow} {x y : Thrown} → GoAlike W (SameFlow W) block block' → Grows block → SameThrown W x y → GoAlike W (SameFlow W) (handle o block x) (handle o block' y)
    handle_alike o bb gb xy =
        bind_alike W (quiet W (object_of_quiet W xy)) (handle_tail_grows o gb) (λ v w vw.
        bind_alike W (bind_caught_alike o vw) (λ _. finally_grows (handling_grows v gb) (bind_grows (forget_caught_grows o) (λ _. give_grows _))) (λ _ _ _.
        finally_alike (handling_alike vw bb) (bind_alike W (forget_caught_alike o) (λ _. give_grows _) (λ _ _ _. quiet W (give_quiet W both_onward))) (bind_grows (forget_caught_grows o) (λ _. give_grows _))))
