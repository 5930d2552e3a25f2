-- States that pictures can hold: the empty one, those into which such pictures are loaded, and those to which cells lead.
use Rattle.std.specs.Prelude.{ℕ, ◌+◌, List, [], ◌∷◌, ◌++◌, length, map, flat_map}
use Rattle.std.specs.List.Sorted.{IsStrictlySortedBy}
use Rattle.std.proofs.Common.{inl, inr, refl}
use Rattle.std.proofs.Math.Logic.{∥∥₁_elim}
use Rattle.std.proofs.Props.{props}
use Rattle.kishu_language.specs.declared.profile.Profile.TheVariants.{One}
use Rattle.kishu_meaning.specs.cells.Meaning.{run}
use Rattle.kishu_meaning.specs.values.Values.{Value, Node, list, tuple, dict, object, function, exception, State, empty}
use Rattle.kishu_objects.specs.Lists.{In, Rise}
use Rattle.kishu_objects.specs.Loading.{with_picture}
use Rattle.kishu_objects.specs.Picture.{listed, renumbered}
use Rattle.kishu_objects.specs.Shape.{each_child}
use Rattle.kishu_objects.specs.Sound.{IsSound}
use Rattle.kishu_objects.specs.State.{IsCell}
use Rattle.kishu_objects.specs.States.{IsSoundState}
use Rattle.kishu_state_laws.specs.Moments.{AreUnder}
use Rattle.kishu_state_laws.specs.Pictures.{unbound_is_state, with_picture_is_state}
use Rattle.kishu_state_laws.specs.Profiles.{run_under}
use Rattle.kishu_state_laws.specs.Real.{state_is_real}
use Rattle.kishu_state_laws.specs.Whole.{run_becomes}
use Rattle.kishu_reading.specs.Pictured.{AreKnown}
use Rattle.kishu_reading_laws.specs.OwnLaws.{known_moved}
use Rattle.kishu_history.specs.Changed.{Group}
use Rattle.kishu_history.specs.Checkout.{carried, with_pictures, without_names}
use Rattle.kishu_anew.specs.Anew.{IsWhole}

-- ---- functions of the profile that there is

known_all : (f : Value → Value) (ms : List Node) → AreKnown ms → AreKnown (map (each_child f) ms)
known_all f [] h = tt
known_all f (m ∷ ms) h = (known_moved f m h.0, known_all f ms h.1)

known_append : (ns ms : List Node) → AreKnown ns → AreKnown ms → AreKnown (ns ++ ms)
known_append [] ms h k = k
known_append (n ∷ ns) ms h k = (h.0, known_append ns ms h.1 k)

known_under : (ns : List Node) → AreKnown ns → AreUnder One ns
known_under [] h = tt
known_under (list vs ∷ ns) h = (tt, known_under ns h.1)
known_under (tuple vs ∷ ns) h = (tt, known_under ns h.1)
known_under (dict es ∷ ns) h = (tt, known_under ns h.1)
known_under (object es ∷ ns) h = (tt, known_under ns h.1)
known_under (function profile code vs ∷ ns) h = (h.0, known_under ns h.1)
known_under (exception kind vs ∷ ns) h = (tt, known_under ns h.1)

under_known : (ns : List Node) → AreUnder One ns → AreKnown ns
under_known [] h = tt
under_known (list vs ∷ ns) h = (tt, under_known ns h.1)
under_known (tuple vs ∷ ns) h = (tt, under_known ns h.1)
under_known (dict es ∷ ns) h = (tt, under_known ns h.1)
under_known (object es ∷ ns) h = (tt, under_known ns h.1)
under_known (function profile code vs ∷ ns) h = (h.0, under_known ns h.1)
under_known (exception kind vs ∷ ns) h = (tt, under_known ns h.1)

-- ---- states

sound_prop : (s : State) → IsProp (IsSound s)
sound_prop s = hlevel props

state_prop : (s : State) → IsProp (IsSoundState s)
state_prop s x y =
    let rise : IsProp (Rise (listed s)) = hlevel props in
    λ i. record { sound = sound_prop s x.sound y.sound i; rise = rise x.rise y.rise i }

pub whole_sound : (s : State) → IsWhole s → IsSoundState s
whole_sound s whole = ∥∥₁_elim whole (state_prop s) (λ w. state_is_real s w.state)

pub empty_whole : IsWhole empty
unfolding IsStrictlySortedBy
empty_whole = ∣ record { state = record { names = record { titles = tt; rise = tt; values = tt }; nodes = tt }; known = tt } ∣₁

loads_one : (s p : State) → IsWhole s → IsWhole p → IsWhole (with_picture s p)
loads_one s p whole here =
    ∥∥₁_elim whole squash₁
    (λ w. ∥∥₁_elim here squash₁
    (λ k. ∣ record {
      state = with_picture_is_state s p w.state k.state;
      known = known_append s.nodes (map (each_child (renumbered (λ i. length s.nodes + i))) p.nodes) w.known
          (known_all (renumbered (λ i. length s.nodes + i)) p.nodes k.known);
    } ∣₁))

pub loads_whole : (ps : List State) (s : State) → IsWhole s → ((p : State) → In p ps → IsWhole p) → IsWhole (with_pictures ps s)
loads_whole [] s whole each = whole
loads_whole (p ∷ ps) s whole each = loads_whole ps (with_picture s p) (loads_one s p whole (each p (inl refl))) (λ q m. each q (inr m))

without_whole : (xs : List (List ℕ)) (s : State) → IsWhole s → IsWhole (without_names xs s)
without_whole [] s whole = whole
without_whole (x ∷ xs) s whole =
    without_whole xs (without_names (x ∷ []) s)
    (∥∥₁_elim whole squash₁ (λ w. ∣ record { state = unbound_is_state s x w.state; known = w.known } ∣₁))

pub carried_whole : (gs : List Group) (ps : List State) (s : State) → IsWhole s → ((p : State) → In p ps → IsWhole p) → IsWhole (carried gs ps s)
carried_whole gs ps s whole each = loads_whole ps (without_names (flat_map (λ g. g) gs) s) (without_whole (flat_map (λ g. g) gs) s whole) each

pub run_whole : (text : List ℕ) (s : State) → IsCell text → IsWhole s → IsWhole (run One text s).state
run_whole text s cell whole =
    ∥∥₁_elim whole squash₁
    (λ w. ∣ record {
      state = (run_becomes One text s cell w.state).state;
      known = under_known (run One text s).state.nodes (run_under One text s cell w.state (known_under s.nodes w.known));
    } ∣₁)
