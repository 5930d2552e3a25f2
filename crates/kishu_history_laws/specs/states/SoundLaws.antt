-- Pictures, loads and checkouts leave sound states whose names stand in order.
use Rattle.std.specs.Prelude.{◌≡◌, ℕ, List, [], ◌∷◌, flat_map, Some, None}
use Rattle.std.proofs.Common.{refl, sym, ◌∙◌, subst, inl, inr}
use Rattle.kishu_meaning.specs.moments.Accesses.{unbind}
use Rattle.kishu_meaning.specs.values.Values.{Value, Names, State, find}
use Rattle.kishu_objects.specs.Lists.{In, Rise}
use Rattle.kishu_objects.specs.Loading.{with_picture}
use Rattle.kishu_objects.specs.Picture.{picture}
use Rattle.kishu_objects.specs.States.{IsSoundState}
use Rattle.kishu_objects_laws.specs.NameLaws.{same_text}
use Rattle.kishu_objects_laws.specs.ListedLaws.{picture_rise}
use Rattle.kishu_objects_laws.specs.OwnPictureLaws.{picture_sound}
use Rattle.kishu_history.specs.Changed.{Group}
use Rattle.kishu_history.specs.Checkout.{unbind_all, without_names, with_pictures, carried}
use Rattle.kishu_history_laws.specs.states.LoadLaws.{loaded_state}
use Rattle.kishu_history_laws.specs.states.NameLaws.{keys, rise_unbind, rise_unbind_all, find_unbind, find_unbind_other}

-- ---- pictures

pub picture_state : (s : State) (names : List (List ℕ)) → IsSoundState s → Rise names → IsSoundState (picture s names)
picture_state s names here rise = record { sound = picture_sound s here.sound names; rise = picture_rise s names rise }

-- ---- loads

pub with_picture_state : (s p : State) → IsSoundState s → IsSoundState p → IsSoundState (with_picture s p)
with_picture_state s p here there = loaded_state s p here there.sound there.rise

-- ---- checkouts

none_some : (v : Value) → None ≡ Some v → ⊥
none_some v e = cc

still_found : (x : List ℕ) (v : Value) (ys : List (List ℕ)) (ns : Names) → Rise (keys ns) → find x (unbind_all ys ns) ≡ Some v → find x ns ≡ Some v
still_found x v [] ns r e = e
still_found x v (y ∷ ys) ns r e =
    let h = still_found x v ys (unbind y ns) (rise_unbind y ns r) e in
    elim (same_text x y) [
      | inl g ↦ absurd (none_some v (sym (find_unbind y ns r) ∙ subst (λ z. find z (unbind y ns) ≡ Some v) g.0 h))
      | inr n ↦ sym (find_unbind_other x y ns n.0) ∙ h
    ]

without_state : (xs : List (List ℕ)) (s : State) → IsSoundState s → IsSoundState (without_names xs s)
without_state xs s here = record {
  sound = record { names = λ x i e. here.sound.names x i (still_found x _ xs s.names here.rise e); nodes = here.sound.nodes };
  rise = rise_unbind_all xs s.names here.rise;
}

with_all : (ps : List State) (s : State) → IsSoundState s → ((p : State) → In p ps → IsSoundState p) → IsSoundState (with_pictures ps s)
with_all [] s here there = here
with_all (p ∷ ps) s here there = with_all ps (with_picture s p) (with_picture_state s p here (there p (inl refl))) (λ q m. there q (inr m))

pub carried_state : (gs : List Group) (ps : List State) (s : State) → IsSoundState s → ((p : State) → In p ps → IsSoundState p) → IsSoundState (carried gs ps s)
carried_state gs ps s here there = with_all ps (without_names (flat_map (λ g. g) gs) s) (without_state (flat_map (λ g. g) gs) s here) there
