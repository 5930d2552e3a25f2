-- A state into which pictures are loaded holds what pictures can hold, where it did before.
use Rattle.std.specs.Prelude.{ℕ, List, [], ◌∷◌}
use Rattle.std.specs.List.{AllZip}
use Rattle.std.proofs.Common.{inl, inr, sym, subst}
use Rattle.kishu_meaning.specs.values.Values.{State}
use Rattle.kishu_objects.specs.Lists.{In}
use Rattle.kishu_reading.specs.Pictured as reading
use Rattle.kishu_store.specs.Groups.{Group}
use Rattle.kishu_store.specs.Tables.{Table}
use Rattle.kishu_checkout.specs.Placed.{ArePlaced}
use Rattle.kishu_anew.specs.Anew.{IsWhole}
use Rattle.kishu_anew.specs.WholeLaws.{carried_whole}

each-whole : (bytes : List (List ℕ)) (ps : List State) → AllZip reading.IsPictureOf bytes ps → (p : State) → In p ps → IsWhole p
each-whole [] [] told p m = absurd m
each-whole (b ∷ bs) [] told p m = absurd m
each-whole [] (q ∷ ps) told p m = absurd told
each-whole (b ∷ bs) (q ∷ ps) told p (inl e) = subst (λ (x : State). IsWhole x) (sym e) ∣ record { state = told.0.state.state; known = told.0.state.known } ∣₁
each-whole (b ∷ bs) (q ∷ ps) told p (inr m) = each-whole bs ps told.1 p m

pub placed-whole : (gone : List Group) (t : Table) (bytes : List (List ℕ)) (before after : State) → ArePlaced gone t bytes before after → IsWhole before → IsWhole after
placed-whole gone t bytes before after placed whole =
    subst (λ (x : State). IsWhole x) (sym placed.is) (carried_whole gone placed.pictures before whole (each-whole bytes placed.pictures placed.told))
