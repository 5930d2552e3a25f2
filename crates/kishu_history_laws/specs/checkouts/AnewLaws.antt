-- A live state that is loaded anew from its own pictures is again the one that the table tells.
use Rattle.std.specs.Prelude.{[], ◌∷◌, map}
use Rattle.std.specs.List.{AllZip}
use Rattle.std.proofs.Common.{refl, sym, subst, inl, inr}
use Rattle.kishu_meaning.specs.values.Values.{State, empty}
use Rattle.kishu_objects.specs.Picture.{place, order, picture}
use Rattle.kishu_objects.specs.Lists.{In, Rise}
use Rattle.kishu_objects_laws.specs.OwnPictureLaws.{picture_sound, picture_whole}
use Rattle.kishu_objects_laws.specs.NameLaws.{listed_found}
use Rattle.kishu_objects_laws.specs.WholeLaws.{keys_of}
use Rattle.kishu_history.specs.Tables.{Row, Table, IsTable}
use Rattle.kishu_history.specs.Checkout.{carried}
use Rattle.kishu_history.specs.Live.{IsLive, IsPictureOf}
use Rattle.kishu_history_laws.specs.checkouts.CheckoutLaws.{carried_live}
use Rattle.kishu_history_laws.specs.stores.StoreLaws.{empty_live, empty_table, all_rows}

module _ (at : Row → State → Type 0) (t : Table) (is : IsTable t) (s : State) (live : IsLive at t s) where
  pub own_picture : (r : Row) → In r t → IsPictureOf at r (picture s r.group)
  own_picture r m =
      let names = keys_of s (place (order s r.group)) r.group (λ x n. listed_found s.names x ((live.bound x).1 (r, m, n))) in record {
        sound = picture_sound s live.state.sound r.group;
        names = names;
        rise = subst (λ g. Rise g) (sym names) (is.ordered r m);
        own = picture_whole s live.state.sound r.group (λ x n. listed_found s.names x ((live.bound x).1 (r, m, n)));
        stored = live.pictures r m;
      }

  own_pictures : (u : Table) → ((r : Row) → In r u → In r t) → AllZip (IsPictureOf at) u (map (λ r. picture s r.group) u)
  own_pictures [] h = tt
  own_pictures (r ∷ u) h = (own_picture r (h r (inl refl)), own_pictures u (λ q m. h q (inr m)))

  -- It is again the one that the table tells.
  pub anew : IsLive at t (carried [] (map (λ r. picture s r.group) t) empty)
  anew = carried_live at [] t empty (map (λ r. picture s r.group) t) empty_table is (λ r q m n e f. absurd m) (empty_live at)
      (subst (λ u. AllZip (IsPictureOf at) u (map (λ r. picture s r.group) t)) (sym (all_rows t)) (own_pictures t (λ r m. m)))
