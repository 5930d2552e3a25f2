-- Bytes that were loaded as a picture that stands alone, and bytes that are none.
use Rattle.std.specs.Prelude.{◌≡◌, ℕ, suc, ◌+◌, List, [], ◌∷◌, length, map, get_or, Result, Ok, Err}
use Rattle.std.proofs.Common.{sym, ap, ◌∙◌, arith, Fits, w8}
use Rattle.kishu_meaning.specs.values.Values.{Names, Node, State}
use Rattle.kishu_objects.specs.Lists.{Rise}
use Rattle.kishu_objects.specs.Loading.{bind_all}
use Rattle.kishu_objects.specs.Picture.{named, listed}
use Rattle.kishu_reading.specs.FromBytes.{read_picture}
use Rattle.kishu_reading.specs.Pictured as reading
use Rattle.kishu_reading_laws.specs.PictureLaws.{picture_is_read, read_is_picture}
use Rattle.kishu_loading.specs.Loaded.{IsLoaded}
use Rattle.kishu_checkout.specs.Groups.{titles, IsNoPicture, IsNoneOf, IsAlone, IsLoadedAs}
use Rattle.kishu_checkout.proofs.Binds.{titles_moved, moved_names}

abbrev bare : List Node → State
bare nodes = record { names = []; nodes = nodes }

-- ---- bytes

pub are_bytes : (xs : List ℕ) → ((i : ℕ) → Fits w8 (get_or xs i 0)) → reading.AreBytes xs
are_bytes [] h = tt
are_bytes (x ∷ xs) h = (let f = h 0 in omega (arith, f), are_bytes xs (λ i. h (suc i)))

pub alone : (bytes : List ℕ) (nodes : List Node) (after : State) → reading.AreBytes bytes → IsLoaded bytes (bare nodes) after
    → IsAlone bytes nodes after
alone bytes nodes after each l = record { picture = l.picture; told = read_is_picture bytes l.picture each l.read; is = l.is }

pub no_picture : (bytes : List ℕ) (at : ℕ) → read_picture bytes ≡ Err at → IsNoPicture bytes
no_picture bytes at e p told = absurd (ok_err (sym (picture_is_read bytes p told) ∙ e))
  where
    ok_err : Ok p ≡ Err at → ⊥
    ok_err f = cc (f)

-- the names that stand alone are the picture's
module _ (bytes : List ℕ) (nodes : List Node) (own : State) (a : IsAlone bytes nodes own) where
  abbrev shift : ℕ → ℕ
  shift i = length nodes + i

  rise : Rise (listed a.picture)
  rise = a.told.state.state.names.rise

  own_names : own.names ≡ map (named shift) a.picture.names
  own_names = ap (λ (s : State). s.names) a.is ∙ moved_names shift a.picture rise

  its_names : titles own.names ≡ listed a.picture
  its_names = ap titles own_names ∙ titles_moved shift a.picture.names

  pub loaded_as : (group : List (List ℕ)) (names bound : Names) → titles own.names ≡ group → bound ≡ bind_all own.names names
      → IsLoadedAs group bytes (record { names = names; nodes = nodes }) (record { names = bound; nodes = own.nodes })
  loaded_as group names bound just e = record {
    picture = a.picture;
    told = a.told;
    names = sym its_names ∙ just;
    is = ap (λ (ns : Names). record { names = ns; nodes = own.nodes }) (e ∙ ap (λ (ns : Names). bind_all ns names) own_names)
        ∙ ap (λ (ms : List Node). record { names = bind_all (map (named shift) a.picture.names) names; nodes = ms })
        (ap (λ (s : State). s.nodes) a.is);
  }

  -- A picture of other names is of no state that binds just these.
  pub other_names : (group : List (List ℕ)) → (titles own.names ≡ group → ⊥) → IsNoneOf group bytes
  other_names group n p told just =
      let same : a.picture ≡ p = one (sym (picture_is_read bytes a.picture a.told) ∙ picture_is_read bytes p told) in
      n (its_names ∙ ap listed same ∙ just)
    where
      one : {q r : State} → ◌≡◌ {A = Result State ℕ} (Ok q) (Ok r) → q ≡ r
      one e = cc (e)
