-- What is loaded for a row is the picture of its group in the state that a checkout leaves; a group that is kept has the picture that it had.
use Rattle.std.specs.Prelude.{◌≡◌, ◌⊎◌, not, List, [], ◌∷◌, map}
use Rattle.std.specs.List.{AllZip}
use Rattle.std.proofs.Common.{refl, ap, sym, ◌∙◌, subst, inl, inr}
use Rattle.kishu_meaning.specs.values.Values.{State}
use Rattle.kishu_objects.specs.Picture.{picture}
use Rattle.kishu_objects.specs.Lists.{In}
use Rattle.kishu_objects_laws.specs.ListLaws.{filter_in}
use Rattle.kishu_history.specs.Tables.{Row, Table, IsTable, AreOfOne}
use Rattle.kishu_history.specs.Checkout.{is_row_of, to_keep, to_load, to_drop, carried}
use Rattle.kishu_history.specs.Live.{IsLive, IsPictureOf}
use Rattle.kishu_history_laws.specs.states.AlikeLaws.{not_true}
use Rattle.kishu_history_laws.specs.Choices.{not_false}
use Rattle.kishu_history_laws.specs.checkouts.CheckoutLaws.{row_of, of_row, Once, once_rows, carried_live}

-- The picture is given for the row, one row with one picture.
abbrev IsGiven : Table → List State → Row → State → Type 0
IsGiven (q ∷ rs) (p ∷ ps) r s = ((r ≡ q) × (s ≡ p)) ⊎ IsGiven rs ps r s
IsGiven [] ps r s = ⊥
IsGiven (q ∷ rs) [] r s = ⊥

given_in : (rs : Table) (ps : List State) (r : Row) (s : State) → IsGiven rs ps r s → In r rs
given_in (q ∷ rs) (p ∷ ps) r s (inl h) = inl h.0
given_in (q ∷ rs) (p ∷ ps) r s (inr h) = inr (given_in rs ps r s h)
given_in [] ps r s h = absurd h
given_in (q ∷ rs) [] r s h = absurd h

given_each : (at to : Row → State → Type 0) (rs : Table) (ps : List State) → AllZip (IsPictureOf at) rs ps
    → ((r : Row) (s : State) → IsGiven rs ps r s → to r s) → AllZip (IsPictureOf to) rs ps
given_each at to [] [] zip f = tt
given_each at to (r ∷ rs) (p ∷ ps) zip f = (
  record { sound = zip.0.sound; names = zip.0.names; rise = zip.0.rise; own = zip.0.own; stored = f r p (inl (refl, refl)) },
  given_each at to rs ps zip.1 (λ q s h. f q s (inr h)),
)
given_each at to [] (p ∷ ps) zip f = absurd zip
given_each at to (r ∷ rs) [] zip f = absurd zip

given_all : (at : Row → State → Type 0) (f : Row → State) (rs : Table) (ps : List State) → Once rs → AllZip (IsPictureOf at) rs ps
    → ((r : Row) → In r rs → IsGiven rs ps r (f r)) → map f rs ≡ ps
given_all at f [] [] once zip h = refl
given_all at f (r ∷ rs) (p ∷ ps) once zip h =
    let here : f r ≡ p = elim (h r (inl refl)) [ inl e ↦ e.1 | inr k ↦ absurd (once.0 (given_in rs ps r (f r) k)) ] in
    let rest = given_all at f rs ps once.1 zip.1 (λ q m. elim (h q (inr m)) [ inl e ↦ absurd (once.0 (subst (λ z. In z rs) e.0 m)) | inr k ↦ k ]) in
    ap (λ s. s ∷ map f rs) here ∙ ap (λ ss. p ∷ ss) rest
given_all at f [] (p ∷ ps) once zip h = absurd zip
given_all at f (r ∷ rs) [] once zip h = absurd zip

module _ (at : Row → State → Type 0) (t u : Table) (s : State) (ps : List State) (it : IsTable t) (iu : IsTable u) (one : AreOfOne t u)
    (live : IsLive at t s) (zip : AllZip (IsPictureOf at) (to_load t u) ps) where
  abbrev left : State
  left = carried (to_drop t u) ps s

  -- what is loaded for a row, or what a row had
  abbrev Had : Row → State → Type 0
  Had r q = IsGiven (to_load t u) ps r q ⊎ (In r t × (q ≡ picture s r.group))

  all_had : IsLive Had u left
  all_had = carried_live Had t u s ps it iu one
      (record { state = live.state; bound = live.bound; apart = live.apart; pictures = λ r m. inr (m, refl) })
      (given_each at Had (to_load t u) ps zip (λ r q h. inl h))

  not_both : (r : Row) → In r (to_load t u) → In r t → ⊥
  not_both r m n = not_true (sym (not_false (is_row_of t r) (filter_in (λ q. not (is_row_of t q)) u r m).1) ∙ of_row t r n)

  pub loaded_pictures : map (λ r. picture left r.group) (to_load t u) ≡ ps
  loaded_pictures = given_all at (λ r. picture left r.group) (to_load t u) ps (once_rows (λ r. not (is_row_of t r)) u iu.rise) zip
      (λ r m. elim (all_had.pictures r (filter_in (λ q. not (is_row_of t q)) u r m).0) [ inl k ↦ k | inr h ↦ absurd (not_both r m h.0) ])

  pub kept_pictures : (r : Row) → In r (to_keep t u) → picture left r.group ≡ picture s r.group
  kept_pictures r m =
      let f = filter_in (λ q. is_row_of t q) u r m in
      let k = row_of t r f.1 in
      let old : In r t = subst (λ q. In q t) (one k.0 r k.1 f.0 (sym k.2) (sym k.3)) k.1 in
      elim (all_had.pictures r f.0) [ inl h ↦ absurd (not_both r (given_in (to_load t u) ps r (picture left r.group) h) old) | inr h ↦ h.1 ]
