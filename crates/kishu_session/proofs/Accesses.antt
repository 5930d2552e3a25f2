-- Which names a record of accesses has once further ones are noted.
use Rattle.std.proofs.Common.{◌≡◌, ◌⊎◌, inl, inr, ⊎_elim, ℕ, List, [], ◌∷◌, ◌++◌, refl, sym, ◌∙◌, ap, subst, append_assoc}
use Rattle.std.specs.Prelude.{◌↔◌}
use Rattle.std.specs.Cmp.Lexicographic.{slice_cmp}
use Rattle.std.specs.Ordering.{is_eq, nat_cmp, match_ordering}
use Rattle.std.specs.declared.cmp.Ordering.{Ordering}
use Rattle.std.specs.declared.cmp.Ordering.TheVariants.{Less, Equal, Greater}
use Rattle.std.proofs.lemmas.Map.Text.{is_eq-slice_cmp}
use Rattle.std.proofs.lemmas.Slice.Eq.{bytes_eq-Decides}
use Rattle.kishu_language.specs.declared.profile.Profile.{Profile}
use Rattle.kishu_meaning.specs.cells.Meaning.{run}
use Rattle.kishu_meaning.specs.moments.Accesses.{with_access, with_accesses}
use Rattle.kishu_meaning.specs.values.Values.{State}
use Rattle.kishu_objects.specs.Lists.{In}
use Rattle.kishu_replay.specs.Replay.{after_cells}
use Rattle.kishu_history.specs.Accessed.{accessed_by}
use Rattle.kishu_session.specs.Running.{AreSameNames}

tied : (x y : List ℕ) → slice_cmp nat_cmp x y ≡ Equal → x ≡ y
tied x y h = (bytes_eq-Decides x y).0 (sym (is_eq-slice_cmp x y) ∙ ap is_eq h)

-- Of the names of a list and this one there are all, and no others.
abbrev HasOneMore : List ℕ → (old new : List (List ℕ)) → Type 0
HasOneMore name old new = (y : List ℕ) → (In y new ↔ (y ≡ name) ⊎ In y old)

one-more-by : (name x : List ℕ) (xs : List (List ℕ)) (o : Ordering) → slice_cmp nat_cmp name x ≡ o → HasOneMore name xs (with_access name xs)
    → HasOneMore name (x ∷ xs) (match_ordering o (name ∷ x ∷ xs) (x ∷ xs) (x ∷ with_access name xs))
one-more-by name x xs Less is rest y = (λ m. m, λ m. m)
one-more-by name x xs Equal is rest y = (
  λ m. inr m,
  λ m. ⊎_elim (λ (e : y ≡ name). inl (e ∙ tied name x is)) (λ (k : In y (x ∷ xs)). k) m,
)
one-more-by name x xs Greater is rest y = (
  λ m. ⊎_elim (λ (e : y ≡ x). inr (inl e)) (λ (k : In y (with_access name xs)).
      ⊎_elim (λ (e : y ≡ name). inl e) (λ (l : In y xs). inr (inr l)) ((rest y).0 k)) m,
  λ m. ⊎_elim (λ (e : y ≡ name). inr ((rest y).1 (inl e)))
      (λ (k : In y (x ∷ xs)). ⊎_elim (λ (e : y ≡ x). inl e) (λ (l : In y xs). inr ((rest y).1 (inr l))) k) m,
)

one-more : (name : List ℕ) (xs : List (List ℕ)) → HasOneMore name xs (with_access name xs)
one-more name [] y = (λ m. m, λ m. m)
one-more name (x ∷ xs) y = one-more-by name x xs (slice_cmp nat_cmp name x) refl (one-more name xs) y

-- the names of both lists
noted : (names xs : List (List ℕ)) (y : List ℕ) → (In y (with_accesses names xs) ↔ In y names ⊎ In y xs)
noted [] xs y = (λ m. inr m, λ m. ⊎_elim (λ (k : ⊥). absurd k) (λ (k : In y xs). k) m)
noted (name ∷ names) xs y =
    let on = noted names (with_access name xs) y in
    let one = one-more name xs y in (
      λ m. ⊎_elim (λ (k : In y names). inl (inr k))
          (λ (k : In y (with_access name xs)). ⊎_elim (λ (e : y ≡ name). inl (inl e)) (λ (l : In y xs). inr l) (one.0 k)) (on.0 m),
      λ m. on.1 (⊎_elim (λ (k : In y (name ∷ names)). ⊎_elim (λ (e : y ≡ name). inr (one.1 (inl e))) (λ (l : In y names). inl l) k)
          (λ (l : In y xs). inr (one.1 (inr l))) m),
    )

in-both : (xs ys : List (List ℕ)) (y : List ℕ) → (In y (xs ++ ys) ↔ In y xs ⊎ In y ys)
in-both [] ys y = (λ m. inr m, λ m. ⊎_elim (λ (k : ⊥). absurd k) (λ (k : In y ys). k) m)
in-both (x ∷ xs) ys y =
    let on = in-both xs ys y in (
      λ m. ⊎_elim (λ (e : y ≡ x). inl (inl e))
          (λ (k : In y (xs ++ ys)). ⊎_elim (λ (l : In y xs). inl (inr l)) (λ (l : In y ys). inr l) (on.0 k)) m,
      λ m. ⊎_elim (λ (k : In y (x ∷ xs)). ⊎_elim (λ (e : y ≡ x). inl e) (λ (l : In y xs). inr (on.1 (inl l))) k)
          (λ (l : In y ys). inr (on.1 (inr l))) m,
    )

-- ---- cells one after another

accessed-more : (profile : Profile) (before : List (List ℕ)) (text : List ℕ) (s : State)
    → accessed_by profile (before ++ (text ∷ [])) s ≡ accessed_by profile before s ++ ((run profile text (after_cells profile before s)).accessed ++ [])
accessed-more profile [] text s = refl
accessed-more profile (c ∷ before) text s =
    ap (λ (l : List (List ℕ)). (run profile c s).accessed ++ l) (accessed-more profile before text (run profile c s).state)
    ∙ sym (append_assoc (run profile c s).accessed (accessed_by profile before (run profile c s).state)
    ((run profile text (after_cells profile before (run profile c s).state)).accessed ++ []))

-- One cell more: its own names are noted behind those of the cells before.
pub same-more : (profile : Profile) (before : List (List ℕ)) (text : List ℕ) (s : State) (names : List (List ℕ)) → AreSameNames names (accessed_by profile before s)
    → AreSameNames (with_accesses (run profile text (after_cells profile before s)).accessed names) (accessed_by profile (before ++ (text ∷ [])) s)
same-more profile before text s names same y =
    let own = (run profile text (after_cells profile before s)).accessed in
    let here = noted own names y in
    let there = in-both (accessed_by profile before s) (own ++ []) y in
    let last = in-both own [] y in
    let is = accessed-more profile before text s in (
      λ m. subst (λ (l : List (List ℕ)). In y l) (sym is)
          (there.1 (⊎_elim (λ (k : In y own). inr (last.1 (inl k))) (λ (k : In y names). inl ((same y).0 k)) (here.0 m))),
      λ m. here.1 (⊎_elim (λ (k : In y (accessed_by profile before s)). inr ((same y).1 k))
          (λ (k : In y (own ++ [])). ⊎_elim (λ (l : In y own). inl l) (λ (l : ⊥). absurd l) (last.0 k))
          (there.0 (subst (λ (l : List (List ℕ)). In y l) is m))),
    )

-- No cell was run, and no name is noted.
pub same-none : (names : List (List ℕ)) → names ≡ [] → AreSameNames names []
same-none names none y = (λ m. subst (λ (l : List (List ℕ)). In y l) none m, λ m. absurd m)

-- one cell, of whose names just its own are noted
pub same-one : (profile : Profile) (text : List ℕ) (s : State) (names : List (List ℕ)) → names ≡ with_accesses (run profile text s).accessed []
    → AreSameNames names (accessed_by profile (text ∷ []) s)
same-one profile text s names is =
    subst (λ (l : List (List ℕ)). AreSameNames l (accessed_by profile (text ∷ []) s)) (sym is) (same-more profile [] text s [] (λ y. (λ m. m, λ m. m)))
