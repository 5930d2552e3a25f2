-- Groups whose names are unbound one after another.
use Rattle.std.specs.Prelude.{◌≡◌, ℕ, ◌+◌, ◌<◌, List, [], ◌∷◌, ◌++◌, length, map, drop, get_or}
use Rattle.std.specs.Rc.{rc_str_bytes}
use Rattle.std.specs.declared.alloc.Global.{Global}
use Rattle.std.specs.declared.rc.RcStr.{RcStr}
use Rattle.std.proofs.Common.{refl, sym, ap, ◌∙◌}
use Rattle.std.proofs.lemmas.List.{drop_more}
use Rattle.kishu_meaning.specs.moments.Accesses.{with_access, with_accesses, unbind}
use Rattle.kishu_meaning.specs.values.Values.{Names}
use Rattle.kishu_names.specs.Record.{texts_of}
use Rattle.kishu_graph.specs.Tables.{group_of}
use Rattle.kishu_graph.specs.declared.tables.Group as rust_group
use Rattle.kishu_history.specs.Checkout.{unbind_all}
use Rattle.kishu_checkout.specs.Plans.{names_of}

unbind_both : (xs ys : List (List ℕ)) (ns : Names) → unbind_all (xs ++ ys) ns ≡ unbind_all ys (unbind_all xs ns)
unbind_both [] ys ns = refl
unbind_both (x ∷ xs) ys ns = unbind_both xs ys (unbind x ns)

access_both : (xs ys old : List (List ℕ)) → with_accesses (xs ++ ys) old ≡ with_accesses ys (with_accesses xs old)
access_both [] ys old = refl
access_both (x ∷ xs) ys old = access_both xs ys (with_access x old)

-- one name more
module _ (xs : List (RcStr Global)) (i : ℕ) (x : RcStr Global) (there : i < length xs) (is : x ≡ get_or xs i x) where
  abbrev after : List (List ℕ)
  after = texts_of (drop (i + 1) xs)

  name_here : texts_of (drop i xs) ≡ rc_str_bytes x ∷ after
  name_here = ap texts_of (drop_more xs i x there ∙ ap (λ y. y ∷ drop (i + 1) xs) (sym is))

  pub name_unbound : (ns new : Names) → new ≡ unbind (rc_str_bytes x) ns → unbind_all (texts_of (drop i xs)) ns ≡ unbind_all after new
  name_unbound ns new e = ap (λ ys. unbind_all ys ns) name_here ∙ ap (unbind_all after) (sym e)

  pub name_accessed : (old new : List (List ℕ)) → new ≡ with_access (rc_str_bytes x) old
      → with_accesses (texts_of (drop i xs)) old ≡ with_accesses after new
  name_accessed old new e = ap (λ ys. with_accesses ys old) name_here ∙ ap (with_accesses after) (sym e)

-- one group more
module _ (gs : List rust_group.Group) (i : ℕ) (g : rust_group.Group) (there : i < length gs) (is : g ≡ get_or gs i g) where
  abbrev rest : List (List ℕ)
  rest = names_of (map group_of (drop (i + 1) gs))

  names_here : names_of (map group_of (drop i gs)) ≡ group_of g ++ rest
  names_here = ap (λ xs. names_of (map group_of xs)) (drop_more gs i g there ∙ ap (λ h. h ∷ drop (i + 1) gs) (sym is))

  pub unbound_next : (ns new : Names) → new ≡ unbind_all (group_of g) ns → unbind_all (names_of (map group_of (drop i gs))) ns ≡ unbind_all rest new
  unbound_next ns new e = ap (λ xs. unbind_all xs ns) names_here ∙ unbind_both (group_of g) rest ns ∙ ap (unbind_all rest) (sym e)

  pub accessed_next : (old new : List (List ℕ)) → new ≡ with_accesses (group_of g) old
      → with_accesses (names_of (map group_of (drop i gs))) old ≡ with_accesses rest new
  accessed_next old new e = ap (λ xs. with_accesses xs old) names_here ∙ access_both (group_of g) rest old ∙ ap (with_accesses rest) (sym e)
