-- Pictures that are taken of groups one after another.
use Rattle.std.specs.Prelude.{◌≡◌, ◌≤◌, ◌<◌, ◌+◌, ℕ, zero, suc, List, [], ◌∷◌, ◌++◌, length, map, take, get_or}
use Rattle.std.specs.declared.alloc.Global.{Global}
use Rattle.std.specs.declared.rc.RcStr.{RcStr}
use Rattle.std.specs.declared.vec.Vec.{Vec}
use Rattle.std.proofs.Common.{refl, ap, sym, ◌∙◌, arith, inl, inr}
use Rattle.std.proofs.Math.Seq.{take-suc}
use Rattle.std.proofs.lemmas.List.{length-map, get_or-map, take_all, map-append}
use Rattle.kishu_groups.specs.Held.{texts_of}
use Rattle.kishu_meaning.specs.values.Values.{State}
use Rattle.kishu_objects.specs.Bytes.{picture_bytes}
use Rattle.kishu_objects.specs.Lists.{In}
use Rattle.kishu_anew.specs.Anew.{contents}

abbrev pub Texts : Type 0
Texts = Vec (RcStr Global) Global

there : (gs : List (List (List ℕ))) (i : ℕ) (g : List (List ℕ)) → i < length gs → g ≡ get_or gs i g → In g gs
there [] i g l e = absurd (omega (arith, l))
there (h ∷ gs) zero g l e = inl e
there (h ∷ gs) (suc i) g l e = inr (there gs i g (omega (arith, l)) e)

module _ (s : State) (groups : List Texts) where
  abbrev texts : List (List (List ℕ))
  texts = map texts_of groups

  -- Of so many groups the pictures were taken.
  abbrev pub AreTaken : ℕ → List (Vec ℕ Global) → Type 0
  AreTaken i pictures = contents pictures ≡ map (picture_bytes s) (take i texts)

  pub taken-none : AreTaken 0 []
  taken-none = refl

  module _ (i : ℕ) (group : Texts) (inside : i < length groups) (is : group ≡ get_or groups i group) where
    in-texts : i < length texts
    in-texts = (let e = length-map groups texts_of in omega (arith, inside, e))

    at-place : texts_of group ≡ get_or texts i (texts_of group)
    at-place = ap texts_of is ∙ sym (get_or-map texts_of groups i group (texts_of group) inside)

    pub group-in : In (texts_of group) texts
    group-in = there texts i (texts_of group) in-texts at-place

    next-texts : take (i + 1) texts ≡ take i texts ++ (texts_of group ∷ [])
    next-texts =
        let next : i + 1 ≡ suc i = omega arith in
        ap (λ n. take n texts) next ∙ take-suc texts i (texts_of group) in-texts ∙ ap (λ g. take i texts ++ (g ∷ [])) (sym at-place)

    pub taken-next : (pictures more : List (Vec ℕ Global)) (p : Vec ℕ Global) → AreTaken i pictures → more ≡ pictures ++ (p ∷ []) → p.items ≡ picture_bytes s (texts_of group) → AreTaken (i + 1) more
    taken-next pictures more p taken is bytes =
        ap contents is
        ∙ map-append (λ (q : Vec ℕ Global). q.items) pictures (p ∷ [])
        ∙ ap (λ xs. xs ++ (p.items ∷ [])) taken
        ∙ ap (λ b. map (picture_bytes s) (take i texts) ++ (b ∷ [])) bytes
        ∙ sym (map-append (picture_bytes s) (take i texts) (texts_of group ∷ []))
        ∙ ap (map (picture_bytes s)) (sym next-texts)

  pub taken-all : (i : ℕ) (pictures : List (Vec ℕ Global)) → length groups ≤ i → AreTaken i pictures → contents pictures ≡ map (picture_bytes s) texts
  taken-all i pictures end taken = (let e = length-map groups texts_of in taken ∙ ap (map (picture_bytes s)) (take_all i texts (omega (arith, end, e))))
