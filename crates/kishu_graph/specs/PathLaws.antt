-- What is kept of the commits on a path, and the path as the definition gives it.
use Rattle.std.proofs.Common.{◌≡◌, ◌<◌, ℕ, suc, List, [], ◌∷◌, ◌++◌, length, map, reverse, refl, sym, ap, ◌∙◌, ⊎_elim, arith}
use Rattle.std.proofs.lemmas.Grind.{reverse_onto}
use Rattle.std.proofs.lemmas.Bool.Decides.{eqb_tells}
use Rattle.std.specs.List.{AllByRecursion}
use Rattle.kishu_store.specs.Graph.{Commit, Numbered, back_in, path_in}
use Rattle.kishu_graph.specs.Kept.{outline_of, outline_in}
use Rattle.kishu_graph.specs.Laws.{outline-older, outline-newest}

-- The commit of that number is this one.
pub record IsNamed (ks : List Commit) (n : Numbered) : Type 0 where
  pub there : n.number < suc (length ks)
  pub is : outline_in ks n.number ≡ outline_of n.commit

one_more : (k : Commit) (ks : List Commit) (ns : List Numbered) → AllByRecursion (IsNamed ks) ns → AllByRecursion (IsNamed (k ∷ ks)) ns
one_more k ks [] all = tt
one_more k ks (n ∷ ns) all = (record { there = omega (arith, all.0.there); is = outline-older k ks n.number all.0.there ∙ all.0.is }, one_more k ks ns all.1)

pub back-named : (ks : List Commit) (c : ℕ) → AllByRecursion (IsNamed ks) (back_in ks c)
back-named [] c = tt
back-named (k ∷ ks) c =
    ⊎_elim
    (λ p. rw p.0 (record { there = omega (arith, p.1); is = outline-newest k ks c p.1 }, one_more k ks (back_in ks k.parent) (back-named ks k.parent)))
    (λ p. rw p.0 (one_more k ks (back_in ks c) (back-named ks c)))
    (eqb_tells c (suc (length ks)))

-- The path is the way back, the other way round.
pub path-back : (ks : List Commit) (c : ℕ) → path_in ks c ≡ reverse (map (λ n. n.commit) (back_in ks c))
path-back [] c = refl
path-back (k ∷ ks) c =
    ⊎_elim
    (λ p. rw p.0 (ap (λ (l : List Commit). l ++ (k ∷ [])) (path-back ks k.parent) ∙ sym (reverse_onto (map (λ (n : Numbered). n.commit) (back_in ks k.parent)) k [])))
    (λ p. rw p.0 (path-back ks c))
    (eqb_tells c (suc (length ks)))
