-- The last thing that is done with a container, apart from what is done before.
use Rattle.std.proofs.Common.{◌≡◌, ◌∙◌, refl, ap, sym, suc, List, [], ◌∷◌, ◌++◌, length}
use Rattle.kishu_language.specs.declared.tree.Expr.{Expr}
use Rattle.kishu_language.specs.trees.Tree.{Trailer, no_trailers, trailers as trailers_from}
use Rattle.kishu_meaning.specs.moments.Moment.{Moment, Ends, fine, raised, stopped, M, and_then, ◌>>=◌}
use Rattle.kishu_meaning.specs.calls.Callees.{Part, settled}
use Rattle.kishu_meaning.specs.cells.Meaning.{Calls, trailer, trailers, place_after, place_by, count}
use Rattle.kishu_language.specs.trees.Parts.{expressions_of}
use Rattle.kishu_statements.proofs.Lists.{same_behind}

-- doing what is left of a chain later
pub in_turn : {A B C : Type 0} (e : Ends A) (f : A → M B) (g : B → M C) → and_then (and_then e f) g ≡ and_then e (λ a s. and_then (f a s) g)
in_turn (fine a s) f g = refl
in_turn (raised x s) f g = refl
in_turn (stopped s) f g = refl

module _ (calls : Calls) where
  pub place_is : (before : List Trailer) (last : Trailer) (p : Part) (s : Moment)
      → place_after calls p (trailers_from (before ++ last ∷ [])) s ≡ and_then (trailers calls p (trailers_from before) s) (λ q. settled q >>= λ v. place_by calls v last)
  place_is [] last p s = refl
  place_is (t ∷ []) last p s =
      same_behind (trailer calls p t s) _ _ (λ q s1. place_is [] last q s1)
      ∙ sym (in_turn (trailer calls p t s) (λ q. trailers calls q no_trailers) (λ q. settled q >>= λ v. place_by calls v last))
  place_is (t ∷ u ∷ ts) last p s =
      same_behind (trailer calls p t s) _ _ (λ q s1. place_is (u ∷ ts) last q s1)
      ∙ sym (in_turn (trailer calls p t s) (λ q. trailers calls q (trailers_from (u ∷ ts))) (λ q. settled q >>= λ v. place_by calls v last))

pub count_is : (es : List Expr) → count (expressions_of es) ≡ length es
count_is [] = refl
count_is (e ∷ es) = ap (λ n. suc n) (count_is es)
