-- The place that a primary is: its container is evaluated before.
use Rattle.std.proofs.Common.{◌≡◌, ◌∙◌, ap, sym, subst, arith, ◌≤◌, List, [], ◌∷◌, ◌++◌, map}
use Rattle.std.proofs.Math.Nat.{le-max_left, le-max_right, max-le}
use Rattle.std.proofs.lemmas.List.{map-append}
use Rattle.kishu_language.specs.declared.tree.Trailer as rust_trailer
use Rattle.kishu_language.specs.trees.Tree.{Expression, Trailer, Trailers, no_trailers, more_trailers, trailers as trailers_from}
use Rattle.kishu_language.specs.trees.Tree as t
use Rattle.kishu_language.specs.trees.Height.{of_trailer, of_trailers}
use Rattle.kishu_language.specs.trees.Fits.{TrailerFits, TrailersFit}
use Rattle.kishu_meaning.specs.moments.Moment.{Moment, Ends, fine, and_then, ◌>>=◌}
use Rattle.kishu_meaning.specs.calls.Callees.{settled}
use Rattle.kishu_meaning.specs.cells.Meaning.{Calls, expr, part, trailers, place, place_after, place_by, no_place, nodes_before_last}
use Rattle.kishu_language.specs.trees.Parts.{trailer_of, trailers_of}
use Rattle.kishu_statements.proofs.Lists.{same_behind}
use Rattle.kishu_statements.proofs.Chains.{in_turn, place_is}

module _ (calls : Calls) (e : Expression) (ts : Trailers) (s s1 : Moment) (h : nodes_before_last ts s ≡ fine tt s1) where
  begun : place calls (t.primary e ts) s ≡ and_then (part calls e (expr calls e) s1) (λ p. place_after calls p ts)
  begun = ap (λ (x : Ends (Unit {0})). and_then (and_then x (λ _. part calls e (expr calls e))) (λ p. place_after calls p ts)) h

  pub place_split : (before : List Trailer) (last : Trailer) → ts ≡ trailers_from (before ++ last ∷ []) → place calls (t.primary e ts) s ≡ and_then ((part calls e (expr calls e) >>= λ p. trailers calls p (trailers_from before)) s1) (λ q. settled q >>= λ v. place_by calls v last)
  place_split before last same =
      begun
      ∙ same_behind (part calls e (expr calls e) s1) (λ p. place_after calls p ts) (λ p s2. and_then (trailers calls p (trailers_from before) s2) (λ q. settled q >>= λ v. place_by calls v last))
      (λ p s2. ap (λ (us : Trailers). place_after calls p us s2) same ∙ place_is calls before last p s2)
      ∙ sym (in_turn (part calls e (expr calls e) s1) (λ p. trailers calls p (trailers_from before)) (λ q. settled q >>= λ v. place_by calls v last))

  pub place_none : ts ≡ no_trailers → place calls (t.primary e ts) s ≡ and_then ((part calls e (expr calls e) >>= λ p. trailers calls p no_trailers) s1) (λ q. no_place)
  place_none same =
      begun
      ∙ same_behind (part calls e (expr calls e) s1) (λ p. place_after calls p ts) (λ p s2. and_then (trailers calls p no_trailers s2) (λ q. no_place))
      (λ p s2. ap (λ (us : Trailers). place_after calls p us s2) same)
      ∙ sym (in_turn (part calls e (expr calls e) s1) (λ p. trailers calls p no_trailers) (λ q. no_place))

-- ---- the trailers before the last one

pub split_trailers : (all before : List rust_trailer.Trailer) (last : rust_trailer.Trailer) → all ≡ before ++ last ∷ [] → trailers_of all ≡ trailers_from (map trailer_of before ++ trailer_of last ∷ [])
split_trailers all before last same = ap trailers_of same ∙ ap trailers_from (map-append trailer_of before (last ∷ []))

low_before : (before : List Trailer) (last : Trailer) → of_trailers (trailers_from before) ≤ of_trailers (trailers_from (before ++ last ∷ []))
low_before [] last = omega arith
low_before (t ∷ ts) last =
    let n = of_trailers (trailers_from (ts ++ last ∷ [])) in
    max-le (le-max_left (of_trailer t) n) (omega (arith, low_before ts last, le-max_right (of_trailer t) n))

low_last : (before : List Trailer) (last : Trailer) → of_trailer last ≤ of_trailers (trailers_from (before ++ last ∷ []))
low_last [] last = le-max_left (of_trailer last) 0
low_last (t ∷ ts) last = omega (arith, low_last ts last, le-max_right (of_trailer t) (of_trailers (trailers_from (ts ++ last ∷ []))))

fits_before : (before : List Trailer) (last : Trailer) → TrailersFit (trailers_from (before ++ last ∷ [])) → TrailersFit (trailers_from before)
fits_before [] last f = tt
fits_before (t ∷ ts) last f = (f.0, fits_before ts last f.1)

fits_last : (before : List Trailer) (last : Trailer) → TrailersFit (trailers_from (before ++ last ∷ [])) → TrailerFits last
fits_last [] last f = f.0
fits_last (t ∷ ts) last f = fits_last ts last f.1

module _ (all before : List rust_trailer.Trailer) (last : rust_trailer.Trailer) (same : all ≡ before ++ last ∷ []) where
  pub before_low : of_trailers (trailers_of before) ≤ of_trailers (trailers_of all)
  before_low = subst (λ (ts : Trailers). of_trailers (trailers_of before) ≤ of_trailers ts) (sym (split_trailers all before last same)) (low_before (map trailer_of before) (trailer_of last))

  pub last_low : of_trailer (trailer_of last) ≤ of_trailers (trailers_of all)
  last_low = subst (λ (ts : Trailers). of_trailer (trailer_of last) ≤ of_trailers ts) (sym (split_trailers all before last same)) (low_last (map trailer_of before) (trailer_of last))

  pub before_fits : TrailersFit (trailers_of all) → TrailersFit (trailers_of before)
  before_fits f = fits_before (map trailer_of before) (trailer_of last) (subst (λ (ts : Trailers). TrailersFit ts) (split_trailers all before last same) f)

  pub last_fits : TrailersFit (trailers_of all) → TrailerFits (trailer_of last)
  last_fits f = fits_last (map trailer_of before) (trailer_of last) (subst (λ (ts : Trailers). TrailersFit ts) (split_trailers all before last same) f)
