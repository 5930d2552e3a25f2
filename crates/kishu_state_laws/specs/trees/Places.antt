-- The rules of places and targets with anything else where the definition has what the tree of no text has: at a place and at a target they are the same, so that isn't met.
use Rattle.std.specs.Prelude.{◌≡◌, ℕ, Bool, true, false, ◌&&◌, IsTrue, List, [], ◌∷◌, Some}
use Rattle.std.specs.Str.{chars}
use Rattle.std.proofs.Common.{refl, ap}
use Rattle.kishu_language.specs.declared.profile.Profile.{Profile}
use Rattle.kishu_language.specs.grammar.Targets.{is_place, is_target, are_targets, ends_in_place, is_place_trailer}
use Rattle.kishu_language.specs.reading.ReadText.{read_chars}
use Rattle.kishu_language.specs.trees.Tree.{Text, Expression, Expressions, Trailer, Trailers, Definition, no_expressions, more_expressions, no_trailers, more_trailers}
use Rattle.kishu_language.specs.trees.Tree as t
use Rattle.kishu_meaning.specs.values.Values.{Value}
use Rattle.kishu_meaning.specs.moments.Moment.{M, ◌>>=◌, ◌>>◌, give, deeper}
use Rattle.kishu_meaning.specs.items.Walks.{unpacked}
use Rattle.kishu_meaning.specs.calls.Callees.{Part, settled}
use Rattle.kishu_meaning.specs.calls.Functions.{function_in}
use Rattle.kishu_meaning.specs.cells.Meaning.{Calls, Place, named, attribute_of, item_of, store_in, nodes_before_last, count, expr, part, trailer, place_by, place_after, place, store, store_each}
use Rattle.kishu_objects.specs.State.{IsCode}

module _ (calls : Calls) (other : M Place) where
  abbrev pub place_by_or : Value → Trailer → M Place
  place_by_or v (t.attribute x) = give (attribute_of v x)
  place_by_or v (t.index e) = deeper (expr calls e) >>= λ i. give (item_of v i)
  place_by_or v (t.call es) = other
  place_by_or v (t.slice start stop step) = other

  abbrev pub place_after_or : Part → Trailers → M Place
  place_after_or p no_trailers = other
  place_after_or p (more_trailers last no_trailers) = settled p >>= λ v. place_by_or v last
  place_after_or p (more_trailers first (more_trailers next ts)) = trailer calls p first >>= λ q. place_after_or q (more_trailers next ts)

  abbrev pub place_or : Expression → M Place
  place_or (t.name x) = give (named x)
  place_or (t.primary e ts) = nodes_before_last ts >> part calls e (expr calls e) >>= λ p. place_after_or p ts
  place_or _ = other

  same_by : (v : Value) (last : Trailer) → IsTrue (is_place_trailer last) → place_by_or v last ≡ place_by calls v last
  same_by v (t.attribute x) is = refl
  same_by v (t.index e) is = refl
  same_by v (t.call es) is = absurd cc
  same_by v (t.slice start stop step) is = absurd cc

  same_after : (ts : Trailers) → IsTrue (ends_in_place ts) → (p : Part) → place_after_or p ts ≡ place_after calls p ts
  same_after no_trailers is p = absurd cc
  same_after (more_trailers last no_trailers) is p = λ i. settled p >>= λ v. same_by v last is i
  same_after (more_trailers first (more_trailers next ts)) is p = λ i. trailer calls p first >>= λ q. same_after (more_trailers next ts) is q i

  pub same_place : (e : Expression) → IsTrue (is_place e) → place_or e ≡ place calls e
  same_place (t.name x) is = refl
  same_place (t.primary e ts) is = λ i. nodes_before_last ts >> part calls e (expr calls e) >>= λ p. same_after ts is p i
  same_place e is = absurd cc

  module _ (nothing : M (Unit {0})) where
    abbrev mutual
      pub store_or : Expression → Value → M (Unit {0})
      store_or (t.paren e) v = deeper (store_or e v)
      store_or (t.tuple es) v = unpacked (count es) v >>= store_each_or es
      store_or (t.list es) v = deeper (unpacked (count es) v >>= store_each_or es)
      store_or (t.name x) v = place_or (t.name x) >>= λ p. store_in p v
      store_or (t.primary e ts) v = place_or (t.primary e ts) >>= λ p. store_in p v
      store_or _ v = nothing

      pub store_each_or : Expressions → List Value → M (Unit {0})
      store_each_or (more_expressions e es) (v ∷ vs) = store_or e v >> store_each_or es vs
      store_each_or _ _ = give tt

    abbrev AreTargets : Expressions → Type 0
    AreTargets no_expressions = Unit {0}
    AreTargets (more_expressions e es) = IsTrue (is_target e) × AreTargets es

    both : (a b : Bool) → IsTrue (a && b) → IsTrue a × IsTrue b
    both true b h = (refl, h)
    both false b h = absurd cc

    each_target : (es : Expressions) → IsTrue (are_targets es) → AreTargets es
    each_target no_expressions is = absurd cc
    each_target (more_expressions e no_expressions) is = (is, tt)
    each_target (more_expressions e (more_expressions f es)) is = let p = both (is_target e) (are_targets (more_expressions f es)) is in (p.0, each_target (more_expressions f es) p.1)

    mutual
      pub same_store : (e : Expression) → IsTrue (is_target e) → (v : Value) → store_or e v ≡ store calls e v
      same_store (t.paren e) is v = λ i. deeper (same_store e is v i)
      same_store (t.tuple es) is v = λ i. unpacked (count es) v >>= λ vs. same_each es (each_target es is) vs i
      same_store (t.list es) is v = λ i. deeper (unpacked (count es) v >>= λ vs. same_each es (each_target es is) vs i)
      same_store (t.name x) is v = refl
      same_store (t.primary e ts) is v = λ i. same_place (t.primary e ts) is i >>= λ p. store_in p v
      same_store e is v = absurd cc

      same_each : (es : Expressions) → AreTargets es → (vs : List Value) → store_each_or es vs ≡ store_each calls es vs
      same_each (more_expressions e es) is (v ∷ vs) = λ i. same_store e is.0 v i >> same_each es is.1 vs i
      same_each (more_expressions e es) is [] = refl
      same_each no_expressions is vs = refl

-- The code of a function reads as one.
pub code_function : (profile : Profile) (code : Text) (n : ℕ) → IsCode profile code n → (d : Definition) × (function_in (read_chars profile (chars code)) ≡ Some d)
code_function profile code n c = (c.function, ap function_in c.reads)
