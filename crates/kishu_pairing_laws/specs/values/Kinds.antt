-- Kinds of values are equal on both sides, and so are the exceptions that tell them.
use Rattle.std.specs.Prelude.{◌≡◌, Option, List, ℕ, codes, ◌++◌}
use Rattle.std.specs.Str.{chars}
use Rattle.std.proofs.Common.{refl}
use Rattle.kishu_meaning.specs.moments.Moment.{Moment, raise, ◌>>=◌}
use Rattle.kishu_meaning.specs.values.Kinds.{node_kind, kind_at, kind_in, kind_of, no_key, not_iterable, in_quotes, bad_index, unhashable, no_attribute, bad_arguments}
use Rattle.kishu_meaning.specs.values.Values.{Node, Value, node}
use Rattle.kishu_pairing_laws.specs.World.{World, SameNode, lists, tuples, dicts, objects, functions, exceptions, BothOrNeither, neither, both, IsPlain, SameValue, SameMoment, plain, paired, GoQuietly, Is, both_fresh, cons, nil}
use Rattle.kishu_pairing_laws.specs.moments.Steps.{look_quiet, bind_is, raise_quiet, throw_quiet}

module _ (W : World) where
  -- ---- kinds

  pub node_kinds : {a b : Node} → SameNode W a b → node_kind a ≡ node_kind b
  node_kinds (lists z) = refl
  node_kinds (tuples z) = refl
  node_kinds (dicts z) = refl
  node_kinds (objects z) = refl
  node_kinds (functions profile code z) = refl
  node_kinds (exceptions kind z) = refl

  kinds_at : {o p : Option Node} → BothOrNeither (SameNode W) o p → kind_at o ≡ kind_at p
  kinds_at neither = refl
  kinds_at (both h) = node_kinds h

  plain_kind : (ns ms : List Node) (v : Value) → IsPlain v → kind_in ns v ≡ kind_in ms v
  plain_kind ns ms (node i) p = absurd p
  plain_kind ns ms v p = refl

  pub kinds_in : {v w : Value} {s t : Moment} → SameValue W v w → SameMoment W s t → kind_in s.nodes v ≡ kind_in t.nodes w
  kinds_in {s = s} {t = t} (plain v p) st = plain_kind s.nodes t.nodes v p
  kinds_in (paired i j p) st = kinds_at (st.heaps.closed i j p)

  pub kind_quiet : {v w : Value} → SameValue W v w → GoQuietly W Is (kind_of v) (kind_of w)
  kind_quiet vw = look_quiet W _ _ (λ s t st. kinds_in vw st)

  -- ---- exceptions

  module _ {A B : Type 0} {R : A → B → Type 0} where
    pub by_kind : {v w : Value} (kind : ℕ) (message : List ℕ → List ℕ) → SameValue W v w → GoQuietly W R (kind_of v >>= λ k. raise kind (message k)) (kind_of w >>= λ k. raise kind (message k))
    by_kind kind message vw = bind_is W (kind_quiet vw) (λ k. raise_quiet W kind (message k))

    pub no_key_quiet : {v w : Value} → SameValue W v w → GoQuietly W R (no_key v) (no_key w)
    no_key_quiet vw = throw_quiet W (both_fresh _ (cons vw nil))

    pub not_iterable_quiet : {v w : Value} → SameValue W v w → GoQuietly W R (not_iterable v) (not_iterable w)
    not_iterable_quiet vw = by_kind 23 (λ k. in_quotes k ++ codes " object is not iterable") vw

    pub bad_index_quiet : {v w : Value} → SameValue W v w → GoQuietly W R (bad_index v) (bad_index w)
    bad_index_quiet vw = by_kind 23 (λ k. codes "bad index type: " ++ in_quotes k) vw

    pub unhashable_quiet : {v w : Value} → SameValue W v w → GoQuietly W R (unhashable v) (unhashable w)
    unhashable_quiet vw = by_kind 23 (λ k. codes "unhashable key: " ++ in_quotes k) vw

    pub no_attribute_quiet : {v w : Value} (x : List ℕ) → SameValue W v w → GoQuietly W R (no_attribute v x) (no_attribute w x)
    no_attribute_quiet x vw = by_kind 13 (λ k. in_quotes k ++ codes " object has no attribute '" ++ chars x ++ codes "'") vw

module _ (W : World) where
  pub bad_arguments_quiet : {A B : Type 0} {R : A → B → Type 0} (name : List ℕ) → GoQuietly W R (bad_arguments name) (bad_arguments name)
  bad_arguments_quiet name = raise_quiet W _ (name ++ codes "() got bad arguments")
