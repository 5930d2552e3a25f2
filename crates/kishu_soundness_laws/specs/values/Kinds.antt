-- The exceptions that tell kinds of values lead from good moments to good ones.
use Rattle.std.specs.Prelude.{ℕ, List, codes, ◌++◌}
use Rattle.std.specs.Str.{chars}
use Rattle.kishu_meaning.specs.moments.Moment.{raise, ◌>>=◌}
use Rattle.kishu_meaning.specs.values.Kinds.{kind_of, kind_in, no_key, not_iterable, in_quotes, bad_index, unhashable, no_attribute, bad_arguments}
use Rattle.kishu_meaning.specs.values.Values.{Value}
use Rattle.kishu_soundness_laws.specs.Below.{Below}
use Rattle.kishu_soundness_laws.specs.moments.Steps.{IsSafe, plain_safe, look_any, raise_safe, throw_safe}

module _ {A : Type 0} {k : ℕ} {Q : ℕ → A → Type 0} where
  pub kind_raise : (v : Value) (kind : ℕ) (f : List ℕ → List ℕ) → IsSafe k Q (kind_of v >>= λ c. raise kind (f c))
  kind_raise v kind f = plain_safe (look_any (λ ns. kind_in ns v)) (λ c. raise_safe kind (f c))

  pub no_key_safe : (v : Value) → Below k v → IsSafe k Q (no_key v)
  no_key_safe v h = throw_safe _ (h, tt)

  pub not_iterable_safe : (v : Value) → IsSafe k Q (not_iterable v)
  not_iterable_safe v = kind_raise v _ (λ c. in_quotes c ++ codes " object is not iterable")

  pub bad_index_safe : (v : Value) → IsSafe k Q (bad_index v)
  bad_index_safe v = kind_raise v _ (λ c. codes "bad index type: " ++ in_quotes c)

  pub unhashable_safe : (v : Value) → IsSafe k Q (unhashable v)
  unhashable_safe v = kind_raise v _ (λ c. codes "unhashable key: " ++ in_quotes c)

  pub no_attribute_safe : (v : Value) (x : List ℕ) → IsSafe k Q (no_attribute v x)
  no_attribute_safe v x = kind_raise v _ (λ c. in_quotes c ++ codes " object has no attribute '" ++ chars x ++ codes "'")

  pub bad_arguments_safe : (name : List ℕ) → IsSafe k Q (bad_arguments name)
  bad_arguments_safe name = raise_safe _ (name ++ codes "() got bad arguments")
