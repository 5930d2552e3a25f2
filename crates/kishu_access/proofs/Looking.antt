-- A map in order of insertion finds its entries as the definitions say.
use denote.Bor.{Bor}
use Rattle.std.proofs.Common.{◌≡◌, ◌∙◌, refl, ap, ℕ, Bool, true, false, cond, ◌&&◌, IsTrue, List, [], ◌∷◌, map, Option, Some, None, Result, Ok, Err, IfOk}
use Rattle.std.specs.Prelude.{option_map, option_and_then, is_some, IfSome}
use Rattle.std.specs.List.{list_all}
use Rattle.std.specs.Map.{lookup}
use Rattle.std.specs.Str.{bytes_eq}
use Rattle.kishu_meaning.specs.declared.value.Value as rust
use Rattle.kishu_meaning.specs.values.Keys.{Key, is_one}
use Rattle.kishu_language.specs.tokens.Names.{is_name}
use Rattle.kishu_meaning.specs.values.Nodes.{value_at, value_under, attribute, dict_in, object_in}
use Rattle.kishu_meaning.specs.values.Sound.{is_sound}
use Rattle.kishu_meaning.specs.values.Values.{Value, value_of, Node}
use Rattle.kishu_items.specs.Holding.{first, second}

module _ {K J : Type 0} (key_of : K → J) (is_key : J → J → Bool) where
  found_at : (v : rust.Value) (rest : Option rust.Value) (others : Option Value) (b : Bool) → option_map value_of rest ≡ others → option_map value_of (cond b (Some v) rest) ≡ cond b (Some (value_of v)) others
  found_at v rest others true h = refl
  found_at v rest others false h = h

  pub finds : (k : J) (es : List (K × rust.Value)) → option_map value_of (lookup (λ y. is_key k (key_of y)) es) ≡ value_at is_key k (map (λ e. (key_of e.0, value_of e.1)) es)
  finds k [] = refl
  finds k (e ∷ es) = found_at e.1 _ _ (is_key k (key_of e.0)) (finds k es)

-- ---- what is found is sound

module _ (n : ℕ) where
  entry_at : (b : Bool) (v w : Value) (rest : Option Value) → Some w ≡ cond b (Some v) rest → IsTrue (is_sound n v) → (Some w ≡ rest → IsTrue (is_sound n w)) → IsTrue (is_sound n w)
  entry_at true v w rest e h f =
      let same : w ≡ v = cc in
      rw same h
  entry_at false v w rest e h f = f e

  entry_sound : (k : Key) (es : List (Key × Value)) (w : Value) → Some w ≡ value_at is_one k es → IsTrue (list_all (λ e. is_sound n e.1) es) → IsTrue (is_sound n w)
  entry_sound k [] w e h = absurd cc
  entry_sound k (x ∷ es) w e h =
      entry_at (is_one k x.0) x.1 w (value_at is_one k es) e (first (is_sound n x.1) _ h) (λ f. entry_sound k es w f (second (is_sound n x.1) _ h))

  maybe_sound : (k : Key) (es : List (Key × Value)) (o : Option rust.Value) → option_map value_of o ≡ value_at is_one k es → IsTrue (list_all (λ e. is_sound n e.1) es) → IfSome o (λ v. IsTrue (is_sound n (value_of v)))
  maybe_sound k es (Some v) e h = entry_sound k es (value_of v) e h
  maybe_sound k es None e h = tt

  pub value_sound : {E : Type 0} (k : Key) (es : List (Key × Value)) (r : Result (Option rust.Value) E) → IfOk r (λ o. option_map value_of o ≡ value_at is_one k es) → IsTrue (list_all (λ e. is_sound n e.1) es) → IfOk r (λ o. IfSome o (λ v. IsTrue (is_sound n (value_of v))))
  value_sound k es (Ok o) e h = maybe_sound k es o e h
  value_sound k es (Err f) e h = tt

  attribute_sound : (is_key : List ℕ → List ℕ → Bool) (x : List ℕ) (es : List (List ℕ × Value)) (w : Value) → Some w ≡ value_at is_key x es → IsTrue (list_all (λ a. is_name a.0 && is_sound n a.1) es) → IsTrue (is_sound n w)
  attribute_sound is_key x [] w e h = absurd cc
  attribute_sound is_key x (a ∷ es) w e h =
      let here = first (is_name a.0 && is_sound n a.1) _ h in
      entry_at (is_key x a.0) a.1 w (value_at is_key x es) e (second (is_name a.0) _ here) (λ f. attribute_sound is_key x es w f (second (is_name a.0 && is_sound n a.1) _ h))

  maybe_attribute : (is_key : List ℕ → List ℕ → Bool) (x : List ℕ) (es : List (List ℕ × Value)) (o : Option rust.Value) → option_map value_of o ≡ value_at is_key x es → IsTrue (list_all (λ a. is_name a.0 && is_sound n a.1) es) → IfSome o (λ v. IsTrue (is_sound n (value_of v)))
  maybe_attribute is_key x es (Some v) e h = attribute_sound is_key x es (value_of v) e h
  maybe_attribute is_key x es None e h = tt

  pub attribute_is_sound : {E : Type 0} (is_key : List ℕ → List ℕ → Bool) (x : List ℕ) (es : List (List ℕ × Value)) (r : Result (Option rust.Value) E) → IfOk r (λ o. option_map value_of o ≡ value_at is_key x es) → IsTrue (list_all (λ a. is_name a.0 && is_sound n a.1) es) → IfOk r (λ o. IfSome o (λ v. IsTrue (is_sound n (value_of v))))
  attribute_is_sound is_key x es (Ok o) e h = maybe_attribute is_key x es o e h
  attribute_is_sound is_key x es (Err f) e h = tt

-- ---- whether it is there

some_same : (o : Option (Bor rust.Value)) (f : Option Value) → option_map (λ v. value_of v.now) o ≡ f → is_some o ≡ is_some f
some_same (Some v) f e = ap (λ (p : Option Value). is_some p) e
some_same None f e = ap (λ (p : Option Value). is_some p) e

pub key_there : (x : Node) (k : Key) (es : List (Key × Value)) (o : Option (Bor rust.Value)) → Some es ≡ dict_in x → option_map (λ v. value_of v.now) o ≡ value_at is_one k es → is_some o ≡ is_some (value_under k x)
key_there x k es o h e = some_same o (value_at is_one k es) e ∙ ap (λ (p : Option (List (Key × Value))). is_some (option_and_then (value_at is_one k) p)) h

pub attribute_there : (x : Node) (y : List ℕ) (es : List (List ℕ × Value)) (o : Option (Bor rust.Value)) → Some es ≡ object_in x → option_map (λ v. value_of v.now) o ≡ value_at bytes_eq y es → is_some o ≡ is_some (attribute y x)
attribute_there x y es o h e = some_same o (value_at bytes_eq y es) e ∙ ap (λ (p : Option (List (List ℕ × Value))). is_some (option_and_then (value_at bytes_eq y) p)) h
