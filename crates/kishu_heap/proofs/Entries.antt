-- A map in order of insertion finds, sets and takes out its entries as the definitions say.
use Rattle.std.proofs.Common.{◌≡◌, ap, refl, Bool, true, false, cond, List, [], ◌∷◌, map, Option, Some, None}
use Rattle.std.specs.Prelude.{option_map}
use denote.Bor.{Bor}
use Rattle.std.specs.Option.{option_copied}
use Rattle.std.specs.Map.{lookup, remove_entry}
use Rattle.indexmap.specs.IndexMap.{insert_entry}
use Rattle.kishu_meaning.specs.declared.value.Value as rust
use Rattle.kishu_meaning.specs.values.Values.{Value, value_of}
use Rattle.kishu_meaning.specs.values.Nodes.{value_at, with_entry, without_entry}

module _ {K J : Type 0} (key_of : K → J) (is_key : J → J → Bool) where
  abbrev Entry : Type 0
  Entry = K × rust.Value

  abbrev pub seen : List Entry → List (J × Value)
  seen = map (λ e. (key_of e.0, value_of e.1))

  abbrev pub same : K → K → Bool
  same x y = is_key (key_of x) (key_of y)

  found_at : (v : rust.Value) (rest : Option rust.Value) (others : Option Value) (b : Bool) → option_map value_of rest ≡ others → option_map value_of (cond b (Some v) rest) ≡ cond b (Some (value_of v)) others
  found_at v rest others true h = refl
  found_at v rest others false h = h

  pub finds : (k : J) (es : List Entry) → option_map value_of (lookup (λ y. is_key k (key_of y)) es) ≡ value_at is_key k (seen es)
  finds k [] = refl
  finds k (e ∷ es) = found_at e.1 _ _ (is_key k (key_of e.0)) (finds k es)

  set_at : (v : rust.Value) (e : Entry) (es : List Entry) (new : List Entry) (news : List (J × Value)) (b : Bool) → seen new ≡ news
      → seen (cond b ((e.0, v) ∷ es) (e ∷ new)) ≡ cond b ((key_of e.0, value_of v) ∷ seen es) ((key_of e.0, value_of e.1) ∷ news)
  set_at v e es new news true h = refl
  set_at v e es new news false h = ap (λ rest. (key_of e.0, value_of e.1) ∷ rest) h

  pub inserts : (k : K) (v : rust.Value) (es : List Entry) → seen (insert_entry same es k v) ≡ with_entry is_key (key_of k) (value_of v) (seen es)
  inserts k v [] = refl
  inserts k v (e ∷ es) = set_at v e es _ _ (same k e.0) (inserts k v es)

  taken_at : (e : Entry) (es : List Entry) (rest : List Entry) (others : List (J × Value)) (b : Bool) → seen rest ≡ others → seen (cond b es (e ∷ rest)) ≡ cond b (seen es) ((key_of e.0, value_of e.1) ∷ others)
  taken_at e es rest others true h = refl
  taken_at e es rest others false h = ap (λ rest. (key_of e.0, value_of e.1) ∷ rest) h

  pub removes : (k : J) (es : List Entry) → seen (remove_entry (λ y. is_key k (key_of y)) es) ≡ without_entry is_key k (seen es)
  removes k [] = refl
  removes k (e ∷ es) = taken_at e es _ _ (is_key k (key_of e.0)) (removes k es)

pub copied_value : (o : Option (Bor rust.Value)) → option_map (λ v. value_of v.now) o ≡ option_map value_of (option_copied o)
copied_value None = refl
copied_value (Some v) = refl
