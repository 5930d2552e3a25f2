-- Keys that were seen: a map finds those alone, and a new one goes last.
use Rattle.std.specs.Prelude.{◌≡◌, ℕ, ◌+◌, length, Bool, true, false, cond, ◌&&◌, ◌||◌, List, [], ◌∷◌, ◌++◌, map, Option, Some, is_some}
use Rattle.std.specs.List.{list_any, list_all}
use Rattle.std.specs.Map.{lookup}
use Rattle.std.proofs.Common.{refl, sym, ap, ◌∙◌, length-append}
use Rattle.std.proofs.lemmas.Bool.{true≢false}
use Rattle.indexmap.specs.IndexMap.{insert_entry}
use Rattle.kishu_meaning.specs.declared.value.Value as rust
use Rattle.kishu_meaning.specs.values.Values.{Value, value_of}
use Rattle.kishu_loading.specs.Seen.{seen_from}

or_turned : (a b d : Bool) → (a || (b || d)) ≡ ((b || a) || d)
or_turned true true d = refl
or_turned true false d = refl
or_turned false true d = refl
or_turned false false d = refl

or_false : (a b : Bool) → (a || b) ≡ false → (a ≡ false) × (b ≡ false)
or_false true b e = absurd (true≢false e)
or_false false b e = (refl, e)

or_none : (a : Bool) → (a || false) ≡ a
or_none true = refl
or_none false = refl

module _ {J : Type 0} (test : J → Bool) where
  any_seen : (ds : List (J × Value)) (seen : List J) → list_any test (seen_from ds seen) ≡ (list_any (λ (d : J × Value). test d.0)
      ds || list_any test seen)
  any_seen [] seen = refl
  any_seen (d ∷ ds) seen = any_seen ds (d.0 ∷ seen) ∙ or_turned (list_any (λ (d : J × Value). test d.0) ds) (test d.0) (list_any test seen)

module _ {K J : Type 0} (key_of : K → J) (is_key : J → J → Bool) where
  abbrev listed : List (K × rust.Value) → List (J × Value)
  listed = map (λ e. (key_of e.0, value_of e.1))

  abbrev same : K → K → Bool
  same x y = is_key (key_of x) (key_of y)

  some_at : (b : Bool) (v : rust.Value) (o : Option rust.Value) (a : Bool) → is_some o ≡ a → is_some (cond b (Some v) o) ≡ (b || a)
  some_at true v o a e = refl
  some_at false v o a e = e

  found_first : (k : J) (es : List (K × rust.Value)) → is_some (lookup (λ y. is_key k (key_of y)) es) ≡ list_any (λ (d : J × Value).
      is_key k d.0) (listed es)
  found_first k [] = refl
  found_first k (e ∷ es) = some_at (is_key k (key_of e.0)) e.1 _ _ (found_first k es)

  -- It is found exactly where it was seen.
  pub found_seen : (k : J) (es : List (K × rust.Value)) → is_some (lookup (λ y. is_key k (key_of y)) es) ≡ list_any (is_key k) (seen_from
      (listed es) [])
  found_seen k es = found_first k es ∙ sym (or_none (list_any (λ (d : J × Value). is_key k d.0) (listed es)))
      ∙ sym (any_seen (is_key k) (listed es) [])

  behind : (k : K) (v : rust.Value) (es : List (K × rust.Value)) → list_any (λ (d : J × Value). is_key (key_of k) d.0) (listed es) ≡ false
      → listed (insert_entry same es k v) ≡ listed es ++ (key_of k, value_of v) ∷ []
  behind k v [] h = refl
  behind k v (e ∷ es) h =
      let both = or_false (same k e.0) (list_any (λ (d : J × Value). is_key (key_of k) d.0) (listed es)) h in
      ap (λ b. listed (cond b ((e.0, v) ∷ es) (e ∷ insert_entry same es k v))) both.0
      ∙ ap (λ ds. (key_of e.0, value_of e.1) ∷ ds) (behind k v es both.1)

  -- One that wasn't seen goes last.
  pub goes_last : (k : K) (v : rust.Value) (es : List (K × rust.Value)) → list_any (is_key (key_of k)) (seen_from (listed es) []) ≡ false
      → listed (insert_entry same es k v) ≡ listed es ++ (key_of k, value_of v) ∷ []
  goes_last k v es h =
      behind k v es (sym (or_none (list_any (λ (d : J × Value). is_key (key_of k) d.0) (listed es)))
      ∙ sym (any_seen (is_key (key_of k)) (listed es) []) ∙ h)

-- what holds of each holds of each with one more
more_at : {A : Type 0} (test : A → Bool) (ys zs : List A) (b : Bool) → (list_all test ys ≡ true → list_all test zs ≡ true)
    → (b && list_all test ys) ≡ true → (b && list_all test zs) ≡ true
more_at test ys zs true h e = h e
more_at test ys zs false h e = e

pub all_more : {A : Type 0} (test : A → Bool) (xs : List A) (x : A) → list_all test xs ≡ true → test x ≡ true → list_all test (xs ++ x ∷ []) ≡ true
all_more test [] x h t = ap (λ b. b && true) t
all_more test (y ∷ ys) x h t = more_at test ys (ys ++ x ∷ []) (test y) (λ e. all_more test ys x e t) h

-- a list with one more, as what it stands for
map_one : {A B : Type 0} (view : A → B) (xs : List A) (x : A) → map view (xs ++ x ∷ []) ≡ map view xs ++ view x ∷ []
map_one view [] x = refl
map_one view (y ∷ ys) x = ap (λ l. view y ∷ l) (map_one view ys x)

pub map_more : {A B : Type 0} (view : A → B) (new old : List A) (x : A) → new ≡ old ++ x ∷ [] → map view new ≡ map view old ++ view x ∷ []
map_more view new old x e = ap (map view) e ∙ map_one view old x

-- what holds of each of a longer list, as what it stands for
pub all_push : {A B : Type 0} (test : B → Bool) (view : A → B) (new old : List A) (x : A) → new ≡ old ++ x ∷ []
    → list_all test (map view old) ≡ true → test (view x) ≡ true → list_all test (map view new) ≡ true
all_push test view new old x e h t = ap (list_all test) (map_more view new old x e) ∙ all_more test (map view old) (view x) h t

pub one_longer : {A : Type 0} (new old : List A) (x : A) (n : ℕ) → new ≡ old ++ x ∷ [] → length old ≡ n → length new ≡ n + 1
one_longer new old x n e h = ap length e ∙ length-append old (x ∷ []) ∙ ap (λ k. k + 1) h
