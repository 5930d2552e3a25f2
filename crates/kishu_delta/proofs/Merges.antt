-- Lists that are merged: what is in them, and their order.
use Rattle.std.proofs.Common.{◌≡◌, ◌∙◌, ◌⊎◌, ℕ, Bool, true, false, List, [], ◌∷◌, ◌++◌, map, refl, sym, ap, inl, inr}
use Rattle.std.specs.Prelude.{if◌then◌else◌}
use Rattle.std.specs.List.Sorted.{IsStrictlySortedBy}
use Rattle.std.specs.Cmp.Lexicographic.{slice_cmp}
use Rattle.std.specs.Ordering.{nat_cmp, is_lt}
use Rattle.std.specs.declared.cmp.Ordering.{Ordering}
use Rattle.std.specs.declared.cmp.Ordering.TheVariants.{Less, Equal, Greater}
use Rattle.kishu_objects.specs.Lists.{In, Rise}
use Rattle.kishu_store.specs.Groups.{Group, first_name}
use Rattle.kishu_history_laws.specs.Choices.{AllBelow}
use Rattle.kishu_history_laws.specs.states.AlikeLaws.{not_true}
use Rattle.kishu_history_laws.specs.tables.TableLaws.{below_more, equal_names, less_reversed}
use Rattle.kishu_delta.specs.Merged.{comes_before, put_into, merged, IsBehind, Moves, MovesSome}

lt_less : (o : Ordering) → is_lt o ≡ true → o ≡ Less
lt_less Less e = refl
lt_less Equal e = absurd (not_true e)
lt_less Greater e = absurd (not_true e)

not_less : (x y : List ℕ) (o : Ordering) → o ≡ slice_cmp nat_cmp y x → is_lt o ≡ false → (x ≡ y → ⊥) → slice_cmp nat_cmp x y ≡ Less
not_less x y Less e f n = absurd (not_true (sym f))
not_less x y Equal e f n = absurd (n (sym (equal_names y x e)))
not_less x y Greater e f n = less_reversed y x e

module _ {A : Type 0} (group : A → Group) where
  abbrev first : A → List ℕ
  first a = first_name (group a)

  -- ---- what is in them

  in_either : (x y z : A) (rest : List A → List A) (xs ys : List A) (b : Bool) → (In z (put_into group x rest ys) → In z (x ∷ xs) ⊎ In z ys) → (In z (rest (y ∷ ys)) → In z xs ⊎ In z (y ∷ ys))
      → In z (if b then y ∷ put_into group x rest ys else x ∷ rest (y ∷ ys)) → In z (x ∷ xs) ⊎ In z (y ∷ ys)
  in_either x y z rest xs ys true further here (inl e) = inr (inl e)
  in_either x y z rest xs ys true further here (inr m) = elim (further m) [ inl n ↦ inl n | inr n ↦ inr (inr n) ]
  in_either x y z rest xs ys false further here (inl e) = inl (inl e)
  in_either x y z rest xs ys false further here (inr m) = elim (here m) [ inl n ↦ inl (inr n) | inr n ↦ inr n ]

  in_put : (x z : A) (rest : List A → List A) (xs : List A) → ((ys : List A) → In z (rest ys) → In z xs ⊎ In z ys) → (ys : List A) → In z (put_into group x rest ys) → In z (x ∷ xs) ⊎ In z ys
  in_put x z rest xs each [] (inl e) = inl (inl e)
  in_put x z rest xs each [] (inr m) = elim (each [] m) [ inl n ↦ inl (inr n) | inr n ↦ absurd n ]
  in_put x z rest xs each (y ∷ ys) m = in_either x y z rest xs ys (comes_before (group y) (group x)) (in_put x z rest xs each ys) (each (y ∷ ys)) m

  pub in_merged : (z : A) (xs ys : List A) → In z (merged group xs ys) → In z xs ⊎ In z ys
  in_merged z [] ys m = inr m
  in_merged z (x ∷ xs) ys m = in_put x z (merged group xs) xs (in_merged z xs) ys m

  either_in : (x y z : A) (rest : List A → List A) (xs ys : List A) (b : Bool) → (In z (x ∷ xs) ⊎ In z ys → In z (put_into group x rest ys)) → (In z xs ⊎ In z (y ∷ ys) → In z (rest (y ∷ ys)))
      → In z (x ∷ xs) ⊎ In z (y ∷ ys) → In z (if b then y ∷ put_into group x rest ys else x ∷ rest (y ∷ ys))
  either_in x y z rest xs ys true further here (inl n) = inr (further (inl n))
  either_in x y z rest xs ys true further here (inr (inl e)) = inl e
  either_in x y z rest xs ys true further here (inr (inr n)) = inr (further (inr n))
  either_in x y z rest xs ys false further here (inl (inl e)) = inl e
  either_in x y z rest xs ys false further here (inl (inr n)) = inr (here (inl n))
  either_in x y z rest xs ys false further here (inr n) = inr (here (inr n))

  put_in : (x z : A) (rest : List A → List A) (xs : List A) → ((ys : List A) → In z xs ⊎ In z ys → In z (rest ys)) → (ys : List A) → In z (x ∷ xs) ⊎ In z ys → In z (put_into group x rest ys)
  put_in x z rest xs each [] (inl (inl e)) = inl e
  put_in x z rest xs each [] (inl (inr m)) = inr (each [] (inl m))
  put_in x z rest xs each [] (inr m) = absurd m
  put_in x z rest xs each (y ∷ ys) m = either_in x y z rest xs ys (comes_before (group y) (group x)) (put_in x z rest xs each ys) (each (y ∷ ys)) m

  pub merged_in : (z : A) (xs ys : List A) → In z xs ⊎ In z ys → In z (merged group xs ys)
  merged_in z [] ys (inl m) = absurd m
  merged_in z [] ys (inr m) = m
  merged_in z (x ∷ xs) ys m = put_in x z (merged group xs) xs (merged_in z xs) ys m

  -- ---- their order

  -- these come behind a name
  abbrev Below : List ℕ → List A → Type 0
  Below w zs = AllBelow w (map first zs)

  below_either : (w : List ℕ) (x y : A) (rest : List A → List A) (ys : List A) (b : Bool) → Below w (x ∷ rest (y ∷ ys)) → Below w (y ∷ put_into group x rest ys)
      → Below w (if b then y ∷ put_into group x rest ys else x ∷ rest (y ∷ ys))
  below_either w x y rest ys true here further = further
  below_either w x y rest ys false here further = here

  below_put : (w : List ℕ) (x : A) (rest : List A → List A) → slice_cmp nat_cmp w (first x) ≡ Less → ((ys : List A) → Below w ys → Below w (rest ys)) → (ys : List A) → Below w ys → Below w (put_into group x rest ys)
  below_put w x rest l each [] b = (l, each [] b)
  below_put w x rest l each (y ∷ ys) b = below_either w x y rest ys (comes_before (group y) (group x)) (l, each (y ∷ ys) b) (b.0, below_put w x rest l each ys b.1)

  below_merged : (w : List ℕ) (xs ys : List A) → Below w xs → Below w ys → Below w (merged group xs ys)
  below_merged w [] ys a b = b
  below_merged w (x ∷ xs) ys a b = below_put w x (merged group xs) a.0 (λ zs n. below_merged w xs zs a.1 n) ys b

  -- no two have one first name
  abbrev Apart : List A → List A → Type 0
  Apart xs ys = (x y : A) → In x xs → In y ys → first x ≡ first y → ⊥

  rise_either : (x y : A) (xs ys : List A) (b : Bool) → comes_before (group y) (group x) ≡ b → Below (first x) xs → Rise (map first (y ∷ ys)) → (first x ≡ first y → ⊥)
      → Rise (map first (put_into group x (merged group xs) ys)) → Rise (map first (merged group xs (y ∷ ys)))
      → Rise (map first (if b then y ∷ put_into group x (merged group xs) ys else x ∷ merged group xs (y ∷ ys)))
  unfolding IsStrictlySortedBy
  rise_either x y xs ys true e below r apart further here =
      let l : slice_cmp nat_cmp (first y) (first x) ≡ Less = lt_less _ e in
      (below_put (first y) x (merged group xs) l (λ zs n. below_merged (first y) xs zs (below_more (first y) (first x) (map first xs) l below) n) ys r.0, further)
  rise_either x y xs ys false e below r apart further here =
      let l : slice_cmp nat_cmp (first x) (first y) ≡ Less = not_less (first x) (first y) (slice_cmp nat_cmp (first y) (first x)) refl e apart in
      (below_merged (first x) xs (y ∷ ys) below (l, below_more (first x) (first y) (map first ys) l r.0), here)

  rise_put : (x : A) (xs : List A) → Below (first x) xs → ((zs : List A) → Rise (map first zs) → Apart xs zs → Rise (map first (merged group xs zs))) → (ys : List A) → Rise (map first ys) → Apart (x ∷ xs) ys
      → Rise (map first (put_into group x (merged group xs) ys))
  unfolding IsStrictlySortedBy
  rise_put x xs below rises [] r apart = (below_merged (first x) xs [] below tt, rises [] tt (λ a z m n. absurd n))
  rise_put x xs below rises (y ∷ ys) r apart =
      rise_either x y xs ys (comes_before (group y) (group x)) refl below r (apart x y (inl refl) (inl refl))
      (rise_put x xs below rises ys r.1 (λ a z m n. apart a z m (inr n))) (rises (y ∷ ys) r (λ a z m n. apart a z (inr m) n))

  pub rise_merged : (xs ys : List A) → Rise (map first xs) → Rise (map first ys) → Apart xs ys → Rise (map first (merged group xs ys))
  unfolding IsStrictlySortedBy
  rise_merged [] ys a b apart = b
  rise_merged (x ∷ xs) ys a b apart = rise_put x xs a.0 (λ zs r n. rise_merged xs zs a.1 r n) ys b apart

  -- ---- one step of a merge

  -- One that comes before an item goes,
  moves_either : (x y : A) (after : List A → List A) (rest : List A) (b : Bool) → b ≡ true → y ∷ put_into group x after rest ≡ (if b then y ∷ put_into group x after rest else x ∷ after (y ∷ rest))
  moves_either x y after rest true e = refl
  moves_either x y after rest false e = absurd (not_true e)

  append_one : (all : List A) (y : A) (rest : List A) → (all ++ y ∷ []) ++ rest ≡ all ++ (y ∷ rest)
  append_one [] y rest = refl
  append_one (z ∷ all) y rest = ap (λ l. z ∷ l) (append_one all y rest)

  pub moves_on : (x y : A) (all rest all_old rest_old all_new rest_new : List A) → MovesSome group x all rest all_old rest_old → all_new ≡ all_old ++ y ∷ [] → rest_old ≡ y ∷ rest_new → comes_before (group y) (group x) ≡ true
      → MovesSome group x all rest all_new rest_new
  moves_on x y all rest all_old rest_old all_new rest_new before more popped comes after =
      ap (λ l. l ++ put_into group x after rest_new) more
      ∙ append_one all_old y (put_into group x after rest_new)
      ∙ ap (λ l. all_old ++ l) (moves_either x y after rest_new (comes_before (group y) (group x)) comes)
      ∙ ap (λ l. all_old ++ put_into group x after l) (sym popped)
      ∙ before after

  put_behind : (x : A) (after : List A → List A) (rest : List A) → IsBehind group (group x) rest → x ∷ after rest ≡ put_into group x after rest
  put_behind x after [] n = refl
  put_behind x after (y ∷ rest) n = stays (comes_before (group y) (group x)) n
    where
      stays : (b : Bool) → b ≡ false → x ∷ after (y ∷ rest) ≡ (if b then y ∷ put_into group x after rest else x ∷ after (y ∷ rest))
      stays true e = absurd (not_true (sym e))
      stays false e = refl

  -- and where none does any more, they went.
  pub moves_done : (x : A) (all rest all_new rest_old rest_new : List A) → MovesSome group x all rest all_new rest_old → rest_new ≡ rest_old → IsBehind group (group x) rest_old → Moves group x all rest all_new rest_new
  moves_done x all rest all_new rest_old rest_new some same behind after =
      ap (λ l. all_new ++ (x ∷ after l)) same
      ∙ ap (λ l. all_new ++ l) (put_behind x after rest_old behind)
      ∙ some after

  pub moves_none : (x : A) (all rest : List A) → MovesSome group x all rest all rest
  moves_none x all rest after = refl

  -- The item itself comes next.
  pub merged_on : (x : A) (xs all rest all_mid all_new rest_new : List A) → Moves group x all rest all_mid rest_new → all_new ≡ all_mid ++ x ∷ [] → all_new ++ merged group xs rest_new ≡ all ++ merged group (x ∷ xs) rest
  merged_on x xs all rest all_mid all_new rest_new moves is =
      ap (λ l. l ++ merged group xs rest_new) is
      ∙ append_one all_mid x (merged group xs rest_new)
      ∙ moves (merged group xs)
