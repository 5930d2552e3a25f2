-- How what was chosen grows by one item, and what is left to choose from.
use Rattle.std.proofs.Common.{◌≡◌, ◌<◌, ◌≤◌, ℕ, zero, suc, ◌+◌, Bool, true, false, ◌&&◌, ◌⊎◌, List, [], ◌∷◌, ◌++◌, length, map, drop, get_or, refl, sym, ap, ◌∙◌, subst, inl, inr, arith}
use Rattle.std.specs.Prelude.{◌||◌, if◌then◌else◌, filter, slice_get, Option, Some, None}
use Rattle.std.proofs.lemmas.Bool.{cases_Bool}
use Rattle.std.proofs.lemmas.Option.{none-some, same_Some}
use Rattle.kishu_graph.specs.Kept.{row_of}
use Rattle.kishu_graph.specs.declared.tables.TableRow.{TableRow}
use Rattle.kishu_objects.specs.Lists.{In}
use Rattle.kishu_store.specs.Groups.{Group, is_group, is_one_of}
use Rattle.kishu_store.specs.Tables.{groups_in}
use Rattle.kishu_history_laws.specs.Choices.{group_decides}
use Rattle.kishu_delta.specs.Compared.{AreKnown, IsPlace, is_known}
use Rattle.kishu_delta.specs.Found.{Puts, found}
use Rattle.kishu_delta.proofs.Sizes.{behind}

pub rest_here : {A : Type 0} (xs : List A) (i : ℕ) (x : A) → i < length xs → x ≡ get_or xs i x → drop i xs ≡ x ∷ drop (i + 1) xs
rest_here [] i x l e = absurd (omega arith)
rest_here (y ∷ ys) zero x l e = ap (λ z. z ∷ ys) (sym e)
rest_here (y ∷ ys) (suc i) x l e =
    let k = rest_here ys i x (omega arith) e in
    let f : suc i + 1 ≡ suc (i + 1) = omega arith in
    k ∙ ap (λ j. x ∷ drop j (y ∷ ys)) (sym f)

-- a group that isn't among these is another than those that are
other_known : (g r : Group) (rest stand : List Group) → is_one_of r stand ≡ false → is_known (r ∷ rest) stand g ≡ is_known rest stand g
other_known g r rest stand n = elim (cases_Bool (is_group g r)) [
  | inl e ↦ (let f : is_one_of g stand ≡ false = ap (λ h. is_one_of h stand) ((group_decides g r).0 e) ∙ n in rw (e, f) (sym (never (is_one_of g rest))))
  | inr e ↦ rw e refl
]
  where
    never : (b : Bool) → (b && false) ≡ false
    never true = refl
    never false = refl

-- Of a table's groups these are left: of those before the group's place is known, or it isn't among both.
abbrev pub IsKnownFrom : (gs rest stand : List Group) → Group → Option ℕ → Type 0
IsKnownFrom gs rest stand g None = is_known gs stand g ≡ is_known rest stand g
IsKnownFrom gs rest stand g (Some i) = (slice_get gs i ≡ Some g) × (is_one_of g stand ≡ true)

-- The first is left out,
known_past : (gs rest stand : List Group) (g r : Group) (o : Option ℕ) → is_one_of r stand ≡ false → IsKnownFrom gs (r ∷ rest) stand g o → IsKnownFrom gs rest stand g o
known_past gs rest stand g r None n k = k ∙ other_known g r rest stand n
known_past gs rest stand g r (Some i) n k = k

pub known_left : (gs rest stand : List Group) (g r : Group) (places : List (Group × ℕ)) → is_one_of r stand ≡ false → IsKnownFrom gs (r ∷ rest) stand g (found places g) → IsKnownFrom gs rest stand g (found places g)
known_left gs rest stand g r places n k = known_past gs rest stand g r (found places g) n k

-- or is put in.
known_in : (gs rest stand : List Group) (g r : Group) (i : ℕ) (o : Option ℕ) (b : Bool) → is_group g r ≡ b → slice_get gs i ≡ Some r → is_one_of r stand ≡ true → IsKnownFrom gs (r ∷ rest) stand g o
    → IsKnownFrom gs rest stand g (if b then Some i else o)
known_in gs rest stand g r i o true e at n k =
    let one = (group_decides g r).0 e in
    (at ∙ ap (λ h. Some h) (sym one), ap (λ h. is_one_of h stand) one ∙ n)
known_in gs rest stand g r i None false e at n k = k ∙ ap (λ b. (b || is_one_of g rest) && is_one_of g stand) e
known_in gs rest stand g r i (Some j) false e at n k = k

pub known_put : (gs rest stand : List Group) (g r : Group) (i : ℕ) (old new : List (Group × ℕ)) → Puts r i old new → slice_get gs i ≡ Some r → is_one_of r stand ≡ true
    → IsKnownFrom gs (r ∷ rest) stand g (found old g) → IsKnownFrom gs rest stand g (found new g)
known_put gs rest stand g r i old new put at n k = subst (λ o. IsKnownFrom gs rest stand g o) (sym (put g)) (known_in gs rest stand g r i (found old g) (is_group g r) refl at n k)

-- At the end none is left.
known_end : (gs stand : List Group) (g : Group) (o : Option ℕ) → IsKnownFrom gs [] stand g o → IsPlace gs stand g o
known_end gs stand g None k = k
known_end gs stand g (Some i) k = k

pub known_all : (gs stand : List Group) (places : List (Group × ℕ)) → ((g : Group) → IsKnownFrom gs [] stand g (found places g)) → AreKnown gs stand places
known_all gs stand places k g = known_end gs stand g (found places g) (k g)

pub known_none : (gs stand : List Group) (places : List (Group × ℕ)) → ((g : Group) → found places g ≡ None) → (g : Group) → IsKnownFrom gs gs stand g (found places g)
known_none gs stand places none g = subst (λ o. IsKnownFrom gs gs stand g o) (sym (none g)) refl

moved : (a k b : Bool) → ((a || k) || b) ≡ (k || (a || b))
moved true true b = refl
moved true false b = refl
moved false k b = refl

-- The same of the names of a group that holds an accessed name or none.
pub near_other : (h i k b : Bool) → h ≡ false → (k || b) ≡ (k || ((h && i) || b))
near_other h i k b e = rw e refl

pub near_one : (h i k b : Bool) → h ≡ true → ((i || k) || b) ≡ (k || ((h && i) || b))
near_one h i k b e = rw e (moved i k b)

-- ---- rows by their places

pub rows_here : (rows : List TableRow) (i : ℕ) (row : TableRow) → i < length rows → row ≡ get_or rows i row
    → (drop i (groups_in (map row_of rows)) ≡ (row_of row).group ∷ drop (i + 1) (groups_in (map row_of rows))) × (slice_get (groups_in (map row_of rows)) i ≡ Some (row_of row).group)
rows_here [] i row l e = absurd (omega arith)
rows_here (q ∷ rows) zero row l e = (ap (λ (r : TableRow). (row_of r).group ∷ groups_in (map row_of rows)) (sym e), ap (λ (r : TableRow). Some (row_of r).group) (sym e))
rows_here (q ∷ rows) (suc i) row l e =
    let k = rows_here rows i row (omega arith) e in
    let f : suc i + 1 ≡ suc (i + 1) = omega arith in
    (k.0 ∙ ap (λ j. (row_of row).group ∷ drop j ((row_of q).group ∷ groups_in (map row_of rows))) (sym f), k.1)

pub none_left : (rows : List TableRow) (i : ℕ) → length rows ≤ i → drop i (groups_in (map row_of rows)) ≡ []
none_left [] zero l = refl
none_left [] (suc i) l = refl
none_left (q ∷ rows) zero l = absurd (omega (arith, l))
none_left (q ∷ rows) (suc i) l = none_left rows i (omega (arith, l))

pub within : (rows : List TableRow) (i : ℕ) (g : Group) → slice_get (groups_in (map row_of rows)) i ≡ Some g → i < length rows
within [] i g e = absurd (none-some _ e)
within (q ∷ rows) zero g e = omega arith
within (q ∷ rows) (suc i) g e = (let k = within rows i g e in omega (arith, k))

pub within_one : (gs : List Group) (i : ℕ) (g : Group) → slice_get gs i ≡ Some g → is_one_of g gs ≡ true
within_one [] i g e = absurd (none-some _ e)
within_one (h ∷ gs) zero g e = (let f : g ≡ h = sym (same_Some _ _ e) in ap (λ b. b || is_one_of g gs) ((group_decides g h).1 f))
within_one (h ∷ gs) (suc i) g e = ap (λ b. is_group g h || b) (within_one gs i g e) ∙ always (is_group g h)
  where
    always : (b : Bool) → (b || true) ≡ true
    always true = refl
    always false = refl

pub known_at : (gs stand : List Group) (g : Group) (i : ℕ) (o : Option ℕ) → o ≡ Some i → IsPlace gs stand g o → slice_get gs i ≡ Some g
known_at gs stand g i None e k = absurd (none-some _ e)
known_at gs stand g i (Some j) e k = subst (λ n. slice_get gs n ≡ Some g) (same_Some _ _ e) k.0

pub known_yes : (gs stand : List Group) (g : Group) (i : ℕ) (o : Option ℕ) → o ≡ Some i → IsPlace gs stand g o → is_known gs stand g ≡ true
known_yes gs stand g i None e k = absurd (none-some _ e)
known_yes gs stand g i (Some j) e k = ap (λ b. b && is_one_of g stand) (within_one gs j g k.0) ∙ k.1

pub known_no : (gs stand : List Group) (g : Group) (o : Option ℕ) → o ≡ None → IsPlace gs stand g o → is_known gs stand g ≡ false
known_no gs stand g None e k = k
known_no gs stand g (Some j) e k = absurd (none-some _ (sym e))

-- ---- lists that are parted

pub part_more : {A B C : Type 0} (f : A → C) (g : B → C) (p : C → Bool) (old new : List A) (a : A) (items rest : List B) (b : B) → new ≡ old ++ a ∷ [] → items ≡ b ∷ rest → f a ≡ g b → p (g b) ≡ true
    → map f new ++ filter p (map g rest) ≡ map f old ++ filter p (map g items)
part_more f g p old new a items rest b is next same taken_is =
    ap (λ l. map f l ++ filter p (map g rest)) is
    ∙ behind f old a (filter p (map g rest))
    ∙ ap (λ c. map f old ++ (c ∷ filter p (map g rest))) same
    ∙ ap (λ l. map f old ++ l) (taken g p rest b taken_is)
    ∙ ap (λ l. map f old ++ filter p (map g l)) (sym next)
  where
    taken : {B C : Type 0} (g : B → C) (p : C → Bool) (rest : List B) (b : B) → p (g b) ≡ true → g b ∷ filter p (map g rest) ≡ filter p (map g (b ∷ rest))
    taken g p rest b taken_is = rw taken_is refl

pub part_left : {B C : Type 0} (g : B → C) (p : C → Bool) (all : List C) (items rest : List B) (b : B) → items ≡ b ∷ rest → p (g b) ≡ false
    → all ++ filter p (map g rest) ≡ all ++ filter p (map g items)
part_left g p all items rest b next other = ap (λ l. all ++ l) (passed g p rest b other) ∙ ap (λ l. all ++ filter p (map g l)) (sym next)
  where
    passed : {B C : Type 0} (g : B → C) (p : C → Bool) (rest : List B) (b : B) → p (g b) ≡ false → filter p (map g rest) ≡ filter p (map g (b ∷ rest))
    passed g p rest b other = rw other refl

pub in_behind : {A B : Type 0} (f : A → B) (old new : List A) (a : A) (x : B) → new ≡ old ++ a ∷ [] → In x (map f new) → In x (map f old) ⊎ (x ≡ f a)
in_behind f old new a x is m = last f old a x (subst (λ l. In x (map f l)) is m)
  where
    last : {A B : Type 0} (f : A → B) (old : List A) (a : A) (x : B) → In x (map f (old ++ a ∷ [])) → In x (map f old) ⊎ (x ≡ f a)
    last f [] a x (inl e) = inr e
    last f [] a x (inr m) = absurd m
    last f (b ∷ old) a x (inl e) = inl (inl e)
    last f (b ∷ old) a x (inr m) = elim (last f old a x m) [ inl n ↦ inl (inr n) | inr e ↦ inr e ]

pub row_in : (rows : List TableRow) (i : ℕ) (row : TableRow) → i < length rows → row ≡ get_or rows i row → In (row_of row) (map row_of rows)
row_in [] i row l e = absurd (omega arith)
row_in (q ∷ rows) zero row l e = inl (ap row_of e)
row_in (q ∷ rows) (suc i) row l e = inr (row_in rows i row (omega arith) e)

pub ended : {B C : Type 0} (g : B → C) (p : C → Bool) (all : List C) (items : List B) → length items ≡ 0 → all ≡ all ++ filter p (map g items)
ended g p all [] e = sym (append_none all)
  where
    append_none : {C : Type 0} (all : List C) → all ++ [] ≡ all
    append_none [] = refl
    append_none (c ∷ all) = ap (λ l. c ∷ l) (append_none all)
ended g p all (b ∷ items) e = absurd (omega (arith, e))
