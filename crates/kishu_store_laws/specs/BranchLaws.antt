-- Branches: which commit a name has, and their order.
use Rattle.std.specs.Prelude.{◌≡◌, ℕ, true, false, List, [], ◌∷◌, map, Some, ◌⊎◌}
use Rattle.std.specs.Cmp.Lexicographic.{bytes_decides, slice_cmp}
use Rattle.std.specs.List.{AllByRecursion}
use Rattle.std.specs.List.Sorted.{IsStrictlySortedBy}
use Rattle.std.specs.Ordering.{nat_cmp, ordering_reverse, match_ordering, is_eq}
use Rattle.std.specs.Str.{bytes_eq}
use Rattle.std.specs.declared.cmp.Ordering.TheVariants.{Less, Equal, Greater}
use Rattle.std.proofs.Common.{refl, ap, sym, ◌∙◌, subst, inl, inr, Ordering}
use Rattle.std.proofs.lemmas.Bool.{cases_Bool, false≢true}
use Rattle.std.proofs.lemmas.Cmp.{nat_list_cmp_total}
use Rattle.std.proofs.lemmas.Map.Text.{is_eq-slice_cmp}
use Rattle.kishu_store.specs.Branches.{Branches, commit_of, with_branch_at}
use Rattle.kishu_store.specs.Groups.{Rise}

abbrev pub titles_in : Branches → List (List ℕ)
titles_in bs = map (λ (b : List ℕ × ℕ). b.0) bs

-- all of these stand behind the name
abbrev pub AllBehind : List ℕ → List (List ℕ) → Type 0
AllBehind x ys = AllByRecursion (λ y. slice_cmp nat_cmp x y ≡ Less) ys

-- ---- two names

pub same_title : (x y : List ℕ) → ((x ≡ y) × (bytes_eq x y ≡ true)) ⊎ ((x ≡ y → ⊥) × (bytes_eq x y ≡ false))
same_title x y = elim (cases_Bool (bytes_eq x y)) [
  | inl e ↦ inl ((bytes_decides x y).0 e, e)
  | inr n ↦ inr ((λ e. false≢true (sym n ∙ (bytes_decides x y).1 e)), n)
]

pub equal_titles : (x y : List ℕ) → Equal ≡ slice_cmp nat_cmp x y → x ≡ y
equal_titles x y e = (bytes_decides x y).0 (sym (ap is_eq e ∙ is_eq-slice_cmp x y))

other_title : (x y : List ℕ) → Greater ≡ slice_cmp nat_cmp x y → bytes_eq x y ≡ false
other_title x y e = sym (ap is_eq e ∙ is_eq-slice_cmp x y)

-- ---- which commit a name has

commit-here : (x : List ℕ) (n : ℕ) (bs : Branches) → commit_of x ((x, n) ∷ bs) ≡ Some n
commit-here x n bs = (let e = (bytes_decides x x).1 refl in rw e refl)

commit-past : (x y : List ℕ) (n : ℕ) (bs : Branches) → (x ≡ y → ⊥) → commit_of x ((y, n) ∷ bs) ≡ commit_of x bs
commit-past x y n bs d = elim (same_title x y) [ inl e ↦ absurd (d e.0) | inr m ↦ rw m.1 refl ]

here_by : (x : List ℕ) (n : ℕ) (b : List ℕ × ℕ) (bs : Branches) → commit_of x (with_branch_at x n bs) ≡ Some n → (o : Ordering) → o ≡ slice_cmp nat_cmp x b.0
    → commit_of x (match_ordering o ((x, n) ∷ b ∷ bs) ((x, n) ∷ bs) (b ∷ with_branch_at x n bs)) ≡ Some n
here_by x n b bs rest Less e = commit-here x n (b ∷ bs)
here_by x n b bs rest Equal e = commit-here x n bs
here_by x n b bs rest Greater e = (let f = other_title x b.0 e in rw f rest)

-- the branch that was put there
pub commit-with : (x : List ℕ) (n : ℕ) (bs : Branches) → commit_of x (with_branch_at x n bs) ≡ Some n
commit-with x n [] = commit-here x n []
commit-with x n (b ∷ bs) = here_by x n b bs (commit-with x n bs) (slice_cmp nat_cmp x b.0) refl

past_by : (x y : List ℕ) (n : ℕ) (b : List ℕ × ℕ) (bs : Branches) → (x ≡ y → ⊥) → commit_of x (with_branch_at y n bs) ≡ commit_of x bs → (o : Ordering) → o ≡ slice_cmp nat_cmp y b.0
    → commit_of x (match_ordering o ((y, n) ∷ b ∷ bs) ((y, n) ∷ bs) (b ∷ with_branch_at y n bs)) ≡ commit_of x (b ∷ bs)
past_by x y n b bs d rest Less e = commit-past x y n (b ∷ bs) d
past_by x y n b bs d rest Equal e =
    let same : y ≡ b.0 = equal_titles y b.0 e in
    commit-past x y n bs d ∙ sym (commit-past x b.0 b.1 bs (λ f. d (f ∙ sym same)))
past_by x y n b bs d rest Greater e = elim (same_title x b.0) [ inl f ↦ rw f.1 refl | inr m ↦ rw m.1 rest ]

-- the others
pub commit-with-other : (x y : List ℕ) (n : ℕ) (bs : Branches) → (x ≡ y → ⊥) → commit_of x (with_branch_at y n bs) ≡ commit_of x bs
commit-with-other x y n [] d = commit-past x y n [] d
commit-with-other x y n (b ∷ bs) d = past_by x y n b bs d (commit-with-other x y n bs d) (slice_cmp nat_cmp y b.0) refl

-- ---- what holds of each branch

each_by : (P : List ℕ × ℕ → Type 0) (x : List ℕ) (n : ℕ) (b : List ℕ × ℕ) (bs : Branches) (o : Ordering) → P (x, n) → AllByRecursion P (b ∷ bs) → AllByRecursion P (with_branch_at x n bs)
    → AllByRecursion P (match_ordering o ((x, n) ∷ b ∷ bs) ((x, n) ∷ bs) (b ∷ with_branch_at x n bs))
each_by P x n b bs Less p h rest = (p, h)
each_by P x n b bs Equal p h rest = (p, h.1)
each_by P x n b bs Greater p h rest = (h.0, rest)

pub each-with : (P : List ℕ × ℕ → Type 0) (x : List ℕ) (n : ℕ) (bs : Branches) → P (x, n) → AllByRecursion P bs → AllByRecursion P (with_branch_at x n bs)
each-with P x n [] p h = (p, tt)
each-with P x n (b ∷ bs) p h = each_by P x n b bs (slice_cmp nat_cmp x b.0) p h (each-with P x n bs p h.1)

-- the commit of a branch that is there has what each has
pub each-commit : (P : List ℕ × ℕ → Type 0) (x : List ℕ) (n : ℕ) (bs : Branches) → commit_of x bs ≡ Some n → AllByRecursion P bs → P (x, n)
each-commit P x n [] e h = absurd (cc (e))
each-commit P x n (b ∷ bs) e h = elim (same_title x b.0) [
  | inl f ↦ (let g : Some b.1 ≡ Some n = rw f.1 at e in let s : b.1 ≡ n = cc (g) in subst P (pair x n b (sym f.0) s) h.0)
  | inr m ↦ (let g : commit_of x bs ≡ Some n = rw m.1 at e in each-commit P x n bs g h.1)
]
  where
    pair : (x : List ℕ) (n : ℕ) (b : List ℕ × ℕ) → b.0 ≡ x → b.1 ≡ n → b ≡ (x, n)
    pair x n b e f = ap {B = List ℕ × ℕ} (λ y. (y, b.1)) e ∙ ap {B = List ℕ × ℕ} (λ m. (x, m)) f

-- ---- their order

behind_more : (x y : List ℕ) (zs : List (List ℕ)) → slice_cmp nat_cmp x y ≡ Less → AllBehind y zs → AllBehind x zs
behind_more x y [] l h = tt
behind_more x y (z ∷ zs) l h = (nat_list_cmp_total.trans x y z l h.0, behind_more x y zs l h.1)

behind_by : (x y : List ℕ) (n : ℕ) (b : List ℕ × ℕ) (bs : Branches) (o : Ordering) → slice_cmp nat_cmp x y ≡ Less → AllBehind x (titles_in (b ∷ bs)) → AllBehind x (titles_in (with_branch_at y n bs))
    → AllBehind x (titles_in (match_ordering o ((y, n) ∷ b ∷ bs) ((y, n) ∷ bs) (b ∷ with_branch_at y n bs)))
behind_by x y n b bs Less l h rest = (l, h)
behind_by x y n b bs Equal l h rest = (l, h.1)
behind_by x y n b bs Greater l h rest = (h.0, rest)

behind_with : (x y : List ℕ) (n : ℕ) (bs : Branches) → slice_cmp nat_cmp x y ≡ Less → AllBehind x (titles_in bs) → AllBehind x (titles_in (with_branch_at y n bs))
behind_with x y n [] l h = (l, tt)
behind_with x y n (b ∷ bs) l h = behind_by x y n b bs (slice_cmp nat_cmp y b.0) l h (behind_with x y n bs l h.1)

rise_by : (x : List ℕ) (n : ℕ) (b : List ℕ × ℕ) (bs : Branches) (o : Ordering) → o ≡ slice_cmp nat_cmp x b.0 → Rise (titles_in (b ∷ bs)) → Rise (titles_in (with_branch_at x n bs))
    → Rise (titles_in (match_ordering o ((x, n) ∷ b ∷ bs) ((x, n) ∷ bs) (b ∷ with_branch_at x n bs)))
unfolding IsStrictlySortedBy
rise_by x n b bs Less e r rest = ((sym e, behind_more x b.0 (titles_in bs) (sym e) r.0), r)
rise_by x n b bs Equal e r rest = (subst (λ z. AllBehind z (titles_in bs)) (sym (equal_titles x b.0 e)) r.0, r.1)
rise_by x n b bs Greater e r rest = (behind_with b.0 x n bs (nat_list_cmp_total.antisymm b.0 x ∙ ap ordering_reverse (sym e)) r.0, rest)

pub rise-with : (x : List ℕ) (n : ℕ) (bs : Branches) → Rise (titles_in bs) → Rise (titles_in (with_branch_at x n bs))
unfolding IsStrictlySortedBy
rise-with x n [] r = (tt, tt)
rise-with x n (b ∷ bs) r = rise_by x n b bs (slice_cmp nat_cmp x b.0) refl r (rise-with x n bs r.1)
