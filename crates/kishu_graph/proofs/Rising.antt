-- Names that rise from each to the next.
use Rattle.std.proofs.Common.{◌≡◌, ◌<◌, ◌≤◌, ◌+◌, ◌-◌, ℕ, suc, zero, true, false, Bool, List, [], ◌∷◌, length, get_or, map, refl, sym, ap, subst, ◌∙◌, inl, inr, arith}
use Rattle.std.specs.Cmp.Lexicographic.{slice_cmp}
use Rattle.std.specs.List.{AllByRecursion}
use Rattle.std.specs.List.Sorted.{IsStrictlySortedBy}
use Rattle.std.specs.Ordering.{nat_cmp, is_lt}
use Rattle.std.specs.declared.cmp.Ordering.TheVariants.{Less, Equal, Greater}
use Rattle.std.proofs.Common.{Ordering}
use Rattle.std.proofs.lemmas.Bool.{false≢true, cases_lt}
use Rattle.std.proofs.lemmas.List.{get_or-map}
use Rattle.std.proofs.lemmas.Cmp.{nat_list_cmp_total}
use Rattle.kishu_store.specs.Groups.{Rise}

-- the name at a place stands before the next one
abbrev pub RisesAt : List (List ℕ) → ℕ → Type 0
RisesAt xs k = is_lt (slice_cmp nat_cmp (get_or xs k []) (get_or xs (suc k) [])) ≡ true

less_is : (o : Ordering) → is_lt o ≡ true → o ≡ Less
less_is Less e = refl
less_is Equal e = absurd (false≢true e)
less_is Greater e = absurd (false≢true e)

behind_more : (x y : List ℕ) (zs : List (List ℕ)) → slice_cmp nat_cmp x y ≡ Less → AllByRecursion (λ z. slice_cmp nat_cmp y z ≡ Less) zs → AllByRecursion (λ z. slice_cmp nat_cmp x z ≡ Less) zs
behind_more x y [] l h = tt
behind_more x y (z ∷ zs) l h = (nat_list_cmp_total.trans x y z l h.0, behind_more x y zs l h.1)

pub rise_from_steps : (xs : List (List ℕ)) → ((k : ℕ) → suc k < length xs → RisesAt xs k) → Rise xs
unfolding IsStrictlySortedBy
rise_from_steps [] steps = tt
rise_from_steps (x ∷ []) steps = (tt, tt)
rise_from_steps (x ∷ y ∷ ys) steps =
    let first : slice_cmp nat_cmp x y ≡ Less = less_is (slice_cmp nat_cmp x y) (steps 0 (omega arith)) in
    let rest = rise_from_steps (y ∷ ys) (λ k small. steps (suc k) (omega (arith, small))) in
    ((first, behind_more x y ys first rest.0), rest)

pub steps_from_rise : (xs : List (List ℕ)) (k : ℕ) → Rise xs → suc k < length xs → RisesAt xs k
unfolding IsStrictlySortedBy
steps_from_rise [] k r small = absurd (omega arith)
steps_from_rise (x ∷ []) k r small = absurd (omega arith)
steps_from_rise (x ∷ y ∷ ys) zero r small = ap is_lt r.0.0
steps_from_rise (x ∷ y ∷ ys) (suc k) r small = steps_from_rise (y ∷ ys) k r.1 (omega (arith, small))

-- one step more
pub steps_more : (xs : List (List ℕ)) (i : ℕ) → 1 ≤ i → ((k : ℕ) → suc k < i → RisesAt xs k) → RisesAt xs (i - 1) → (k : ℕ) → suc k < i + 1 → RisesAt xs k
steps_more xs i some before here k small = elim (cases_lt (suc k) i) [
  | inl l ↦ before k l
  | inr g ↦ (let e : i - 1 ≡ k = omega (arith, g, small, some) in subst (RisesAt xs) e here)
]

-- the two names that are compared, of things that have names
pub compared : {X : Type 0} (of : X → List ℕ) (xs : List X) (i : ℕ) (d e : X) (a b : List ℕ) (r : Bool) → 1 ≤ i → i < length xs → a ≡ of (get_or xs (i - 1) d) → b ≡ of (get_or xs i e) → r ≡ is_lt (slice_cmp nat_cmp a b)
    → r ≡ is_lt (slice_cmp nat_cmp (get_or (map of xs) (i - 1) []) (get_or (map of xs) (suc (i - 1)) []))
compared of xs i d e a b r some inside ea eb is =
    let before : a ≡ get_or (map of xs) (i - 1) [] = ea ∙ sym (get_or-map of xs (i - 1) d [] (omega (arith, inside, some))) in
    let place : i ≡ suc (i - 1) = omega (arith, some) in
    let now : b ≡ get_or (map of xs) (suc (i - 1)) [] = eb ∙ sym (get_or-map of xs i e [] inside) ∙ ap (λ (k : ℕ). get_or (map of xs) k []) place in
    is ∙ ap (λ (l : List ℕ). is_lt (slice_cmp nat_cmp l b)) before ∙ ap (λ (l : List ℕ). is_lt (slice_cmp nat_cmp (get_or (map of xs) (i - 1) []) l)) now

-- where they don't rise
pub not_rising : (xs : List (List ℕ)) (i : ℕ) (r : Bool) → 1 ≤ i → i < length xs → r ≡ is_lt (slice_cmp nat_cmp (get_or xs (i - 1) []) (get_or xs (suc (i - 1)) [])) → r ≡ false → Rise xs → ⊥
not_rising xs i r some inside is fails rise = false≢true (sym fails ∙ is ∙ steps_from_rise xs (i - 1) rise (omega (arith, some, inside)))
