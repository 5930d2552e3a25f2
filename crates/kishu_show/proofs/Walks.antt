-- One turn of a walk over items that are shown, and its end.
use Rattle.std.proofs.Common.{◌≡◌, ◌∙◌, ap, sym, subst, refl, arith, ℕ, zero, suc, ◌+◌, ◌<◌, ◌≤◌, List, [], ◌∷◌, length, map, drop, get_or, drop-cons, add-one, Err}
use Rattle.kishu_meaning.specs.declared.value.Value as rust
use Rattle.kishu_meaning.specs.moments.Counting.{Count, answer}
use Rattle.kishu_meaning.specs.values.Values.{Value, value_of}
use Rattle.kishu_meaning.specs.comparing.Show.{◌⊕◌, listed, further}
use Rattle.kishu_show.specs.declared.draft.Draft.{Draft}
use Rattle.kishu_show.specs.declared.fault.ShowFault.{ShowFault}
use Rattle.kishu_show.specs.Shown.{Makes, onto, text_of}
use Rattle.kishu_show.specs.Turns.{comma}
use Rattle.kishu_show.proofs.Parts.{through, then_makes, stops, nothing_made, nothing_first}

dropped : {A : Type 0} (xs : List A) (i : ℕ) (x : A) → i < length xs → x ≡ get_or xs i x → drop i xs ≡ x ∷ drop (suc i) xs
dropped xs i x h p = drop-cons xs i x h ∙ ap (λ y. y ∷ drop (suc i) xs) (sym p)

-- an entry as definitions see it
abbrev pub entry_of : {K J : Type 0} → (K → J) → K × rust.Value → J × Value
entry_of key_of e = (key_of e.0, value_of e.1)

module _ {X A : Type 0} (see : X → A) (one : A → Count (List ℕ)) where
  -- what is made of the items from this place on
  abbrev pub rest : List X → ℕ → Count (List ℕ)
  rest xs zero = listed one (map see xs)
  rest xs (suc i) = further one (map see (drop (suc i) xs))

  split : (xs : List X) (i : ℕ) (x : X) (d : Draft) → i < length xs → x ≡ get_or xs i x → onto d (rest xs i) ≡ onto d (comma i ⊕ (one (see x) ⊕ rest xs (suc i)))
  split [] i x d h p = absurd (omega arith)
  split (y ∷ ys) zero x d h p = subst (λ z. onto d (rest (y ∷ ys) zero) ≡ onto d (comma zero ⊕ (one (see z) ⊕ rest (y ∷ ys) 1))) (sym p) (nothing_first d (rest (y ∷ ys) zero))
  split (y ∷ ys) (suc i) x d h p = ap (λ zs. onto d (further one (map see zs))) (dropped (y ∷ ys) (suc i) x h p)

  module _ (xs : List X) (i : ℕ) (x : X) (within : i < length xs) (is : x ≡ get_or xs i x) where
    pub goes_on : (d e f : Draft) → onto d (comma i) ≡ answer (text_of e) e.left → onto e (one (see x)) ≡ answer (text_of f) f.left → onto d (rest xs i) ≡ onto f (rest xs (i + 1))
    goes_on d e f h k =
        rw add-one
        (split xs i x d within is ∙ through d e (comma i) (one (see x) ⊕ rest xs (suc i)) h ∙ through e f (one (see x)) (rest xs (suc i)) k)

    pub comma_stops : (f : ShowFault) (d e : Draft) → Makes (Err f) e (onto d (comma i)) → Makes (Err f) e (onto d (rest xs i))
    comma_stops f d e h = subst (λ y. Makes (Err f) e y) (sym (split xs i x d within is)) (stops f d e (comma i) (one (see x) ⊕ rest xs (suc i)) h)

    pub item_stops : (f : ShowFault) (d e g : Draft) → onto d (comma i) ≡ answer (text_of e) e.left → Makes (Err f) g (onto e (one (see x))) → Makes (Err f) g (onto d (rest xs i))
    item_stops f d e g h k =
        subst (λ y. Makes (Err f) g y) (sym (split xs i x d within is))
        (then_makes (Err f) d e g (comma i) (one (see x) ⊕ rest xs (suc i)) h (stops f e g (one (see x)) (rest xs (suc i)) k))

  same : (xs : List X) (i : ℕ) (d e : X) → i < length xs → get_or xs i d ≡ get_or xs i e
  same [] i d e h = absurd (omega arith)
  same (x ∷ xs) zero d e h = refl
  same (x ∷ xs) (suc i) d e h = same xs i d e (omega arith)

  -- where the item isn't looked at
  pub comma_fails : (xs : List X) (i : ℕ) → i < length xs → (f : ShowFault) (d e : Draft) → Makes (Err f) e (onto d (comma i)) → Makes (Err f) e (onto d (rest xs i))
  comma_fails [] i h f d e k = absurd (omega arith)
  comma_fails (x ∷ xs) i h f d e k = comma_stops (x ∷ xs) i (get_or (x ∷ xs) i x) h (same (x ∷ xs) i x (get_or (x ∷ xs) i x) h) f d e k

  nothing_left : (xs : List X) (i : ℕ) → length xs ≤ i → drop i xs ≡ []
  nothing_left [] zero h = refl
  nothing_left [] (suc i) h = refl
  nothing_left (x ∷ xs) zero h = absurd (omega arith)
  nothing_left (x ∷ xs) (suc i) h = nothing_left xs i (omega arith)

  pub ends : (xs : List X) (i : ℕ) (d : Draft) → length xs ≤ i → onto d (rest xs i) ≡ answer (text_of d) d.left
  ends [] zero d h = nothing_made d
  ends (x ∷ xs) zero d h = absurd (omega arith)
  ends xs (suc i) d h = ap (λ zs. onto d (further one (map see zs))) (nothing_left xs (suc i) h) ∙ nothing_made d
