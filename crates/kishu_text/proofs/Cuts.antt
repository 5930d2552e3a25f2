-- Where a part begins, and the pieces between its occurrences.
use Rattle.std.proofs.Common.{◌≡◌, ◌∙◌, ◌<◌, ◌≤◌, ◌+◌, ◌-◌, ap, sym, refl, arith, ℕ, zero, suc, Bool, true, false, ◌&&◌, eqb, eqb-true, eq-eqb, List, [], ◌∷◌, ◌++◌, length, Option, Some, None, option_map, MatchOption, if◌then◌else◌, append_assoc, flat_map, subst, inl, inr, length-append}
use Rattle.std.proofs.lemmas.Bool.{cases_Bool}
use Rattle.std.proofs.lemmas.List.{append-nil}
use Rattle.std.specs.List.{onto_first}
use Rattle.kishu_text.specs.Places.{IsFirstPlace}
use Rattle.kishu_meaning.specs.values.Texts.{begins, first_place, pieces_behind, pieces, joined}

and_both : (a b : Bool) → (a && b) ≡ true → (a ≡ true) × (b ≡ true)
and_both true b e = (refl, e)
and_both false b e = absurd (cc e)

pub begins-rest : (part cs : List ℕ) → begins part cs ≡ true → (rest : List ℕ) × (cs ≡ part ++ rest)
begins-rest [] cs e = (cs, refl)
begins-rest (p ∷ ps) [] e = absurd (cc e)
begins-rest (p ∷ ps) (c ∷ cs) e =
    let both = and_both (eqb p c) (begins ps cs) e in
    let more = begins-rest ps cs both.1 in
    let same : p ≡ c = eqb-true p c both.0 in
    (more.0, ap (λ (x : ℕ). x ∷ cs) (sym same) ∙ ap (λ (l : List ℕ). p ∷ l) more.1)

pub begins-front : (part rest : List ℕ) → begins part (part ++ rest) ≡ true
begins-front [] rest = refl
begins-front (p ∷ ps) rest = ap (λ (b : Bool). b && begins ps (ps ++ rest)) (eq-eqb p p refl) ∙ begins-front ps rest

not_true : (b : Bool) → (b ≡ true → ⊥) → b ≡ false
not_true true h = absurd (h refl)
not_true false h = refl

begins-not : (part cs : List ℕ) → ((rest : List ℕ) → cs ≡ part ++ rest → ⊥) → begins part cs ≡ false
begins-not part cs h = not_true (begins part cs) (λ e. let found = begins-rest part cs e in h found.0 found.1)

-- ---- the first place

place_here : (part cs : List ℕ) → begins part cs ≡ true → first_place part cs ≡ Some 0
place_here part [] e = ap (λ (b : Bool). if b then Some 0 else None) e
place_here part (c ∷ cs) e = ap (λ (b : Bool). if b then Some 0 else option_map suc (first_place part cs)) e

pub place_none : (part cs : List ℕ) → ((us vs : List ℕ) → cs ≡ us ++ (part ++ vs) → ⊥) → first_place part cs ≡ None
place_none part [] h = ap (λ (b : Bool). if b then Some 0 else None) (begins-not part [] (λ vs. h [] vs))
place_none part (c ∷ cs) h =
    ap (λ (b : Bool). if b then Some 0 else option_map suc (first_place part cs)) (begins-not part (c ∷ cs) (λ vs. h [] vs))
    ∙ ap (option_map suc) (place_none part cs (λ us vs e. h (c ∷ us) vs (ap (λ (l : List ℕ). c ∷ l) e)))

pub place_some : (part xs ys : List ℕ) → ((us vs : List ℕ) → length us < length xs → xs ++ (part ++ ys) ≡ us ++ (part ++ vs) → ⊥) → first_place part (xs ++ (part ++ ys)) ≡ Some (length xs)
place_some part [] ys h = place_here part (part ++ ys) (begins-front part ys)
place_some part (x ∷ xs) ys h =
    ap (λ (b : Bool). if b then Some 0 else option_map suc (first_place part (xs ++ (part ++ ys)))) (begins-not part (x ∷ (xs ++ (part ++ ys))) (λ vs. h [] vs (omega arith)))
    ∙ ap (option_map suc) (place_some part xs ys (λ us vs l e. h (x ∷ us) vs (omega arith) (ap (λ (m : List ℕ). x ∷ m) e)))

-- ---- the pieces

none_behind : (b : Bool) (o : Option ℕ) → (if b then Some 0 else option_map suc o) ≡ None → (b ≡ false) × (o ≡ None)
none_behind true o e = absurd (cc e)
none_behind false None e = (refl, refl)
none_behind false (Some n) e = absurd (cc e)

some_behind : (b : Bool) (o : Option ℕ) (n : ℕ) → (if b then Some 0 else option_map suc o) ≡ Some (suc n) → (b ≡ false) × (o ≡ Some n)
some_behind true o n e = let at : 0 ≡ suc n = cc e in absurd (omega arith)
some_behind false None n e = absurd (cc e)
some_behind false (Some m) n e = let at : suc m ≡ suc n = cc e in let same : m ≡ n = omega arith in (refl, ap Some same)

pub pieces_none : (part cs : List ℕ) → first_place part cs ≡ None → pieces part cs ≡ cs ∷ []
pieces_none part [] e = refl
pieces_none part (c ∷ cs) e =
    let behind = none_behind (begins part (c ∷ cs)) (first_place part cs) e in
    ap (λ (b : Bool). if b then [] ∷ pieces_behind part (length part - 1) cs else onto_first c (pieces part cs)) behind.0 ∙ ap (onto_first c) (pieces_none part cs behind.1)

within : (part qs ys : List ℕ) → pieces_behind part (length qs) (qs ++ ys) ≡ pieces part ys
within part [] ys = refl
within part (q ∷ qs) ys = within part qs ys

pub pieces_some : (part xs ys : List ℕ) → 0 < length part → first_place part (xs ++ (part ++ ys)) ≡ Some (length xs) → pieces part (xs ++ (part ++ ys)) ≡ xs ∷ pieces part ys
pieces_some [] xs ys l e = absurd (omega arith)
pieces_some (p ∷ ps) [] ys l e =
    let part = p ∷ ps in
    let less : length part - 1 ≡ length ps = omega arith in
    ap (λ (b : Bool). if b then [] ∷ pieces_behind part (length part - 1) (ps ++ ys) else onto_first p (pieces part (ps ++ ys))) (begins-front part ys)
    ∙ ap (λ (l : List (List ℕ)). [] ∷ l) (ap (λ (n : ℕ). pieces_behind part n (ps ++ ys)) less ∙ within part ps ys)
pieces_some (p ∷ ps) (x ∷ xs) ys l e =
    let part = p ∷ ps in
    let rest = xs ++ (part ++ ys) in
    let behind = some_behind (begins part (x ∷ rest)) (first_place part rest) (length xs) e in
    ap (λ (b : Bool). if b then [] ∷ pieces_behind part (length part - 1) rest else onto_first x (pieces part rest)) behind.0 ∙ ap (onto_first x) (pieces_some part xs ys l behind.1)

onto_first-some : (c : ℕ) (ps : List (List ℕ)) → 0 < length (onto_first c ps)
onto_first-some c [] = omega arith
onto_first-some c (p ∷ ps) = omega arith

if_some : (b : Bool) (xs ys : List (List ℕ)) → 0 < length xs → 0 < length ys → 0 < length (if b then xs else ys)
if_some true xs ys h k = h
if_some false xs ys h k = k

pub pieces-some : (part : List ℕ) (n : ℕ) (cs : List ℕ) → 0 < length (pieces_behind part n cs)
pieces-some part n [] = omega arith
pieces-some part (suc n) (c ∷ cs) = pieces-some part n cs
pieces-some part zero (c ∷ cs) =
    if_some (begins part (c ∷ cs)) ([] ∷ pieces_behind part (length part - 1) cs) (onto_first c (pieces part cs)) (omega arith) (onto_first-some c (pieces part cs))

-- ---- pieces that are joined

pub joined_more : (by piece : List ℕ) (more : List (List ℕ)) → 0 < length more → joined by (piece ∷ more) ≡ (piece ++ by) ++ joined by more
joined_more by piece [] l = absurd (omega arith)
joined_more by piece (next ∷ more) l =
    ap (λ (x : List ℕ). piece ++ x) (append_assoc by next (flat_map (λ (n : List ℕ). by ++ n) more)) ∙ sym (append_assoc piece by (joined by (next ∷ more)))

pub joined_last : (by piece : List ℕ) → joined by (piece ∷ []) ≡ piece
joined_last by piece = append-nil piece

-- ---- the pieces, with the part between them, are the text

record Found (part cs : List ℕ) (i : ℕ) : Type 0 where
  front : List ℕ
  back : List ℕ
  size : i ≡ length front
  whole : cs ≡ front ++ (part ++ back)

found_here : (part cs : List ℕ) → begins part cs ≡ true → Found part cs 0
found_here part cs e = let rest = begins-rest part cs e in record { front = []; back = rest.0; size = refl; whole = rest.1 }

found_behind : (part cs : List ℕ) (c : ℕ) (o : Option ℕ) (i : ℕ) → ((n : ℕ) → o ≡ Some n → Found part cs n) → option_map suc o ≡ Some i → Found part (c ∷ cs) i
found_behind part cs c None i h e = absurd (cc e)
found_behind part cs c (Some n) i h e =
    let found = h n refl in
    let at : suc n ≡ i = cc e in
    record { front = c ∷ found.front; back = found.back; size = omega (arith, found.size); whole = ap (λ (l : List ℕ). c ∷ l) found.whole }

found : (part cs : List ℕ) (i : ℕ) → first_place part cs ≡ Some i → Found part cs i
found part [] i e =
    elim (cases_Bool (begins part [])) [
      | inl here ↦ let at : Some 0 ≡ Some i = sym (ap (λ (b : Bool). if b then Some 0 else None) here) ∙ e in let same : 0 ≡ i = cc at in subst (Found part []) same (found_here part [] here)
      | inr past ↦ let at : None ≡ Some i = sym (ap (λ (b : Bool). if b then Some 0 else None) past) ∙ e in absurd (cc at)
    ]
found part (c ∷ cs) i e =
    let step = λ (b : Bool). if b then Some 0 else option_map suc (first_place part cs) in
    elim (cases_Bool (begins part (c ∷ cs))) [
      | inl here ↦ let at : Some 0 ≡ Some i = sym (ap step here) ∙ e in let same : 0 ≡ i = cc at in subst (Found part (c ∷ cs)) same (found_here part (c ∷ cs) here)
      | inr past ↦ found_behind part cs c (first_place part cs) i (found part cs) (sym (ap step past) ∙ e)
    ]

joined_by : (part : List ℕ) (k : ℕ) (cs : List ℕ) (o : Option ℕ) → 0 < length part → length cs ≤ k → first_place part cs ≡ o → joined part (pieces part cs) ≡ cs
joined_by part k cs None some l e = ap (joined part) (pieces_none part cs e) ∙ joined_last part cs
joined_by part zero cs (Some i) some l e =
    let at = found part cs i e in
    let size : length cs ≡ length at.front + (length part + length at.back) = ap length at.whole ∙ (length-append at.front (part ++ at.back) ∙ ap (λ (n : ℕ). length at.front + n) (length-append part at.back)) in
    absurd (omega arith)
joined_by part (suc k) cs (Some i) some l e =
    let at = found part cs i e in
    let size : length cs ≡ length at.front + (length part + length at.back) = ap length at.whole ∙ (length-append at.front (part ++ at.back) ∙ ap (λ (n : ℕ). length at.front + n) (length-append part at.back)) in
    let first : first_place part (at.front ++ (part ++ at.back)) ≡ Some (length at.front) = sym (ap (first_place part) at.whole) ∙ (e ∙ ap Some at.size) in
    ap (λ (l : List ℕ). joined part (pieces part l)) at.whole
    ∙ (ap (joined part) (pieces_some part at.front at.back some first) ∙ joined_more part at.front (pieces part at.back) (pieces-some part 0 at.back)
    ∙ (ap (λ (l : List ℕ). (at.front ++ part) ++ l) (joined_by part k at.back (first_place part at.back) some (omega arith) refl) ∙ (append_assoc at.front part at.back ∙ sym at.whole)))

pub joined_pieces : (part cs : List ℕ) → 0 < length part → joined part (pieces part cs) ≡ cs
joined_pieces part cs some = joined_by part (length cs) cs (first_place part cs) some (omega arith) refl

-- ---- no place before the first

here_or_behind : (b : Bool) (o : Option ℕ) (k : ℕ) → MatchOption o ⊥ (λ i. i ≤ k) → MatchOption (if b then Some 0 else option_map suc o) ⊥ (λ i. i ≤ suc k)
here_or_behind true o k h = omega arith
here_or_behind false None k h = h
here_or_behind false (Some n) k h = omega arith

no_later : (part us vs : List ℕ) → MatchOption (first_place part (us ++ (part ++ vs))) ⊥ (λ i. i ≤ length us)
no_later part [] vs = subst (λ (o : Option ℕ). MatchOption o ⊥ (λ i. i ≤ 0)) (sym (place_here part (part ++ vs) (begins-front part vs))) (omega arith)
no_later part (u ∷ us) vs = here_or_behind (begins part (u ∷ (us ++ (part ++ vs)))) (first_place part (us ++ (part ++ vs))) (length us) (no_later part us vs)

first_by : (part cs : List ℕ) (o : Option ℕ) → first_place part cs ≡ o → IsFirstPlace part cs o
first_by part cs None e = λ us vs at. subst (λ (o : Option ℕ). MatchOption o ⊥ (λ i. i ≤ length us)) (sym (ap (first_place part) at) ∙ e) (no_later part us vs)
first_by part cs (Some i) e =
    let at = found part cs i e in (
      (at.front, at.back, sym at.size, at.whole),
      λ us vs whole. subst (λ (o : Option ℕ). MatchOption o ⊥ (λ j. j ≤ length us)) (sym (ap (first_place part) whole) ∙ e) (no_later part us vs),
    )

pub first_place-is : (part cs : List ℕ) (o : Option ℕ) → o ≡ first_place part cs → IsFirstPlace part cs o
first_place-is part cs o e = first_by part cs o (sym e)
