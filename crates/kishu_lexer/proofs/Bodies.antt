-- A text in quotes, item by item.
use Rattle.std.proofs.Common.{◌≡◌, ℕ, zero, suc, ◌+◌, ◌-◌, ◌<◌, Bool, true, false, cond, List, [], ◌∷◌, ◌++◌, drop, length, Some, None, refl, sym, ap, ◌∙◌, arith, append_assoc}
use Rattle.std.proofs.lemmas.List.{append-nil}
use Rattle.std.specs.Str.{encode_utf8_all}
use Rattle.kishu_language.specs.tokens.Quoted.{Read, onto, after_item, body_from, body, item, closes, quotes}

skip : (r : Bool) (q : ℕ) (t : Bool) (k : ℕ) (z : List ℕ) → body_from r q t k z ≡ body r q t (drop k z)
unfolding body
skip r q t zero z = refl
skip r q t (suc k) [] = refl
skip r q t (suc k) (c ∷ z) = skip r q t k z

drop_suc : (k : ℕ) (c : ℕ) (z : List ℕ) → 0 < k → drop k (c ∷ z) ≡ drop (k - 1) z
drop_suc zero c z h = absurd (omega arith)
drop_suc (suc k) c z h = let e : suc k - 1 ≡ k = omega arith in ap (λ n. drop n z) (sym e)

-- what was read, and then the rest
abbrev pub Reads : Bool → ℕ → Bool → List ℕ → ℕ → List ℕ → Read → Type 0
Reads r q t out len rest total = onto out len (body r q t rest) ≡ total

regroup : (out v : List ℕ) (len n : ℕ) (f : Read) → onto out len (onto v n f) ≡ onto (out ++ v) (len + n) f
regroup out v len n None = refl
regroup out v len n (Some p) = (λ i. Some (sym (append_assoc out v p.0) i, (let e : len + (n + p.1) ≡ len + n + p.1 = omega arith in e) i))

pub starts : (r : Bool) (q : ℕ) (t : Bool) (text : List ℕ) → Reads r q t [] 0 text (body r q t text)
starts r q t text = go (body r q t text)
  where
    go : (f : Read) → onto [] 0 f ≡ f
    go None = refl
    go (Some p) = (λ i. Some (p.0, (let e : 0 + p.1 ≡ p.1 = omega arith in e) i))

pub goes_on : (r : Bool) (q : ℕ) (t : Bool) (out rest after : List ℕ) (len : ℕ) (i : List ℕ × ℕ) (total : Read) → 0 < length rest → closes q t rest ≡ false → item r t rest ≡ Some i → 0 < i.1 → after ≡ drop i.1 rest
    → Reads r q t out len rest total → Reads r q t (out ++ encode_utf8_all i.0) (len + i.1) after total
unfolding body
goes_on r q t out [] after len i total some apart is taken after_is so_far = absurd (omega arith)
goes_on r q t out (c ∷ z) after len i total some apart is taken after_is so_far =
    let turn : body r q t (c ∷ z) ≡ onto (encode_utf8_all i.0) i.1 (body r q t after) =
    ap (λ b. cond b (Some ([], quotes t)) (after_item (item r t (c ∷ z)) (λ left. body_from r q t left z))) apart
    ∙ ap (λ o. after_item o (λ left. body_from r q t left z)) is
    ∙ ap (onto (encode_utf8_all i.0) i.1) (skip r q t (i.1 - 1) z ∙ ap (body r q t) (sym (drop_suc i.1 c z taken) ∙ sym after_is)) in
    sym (ap (onto out len) turn ∙ regroup out (encode_utf8_all i.0) len i.1 (body r q t after)) ∙ so_far

pub closed : (r : Bool) (q : ℕ) (t : Bool) (out rest : List ℕ) (len : ℕ) (total : Read) → 0 < length rest → closes q t rest ≡ true → Reads r q t out len rest total → total ≡ Some (out, len + quotes t)
unfolding body
closed r q t out [] len total some is so_far = absurd (omega arith)
closed r q t out (c ∷ z) len total some is so_far =
    sym so_far ∙ ap (λ b. onto out len (cond b (Some ([], quotes t)) (after_item (item r t (c ∷ z)) (λ left. body_from r q t left z)))) is
    ∙ (λ i. Some (append-nil out i, len + quotes t))

pub broken : (r : Bool) (q : ℕ) (t : Bool) (out rest : List ℕ) (len : ℕ) (total : Read) → 0 < length rest → closes q t rest ≡ false → item r t rest ≡ None → Reads r q t out len rest total → total ≡ None
unfolding body
broken r q t out [] len total some apart is so_far = absurd (omega arith)
broken r q t out (c ∷ z) len total some apart is so_far =
    sym so_far ∙ ap (λ b. onto out len (cond b (Some ([], quotes t)) (after_item (item r t (c ∷ z)) (λ left. body_from r q t left z)))) apart
    ∙ ap (λ o. onto out len (after_item o (λ left. body_from r q t left z))) is

pub never_closed : (r : Bool) (q : ℕ) (t : Bool) (out rest : List ℕ) (len : ℕ) (total : Read) → length rest ≡ 0 → Reads r q t out len rest total → total ≡ None
unfolding body
never_closed r q t out [] len total none so_far = sym so_far
never_closed r q t out (c ∷ z) len total none so_far = absurd (omega arith)
