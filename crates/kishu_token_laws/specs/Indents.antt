-- The reading of a line's indentation is that of the rules, both ways.
use Rattle.std.proofs.Common.{◌≡◌, ℕ, Bool, true, false, cond, List, [], ◌∷◌, ◌++◌, refl, sym, ap, ◌∙◌, append_assoc}
use Rattle.std.proofs.lemmas.List.{append-nil}
use Rattle.std.specs.Prelude.{Ok, Err, nat_eq}
use Rattle.std.specs.Str.{bytes_eq}
use Rattle.std.specs.List.{starts_with}
use Rattle.kishu_language.specs.declared.token.Mark.{Mark}
use Rattle.kishu_language.specs.tokens.Layout as y
use Rattle.kishu_language.specs.tokens.Layout.{Outcome, State, inside, Token, token, indent, dedent, top, dedents, dedented, indented}
use Rattle.kishu_language.specs.rules.LineRules as r
use Rattle.kishu_language.specs.rules.LineRules.{Back, Indentation}
use Rattle.kishu_token_laws.specs.LineSteps.{St, done}

-- ---- from the rules

back_takes : {w : List ℕ} {n at : ℕ} {vs us : List (List ℕ)} {ts : List Token} (out : List Token) → Back w n at vs us ts → dedents w n at vs out ≡ Ok (us, out ++ ts)
back_takes out (r.found {v = v} {vs = vs} h) = rw h (λ i. Ok (v ∷ vs, sym (append-nil out) i))
back_takes out (r.bottom h) = rw h (λ i. Ok ([], sym (append-nil out) i))
back_takes {n = n} {at = at} {us = us} out (r.off {ts = ts} h t) = rw h (back_takes (out ++ token dedent n at at ∷ []) t ∙ ap (λ v. Ok (us, v)) (append_assoc out (token dedent n at at ∷ []) ts))

pub indentation_takes : {w : List ℕ} {n from to : ℕ} {vs us : List (List ℕ)} {ts : List Token} (out : List Token) (bs : List (Mark × ℕ)) → Indentation w n from to vs us ts
    → indented w n from to (St inside out bs vs) ≡ done (St inside (out ++ ts) bs us)
unfolding indented
indentation_takes {vs = vs} out bs (r.equal h) = rw h (ap (λ v. done (St inside v bs vs)) (sym (append-nil out)))
indentation_takes out bs (r.longer h k) = rw (h, k) refl
indentation_takes {vs = vs} out bs (r.lower h k t) = rw (h, k) (ap (dedented (St inside out bs vs)) (back_takes out t))

-- ---- from the reading

abbrev Off : List ℕ → ℕ → ℕ → List (List ℕ) → Type 0
Off w n a vs = (us : List (List ℕ)) × ((ts : List Token) × Back w n a vs us ts)

back_met : (w : List ℕ) (n a : ℕ) (vs : List (List ℕ)) (out : List Token) (p : List (List ℕ) × List Token) → dedents w n a vs out ≡ Ok p → Off w n a vs
back_met w n a [] out p e = go (bytes_eq w []) refl e
  where
    go : (b : Bool) → bytes_eq w [] ≡ b → cond b (Ok ([], out)) (Err n) ≡ Ok p → Off w n a []
    go true q e = ([], ([], r.bottom q))
    go false q e = absurd cc
back_met w n a (v ∷ vs) out p e = go (bytes_eq w v) refl e (back_met w n a vs (out ++ token dedent n a a ∷ []) p)
  where
    go : (b : Bool) → bytes_eq w v ≡ b → cond b (Ok (v ∷ vs, out)) (dedents w n a vs (out ++ token dedent n a a ∷ [])) ≡ Ok p → (dedents w n a vs (out ++ token dedent n a a ∷ []) ≡ Ok p → Off w n a vs) → Off w n a (v ∷ vs)
    go true q e next = (v ∷ vs, ([], r.found q))
    go false q e next = let t = next e in (t.0, (token dedent n a a ∷ t.1.0, r.off q t.1.1))

abbrev pub Deep : List ℕ → ℕ → ℕ → ℕ → List (List ℕ) → Type 0
Deep w row from to vs = (us : List (List ℕ)) × ((ts : List Token) × Indentation w row from to vs us ts)

taken_off : (s t : State) (o : Outcome (List (List ℕ) × List Token)) → dedented s o ≡ done t → (p : List (List ℕ) × List Token) × (o ≡ Ok p)
taken_off s t (Ok p) e = (p, refl)
taken_off s t (Err l) e = absurd cc

pub indentation_met : (w : List ℕ) (row from to : ℕ) (vs : List (List ℕ)) (out : List Token) (bs : List (Mark × ℕ)) (t : State) → indented w row from to (St inside out bs vs) ≡ done t → Deep w row from to vs
unfolding indented
indentation_met w row from to vs out bs t e = go (bytes_eq w (top vs)) (starts_with nat_eq w (top vs)) refl refl e
  where
    go : (p q : Bool) → bytes_eq w (top vs) ≡ p → starts_with nat_eq w (top vs) ≡ q
        → cond p (done (St inside out bs vs)) (cond q (done (y.deeper w row from to (St inside out bs vs))) (dedented (St inside out bs vs) (dedents w row to vs out))) ≡ done t → Deep w row from to vs
    go true q e f h = (vs, ([], r.equal e))
    go false true e f h = (w ∷ vs, (token indent row from to ∷ [], r.longer e f))
    go false false e f h = let p = taken_off (St inside out bs vs) t (dedents w row to vs out) h in let b = back_met w row to vs out p.0 p.1 in (b.0, (b.1.0, r.lower e f b.1.1))
