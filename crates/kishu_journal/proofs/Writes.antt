-- What writes leave of a list that is `front`, one gate and the rest.
use Rattle.std.proofs.Common.{◌≡◌, ◌<◌, ◌+◌, ℕ, List, [], ◌∷◌, ◌++◌, length, take, drop, get_or, refl, sym, ◌∙◌, ap, arith, length-append, append_assoc, take-append-drop}
use Rattle.std.proofs.lemmas.List.{take_at, drop_at, drop_more, drop-drop, length_push, length-take-le, take-append-le}
use Rattle.kishu_host.specs.Host.{overwrite, Torn}

module _ (front : List ℕ) (gate : ℕ) (rest : List ℕ) where
  upto : length (front ++ (gate ∷ [])) ≡ length front + 1
  upto = length_push front gate

  whole : front ++ (gate ∷ rest) ≡ (front ++ (gate ∷ [])) ++ rest
  whole = sym (append_assoc front (gate ∷ []) rest)

  take-gated : take (length front + 1) (front ++ (gate ∷ rest)) ≡ front ++ (gate ∷ [])
  take-gated = ap (λ (l : List ℕ). take (length front + 1) l) whole ∙ take_at (front ++ (gate ∷ [])) rest (length front + 1) upto

  drop-gated : drop (length front + 1) (front ++ (gate ∷ rest)) ≡ rest
  drop-gated = ap (λ (l : List ℕ). drop (length front + 1) l) whole ∙ drop_at (front ++ (gate ∷ [])) rest (length front + 1) upto

  -- a torn write behind the gate
  pub torn-rest : (n : ℕ) (c : List ℕ) → Torn (length front + 1) n (front ++ (gate ∷ rest)) c → c ≡ front ++ (gate ∷ drop (length front + 1) c)
  torn-rest n c torn =
      sym (take-append-drop (length front + 1) c)
      ∙ ap (λ (l : List ℕ). l ++ drop (length front + 1) c) (torn.before ∙ take-gated)
      ∙ append_assoc front (gate ∷ []) (drop (length front + 1) c)

  -- a torn write of the gate
  pub torn-gate : (c : List ℕ) → Torn (length front) 1 (front ++ (gate ∷ rest)) c → c ≡ front ++ (get_or c (length front) 0 ∷ rest)
  torn-gate c torn =
      let inside : length front < length c = omega (arith, torn.no_shorter, length-append front (gate ∷ rest)) in
      let at_gate : drop (length front) c ≡ get_or c (length front) 0 ∷ rest =
      drop_more c (length front) 0 inside ∙ ap (λ (l : List ℕ). get_or c (length front) 0 ∷ l) (torn.after ∙ drop-gated) in
      sym (take-append-drop (length front) c)
      ∙ ap (λ (l : List ℕ). l ++ drop (length front) c) (torn.before ∙ take_at front (gate ∷ rest) (length front) refl)
      ∙ ap (λ (l : List ℕ). front ++ l) at_gate

  -- a whole write behind the gate
  pub written-rest : (bytes : List ℕ) → overwrite (length front + 1) bytes (front ++ (gate ∷ rest)) ≡ front ++ (gate ∷ (bytes ++ drop (length bytes) rest))
  written-rest bytes =
      let after_it : drop (length front + 1 + length bytes) (front ++ (gate ∷ rest)) ≡ drop (length bytes) rest =
      sym (drop-drop (length bytes) (length front + 1) (front ++ (gate ∷ rest))) ∙ ap (λ (l : List ℕ). drop (length bytes) l) drop-gated in
      ap (λ (l : List ℕ). l ++ bytes ++ drop (length front + 1 + length bytes) (front ++ (gate ∷ rest))) take-gated
      ∙ ap (λ (l : List ℕ). (front ++ (gate ∷ [])) ++ bytes ++ l) after_it
      ∙ append_assoc (front ++ (gate ∷ [])) bytes (drop (length bytes) rest)
      ∙ append_assoc front (gate ∷ []) (bytes ++ drop (length bytes) rest)

  -- a whole write of the gate
  pub written-gate : (new : ℕ) → overwrite (length front) (new ∷ []) (front ++ (gate ∷ rest)) ≡ front ++ (new ∷ rest)
  written-gate new =
      ap (λ (l : List ℕ). l ++ (new ∷ []) ++ drop (length front + 1) (front ++ (gate ∷ rest))) (take_at front (gate ∷ rest) (length front) refl)
      ∙ ap (λ (l : List ℕ). front ++ (new ∷ []) ++ l) drop-gated
      ∙ append_assoc front (new ∷ []) rest

-- a write behind a place, and then one at it, are one write
pub twice : (at x : ℕ) (bytes old : List ℕ) → at < length old → overwrite at (x ∷ []) (overwrite (at + 1) bytes old) ≡ overwrite at (x ∷ bytes) old
twice at x bytes old inside =
    let behind = drop (at + 1 + length bytes) old in
    let long : length (take (at + 1) old) ≡ at + 1 = length-take-le (at + 1) old (omega (arith, inside)) in
    let joined : overwrite (at + 1) bytes old ≡ take (at + 1) old ++ (bytes ++ behind) = append_assoc (take (at + 1) old) bytes behind in
    let first : take at (overwrite (at + 1) bytes old) ≡ take at old =
    ap (λ (l : List ℕ). take at l) joined
    ∙ take-append-le at (take (at + 1) old) (bytes ++ behind) (omega (arith, long))
    ∙ sym (take-append-le at (take (at + 1) old) (drop (at + 1) old) (omega (arith, long)))
    ∙ ap (λ (l : List ℕ). take at l) (take-append-drop (at + 1) old) in
    let second : drop (at + 1) (overwrite (at + 1) bytes old) ≡ bytes ++ behind =
    ap (λ (l : List ℕ). drop (at + 1) l) joined ∙ drop_at (take (at + 1) old) (bytes ++ behind) (at + 1) long in
    let place : at + 1 + length bytes ≡ at + length (x ∷ bytes) = omega arith in
    ap (λ (l : List ℕ). (l ++ (x ∷ [])) ++ drop (at + 1) (overwrite (at + 1) bytes old)) first
    ∙ ap (λ (l : List ℕ). (take at old ++ (x ∷ [])) ++ l) second
    ∙ append_assoc (take at old) (x ∷ []) (bytes ++ behind)
    ∙ sym (append_assoc (take at old) (x ∷ bytes) behind)
    ∙ ap (λ (n : ℕ). (take at old ++ (x ∷ bytes)) ++ drop n old) place
