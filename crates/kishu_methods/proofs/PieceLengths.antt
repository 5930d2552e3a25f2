-- How long a text is with another one in place of the occurrences of a part.
use Rattle.std.proofs.Common.{◌≡◌, ◌∙◌, ◌<◌, ◌≤◌, ◌+◌, ◌-◌, ◌*◌, ap, sym, refl, arith, ℕ, zero, suc, Bool, true, false, ◌&&◌, ◌==◌, eqb, List, [], ◌∷◌, ◌++◌, length, if◌then◌else◌, flat_map, length-append}
use Rattle.std.proofs.lemmas.Bool.Decides.{nat_tests}
use Rattle.std.proofs.lemmas.Str.{chars-nil, encodes-chars}
use Rattle.std.specs.Str.{chars, encode_utf8_all, IsUtf8}
use Rattle.std.specs.List.{onto_first, sum_by}
use Rattle.std.proofs.lemmas.List.Sums.{sum_by-cons}
use Rattle.kishu_meaning.specs.values.Texts.{begins, pieces_behind, pieces, joined, replaced, occurrences, is_nonempty}

-- pieces, with another text before each
pub length-flat_map : (by : List ℕ) (ps : List (List ℕ)) → length (flat_map (λ (n : List ℕ). by ++ n) ps) ≡ sum_by length ps + length ps * length by
length-flat_map by [] = omega arith
length-flat_map by (p ∷ ps) =
    length-append (by ++ p) (flat_map (λ (n : List ℕ). by ++ n) ps)
    ∙ omega (arith, length-append by p, length-flat_map by ps, sum_by-cons length p ps)

pub length-joined : (by : List ℕ) (ps : List (List ℕ)) → 0 < length ps → length (joined by ps) + length by ≡ sum_by length ps + length ps * length by
length-joined by [] l = absurd (omega arith)
length-joined by (p ∷ ps) l = omega (arith, length-append p (flat_map (λ (n : List ℕ). by ++ n) ps), length-flat_map by ps, sum_by-cons length p ps)

-- ---- the pieces and the occurrences between them are the text

record IsCounted (part cs : List ℕ) (n : ℕ) (ps : List (List ℕ)) : Type 0 where
  some : 0 < length ps
  whole : sum_by length ps + length ps * length part + n ≡ length cs + length part

counted_more : (part cs : List ℕ) (c : ℕ) (ps : List (List ℕ)) → IsCounted part cs 0 ps → IsCounted part (c ∷ cs) 0 (onto_first c ps)
counted_more part cs c [] h = absurd (omega (arith, h.some))
counted_more part cs c (p ∷ ps) h = record { some = omega arith; whole = omega (arith, h.whole, sum_by-cons length p ps, sum_by-cons length (c ∷ p) ps) }

counted_new : (part cs : List ℕ) (c : ℕ) (ps : List (List ℕ)) → 0 < length part → IsCounted part cs (length part - 1) ps → IsCounted part (c ∷ cs) 0 ([] ∷ ps)
counted_new part cs c ps l h = record { some = omega arith; whole = omega (arith, h.whole, sum_by-cons length [] ps) }

begins-length : (part cs : List ℕ) → begins part cs ≡ true → length part ≤ length cs
begins-length [] cs e = omega arith
begins-length (p ∷ ps) [] e = absurd (cc e)
begins-length (p ∷ ps) (c ∷ cs) e = omega (arith, begins-length ps cs (both (eqb p c) (begins ps cs) e))
  where
    both : (a b : Bool) → (a && b) ≡ true → b ≡ true
    both true b e = e
    both false b e = absurd (cc e)

either : (part cs : List ℕ) (c : ℕ) (b : Bool) → 0 < length part → begins part (c ∷ cs) ≡ b
    → (length part - 1 ≤ length cs → IsCounted part cs (length part - 1) (pieces_behind part (length part - 1) cs)) → IsCounted part cs 0 (pieces_behind part 0 cs)
    → IsCounted part (c ∷ cs) 0 (if b then [] ∷ pieces_behind part (length part - 1) cs else onto_first c (pieces_behind part 0 cs))
either part cs c true l e new old = counted_new part cs c _ l (new (omega (arith, begins-length part (c ∷ cs) e)))
either part cs c false l e new old = counted_more part cs c _ old

counted : (part : List ℕ) (n : ℕ) (cs : List ℕ) → 0 < length part → n ≤ length cs → IsCounted part cs n (pieces_behind part n cs)
counted part zero [] l le = record { some = omega arith; whole = omega arith }
counted part (suc n) [] l le = absurd (omega arith)
counted part (suc n) (c ∷ cs) l le = let h = counted part n cs l (omega arith) in record { some = h.some; whole = omega (arith, h.whole) }
counted part zero (c ∷ cs) l le = either part cs c (begins part (c ∷ cs)) l refl (λ within. counted part (length part - 1) cs l within) (counted part 0 cs l (omega arith))

-- ---- the length

pub record IsLong (part by cs : List ℕ) (found : ℕ) : Type 0 where
  -- the occurrences lie in the text
  pub within : found * length part ≤ length cs
  pub length : length (replaced cs part by) + found * length part ≡ length cs + found * length by

long_from : (part by cs : List ℕ) (ps : List (List ℕ)) (found : ℕ) → IsCounted part cs 0 ps → found ≡ length ps - 1 → (found * length part ≤ length cs) × (length (joined by ps) + found * length part ≡ length cs + found * length by)
long_from part by cs ps found h e =
    let count : length ps ≡ found + 1 = omega (arith, h.some) in
    let long = length-joined by ps h.some in
    let whole = h.whole in
    (omega (arith, ap (λ (k : ℕ). k * length part) count), omega (arith, ap (λ (k : ℕ). k * length part) count, ap (λ (k : ℕ). k * length by) count))

pub replaced_long : (part by cs : List ℕ) (found : ℕ) → 0 < length part → found ≡ occurrences part cs → IsLong part by cs found
replaced_long part by cs found l e =
    let h = long_from part by cs (pieces part cs) found (counted part 0 cs l (omega arith)) e in
    record { within = h.0; length = h.1 }

-- the pieces with nothing between them
pub length-unjoined : (ps : List (List ℕ)) → length (joined [] ps) ≡ sum_by length ps
length-unjoined [] = refl
length-unjoined (p ∷ ps) = omega (arith, length-joined [] (p ∷ ps) (omega arith))

-- ---- as numbers of the code

pub long_is : (part by cs : List ℕ) (found n b p : ℕ) → 0 < length part → found ≡ occurrences part cs → n ≡ length cs → b ≡ length by → p ≡ length part
    → (found * p ≤ n + found * b) × (n + found * b - found * p ≡ length (replaced cs part by))
long_is part by cs found n b p l e en eb ep =
    let h = replaced_long part by cs found l e in
    let products_b : found * b ≡ found * length by = ap (λ (k : ℕ). found * k) eb in
    let products_p : found * p ≡ found * length part = ap (λ (k : ℕ). found * k) ep in
    (omega (arith, h.within), omega (arith, h.length))

pub some_chars : (bs : List ℕ) → IsUtf8 bs → 0 < length bs → 0 < length (chars bs)
some_chars bs u l = by (chars bs) (encodes-chars bs u)
  where
    by : (cs : List ℕ) → encode_utf8_all cs ≡ bs → 0 < length cs
    by [] e = let none : 0 ≡ length bs = ap length e in absurd (omega arith)
    by (c ∷ cs) e = omega arith

pub nonempty : (cs : List ℕ) → 0 < length cs → is_nonempty cs ≡ true
nonempty [] l = absurd (omega arith)
nonempty (c ∷ cs) l = grind (arith, nat_tests)

some_sized : (n : ℕ) → 0 < n → (n == 0) ≡ false
some_sized n l = grind (arith, nat_tests)

-- a text is empty by its bytes where it is by its characters
pub empty_both : (bs : List ℕ) → IsUtf8 bs → (length bs == 0) ≡ (length (chars bs) == 0)
empty_both [] u = sym (ap (λ (cs : List ℕ). length cs == 0) chars-nil)
empty_both (b ∷ bs) u = some_sized (length (b ∷ bs)) (omega arith) ∙ sym (some_sized (length (chars (b ∷ bs))) (some_chars (b ∷ bs) u (omega arith)))
