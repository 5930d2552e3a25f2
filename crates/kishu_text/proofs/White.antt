-- Texts that are cut at white space.
use Rattle.std.proofs.Common.{length-drop, ◌≡◌, ◌∙◌, ◌<◌, ◌≤◌, ◌+◌, ap, sym, refl, arith, subst, ℕ, Bool, true, false, cond, List, [], ◌∷◌, ◌++◌, length, take, drop, Option, Some, None, MatchOption, IfSome, filter, length-append}
use denote.Ref.{Bor}
use Rattle.std.specs.Char.{encode_utf8, char_set_contains, IsScalar}
use Rattle.std.specs.List.{onto_first, slice_split}
use Rattle.std.specs.Str.{chars, IsUtf8, IsCharBoundary, NonePass, NoCharPasses}
use Rattle.std.specs.Str.Pattern.{FindsBy, SplitsAroundMatch, HasCharAt}
use Rattle.std.proofs.lemmas.Bool.Decides.{nat_tests}
use Rattle.std.proofs.lemmas.List.{take-append-drop}
use Rattle.std.proofs.lemmas.List.Splits.{slice_split-cons_yes, slice_split-cons_no}
use Rattle.std.proofs.lemmas.Str.{chars-append, chars_past_char, chars_from_encodes, encode_ascii, IsUtf8-append, IsUtf8-encode, IsUtf8-take, IsUtf8-drop, IsCharBoundary-from_drop}
use Rattle.kishu_meaning.specs.values.White.{is_white}
use Rattle.kishu_meaning.specs.values.Texts.{is_nonempty}

abbrev pub white : List ℕ
white = 32 ∷ 9 ∷ 10 ∷ 11 ∷ 12 ∷ 13 ∷ []

pub among_white : (c : ℕ) → char_set_contains white c ≡ is_white c
among_white c = grind (arith, nat_tests)

pub white_scalar : (c : ℕ) → is_white c ≡ true → IsScalar c
white_scalar c e = grind (arith, nat_tests)

uncut : (p : ℕ → Bool) (cs : List ℕ) → NonePass p cs → slice_split p cs ≡ cs ∷ []
uncut p [] h = refl
uncut p (c ∷ cs) h = slice_split-cons_no p c cs h.0 ∙ ap (onto_first c) (uncut p cs h.1)

cut_behind : (p : ℕ → Bool) (xs : List ℕ) (c : ℕ) (ys : List ℕ) → NonePass p xs → p c ≡ true → slice_split p (xs ++ c ∷ ys) ≡ xs ∷ slice_split p ys
cut_behind p [] c ys h e = slice_split-cons_yes p c ys e
cut_behind p (x ∷ xs) c ys h e = slice_split-cons_no p x (xs ++ c ∷ ys) h.0 ∙ ap (onto_first x) (cut_behind p xs c ys h.1 e)

none_pass : (p : ℕ → Bool) (text : List ℕ) → IsUtf8 text → NoCharPasses p text → NonePass p (chars text)
none_pass p text u (cs, bytes, none) = subst (NonePass p) (chars_from_encodes cs text u bytes) none

-- the text is cut at a white space that takes the bytes from i to j
cut_at : (text : List ℕ) (i j c : ℕ) → IsUtf8 text → i ≤ length text → NoCharPasses is_white (take i text) → is_white c ≡ true → HasCharAt c text i j
    → slice_split is_white (chars text) ≡ chars (take i text) ∷ slice_split is_white (chars (drop j text))
cut_at text i j c u li none white_c at =
    let back : IsUtf8 (drop j text) = IsUtf8-drop text j u (subst (λ (k : ℕ). IsCharBoundary text k) (sym at.ends) at.after) in
    let behind : IsUtf8 (drop i text) = subst IsUtf8 (sym at.split) (IsUtf8-append (encode_utf8 c) (drop j text) (IsUtf8-encode c (white_scalar c white_c)) back) in
    let front : IsUtf8 (take i text) = IsUtf8-take text i u (IsCharBoundary-from_drop text i li behind) in
    let whole : chars text ≡ chars (take i text) ++ c ∷ chars (drop j text) =
    ap chars (sym (take-append-drop i text)) ∙ chars-append (take i text) (drop i text) front
    ∙ ap (λ (l : List ℕ). chars (take i text) ++ l) (chars_past_char (drop i text) (drop j text) c behind at.split) in
    ap (slice_split is_white) whole ∙ cut_behind is_white (chars (take i text)) c (chars (drop j text)) (none_pass is_white (take i text) front none) white_c

abbrev pub FindsWhite : List ℕ → Option (ℕ × ℕ) → Type 0
FindsWhite text r = (k : ℕ → Bool) → ((c : ℕ) → char_set_contains white c ≡ k c) → FindsBy k text r

abbrev pub IsCutAtWhite : List ℕ → Option (Bor (List ℕ) × Bor (List ℕ)) → Type 0
IsCutAtWhite text r = MatchOption r (FindsWhite text None) (λ x. SplitsAroundMatch FindsWhite text x.0.now x.1.now)

pub white_pieces : (text : List ℕ) (r : Option (Bor (List ℕ) × Bor (List ℕ))) → IsUtf8 text → IsCutAtWhite text r
    → MatchOption r (slice_split is_white (chars text) ≡ chars text ∷ []) (λ p. slice_split is_white (chars text) ≡ chars p.0.now ∷ slice_split is_white (chars p.1.now))
white_pieces text None u h = uncut is_white (chars text) (none_pass is_white text u (h is_white among_white))
white_pieces text (Some (front, back)) u (i, j, finds, is_front, is_back, le, size, left) =
    let found = finds is_white among_white in
    let at = found.1 in
    cut_at text i j at.0 u (omega arith) found.0 at.1 at.2
    ∙ (ap (λ (m : List ℕ). chars m ∷ slice_split is_white (chars (drop j text))) (sym is_front) ∙ ap (λ (m : List ℕ). chars front.now ∷ slice_split is_white (chars m)) (sym is_back))

some_bytes : (c : ℕ) → is_white c ≡ true → length (encode_utf8 c) ≡ 1
some_bytes c e = ap length (encode_ascii c (grind (arith, nat_tests)))

pub white_shorter : (text : List ℕ) (r : Option (Bor (List ℕ) × Bor (List ℕ))) → IsCutAtWhite text r → IfSome r (λ p. length p.1.now < length text)
white_shorter text None h = tt
white_shorter text (Some (front, back)) (i, j, finds, is_front, is_back, le, size, left) =
    let at = (finds is_white among_white).1 in
    let wide = some_bytes at.0 at.1 in
    let split : length (drop i text) ≡ length (encode_utf8 at.0) + length (drop j text) = ap length at.2.split ∙ length-append (encode_utf8 at.0) (drop j text) in
    let rest : length (drop i text) ≤ length text = omega (arith, length-drop i text) in
    let same : length back.now ≡ length (drop j text) = ap length is_back in
    omega arith

-- ---- words

pub nonempty : (cs : List ℕ) → 0 < length cs → is_nonempty cs ≡ true
nonempty [] l = absurd (omega arith)
nonempty (c ∷ cs) l = grind (arith, nat_tests)

pub filter_first : (p : List ℕ → Bool) (x : List ℕ) (xs : List (List ℕ)) → filter p (x ∷ xs) ≡ filter p (x ∷ []) ++ filter p xs
filter_first p x xs =
    elim (p x) as (λ (b : Bool). cond b (x ∷ filter p xs) (filter p xs) ≡ cond b (x ∷ []) [] ++ filter p xs) [ true ↦ refl | false ↦ refl ]
