-- What a search over the bytes of a text says of its code points.
use Rattle.std.proofs.Common.{◌≡◌, ◌∙◌, ◌<◌, ◌≤◌, ◌+◌, ap, sym, refl, arith, subst, ℕ, List, [], ◌∷◌, ◌++◌, length, take, drop, Option, Some, None, MatchOption, length-append}
use denote.Ref.{Bor}
use Rattle.std.specs.Char.{encode_utf8}
use Rattle.std.specs.Str.{chars, encode_utf8_all, IsUtf8, IsCharBoundary}
use Rattle.std.specs.Str.Pattern.{FindsText, HasTextAt, LacksTextAt, SplitsAroundMatch}
use Rattle.std.proofs.lemmas.List.{drop_at, length-take-le, take-append-drop}
use Rattle.std.proofs.lemmas.Str.{chars-append, encodes-append, encodes-chars, length-le-encodes, IsUtf8-append, IsUtf8-take, IsUtf8-drop, IsCharBoundary-from_drop}
use Rattle.kishu_meaning.specs.values.Texts.{first_place, pieces}
use Rattle.kishu_text.proofs.Cuts.{place_none, place_some, pieces_none, pieces_some}

pub some_chars : (cs bs : List ℕ) → encode_utf8_all cs ≡ bs → 0 < length bs → 0 < length cs
some_chars [] bs e l = let none : 0 ≡ length bs = ap length e in absurd (omega arith)
some_chars (c ∷ cs) bs e l = omega arith

-- the bytes of a text in which the part stands behind us
bytes_around : (part text us vs : List ℕ) → IsUtf8 part → IsUtf8 text → chars text ≡ us ++ (chars part ++ vs) → text ≡ encode_utf8_all us ++ (part ++ encode_utf8_all vs)
bytes_around part text us vs up ut e =
    sym (encodes-chars text ut) ∙ ap encode_utf8_all e ∙ encodes-append us (chars part ++ vs)
    ∙ ap (λ (x : List ℕ). encode_utf8_all us ++ x) (encodes-append (chars part) vs ∙ ap (λ (x : List ℕ). x ++ encode_utf8_all vs) (encodes-chars part up))

shorter_front : (us ws xs zs : List ℕ) → us ++ ws ≡ xs ++ zs → length us < length xs → length (encode_utf8_all us) < length (encode_utf8_all xs)
shorter_front us ws [] zs e l = absurd (omega arith)
shorter_front [] ws (x ∷ xs) zs e l = let some = length-le-encodes (x ∷ xs) in omega arith
shorter_front (u ∷ us) ws (x ∷ xs) zs e l =
    let same : u ≡ x = cc e in
    let tails : us ++ ws ≡ xs ++ zs = cc e in
    let rest = shorter_front us ws xs zs tails (omega arith) in
    let size : length (encode_utf8 u) ≡ length (encode_utf8 x) = ap (λ (n : ℕ). length (encode_utf8 n)) same in
    omega (arith, length-append (encode_utf8 u) (encode_utf8_all us), length-append (encode_utf8 x) (encode_utf8_all xs))

drop_behind : (text xs ys : List ℕ) → text ≡ xs ++ ys → drop (length xs) text ≡ ys
drop_behind text xs ys e = ap (λ (l : List ℕ). drop (length xs) l) e ∙ drop_at xs ys (length xs) refl

nowhere : (part text : List ℕ) → IsUtf8 part → IsUtf8 text → ((i : ℕ) → i ≤ length text → LacksTextAt part text i) → first_place (chars part) (chars text) ≡ None
nowhere part text up ut h =
    place_none (chars part) (chars text) (λ us vs e.
    let around = bytes_around part text us vs up ut e in
    let size : length text ≡ length (encode_utf8_all us) + length (part ++ encode_utf8_all vs) = ap length around ∙ length-append (encode_utf8_all us) (part ++ encode_utf8_all vs) in
    h (length (encode_utf8_all us)) (omega arith) (encode_utf8_all vs) (drop_behind text (encode_utf8_all us) (part ++ encode_utf8_all vs) around))

-- the parts of a text round the bytes from i to j
pub record Around (part text : List ℕ) (i j : ℕ) : Type 0 where
  pub place : first_place (chars part) (chars text) ≡ Some (length (chars (take i text)))
  pub cut : chars text ≡ chars (take i text) ++ (chars part ++ chars (drop j text))

somewhere : (part text : List ℕ) (i j : ℕ) → IsUtf8 part → IsUtf8 text → i ≤ length text → ((k : ℕ) → k < i → LacksTextAt part text k) → HasTextAt part text i j → Around part text i j
somewhere part text i j up ut li h at =
    let back : IsUtf8 (drop j text) = IsUtf8-drop text j ut (subst (λ (k : ℕ). IsCharBoundary text k) (sym at.ends) at.after) in
    let behind : IsUtf8 (drop i text) = subst IsUtf8 (sym at.split) (IsUtf8-append part (drop j text) up back) in
    let front : IsUtf8 (take i text) = IsUtf8-take text i ut (IsCharBoundary-from_drop text i li behind) in
    let xs = chars (take i text) in
    let ys = chars (drop j text) in
    let whole : text ≡ take i text ++ (part ++ drop j text) = sym (take-append-drop i text) ∙ ap (λ (l : List ℕ). take i text ++ l) at.split in
    let cut : chars text ≡ xs ++ (chars part ++ ys) =
    ap chars whole ∙ chars-append (take i text) (part ++ drop j text) front ∙ ap (λ (l : List ℕ). xs ++ l) (chars-append part (drop j text) up) in
    let size : length (encode_utf8_all xs) ≡ i = ap length (encodes-chars (take i text) front) ∙ length-take-le i text li in
    let first : first_place (chars part) (xs ++ (chars part ++ ys)) ≡ Some (length xs) =
    place_some (chars part) xs ys (λ us vs l e.
    let around = bytes_around part text us vs up ut (cut ∙ e) in
    let shorter = shorter_front us (chars part ++ vs) xs (chars part ++ ys) (sym e) l in
    h (length (encode_utf8_all us)) (omega arith) (encode_utf8_all vs) (drop_behind text (encode_utf8_all us) (part ++ encode_utf8_all vs) around)) in
    record { place = ap (first_place (chars part)) cut ∙ first; cut = cut }

abbrev pub IsCutAtText : List ℕ → List ℕ → Option (Bor (List ℕ) × Bor (List ℕ)) → Type 0
IsCutAtText part text r = MatchOption r (FindsText part text None) (λ x. SplitsAroundMatch (FindsText part) text x.0.now x.1.now)

pub cut_place : (part text : List ℕ) (r : Option (Bor (List ℕ) × Bor (List ℕ))) → IsUtf8 part → IsUtf8 text → IsCutAtText part text r
    → MatchOption r (first_place (chars part) (chars text) ≡ None) (λ p. first_place (chars part) (chars text) ≡ Some (length (chars p.0.now)))
cut_place part text None up ut h = nowhere part text up ut h
cut_place part text (Some (front, back)) up ut (i, j, finds, is_front, is_back, le, size, left) =
    let around = somewhere part text i j up ut (omega arith) finds.0 finds.1 in
    around.place ∙ ap (λ (l : List ℕ). Some (length (chars l))) (sym is_front)

pub cut_pieces : (part text : List ℕ) (r : Option (Bor (List ℕ) × Bor (List ℕ))) → IsUtf8 part → IsUtf8 text → IsCutAtText part text r → 0 < length part
    → MatchOption r (pieces (chars part) (chars text) ≡ chars text ∷ []) (λ p. pieces (chars part) (chars text) ≡ chars p.0.now ∷ pieces (chars part) (chars p.1.now))
cut_pieces part text None up ut h l = pieces_none (chars part) (chars text) (nowhere part text up ut h)
cut_pieces part text (Some (front, back)) up ut (i, j, finds, is_front, is_back, le, size, left) l =
    let around = somewhere part text i j up ut (omega arith) finds.0 finds.1 in
    let xs = chars (take i text) in
    let ys = chars (drop j text) in
    let some = some_chars (chars part) part (encodes-chars part up) l in
    let first : first_place (chars part) (xs ++ (chars part ++ ys)) ≡ Some (length xs) = ap (first_place (chars part)) (sym around.cut) ∙ around.place in
    ap (pieces (chars part)) around.cut ∙ pieces_some (chars part) xs ys some first
    ∙ (ap (λ (m : List ℕ). chars m ∷ pieces (chars part) ys) (sym is_front) ∙ ap (λ (m : List ℕ). chars front.now ∷ pieces (chars part) (chars m)) (sym is_back))
