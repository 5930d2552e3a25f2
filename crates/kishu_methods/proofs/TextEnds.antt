-- Where a text begins or ends with a part: of the bytes and of the code points.
use Rattle.std.proofs.Common.{◌≡◌, ◌∙◌, ◌-◌, ap, sym, refl, ℕ, Bool, true, false, ◌&&◌, eqb, eqb-true, eq-eqb, List, [], ◌∷◌, ◌++◌, length, take, drop, reverse, MatchBool, None}
use Rattle.std.specs.Str.{chars, encode_utf8_all, IsUtf8}
use Rattle.std.specs.Str.Pattern.{FindsTextPrefix, FindsTextSuffix, HasPrefixMatch, HasSuffixMatch}
use Rattle.std.proofs.lemmas.List.{reverse-append, reverse-reverse}
use Rattle.std.proofs.lemmas.Str.{chars-append, encodes-append, encodes-chars, IsUtf8-take}
use Rattle.kishu_meaning.specs.values.Texts.{begins}

and_both : (a b : Bool) → (a && b) ≡ true → (a ≡ true) × (b ≡ true)
and_both true b e = (refl, e)
and_both false b e = absurd (cc e)

begins-rest : (part cs : List ℕ) → begins part cs ≡ true → (rest : List ℕ) × (cs ≡ part ++ rest)
begins-rest [] cs e = (cs, refl)
begins-rest (p ∷ ps) [] e = absurd (cc e)
begins-rest (p ∷ ps) (c ∷ cs) e =
    let both = and_both (eqb p c) (begins ps cs) e in
    let more = begins-rest ps cs both.1 in
    let same : p ≡ c = eqb-true p c both.0 in
    (more.0, ap (λ (x : ℕ). x ∷ cs) (sym same) ∙ ap (λ (l : List ℕ). p ∷ l) more.1)

begins-front : (part rest : List ℕ) → begins part (part ++ rest) ≡ true
begins-front [] rest = refl
begins-front (p ∷ ps) rest = ap (λ (b : Bool). b && begins ps (ps ++ rest)) (eq-eqb p p refl) ∙ begins-front ps rest

not_true : (b : Bool) → (b ≡ true → ⊥) → b ≡ false
not_true true h = absurd (h refl)
not_true false h = refl

begins-not : (part cs : List ℕ) → ((rest : List ℕ) → cs ≡ part ++ rest → ⊥) → begins part cs ≡ false
begins-not part cs h = not_true (begins part cs) (λ e. let found = begins-rest part cs e in h found.0 found.1)

-- the bytes of a text are those of its code points
bytes_of : (text cs ds : List ℕ) → IsUtf8 text → chars text ≡ cs ++ ds → text ≡ encode_utf8_all cs ++ encode_utf8_all ds
bytes_of text cs ds u e = sym (encodes-chars text u) ∙ (ap encode_utf8_all e ∙ encodes-append cs ds)

pub front_is : (r : Bool) (part text : List ℕ) → IsUtf8 part → IsUtf8 text → MatchBool r (HasPrefixMatch (FindsTextPrefix part) text) (FindsTextPrefix part text None) → r ≡ begins (chars part) (chars text)
front_is true part text up ut h =
    let whole : chars text ≡ chars part ++ chars (drop h.0 text) = ap chars h.1.1 ∙ chars-append part (drop h.0 text) up in
    sym (ap (begins (chars part)) whole ∙ begins-front (chars part) (chars (drop h.0 text)))
front_is false part text up ut h =
    sym (begins-not (chars part) (chars text) (λ rest e.
    h (encode_utf8_all rest) (bytes_of text (chars part) rest ut e ∙ ap (λ (x : List ℕ). x ++ encode_utf8_all rest) (encodes-chars part up))))

-- the code points of a text that a part stands at the end of, from the back
back_whole : (part front : List ℕ) → IsUtf8 front → reverse (chars (front ++ part)) ≡ reverse (chars part) ++ reverse (chars front)
back_whole part front uf = ap reverse (chars-append front part uf) ∙ reverse-append (chars front) (chars part)

turned : (part rest cs : List ℕ) → reverse cs ≡ reverse part ++ rest → cs ≡ reverse rest ++ part
turned part rest cs e =
    sym (reverse-reverse cs) ∙ ap reverse e ∙ reverse-append (reverse part) rest ∙ ap (λ (l : List ℕ). reverse rest ++ l) (reverse-reverse part)

pub back_is : (r : Bool) (part text : List ℕ) → IsUtf8 part → IsUtf8 text → MatchBool r (HasSuffixMatch (FindsTextSuffix part) text) (FindsTextSuffix part text None) → r ≡ begins (reverse (chars part)) (reverse (chars text))
back_is true part text up ut h =
    let front = take (length text - h.0) text in
    let whole : reverse (chars text) ≡ reverse (chars part) ++ reverse (chars front) = ap (λ (l : List ℕ). reverse (chars l)) h.1.1 ∙ back_whole part front (IsUtf8-take text (length text - h.0) ut h.3) in
    sym (ap (begins (reverse (chars part))) whole ∙ begins-front (reverse (chars part)) (reverse (chars front)))
back_is false part text up ut h =
    sym (begins-not (reverse (chars part)) (reverse (chars text)) (λ rest e.
    h (encode_utf8_all (reverse rest)) (bytes_of text (reverse rest) (chars part) ut (turned (chars part) rest (chars text) e) ∙ ap (λ (x : List ℕ). encode_utf8_all (reverse rest) ++ x) (encodes-chars part up))))
