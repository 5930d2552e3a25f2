-- The parts of a value's bytes.
use Rattle.std.proofs.Common.{◌≡◌, ℕ, ◌<◌, ◌^◌, List, [], ◌∷◌, ◌++◌, length, refl, ap}
use Rattle.std.proofs.Common.{sym, ◌∙◌, arith, inl, inr, Some, nat_eq, nat_lt, true, append_assoc, length-append}
use Rattle.std.specs.Prelude.{position}
use Rattle.std.specs.List.{position_or_len}
use Rattle.std.specs.Str.{chars, encode_utf8_all, all_scalars, IsUtf8}
use Rattle.std.proofs.lemmas.Bool.{lt-ltb}
use Rattle.std.proofs.lemmas.Str.{encodes-chars, chars-encodes}
use Rattle.kishu_objects.specs.Fits.{Spells}
use Rattle.kishu_objects.specs.Bytes.{in_four, long}
use Rattle.kishu_objects.specs.Picture.{place}
use Rattle.kishu_objects.specs.Lists.{In}
use Rattle.kishu_objects_laws.specs.ListLaws.{same_or_not}

pub place_is : (ks : List ℕ) (i : ℕ) → In i ks → (position_or_len (nat_eq i) ks ≡ place ks i) × (place ks i < length ks)
place_is [] i h = absurd h
place_is (k ∷ ks) i h = elim (same_or_not i k) [
  | inl e ↦ elim (same_or_not k i) [ inl f ↦ rw (e.1, f.1) (refl, omega arith) | inr m ↦ absurd (m.0 (sym e.0)) ]
  | inr n ↦ elim (same_or_not k i) [
    | inl f ↦ absurd (n.0 (sym f.0))
    | inr m ↦ elim h [ inl e ↦ absurd (n.0 e) | inr r ↦ (let a = place_is ks i r in rw (n.1, m.1) (omega (arith, a.0), omega (arith, a.1))) ]
  ]
]

-- a number that is there is found at its place
pub position_place : (ks : List ℕ) (i : ℕ) → In i ks → position (nat_eq i) ks ≡ Some (place ks i)
position_place ks i h =
    let a = place_is ks i h in
    let t : nat_lt (place ks i) (length ks) ≡ true = lt-ltb (place ks i) (length ks) a.1 in
    rw (a.0, t) refl

pub put_in : (old one more new tag : List ℕ) → one ≡ old ++ tag → new ≡ one ++ more → new ≡ old ++ (tag ++ more)
put_in old one more new tag e f = f ∙ ap (λ z. z ++ more) e ∙ append_assoc old tag more

pub put_three : (old one two three new tag a b c : List ℕ) → one ≡ old ++ tag → two ≡ one ++ a → three ≡ two ++ b → new ≡ three ++ c
    → new ≡ old ++ (tag ++ (a ++ (b ++ c)))
put_three old one two three new tag a b c e f g h =
    let second = put_in old one a two tag e f in
    let third = put_in old two b three (tag ++ a) second g in
    let fourth = put_in old three c new ((tag ++ a) ++ b) third h in
    fourth ∙ ap (λ z. old ++ z) (append_assoc (tag ++ a) b c ∙ append_assoc tag a (b ++ c))

pub text_short : (bs : List ℕ) → IsUtf8 bs → length (4 ∷ long (encode_utf8_all (chars bs))) < 2 ^ 32 → length bs < 2 ^ 32
text_short bs u l = let e = encodes-chars bs u in omega (
  arith,
  l,
  ap length e,
  length-append (in_four (length (encode_utf8_all (chars bs))))
      (encode_utf8_all (chars bs)),
)

pub text_spells : (bs : List ℕ) → IsUtf8 bs → length bs < 2 ^ 32 → Spells (chars bs)
text_spells bs u l =
    let same : chars bs ≡ u.0 = ap chars (sym u.1.1) ∙ chars-encodes u.0 u.1.0 in
    (ap all_scalars same ∙ u.1.0, omega (arith, l, ap length (encodes-chars bs u)))
