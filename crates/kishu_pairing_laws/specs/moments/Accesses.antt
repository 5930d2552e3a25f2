-- The record of accesses holds what was accessed.
use Rattle.std.specs.Prelude.{List, ℕ, ◌≡◌, ◌∷◌, []}
use Rattle.std.specs.Cmp.Lexicographic.{slice_cmp, bytes_decides}
use Rattle.std.specs.Ordering.{nat_cmp, is_eq, match_ordering}
use Rattle.std.specs.Str.{bytes_eq}
use Rattle.std.specs.declared.cmp.Ordering.TheVariants.{Less, Equal, Greater}
use Rattle.std.proofs.Common.{Ordering, sym, ap, ◌∙◌, inl, refl, inr}
use Rattle.std.proofs.lemmas.Map.Text.{is_eq-slice_cmp}
use Rattle.kishu_meaning.specs.moments.Accesses.{with_access}
use Rattle.kishu_meaning.specs.moments.Moment.{access}
use Rattle.kishu_objects.specs.Lists.{In}
use Rattle.kishu_pairing_laws.specs.World.{Grows}

pub order_of : (x y : List ℕ) (o : Ordering) → o ≡ slice_cmp nat_cmp x y → bytes_eq x y ≡ is_eq o
order_of x y o e = sym (ap is_eq e ∙ is_eq-slice_cmp x y)

access_step : (x y : List ℕ) (ys : List (List ℕ)) → In x (with_access x ys) → (o : Ordering) → o ≡ slice_cmp nat_cmp x y → In x (match_ordering o (x ∷ y ∷ ys) (y ∷ ys) (y ∷ with_access x ys))
access_step x y ys h Less e = inl refl
access_step x y ys h Equal e = inl ((bytes_decides x y).0 (order_of x y Equal e))
access_step x y ys h Greater e = inr h

pub access_in : (x : List ℕ) (ys : List (List ℕ)) → In x (with_access x ys)
access_in x [] = inl refl
access_in x (y ∷ ys) = access_step x y ys (access_in x ys) (slice_cmp nat_cmp x y) refl

keeps_step : (z x y : List ℕ) (ys : List (List ℕ)) (o : Ordering) → (In z ys → In z (with_access x ys)) → In z (y ∷ ys) → In z (match_ordering o (x ∷ y ∷ ys) (y ∷ ys) (y ∷ with_access x ys))
keeps_step z x y ys Less h m = inr m
keeps_step z x y ys Equal h m = m
keeps_step z x y ys Greater h (inl e) = inl e
keeps_step z x y ys Greater h (inr m) = inr (h m)

pub access_keeps : (z x : List ℕ) (ys : List (List ℕ)) → In z ys → In z (with_access x ys)
access_keeps z x [] m = absurd m
access_keeps z x (y ∷ ys) m = keeps_step z x y ys (slice_cmp nat_cmp x y) (access_keeps z x ys) m

pub access_grows : (x : List ℕ) → Grows (access x)
access_grows x = record { grows = λ s y h. access_keeps y x s.accessed h }
