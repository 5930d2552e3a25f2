-- Texts that are put behind others.
use Rattle.std.proofs.Common.{◌≡◌, ◌+◌, ℕ, zero, suc, List, [], ◌∷◌, ◌++◌, drop, sym, ap, ◌∙◌, arith, append_assoc, Some}
use Rattle.std.specs.Prelude.{slice_get}
use Rattle.std.specs.Rc.{rc_str_bytes}
use Rattle.std.specs.declared.alloc.Global.{Global}
use Rattle.std.specs.declared.rc.RcStr.{RcStr}
use Rattle.kishu_names.specs.Record.{texts_of}

pub one_more : (old : List (RcStr Global)) (t : RcStr Global) (b : List ℕ) → rc_str_bytes t ≡ b
    → texts_of (old ++ t ∷ []) ≡ texts_of old ++ b ∷ []
one_more [] t b is = ap (λ (x : List ℕ). x ∷ []) is
one_more (s ∷ old) t b is = ap (λ (l : List (List ℕ)). rc_str_bytes s ∷ l) (one_more old t b is)

pub pushed : (old new : List (RcStr Global)) (t : RcStr Global) (b : List ℕ) (rest all : List (List ℕ))
    → texts_of old ++ (b ∷ rest) ≡ all → new ≡ old ++ t ∷ [] → rc_str_bytes t ≡ b → texts_of new ++ rest ≡ all
pushed old new t b rest all before is told =
    ap (λ (l : List (RcStr Global)). texts_of l ++ rest) is
    ∙ ap (λ (l : List (List ℕ)). l ++ rest) (one_more old t b told)
    ∙ append_assoc (texts_of old) (b ∷ []) rest
    ∙ before

pub rest_at : {A : Type 0} (xs : List A) (i : ℕ) (x : A) → slice_get xs i ≡ Some x → drop i xs ≡ x ∷ drop (i + 1) xs
rest_at [] i x e = absurd (cc)
rest_at (y ∷ ys) zero x e = (let f : y ≡ x = cc in ap (λ z. z ∷ ys) f)
rest_at (y ∷ ys) (suc i) x e =
    let f : suc i + 1 ≡ suc (i + 1) = omega arith in
    rest_at ys i x e ∙ ap (λ j. x ∷ drop j (y ∷ ys)) (sym f)
