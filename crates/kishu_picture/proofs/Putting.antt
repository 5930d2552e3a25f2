-- Items that are put one after another, behind their number.
use Rattle.std.specs.Prelude.{◌≡◌, ℕ, ◌+◌, ◌<◌, ◌≤◌, ◌^◌, List, [], ◌∷◌, ◌++◌, length, flat_map}
use Rattle.std.specs.List.{AllByRecursion}
use Rattle.std.proofs.Common.{ap, sym, ◌∙◌, subst, arith, append_assoc, append-nil, length-append}
use Rattle.kishu_objects.specs.Bytes.{in_four, many}
use Rattle.kishu_objects.specs.Fits.{AllFit}

-- When the rest is put behind `out`, all is put. The items fit where the rest do, and four bytes count the rest.
pub record IsPutting {A : Type 0} (bytes : A → List ℕ) (Fits : A → Type 0) (all : List A) (target out : List ℕ) (rest : List A) : Type 0 where
  pub written : out ++ flat_map bytes rest ≡ target
  pub fit : AllByRecursion Fits rest → AllByRecursion Fits all
  pub short : length (flat_map bytes rest) < 2 ^ 32

module _ {A : Type 0} (bytes : A → List ℕ) (Fits : A → Type 0) where
  pub putting_begins : (old out : List ℕ) (all : List A) (n : ℕ) → n ≡ length all → out ≡ old ++ in_four n → length (many bytes all) < 2 ^ 32
      → IsPutting bytes Fits all (old ++ many bytes all) out all
  putting_begins old out all n e put l = record {
    written = ap (λ z. z ++ flat_map bytes all) put ∙ append_assoc old (in_four n) (flat_map bytes all)
        ∙ ap (λ k. old ++ (in_four k ++ flat_map bytes all)) e;
    fit = λ h. h;
    short = (let k = length-append (in_four (length all)) (flat_map bytes all) in omega (arith, l));
  }

  rest_long : (a : A) (rest more : List A) → rest ≡ a ∷ more → length (flat_map bytes rest) ≡ length (bytes a) + length (flat_map bytes more)
  rest_long a rest more e = ap (λ r. length (flat_map bytes r)) e ∙ length-append (bytes a) (flat_map bytes more)

  pub one_short : (all : List A) (target out : List ℕ) (rest more : List A) (a : A) → IsPutting bytes Fits all target out rest → rest ≡ a ∷ more
      → length (bytes a) < 2 ^ 32
  one_short all target out rest more a p e = (let l = p.short in omega (arith, l, rest_long a rest more e))

  pub putting_goes_on : (all : List A) (target out new : List ℕ) (rest more : List A) (a : A) → IsPutting bytes Fits all target out rest
      → rest ≡ a ∷ more → new ≡ out ++ bytes a → Fits a → IsPutting bytes Fits all target new more
  putting_goes_on all target out new rest more a p e put fits = record {
    written = ap (λ z. z ++ flat_map bytes more) put ∙ append_assoc out (bytes a) (flat_map bytes more) ∙ ap (λ r. out ++ flat_map bytes r) (sym e)
        ∙ p.written;
    fit = λ h. p.fit (subst (λ r. AllByRecursion Fits r) (sym e) (fits, h));
    short = (let l = p.short in omega (arith, l, rest_long a rest more e));
  }

  pub all_put : (all : List A) (target out : List ℕ) (rest : List A) → IsPutting bytes Fits all target out rest → rest ≡ [] → out ≡ target
  all_put all target out rest p e = sym (ap (λ r. out ++ flat_map bytes r) e ∙ append-nil out) ∙ p.written

  pub all_fit : (all : List A) (target out : List ℕ) (rest : List A) → IsPutting bytes Fits all target out rest → rest ≡ [] → length all < 2 ^ 32
      → AllFit Fits all
  all_fit all target out rest p e l = (l, p.fit (subst (λ r. AllByRecursion Fits r) (sym e) tt))

-- Four bytes count the items, where each takes a byte at least.
module _ {A : Type 0} (bytes : A → List ℕ) (some : (a : A) → 1 ≤ length (bytes a)) where
  no_more : (all : List A) → length all ≤ length (flat_map bytes all)
  no_more [] = omega arith
  no_more (a ∷ all) = (let n = length-append (bytes a) (flat_map bytes all) in let s = some a in let r = no_more all in omega (arith, n, s, r))

  pub few : (all : List A) → length (many bytes all) < 2 ^ 32 → length all < 2 ^ 32
  few all l = (let a = no_more all in let k = length-append (in_four (length all)) (flat_map bytes all) in omega (arith, l, a, k))
