-- The names of a map of texts are in order, each once.
use Rattle.std.proofs.Common.{◌≡◌, ◌∙◌, ap, sym, refl, subst, ℕ, List, [], ◌∷◌, map}
use Rattle.std.specs.List.{AllByRecursion}
use Rattle.std.specs.List.Sorted.{IsStrictlySortedBy}
use Rattle.std.specs.Cmp.Lexicographic.{slice_cmp}
use Rattle.std.specs.Ordering.{is_eq, nat_cmp}
use Rattle.std.specs.Rc.{rc_str_bytes}
use Rattle.std.specs.declared.alloc.Global.{Global}
use Rattle.std.specs.declared.cmp.Ordering.TheVariants.{Less, Equal}
use Rattle.std.specs.declared.rc.RcStr.{RcStr}
use Rattle.std.specs.Map.{keys_of}
use Rattle.std.proofs.lemmas.Map.Text.{is_eq-slice_cmp}
use Rattle.std.proofs.lemmas.Slice.Eq.{bytes_eq-Decides}
use Rattle.kishu_graph.specs.Kept.{branches_of, Rises}

pub tied : (x y : List ℕ) → slice_cmp nat_cmp x y ≡ Equal → x ≡ y
tied x y h = (bytes_eq-Decides x y).0 (sym (is_eq-slice_cmp x y) ∙ ap is_eq h)

names_of : (es : List (RcStr Global × ℕ)) → map (λ b. b.0) (branches_of es) ≡ map rc_str_bytes (keys_of es)
names_of [] = refl
names_of (e ∷ es) = ap (λ ns. rc_str_bytes e.0 ∷ ns) (names_of es)

above : (x : RcStr Global) (xs : List (RcStr Global)) → AllByRecursion (λ y. slice_cmp nat_cmp (rc_str_bytes x) (rc_str_bytes y) ≡ Less) xs
    → AllByRecursion (λ y. slice_cmp nat_cmp (rc_str_bytes x) y ≡ Less) (map rc_str_bytes xs)
above x [] a = tt
above x (y ∷ ys) a = (a.0, above x ys a.1)

rises_keys : (xs : List (RcStr Global)) → IsStrictlySortedBy (λ x y. slice_cmp nat_cmp (rc_str_bytes x) (rc_str_bytes y)) xs → Rises (map rc_str_bytes xs)
unfolding IsStrictlySortedBy
rises_keys [] r = tt
rises_keys (x ∷ xs) r = (above x xs r.0, rises_keys xs r.1)

pub rises_names : (es : List (RcStr Global × ℕ)) → IsStrictlySortedBy (λ x y. slice_cmp nat_cmp (rc_str_bytes x) (rc_str_bytes y)) (keys_of es) → Rises (map (λ b. b.0) (branches_of es))
rises_names es r = subst Rises (sym (names_of es)) (rises_keys (keys_of es) r)
