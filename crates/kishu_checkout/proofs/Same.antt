-- Names that are compared text by text.
use Rattle.std.specs.Prelude.{◌≡◌, ℕ, nat_eq, Bool, List, map}
use Rattle.std.specs.Bool.{Decides}
use Rattle.std.specs.Cmp.Derive.Mapped.{pointwise-map}
use Rattle.std.specs.Cmp.Lexicographic.{pointwise}
use Rattle.std.specs.Rc.{rc_str_bytes}
use Rattle.std.specs.declared.alloc.Global.{Global}
use Rattle.std.specs.declared.rc.RcStr.{RcStr}
use Rattle.std.proofs.Common.{refl, sym, ◌∙◌}
use Rattle.std.proofs.lemmas.Bool.Decides.{Decides-eqb}
use Rattle.std.proofs.lemmas.Slice.Eq.{slice_eq-Decides}

text_decides : (a b : List ℕ) → Decides (pointwise nat_eq a b) (a ≡ b)
text_decides a b = slice_eq-Decides Decides-eqb a b (pointwise nat_eq a b) refl

pub texts_decide : (xs ys : List (RcStr Global)) (r : Bool) → r ≡ pointwise (λ a b. pointwise nat_eq (rc_str_bytes a) (rc_str_bytes b)) xs ys
    → Decides r (map rc_str_bytes xs ≡ map rc_str_bytes ys)
texts_decide xs ys r e =
    slice_eq-Decides text_decides (map rc_str_bytes xs) (map rc_str_bytes ys) r
    (e ∙ sym (pointwise-map rc_str_bytes (pointwise nat_eq) xs ys))
