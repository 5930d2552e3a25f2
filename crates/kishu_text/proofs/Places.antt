-- The places of a slice, and the code points at them.
use Rattle.std.proofs.Common.{◌≡◌, ◌∙◌, ◌<◌, ap, sym, arith, ℕ, zero, suc, ℤ, pos, ◌+ℤ◌, List, [], ◌∷◌, length, get_or, Some, slice_get}
use Rattle.kishu_meaning.specs.values.Texts.{places, code_point_at, picked}
use Rattle.kishu_text.specs.PlaceLaws.{first_there}

at_place : (cs : List ℕ) (i x : ℕ) → i < length cs → x ≡ get_or cs i x → slice_get cs i ≡ Some x
at_place [] i x l e = absurd (omega arith)
at_place (c ∷ cs) zero x l e = ap Some (sym e)
at_place (c ∷ cs) (suc i) x l e = at_place cs i x (omega arith) e

pub picked_more : (cs : List ℕ) (place : ℕ) (next step : ℤ) (m n x : ℕ) → m ≡ suc n → place < length cs → x ≡ get_or cs place x → (0 < n → next ≡ pos place +ℤ step) → picked cs (places (pos place) step m) ≡ x ∷ picked cs (places next step n)
picked_more cs place next step m n x e l at on = first_there (code_point_at cs) (pos place) next step m n x e (at_place cs place x l at) on

pub same_picked : (cs ds : List ℕ) (y z a b : ℤ) (m : ℕ) → cs ≡ ds → y ≡ z → a ≡ b → picked cs (places y a m) ≡ picked ds (places z b m)
same_picked cs ds y z a b m e f g =
    ap (λ (l : List ℕ). picked l (places y a m)) e ∙ (ap (λ (i : ℤ). picked ds (places i a m)) f ∙ ap (λ (i : ℤ). picked ds (places z i m)) g)
