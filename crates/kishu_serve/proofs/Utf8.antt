-- Which inputs are a cell.
use Rattle.std.proofs.Common.{◌≡◌, ℕ, List, Bool, true, false, if◌then◌else◌, refl, ap}
use Rattle.std.specs.Str.{IsUtf8, is_utf8}
use Rattle.std.proofs.lemmas.Str.{IsUtf8-from_is_utf8, is_utf8-from_IsUtf8}
use Rattle.kishu_model.specs.Request.{cell, unreadable}
use Rattle.kishu_model.specs.Task.{cell_request}

pub cell-of : (input : List ℕ) → IsUtf8 input → cell_request input ≡ cell input
cell-of input utf8 = ap (λ (b : Bool). if b then cell input else unreadable) (is_utf8-from_IsUtf8 input utf8)

pub none-of : (input : List ℕ) → (IsUtf8 input → ⊥) → cell_request input ≡ unreadable
none-of input other = by (is_utf8 input) (λ test. other (IsUtf8-from_is_utf8 input test))
  where
    by : (b : Bool) → (b ≡ true → ⊥) → (if b then cell input else unreadable) ≡ unreadable
    by true never = absurd (never refl)
    by false never = refl
