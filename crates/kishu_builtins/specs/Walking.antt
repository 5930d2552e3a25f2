-- Visits of the items of a sequence.
use Rattle.std.specs.Prelude.{ℕ, Option, Some, None}
use Rattle.kishu_meaning.specs.calls.Builtins.{and_next}
use Rattle.kishu_meaning.specs.moments.Moment.{M, ◌>>=◌, give}
use Rattle.kishu_meaning.specs.values.Values.{Value}
use Rattle.kishu_meaning.specs.items.Walks.{Walk, item_for}

-- The item for this turn, where there is one more: it takes a step.
abbrev pub visited : Walk → ℕ → M (Option Value)
visited walk k = item_for walk k >>= λ found. and_next found (give None) (λ v. give (Some v))
