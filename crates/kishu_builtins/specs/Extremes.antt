-- `max` and `min`: what they are called, and how a value is compared with the best so far.
use Rattle.std.specs.Prelude.{ℕ, List, Bool, Option, codes}
use Rattle.kishu_language.specs.declared.tree.Comparison.{Comparison}
use Rattle.kishu_language.specs.declared.tree.Comparison.TheVariants as comparisons
use Rattle.kishu_meaning.specs.moments.Counting.{Count}
use Rattle.kishu_meaning.specs.comparing.Equal.{less_in, greater_in}
use Rattle.kishu_meaning.specs.values.Values.{Value, Node}
use Rattle.kishu_builtins.specs.declared.best.Extreme.{Extreme}
use Rattle.kishu_builtins.specs.declared.best.Extreme.TheVariants.{Greatest, Least}

abbrev pub comparison_of : Extreme → Comparison
comparison_of Greatest = comparisons.Greater
comparison_of Least = comparisons.Less

abbrev pub best_name : Extreme → List ℕ
best_name Greatest = codes "max"
best_name Least = codes "min"

-- whether a value goes before the best one
abbrev pub before_in : Extreme → List Node → ℕ → Value → Value → Count (Option Bool)
before_in Greatest ns depth v best = greater_in ns depth v best
before_in Least ns depth v best = less_in ns depth v best
