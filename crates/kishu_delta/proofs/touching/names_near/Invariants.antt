use Rattle.std.proofs.Common.{◌≡◌, ℕ, List, drop}
use Rattle.std.specs.List.{list_any}
use Rattle.std.specs.Prelude.{◌||◌}
use Rattle.kishu_language.specs.tokens.Names.{is_among}
use Rattle.kishu_delta.specs.Near.{lent}
use Rattle.kishu_delta.proofs.touching.names_near.Given as goal

abbrev pub invariant-loop-group : goal.invariant-loop-group
invariant-loop-group l = (x : List ℕ) → (is_among x l.all || list_any (is_among x) (lent (drop l.group-index l.near))) ≡ (is_among x l.names.accessed || list_any (is_among x) (lent l.near))
