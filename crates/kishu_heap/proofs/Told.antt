-- What the answer of `==` tells of ranges and of keys.
use Rattle.std.proofs.Common.{◌≡◌, ℕ, Bool, List, Result, Ok, Err, IfOk, subst}
use Rattle.kishu_meaning.specs.values.Values.{Value, Node}
use Rattle.kishu_meaning.specs.comparing.Equal.{equal_by, equal_nodes, room_at}
use Rattle.kishu_heap.specs.Tells.{TellsOfRanges, TellsOfKeys, equal_tells_of_ranges, equal_tells_of_keys}
use Rattle.kishu_heap.specs.declared.fault.CompareFault.{CompareFault}
use Rattle.kishu_heap.specs.Compared.{Gives}

module _ (nodes : List Node) (depth room : ℕ) (v w : Value) (left after : ℕ) (is_room : room ≡ room_at depth) where
  at_depth : (r : Result Bool CompareFault) → Gives r after (equal_by (equal_nodes nodes room) v w left) → Gives r after (equal_by (equal_nodes nodes (room_at depth)) v w left)
  at_depth r h = subst (λ k. Gives r after (equal_by (equal_nodes nodes k) v w left)) is_room h

  pub tells_of_ranges : (r : Result Bool CompareFault) → Gives r after (equal_by (equal_nodes nodes room) v w left) → IfOk r (TellsOfRanges v w)
  tells_of_ranges (Ok same) h = equal_tells_of_ranges nodes depth v w left after same (at_depth (Ok same) h)
  tells_of_ranges (Err fault) h = tt

  pub tells_of_keys : (r : Result Bool CompareFault) → Gives r after (equal_by (equal_nodes nodes room) v w left) → IfOk r (TellsOfKeys nodes v w)
  tells_of_keys (Ok same) h = equal_tells_of_keys nodes depth v w left after same (at_depth (Ok same) h)
  tells_of_keys (Err fault) h = tt
