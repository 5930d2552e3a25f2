-- What the answer of `==` tells of ranges and of keys (Library Reference, "Ranges" and "Mapping Types").
use Rattle.std.specs.Prelude.{◌≡◌, ℕ, Bool, List}
use Rattle.std.specs.Bool.{Decides}
use Rattle.kishu_meaning.specs.values.Keys.{Key, is_one}
use Rattle.kishu_meaning.specs.values.Values.{Value, Node}
use Rattle.kishu_meaning.specs.moments.Counting.{answer}
use Rattle.kishu_meaning.specs.comparing.Equal.{equal_in}
use Rattle.kishu_meaning_laws.specs.EqualLaws.{IsRange, HaveSameNumbers, IsValueOf, equal_just_where_one, equal_just_where_same_numbers}

-- Of two ranges, this is true just where they have the same numbers.
abbrev pub TellsOfRanges : Value → Value → Bool → Type 0
TellsOfRanges v w same = IsRange v → IsRange w → Decides same (HaveSameNumbers v w)

-- Of the values of two keys, this is true just where the keys are one.
abbrev pub TellsOfKeys : List Node → Value → Value → Bool → Type 0
TellsOfKeys nodes v w same = (left right : Key) → IsValueOf nodes left v → IsValueOf nodes right w → same ≡ is_one left right

pub equal_tells_of_ranges : (nodes : List Node) (depth : ℕ) (v w : Value) (left after : ℕ) (same : Bool) → equal_in nodes depth v w left ≡ answer same after → TellsOfRanges v w same
equal_tells_of_ranges nodes depth v w left after same e r s = equal_just_where_same_numbers nodes depth v w r s left after same e

pub equal_tells_of_keys : (nodes : List Node) (depth : ℕ) (v w : Value) (left after : ℕ) (same : Bool) → equal_in nodes depth v w left ≡ answer same after → TellsOfKeys nodes v w same
equal_tells_of_keys nodes depth v w left after same e key other h g = (equal_just_where_one nodes depth key other v w h g).only left after same e
