-- Items that are equal to a value (Library Reference, "Sequence Types"; Python Language Reference 3, "Membership test operations"). An item that is visited takes a step, and its comparison takes its own.
use Rattle.std.specs.Prelude.{ℕ, suc, Bool, if◌then◌else◌, List, [], ◌∷◌, Option, Some, None}
use Rattle.kishu_meaning.specs.values.Values.{Value, Node}
use Rattle.kishu_meaning.specs.moments.Counting.{Count, ◌>>=◌, give, counted}
use Rattle.kishu_meaning.specs.comparing.Equal.{pair_equal, equal_nodes, room_at}
use Rattle.kishu_meaning.specs.moments.Moment.{M}

module _ (ns : List Node) (depth : ℕ) (x : Value) where
  -- the same by `is`, or equal
  abbrev pub is_found : Value → Count Bool
  is_found item = pair_equal (equal_nodes ns (room_at depth)) item x

  -- the first place, where the items stand from this one on
  abbrev pub place_from : ℕ → List Value → Count (Option ℕ)
  place_from at [] = give None
  place_from at (v ∷ vs) = is_found v >>= λ same. if same then give (Some at) else place_from (suc at) vs

  -- how many there are, besides those before
  abbrev pub count_from : ℕ → List Value → Count ℕ
  count_from n [] = give n
  count_from n (v ∷ vs) = is_found v >>= λ same. count_from (if same then suc n else n) vs

abbrev pub place_among : Value → List Value → M (Option ℕ)
place_among x vs = λ s. counted (place_from s.nodes s.depth x 0 vs) s

abbrev pub count_among : Value → List Value → M ℕ
count_among x vs = λ s. counted (count_from s.nodes s.depth x 0 vs) s
