-- What stands between the items of a text.
use Rattle.std.specs.Prelude.{ℕ, zero, suc, List, [], codes}
use Rattle.kishu_meaning.specs.moments.Counting.{Count, give}
use Rattle.kishu_meaning.specs.comparing.Show.{made}

-- before the item of this place: nothing before the first, and then a comma and a space
abbrev pub comma : ℕ → Count (List ℕ)
comma zero = give []
comma (suc i) = made (codes ", ")
