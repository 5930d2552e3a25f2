-- References: what names a commit or a branch.
use Rattle.std.specs.Prelude.{ℕ, ◌+◌, ◌*◌, ◌-◌, Bool, false, ◌&&◌, ◌||◌, ◌==◌, not, nat_le, if◌then◌else◌, List, [], ◌∷◌, length, Option, Some, None, option_map}
use Rattle.std.specs.List.{list_all}
use Rattle.kishu_language.specs.tokens.Names.{is_digit}
use Rattle.kishu_store.specs.Branches.{commit_of}
use Rattle.kishu_store.specs.Graph.{Graph, Target, newest}

-- decimal digits without leading zeros
abbrev pub is_decimal : List ℕ → Bool
is_decimal [] = false
is_decimal (c ∷ cs) = is_digit c && (list_all is_digit cs && (not (c == 48) || (length cs == 0)))

-- the number of these digits, behind that of those before them
abbrev pub number_from : ℕ → List ℕ → ℕ
number_from n [] = n
number_from n (c ∷ cs) = number_from (10 * n + (c - 48)) cs

-- Decimal digits without leading zeros name the commit of that number, any other text the branch of that name.
abbrev pub resolve : Graph → List ℕ → Option Target
resolve g to =
    if is_decimal to then (if nat_le (number_from 0 to) (newest g) then Some (record { commit = number_from 0 to; branch = None }) else None)
    else option_map (λ c. record { commit = c; branch = Some to }) (commit_of to g.branches)
