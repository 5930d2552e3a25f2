-- Classes of numbers, in which each number leads to one of its class that is no greater, and the first of a class to itself.
use Rattle.std.specs.Prelude.{◌≡◌, ℕ, zero, suc, ◌<◌, ◌≤◌, ◌==◌, nat_lt, if◌then◌else◌, List, [], ◌∷◌, ◌++◌, map, length, get_or, slice_get, Some}

-- where a number leads
abbrev pub up : List ℕ → ℕ → ℕ
up ps i = get_or ps i i

-- No number leads to a greater one.
pub record Falls (ps : List ℕ) : Type 0 where
  pub up : (i : ℕ) → up ps i ≤ i

-- where n steps lead
abbrev pub climb : ℕ → List ℕ → ℕ → ℕ
climb zero ps i = i
climb (suc n) ps i = climb n ps (up ps i)

-- The first of a number's class: each step leads to a lesser number, or stays.
unfoldable pub root : List ℕ → ℕ → ℕ
root ps i = climb i ps i

-- The number is there, and is the first of its class.
pub record IsFirst (ps : List ℕ) (i : ℕ) : Type 0 where
  pub there : i < length ps
  pub first : root ps i ≡ i

-- f of each number below n
abbrev pub table : (ℕ → ℕ) → ℕ → List ℕ
table f zero = []
table f (suc n) = table f n ++ f n ∷ []

-- of each number the first of its class
unfoldable pub roots : List ℕ → List ℕ
roots ps = table (root ps) (length ps)

-- Each of so many numbers is in a class by itself.
unfoldable pub each_alone : ℕ → List ℕ
each_alone n = table (λ i. i) n

-- The first of this number's class is that one.
abbrev pub Leads : List ℕ → ℕ → ℕ → Type 0
Leads rs i r = slice_get rs i ≡ Some r

abbrev pub instead : (old new k : ℕ) → ℕ
instead old new k = if k == old then new else k

-- The lesser of two first numbers in place of the greater.
unfoldable pub replaced : ℕ → ℕ → List ℕ → List ℕ
replaced a b rs = if nat_lt a b then map (instead b a) rs else map (instead a b) rs

-- the classes, where those of two numbers are made one
abbrev pub joined : ℕ → ℕ → List ℕ → List ℕ
joined a b rs = replaced (get_or rs a 0) (get_or rs b 0) rs
