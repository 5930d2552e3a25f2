-- Which records moves and names make.
use Rattle.std.proofs.Common.{◌≡◌, ◌<◌, ◌+◌, ◌^◌, ℕ, List, length, refl, arith, length-append}
use Rattle.kishu_bytes.specs.Numbers.{four}
use Rattle.kishu_store.specs.Entries.{move, name, to_commit, to_branch, plain}
use Rattle.kishu_store.specs.EntryBytes.{name_bytes, head_of}
use Rattle.kishu_store.specs.Rules.{IsTitle, IsRecord}
use Rattle.kishu_store_laws.specs.EntryLaws.{length-body}

length-number : (n : ℕ) → length (head_of (move (to_commit n))) ≡ 6
unfolding head_of
length-number n = refl

length-branch : (title : List ℕ) → length (head_of (move (to_branch title))) ≡ 3 + length title
unfolding head_of
length-branch title = omega arith

length-name : (title : List ℕ) (n : ℕ) → length (head_of (name title n)) ≡ 6 + length title
unfolding head_of
length-name title n = omega (arith, length-append (name_bytes title) (four n))

pub number-record : (n : ℕ) → n < 2 ^ 32 → IsRecord (plain (move (to_commit n)))
number-record n lt = record { rules = lt; pictures = refl; small = omega (arith, length-body (plain (move (to_commit n))), length-number n) }

pub branch-record : (title : List ℕ) → IsTitle title → IsRecord (plain (move (to_branch title)))
branch-record title is = record { rules = is; pictures = refl; small = omega (arith, is.short, length-body (plain (move (to_branch title))), length-branch title) }

pub name-record : (title : List ℕ) (n : ℕ) → IsTitle title → n < 2 ^ 32 → IsRecord (plain (name title n))
name-record title n is lt = record { rules = (is, lt); pictures = refl; small = omega (arith, is.short, length-body (plain (name title n)), length-name title n) }
