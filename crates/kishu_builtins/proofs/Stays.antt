-- What stays as nodes come, and how many nodes a turn makes.
use Rattle.std.proofs.Common.{ℕ, ◌+◌, ◌≤◌, IsTrue, List, length, Option, Some, None, arith}
use Rattle.std.specs.Prelude.{IfSome}
use Rattle.kishu_meaning.specs.declared.value.Value as rust
use Rattle.kishu_meaning.specs.values.Sound.{is_sound}
use Rattle.kishu_meaning.specs.values.Values.{Node, value_of}
use Rattle.kishu_items.specs.Contents.{IsGrown}
use Rattle.kishu_items.specs.Gathering.{grown_least, grown_length, value_more}

pub some_stays : (n m : ℕ) → n ≤ m → (o : Option rust.Value) → IfSome o (λ v. IsTrue (is_sound n (value_of v))) → IfSome o (λ v. IsTrue (is_sound m (value_of v)))
some_stays n m p (Some v) h = value_more n m p (value_of v) h
some_stays n m p None h = tt

pub one_more : (k : ℕ) (a b : List Node) (l m : ℕ) → IsGrown k a b → k ≤ 1 → m ≤ l → (length a ≤ length b) × (length b + m ≤ length a + l + 1)
one_more k a b l m g few le = (grown_least k a b g, omega (arith, grown_length k a b g, few, le))
