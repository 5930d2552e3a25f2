-- Two tests that both hold.
use Rattle.std.proofs.Common.{refl, Bool, true, false, ◌&&◌, IsTrue}
use Rattle.std.proofs.lemmas.Bool.{false≢true}

pub both : (a b : Bool) → IsTrue a → IsTrue b → IsTrue (a && b)
both true b p q = q
both false b p q = p

pub first : (a b : Bool) → IsTrue (a && b) → IsTrue a
first true b p = refl
first false b p = p

pub second : (a b : Bool) → IsTrue (a && b) → IsTrue b
second true b p = p
second false b p = absurd (false≢true p)
