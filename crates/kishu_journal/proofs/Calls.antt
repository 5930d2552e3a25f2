-- Calls that change no content, and the bytes that they read.
use Rattle.std.proofs.Common.{◌≡◌, ◌≤◌, ℕ, ◌+◌, Option, Some, None, refl, ◌∙◌, arith}
use Rattle.kishu_host.specs.Host.{State, Now, ReadsMore}
use Rattle.kishu_host.specs.Going.{goes_on}
use Rattle.kishu_journal.specs.Going.{IsQuiet, ReadsAtMost}

pub quiet-trans : (a b c : State) → IsQuiet a b → IsQuiet b c → IsQuiet a c
quiet-trans a b c p q = record {
  keeps = record { file = q.keeps.file ∙ p.keeps.file; out = q.keeps.out ∙ p.keeps.out; crash = λ f h. p.keeps.crash f (q.keeps.crash f h) };
  time = goes_on a b c (Now a) (Now b) p.time q.time (λ f o h. (p.keeps.crash f h.0, h.1 ∙ p.keeps.out));
  disk = omega (arith, p.disk, q.disk);
  outs = omega (arith, p.outs, q.outs);
}

pub at_most : (before now : Option ℕ) (m n : ℕ) → ReadsMore before now m → m ≤ n → ReadsAtMost before now n
at_most before None m n reads le = tt
at_most before (Some y) m n reads le = (reads.0, reads.1, omega (arith, reads.2, le))

pub reads-trans : (a b c : Option ℕ) (m n most : ℕ) → ReadsAtMost a b m → ReadsAtMost b c n → m + n ≤ most → ReadsAtMost a c most
reads-trans a b None m n most p q le = tt
reads-trans a None (Some z) m n most p q le = absurd (cc (q.1))
reads-trans a (Some y) (Some z) m n most p q le =
    let same : y ≡ q.0 = cc (q.1) in
    (p.0, p.1, omega (arith, p.2, q.2, same, le))

-- a larger bound
pub reads-more : (a b : Option ℕ) (m n : ℕ) → ReadsAtMost a b m → m ≤ n → ReadsAtMost a b n
reads-more a None m n p le = tt
reads-more a (Some y) m n p le = (p.0, p.1, omega (arith, p.2, le))

pub reads-none : (a : Option ℕ) → ReadsAtMost a a 0
reads-none None = tt
reads-none (Some x) = (x, refl, omega arith)
