-- How what holds of each call holds of a run of calls.
--
-- `weaker`: the first call. `goes_on`: a call more.
-- `now_has`, `now_each`: what each stop since the beginning leaves holds of the pair as it reads now, and of each pair that a stop now may leave.
use Rattle.std.proofs.Common.{inl, inr, ⊎_elim, ℕ, List, ◌≤◌, ◌∙◌, arith}
use Rattle.kishu_host.specs.Host.{State, Now, Elapses}

-- a call more
pub goes_on : (a b c : State) (P Q : List ℕ → List ℕ → Type 0) → Elapses a b P → Elapses b c Q → ((f o : List ℕ) → Q f o → P f o) → Elapses a c P
goes_on a b c P Q first second in_p = record {
  tells = second.tells ∙ first.tells;
  later = omega (arith, first.later, second.later);
  nothing_else = λ t f o le left.
      ⊎_elim (λ before. first.nothing_else t f o le before) (λ now. inr (in_p f o now)) (second.nothing_else t f o (omega (arith, le, first.later)) left);
  keeps = λ t f o le left. second.keeps t f o (omega (arith, le, first.later)) (first.keeps t f o le left);
}

-- the first call
pub weaker : (a b : State) (P Q : List ℕ → List ℕ → Type 0) → Elapses a b Q → ((f o : List ℕ) → Q f o → P f o) → Elapses a b P
weaker a b P Q e in_p = record {
  tells = e.tells;
  later = e.later;
  nothing_else = λ t f o le left. ⊎_elim (λ before. inl before) (λ now. inr (in_p f o now)) (e.nothing_else t f o le left);
  keeps = e.keeps;
}

-- What each stop leaves holds of the pair as it reads now.
pub now_has : (a b : State) (P : List ℕ → List ℕ → Type 0) → Elapses a b P
    → b.may_leave b.file
    → ((t : ℕ) (c : List ℕ) → t ≤ b.moment → b.may_leave c → b.left_since t c b.out)
    → ((c o : List ℕ) → a.left_since a.moment c o → Now a c o)
    → ((c o : List ℕ) → Now a c o → P c o) → P b.file b.out
now_has a b P time reads counts only start =
    ⊎_elim (λ before. start b.file b.out (only b.file b.out before)) (λ now. now) (time.nothing_else a.moment b.file b.out (omega arith) (counts a.moment b.file time.later reads))

-- What each stop leaves holds of each pair that a stop now may leave.
pub now_each : (a b : State) (P : List ℕ → List ℕ → Type 0) → Elapses a b P
    → ((t : ℕ) (c : List ℕ) → t ≤ b.moment → b.may_leave c → b.left_since t c b.out)
    → ((c o : List ℕ) → a.left_since a.moment c o → Now a c o)
    → ((c o : List ℕ) → Now a c o → P c o) → (c : List ℕ) → b.may_leave c → P c b.out
now_each a b P time counts only start c now =
    ⊎_elim (λ before. start c b.out (only c b.out before)) (λ now. now) (time.nothing_else a.moment c b.out (omega arith) (counts a.moment c time.later now))
