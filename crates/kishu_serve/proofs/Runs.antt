-- A run: the opening, and then its requests.
use Rattle.std.proofs.Common.{◌≡◌, ◌⊎◌, ◌≤◌, inl, inr, ⊎_elim, ℕ, List, [], ◌∷◌, ◌++◌, refl, sym, ◌∙◌, ap, subst, arith, Result, Ok, Err, IsOk, OnOk, Bool}
use Rattle.std.proofs.lemmas.List.{append-nil}
use Rattle.kishu_host.specs.Host.{State, Now, Only, Elapses, Rises}
use Rattle.kishu_host.specs.Going.{weaker, goes_on}
use Rattle.kishu_store.specs.Graph.{Graph}
use Rattle.kishu_history.specs.Good.{IsGoodFileOf}
use Rattle.kishu_model.specs.Serve.{Item, Reached, answers}
use Rattle.kishu_session.specs.Written.{begun}
use Rattle.kishu_serve.specs.Headline.{IsPart, IsWhole}
use Rattle.kishu_serve.specs.Recorded.{AreRecorded, IsWritten}

-- what a stop of the whole run may leave
abbrev pub RunStop : State → Graph → List Item → List ℕ → List ℕ → Type 0
RunStop s g qs c o = Now s c o ⊎ IsPart s g qs c o

-- what opening leaves
abbrev pub OpenStop : State → Graph → List ℕ → List ℕ → Type 0
OpenStop s g c o = Now s c o ⊎ (IsGoodFileOf c g × (o ≡ s.out))

-- nothing is done yet
pub reached-none : (g : Graph) (qs : List Item) → Reached g qs g []
reached-none g [] = (refl, refl)
reached-none g (q ∷ qs) = inl (refl, refl)

pub none-done : (s : State) (g : Graph) (qs : List Item) (file out : List ℕ) → IsGoodFileOf file g → out ≡ s.out → IsPart s g qs file out
none-done s g qs file out good same = record { now = g; printed = []; good = good; out_is = same ∙ sym (append-nil s.out); reached = reached-none g qs }

-- as it reads at the start
pub start-part : (s : State) (g : Graph) (qs : List Item) → IsGoodFileOf s.file g → Only s.file s.may_leave → (file out : List ℕ) → Now s file out → IsPart s g qs file out
start-part s g qs good only file out now = none-done s g qs file out (subst (λ (f : List ℕ). IsGoodFileOf f g) (sym (only file now.0)) good) now.1

module _ (s0 s1 : State) (g : Graph) (qs : List Item) (opening : Elapses s0 s1 (OpenStop s0 g)) where
  pub opening-stop : Elapses s0 s1 (RunStop s0 g qs)
  opening-stop = weaker s0 s1 (RunStop s0 g qs) (OpenStop s0 g) opening (λ f o h. ⊎_elim (λ now. inl now) (λ (k : IsGoodFileOf f g × (o ≡ s0.out)). inr (none-done s0 g qs f o k.0 k.1)) h)

  module _ (same : s1.out ≡ s0.out) where
    pub part-from : (f o : List ℕ) → IsPart s1 g qs f o → IsPart s0 g qs f o
    part-from f o h = record { now = h.now; printed = h.printed; good = h.good; out_is = h.out_is ∙ ap (λ (l : List ℕ). l ++ h.printed) same; reached = h.reached }

    pub serving-stop : (s2 : State) → Elapses s1 s2 (IsPart s1 g qs) → Elapses s0 s2 (RunStop s0 g qs)
    serving-stop s2 serving = goes_on s0 s1 s2 (RunStop s0 g qs) (IsPart s1 g qs) opening-stop serving (λ f o h. inr (part-from f o h))

    pub whole-from : (s2 : State) → IsWhole s1 s2 g qs → IsWhole s0 s2 g qs
    whole-from s2 w = record { good = w.good; out_is = w.out_is ∙ ap (λ (l : List ℕ). l ++ answers g qs) same; durable = w.durable }

-- what holds where a call succeeded, once it has
pub succeeded : {T E P : Type 0} (r : Result T E) → IsOk r → OnOk r P → P
succeeded (Ok x) ok p = p
succeeded (Err e) ok p = absurd (cc ok)

-- What requests write is written behind what opening leaves.
pub written : (many : Bool) (old opened new : List ℕ) → opened ≡ begun old → AreRecorded many opened new → IsWritten many old new
written many old opened new is recorded = subst (λ (f : List ℕ). AreRecorded many f new) is recorded

-- A count that rises later has risen.
pub risen : (old mid new : ℕ) → old ≤ mid → Rises mid new → Rises old new
risen old mid new before (inl later) = inl (omega (arith, before, later))
risen old mid new before (inr last) = inr last
