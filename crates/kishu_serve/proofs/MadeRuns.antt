-- The run of requests that are made, one by one.
use Rattle.std.proofs.Common.{◌≡◌, ◌≤◌, ◌+◌, ℕ, true, false, List, [], ◌∷◌, ◌++◌, map, sym, ap, subst, append_assoc}
use Rattle.std.proofs.lemmas.List.{append-nil}
use Rattle.kishu_host.specs.Host.{State, Told, Elapses}
use Rattle.kishu_store.specs.Graph.{Graph}
use Rattle.kishu_model.specs.Request.{Request}
use Rattle.kishu_model.specs.Serve.{after, answer_of, Item, answered, silent, closing, after_all, answers}
use Rattle.kishu_model.specs.Step.{charge_of}
use Rattle.kishu_model.specs.generated.Run.{summary_of, summed_up}
use Rattle.kishu_gen.specs.Summaries.{HasTaken}
use Rattle.kishu_gen.specs.declared.summary.Summary.{Summary}
use Rattle.kishu_session.specs.Attached.{IsAttached}
use Rattle.kishu_session.specs.declared.session.Session.{Session}
use Rattle.kishu_serve.specs.Coming.{Comes, ComesTo, AreApplied, last_line}
use Rattle.kishu_serve.specs.Headline.{IsPart}
use Rattle.kishu_serve.specs.Recorded.{Records}
use Rattle.kishu_serve.specs.Serving.{IsOpen}
use Rattle.kishu_serve.proofs.Chain.{comes-start}
use Rattle.kishu_serve.proofs.CellRuns.{silent-more, silent-stop}

-- what is left, where these lines were taken and these requests are to come
abbrev pub left_with : (lines : List ℕ) → List Request → Graph → List Item
left_with lines qs now = map silent qs ++ closing (summary_of (after_all now (map silent qs)) (lines ++ answers now (map answered qs))) ∷ []

-- The lines that were taken, and how far the run has come with them.
pub record Taken (s0 s : State) (session : Session) (g : Graph) (all : List Item) (qs : List Request) (summary : Summary) (steps0 steps : ℕ)
    : Type 0 where
  pub lines : List ℕ
  pub taken : HasTaken summary lines
  pub so : ComesTo s0 s session g all (left_with lines qs) steps0 steps

-- before the first request
pub taken-first : (s : State) (session : Session) (g : Graph) (qs : List Request) (summary : Summary) (steps : ℕ)
    → IsAttached session s g → HasTaken summary []
    → Taken s s session g (summed_up g qs) qs summary steps steps
taken-first s session g qs summary steps a none = record {
  lines = [];
  taken = none;
  so = record { now = g; attached = a; comes = comes-start s session g (summed_up g qs) steps a };
}

module _ {s0 s : State} {session : Session} {g : Graph} {all : List Item} {made : List Request} {summary : Summary} {steps0 steps : ℕ}
    (t : Taken s0 s session g all made summary steps0 steps)
    (q : Request) (qs : List Request) (here : made ≡ q ∷ qs) where
  abbrev pub now : Graph
  now = t.so.now

  -- what is left behind this request
  abbrev pub behind : List Item
  behind =
      map silent qs
      ++ closing (summary_of (after_all (after now q) (map silent qs)) (t.lines ++ (answer_of now q ++ answers (after now q) (map answered qs)))) ∷ []

  first : Comes s0 s g now all (silent q ∷ behind) steps0 steps
  first = subst (λ (rs : List Request). Comes s0 s g now all (left_with t.lines rs now) steps0 steps) here t.so.comes

  pub made-stop : (s2 : State) → Elapses s s2 (IsPart s now (silent q ∷ [])) → Elapses s0 s2 (IsPart s0 g all)
  made-stop s2 stop = silent-stop s0 s s2 g now all behind q steps0 steps steps first stop

  pub made-more : (s2 : State) (next : Session) (later : Summary) (steps2 : ℕ) → IsAttached next s2 (after now q) → s2.out ≡ s.out
      → ((lines : List ℕ) → HasTaken summary lines → HasTaken later (lines ++ answer_of now q))
      → steps + charge_of now q ≤ steps2 → Elapses s s2 (IsPart s now (silent q ∷ []))
      → Taken s0 s2 next g all qs later steps0 steps2
  made-more s2 next later steps2 attached same takes least stop =
      let then_behind = silent-more s0 s s2 g now all behind q steps0 steps steps2 first same least stop in
      let later_lines = answers (after now q) (map answered qs) in
      let said : t.lines ++ (answer_of now q ++ later_lines) ≡ (t.lines ++ answer_of now q) ++ later_lines =
      sym (append_assoc t.lines (answer_of now q) later_lines) in
      let e : behind ≡ left_with (t.lines ++ answer_of now q) qs (after now q) =
      ap (λ (lines : List ℕ). map silent qs ++ closing (summary_of (after_all (after now q) (map silent qs)) lines) ∷ []) said in
      record {
        lines = t.lines ++ answer_of now q;
        taken = takes t.lines t.taken;
        so = record {
          now = after now q;
          attached = attached;
          comes = subst (λ (is : List Item). Comes s0 s2 g (after now q) all is steps0 steps2) e then_behind;
        };
      }

-- What holds before each request: the run has come from s0 and all its requests to s and those to come.
pub record OnTheWay (s0 s : State) (old session : Session) (first made : List Request) (summary : Summary) (steps0 steps : ℕ) : Type 0 where
  pub going : session.halted ≡ false
  pub stands : IsOpen session s
  pub recorded : Records true s0 s
  pub comes : Told s0 ((g : Graph) → IsAttached old s0 g → Taken s0 s session g (summed_up g first) made summary steps0 steps)
  pub tells : s.tells ≡ s0.tells
  pub disk : s0.disk_faults ≤ s.disk_faults
  pub outs : s0.out_faults ≤ s.out_faults

-- So it has come where the session was attached.
pub taken-along : {s0 s : State} {old session : Session} {first made : List Request} {summary : Summary} {steps0 steps : ℕ} → OnTheWay s0 s old session first made summary steps0 steps
    → s0.tells ≡ true → (g : Graph) → IsAttached old s0 g → Taken s0 s session g (summed_up g first) made summary steps0 steps
taken-along way told g a = way.comes told g a

-- All are applied.
pub taken-last : {s0 s : State} {session : Session} {g : Graph} {qs : List Request} {summary : Summary} {steps0 steps : ℕ} (made : List Request)
    → qs ≡ []
    → Taken s0 s session g (summed_up g made) qs summary steps0 steps → AreApplied s0 s session g made summary steps0 steps
taken-last {s0 = s0} {s = s} {g = g} {steps0 = steps0} {steps = steps} made none t =
    let now = t.so.now in
    let e : left_with t.lines [] now ≡ last_line t.lines now = ap (λ (lines : List ℕ). closing (summary_of now lines) ∷ []) (append-nil t.lines) in
    let comes = subst (λ (rs : List Request). Comes s0 s g now (summed_up g made) (left_with t.lines rs now) steps0 steps) none t.so.comes in (
      t.lines,
      t.taken,
      record {
        now = now;
        attached = t.so.attached;
        comes = subst (λ (is : List Item). Comes s0 s g now (summed_up g made) is steps0 steps) e comes;
      },
    )

-- The line that is left, where it is known.
abbrev pub last-known : {s0 s : State} {session : Session} {g : Graph} {all : List Item} {steps0 steps : ℕ} (lines : List ℕ)
    (so : ComesTo s0 s session g all (last_line lines) steps0 steps)
    → ComesTo s0 s session g all (λ _. closing (summary_of so.now lines) ∷ []) steps0 steps
last-known lines so = record { now = so.now; attached = so.attached; comes = so.comes }
