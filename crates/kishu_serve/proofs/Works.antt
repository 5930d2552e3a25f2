-- The work of a run, where its items are measured: what is read and counted so far, and what is left.
use Rattle.std.proofs.Common.{◌≡◌, ◌≤◌, ◌+◌, ℕ, List, [], ◌∷◌, ◌++◌, map, Option, Some, None, refl, subst, arith}
use Rattle.kishu_host.specs.Host.{State, ReadsMore}
use Rattle.kishu_store.specs.Graph.{Graph}
use Rattle.kishu_model.specs.Request.{Request}
use Rattle.kishu_model.specs.Serve.{Item, answered, silent, closing, after, after_all, answers}
use Rattle.kishu_model.specs.generated.Run.{summary_of}
use Rattle.kishu_model.specs.notebooks.Run.{cell_requests, with_answers}
use Rattle.kishu_model.specs.notebooks.Setting.{written}
use Rattle.kishu_gen.specs.Scripts.{to_come}
use Rattle.kishu_gen.specs.declared.script.Script.{Script}
use Rattle.kishu_journal.specs.Going.{ReadsAtMost}
use Rattle.kishu_notebook.specs.Views.{data_of}
use Rattle.kishu_live_laws.specs.Made.{made_by}
use Rattle.kishu_session.specs.Renewing.{most_kept}
use Rattle.kishu_serve.specs.Efforts.{IsMeasured, AreMeasured, read_by, read_by_all, steps_by, steps_by_all}
use Rattle.kishu_serve.specs.Making.{made_by_all}
use Rattle.kishu_serve.specs.Notebooks.{texts_of}
use Rattle.kishu_serve.specs.Work.{to_do}
use Rattle.kishu_serve.specs.declared.book.Book.{Book}
use Rattle.kishu_serve.specs.declared.work.Work.{Work}
use Rattle.kishu_serve.specs.declared.work.Work.TheVariants.{Runs, Makes}

-- ---- bytes that are read

pub reads-none : (x : Option ℕ) → ReadsMore x x 0
reads-none None = tt
reads-none (Some n) = (n, refl, omega arith)

pub reads-both : (x y z : Option ℕ) (n m : ℕ) → ReadsMore x y n → ReadsMore y z m → ReadsMore x z (n + m)
reads-both x y None n m first last = tt
reads-both x None (Some k) n m first last = absurd (cc last.1)
reads-both x (Some j) (Some k) n m first last = (first.0, first.1, (let same : j ≡ last.0 = cc last.1 in omega (arith, same, first.2, last.2)))

-- At most so many, and then just so many.
pub reads-bounded : (x y z : Option ℕ) (n m : ℕ) → ReadsAtMost x y n → ReadsMore y z m → ReadsAtMost x z (n + m)
reads-bounded x y None n m first last = tt
reads-bounded x None (Some k) n m first last = absurd (cc last.1)
reads-bounded x (Some j) (Some k) n m first last = (first.0, first.1, (let same : j ≡ last.0 = cc last.1 in omega (arith, same, first.2, last.2)))

-- ---- a run that has come so far

-- Where all items are measured, those that are left are. What was read, and what those read that are left, come to what all read. Where no more nodes are made than the heap goes on with, this holds of those that are left; and so it is with the steps.
pub record Works (s0 s : State) (g now : Graph) (all rest : List Item) (made0 made steps0 steps : ℕ) : Type 0 where
  pub measured : AreMeasured g all → AreMeasured now rest
  pub reads : AreMeasured g all → (n : ℕ) × ReadsMore s0.reads s.reads n × (n + read_by_all now rest ≡ read_by_all g all)
  pub counts : AreMeasured g all → made0 + made_by_all g all ≤ most_kept
      → (made + made_by_all now rest ≤ most_kept) × (steps + steps_by_all now rest ≤ steps0 + steps_by_all g all)

-- Nothing is done yet.
pub works-start : (s : State) (g : Graph) (all : List Item) (made steps : ℕ) → Works s s g g all all made made steps steps
works-start s g all made steps = record {
  measured = λ are. are;
  reads = λ are. (0, reads-none s.reads, omega arith);
  counts = λ are few. (few, omega arith);
}

-- A request more is answered.
module _ (s0 s1 s2 : State) (g now : Graph) (all rest : List Item) (q : Request) (made0 made1 steps0 steps1 : ℕ)
    (works : Works s0 s1 g now all (answered q ∷ rest) made0 made1 steps0 steps1) where
  pub works-more : (steps2 nodes : ℕ) → nodes ≤ made1 → (IsMeasured now q → ReadsMore s1.reads s2.reads (read_by now q))
      → (IsMeasured now q → nodes ≤ most_kept → steps2 ≤ steps1 + steps_by now q)
      → Works s0 s2 g (after now q) all rest made0 (made1 + made_by now q) steps0 steps2
  works-more steps2 nodes room loads most = record {
    measured = λ are. (works.measured are).1;
    reads = λ are.
        let before = works.reads are in
        let here = loads (works.measured are).0 in
        (before.0 + read_by now q, reads-both s0.reads s1.reads s2.reads before.0 (read_by now q) before.1 here, omega (arith, before.2));
    counts = λ are few.
        let before = works.counts are few in
        let here = most (works.measured are).0 (omega (arith, room, before.0)) in
        (omega (arith, before.0), omega (arith, before.1, here));
  }

-- ---- notebooks, and requests that are made, aren't measured

closed-not-measured : (g : Graph) (qs : List Request) (bytes : List ℕ) → AreMeasured g (map silent qs ++ closing bytes ∷ []) → ⊥
closed-not-measured g [] bytes are = are
closed-not-measured g (q ∷ qs) bytes are = are

pub runs-not-measured : (work : Work) (book : Book) → work ≡ Runs book → (g : Graph) (left : List ℕ) → AreMeasured g (to_do work g left) → ⊥
runs-not-measured work book is g left are =
    let qs = cell_requests book.together g (texts_of book) in
    closed-not-measured g qs (written (with_answers g 0 qs (data_of book.notebook))) (subst (λ (w : Work). AreMeasured g (to_do w g left)) is are)

pub makes-not-measured : (work : Work) (script : Script) → work ≡ Makes script → (g : Graph) (left : List ℕ) → AreMeasured g (to_do work g left) → ⊥
makes-not-measured work script is g left are =
    let qs = to_come script in
    closed-not-measured g qs (summary_of (after_all g (map silent qs)) (answers g (map answered qs))) (subst (λ (w : Work). AreMeasured g (to_do w g left)) is are)
