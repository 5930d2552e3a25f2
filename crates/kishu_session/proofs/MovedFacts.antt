-- A checkout that isn't refused, from what a graph keeps.
use Rattle.std.proofs.Common.{◌≡◌, ◌<◌, ◌≤◌, ◌^◌, ◌⊎◌, ℕ, List, length, Option, Some, None, refl, sym, ◌∙◌, ap, subst, arith}
use Rattle.std.specs.Prelude.{IfSome, option_map}
use Rattle.std.specs.Coded.{le_prop}
use Rattle.std.proofs.Math.Logic.{∥∥₁_elim}
use Rattle.std.proofs.Props.{props}
use Rattle.kishu_host.specs.Host.{State}
use Rattle.kishu_store.specs.Branches.{commit_of}
use Rattle.kishu_store.specs.Entries.{Entry, Record, move, plain}
use Rattle.kishu_store.specs.Graph.{Graph, Target, newest, with_head}
use Rattle.kishu_store.specs.Histories.{History, Follows, head_table, led, table_to}
use Rattle.kishu_store.specs.Limits.{longest_title}
use Rattle.kishu_store.specs.References.{resolve}
use Rattle.kishu_store.specs.Rules.{IsRecord, IsTitle, KeepsRules}
use Rattle.kishu_store.specs.Tables.{Table, change_of, table_at}
use Rattle.kishu_store_laws.specs.BranchLaws.{each-commit}
use Rattle.kishu_store_laws.specs.GraphLaws.{IsGraph, IsBranch, changed-graph}
use Rattle.kishu_store_laws.specs.HistoryLaws.{led-history}
use Rattle.kishu_store_laws.specs.TitleLaws.{branch_title}
use Rattle.kishu_graph.specs.Kept.{Kept, HasShapeOf, StandsFor, KeepsHistory}
use Rattle.kishu_graph.specs.Laws.{moved-stands}
use Rattle.kishu_graph.specs.Refusals.{HasMoved, unless_there}
use Rattle.kishu_graph.specs.Tables.{table_of_rows}
use Rattle.kishu_history.specs.Checkout.{to_load}
use Rattle.kishu_graph.specs.declared.fault.GraphFault.{GraphFault}
use Rattle.kishu_graph.specs.declared.fault.GraphFault.TheVariants.{NoMemory}
use Rattle.kishu_model.specs.Answers.{Refusal, refused, checked_out}
use Rattle.kishu_model.specs.Request.{Stepped, checkout, refused_with}
use Rattle.kishu_model.specs.requests.Checkout.{went_to}
use Rattle.kishu_model.specs.Serve.{after}
use Rattle.kishu_model.specs.Step.{step}
use Rattle.kishu_model.specs.Values.{answer_of}
use Rattle.kishu_live_laws.specs.Refusals.{refusal_in}
use Rattle.kishu_session.specs.Head.{CountsPath, IsKnown, KeepsSome, Lacks, LacksToLoad, rows_to_load}
use Rattle.kishu_session.specs.Known.{HasHistory, IsHistoryOf}
use Rattle.kishu_session.specs.Moves.{move_by, move_to, IsMoved}
use Rattle.kishu_session.specs.Prepared.{Leads, LeadsTo, LeadsOn, LeadsAlone, LacksFor, IsPrepared, IsAnswered, MayBeRecorded, StaysWithout, Tells, led_with, record_in}
use Rattle.kishu_session.specs.Reading.{rows_read}
use Rattle.kishu_session.specs.Refusing.{refusal_by}
use Rattle.kishu_session.specs.declared.head.Head.{Head}
use Rattle.kishu_session.specs.declared.prepared.Prepared.{Prepared}
use Rattle.kishu_session.proofs.BranchFacts.{fault-by-graph}
use Rattle.kishu_session.proofs.Causes.{by-cause, checkout-accepted, checkout-refused, room-there}
use Rattle.kishu_session.proofs.Commits.{known-pictures, known-told}
use Rattle.kishu_session.proofs.MoveSteps.{Reaches, resolved-reaches}
use Rattle.kishu_session.proofs.OneTable.{one-table}
use Rattle.kishu_session.proofs.RanOn.{table-known}
use Rattle.kishu_session.proofs.Still.{refused-leads}

module _ (g : Graph) (to : List ℕ) (c : ℕ) (old new : Kept) (m : HasMoved (resolve g to) g c old new) where
  stepped : step g (checkout to) ≡ went_to m.there g
  stepped = checkout-accepted g (resolve g to) m.there m.target_is m.accepted

  pub moved-is : after g (checkout to) ≡ with_head m.there g
  moved-is = ap (λ (x : Stepped). x.graph) stepped

  reaches : Reaches g m.there
  reaches = resolved-reaches g to m.there m.target_is

  there-is : move (move_to new.head) ≡ move (move_to m.there)
  there-is = ap (λ (t : Target). move (move_to t)) m.shape.head

  pub moved-answer : Some (checked_out new.head.commit new.head.branch) ≡ Some (step g (checkout to)).answer
  moved-answer =
      ap (λ (t : Target). Some (checked_out t.commit t.branch)) m.shape.head
      ∙ ap (λ (x : Stepped). Some x.answer) (sym stepped)

-- ---- the history with the move

module _ (h : History) (to : List ℕ) (c : ℕ) (old new : Kept) (m : HasMoved (resolve h.graph to) h.graph c old new) where
  abbrev moved-entry : Entry
  moved-entry = move (move_to new.head)

  moved-fits : Follows h moved-entry
  moved-fits =
      subst (Follows h) (sym (there-is h.graph to c old new m))
      (record {
        graph = record { room = room-there h.graph (resolve h.graph to) m.there m.target_is m.accepted; goes_on = (reaches h.graph to c old new m).goes_on };
        table = tt;
      })

  pub moved-graph : (led h moved-entry).graph ≡ after h.graph (checkout to)
  moved-graph =
      ap (λ (e : Entry). (led h e).graph) (there-is h.graph to c old new m)
      ∙ (reaches h.graph to c old new m).changed_is
      ∙ sym (moved-is h.graph to c old new m)

  pub moved-leads : IsRecord (plain moved-entry) → Leads h (plain moved-entry) (after h.graph (checkout to))
  moved-leads rules = record { rules = rules; fits = moved-fits; changed_is = moved-graph }

  stands-moved : StandsFor old h.graph → StandsFor new (led h moved-entry).graph
  stands-moved s =
      subst (λ (x : Graph). StandsFor new x) (sym (moved-graph ∙ moved-is h.graph to c old new m))
      (moved-stands (resolve h.graph to) h.graph c old new s m)

  pub moved-keeps : KeepsHistory old h → KeepsHistory new (led h moved-entry)
  moved-keeps k = record { graph = stands-moved k.graph; changes = m.noted ∙ k.changes }

  -- the graph after it is one
  moved-on : IsHistoryOf old h → IsGraph (with_head m.there h.graph)
  moved-on k = subst (λ (x : Graph). IsGraph x) (reaches h.graph to c old new m).changed_is (changed-graph h.graph (move (move_to m.there)) (record { room = room-there h.graph (resolve h.graph to) m.there m.target_is m.accepted; goes_on = (reaches h.graph to c old new m).goes_on }) k.good.graph)

  -- a branch that is there has a name that a record may tell
  title-rules : IsHistoryOf old h → (title : List ℕ) → new.head.branch ≡ Some title → IsTitle title
  title-rules k title is =
      let on = moved-on k in
      let at : commit_of title h.graph.branches ≡ Some m.there.commit = subst (λ (o : Option (List ℕ)). IfSome o (λ t. commit_of t h.graph.branches ≡ Some m.there.commit)) (sym (ap (λ (t : Target). t.branch) m.shape.head) ∙ is) on.head.on in
      branch_title title (each-commit (IsBranch (newest h.graph)) title m.there.commit h.graph.branches at on.branches).0

  -- a commit that is there has a number of four bytes
  few-commits : IsHistoryOf old h → m.there.commit < 2 ^ 32
  few-commits k = (let on = moved-on k in omega (arith, on.head.there, on.counted, on.few))

  rules-by : IsHistoryOf old h → (o : Option (List ℕ)) → new.head.branch ≡ o → KeepsRules (move (move_by new.head.commit o))
  rules-by k None is = (let e : new.head.commit ≡ m.there.commit = ap (λ (t : Target). t.commit) m.shape.head in omega (arith, few-commits k, e))
  rules-by k (Some title) is = title-rules k title is

  pub moved-history : IsHistoryOf old h → IsHistoryOf new (led h moved-entry)
  moved-history k = record { keeps = moved-keeps k.keeps; good = led-history h moved-entry k.good (rules-by k new.head.branch refl) moved-fits }

  -- each commit has its table still
  pub moved-rows : (d : ℕ) → table_to (led h moved-entry) d ≡ table_to h d
  moved-rows d = ap (λ (x : Graph). table_at x (change_of h.changes) d) (moved-graph ∙ moved-is h.graph to c old new m)

  -- the table of the head then is that of the commit to which it went
  pub moved-table : head_table (led h moved-entry) ≡ table_to h (after h.graph (checkout to)).head.commit
  moved-table =
      ap (λ (x : Graph). table_at x (change_of h.changes) x.head.commit) (moved-graph ∙ moved-is h.graph to c old new m)
      ∙ ap (λ (x : Graph). table_to h x.head.commit) (sym (moved-is h.graph to c old new m))

-- ---- what a graph that moved keeps

module _ (old new : Kept) (to : List ℕ) (c : ℕ) (moves : (g : Graph) → HasShapeOf old g → HasMoved (resolve g to) g c old new) where
  pub known-moved : HasHistory old → HasHistory new
  known-moved known = ∥∥₁_elim known squash₁ (λ k. ∣ (led k.0 (move (move_to new.head)), moved-history k.0 to c old new (moves k.0.graph k.1.keeps.graph.shape) k.1) ∣₁)

-- ---- what a head keeps whose graph moved

module _ (place : ℕ) (head : Head) (known : IsKnown head place) (new : Kept) (to : List ℕ) (c : ℕ) (moves : (g : Graph) → HasShapeOf head.graph g → HasMoved (resolve g to) g c head.graph new) where
  abbrev after_move : History → History
  after_move h = led h (move (move_to new.head))

  on-move : (h : History) → IsHistoryOf head.graph h → IsHistoryOf new (after_move h)
  on-move h k = moved-history h to c head.graph new (moves h.graph k.keeps.graph.shape) k

  -- each commit has the table that it had
  stays-to : (h : History) → IsHistoryOf head.graph h → (n : History) → IsHistoryOf new n → (d : ℕ) → table_to h d ≡ table_to n d
  stays-to h k n l d = sym (moved-rows h to c head.graph new (moves h.graph k.keeps.graph.shape) d) ∙ one-table new (after_move h) n (on-move h k) l d

  -- The table that is kept is that of the commit on which the head stood.
  was-kept : (n : History) → IsHistoryOf new n → table_of_rows head.table ≡ table_to n head.graph.head.commit
  was-kept n l =
      ∥∥₁_elim known (tables (table_of_rows head.table) (table_to n head.graph.head.commit))
      (λ k.
      let here : k.0.graph.head.commit ≡ head.graph.head.commit = ap (λ (t : Target). t.commit) (sym k.1.kept.keeps.graph.shape.head) in
      k.1.held.table ∙ ap (table_to k.0) here ∙ stays-to k.0 k.1.kept n l head.graph.head.commit)
    where
      tables : IsSet Table
      tables = hlevel props

  pub keeps-moved : KeepsSome (record head { graph = new })
  keeps-moved = record {
    commit = head.graph.head.commit;
    table = was-kept;
    lives = known-told head place known;
    pictures = known-pictures head place known;
  }

  pub lacks-moved : (s : State) (at : ℕ) → LacksToLoad (record head { graph = new }) s at → LacksFor head.graph s (checkout to) at
  lacks-moved s at lacks h k =
      let m = moves h.graph k.keeps.graph.shape in
      let there = lacks (after_move h) (on-move h k) in (
        m.accepted,
        subst (λ (t : Table). Lacks s (to_load (head_table h) t) at) (moved-table h to c head.graph new m)
            (subst (λ (t : Table). Lacks s (to_load t (head_table (after_move h))) at) (table-known place head known h k) there),
      )

  -- The rows that are loaded are those that the request reads.
  pub rows-moved : (after : Head) → after.graph ≡ new → ((n : History) → IsHistoryOf after.graph n → table_of_rows after.table ≡ head_table n) → (h : History) → IsHistoryOf head.graph h
      → rows_to_load (record head { graph = new }) after ≡ rows_read h (checkout to)
  rows-moved after same there h k =
      let m = moves h.graph k.keeps.graph.shape in
      ap (λ (t : Table). to_load t (table_of_rows after.table)) (table-known place head known h k)
      ∙ ap (λ (t : Table). to_load (head_table h) t)
      (there (after_move h) (subst (λ (x : Kept). IsHistoryOf x (after_move h)) (sym same) (on-move h k)) ∙ moved-table h to c head.graph new m)

-- ---- what the request leads to

module _ (file : Option (List ℕ)) (place : ℕ) (old new : Head) (kept : Kept) (to : List ℕ) (c : ℕ) (same : new.graph ≡ kept)
    (moves : (g : Graph) → HasShapeOf old.graph g → HasMoved (resolve g to) g c old.graph kept) (known : IsKnown old place) (p : Prepared) (is : IsMoved file (record old { graph = kept }) new p) where
  moves-here : (g : Graph) → HasShapeOf old.graph g → HasMoved (resolve g to) g c old.graph new.graph
  moves-here g s = subst (λ (x : Kept). HasMoved (resolve g to) g c old.graph x) (sym same) (moves g s)

  abbrev here : Record
  here = plain (move (move_to new.graph.head))

  answered : (g : Graph) → StandsFor old.graph g → answer_of p.answer ≡ Some (step g (checkout to)).answer
  answered g s = is.answer ∙ moved-answer g to c old.graph new.graph (moves-here g s.shape)

  prepared-here : (h : History) → IsHistoryOf old.graph h → IsPrepared h (after h.graph (checkout to)) p new.graph
  prepared-here h k =
      let m = moves-here h.graph k.keeps.graph.shape in
      record {
        leads = subst (λ (o : Option Record). LeadsTo h o (after h.graph (checkout to))) (sym is.recorded) (moved-leads h to c old.graph new.graph m is.rules);
        keeps = subst (λ (o : Option Record). KeepsHistory new.graph (led_with h o)) (sym is.recorded) (moved-keeps h to c old.graph new.graph m k.keeps);
      }

  answered-here : (h : History) → IsHistoryOf old.graph h → IsAnswered h (checkout to) old new p
  answered-here h k =
      let m = moves-here h.graph k.keeps.graph.shape in
      record {
        answer = answered h.graph k.keeps.graph;
        count = subst (λ (g : Graph). CountsPath new g) (moved-graph h to c old.graph new.graph m) (is.count (led h (move (move_to new.graph.head))) (moved-history h to c old.graph new.graph m k));
      }

  pub moved-leads-on : LeadsOn file place old new (checkout to) p
  moved-leads-on = record {
    prepares = λ h k at. prepared-here h k;
    rules = subst MayBeRecorded (sym is.recorded) is.rules;
    refuses = λ g s. ap (option_map refusal_in) (answered g s);
    answers = λ h k count. answered-here h k;
    tells = subst (λ (o : Option Record). Tells file old new o) (sym is.recorded) (record { from = table-known place old known; start = is.start; starts = is.starts; carries = record { to = is.carries.to; state = is.carries.state; pictures = is.carries.pictures } });
    large = λ bytes size. absurd (cc (sym is.answer ∙ size));
  }

  -- It has a record.
  pub moved-stays : {H : Type 0} (host now : H) → StaysWithout old new host now p
  moved-stays host now none sizes = absurd (cc (sym is.recorded ∙ ap record_in none))

-- ---- names of branches are short

module _ (old new : Kept) (to : List ℕ) (c : ℕ) (moves : (g : Graph) → HasShapeOf old g → HasMoved (resolve g to) g c old new) where
  known-short : HasHistory old → (o : Option (List ℕ)) → new.head.branch ≡ o → IfSome o (λ title. length title ≤ longest_title)
  known-short known None is = tt
  known-short known (Some title) is = ∥∥₁_elim known le_prop (λ k. (title-rules k.0 to c old new (moves k.0.graph k.1.keeps.graph.shape) k.1 title is).short)

  pub title-short : HasHistory old → IfSome new.head.branch (λ title. length title ≤ longest_title)
  title-short known = known-short known new.head.branch refl

-- a checkout that is refused
pub checkout-fault : (g : Graph) (to : List ℕ) (kept : Kept) (fault : GraphFault) (r : Refusal) → refusal_by fault ≡ Some r
    → (fault ≡ NoMemory) ⊎ ((h : Graph) → HasShapeOf kept h → unless_there (resolve h to) h ≡ Some fault) → HasShapeOf kept g → step g (checkout to) ≡ refused_with r g
checkout-fault g to kept fault r by cause shape =
    checkout-refused g (resolve g to) fault r (by-cause ((h : Graph) → HasShapeOf kept h → unless_there (resolve h to) h ≡ Some fault) fault r by cause g shape) by

-- ---- a checkout that is refused leads nowhere

pub refused-moved : (head : Head) (to : List ℕ) (fault : GraphFault) (r : Refusal) → refusal_by fault ≡ Some r
    → (fault ≡ NoMemory) ⊎ ((h : Graph) → HasShapeOf head.graph h → unless_there (resolve h to) h ≡ Some fault) → (p : Prepared) → answer_of p.answer ≡ Some (refused r) → p.recorded ≡ None → LeadsAlone head head (checkout to) p
refused-moved head to fault r by cause p answer none =
    refused-leads head (checkout to) r p (fault-by-graph fault r by) answer none (λ of g s. checkout-fault g to head.graph fault r by cause s.shape)
