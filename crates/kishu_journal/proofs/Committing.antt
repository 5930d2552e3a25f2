-- A history that goes on with a commit, and one that doesn't.
use Rattle.std.proofs.Common.{◌≡◌, ℕ, suc, ◌+◌, List, ◌∷◌, length, map, sym, ◌∙◌, ap, subst, arith}
use Rattle.std.specs.declared.alloc.Global.{Global}
use Rattle.std.specs.declared.rc.RcStr.{RcStr}
use Rattle.std.specs.declared.vec.Vec.{Vec}
use Rattle.kishu_graph.specs.Kept.{Kept, TellsChanges, row_of, texts_of}
use Rattle.kishu_graph.specs.Tables.{FailsHead, FitsHead, change_with, stored_of}
use Rattle.kishu_graph.specs.declared.tables.TableRow.{TableRow}
use Rattle.kishu_language.specs.declared.profile.Profile.{Profile}
use Rattle.kishu_record.specs.Commits.{IsCommitHead, commit_told}
use Rattle.kishu_record.specs.declared.commits.CommitHead.{CommitHead}
use Rattle.kishu_store.specs.Entries.{Entry, commit}
use Rattle.kishu_store.specs.Graph.{Target, newest}
use Rattle.kishu_store.specs.Histories.{FollowsAt, History, before_pictures}
use Rattle.kishu_store.specs.Tables.{FitsTable, Table, change_of, rows_from, table_at}
use Rattle.kishu_store_laws.specs.EntryLaws.{head-unique}
use Rattle.kishu_journal.specs.Following.{FitsNext, FitsNotWith, GoOnWith, GoesOn, IsFull, IsKept, IsPlaced, NoneFits, TakesCells, TakesChange, TakesCommit, TakesHead}

-- rows of what may be stored may be stored
pub next-fits : (old : Kept) (dropped : List (Vec (RcStr Global) Global)) (stored : List (Vec (RcStr Global) Global × ℕ)) (rows : List TableRow) (number place : ℕ) → map row_of rows ≡ rows_from number place (map stored_of stored)
    → FitsHead old dropped stored → FitsNext old (change_with dropped rows)
next-fits old dropped stored rows number place are fits g cs most shape tells a =
    subst (λ (t : Table). FitsTable (table_at g (change_of cs) g.head.commit) (record { dropped = map texts_of dropped; stored = t })) (sym are) (fits g cs most shape tells a number place)

-- the commit of these values
abbrev pub commit_by : ℕ → Profile → List (List ℕ) → List (Vec (RcStr Global) Global) → List (Vec (RcStr Global) Global × ℕ) → Entry
commit_by parent profile cells dropped stored = commit parent profile cells (map texts_of dropped) (map stored_of stored)

module _ (old : Kept) (parent : ℕ) (profile : Profile) (cells : List (List ℕ)) (dropped : List (Vec (RcStr Global) Global)) (stored : List (Vec (RcStr Global) Global × ℕ)) (body : ℕ) (h : History) (k : IsKept old h) where
  abbrev e : Entry
  e = commit_by parent profile cells dropped stored

  head-is : (head : Target) → head ≡ old.head → head.commit ≡ h.graph.head.commit
  head-is head is = ap (λ (t : Target). t.commit) (is ∙ k.keeps.graph.shape.head)

  pub commit-on : (new : Kept) (head : Target) (rows : List TableRow) (number : ℕ) → head ≡ old.head → parent ≡ head.commit → FitsHead old dropped stored → number ≡ suc (newest h.graph)
      → map row_of rows ≡ rows_from number (body + before_pictures e) (map stored_of stored) → TakesCommit old profile cells new → TakesChange old (change_with dropped rows) new → GoesOn body h e new
  commit-on new head rows number is parent_is fits number_is are takes change =
      let stored_are : map row_of rows ≡ rows_from (suc (newest h.graph)) (body + before_pictures e) (map stored_of stored) = are ∙ ap (λ (n : ℕ). rows_from n (body + before_pictures e) (map stored_of stored)) number_is in
      record {
        fits = record {
          graph = record { room = takes.room h.graph k.keeps.graph; goes_on = parent_is ∙ head-is head is };
          table = (fits h.graph h.changes k.most k.keeps.graph.shape k.keeps.changes k.changes (suc (newest h.graph)) (body + before_pictures e), tt);
        };
        keeps = record {
          graph = takes.stands h.graph k.keeps.graph;
          changes = subst (λ (t : Table). TellsChanges new (record { dropped = map texts_of dropped; stored = t } ∷ h.changes)) stored_are (change h.changes k.keeps.changes);
        };
      }

  pub not-child : (head : Target) → head ≡ old.head → (parent ≡ head.commit → ⊥) → FollowsAt body h e → ⊥
  not-child head is other f = other (f.graph.goes_on ∙ sym (head-is head is))

  pub not-groups : FailsHead old dropped stored → FollowsAt body h e → ⊥
  not-groups fails f = fails h.graph h.changes k.most k.keeps.graph.shape k.keeps.changes k.changes (suc (newest h.graph)) (body + before_pictures e) f.table.0

  pub no-room : IsFull old → FollowsAt body h e → ⊥
  no-room full f = full h.graph k.keeps.graph f.graph.room

-- ---- a commit whose head was read in place

module _ (old : Kept) (c : CommitHead) (pictures body : ℕ) (others : List (List ℕ)) (placed : IsPlaced c pictures body others) (h : History) (k : IsKept old h) where
  pub told-on : (new : Kept) (head : Target) (rows : List TableRow) (number : ℕ) → head ≡ old.head → c.parent ≡ head.commit → FitsHead old c.dropped.items c.stored.items → number ≡ suc (newest h.graph)
      → map row_of rows ≡ rows_from number pictures (map stored_of c.stored.items) → TakesCells old c.profile c.cells c.first.now new → TakesChange old (change_with c.dropped.items rows) new → GoesOn body h (commit_told c others) new
  told-on new head rows number is parent_is fits number_is are takes change =
      let there : map row_of rows ≡ rows_from number (body + before_pictures (commit_told c others)) (map stored_of c.stored.items) = are ∙ ap (λ (n : ℕ). rows_from number n (map stored_of c.stored.items)) placed.place in
      commit-on old c.parent c.profile (c.first.now ∷ others) c.dropped.items c.stored.items body h k new head rows number is parent_is fits number_is there (takes others placed.count) change

  pub told-not-child : (head : Target) → head ≡ old.head → (c.parent ≡ head.commit → ⊥) → FollowsAt body h (commit_told c others) → ⊥
  told-not-child head is other f = not-child old c.parent c.profile (c.first.now ∷ others) c.dropped.items c.stored.items body h k head is other f

  pub told-not-groups : FailsHead old c.dropped.items c.stored.items → FollowsAt body h (commit_told c others) → ⊥
  told-not-groups fails f = not-groups old c.parent c.profile (c.first.now ∷ others) c.dropped.items c.stored.items body h k fails f

  pub told-no-room : IsFull old → FollowsAt body h (commit_told c others) → ⊥
  told-no-room full f = no-room old c.parent c.profile (c.first.now ∷ others) c.dropped.items c.stored.items body h k full f

-- its pictures lie behind its head
module _ (old : Kept) (c : CommitHead) (head : List ℕ) (pictures body place : ℕ) (t : IsCommitHead head pictures c) (is : place ≡ body + 4 + length head) where
  is_placed : IsPlaced c place body t.others
  is_placed = record { count = t.count; place = omega (arith, is, ap length t.is_head.is) }

  pub takes-told : (new : Kept) → GoOnWith old c place new → TakesHead old body head pictures new
  takes-told new goes = record { entry = commit_told c t.others; says = t.is_head; goes = goes body t.others is_placed }

  pub none-told : FitsNotWith old c place → NoneFits old body head pictures
  none-told unfit h e kept says fits =
      let one : commit_told c t.others ≡ e = head-unique (commit_told c t.others) e t.is_head.entry says.entry (sym t.is_head.is ∙ says.is) in
      unfit body t.others is_placed h kept (subst (λ (x : Entry). FollowsAt body h x) (sym one) fits)
