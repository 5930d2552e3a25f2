-- The table of a commit in each history that is kept, the cells on the path there, and what is known where the host tells no file.
use Rattle.std.proofs.Common.{◌≡◌, ◌<◌, ◌≤◌, ℕ, List, ◌∙◌, ap, arith}
use Rattle.std.specs.List.{AllByRecursion, AllByRecursion-prop}
use Rattle.std.specs.Prelude.{Bool, if◌then◌else◌, IsTrue, Option, Some, None, length, map}
use Rattle.std.proofs.Props.{props}
use Rattle.kishu_host.specs.Host.{State}
use Rattle.kishu_meaning.specs.values.Values as values
use Rattle.kishu_store.specs.Graph.{Target, count_of}
use Rattle.kishu_store.specs.Groups.{Group, IsGroup, IsName, Rise}
use Rattle.kishu_store.specs.Histories.{History, head_table, table_to}
use Rattle.kishu_store.specs.Limits.{most_pictured}
use Rattle.kishu_store.specs.Tables.{Table, groups_in, first_in, names_in, bytes_in, are_apart, IsKeptTable}
use Rattle.kishu_graph.specs.Kept.{Kept}
use Rattle.kishu_graph.specs.Tables.{IsTableOf}
use Rattle.kishu_history.specs.Live.{IsLive}
use Rattle.kishu_history.specs.Stored.{Stored}
use Rattle.kishu_checkout.specs.Pictures.{told_file}
use Rattle.kishu_session.specs.Head.{CountsPath, CountsTo}
use Rattle.kishu_session.specs.Known.{IsHistoryOf}
use Rattle.kishu_session.specs.declared.head.Head.{Head}

-- ---- the table is one

group-prop : (g : Group) → IsProp (IsGroup g)
group-prop g x y =
    let some_prop : IsProp (0 < length g) = hlevel props in
    let names_prop : IsProp (AllByRecursion IsName g) = AllByRecursion-prop IsName (λ n. hlevel props) g in
    let rise_prop : IsProp (Rise g) = hlevel props in
    λ i. record {
      some = some_prop x.some y.some i;
      names = names_prop x.names y.names i;
      rise = rise_prop x.rise y.rise i;
    }

pub kept-prop : (t : Table) → IsProp (IsKeptTable t)
kept-prop t x y =
    let rise_prop : IsProp (Rise (map first_in t)) = hlevel props in
    let groups_prop : IsProp (AllByRecursion IsGroup (groups_in t)) = AllByRecursion-prop IsGroup group-prop (groups_in t) in
    let apart_prop : IsProp (IsTrue (are_apart (names_in t))) = hlevel props in
    let small_prop : IsProp (bytes_in t ≤ most_pictured) = hlevel props in
    λ i. record {
      rise = rise_prop x.rise y.rise i;
      groups = groups_prop x.groups y.groups i;
      apart = apart_prop x.apart y.apart i;
      small = small_prop x.small y.small i;
    }

-- It is the commit's of each history that is kept.
pub table-is : (kept : Kept) (c : ℕ) (t : Table) → IsTableOf kept c t → (h : History) → IsHistoryOf kept h → t ≡ table_to h c
table-is kept c t is h k = is h.graph h.changes h.place k.keeps.graph.shape k.keeps.changes k.good.changes

pub head-is : (kept : Kept) (c : ℕ) → c ≡ kept.head.commit → (h : History) → IsHistoryOf kept h → c ≡ h.graph.head.commit
head-is kept c at h k = at ∙ ap (λ (t : Target). t.commit) k.keeps.graph.shape.head

pub head-table-is : (kept : Kept) (c : ℕ) (t : Table) → c ≡ kept.head.commit → IsTableOf kept c t → (h : History) → IsHistoryOf kept h → t ≡ head_table h
head-table-is kept c t at is h k = table-is kept c t is h k ∙ ap (table_to h) (head-is kept c at h k)

-- ---- the cells on the path

pub counts-path : (head : Head) (c : ℕ) → c ≡ head.graph.head.commit → CountsTo head.graph c head.cells → (h : History) → IsHistoryOf head.graph h → CountsPath head h.graph
counts-path head c at counts h k =
    let here = head-is head.graph c at h k in
    let below = k.good.graph.head.there in
    record {
      is = counts.is h k ∙ ap (count_of h.graph) here;
      few = (let few = counts.few in omega (arith, few, here, below));
    }

-- ---- what is known where the host tells no file

pub lives-untold : (file : Option (List ℕ)) (t : Table) (s : values.State) → IsLive (Stored file) t s → IsLive (Stored None) t s
lives-untold None t s live = live
lives-untold (Some file) t s live = record {
  state = live.state;
  bound = live.bound;
  apart = live.apart;
  pictures = λ r m. record { len = (live.pictures r m).len; fits = (live.pictures r m).fits };
}

-- A host that was only read tells the same of its file.
pub told-file-same : (s t : State) → t.tells ≡ s.tells → t.file ≡ s.file → told_file t ≡ told_file s
told-file-same s t tells file = ap (λ (b : Bool). if b then Some t.file else None) tells ∙ ap (λ (f : List ℕ). if s.tells then Some f else None) file
