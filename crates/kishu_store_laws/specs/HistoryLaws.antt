-- What holds of each history to which records lead: its graph, the tables of its commits, and the places of their rows in the file.
use Rattle.std.specs.Prelude.{◌≡◌, ◌<◌, ◌≤◌, ℕ, suc, ◌+◌, ◌==◌, if◌then◌else◌, List, [], ◌∷◌, length, map, flat_map, Option, Some, None, refl}
use Rattle.std.specs.List.{AllByRecursion, sum}
use Rattle.std.specs.List.Sorted.{IsStrictlySortedBy}
use Rattle.std.proofs.Common.{sym, ◌∙◌, ap, subst, arith, inl, inr, length-append}
use Rattle.std.proofs.lemmas.Bool.Decides.{eqb_tells}
use Rattle.std.proofs.lemmas.List.Sums.{sum_by-cons}
use Rattle.kishu_language.specs.declared.profile.Profile.{Profile}
use Rattle.kishu_store.specs.Branches.{commit_of}
use Rattle.kishu_store.specs.Entries.{Entry, commit, move, name, to_commit, to_branch, Record, entries_in, lengths_in}
use Rattle.kishu_store.specs.EntryBytes.{body_of}
use Rattle.kishu_store.specs.Fitting.{on_branch, changed}
use Rattle.kishu_store.specs.Graph.{Commit, Graph, newest, with_commit}
use Rattle.kishu_store.specs.Groups.{Group, first_name, IsGroup, IsStored, Rise}
use Rattle.kishu_store.specs.Histories.{History, new_history, before_body, before_pictures, body_length, led, led_by, head_table, Follows, AreRecords}
use Rattle.kishu_store.specs.Holds.{header, open_gate, framed, records, end_of, history_by}
use Rattle.kishu_store.specs.Rules.{KeepsRules, IsRecord}
use Rattle.kishu_store.specs.Tables.{Table, Change, no_change, groups_in, first_in, after, table_of, rows_from, changes_in, table_in, table_at, with_change, change_of, FitsTable, IsKeptTable}
use Rattle.kishu_store_laws.specs.EntryLaws.{length-body}
use Rattle.kishu_store_laws.specs.GraphLaws.{IsGraph, new-graph, changed-graph}
use Rattle.kishu_store_laws.specs.Laws.{length-header, length-framed}
use Rattle.kishu_store_laws.specs.TableLaws.{no-rows, after-kept, AreFit}

-- ---- what a commit's record changes

-- Its rows have the commit's number and stand in order, their groups are ones that a record may tell, and their pictures lie before that place.
pub record IsChange (number most : ℕ) (c : Change) : Type 0 where
  pub version : AllByRecursion (λ r. r.version ≡ number) c.stored
  pub rise : Rise (map first_in c.stored)
  pub groups : AllByRecursion IsGroup (groups_in c.stored)
  pub inside : AllByRecursion (λ r. r.place + r.len ≤ most) c.stored

-- The changes of a graph's commits: there are as many, each fits its parent's table, and each commit's table is one.
pub record AreChanges (g : Graph) (cs : List Change) (most : ℕ) : Type 0 where
  pub counted : length cs ≡ newest g
  pub each : (c : ℕ) → IsChange c most (change_of cs c)
  pub fit : (c : ℕ) → AreFit (changes_in g.commits (change_of cs) c)
  pub tables : (c : ℕ) → IsKeptTable (table_at g (change_of cs) c)

pub record IsHistory (h : History) : Type 0 where
  pub graph : IsGraph h.graph
  pub changes : AreChanges h.graph h.changes h.place

nothing-changes : (number most : ℕ) → IsChange number most no_change
unfolding IsStrictlySortedBy
nothing-changes number most = record { version = tt; rise = tt; groups = tt; inside = tt }

-- ---- the rows of a record

pub rows-versions : (number place : ℕ) (ss : List (Group × ℕ)) → AllByRecursion (λ r. r.version ≡ number) (rows_from number place ss)
rows-versions number place [] = tt
rows-versions number place (s ∷ ss) = (refl, rows-versions number (place + s.1) ss)

pub rows-firsts : (number place : ℕ) (ss : List (Group × ℕ)) → map first_in (rows_from number place ss) ≡ map (λ s. first_name s.0) ss
rows-firsts number place [] = refl
rows-firsts number place (s ∷ ss) = ap (λ (l : List (List ℕ)). first_name s.0 ∷ l) (rows-firsts number (place + s.1) ss)

rows-are-groups : (number place : ℕ) (ss : List (Group × ℕ)) → AllByRecursion IsStored ss → AllByRecursion IsGroup (groups_in (rows_from number place ss))
rows-are-groups number place [] h = tt
rows-are-groups number place (s ∷ ss) h = (h.0.0, rows-are-groups number (place + s.1) ss h.1)

abbrev lengths_of : List (Group × ℕ) → List ℕ
lengths_of ss = map (λ s. s.1) ss

rows-inside : (number place most : ℕ) (ss : List (Group × ℕ)) → place + sum (lengths_of ss) ≤ most → AllByRecursion (λ r. r.place + r.len ≤ most) (rows_from number place ss)
rows-inside number place most [] l = tt
rows-inside number place most (s ∷ ss) l =
    let all : sum (lengths_of (s ∷ ss)) ≡ s.1 + sum (lengths_of ss) = sum_by-cons (λ n. n) s.1 (lengths_of ss) in
    (omega (arith, l, all), rows-inside number (place + s.1) most ss (omega (arith, l, all)))

more-inside : (m n : ℕ) (t : Table) → m ≤ n → AllByRecursion (λ r. r.place + r.len ≤ m) t → AllByRecursion (λ r. r.place + r.len ≤ n) t
more-inside m n [] le h = tt
more-inside m n (r ∷ t) le h = ((let i = h.0 in omega (arith, i, le)), more-inside m n t le h.1)

more-change : (number m n : ℕ) (c : Change) → m ≤ n → IsChange number m c → IsChange number n c
more-change number m n c le k = record { version = k.version; rise = k.rise; groups = k.groups; inside = more-inside m n c.stored le k.inside }

-- ---- the tables of older commits

same-test : (c n : ℕ) (x y : Change) → c < n → (if c == n then x else y) ≡ y
same-test c n x y l = elim (eqb_tells c n) [ inl p ↦ absurd (let e = p.1 in omega (arith, l, e)) | inr p ↦ rw p.0 refl ]

-- what a later commit changes isn't asked for on a path
pub changes-older : (ks : List Commit) (of : ℕ → Change) (n : ℕ) (d : Change) → length ks < n → (c : ℕ) → changes_in ks (with_change of n d) c ≡ changes_in ks of c
changes-older [] of n d l c = refl
changes-older (k ∷ ks) of n d l c =
    let rest = changes-older ks of n d (omega (arith, l)) in
    elim (eqb_tells c (suc (length ks))) [
      | inl p ↦ (
          let here : with_change of n d c ≡ of c = (let e = p.1 in same-test c n d (of c) (omega (arith, l, e))) in
          rw p.0 (ap (λ (x : Change). x ∷ changes_in ks (with_change of n d) k.parent) here ∙ ap (λ (xs : List Change). of c ∷ xs) (rest k.parent))
          )
      | inr p ↦ rw p.0 (rest c)
    ]

-- ---- one record more

-- a move to a branch makes no commit
on-commits : (title : List ℕ) (o : Option ℕ) (g : Graph) → (on_branch title o g).commits ≡ g.commits
on-commits title None g = refl
on-commits title (Some n) g = refl

-- where no commit comes, the changes stay
still : (g now : Graph) (cs : List Change) (m n : ℕ) → now.commits ≡ g.commits → m ≤ n → AreChanges g cs m → AreChanges now cs n
still g now cs m n same le k = record {
  counted = k.counted ∙ sym (ap length same);
  each = λ c. more-change c m n (change_of cs c) le (k.each c);
  fit = λ c. subst (λ (ks : List Commit). AreFit (changes_in ks (change_of cs) c)) (sym same) (k.fit c);
  tables = λ c. subst (λ (ks : List Commit). IsKeptTable (table_in ks (change_of cs) c)) (sym same) (k.tables c);
}

module _ (h : History) (p : ℕ) (f : Profile) (cells : List (List ℕ)) (ds : List Group) (ss : List (Group × ℕ)) (k : IsHistory h) (rules : KeepsRules (commit p f cells ds ss)) (fits : Follows h (commit p f cells ds ss)) where
  abbrev e : Entry
  e = commit p f cells ds ss

  abbrev d : Change
  d = record { dropped = ds; stored = rows_from (suc (newest h.graph)) (h.place + before_body + before_pictures e) ss }

  abbrev older : ℕ → Change
  older = change_of h.changes

  new-change : IsChange (suc (newest h.graph)) (h.place + before_body + body_length e) d
  new-change = record {
    version = rows-versions (suc (newest h.graph)) (h.place + before_body + before_pictures e) ss;
    rise = subst (λ (xs : List (List ℕ)). Rise xs) (sym (rows-firsts (suc (newest h.graph)) (h.place + before_body + before_pictures e) ss)) rules.stored.rise;
    groups = rows-are-groups (suc (newest h.graph)) (h.place + before_body + before_pictures e) ss rules.stored.each;
    inside = rows-inside (suc (newest h.graph)) (h.place + before_body + before_pictures e) (h.place + before_body + body_length e) ss (omega arith);
  }

  -- the changes by their numbers, the new one among them
  abbrev now : ℕ → Change
  now = with_change older (suc (length h.changes)) d

  number-is : suc (length h.changes) ≡ suc (newest h.graph)
  number-is = ap suc k.changes.counted

  each-change : (c : ℕ) → IsChange c (h.place + before_body + body_length e) (now c)
  each-change c = elim (eqb_tells c (suc (length h.changes))) [
    | inl q ↦ rw q.0 (subst (λ n. IsChange n (h.place + before_body + body_length e) d) (sym (q.1 ∙ number-is)) new-change)
    | inr q ↦ rw q.0 (more-change c h.place (h.place + before_body + body_length e) (older c) (omega arith) (k.changes.each c))
  ]

  -- what the commits on an older commit's path change
  older-changes : (c : ℕ) → changes_in h.graph.commits now c ≡ changes_in h.graph.commits older c
  older-changes c = changes-older h.graph.commits older (suc (length h.changes)) d (let n = k.changes.counted in omega (arith, n)) c

  at-last : now (suc (length h.changes)) ≡ d
  at-last = elim (eqb_tells (suc (length h.changes)) (suc (length h.changes))) [ inl q ↦ rw q.0 refl | inr q ↦ absurd (q.1 refl) ]

  new-fits : FitsTable (table_in h.graph.commits now h.graph.head.commit) d
  new-fits = subst (λ (cs : List Change). FitsTable (table_of cs) d) (sym (older-changes h.graph.head.commit)) fits.table.0

  new-table : IsKeptTable (after d (table_in h.graph.commits now h.graph.head.commit))
  new-table =
      subst (λ (cs : List Change). IsKeptTable (after d (table_of cs))) (sym (older-changes h.graph.head.commit))
      (after-kept (head_table h) d (k.changes.tables h.graph.head.commit) fits.table.0 new-change.groups)

  each-fit : (c : ℕ) → AreFit (changes_in (with_commit f cells h.graph).commits now c)
  each-fit c = elim (eqb_tells c (suc (newest h.graph))) [
    | inl q ↦ (
        let here : now c ≡ d = ap now (q.1 ∙ sym number-is) ∙ at-last in
        rw q.0 (
          subst (λ (x : Change). FitsTable (table_in h.graph.commits now h.graph.head.commit) x) (sym here) new-fits,
          subst AreFit (sym (older-changes h.graph.head.commit)) (k.changes.fit h.graph.head.commit),
        )
        )
    | inr q ↦ rw q.0 (subst AreFit (sym (older-changes c)) (k.changes.fit c))
  ]

  each-table : (c : ℕ) → IsKeptTable (table_in (with_commit f cells h.graph).commits now c)
  each-table c = elim (eqb_tells c (suc (newest h.graph))) [
    | inl q ↦ (
        let here : now c ≡ d = ap now (q.1 ∙ sym number-is) ∙ at-last in
        rw q.0 (subst (λ (x : Change). IsKeptTable (after x (table_in h.graph.commits now h.graph.head.commit))) (sym here) new-table)
        )
    | inr q ↦ rw q.0 (subst (λ (cs : List Change). IsKeptTable (table_of cs)) (sym (older-changes c)) (k.changes.tables c))
  ]

  commit-changes : AreChanges (with_commit f cells h.graph) (d ∷ h.changes) (h.place + before_body + body_length e)
  commit-changes = record { counted = number-is; each = each-change; fit = each-fit; tables = each-table }

led-changes : (h : History) (e : Entry) → IsHistory h → KeepsRules e → Follows h e → AreChanges (led h e).graph (led h e).changes (led h e).place
led-changes h (commit p f cells ds ss) k rules fits = commit-changes h p f cells ds ss k rules fits
led-changes h (move (to_commit n)) k rules fits = still h.graph (changed h.graph (move (to_commit n))) h.changes h.place (h.place + before_body + body_length (move (to_commit n))) refl (omega arith) k.changes
led-changes h (move (to_branch title)) k rules fits =
    still h.graph (changed h.graph (move (to_branch title))) h.changes h.place (h.place + before_body + body_length (move (to_branch title))) (on-commits title (commit_of title h.graph.branches) h.graph) (omega arith) k.changes
led-changes h (name title n) k rules fits = still h.graph (changed h.graph (name title n)) h.changes h.place (h.place + before_body + body_length (name title n)) refl (omega arith) k.changes

-- a record that fits keeps it
pub led-history : (h : History) (e : Entry) → IsHistory h → KeepsRules e → Follows h e → IsHistory (led h e)
led-history h e k rules fits = record { graph = changed-graph h.graph e fits.graph k.graph; changes = led-changes h e k rules fits }

pub new-history : IsHistory new_history
new-history = record { graph = new-graph; changes = record { counted = refl; each = λ c. nothing-changes c 16; fit = λ c. tt; tables = λ c. no-rows } }

led-histories : (h : History) (rs : List Record) → AreRecords h rs → IsHistory h → IsHistory (led_by h (entries_in rs))
led-histories h [] all k = k
led-histories h (r ∷ rs) all k = led-histories (led h r.entry) rs all.2 (led-history h r.entry k all.0.rules all.1)

-- the history of records that fit
pub records-history : (rs : List Record) → AreRecords new_history rs → IsHistory (history_by rs)
records-history rs all = led-histories new_history rs all new-history

-- ---- places

total-lengths : (ps : List (List ℕ)) → length (flat_map (λ p. p) ps) ≡ sum (map length ps)
total-lengths [] = refl
total-lengths (p ∷ ps) = (let all : sum (map length (p ∷ ps)) ≡ length p + sum (map length ps) = sum_by-cons (λ n. n) (length p) (map length ps) in omega (arith, length-append p (flat_map (λ q. q) ps), total-lengths ps, all))

-- a record takes as many bytes as its entry tells
length-record : (r : Record) → IsRecord r → length (open_gate ∷ framed (body_of r)) ≡ before_body + body_length r.entry
length-record r is =
    let sizes : sum (map length r.pictures) ≡ sum (lengths_in r.entry) = ap sum is.pictures in
    omega (arith, length-framed (body_of r), length-body r, total-lengths r.pictures, sizes)

led-place : (h : History) (rs : List Record) → AreRecords h rs → (led_by h (entries_in rs)).place ≡ h.place + length (records rs)
led-place h [] all = omega arith
led-place h (r ∷ rs) all =
    let rest = led-place (led h r.entry) rs all.2 in
    omega (arith, rest, length-record r all.0, length-append (framed (body_of r)) (records rs))

-- The history's place is where the gate behind the records stands.
pub place-end : (rs : List Record) → AreRecords new_history rs → (history_by rs).place ≡ end_of rs
place-end rs all = omega (arith, led-place new_history rs all, length-append header (records rs), length-header)
