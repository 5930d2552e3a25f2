-- The pictures of a table take no more bytes than the file that holds them.
use Rattle.std.specs.Prelude.{◌≡◌, ◌≤◌, ◌+◌, ℕ, suc, not, List, [], ◌∷◌, length, map, Option, Some, None}
use Rattle.std.specs.List.{sum}
use Rattle.std.proofs.Common.{refl, sym, ◌∙◌, ap, subst, arith, inl, inr, length-append}
use Rattle.std.proofs.lemmas.Bool.Decides.{eqb_tells}
use Rattle.std.proofs.lemmas.List.Filters.{sum_by-filter_both}
use Rattle.std.proofs.lemmas.List.Sums.{sum_by-cons}
use Rattle.kishu_language.specs.declared.profile.Profile.{Profile}
use Rattle.kishu_store.specs.Branches.{commit_of}
use Rattle.kishu_store.specs.Entries.{Entry, commit, move, name, to_commit, to_branch, Record, entries_in}
use Rattle.kishu_store.specs.Fitting.{on_branch}
use Rattle.kishu_store.specs.Graph.{Commit, Graph, newest, with_commit}
use Rattle.kishu_store.specs.Groups.{Group, is_one_of}
use Rattle.kishu_store.specs.Histories.{History, new_history, before_body, before_pictures, body_length, gives, led, led_by, table_to, AreRecords}
use Rattle.kishu_store.specs.Holds.{Holds, Gives, HasRecords, front, history_by, changes_by}
use Rattle.kishu_store.specs.Tables.{Table, Change, len_in, bytes_in, without_groups, after, table_of, rows_from, table_in, table_at, with_change, change_of}
use Rattle.kishu_store_laws.specs.HistoryLaws.{IsHistory, changes-older, led-history, new-history, place-end}
use Rattle.kishu_store_laws.specs.Laws.{history-graph, holds-records, gives-records, one_records}
use Rattle.kishu_history_laws.specs.tables.SplitLaws.{put_rows_take}

-- a change adds at most what it stores
after_takes_most : (c : Change) (t : Table) → bytes_in (after c t) ≤ bytes_in t + bytes_in c.stored
after_takes_most c t =
    let all = put_rows_take c.stored (without_groups c.dropped t) in
    let parts = sum_by-filter_both (λ r. is_one_of r.group c.dropped) (λ r. not (is_one_of r.group c.dropped)) (λ r. refl) len_in t in
    omega (arith, all, parts)

-- the rows of a record take what it tells
rows_from_take : (number place : ℕ) (ss : List (Group × ℕ)) → bytes_in (rows_from number place ss) ≡ sum (map (λ s. s.1) ss)
rows_from_take number place [] = refl
rows_from_take number place (s ∷ ss) =
    let rest = rows_from_take number (place + s.1) ss in
    let all : sum (map (λ (z : Group × ℕ). z.1) (s ∷ ss)) ≡ s.1 + sum (map (λ (z : Group × ℕ). z.1) ss) = sum_by-cons (λ n. n) s.1 (map (λ (z : Group × ℕ). z.1) ss) in
    let rows = sum_by-cons len_in (record { group = s.0; version = number; place = place; len = s.1 }) (rows_from number (place + s.1) ss) in
    omega (arith, rest, all, rows)

-- Each commit's table takes no more than that.
abbrev TakeMost : List Commit → (ℕ → Change) → ℕ → Type 0
TakeMost ks of n = (c : ℕ) → bytes_in (table_in ks of c) ≤ n

more_most : (ks : List Commit) (of : ℕ → Change) (m n : ℕ) → m ≤ n → TakeMost ks of m → TakeMost ks of n
more_most ks of m n le k c = (let h = k c in omega (arith, h, le))

on_commits : (title : List ℕ) (o : Option ℕ) (g : Graph) → (on_branch title o g).commits ≡ g.commits
on_commits title None g = refl
on_commits title (Some n) g = refl

-- Each table of a history takes no more than its place in the file.
abbrev IsWithin : History → Type 0
IsWithin h = TakeMost h.graph.commits (change_of h.changes) h.place

module _ (h : History) (p : ℕ) (f : Profile) (cells : List (List ℕ)) (ds : List Group) (ss : List (Group × ℕ)) (k : IsHistory h) (within : IsWithin h) where
  abbrev e : Entry
  e = commit p f cells ds ss

  abbrev d : Change
  d = record { dropped = ds; stored = rows_from (suc (newest h.graph)) (h.place + before_body + before_pictures e) ss }

  abbrev now : ℕ → Change
  now = with_change (change_of h.changes) (suc (length h.changes)) d

  number_is : suc (length h.changes) ≡ suc (newest h.graph)
  number_is = ap suc k.changes.counted

  -- the tables of the older commits
  older_tables : (c : ℕ) → table_in h.graph.commits now c ≡ table_to h c
  older_tables c = ap table_of (changes-older h.graph.commits (change_of h.changes) (suc (length h.changes)) d (let n = k.changes.counted in omega (arith, n)) c)

  at_last : now (suc (length h.changes)) ≡ d
  at_last = elim (eqb_tells (suc (length h.changes)) (suc (length h.changes))) [ inl q ↦ rw q.0 refl | inr q ↦ absurd (q.1 refl) ]

  new_takes : bytes_in (after d (table_in h.graph.commits now h.graph.head.commit)) ≤ h.place + before_body + body_length e
  new_takes =
      let a = after_takes_most d (table_in h.graph.commits now h.graph.head.commit) in
      let b = ap bytes_in (older_tables h.graph.head.commit) in
      let c = within h.graph.head.commit in
      let r = rows_from_take (suc (newest h.graph)) (h.place + before_body + before_pictures e) ss in
      omega (arith, a, b, c, r)

  older_take : (c : ℕ) → bytes_in (table_in h.graph.commits now c) ≤ h.place + before_body + body_length e
  older_take c = (let a = ap bytes_in (older_tables c) in let b = within c in omega (arith, a, b))

  commit_within : TakeMost (with_commit f cells h.graph).commits now (h.place + before_body + body_length e)
  commit_within c = elim (eqb_tells c (suc (newest h.graph))) [
    | inl q ↦ (
        let here : now c ≡ d = ap now (q.1 ∙ sym number_is) ∙ at_last in
        rw q.0 (subst (λ (x : Change). bytes_in (after x (table_in h.graph.commits now h.graph.head.commit)) ≤ h.place + before_body + body_length e) (sym here) new_takes)
        )
    | inr q ↦ rw q.0 (older_take c)
  ]

led_within : (h : History) (e : Entry) → IsHistory h → IsWithin h → IsWithin (led h e)
led_within h (commit p f cells ds ss) k within = commit_within h p f cells ds ss k within
led_within h (move (to_commit n)) k within = more_most h.graph.commits (change_of h.changes) h.place (h.place + before_body + body_length (move (to_commit n))) (omega arith) within
led_within h (move (to_branch title)) k within =
    subst (λ (ks : List Commit). TakeMost ks (change_of h.changes) (h.place + before_body + body_length (move (to_branch title)))) (sym (on_commits title (commit_of title h.graph.branches) h.graph))
    (more_most h.graph.commits (change_of h.changes) h.place (h.place + before_body + body_length (move (to_branch title))) (omega arith) within)
led_within h (name title n) k within = more_most h.graph.commits (change_of h.changes) h.place (h.place + before_body + body_length (name title n)) (omega arith) within

led_all_within : (h : History) (rs : List Record) → AreRecords h rs → IsHistory h → IsWithin h → IsWithin (led_by h (entries_in rs))
led_all_within h [] all k within = within
led_all_within h (r ∷ rs) all k within = led_all_within (led h r.entry) rs all.2 (led-history h r.entry k all.0.rules all.1) (led_within h r.entry k within)

pub records_within : (rs : List Record) → AreRecords new_history rs → IsWithin (history_by rs)
records_within rs all = led_all_within new_history rs all new-history (λ c. omega arith)

-- The records of a file lie within it; a short file has none.
has_within : (file : List ℕ) (rs : List Record) → HasRecords file rs → (c : ℕ) → bytes_in (table_to (history_by rs) c) ≤ length file
has_within file rs (inl h) c = subst (λ (qs : List Record). bytes_in (table_to (history_by qs) c) ≤ length file) (sym h.1) (omega arith)
has_within file rs (inr h) c =
    let a = records_within rs h.1.fit c in
    let b = place-end rs h.1.fit in
    let s = ap length h.1.split in
    omega (arith, a, b, s, length-append (front rs) (h.1.gate ∷ h.1.rest))

pub tables_within : (file : List ℕ) (g : Graph) (cs : List Change) → Holds file g → Gives file cs → (c : ℕ) → bytes_in (table_at g (change_of cs) c) ≤ length file
tables_within file g cs holds gives c =
    let a = holds-records file g holds in
    let b = gives-records file cs gives in
    let same : b.0 ≡ a.0 = one_records file b.0 a.0 b.1 a.1 in
    let given : cs ≡ changes_by a.0 = b.2 ∙ ap (λ (rs : List Record). changes_by rs) same in
    let graph : g ≡ (history_by a.0).graph = a.2 ∙ sym (history-graph a.0) in
    subst (λ (x : Graph). bytes_in (table_at x (change_of cs) c) ≤ length file) (sym graph)
    (subst (λ (xs : List Change). bytes_in (table_at (history_by a.0).graph (change_of xs) c) ≤ length file) (sym given) (has_within file a.0 a.1 c))
