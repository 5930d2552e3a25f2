-- The path to a commit ends at its replay, its numbers fall, and the states on it are replays.
use Rattle.std.specs.Prelude.{◌≡◌, ℕ, suc, ◌==◌, ◌≤◌, Bool, true, false, if◌then◌else◌, List, [], ◌∷◌, ◌++◌, length, map}
use Rattle.std.proofs.Common.{refl, ap, sym, ◌∙◌, subst, arith, inl, inr}
use Rattle.std.proofs.lemmas.Bool.{cases_Bool}
use Rattle.std.proofs.lemmas.Bool.Decides.{Decides-eqb}
use Rattle.std.specs.List.Sorted.{IsStrictlySortedBy}
use Rattle.kishu_language.specs.declared.profile.Profile.{Profile}
use Rattle.kishu_meaning.specs.values.Values.{State, empty}
use Rattle.kishu_meaning.specs.cells.Meaning.{run}
use Rattle.kishu_store.specs.Graph.{Commit, Graph, newest, with_commit, path_in}
use Rattle.kishu_replay.specs.Replay.{after_cells, after_commits, replay}
use Rattle.kishu_objects.specs.Lists.{In, Rise}
use Rattle.kishu_objects_laws.specs.ListLaws.{filter_in}
use Rattle.kishu_objects.specs.States.{IsSoundState}
use Rattle.kishu_history.specs.Versions.{AreStates, Stop, at_end, end_number, Falls, Agree}
use Rattle.kishu_history.specs.Tables.{Row, Change, without_groups, table_of, no_change, first_in}
use Rattle.kishu_history.specs.Paths.{stops_in, stops, changes_in, table_in, AreRows, with_change}
use Rattle.kishu_history_laws.specs.Choices.{not_told}
use Rattle.kishu_history_laws.specs.states.StateLaws.{end_state}
use Rattle.kishu_history_laws.specs.tables.TableLaws.{put_rows_in}

after_last : (ks : List Commit) (k : Commit) (s : State) → after_commits (ks ++ (k ∷ [])) s ≡ after_cells k.profile k.cells (after_commits ks s)
after_last [] k s = refl
after_last (j ∷ ks) k s = after_last ks k (after_cells j.profile j.cells s)

pub end_in : (ks : List Commit) (c : ℕ) → at_end (stops_in ks c) ≡ after_commits (path_in ks c) empty
end_in [] c = refl
end_in (k ∷ ks) c = elim (cases_Bool (c == suc (length ks))) [
  | inl e ↦ rw e (ap (after_cells k.profile k.cells) (end_in ks k.parent) ∙ sym (after_last (path_in ks k.parent) k empty))
  | inr e ↦ rw e (end_in ks c)
]

-- The path ends at the commit's replay.
pub end_replay : (g : Graph) (c : ℕ) → at_end (stops g c) ≡ replay g c
end_replay g c = end_in g.commits c

pub below_in_commits : (ks : List Commit) (c : ℕ) → end_number (stops_in ks c) ≤ length ks
below_in_commits [] c = omega arith
below_in_commits (k ∷ ks) c = elim (cases_Bool (c == suc (length ks))) [
  | inl e ↦ rw e (let f = (Decides-eqb c (suc (length ks))).0 e in omega (arith, f))
  | inr e ↦ rw e (let r = below_in_commits ks c in omega (arith, r))
]

pub falls_in : (ks : List Commit) (c : ℕ) → Falls (stops_in ks c)
falls_in [] c = tt
falls_in (k ∷ ks) c = elim (cases_Bool (c == suc (length ks))) [
  | inl e ↦ rw e ((let f = (Decides-eqb c (suc (length ks))).0 e in let r = below_in_commits ks k.parent in omega (arith, f, r)), falls_in ks k.parent)
  | inr e ↦ rw e (falls_in ks c)
]

pub stops_fall : (g : Graph) (c : ℕ) → Falls (stops g c)
stops_fall g c = falls_in g.commits c

-- a path to an older commit is the same with a commit more
pub older_path : (k : Commit) (ks : List Commit) (c : ℕ) → c ≤ length ks → stops_in (k ∷ ks) c ≡ stops_in ks c
older_path k ks c l = (let e = not_told (c == suc (length ks)) (Decides-eqb c (suc (length ks))) (λ f. omega (arith, l, f)) in rw e refl)

newest_is : (k : Commit) (ks : List Commit) (c : ℕ) → (c == suc (length ks)) ≡ true → at_end (stops_in (k ∷ ks) c) ≡ after_cells k.profile k.cells (at_end (stops_in ks k.parent))
newest_is k ks c e = rw e refl

-- the commit is among these, and the state is the one at the end of its path
abbrev pub IsReplayIn : List Commit → Stop → Type 0
IsReplayIn ks j = (j.commit ≤ length ks) × (j.state ≡ at_end (stops_in ks j.commit))

older_stop : (k : Commit) (ks : List Commit) (j : Stop) → IsReplayIn ks j → IsReplayIn (k ∷ ks) j
older_stop k ks j r = (let l = r.0 in (omega (arith, l), r.1 ∙ ap at_end (sym (older_path k ks j.commit l))))

newest_stop : (k : Commit) (ks : List Commit) (c : ℕ) (j : Stop) → (c == suc (length ks)) ≡ true → j ≡ record { commit = c; state = after_cells k.profile k.cells (at_end (stops_in ks k.parent)) } → IsReplayIn (k ∷ ks) j
newest_stop k ks c j e q =
    let f = (Decides-eqb c (suc (length ks))).0 e in
    let n : j.commit ≡ c = ap (λ z. z.commit) q in
    (omega (arith, f, n), ap (λ z. z.state) q ∙ sym (newest_is k ks c e) ∙ ap (λ d. at_end (stops_in (k ∷ ks) d)) (sym n))

pub stop_in : (ks : List Commit) (c : ℕ) (j : Stop) → In j (stops_in ks c) → IsReplayIn ks j
stop_in [] c j m = absurd m
stop_in (k ∷ ks) c j m = elim (cases_Bool (c == suc (length ks))) [
  | inr e ↦ older_stop k ks j (stop_in ks c j (rw e at m))
  | inl e ↦ (
      let n : In j (record { commit = c; state = after_cells k.profile k.cells (at_end (stops_in ks k.parent)) } ∷ stops_in ks k.parent) = rw e at m in
      elim n [ inl q ↦ newest_stop k ks c j e q | inr h ↦ older_stop k ks j (stop_in ks k.parent j h) ]
      )
]

-- Each state on a path is the replay of its commit.
pub stop_replay : (g : Graph) (c : ℕ) (j : Stop) → In j (stops g c) → (j.commit ≤ newest g) × (j.state ≡ replay g j.commit)
stop_replay g c j m = (let r = stop_in g.commits c j m in (r.0, r.1 ∙ end_replay g j.commit))

-- Two paths of one graph agree.
pub paths_agree : (g : Graph) (c d : ℕ) → Agree (stops g c) (stops g d)
paths_agree g c d j k m n e = (stop_replay g c j m).1 ∙ ap (replay g) e ∙ sym (stop_replay g d k n).1

-- ---- tables

-- the changes of old commits alone stand on their paths
pub same_changes : (ks : List Commit) (of by : ℕ → Change) → ((c : ℕ) → c ≤ length ks → of c ≡ by c) → (c : ℕ) → changes_in ks of c ≡ changes_in ks by c
same_changes [] of by h c = refl
same_changes (k ∷ ks) of by h c = elim (cases_Bool (c == suc (length ks))) [
  | inl e ↦ rw e (let f = (Decides-eqb c (suc (length ks))).0 e in let g : of c ≡ by c = h c (omega (arith, f)) in ap (λ d. d ∷ changes_in ks of k.parent) g ∙ ap (λ l. by c ∷ l) (same_changes ks of by (λ d l. h d (omega (arith, l))) k.parent))
  | inr e ↦ rw e (same_changes ks of by (λ d l. h d (omega (arith, l))) c)
]

-- the row stands among those that its version's record stored, and the version is one of these commits
abbrev pub IsRecorded : List Commit → (ℕ → Change) → Row → Type 0
IsRecorded ks of r = In r (of r.version).stored × (r.version ≤ length ks)

row_recorded : (k : Commit) (ks : List Commit) (of : ℕ → Change) → AreRows of → (c : ℕ) (r : Row) → ((d : ℕ) → In r (table_in ks of d) → IsRecorded ks of r) → (b : Bool) → (c == suc (length ks)) ≡ b → In r (table_of (if b then of c ∷ changes_in ks of k.parent else changes_in ks of c)) → IsRecorded (k ∷ ks) of r
row_recorded k ks of rows c r rest true e m = elim (put_rows_in r (of c).stored (without_groups (of c).dropped (table_in ks of k.parent)) m) [
  | inl n ↦ (
      let v = rows.version c r n in
      let f = (Decides-eqb c (suc (length ks))).0 e in
      (subst (λ d. In r (of d).stored) (sym v) n, omega (arith, v, f))
      )
  | inr n ↦ (let q = rest k.parent (filter_in _ (table_in ks of k.parent) r n).0 in let l = q.1 in (q.0, omega (arith, l)))
]
row_recorded k ks of rows c r rest false e m = (let q = rest c m in let l = q.1 in (q.0, omega (arith, l)))

-- Each row of a table stands among those that its version's record stored.
pub rows_recorded : (ks : List Commit) (of : ℕ → Change) → AreRows of → (c : ℕ) (r : Row) → In r (table_in ks of c) → IsRecorded ks of r
rows_recorded [] of rows c r m = absurd m
rows_recorded (k ∷ ks) of rows c r m = row_recorded k ks of rows c r (λ d n. rows_recorded ks of rows d r n) (c == suc (length ks)) refl m

-- ---- the rows of records

pub no_rows : AreRows (λ c. no_change)
unfolding IsStrictlySortedBy
no_rows = record { version = λ c r m. absurd m; rise = λ c. tt }

-- A further commit's rows have its number, and stand in the order of their first names.
pub rows_further : (of : ℕ → Change) → AreRows of → (commit : ℕ) (c : Change) → ((r : Row) → In r c.stored → r.version ≡ commit) → Rise (map first_in c.stored) → AreRows (with_change of commit c)
rows_further of rows commit c versions rise = record {
  version = λ d r m. elim (cases_Bool (d == commit)) [
    | inl e ↦ (let n : In r c.stored = rw e at m in versions r n ∙ sym ((Decides-eqb d commit).0 e))
    | inr e ↦ (let n : In r (of d).stored = rw e at m in rows.version d r n)
  ];
  rise = λ d. elim (cases_Bool (d == commit)) [ inl e ↦ rw e rise | inr e ↦ rw e (rows.rise d) ];
}

-- ---- a commit more

pub newest_path : (profile : Profile) (cells : List (List ℕ)) (g : Graph) → stops (with_commit profile cells g) (suc (newest g)) ≡ record { commit = suc (newest g); state = after_cells profile cells (at_end (stops g g.head.commit)) } ∷ stops g g.head.commit
newest_path profile cells g = (let e = (Decides-eqb (suc (newest g)) (suc (newest g))).1 refl in rw e refl)

pub same_path : (profile : Profile) (cells : List (List ℕ)) (g : Graph) (c : ℕ) → c ≤ newest g → stops (with_commit profile cells g) c ≡ stops g c
same_path profile cells g c l = older_path (record { parent = g.head.commit; profile = profile; cells = cells }) g.commits c l

-- ---- states of replays

module _ (keeps : (profile : Profile) (cell : List ℕ) (s : State) → IsSoundState s → IsSoundState (run profile cell s).state) where
  cells_keep : (profile : Profile) (cells : List (List ℕ)) (s : State) → IsSoundState s → IsSoundState (after_cells profile cells s)
  cells_keep profile [] s h = h
  cells_keep profile (cell ∷ cells) s h = cells_keep profile cells (run profile cell s).state (keeps profile cell s h)

  states_in : (ks : List Commit) (c : ℕ) → AreStates (stops_in ks c)
  states_in [] c = tt
  states_in (k ∷ ks) c = elim (cases_Bool (c == suc (length ks))) [
    | inl e ↦ rw e (cells_keep k.profile k.cells (at_end (stops_in ks k.parent)) (end_state (stops_in ks k.parent) (states_in ks k.parent)), states_in ks k.parent)
    | inr e ↦ rw e (states_in ks c)
  ]

  pub stops_states : (g : Graph) (c : ℕ) → AreStates (stops g c)
  stops_states g c = states_in g.commits c
