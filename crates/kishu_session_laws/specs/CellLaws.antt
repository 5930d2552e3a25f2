-- Cells one after another keep states, so each replay is one; they leave what the names that they access didn't reach, so what they changed is told among the touched names; and they grow alike from states that are the same.
use Rattle.std.specs.Prelude.{◌≡◌, ◌≤◌, ℕ, zero, suc, List, [], ◌∷◌, length, ◌↔◌, ◌⊎◌, ◌+◌, false, not, filter}
use Rattle.std.proofs.Common.{refl, subst, arith, inl, inr}
use Rattle.kishu_language.specs.declared.profile.Profile.{Profile}
use Rattle.kishu_meaning.specs.values.Values.{State, Node, list}
use Rattle.kishu_meaning.specs.cells.Meaning.{run}
use Rattle.kishu_store.specs.Graph.{Graph}
use Rattle.kishu_replay.specs.Replay.{after_cells, replay}
use Rattle.kishu_objects.specs.Shape.{children, node_at}
use Rattle.kishu_objects.specs.Picture.{numbers, picture, listed}
use Rattle.kishu_objects.specs.Same.{Same}
use Rattle.kishu_objects.specs.Lists.{In}
use Rattle.kishu_objects.specs.States.{IsSoundState}
use Rattle.kishu_history.specs.Paths.{stops, ReplaysAreStates}
use Rattle.kishu_history.specs.Accessed.{accessed_by}
use Rattle.kishu_objects.specs.Locality.{Leaves}
use Rattle.kishu_objects.specs.Sizes.{most_bytes, size, size_among}
use Rattle.kishu_history.specs.Sizes.{StaySmall}
use Rattle.kishu_objects.specs.Groups.{groups_of}
use Rattle.kishu_history.specs.Changed.{Group, changed}
use Rattle.kishu_history.specs.Touched.{holds_any, classes, dropped_among, stored_among}
use Rattle.kishu_history_laws.specs.states.StateLaws.{end_state}
use Rattle.kishu_history_laws.specs.versions.PathLaws.{stops_states, end_replay}
use Rattle.kishu_history_laws.specs.cells.JoinedLaws.{leaves_both}
use Rattle.kishu_history_laws.specs.cells.GroupsAfter.{same_size, groups_after_cell, size_after}
use Rattle.kishu_history_laws.specs.cells.LeavesLaws.{kept_after, dropped_changed, stored_changed}
use Rattle.kishu_history_laws.specs.tables.TableLaws.{groups_rise}
use Rattle.kishu_pairing_laws.specs.runs.SoundRuns.{run_is_state}
use Rattle.kishu_pairing_laws.specs.runs.LocalRuns.{run_leaves_inside}
use Rattle.kishu_pairing_laws.specs.runs.PairedRuns.{same_runs}

pub cells_keep : (profile : Profile) (cells : List (List ℕ)) (s : State) → IsSoundState s → IsSoundState (after_cells profile cells s)
cells_keep profile [] s is = is
cells_keep profile (cell ∷ cells) s is = cells_keep profile cells (run profile cell s).state (run_is_state profile cell s is)

pub replays_are_states : (g : Graph) → ReplaysAreStates g.commits
replays_are_states = stops_states run_is_state

pub replay_is_state : (g : Graph) (c : ℕ) → IsSoundState (replay g c)
replay_is_state g c = subst (λ s. IsSoundState s) (end_replay g c) (end_state (stops g c) (replays_are_states g c))

-- ---- what cells leave

node_beyond : (ns : List Node) (i : ℕ) → length ns ≤ i → node_at ns i ≡ list []
node_beyond [] i l = refl
node_beyond (n ∷ ns) zero l = absurd (omega (arith, l))
node_beyond (n ∷ ns) (suc i) l = node_beyond ns i (omega (arith, l))

none_leave : (s : State) → Leaves [] s s
none_leave s = record {
  grows = omega arith;
  names = λ x n. refl;
  nodes = λ i n. refl;
  begins = λ x i m e. absurd m;
  goes_on = λ i j h m. elim h [
    | inl l ↦ (let k : In j [] = subst (λ n. In j (numbers (children n))) (node_beyond s.nodes i l) m in absurd k)
    | inr r ↦ absurd r.1
  ];
}

pub cells_leave : (profile : Profile) (cells : List (List ℕ)) (s : State) → IsSoundState s → Leaves (accessed_by profile cells s) s (after_cells profile cells s)
cells_leave profile [] s is = none_leave s
cells_leave profile (cell ∷ cells) s is =
    let t = (run profile cell s).state in
    let there = run_is_state profile cell s is in
    leaves_both (run profile cell s).accessed (accessed_by profile cells t) s t (after_cells profile cells t) is.sound there.sound (run_leaves_inside profile cell s is) (cells_leave profile cells t there)

-- ---- sizes

pub stay_small_alike : (profile : Profile) (cells : List (List ℕ)) (s t : State) → IsSoundState s → IsSoundState t → Same s t → StaySmall profile cells s → StaySmall profile cells t
stay_small_alike profile [] s t here there same small = tt
stay_small_alike profile (cell ∷ cells) s t here there same small =
    let u = (run profile cell s).state in
    let v = (run profile cell t).state in
    let now = run_is_state profile cell s here in
    let later = run_is_state profile cell t there in
    let alike = (same_runs profile cell s t here there same).states in
    (subst (λ n. n ≤ most_bytes) (same_size u v now later alike) small.0, stay_small_alike profile cells u v now later alike small.1)

-- ---- groups, and what they take

-- After cells the groups are those of before that hold no accessed name, and the classes of the touched names.
pub groups_after_cells : (profile : Profile) (cells : List (List ℕ)) (s : State) → IsSoundState s → (g : Group) → (In g (groups_of (after_cells profile cells s)) ↔ ((In g (groups_of s) × (holds_any (accessed_by profile cells s) g ≡ false)) ⊎ In g (classes (groups_of s) (accessed_by profile cells s) (after_cells profile cells s))))
groups_after_cells profile cells s is = groups_after_cell (accessed_by profile cells s) s (after_cells profile cells s) is (cells_keep profile cells s is) (cells_leave profile cells s is)

pub size_after_cells : (profile : Profile) (cells : List (List ℕ)) (s : State) → IsSoundState s → size (after_cells profile cells s) ≡ size_among (filter (λ g. not (holds_any (accessed_by profile cells s) g)) (groups_of s)) (after_cells profile cells s) + size_among (classes (groups_of s) (accessed_by profile cells s) (after_cells profile cells s)) (after_cells profile cells s)
size_after_cells profile cells s is =
    let t = after_cells profile cells s in
    let there = cells_keep profile cells s is in
    size_after (groups_of s) (picture s) (accessed_by profile cells s) t there (kept_after (accessed_by profile cells s) s t is there (cells_leave profile cells s is)) (groups_rise s is.sound (listed s) is.rise)

-- What is told among the touched names is what changed.
pub cells_drop : (profile : Profile) (cells : List (List ℕ)) (s : State) → IsSoundState s → dropped_among (groups_of s) (picture s) (accessed_by profile cells s) (after_cells profile cells s) ≡ changed s (after_cells profile cells s)
cells_drop profile cells s is = dropped_changed (accessed_by profile cells s) s (after_cells profile cells s) is (cells_keep profile cells s is) (cells_leave profile cells s is)

pub cells_store : (profile : Profile) (cells : List (List ℕ)) (s : State) → IsSoundState s → stored_among (groups_of s) (picture s) (accessed_by profile cells s) (after_cells profile cells s) ≡ changed (after_cells profile cells s) s
cells_store profile cells s is = stored_changed (accessed_by profile cells s) s (after_cells profile cells s) is (cells_keep profile cells s is) (cells_leave profile cells s is)
