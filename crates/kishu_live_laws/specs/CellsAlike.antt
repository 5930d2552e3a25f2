-- Cells can't tell states apart that are the same: as many of them are run, they show the same, take as many steps, and leave states that are the same.
use Rattle.std.specs.Prelude.{◌≡◌, ◌+◌, ◌&&◌, ℕ, suc, min, nat_lt, not, Bool, if◌then◌else◌, List, [], ◌∷◌, length, Some, None, refl}
use Rattle.std.proofs.Common.{ap, ◌∙◌, subst, arith}
use Rattle.kishu_language.specs.declared.profile.Profile.{Profile}
use Rattle.kishu_meaning.specs.cells.Meaning.{run}
use Rattle.kishu_meaning.specs.values.Values.{Report, State}
use Rattle.kishu_objects.specs.Picture.{whole}
use Rattle.kishu_objects.specs.Same.{Same}
use Rattle.kishu_objects.specs.Sizes.{most_bytes}
use Rattle.kishu_objects.specs.States.{IsSoundState}
use Rattle.kishu_objects_laws.specs.WholeLaws.{same_whole}
use Rattle.kishu_pairing_laws.specs.runs.CellsInRow.{same_after}
use Rattle.kishu_pairing_laws.specs.runs.PairedRuns.{same_runs}
use Rattle.kishu_pairing_laws.specs.runs.SoundRuns.{run_is_state}
use Rattle.kishu_history_laws.specs.cells.GroupsAfter.{same_size}
use Rattle.kishu_history_laws.specs.states.SameLaws.{same_listed}
use Rattle.kishu_replay.specs.Replay.{after_cells, charge_in}
use Rattle.kishu_model.specs.Answers.{Counted, state_too_large}
use Rattle.kishu_model.specs.requests.Cells.{cells_run, is_followed, is_ok, results_from}
use Rattle.kishu_model.specs.requests.Inspect.{told_at}
use Rattle.kishu_model.specs.requests.Status.{names_in}
use Rattle.kishu_model.specs.requests.TooLarge.{is_too_large, most_told, too_large}

-- ---- what shows of a state

module _ (s t : State) (here : IsSoundState s) (there : IsSoundState t) (same : Same s t) where
  pub large_alike : is_too_large s ≡ is_too_large t
  large_alike = ap (nat_lt most_bytes) (same_size s t here there same)

  -- the refusal of a state, where it is too large
  pub refused_alike : (if is_too_large s then Some (too_large s) else None) ≡ (if is_too_large t then Some (too_large t) else None)
  refused_alike = ap (λ n. if nat_lt most_bytes n then Some (state_too_large (min n most_told)) else None) (same_size s t here there same)

  pub told_alike : (commit : ℕ) → told_at commit (whole s) ≡ told_at commit (whole t)
  told_alike commit = ap (told_at commit) (same_whole s t here.sound there.sound here.rise there.rise same)

  pub names_alike : names_in s ≡ names_in t
  names_alike = same_listed s t here there same

-- ---- one run

module _ (profile : Profile) (text : List ℕ) (s t : State) (here : IsSoundState s) (there : IsSoundState t) (same : Same s t) where
  pub left_alike : Same (run profile text s).state (run profile text t).state
  left_alike = (same_runs profile text s t here there same).states

  pub report_alike : (run profile text s).report ≡ (run profile text t).report
  report_alike = (same_runs profile text s t here there same).report

  pub steps_alike : (run profile text s).charge ≡ (run profile text t).charge
  steps_alike = (same_runs profile text s t here there same).charge

  followed_alike : is_followed (run profile text s) ≡ is_followed (run profile text t)
  followed_alike =
      let large = large_alike (run profile text s).state (run profile text t).state (run_is_state profile text s here) (run_is_state profile text t there) left_alike in
      ap (λ (r : Report). is_ok r.outcome && not (is_too_large (run profile text s).state)) report_alike
      ∙ ap (λ (b : Bool). is_ok (run profile text t).report.outcome && not b) large

-- ---- cells one after another

pub ran_alike : (profile : Profile) (texts : List (List ℕ)) (s t : State) → IsSoundState s → IsSoundState t → Same s t → cells_run profile texts s ≡ cells_run profile texts t
ran_alike profile [] s t here there same = refl
ran_alike profile (text ∷ texts) s t here there same =
    let u = (run profile text s).state in
    let v = (run profile text t).state in
    ap (λ (b : Bool). text ∷ (if b then cells_run profile texts u else [])) (followed_alike profile text s t here there same)
    ∙ ap (λ (l : List (List ℕ)). text ∷ (if is_followed (run profile text t) then l else []))
    (ran_alike profile texts u v (run_is_state profile text s here) (run_is_state profile text t there) (left_alike profile text s t here there same))

pub shown_alike : (count : ℕ) (profile : Profile) (texts : List (List ℕ)) (s t : State) → IsSoundState s → IsSoundState t → Same s t → results_from count profile texts s ≡ results_from count profile texts t
shown_alike count profile [] s t here there same = refl
shown_alike count profile (text ∷ texts) s t here there same =
    let u = (run profile text s).state in
    let v = (run profile text t).state in
    ap (λ (r : Report). record { count = count; report = r } ∷ results_from (suc count) profile texts u) (report_alike profile text s t here there same)
    ∙ ap (λ (l : List Counted). record { count = count; report = (run profile text t).report } ∷ l)
    (shown_alike (suc count) profile texts u v (run_is_state profile text s here) (run_is_state profile text t there) (left_alike profile text s t here there same))

pub charge_alike : (profile : Profile) (texts : List (List ℕ)) (s t : State) → IsSoundState s → IsSoundState t → Same s t → charge_in profile texts s ≡ charge_in profile texts t
charge_alike profile [] s t here there same = refl
charge_alike profile (text ∷ texts) s t here there same =
    let u = (run profile text s).state in
    let v = (run profile text t).state in
    ap (λ (n : ℕ). n + charge_in profile texts u) (steps_alike profile text s t here there same)
    ∙ ap (λ (n : ℕ). (run profile text t).charge + n)
    (charge_alike profile texts u v (run_is_state profile text s here) (run_is_state profile text t there) (left_alike profile text s t here there same))

-- ---- the cells that are run of these

module _ (profile : Profile) (texts : List (List ℕ)) (s t : State) (here : IsSoundState s) (there : IsSoundState t) (same : Same s t) where
  ran : cells_run profile texts s ≡ cells_run profile texts t
  ran = ran_alike profile texts s t here there same

  pub ran_left_alike : Same (after_cells profile (cells_run profile texts s) s) (after_cells profile (cells_run profile texts t) t)
  ran_left_alike = subst (λ (l : List (List ℕ)). Same (after_cells profile (cells_run profile texts s) s) (after_cells profile l t)) ran
      (same_after profile (cells_run profile texts s) s t here there same)

-- ---- how many nodes there are

-- Cells make as many nodes in both.
pub cells_make : (profile : Profile) (texts : List (List ℕ)) (s t : State) → IsSoundState s → IsSoundState t → Same s t
    → length (after_cells profile texts s).nodes + length t.nodes ≡ length (after_cells profile texts t).nodes + length s.nodes
cells_make profile [] s t here there same = omega arith
cells_make profile (text ∷ texts) s t here there same =
    let new = (same_runs profile text s t here there same).nodes_new in
    let rest = cells_make profile texts (run profile text s).state (run profile text t).state (run_is_state profile text s here) (run_is_state profile text t there) (left_alike profile text s t here there same) in
    omega (arith, new, rest)
