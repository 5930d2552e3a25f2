-- In a session that is attached to a good store a request gives just what one step of the machine gives, and leaves the state of the new head.
use Rattle.std.specs.Prelude.{◌≡◌, ◌<◌, ◌+◌, ℕ, suc, nat_lt, false, List, length}
use Rattle.std.proofs.Common.{ap, sym, ◌∙◌, subst, arith, inl, inr}
use Rattle.kishu_language.specs.declared.profile.Profile.{Profile}
use Rattle.kishu_meaning.specs.values.Values.{State, empty}
use Rattle.kishu_objects.specs.Same.{Same}
use Rattle.kishu_objects.specs.Sizes.{most_bytes}
use Rattle.kishu_objects.specs.States.{IsSoundState}
use Rattle.kishu_pairing_laws.specs.runs.CellsInRow.{same_after}
use Rattle.kishu_history.specs.Good.{IsAttached}
use Rattle.kishu_history.specs.Paths.{AreRows}
use Rattle.kishu_history.specs.Sizes.{StaySmall}
use Rattle.kishu_history.specs.Versions.{at_end}
use Rattle.kishu_history_laws.specs.versions.PathLaws.{end_replay, newest_path}
use Rattle.kishu_session_laws.specs.CellLaws.{cells_leave, replay_is_state, stay_small_alike}
use Rattle.kishu_replay.specs.Replay.{after_cells, after_commits, replay}
use Rattle.kishu_store.specs.Graph.{Commit, Graph, Target, newest, path_in, with_commit}
use Rattle.kishu_store.specs.Holds.{Holds}
use Rattle.kishu_store.specs.Limits.{newest_profile}
use Rattle.kishu_store.specs.Tables.{Table, Change, no_change}
use Rattle.kishu_model.specs.Request.{Request, Stepped}
use Rattle.kishu_model.specs.Serve.{after}
use Rattle.kishu_model.specs.Step.{step, charge_of}
use Rattle.kishu_model.specs.requests.TooLarge.{is_too_large}
use Rattle.kishu_live_laws.specs.CellsAlike.{cells_make}
use Rattle.kishu_live_laws.specs.Made.{made_by_cells}
use Rattle.kishu_live_laws.specs.OnStates.{ran_by, left_of, head_rows, answer_on, after_on, charge_on, state_on, IsNoCheckout}
use Rattle.kishu_live_laws.specs.Outcomes.{IsStill, IsMade, goes, still_state, more_state, when_more}
use Rattle.kishu_live_laws.specs.Replays.{ran_in}
use Rattle.kishu_live_laws.specs.RequestsAlike as alike
use Rattle.kishu_live_laws.specs.Small.{ran_small}
use Rattle.kishu_live_laws.specs.Told.{told_size}

-- ---- replays

pub replay_more : (profile : Profile) (texts : List (List ℕ)) (g : Graph) → replay (with_commit profile texts g) (suc (newest g)) ≡ after_cells profile texts (replay g g.head.commit)
replay_more profile texts g =
    sym (end_replay (with_commit profile texts g) (suc (newest g)))
    ∙ ap at_end (newest_path profile texts g)
    ∙ ap (after_cells profile texts) (end_replay g g.head.commit)

-- Commits and a number tell a replay.
replay_still : (g now : Graph) → now.commits ≡ g.commits → now.head.commit ≡ g.head.commit → replay now now.head.commit ≡ replay g g.head.commit
replay_still g now commits head =
    ap (λ (ks : List Commit). after_commits (path_in ks now.head.commit) empty) commits
    ∙ ap (λ (c : ℕ). after_commits (path_in g.commits c) empty) head

-- ---- the state after a request, whichever request it is

pub state_on_sound : (of : ℕ → Change) (s : State) (g : Graph) (q : Request) → IsSoundState s → IsSoundState (state_on of s g q)
state_on_sound of s g q here = elim (goes of s g q) [
  | inl still ↦ subst (λ (t : State). IsSoundState t) (sym (still_state of s g q still)) here
  | inr is ↦ subst (λ (t : State). IsSoundState t) (sym (more_state of s g q is)) (alike.left_of_sound (head_rows of g) q s here)
]

module _ (file : List ℕ) (of : ℕ → Change) (s : State) (g : Graph) (rows : AreRows of) (attached : IsAttached file g of s) where
  abbrev head : State
  head = replay g g.head.commit

  abbrev table : Table
  table = head_rows of g

  here : IsSoundState s
  here = attached.told.state

  there : IsSoundState head
  there = replay_is_state g g.head.commit

  same : Same s head
  same = attached.same

  -- ---- what it gives

  pub answer_here : Holds file g → of 0 ≡ no_change → (q : Request) → answer_on of s g q ≡ (step g q).answer
  answer_here holds root q = ap (λ (x : Stepped). x.answer) (alike.step_here file of s g rows attached holds root q)

  pub after_here : (q : Request) → after_on of s g q ≡ after g q
  after_here q = alike.after_here file of s g rows attached q

  pub charge_here : (q : Request) → charge_on of s g q ≡ charge_of g q
  charge_here q = alike.charge_here file of s g rows attached q

  -- ---- the state that it leaves

  module _ (q : Request) where
    abbrev now : Graph
    now = after_on of s g q

    abbrev ran : List (List ℕ)
    ran = ran_by table q s

    on_here : (P : Graph → Type 0) → P (after g q) → P now
    on_here P p = subst P (sym (after_here q)) p

    made : newest g < newest (after g q) → IsMade of s g q now
    made more = when_more of s g q (on_here (λ (h : Graph). newest g < newest h) more)

    -- What holds of the live state and of the replay of the head, and of what cells leave of the two, holds of the state that the request leaves and of the replay of the new head.
    module _ (R : State → State → Type 0) (begins : R s head) (goes_on : (texts : List (List ℕ)) → R (after_cells newest_profile texts s) (after_cells newest_profile texts head)) where
      abbrev RAt : Graph → Type 0
      RAt h = R (state_on of s g q) (replay h h.head.commit)

      more_keeps : IsMade of s g q now → RAt now
      more_keeps is =
          subst (λ (h : Graph). RAt h) (sym is.graph)
          (subst (λ (t : State). R t (replay (with_commit newest_profile ran g) (suc (newest g)))) (sym (more_state of s g q is))
          (subst (λ (t : State). R (left_of table q s) t) (sym (replay_more newest_profile ran g)) (goes_on ran)))

      still_keeps : IsStill g q now → now.head.commit ≡ g.head.commit → RAt now
      still_keeps still stays =
          subst (λ (t : State). R t (replay now now.head.commit)) (sym (still_state of s g q still))
          (subst (λ (t : State). R s t) (sym (replay_still g now still.commits stays)) begins)

      at_after : RAt now → RAt (after g q)
      at_after h = subst (λ (h : Graph). RAt h) (after_here q) h

      pub committed_keeps : newest g < newest (after g q) → R (state_on of s g q) (replay (after g q) (after g q).head.commit)
      committed_keeps more = at_after (more_keeps (made more))

      pub stayed_keeps : (after g q).head.commit ≡ g.head.commit → R (state_on of s g q) (replay (after g q) (after g q).head.commit)
      stayed_keeps stays = at_after (elim (goes of s g q) [
        | inl still ↦ still_keeps still (on_here (λ (h : Graph). h.head.commit ≡ g.head.commit) stays)
        | inr is ↦ more_keeps is
      ])

      pub others_keep : IsNoCheckout q → R (state_on of s g q) (replay (after g q) (after g q).head.commit)
      others_keep other = at_after (elim (goes of s g q) [
        | inl still ↦ still_keeps still (ap (λ (t : Target). t.commit) (still.head other))
        | inr is ↦ more_keeps is
      ])

    -- So it is with sameness.
    same_on : (texts : List (List ℕ)) → Same (after_cells newest_profile texts s) (after_cells newest_profile texts head)
    same_on texts = same_after newest_profile texts s head here there same

    pub committed_same : newest g < newest (after g q) → Same (state_on of s g q) (replay (after g q) (after g q).head.commit)
    committed_same = committed_keeps (λ (u v : State). Same u v) same same_on

    pub stayed_same : (after g q).head.commit ≡ g.head.commit → Same (state_on of s g q) (replay (after g q) (after g q).head.commit)
    stayed_same = stayed_keeps (λ (u v : State). Same u v) same same_on

    pub others_same : IsNoCheckout q → Same (state_on of s g q) (replay (after g q) (after g q).head.commit)
    others_same = others_keep (λ (u v : State). Same u v) same same_on

    -- ---- nodes

    -- Where cells are committed, the state has as many more nodes as they make on the replay.
    pub committed_makes : newest g < newest (after g q) → length (state_on of s g q).nodes ≡ length s.nodes + made_by_cells g q
    committed_makes more =
        let ran_is : ran_by table q s ≡ ran_in q head = alike.ran_by_alike file of s g rows attached q in
        let left = more_state of s g q (made more) in
        let new = cells_make newest_profile (ran_in q head) s head here there same in
        let grows = (cells_leave newest_profile (ran_in q head) head there).grows in
        let length_is = ap (λ (l : List (List ℕ)). length (after_cells newest_profile l s).nodes) ran_is in
        omega (arith, ap (λ (t : State). length t.nodes) left, length_is, new, grows)

    -- ---- sizes

    -- The live state isn't too large after any of the cells that are committed, nor is the replay.
    pub stays_small : newest g < newest (after g q) → StaySmall newest_profile (ran_by (head_rows of g) q s) s
    stays_small more =
        let is = (made more).small in
        let as_run = alike.ran_by_told file of s g rows attached q in
        let fits : is_too_large (left_of table q s) ≡ false = ap (λ (n : ℕ). nat_lt most_bytes n) (sym (told_size file of s g rows attached ran)) ∙ is in
        subst (λ (l : List (List ℕ)). StaySmall newest_profile l s) (sym as_run)
        (ran_small q s (subst (λ (l : List (List ℕ)). is_too_large (after_cells newest_profile l s) ≡ false) as_run fits))

    pub replay_stays_small : newest g < newest (after g q) → StaySmall newest_profile (ran_by (head_rows of g) q s) (replay g g.head.commit)
    replay_stays_small more = stay_small_alike newest_profile ran s head here there same (stays_small more)
