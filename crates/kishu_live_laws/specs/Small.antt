-- Where the cells of a request are committed, no state after one of them is too large, or told to be; so where no replay of a graph is, none is after a request.
use Rattle.std.specs.Prelude.{◌≡◌, ◌≤◌, ◌<◌, ℕ, suc, ◌==◌, ◌&&◌, not, Bool, true, false, if◌then◌else◌, List, [], ◌∷◌, ◌++◌, length, refl}
use Rattle.std.proofs.Common.{ap, sym, ◌∙◌, subst, arith, inl, inr}
use Rattle.std.proofs.lemmas.Bool.{cases_Bool, false≢true, cases_lt}
use Rattle.std.proofs.lemmas.Bool.Decides.{nat_tests}
use Rattle.std.proofs.lemmas.List.{append_assoc}
use Rattle.kishu_language.specs.declared.profile.Profile.{Profile}
use Rattle.kishu_meaning.specs.cells.Meaning.{run}
use Rattle.kishu_meaning.specs.values.Values.{State, empty}
use Rattle.kishu_objects.specs.Sizes.{size, most_bytes}
use Rattle.kishu_history.specs.Sizes.{StaySmall, AllStaySmall, StaysSmall}
use Rattle.kishu_store.specs.Graph.{Commit, Graph, newest, path, path_in, with_commit}
use Rattle.kishu_store.specs.Limits.{newest_profile}
use Rattle.kishu_store.specs.Tables.{Table}
use Rattle.kishu_replay.specs.Replay.{after_cells, after_commits, replay}
use Rattle.kishu_model.specs.Request.{Request, cell, cells, checkout, branch, log, status, inspect, stored, plan, unreadable}
use Rattle.kishu_model.specs.requests.Cells.{is_ok, is_followed, cells_run}
use Rattle.kishu_model.specs.requests.TooLarge.{is_too_large}
use Rattle.kishu_model.specs.Serve.{after}
use Rattle.kishu_live_laws.specs.OnStates.{left_size, leave_too_large, go_on, run_behind, ran_by, StayTold}
use Rattle.kishu_live_laws.specs.Outcomes.{IsStill, IsCommitted, machine_goes}
use Rattle.kishu_live_laws.specs.Replays.{ran_in, left_in}

-- ---- cells

fits : (s : State) → is_too_large s ≡ false → size s ≤ most_bytes
fits s is = grind (arith, nat_tests)

both : (a b : Bool) → (a && not b) ≡ true → b ≡ false
both false b is = absurd (false≢true is)
both true false is = refl
both true true is = absurd (false≢true is)

module _ (profile : Profile) (t : List ℕ) (ts : List (List ℕ)) (s : State) where
  abbrev next : State
  next = (run profile t s).state

  abbrev rest : Bool → List (List ℕ)
  rest b = if b then cells_run profile ts next else []

  followed : (b : Bool) → (b ≡ true → is_too_large next ≡ false)
      → (is_too_large (after_cells profile (cells_run profile ts next) next) ≡ false → StaySmall profile (cells_run profile ts next) next)
      → is_too_large (after_cells profile (rest b) next) ≡ false → (size next ≤ most_bytes) × StaySmall profile (rest b) next
  followed true well later is = (fits next (well refl), later is)
  followed false well later is = (fits next is, tt)

-- Where the state that they leave isn't too large, none before it is.
cells_small : (profile : Profile) (texts : List (List ℕ)) (s : State) → is_too_large (after_cells profile (cells_run profile texts s) s) ≡ false → StaySmall profile (cells_run profile texts s) s
cells_small profile [] s is = tt
cells_small profile (t ∷ ts) s is =
    let r = run profile t s in
    followed profile t ts s (is_followed r) (both (is_ok r.report.outcome) (is_too_large r.state)) (cells_small profile ts r.state) is

-- So it is with those of a request.
pub ran_small : (q : Request) (s : State) → is_too_large (left_in q s) ≡ false → StaySmall newest_profile (ran_in q s) s
ran_small unreadable s is = tt
ran_small (cell text) s is = (fits (run newest_profile text s).state is, tt)
ran_small (cells texts) s is = cells_small newest_profile texts s is
ran_small (checkout to) s is = tt
ran_small (branch name at) s is = tt
ran_small log s is = tt
ran_small status s is = tt
ran_small inspect s is = tt
ran_small (stored of) s is = tt
ran_small (plan to) s is = tt

-- ---- told by a table

module _ (t : Table) (s : State) where
  told_fits : (ran : List (List ℕ)) → leave_too_large t ran s ≡ false → left_size t ran s ≤ most_bytes
  told_fits ran is = grind (arith, nat_tests)

  -- after each of these cells, behind cells that were run
  abbrev StayBehind : (before ran : List (List ℕ)) → Type 0
  StayBehind before ran = (b : List (List ℕ)) (text : List ℕ) (rest : List (List ℕ)) → b ++ text ∷ rest ≡ ran → left_size t (before ++ (b ++ text ∷ [])) s ≤ most_bytes

  none_behind : (before : List (List ℕ)) → StayBehind before []
  none_behind before = λ b text rest e. absurd (none b text rest e)
    where
      none : (b : List (List ℕ)) (text : List ℕ) (rest : List (List ℕ)) → b ++ text ∷ rest ≡ [] → ⊥
      none [] text rest e = cc (e)
      none (c ∷ b) text rest e = cc (e)

  module _ (before : List (List ℕ)) (text : List ℕ) (ran : List (List ℕ)) (fits : left_size t (before ++ text ∷ []) s ≤ most_bytes) (later : StayBehind (before ++ text ∷ []) ran) where
    each_behind : (b : List (List ℕ)) (x : List ℕ) (rest : List (List ℕ)) → b ++ x ∷ rest ≡ text ∷ ran → left_size t (before ++ (b ++ x ∷ [])) s ≤ most_bytes
    each_behind [] x rest e =
        let same : x ≡ text = cc (e) in
        subst (λ (y : List ℕ). left_size t (before ++ y ∷ []) s ≤ most_bytes) (sym same) fits
    each_behind (c ∷ b) x rest e =
        let same : c ≡ text = cc (e) in
        let others : b ++ x ∷ rest ≡ ran = cc (e) in
        subst (λ (y : List ℕ). left_size t (before ++ (y ∷ (b ++ x ∷ []))) s ≤ most_bytes) (sym same)
        (subst (λ (l : List (List ℕ)). left_size t l s ≤ most_bytes) (append_assoc before (text ∷ []) (b ++ x ∷ [])) (later b x rest others))

    one_behind : StayBehind before (text ∷ ran)
    one_behind = λ b x rest e. each_behind b x rest e

  behind_small : (before texts : List (List ℕ)) → leave_too_large t (before ++ run_behind t before texts s) s ≡ false → StayBehind before (run_behind t before texts s)
  behind_small before [] = λ is. none_behind before
  behind_small before (text ∷ texts) = λ is. elim (cases_Bool (go_on t before text s)) [
    | inl going ↦ (
        let upto = before ++ text ∷ [] in
        let ran = run_behind t upto texts s in
        let all : run_behind t before (text ∷ texts) s ≡ text ∷ ran = ap (λ (b : Bool). text ∷ (if b then ran else [])) going in
        let here : leave_too_large t upto s ≡ false = both (is_ok (run newest_profile text (after_cells newest_profile before s)).report.outcome) (leave_too_large t upto s) going in
        let last : leave_too_large t (upto ++ ran) s ≡ false = ap (λ (l : List (List ℕ)). leave_too_large t l s) (append_assoc before (text ∷ []) ran ∙ ap (λ (l : List (List ℕ)). before ++ l) (sym all)) ∙ is in
        subst (λ (l : List (List ℕ)). StayBehind before l) (sym all) (one_behind before text ran (told_fits upto here) (behind_small upto texts last))
        )
    | inr ends ↦ (
        let upto = before ++ text ∷ [] in
        let all : run_behind t before (text ∷ texts) s ≡ text ∷ [] = ap (λ (b : Bool). text ∷ (if b then run_behind t upto texts s else [])) ends in
        let last : leave_too_large t upto s ≡ false = ap (λ (l : List (List ℕ)). leave_too_large t (before ++ l) s) (sym all) ∙ is in
        subst (λ (l : List (List ℕ)). StayBehind before l) (sym all) (one_behind before text [] (told_fits upto last) (none_behind upto))
        )
  ]

  -- Where the cells of a request don't leave too much, none of them does.
  pub told_small : (q : Request) → leave_too_large t (ran_by t q s) s ≡ false → StayTold t (ran_by t q s) s
  told_small unreadable = λ is. none_behind []
  told_small (cell text) = λ is. one_behind [] text [] (told_fits (text ∷ []) is) (none_behind (text ∷ []))
  told_small (cells texts) = λ is. behind_small [] texts is
  told_small (checkout to) = λ is. none_behind []
  told_small (branch name at) = λ is. none_behind []
  told_small log = λ is. none_behind []
  told_small status = λ is. none_behind []
  told_small inspect = λ is. none_behind []
  told_small (stored of) = λ is. none_behind []
  told_small (plan to) = λ is. none_behind []

-- ---- a commit more

append_small : (ks : List Commit) (k : Commit) (s : State) → AllStaySmall ks s → StaySmall k.profile k.cells (after_commits ks s) → AllStaySmall (ks ++ (k ∷ [])) s
append_small [] k s all more = (more, tt)
append_small (j ∷ ks) k s all more = (all.0, append_small ks k (after_cells j.profile j.cells s) all.1 more)

module _ (g : Graph) (all : StaysSmall g) where
  module _ (ts : List (List ℕ)) (more : StaySmall newest_profile ts (replay g g.head.commit)) (c : ℕ) where
    abbrev added : Commit
    added = record { parent = g.head.commit; profile = newest_profile; cells = ts }

    by_number : (b : Bool) → AllStaySmall (if b then path g g.head.commit ++ (added ∷ []) else path g c) empty
    by_number true = append_small (path g g.head.commit) added empty (all g.head.commit) more
    by_number false = all c

  pub commit_small : (ts : List (List ℕ)) → StaySmall newest_profile ts (replay g g.head.commit) → StaysSmall (with_commit newest_profile ts g)
  commit_small ts more c = by_number ts more c (c == suc (newest g))

  -- ---- a request

  module _ (q : Request) where
    abbrev head : State
    head = replay g g.head.commit

    still_small : IsStill g q (after g q) → StaysSmall (after g q)
    still_small still = subst (λ (ks : List Commit). (c : ℕ) → AllStaySmall (path_in ks c) empty) (sym still.commits) all

    more_small : IsCommitted g (ran_in q head) (is_too_large (left_in q head)) (after g q) → StaysSmall (after g q)
    more_small is = subst StaysSmall (sym is.graph) (commit_small (ran_in q head) (ran_small q head is.small))

    pub small_after : StaysSmall (after g q)
    small_after = elim (machine_goes g q) [ inl still ↦ still_small still | inr is ↦ more_small is ]

-- ---- told of the commits that are there alone

none_past : (ks : List Commit) (c : ℕ) → length ks < c → path_in ks c ≡ []
none_past [] c past = refl
none_past (k ∷ ks) c past =
    let no : (c == suc (length ks)) ≡ false = grind (arith, nat_tests) in
    ap (λ (b : Bool). if b then path_in ks k.parent ++ (k ∷ []) else path_in ks c) no ∙ none_past ks c (omega (arith, past))

pub all_small : (ks : List Commit) → ((c : ℕ) → c ≤ length ks → AllStaySmall (path_in ks c) empty) → (c : ℕ) → AllStaySmall (path_in ks c) empty
all_small ks there c = elim (cases_lt (length ks) c) [
  | inl past ↦ subst (λ (p : List Commit). AllStaySmall p empty) (sym (none_past ks c past)) tt
  | inr here ↦ there c here
]
