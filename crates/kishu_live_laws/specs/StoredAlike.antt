-- On a good store what the record of a commit drops and stores is what the commit changes; and the commits that references name are there.
use Rattle.std.specs.Prelude.{◌≡◌, ◌≤◌, ℕ, suc, ◌==◌, nat_le, Bool, true, false, if◌then◌else◌, List, [], ◌∷◌, length, Option, Some, None, option_map, refl}
use Rattle.std.proofs.Common.{ap, sym, ◌∙◌, subst, arith, inl, inr}
use Rattle.std.proofs.lemmas.Bool.{cases_Bool}
use Rattle.std.proofs.lemmas.Bool.Decides.{nat_tests}
use Rattle.kishu_store.specs.Branches.{Branches, commit_of}
use Rattle.kishu_store.specs.Graph.{Commit, Graph, Target, newest}
use Rattle.kishu_store.specs.Groups.{Group}
use Rattle.kishu_store.specs.Holds.{Holds}
use Rattle.kishu_store.specs.References.{is_decimal, number_from, resolve}
use Rattle.kishu_store.specs.Tables.{Change, no_change, groups_in, changes_in}
use Rattle.kishu_store_laws.specs.BranchLaws.{each-commit}
use Rattle.kishu_store_laws.specs.GraphLaws.{IsBranch, held-graph}
use Rattle.kishu_replay.specs.Replay.{after_cells}
use Rattle.kishu_history.specs.Good.{IsGoodStore}
use Rattle.kishu_history.specs.Paths.{stops, stops_in}
use Rattle.kishu_history.specs.Tables.{AreRight}
use Rattle.kishu_history.specs.Versions.{Stop, at_end, dropped, stored}
use Rattle.kishu_model.specs.Answers.{Answer, told_stored}
use Rattle.kishu_model.specs.requests.Stored.{stored_of}
use Rattle.kishu_live_laws.specs.OnStates.{stored_to}

-- ---- what records change

-- what a commit's record has to have, where its path has stops
abbrev IsTold : List Stop → Change → Type 0
IsTold path c = (c.dropped ≡ dropped path) × (groups_in c.stored ≡ stored path)

module _ (of : ℕ → Change) (root : of 0 ≡ no_change) where
  root_told : IsTold [] (of 0)
  root_told = subst (λ (c : Change). IsTold [] c) (sym root) (refl, refl)

  commit_told : (ks : List Commit) (c : ℕ) → c ≤ length ks → AreRight (stops_in ks c) (changes_in ks of c) → IsTold (stops_in ks c) (of c)
  commit_told [] c there right = subst (λ (n : ℕ). IsTold [] (of n)) (omega (arith, there)) root_told
  commit_told (k ∷ ks) c there right = elim (cases_Bool (c == suc (length ks))) [
    | inl e ↦ (
        let stop : Stop = record { commit = c; state = after_cells k.profile k.cells (at_end (stops_in ks k.parent)) } in
        let path : stops_in (k ∷ ks) c ≡ stop ∷ stops_in ks k.parent = rw e refl in
        let all : changes_in (k ∷ ks) of c ≡ of c ∷ changes_in ks of k.parent = rw e refl in
        let here = subst (λ (cs : List Change). AreRight (stop ∷ stops_in ks k.parent) cs) all (subst (λ (p : List Stop). AreRight p (changes_in (k ∷ ks) of c)) path right) in
        subst (λ (p : List Stop). IsTold p (of c)) (sym path) (here.0, here.1)
        )
    | inr e ↦ (
        let path : stops_in (k ∷ ks) c ≡ stops_in ks c = rw e refl in
        let all : changes_in (k ∷ ks) of c ≡ changes_in ks of c = rw e refl in
        let below : c ≤ length ks = grind (arith, nat_tests) in
        let here = subst (λ (cs : List Change). AreRight (stops_in ks c) cs) all (subst (λ (p : List Stop). AreRight p (changes_in (k ∷ ks) of c)) path right) in
        subst (λ (p : List Stop). IsTold p (of c)) (sym path) (commit_told ks c below here)
        )
  ]

-- ---- what references name

decimal_there : (n most : ℕ) (b : Bool) → b ≡ nat_le n most → (t : Target) → (if b then Some (record { commit = n; branch = None }) else None) ≡ Some t → t.commit ≤ most
decimal_there n most true e t is =
    let same : record { commit = n; branch = None } ≡ t = cc (is) in
    let number : n ≡ t.commit = ap (λ (x : Target). x.commit) same in
    grind (arith, nat_tests)
decimal_there n most false e t is = absurd (cc (is))

branch_there : (bs : Branches) (most : ℕ) (to : List ℕ) (o : Option ℕ) → ((n : ℕ) → o ≡ Some n → n ≤ most) → (t : Target) → option_map (λ c. record { commit = c; branch = Some to }) o ≡ Some t → t.commit ≤ most
branch_there bs most to None there t is = absurd (cc (is))
branch_there bs most to (Some n) there t is =
    let same : record { commit = n; branch = Some to } ≡ t = cc (is) in
    subst (λ (m : ℕ). m ≤ most) (ap (λ (x : Target). x.commit) same) (there n refl)

module _ (file : List ℕ) (g : Graph) (holds : Holds file g) (to : List ℕ) where
  of_branch : (n : ℕ) → commit_of to g.branches ≡ Some n → n ≤ newest g
  of_branch n e = (each-commit (IsBranch (newest g)) to n g.branches e (held-graph file g holds).branches).1

  named : (b : Bool) → (t : Target) → (if b then (if nat_le (number_from 0 to) (newest g) then Some (record { commit = number_from 0 to; branch = None }) else None) else option_map (λ c. record { commit = c; branch = Some to }) (commit_of to g.branches)) ≡ Some t → t.commit ≤ newest g
  named true t is = decimal_there (number_from 0 to) (newest g) (nat_le (number_from 0 to) (newest g)) refl t is
  named false t is = branch_there g.branches (newest g) to (commit_of to g.branches) of_branch t is

  pub is_there : (t : Target) → resolve g to ≡ Some t → t.commit ≤ newest g
  is_there t is = named (is_decimal to) t is

-- ---- the request

module _ (file : List ℕ) (g : Graph) (of : ℕ → Change) (good : IsGoodStore file g.commits of) (root : of 0 ≡ no_change) where
  target_alike : (o : Option Target) → ((t : Target) → o ≡ Some t → t.commit ≤ newest g) → stored_to of o g ≡ stored_of o g
  target_alike None there = refl
  target_alike (Some t) there =
      let c = t.commit in
      let told = commit_told of root g.commits c (there t refl) (good.right c (there t refl)) in
      let answer : told_stored c (of c).dropped (groups_in (of c).stored) ≡ told_stored c (dropped (stops g c)) (stored (stops g c)) =
      ap (λ (gs : List Group). told_stored c gs (groups_in (of c).stored)) told.0 ∙ ap (λ (gs : List Group). told_stored c (dropped (stops g c)) gs) told.1 in
      ap (λ (a : Answer). record { graph = g; answer = a }) answer

  pub stored_alike : Holds file g → (to : List ℕ) → stored_to of (resolve g to) g ≡ stored_of (resolve g to) g
  stored_alike holds to = target_alike (resolve g to) (is_there file g holds to)
