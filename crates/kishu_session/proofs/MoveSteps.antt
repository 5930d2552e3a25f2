-- A checkout and a branch that are not refused, and those that are.
use Rattle.std.proofs.Common.{◌≡◌, ◌≤◌, ℕ, Bool, true, false, if◌then◌else◌, List, Option, Some, None, refl, sym, ap, subst, arith}
use Rattle.std.specs.Prelude.{nat_le, is_some, IsTrue, option_map}
use Rattle.std.proofs.lemmas.Bool.Decides.{nat_tests}
use Rattle.kishu_store.specs.Branches.{commit_of}
use Rattle.kishu_store.specs.Entries.{move}
use Rattle.kishu_store.specs.Fitting.{GoesOn, changed, on_branch}
use Rattle.kishu_store.specs.Graph.{Graph, Target, newest, with_head}
use Rattle.kishu_store.specs.References.{resolve, is_decimal, number_from}
use Rattle.kishu_session.specs.Moves.{move_to}

-- a target that a reference names, by way of what the reference is
module _ (g : Graph) where
  -- where a move to the target leads
  pub record Reaches (target : Target) : Type 0 where
    pub goes_on : GoesOn g (move (move_to target))
    pub changed_is : changed g (move (move_to target)) ≡ with_head target g

  by-number : (n : ℕ) (b : Bool) (target : Target) → (b ≡ true → n ≤ newest g) → (if b then Some (record { commit = n; branch = None }) else None) ≡ Some target → Reaches target
  by-number n true target le is =
      let same : record { commit = n; branch = None } ≡ target = cc (is) in
      subst Reaches same (record { goes_on = le refl; changed_is = refl })
  by-number n false target le is = absurd (cc (is))

  by-name : (to : List ℕ) (o : Option ℕ) (target : Target) → commit_of to g.branches ≡ o → option_map (λ c. record { commit = c; branch = Some to }) o ≡ Some target → Reaches target
  by-name to None target at is = absurd (cc (is))
  by-name to (Some c) target at is =
      let same : record { commit = c; branch = Some to } ≡ target = cc (is) in
      subst Reaches same
      (record {
        goes_on = subst (λ (o : Option ℕ). IsTrue (is_some o)) (sym at) refl;
        changed_is = ap (λ (o : Option ℕ). on_branch to o g) at;
      })

  by-kind : (to : List ℕ) (target : Target) (b : Bool)
      → (if b then (if nat_le (number_from 0 to) (newest g) then Some (record { commit = number_from 0 to; branch = None }) else None) else option_map (λ c. record { commit = c; branch = Some to }) (commit_of to g.branches)) ≡ Some target
      → Reaches target
  by-kind to target true is = by-number (number_from 0 to) (nat_le (number_from 0 to) (newest g)) target (λ e. grind (arith, nat_tests)) is
  by-kind to target false is = by-name to (commit_of to g.branches) target refl is

  pub resolved-reaches : (to : List ℕ) (target : Target) → resolve g to ≡ Some target → Reaches target
  resolved-reaches to target is = by-kind to target (is_decimal to) is
