-- What several cells give, by the cases in which they are refused or not.
use Rattle.std.proofs.Common.{◌≡◌, ◌<◌, ◌≤◌, ℕ, suc, Bool, true, false, if◌then◌else◌, List, [], ◌∷◌, length, map, Some, None, refl, sym, ◌∙◌, ap, arith}
use Rattle.std.specs.List.{list_any}
use Rattle.std.specs.Prelude.{nat_le}
use Rattle.std.proofs.lemmas.Bool.Decides.{nat_tests}
use Rattle.std.specs.declared.alloc.Global.{Global}
use Rattle.std.specs.declared.vec.Vec.{Vec}
use Rattle.kishu_meaning.specs.values.Values.{State}
use Rattle.kishu_store.specs.Graph.{Graph, newest, count_of}
use Rattle.kishu_store.specs.Limits.{most_records, newest_profile}
use Rattle.kishu_replay.specs.Replay.{charge_in}
use Rattle.kishu_model.specs.Answers.{ran_cells, bad_request, cell_too_long, store_full}
use Rattle.kishu_model.specs.Answers as answers
use Rattle.kishu_model.specs.Values.{answer_of, counted_of}
use Rattle.kishu_model.specs.declared.answer.Answer.TheVariants.{Cells}
use Rattle.kishu_model.specs.declared.answer.Counted.{Counted}
use Rattle.kishu_model.specs.Request.{Stepped, cells, refused_with}
use Rattle.kishu_model.specs.requests.Cells.{is_too_long, results_from}
use Rattle.kishu_store.specs.Tables.{Table, Change}
use Rattle.kishu_live_laws.specs.OnStates.{head_rows, run_of, leave_too_large, told_too_large, unless_they_leave, cells_kept, step_on, answer_on, charge_on}
use Rattle.kishu_live_laws.specs.Refusals.{refusal_in}

-- ---- none

pub step-none : (of : ℕ → Change) (s : State) (g : Graph) (texts : List (List ℕ)) → length texts ≡ 0 → step_on of s g (cells texts) ≡ refused_with bad_request g
step-none of s g [] none = refl
step-none of s g (t ∷ ts) none = absurd (omega (arith, none))

pub charge-none : (of : ℕ → Change) (s : State) (g : Graph) (texts : List (List ℕ)) → length texts ≡ 0 → charge_on of s g (cells texts) ≡ 0
charge-none of s g [] none = refl
charge-none of s g (t ∷ ts) none = absurd (omega (arith, none))

module _ (of : ℕ → Change) (s : State) (g : Graph) (texts : List (List ℕ)) where
  abbrev rows : Table
  rows = head_rows of g

  abbrev ran : List (List ℕ)
  ran = run_of rows texts s

  abbrev leaves : Bool
  leaves = leave_too_large rows ran s

  abbrev by-tests : (long full : Bool) → Stepped
  by-tests long full = if long then refused_with cell_too_long g else if full then refused_with store_full g else unless_they_leave rows ran s g (cells_kept of s g texts)

  abbrev charge-by : (long full : Bool) → ℕ
  charge-by long full = if long then 0 else if full then 0 else charge_in newest_profile (run_of (head_rows of g) texts s) s

tests-are : (of : ℕ → Change) (s : State) (g : Graph) (texts : List (List ℕ)) → 0 < length texts → step_on of s g (cells texts) ≡ by-tests of s g texts (list_any is_too_long texts) (nat_le most_records g.records)
tests-are of s g [] some = absurd (omega (arith, some))
tests-are of s g (t ∷ ts) some = refl

charges-are : (of : ℕ → Change) (s : State) (g : Graph) (texts : List (List ℕ)) → 0 < length texts → charge_on of s g (cells texts) ≡ charge-by of s g texts (list_any is_too_long texts) (nat_le most_records g.records)
charges-are of s g [] some = absurd (omega (arith, some))
charges-are of s g (t ∷ ts) some = refl

module _ (of : ℕ → Change) (s : State) (g : Graph) (texts : List (List ℕ)) (some : 0 < length texts) where
  abbrev full : Bool
  full = nat_le most_records g.records

  -- ---- they aren't run

  pub step-too-long : list_any is_too_long texts ≡ true → step_on of s g (cells texts) ≡ refused_with cell_too_long g
  step-too-long is = tests-are of s g texts some ∙ ap (λ (b : Bool). by-tests of s g texts b full) is

  pub charge-too-long : list_any is_too_long texts ≡ true → charge_on of s g (cells texts) ≡ 0
  charge-too-long is = charges-are of s g texts some ∙ ap (λ (b : Bool). charge-by of s g texts b full) is

  module _ (short : list_any is_too_long texts ≡ false) where
    module _ (none : most_records ≤ g.records) where
      is-full : nat_le most_records g.records ≡ true
      is-full = grind (arith, nat_tests)

      pub step-no-room : step_on of s g (cells texts) ≡ refused_with store_full g
      step-no-room = tests-are of s g texts some ∙ ap (λ (b : Bool). by-tests of s g texts b full) short ∙ ap (λ (b : Bool). by-tests of s g texts false b) is-full

      pub charge-no-room : charge_on of s g (cells texts) ≡ 0
      charge-no-room = charges-are of s g texts some ∙ ap (λ (b : Bool). charge-by of s g texts b full) short ∙ ap (λ (b : Bool). charge-by of s g texts false b) is-full

    -- ---- they are run

    module _ (room : g.records < most_records) where
      has-room : nat_le most_records g.records ≡ false
      has-room = grind (arith, nat_tests)

      step-run : (b : Bool) → leaves of s g texts ≡ b → step_on of s g (cells texts) ≡ (if b then refused_with (told_too_large (rows of s g texts) (ran of s g texts) s) g else cells_kept of s g texts)
      step-run b is =
          tests-are of s g texts some
          ∙ ap (λ (b : Bool). by-tests of s g texts b full) short
          ∙ ap (λ (b : Bool). by-tests of s g texts false b) has-room
          ∙ ap (λ (b : Bool). if b then refused_with (told_too_large (rows of s g texts) (ran of s g texts) s) g else cells_kept of s g texts) is

      pub step-large : leaves of s g texts ≡ true → step_on of s g (cells texts) ≡ refused_with (told_too_large (rows of s g texts) (ran of s g texts) s) g
      step-large is = step-run true is

      pub step-small : leaves of s g texts ≡ false → step_on of s g (cells texts) ≡ cells_kept of s g texts
      step-small is = step-run false is

      pub charge-run : charge_on of s g (cells texts) ≡ charge_in newest_profile (run_of (head_rows of g) texts s) s
      charge-run = charges-are of s g texts some ∙ ap (λ (b : Bool). charge-by of s g texts b full) short ∙ ap (λ (b : Bool). charge-by of s g texts false b) has-room

      -- The graph refuses them for nothing.
      pub unrefused : refusal_in (answer_on of s g (cells texts)) ≡ None
      unrefused = by-size (leaves of s g texts) refl
        where
          by-size : (b : Bool) → leaves of s g texts ≡ b → refusal_in (answer_on of s g (cells texts)) ≡ None
          by-size true is = ap (λ (x : Stepped). refusal_in x.answer) (step-large is)
          by-size false is = ap (λ (x : Stepped). refusal_in x.answer) (step-small is)

-- ---- the answer of the program

pub cells-told : (of : ℕ → Change) (s : State) (g : Graph) (texts : List (List ℕ)) (number count : ℕ) (results : Vec Counted Global) → number ≡ suc (newest g) → count ≡ count_of g g.head.commit
    → map counted_of results.items ≡ results_from (suc count) newest_profile (run_of (head_rows of g) texts s) s
    → step_on of s g (cells texts) ≡ cells_kept of s g texts → answer_of (Cells number results) ≡ Some (answer_on of s g (cells texts))
cells-told of s g texts number count results n c shown is =
    ap (λ (k : ℕ). Some (ran_cells k (map counted_of results.items))) n
    ∙ ap (λ (l : List answers.Counted). Some (ran_cells (suc (newest g)) l)) shown
    ∙ ap (λ (k : ℕ). Some (ran_cells (suc (newest g)) (results_from (suc k) newest_profile (run_of (head_rows of g) texts s) s))) c
    ∙ ap (λ (x : Stepped). Some x.answer) (sym is)
