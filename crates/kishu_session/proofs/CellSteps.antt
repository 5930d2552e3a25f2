-- What a cell gives, by the cases in which it is refused or not.
use Rattle.std.proofs.Common.{◌≡◌, ◌<◌, ◌≤◌, ℕ, suc, Bool, true, false, if◌then◌else◌, List, [], ◌∷◌, length, Some, None, refl, sym, ◌∙◌, ap, arith}
use Rattle.std.specs.Prelude.{nat_le, nat_lt, ◌||◌}
use Rattle.std.proofs.lemmas.Bool.Decides.{nat_tests}
use Rattle.kishu_language.specs.Limits.{longest_text}
use Rattle.kishu_meaning.specs.cells.Meaning.{run}
use Rattle.kishu_meaning.specs.declared.result.CellResult.{CellResult}
use Rattle.kishu_meaning.specs.values.Values.{State, Report, report_of}
use Rattle.kishu_store.specs.Graph.{Graph, newest, count_of}
use Rattle.kishu_store.specs.Limits.{most_records, newest_profile}
use Rattle.kishu_model.specs.Answers.{ran_cell, cell_too_long, store_full}
use Rattle.kishu_model.specs.Request.{Stepped, cell, refused_with}
use Rattle.kishu_model.specs.Values.{answer_of}
use Rattle.kishu_model.specs.declared.answer.Answer.TheVariants.{Cell}
use Rattle.kishu_store.specs.Tables.{Table, Change}
use Rattle.kishu_live_laws.specs.OnStates.{head_rows, leave_too_large, told_too_large, unless_they_leave, cell_kept, step_on, answer_on, charge_on}
use Rattle.kishu_live_laws.specs.Refusals.{refusal_in}

module _ (of : ℕ → Change) (s : State) (g : Graph) (text : List ℕ) where
  abbrev rows : Table
  rows = head_rows of g

  abbrev leaves : Bool
  leaves = leave_too_large rows (text ∷ []) s

  abbrev by-tests : (long full : Bool) → Stepped
  by-tests long full = if long then refused_with cell_too_long g else if full then refused_with store_full g else unless_they_leave rows (text ∷ []) s g (cell_kept of s g text)

  abbrev charge-by : (long full : Bool) → ℕ
  charge-by long full = if long || full then 0 else (run newest_profile text s).charge

  -- ---- it isn't run

  module _ (long : longest_text < length text) where
    too-long : nat_lt longest_text (length text) ≡ true
    too-long = grind (arith, nat_tests)

    pub step-long : step_on of s g (cell text) ≡ refused_with cell_too_long g
    step-long = ap (λ (b : Bool). by-tests b (nat_le most_records g.records)) too-long

    pub charge-long : charge_on of s g (cell text) ≡ 0
    charge-long = ap (λ (b : Bool). charge-by b (nat_le most_records g.records)) too-long

  module _ (short : length text ≤ longest_text) where
    not-long : nat_lt longest_text (length text) ≡ false
    not-long = grind (arith, nat_tests)

    module _ (none : most_records ≤ g.records) where
      is-full : nat_le most_records g.records ≡ true
      is-full = grind (arith, nat_tests)

      pub step-full : step_on of s g (cell text) ≡ refused_with store_full g
      step-full = ap (λ (b : Bool). by-tests b (nat_le most_records g.records)) not-long ∙ ap (λ (b : Bool). by-tests false b) is-full

      pub charge-full : charge_on of s g (cell text) ≡ 0
      charge-full = ap (λ (b : Bool). charge-by b (nat_le most_records g.records)) not-long ∙ ap (λ (b : Bool). charge-by false b) is-full

    -- ---- it is run

    module _ (room : g.records < most_records) where
      has-room : nat_le most_records g.records ≡ false
      has-room = grind (arith, nat_tests)

      step-run : (b : Bool) → leaves ≡ b → step_on of s g (cell text) ≡ (if b then refused_with (told_too_large rows (text ∷ []) s) g else cell_kept of s g text)
      step-run b is =
          ap (λ (b : Bool). by-tests b (nat_le most_records g.records)) not-long
          ∙ ap (λ (b : Bool). by-tests false b) has-room
          ∙ ap (λ (b : Bool). if b then refused_with (told_too_large rows (text ∷ []) s) g else cell_kept of s g text) is

      pub step-large : leaves ≡ true → step_on of s g (cell text) ≡ refused_with (told_too_large rows (text ∷ []) s) g
      step-large is = step-run true is

      pub step-small : leaves ≡ false → step_on of s g (cell text) ≡ cell_kept of s g text
      step-small is = step-run false is

      pub charge-run : charge_on of s g (cell text) ≡ (run newest_profile text s).charge
      charge-run = ap (λ (b : Bool). charge-by b (nat_le most_records g.records)) not-long ∙ ap (λ (b : Bool). charge-by false b) has-room

      -- The graph refuses it for nothing.
      pub unrefused : refusal_in (answer_on of s g (cell text)) ≡ None
      unrefused = by-size leaves refl
        where
          by-size : (b : Bool) → leaves ≡ b → refusal_in (answer_on of s g (cell text)) ≡ None
          by-size true is = ap (λ (x : Stepped). refusal_in x.answer) (step-large is)
          by-size false is = ap (λ (x : Stepped). refusal_in x.answer) (step-small is)

-- ---- the answer of the program

pub cell-told : (of : ℕ → Change) (s : State) (g : Graph) (text : List ℕ) (number count : ℕ) (result : CellResult) → number ≡ suc (newest g) → count ≡ suc (count_of g g.head.commit) → report_of result ≡ (run newest_profile text s).report
    → step_on of s g (cell text) ≡ cell_kept of s g text → answer_of (Cell number count result) ≡ Some (answer_on of s g (cell text))
cell-told of s g text number count result n c r is =
    ap (λ (k : ℕ). Some (ran_cell k count (report_of result))) n
    ∙ ap (λ (k : ℕ). Some (ran_cell (suc (newest g)) k (report_of result))) c
    ∙ ap (λ (x : Report). Some (ran_cell (suc (newest g)) (suc (count_of g g.head.commit)) x)) r
    ∙ ap (λ (x : Stepped). Some x.answer) (sym is)
