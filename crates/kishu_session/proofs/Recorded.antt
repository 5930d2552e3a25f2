-- Cells that aren't refused have a record.
use Rattle.std.proofs.Common.{◌≡◌, inl, inr, ℕ, suc, Bool, true, false, List, [], ◌∷◌, length, Option, Some, None, refl, sym, ◌∙◌, ap, subst, arith}
use Rattle.std.specs.List.{list_any}
use Rattle.std.specs.Prelude.{nat_le, nat_lt, option_map}
use Rattle.std.proofs.Math.Logic.{∥∥₁_elim}
use Rattle.kishu_language.specs.Limits.{longest_text}
use Rattle.kishu_meaning.specs.values.Values as values
use Rattle.kishu_store.specs.Graph.{Graph, newest}
use Rattle.kishu_store.specs.Histories.{History}
use Rattle.kishu_store.specs.Limits.{most_records}
use Rattle.kishu_store.specs.Entries.{Record}
use Rattle.kishu_store.specs.Tables.{Change, Table, change_of}
use Rattle.kishu_model.specs.Answers.{Answer, refused, Refusal, bad_request, cell_too_long, no_such_ref, bad_name, name_taken, store_full, state_too_large}
use Rattle.kishu_model.specs.Request.{Request, Stepped, cell, cells}
use Rattle.kishu_model.specs.requests.Cells.{is_too_long}
use Rattle.kishu_model.specs.Values.{answer_of}
use Rattle.kishu_live_laws.specs.OnStates.{cell_kept, cells_kept, head_rows, leave_too_large, run_of, step_on, told_too_large}
use Rattle.kishu_live_laws.specs.Outcomes.{by_tests}
use Rattle.kishu_live_laws.specs.Refusals.{refusal_in}
use Rattle.kishu_session.specs.Applying.{HasCells}
use Rattle.kishu_session.specs.Head.{IsHeadOf, IsKnown}
use Rattle.kishu_session.specs.Lives.{state_of}
use Rattle.kishu_session.specs.Prepared.{LeadsOn, LeadsTo, RefusesNoSize, after_by, record_in}
use Rattle.kishu_session.specs.Refusing.{IsRefusal, RefusesSize}
use Rattle.kishu_session.specs.declared.head.Head.{Head}
use Rattle.kishu_session.specs.declared.prepared.Prepared.{Prepared}
use Rattle.kishu_session.proofs.Committed.{⊥-prop}

-- Each refusal is one for a cause that the graph gives, or for a state's size.
no-refusal : (a : Option Answer) (r : Refusal) → a ≡ Some (refused r) → (IsRefusal a → ⊥) → ((bytes : ℕ) → RefusesSize a bytes → ⊥) → ⊥
no-refusal a bad_request is not sizes = not (bad_request, ap (option_map refusal_in) is)
no-refusal a cell_too_long is not sizes = not (cell_too_long, ap (option_map refusal_in) is)
no-refusal a no_such_ref is not sizes = not (no_such_ref, ap (option_map refusal_in) is)
no-refusal a bad_name is not sizes = not (bad_name, ap (option_map refusal_in) is)
no-refusal a name_taken is not sizes = not (name_taken, ap (option_map refusal_in) is)
no-refusal a store_full is not sizes = not (store_full, ap (option_map refusal_in) is)
no-refusal a (state_too_large bytes) is not sizes = sizes bytes is

-- ---- on a graph

-- A step that doesn't refuse makes a commit.
abbrev Makes : Graph → Stepped → Type 0
Makes g x = ((r : Refusal) → x.answer ≡ refused r → ⊥) → newest x.graph ≡ suc (newest g)

made-by : (g : Graph) (long full large : Bool) (r : Refusal) (kept : Stepped) → newest kept.graph ≡ suc (newest g) → Makes g (by_tests g long full large r kept)
made-by g true full large r kept made free = absurd (free cell_too_long refl)
made-by g false true large r kept made free = absurd (free store_full refl)
made-by g false false true r kept made free = absurd (free r refl)
made-by g false false false r kept made free = made

module _ (of : ℕ → Change) (s : values.State) (g : Graph) where
  abbrev rows : Table
  rows = head_rows of g

  makes-cell : (text : List ℕ) → Makes g (step_on of s g (cell text))
  makes-cell text =
      let ran = text ∷ [] in
      made-by g (nat_lt longest_text (length text)) (nat_le most_records g.records) (leave_too_large rows ran s) (told_too_large rows ran s) (cell_kept of s g text) refl

  makes-cells : (texts : List (List ℕ)) → Makes g (step_on of s g (cells texts))
  makes-cells [] free = absurd (free bad_request refl)
  makes-cells (text ∷ texts) free =
      let ts = text ∷ texts in
      let ran = run_of rows ts s in
      made-by g (list_any is_too_long ts) (nat_le most_records g.records) (leave_too_large rows ran s) (told_too_large rows ran s) (cells_kept of s g ts) refl free

  makes : (q : Request) → HasCells q → Makes g (step_on of s g q)
  makes q (inl is) = subst (λ (r : Request). Makes g (step_on of s g r)) (sym is.1) (makes-cell is.0)
  makes q (inr is) = subst (λ (r : Request). Makes g (step_on of s g r)) (sym is.1) (makes-cells is.0)

-- ---- of a session

module _ (file : Option (List ℕ)) (place : ℕ) (old new : Head) (q : Request) (p : Prepared) (leads : LeadsOn file place old new q p) (has : HasCells q)
    (not : IsRefusal (answer_of p.answer) → ⊥) (sizes : RefusesNoSize p.answer) where
  abbrev s : values.State
  s = state_of old.live

  no-record : record_in p.recorded ≡ None → (h : History) → IsHeadOf old place h → ⊥
  no-record none h k =
      let stays : after_by h s q ≡ h.graph = subst (λ (o : Option Record). LeadsTo h o (after_by h s q)) none (leads.prepares h k.kept k.place_is).leads in
      let answer = (leads.answers h k.kept k.count).answer in
      let made = makes (change_of h.changes) s h.graph q has
      (λ r is. no-refusal (answer_of p.answer) r (answer ∙ ap (λ (a : Answer). Some a) is) not sizes) in
      omega (arith, made, ap newest stays)

  pub cells-recorded : IsKnown old place → p.recorded ≡ None → ⊥
  cells-recorded known none = ∥∥₁_elim known ⊥-prop (λ k. no-record (ap record_in none) k.0 k.1)
