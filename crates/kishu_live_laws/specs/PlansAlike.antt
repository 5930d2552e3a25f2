-- On a good store what a checkout would drop, keep and load by two tables is what it would by the replays.
use Rattle.std.specs.Prelude.{◌≡◌, ◌≤◌, ℕ, List, Option, Some, None, refl}
use Rattle.std.proofs.Common.{ap, ◌∙◌}
use Rattle.kishu_store.specs.Graph.{Graph, Target, newest}
use Rattle.kishu_store.specs.Groups.{Group}
use Rattle.kishu_store.specs.Holds.{Holds}
use Rattle.kishu_store.specs.References.{resolve}
use Rattle.kishu_store.specs.Tables.{Change, groups_in, table_at}
use Rattle.kishu_history.specs.Checkout.{to_keep, to_load}
use Rattle.kishu_history.specs.Good.{IsGoodStore}
use Rattle.kishu_history.specs.Paths.{stops, AreRows}
use Rattle.kishu_history.specs.Versions.{left, kept}
use Rattle.kishu_history_laws.specs.checkouts.PlanLaws.{keeps_kept, loads_loaded, drops_left}
use Rattle.kishu_history_laws.specs.stores.ReplayLaws.{good_table}
use Rattle.kishu_session_laws.specs.CellLaws.{replays_are_states}
use Rattle.kishu_model.specs.Answers.{Answer, told_plan}
use Rattle.kishu_model.specs.requests.Plan.{planned, plan_of}
use Rattle.kishu_live_laws.specs.OnStates.{head_rows, planned_by, plan_to}
use Rattle.kishu_live_laws.specs.StoredAlike.{is_there}

module _ (file : List ℕ) (g : Graph) (of : ℕ → Change) (rows : AreRows of) (good : IsGoodStore file g.commits of) (head : g.head.commit ≤ newest g) where
  target_alike : (o : Option Target) → ((t : Target) → o ≡ Some t → t.commit ≤ newest g) → plan_to of o g ≡ plan_of o g
  target_alike None there = refl
  target_alike (Some t) there =
      let c = t.commit in
      let h = stops g g.head.commit in
      let to = stops g c in
      let now = head_rows of g in
      let next = table_at g of c in
      let here = good_table file g.commits of rows good (replays_are_states g) g.head.commit head in
      let other = good_table file g.commits of rows good (replays_are_states g) c (there t refl) in
      let answer : planned_by c now next ≡ planned c h to =
      ap (λ (gs : List Group). told_plan c gs (groups_in (to_keep now next)) (groups_in (to_load now next))) (drops_left h to now next here other)
      ∙ ap (λ (gs : List Group). told_plan c (left h to) gs (groups_in (to_load now next))) (keeps_kept h to now next here other)
      ∙ ap (λ (gs : List Group). told_plan c (left h to) (kept h to) gs) (loads_loaded h to now next here other) in
      ap (λ (a : Answer). record { graph = g; answer = a }) answer

  pub plan_alike : Holds file g → (to : List ℕ) → plan_to of (resolve g to) g ≡ plan_of (resolve g to) g
  plan_alike holds to = target_alike (resolve g to) (is_there file g holds to)
