-- Cells that were run on a head's live state: what they left and accessed, what is told of its size by the head's table, and what their request gives.
use Rattle.std.proofs.Common.{◌≡◌, ℕ, Bool, true, false, List, [], ◌∷◌, refl, sym, ◌∙◌, ap, subst}
use Rattle.std.specs.Prelude.{min}
use Rattle.std.proofs.Math.Logic.{∥∥₁_elim}
use Rattle.std.proofs.Props.{props}
use Rattle.kishu_language.specs.declared.profile.Profile.TheVariants.{One}
use Rattle.kishu_meaning.specs.cells.Meaning.{run}
use Rattle.kishu_meaning.specs.moments.Accesses.{with_accesses}
use Rattle.kishu_meaning.specs.values.Values.{State}
use Rattle.kishu_store.specs.Histories.{History, head_table}
use Rattle.kishu_store.specs.Tables.{Table, IsKeptTable}
use Rattle.kishu_graph.specs.Tables.{table_of_rows}
use Rattle.kishu_objects.specs.States.{IsSoundState}
use Rattle.kishu_history.specs.Accessed.{accessed_by}
use Rattle.kishu_model.specs.requests.TooLarge.{most_told}
use Rattle.kishu_live_laws.specs.OnStates.{left_size, leave_too_large}
use Rattle.kishu_live_laws.specs.Refusals.{TellsSize}
use Rattle.kishu_anew.specs.Anew.{IsSmall}
use Rattle.kishu_session.specs.Committing.{HasRun}
use Rattle.kishu_session.specs.Head.{IsKnown}
use Rattle.kishu_session.specs.Known.{IsHistoryOf}
use Rattle.kishu_session.specs.Lives.{state_of}
use Rattle.kishu_session.specs.Renewing.{IsLeft}
use Rattle.kishu_session.specs.Running.{AreSameNames}
use Rattle.kishu_session.specs.declared.head.Head.{Head}
use Rattle.kishu_session.specs.declared.live.Live.{Live}
use Rattle.kishu_session.proofs.Accesses.{same-one}
use Rattle.kishu_session.proofs.Commits.{known-pictures, known-table, known-told}
use Rattle.kishu_session.proofs.LoadFacts.{kept-prop}
use Rattle.kishu_session.proofs.OneTable.{one-head-table}
use Rattle.kishu_session.proofs.Sizes.{small-size, tells-size}
use Rattle.kishu_session.proofs.Smalls.{table-small}

-- They left the new live state of the old one, and accessed the names that it has noted.
pub record RanOn (old new : Live) (cells : List (List ℕ)) : Type 0 where
  pub left : IsLeft cells (state_of old) (state_of new)
  pub accessed : AreSameNames new.names.accessed (accessed_by One cells (state_of old))

-- One cell did, where no name was noted before.
pub one-ran : (old cleared new : Live) (text told : List ℕ) → told ≡ text → state_of cleared ≡ state_of old → cleared.names.accessed ≡ [] → IsLeft (told ∷ []) (state_of cleared) (state_of new)
    → new.names.accessed ≡ with_accesses (run One told (state_of cleared)).accessed cleared.names.accessed → RanOn old new (text ∷ [])
one-ran old cleared new text told same state none left noted = record {
  left = subst (λ (s : State). IsLeft (text ∷ []) s (state_of new)) state (subst (λ (x : List ℕ). IsLeft (x ∷ []) (state_of cleared) (state_of new)) same left);
  accessed =
      same-one One text (state_of old) new.names.accessed
      (noted
      ∙ ap (λ (x : List ℕ). with_accesses (run One x (state_of cleared)).accessed cleared.names.accessed) same
      ∙ ap (λ (s : State). with_accesses (run One text s).accessed cleared.names.accessed) state
      ∙ ap (λ (names : List (List ℕ)). with_accesses (run One text (state_of old)).accessed names) none);
}

table-set : IsSet Table
table-set = hlevel props

module _ (place : ℕ) (head : Head) (known : IsKnown head place) where
  abbrev rows : Table
  rows = table_of_rows head.table

  abbrev s : State
  s = state_of head.live

  -- The table is that of each history that is kept.
  pub table-known : (h : History) → IsHistoryOf head.graph h → rows ≡ head_table h
  table-known h kept = ∥∥₁_elim known (table-set rows (head_table h)) (λ k. k.1.held.table ∙ one-head-table head.graph k.0 h k.1.kept kept)

  pub known-fit : IsKeptTable rows
  known-fit = ∥∥₁_elim known (kept-prop rows) (λ k. subst IsKeptTable (sym k.1.held.table) (k.1.kept.good.changes.tables k.0.graph.head.commit))

  -- The state is small enough to be loaded anew.
  pub known-small : IsSmall s
  known-small = table-small rows s (known-told head place known) known-fit.small

  module _ (cells : List (List ℕ)) where
    pub leaves-known : (b : Bool) → leave_too_large rows cells s ≡ b → (h : History) → IsHistoryOf head.graph h → leave_too_large (head_table h) cells s ≡ b
    leaves-known b is h kept = subst (λ (x : Table). leave_too_large x cells s ≡ b) (table-known h kept) is

    -- so many bytes are told of what they leave, where that is too large
    abbrev pub told_bytes : ℕ
    told_bytes = min (left_size rows cells s) most_told

    pub large-known : leave_too_large rows cells s ≡ true → (h : History) → IsHistoryOf head.graph h → TellsSize (head_table h) cells s told_bytes
    large-known large h kept = subst (λ (x : Table). TellsSize x cells s told_bytes) (table-known h kept) (tells-size rows cells s large told_bytes refl)

    -- They may be committed, where they leave no state that is too large.
    pub has-run : (l : Live) → RanOn head.live l cells → IsSoundState (state_of l) → leave_too_large rows cells s ≡ false → HasRun place s (record head { live = l }) cells
    has-run l ran sound small = record {
      known = known-table head place known;
      told = known-told head place known;
      pictures = known-pictures head place known;
      left = ran.left;
      sound = sound;
      accessed = ran.accessed;
      small = small-size rows cells s small;
    }
