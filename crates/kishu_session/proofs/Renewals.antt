-- A head whose live state was loaded anew keeps what is known of it.
use Rattle.std.specs.Prelude.{◌≡◌, ℕ, if◌then◌else◌, List, Option, Some, None}
use Rattle.std.proofs.Common.{ap, sym, ◌∙◌, subst}
use Rattle.std.proofs.Math.Logic.{∥∥₁_elim}
use Rattle.kishu_host.specs.Host as host
use Rattle.kishu_meaning.specs.values.Values as values
use Rattle.kishu_objects.specs.Bytes.{state_bytes}
use Rattle.kishu_objects.specs.Fits.{StateFits}
use Rattle.kishu_objects.specs.States.{IsSoundState}
use Rattle.kishu_objects_laws.specs.SameLaws.{same_turned}
use Rattle.kishu_store.specs.Groups.{Group, is_one_of}
use Rattle.kishu_store.specs.Histories.{History, head_table}
use Rattle.kishu_store.specs.Tables.{Row, Table, groups_in, IsKeptTable}
use Rattle.kishu_graph.specs.Kept.{Kept}
use Rattle.kishu_graph.specs.Tables.{table_of_rows}
use Rattle.kishu_graph.specs.declared.tables.Table as rust_table
use Rattle.kishu_delta.specs.Kept.{Digests, KeepsJust, digest_of}
use Rattle.kishu_history.specs.Checkout.{to_load}
use Rattle.kishu_history.specs.Live.{IsLive}
use Rattle.kishu_history.specs.Stored.{Stored}
use Rattle.kishu_history_laws.specs.states.SameLaws.{same_pictures}
use Rattle.kishu_history_laws.specs.stores.BackLaws.{same_live}
use Rattle.kishu_anew.specs.Anew.{IsSmall}
use Rattle.kishu_session.specs.Head.{CarriesFrom, Carries, KeepsSome, Lacks, LacksToLoad}
use Rattle.kishu_session.specs.Known.{HasHistory, IsHistoryOf}
use Rattle.kishu_session.specs.Lives.{state_of}
use Rattle.kishu_session.specs.Renewing.{IsRenewed, Starts}
use Rattle.kishu_session.specs.declared.head.Head.{Head}
use Rattle.kishu_session.proofs.LoadFacts.{kept-prop}
use Rattle.kishu_session.proofs.Smalls.{table-small}

-- ---- states that are the same

-- The state from which one goes on is told by the table that told the one before.
pub starts-live : (at : Row → values.State → Type 0) (t : Table) (s u : values.State) → Starts s u → IsLive at t s → IsLive at t u
starts-live at t s u starts live = same_live at t u s starts.sound live (same_turned _ s u starts.same)

-- Just the digests of its pictures are kept.
pub starts-kept : (kept : Digests) (gs : List Group) (s u : values.State) → IsSoundState s → Starts s u → KeepsJust kept gs s → KeepsJust kept gs u
starts-kept kept gs s u sound starts just = record {
  digests = λ g. just.digests g
      ∙ ap (λ (p : values.State). if is_one_of g gs then Some (digest_of (state_bytes p)) else None) (same_pictures s u sound starts.sound starts.same g);
  fit = λ g m. subst StateFits (same_pictures s u sound starts.sound starts.same g) (just.fit g m);
}

-- ---- a head

module _ (old new : Head) (is : IsRenewed old new) where
  pub keeps-renewed : KeepsSome old → KeepsSome new
  keeps-renewed keeps =
      let table : table_of_rows old.table ≡ table_of_rows new.table = ap table_of_rows (sym is.table) in
      record {
        commit = keeps.commit;
        table = λ h k. sym table ∙ keeps.table h (subst (λ (g : Kept). IsHistoryOf g h) is.graph k);
        lives = subst (λ (t : Table). IsLive (Stored None) t (state_of new.live)) table (starts-live (Stored None) (table_of_rows old.table) (state_of old.live) (state_of new.live) is.state keeps.lives);
        pictures = subst (λ (t : Table). KeepsJust new.kept (groups_in t) (state_of new.live)) table
            (subst (λ (k : Digests). KeepsJust k (groups_in (table_of_rows old.table)) (state_of new.live)) (sym is.kept)
            (starts-kept old.kept (groups_in (table_of_rows old.table)) (state_of old.live) (state_of new.live) keeps.lives.state is.state keeps.pictures));
      }

  pub lacks-renewed : (s : host.State) (at : ℕ) → LacksToLoad new s at → LacksToLoad old s at
  lacks-renewed s at lacks h k =
      subst (λ (t : Table). Lacks s (to_load t (head_table h)) at) (ap table_of_rows is.table) (lacks h (subst (λ (g : Kept). IsHistoryOf g h) (sym is.graph) k))

  -- What is carried on from it is carried on from the state that was loaded anew.
  pub loads-renewed : (file : Option (List ℕ)) (next : Head) → Carries file new next → CarriesFrom file (state_of new.live) old next
  loads-renewed file next carries = subst (λ (t : rust_table.Table). CarriesFrom file (state_of new.live) (record old { table = t }) next) is.table
      (record { to = carries.to; state = carries.state; pictures = carries.pictures })

-- ---- it is small enough to be loaded anew

module _ (head : Head) (known : HasHistory head.graph) (keeps : KeepsSome head) where
  fit : IsKeptTable (table_of_rows head.table)
  fit = ∥∥₁_elim known (kept-prop (table_of_rows head.table)) (λ k. subst IsKeptTable (sym (keeps.table k.0 k.1)) (k.1.good.changes.tables keeps.commit))

  pub head-small : IsSmall (state_of head.live)
  head-small = table-small (table_of_rows head.table) (state_of head.live) keeps.lives fit.small
