-- After a cell the live state is the one that the new table tells, on every store, where the classes stay that have their pictures still.
use Rattle.std.specs.Prelude.{◌≡◌, ℕ, Bool, true, ◌⊎◌, List, map}
use Rattle.std.proofs.Common.{sym, subst, inl, inr}
use Rattle.kishu_meaning.specs.values.Values.{State}
use Rattle.kishu_objects.specs.Picture.{picture}
use Rattle.kishu_objects.specs.Lists.{In, Rise}
use Rattle.kishu_history.specs.Alike.{is_state}
use Rattle.kishu_history.specs.Changed.{Group}
use Rattle.kishu_objects.specs.States.{IsSoundState}
use Rattle.kishu_history.specs.Tables.{Row, Table, groups_in, first_name, first_in, Change, after, IsTable}
use Rattle.kishu_history.specs.Touched.{classes, dropped_among, stored_among}
use Rattle.kishu_objects.specs.Locality.{Leaves}
use Rattle.kishu_history.specs.Live.{IsLive}
use Rattle.kishu_history_laws.specs.states.AlikeLaws.{state_decides}
use Rattle.kishu_history_laws.specs.cells.TestedLaws as tested

module _ (at : Row → State → Type 0) (t : Table) (is : IsTable t) (s u : State) (live : IsLive at t s) (there : IsSoundState u) (accessed : List (List ℕ)) (leaves : Leaves accessed s u) where
  abbrev gs : List Group
  gs = groups_in t

  abbrev same : Group → Bool
  same g = is_state (picture u g) (picture s g)

  standing : (r : Row) → In r t → In r.group (classes gs accessed u) → same r.group ≡ true → at r (picture u r.group)
  standing r m n e = subst (λ p. at r p) (sym ((state_decides (picture u r.group) (picture s r.group)).0 e)) (live.pictures r m)

  module _ (rows : Table) (stores : groups_in rows ≡ stored_among gs (picture s) accessed u)
      (new : (r : Row) → In r rows → at r (picture u r.group)) where
    abbrev change : Change
    change = record { dropped = dropped_among gs (picture s) accessed u; stored = rows }

    pub table_after : IsTable (after change t)
    table_after = tested.table_after at t is s u live there accessed leaves same standing rows stores new

    pub live_after : IsLive at (after change t) u
    live_after = tested.live_after at t is s u live there accessed leaves same standing rows stores new

    -- Each row of the new table was just stored, or has the picture that was kept for it.
    pub row_kept : (r : Row) → In r (after change t) → In r rows ⊎ (picture u r.group ≡ picture s r.group)
    row_kept r m = elim (tested.row_kind at t is s u live there accessed leaves same standing rows stores new r m) [
      | inl n ↦ inl n
      | inr k ↦ elim k [
        | inl e ↦ inr e
        | inr c ↦ inr ((state_decides (picture u r.group) (picture s r.group)).0 c.1)
      ]
    ]

    -- The two lists stand in the order of their first names.
    pub stored_rise : Rise (map first_in rows)
    stored_rise = tested.stored_rise at t is s u live there accessed leaves same standing rows stores new

    pub dropped_rise : Rise (map first_name (dropped_among gs (picture s) accessed u))
    dropped_rise = tested.dropped_rise at t is s u live there accessed leaves same standing rows stores new
