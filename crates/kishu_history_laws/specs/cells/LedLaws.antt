-- After a cell the live state is the one that the new table tells, whatever test tells which classes of the touched names stay, also where it is the same as the one that the cell left.
use Rattle.std.specs.Prelude.{◌≡◌, ℕ, Bool, true, false, not, ◌&&◌, ◌⊎◌, ⊤, List, map, filter, Contains}
use Rattle.std.proofs.Common.{ap, sym, ◌∙◌, subst, inl, inr}
use Rattle.kishu_meaning.specs.values.Values.{State}
use Rattle.kishu_objects.specs.Groups.{groups}
use Rattle.kishu_objects.specs.Lists.{In, Rise}
use Rattle.kishu_objects.specs.Locality.{Leaves}
use Rattle.kishu_objects.specs.Picture.{picture}
use Rattle.kishu_objects.specs.Same.{Same}
use Rattle.kishu_objects.specs.States.{IsSoundState}
use Rattle.kishu_objects_laws.specs.GroupLaws.{groups_same}
use Rattle.kishu_objects_laws.specs.SameLaws.{same_fewer, same_self, same_turned}
use Rattle.kishu_history.specs.Changed.{Group, is_one_of}
use Rattle.kishu_history.specs.Cut.{IsCut}
use Rattle.kishu_history.specs.Live.{IsLive}
use Rattle.kishu_history.specs.Tables.{Row, Table, groups_in, first_name, first_in, Change, after, IsTable}
use Rattle.kishu_history.specs.Touched.{holds_any, is_touched, touched, classes}
use Rattle.kishu_history_laws.specs.cells.Led.{LeadsTo}
use Rattle.kishu_history_laws.specs.cells.LeavesLaws.{still_picture}
use Rattle.kishu_history_laws.specs.cells.TestedLaws as tested
use Rattle.kishu_history_laws.specs.states.SameLaws.{same_listed, same_pictures}
use Rattle.kishu_history_laws.specs.stores.BackLaws.{same_live}

-- What cells leave they lead to.
pub leads_here : (accessed : List (List ℕ)) (s u : State) → IsSoundState u → Leaves accessed s u → LeadsTo accessed s u
leads_here accessed s u there leaves = record { state = u; leaves = leaves; sound = there; same = same_self (λ x. ⊤) u }

-- A group of a cut that holds no accessed name has its picture still.
pub led_picture : (gs : List Group) (accessed : List (List ℕ)) (s u : State) → IsSoundState s → IsSoundState u → IsCut gs s → LeadsTo accessed s u
    → (g : Group) → In g gs → holds_any accessed g ≡ false → picture s g ≡ picture u g
led_picture gs accessed s u here there cut led g m e = still_picture gs accessed s led.state here led.sound cut led.leaves g m e ∙ same_pictures led.state u led.sound there led.same g

-- States that are the same have one list of classes of the touched names.
pub classes_of_same : (s t : State) → IsSoundState s → IsSoundState t → Same s t → (gs : List Group) (accessed : List (List ℕ)) → classes gs accessed s ≡ classes gs accessed t
classes_of_same s t here there same gs accessed =
    groups_same s t here.sound there.sound (touched gs accessed s) (same_fewer (λ x. Contains (touched gs accessed s) x) (λ x. ⊤) s t (λ x m. tt) same)
    ∙ ap (λ (l : List (List ℕ)). groups t (filter (is_touched gs accessed) l)) (same_listed s t here there same)

module _ (at : Row → State → Type 0) (t : Table) (is : IsTable t) (s u : State) (live : IsLive at t s) (there : IsSoundState u) (accessed : List (List ℕ)) (led : LeadsTo accessed s u)
    (same : Group → Bool) (standing : (r : Row) → In r t → In r.group (classes (groups_in t) accessed u) → same r.group ≡ true → at r (picture u r.group)) where
  abbrev gs : List Group
  gs = groups_in t

  abbrev x : State
  x = led.state

  alike : (g : Group) → picture u g ≡ picture x g
  alike g = sym (same_pictures x u led.sound there led.same g)

  now_alike : classes gs accessed u ≡ classes gs accessed x
  now_alike = sym (classes_of_same x u led.sound there led.same gs accessed)

  standing_x : (r : Row) → In r t → In r.group (classes gs accessed x) → same r.group ≡ true → at r (picture x r.group)
  standing_x r m n e = subst (λ p. at r p) (alike r.group) (standing r m (subst (λ l. In r.group l) (sym now_alike) n) e)

  module _ (rows : Table) (stores : groups_in rows ≡ filter (λ g. not (is_one_of g gs && same g)) (classes gs accessed u))
      (new : (r : Row) → In r rows → at r (picture u r.group)) where
    -- the groups that leave the table, by these classes
    abbrev drops : List Group → List Group
    drops now = filter (λ g. holds_any accessed g && not (is_one_of g now && same g)) gs

    abbrev pub change : Change
    change = record { dropped = drops (classes gs accessed u); stored = rows }

    stores_x : groups_in rows ≡ filter (λ g. not (is_one_of g gs && same g)) (classes gs accessed x)
    stores_x = stores ∙ ap (filter (λ g. not (is_one_of g gs && same g))) now_alike

    new_x : (r : Row) → In r rows → at r (picture x r.group)
    new_x r m = subst (λ p. at r p) (alike r.group) (new r m)

    pub table_after : IsTable (after change t)
    table_after = subst (λ now. IsTable (after (record { dropped = drops now; stored = rows }) t)) (sym now_alike)
        (tested.table_after at t is s x live led.sound accessed led.leaves same standing_x rows stores_x new_x)

    pub live_after : IsLive at (after change t) u
    live_after = same_live at (after change t) u x there
        (subst (λ now. IsLive at (after (record { dropped = drops now; stored = rows }) t) x) (sym now_alike)
        (tested.live_after at t is s x live led.sound accessed led.leaves same standing_x rows stores_x new_x))
        (same_turned _ x u led.same)

    -- Each row of the new table was just stored, or has the picture that it had, or is a class that passes the test.
    pub row_kind : (r : Row) → In r (after change t) → In r rows ⊎ ((picture u r.group ≡ picture s r.group) ⊎ (In r.group (classes gs accessed u) × (same r.group ≡ true)))
    row_kind r m = elim (tested.row_kind at t is s x live led.sound accessed led.leaves same standing_x rows stores_x new_x r
        (subst (λ now. In r (after (record { dropped = drops now; stored = rows }) t)) now_alike m)) [
          | inl a ↦ inl a
          | inr b ↦ elim b [
            | inl e ↦ inr (inl (alike r.group ∙ e))
            | inr c ↦ inr (inr (subst (λ l. In r.group l) (sym now_alike) c.0, c.1))
          ]
        ]

    -- The two lists stand in the order of their first names.
    pub stored_rise : Rise (map first_in rows)
    stored_rise = tested.stored_rise at t is s x live led.sound accessed led.leaves same standing_x rows stores_x new_x

    pub dropped_rise : Rise (map first_name (drops (classes gs accessed u)))
    dropped_rise = subst (λ now. Rise (map first_name (drops now))) (sym now_alike)
        (tested.dropped_rise at t is s x live led.sound accessed led.leaves same standing_x rows stores_x new_x)
