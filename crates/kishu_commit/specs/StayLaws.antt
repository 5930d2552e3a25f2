-- What is known to be stored for the rows that stay.
use Rattle.std.specs.Prelude.{◌≡◌, ℕ, true, not, ◌&&◌, List, length, Option, Some, None}
use Rattle.std.proofs.Common.{ap, sym, ◌∙◌, subst, inl, inr}
use Rattle.kishu_meaning.specs.values.Values.{State}
use Rattle.kishu_objects.specs.Bytes.{picture_bytes}
use Rattle.kishu_objects.specs.Fits.{StateFits}
use Rattle.kishu_objects.specs.Lists.{In}
use Rattle.kishu_objects.specs.Picture.{picture}
use Rattle.kishu_objects_laws.specs.ListLaws.{filter_in}
use Rattle.kishu_store.specs.Groups.{Group, is_one_of}
use Rattle.kishu_store.specs.Tables.{Row, Table, group_in, groups_in}
use Rattle.kishu_history.specs.Live.{IsLive}
use Rattle.kishu_history.specs.Stored.{Stored}
use Rattle.kishu_history.specs.Touched.{classes}
use Rattle.kishu_history_laws.specs.states.AlikeLaws.{state_decides, not_true, both_and}
use Rattle.kishu_history_laws.specs.Choices.{one_of_decides, not_false, in_map}
use Rattle.kishu_delta.specs.declared.delta.Delta as rust
use Rattle.kishu_delta.specs.Deltas.{groups_stored}
use Rattle.kishu_delta.specs.Kept.{Digest, Digests, KeepsDigests}
use Rattle.kishu_delta.specs.Settled.{IsSettled, is_left}
use Rattle.kishu_commit.specs.Told.{is_still, StayStored}

-- Where a class has its picture still, it is the one that was stored for its row.
pub told-stay : (file : Option (List ℕ)) (t : Table) (s u : State) (accessed : List (List ℕ)) → IsLive (Stored file) t s → StayStored file t accessed u (is_still s u)
told-stay file t s u accessed live r m n e = subst (λ (p : State). Stored file r p) (sym ((state_decides (picture u r.group) (picture s r.group)).0 e)) (live.pictures r m)

-- ---- by the digests

-- the length that is kept with a digest
abbrev length_kept : Option Digest → ℕ
length_kept None = 0
length_kept (Some d) = d.1

-- What a settled draft doesn't drop has a picture of the row's length, where the digests of a state's pictures were kept which the table told.
module _ (old new : Digests) (t : Table) (s u : State) (accessed : List (List ℕ)) (d : rust.Delta) (settled : IsSettled old new t accessed u d) (kept : KeepsDigests old t s) (live : IsLive (Stored None) t s)
    (fits : (g : Group) → In g (classes (groups_in t) accessed u) → StateFits (picture u g)) where
  -- A row that isn't dropped isn't stored.
  not-stored : (r : Row) → In r t → is_left d r.group ≡ true → In r.group (groups_stored d) → ⊥
  not-stored r m e n =
      let gs = groups_in t in
      let f = filter_in (λ g. not (is_one_of g gs && is_left d g)) (classes gs accessed u) r.group (subst (λ (hs : List Group). In r.group hs) settled.changes.1 n) in
      not_true (sym (not_false (is_one_of r.group gs && is_left d r.group) f.1) ∙ both_and (is_one_of r.group gs) (is_left d r.group) ((one_of_decides r.group gs).1 (in_map group_in t r m)) e)

  same-length : (r : Row) → In r t → In r.group (classes (groups_in t) accessed u) → is_left d r.group ≡ true → length (picture_bytes u r.group) ≡ length (picture_bytes s r.group)
  same-length r m n e = elim ((settled.classes r.group).0 n) [
    | inl k ↦ ap length_kept (sym (settled.same r.group k) ∙ kept.digests r m)
    | inr k ↦ absurd (not-stored r m e k)
  ]

  pub settled-stay : StayStored None t accessed u (is_left d)
  settled-stay r m n e = record { len = same-length r m n e ∙ (live.pictures r m).len; fits = fits r.group n }
