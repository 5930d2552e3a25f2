-- What is kept of groups once a plan was carried out: just the digests of the pictures of the new table's groups.
use Rattle.std.proofs.Common.{◌≡◌, ⊎_elim, Bool, true, false, if◌then◌else◌, List, Some, None, refl, sym, ◌∙◌, ap, subst}
use Rattle.std.specs.List.{AllZip}
use Rattle.std.specs.Prelude.{not, filter}
use Rattle.kishu_meaning.specs.values.Values.{State}
use Rattle.kishu_objects.specs.Bytes.{picture_bytes, state_bytes}
use Rattle.kishu_objects.specs.Fits.{StateFits}
use Rattle.kishu_objects.specs.Lists.{In}
use Rattle.kishu_objects.specs.Picture.{picture}
use Rattle.kishu_objects_laws.specs.ListLaws.{filter_in, in_filter, map_in}
use Rattle.kishu_store.specs.Groups.{Group, is_one_of}
use Rattle.kishu_store.specs.Tables.{Row, Table, group_in, groups_in, first_in}
use Rattle.kishu_delta.specs.Kept.{Digests, KeepsJust, digest_of, kept_of}
use Rattle.kishu_history.specs.Checkout.{carried, is_row_of, to_drop, to_load}
use Rattle.kishu_history.specs.Live.{IsLive, IsPictureOf}
use Rattle.kishu_history.specs.Stored.{Stored}
use Rattle.kishu_history.specs.Tables.{AreOfOne, IsTable}
use Rattle.kishu_history_laws.specs.Choices.{in_map, not_false, not_told, one_of_decides, told}
use Rattle.kishu_history_laws.specs.checkouts.CheckoutLaws.{carried_live, of_row, row_of}
use Rattle.kishu_history_laws.specs.checkouts.GivenLaws.{kept_pictures}
use Rattle.kishu_history_laws.specs.states.AlikeLaws.{not_true}

-- ---- rows of one table that have one group

one-row : (t : Table) → IsTable t → (q r : Row) → In q t → In r t → q.group ≡ r.group → q ≡ r
one-row t is q r m n same =
    let there = is.full q m in
    is.one q r (first_in q) m n there (subst (λ (g : Group). In (first_in q) g) same there)

module _ (t u : Table) (s : State) (ps : List State) (it : IsTable t) (iu : IsTable u) (one : AreOfOne t u)
    (lives : IsLive (Stored None) t s) (each : AllZip (IsPictureOf (Stored None)) (to_load t u) ps) where
  abbrev left : State
  left = carried (to_drop t u) ps s

  pub lives-left : IsLive (Stored None) u left
  lives-left = carried_live (Stored None) t u s ps it iu one lives each

  -- ---- which groups are loaded, and which are dropped

  abbrev dropped_rows : Table
  dropped_rows = filter (λ (r : Row). not (is_row_of u r)) t

  loaded-row : (r : Row) → In r u → In r.group (groups_in (to_load t u)) → is_row_of t r ≡ false
  loaded-row r m there =
      let q = map_in group_in (to_load t u) r.group there in
      let f = filter_in (λ (x : Row). not (is_row_of t x)) u q.0 q.1 in
      ap (is_row_of t) (one-row u iu r q.0 m f.0 q.2) ∙ not_false (is_row_of t q.0) f.1

  kept-stays : (r : Row) → In r u → is_row_of t r ≡ true → In r.group (to_drop t u) → ⊥
  kept-stays r m same there =
      let q = map_in group_in dropped_rows r.group there in
      let f = filter_in (λ (x : Row). not (is_row_of u x)) t q.0 q.1 in
      let k = row_of t r same in
      let twin : k.0 ≡ r = one k.0 r k.1 m (sym k.2) (sym k.3) in
      let old : In r t = subst (λ (x : Row). In x t) twin k.1 in
      let alike : q.0 ≡ r = one-row t it q.0 r f.0 old (sym q.2) in
      not_true (sym (not_false (is_row_of u q.0) f.1) ∙ ap (is_row_of u) alike ∙ of_row u r m)

  -- ---- the digests that are kept

  module _ (old new : Digests) (just : KeepsJust old (groups_in t) s)
      (follows : (g : Group) → kept_of new g ≡ (if is_one_of g (groups_in (to_load t u)) then Some (digest_of (picture_bytes left g)) else (if is_one_of g (to_drop t u) then None else kept_of old g))) where
    was-kept : (g : Group) → In g (groups_in t) → kept_of old g ≡ Some (digest_of (picture_bytes s g))
    was-kept g m = just.digests g ∙ ap (λ (b : Bool). if b then Some (digest_of (picture_bytes s g)) else None) ((one_of_decides g (groups_in t)).1 m)

    never-kept : (g : Group) → (In g (groups_in t) → ⊥) → kept_of old g ≡ None
    never-kept g away = just.digests g ∙ ap (λ (b : Bool). if b then Some (digest_of (picture_bytes s g)) else None) (not_told (is_one_of g (groups_in t)) (one_of_decides g (groups_in t)) away)

    when-loaded : (g : Group) → In g (groups_in (to_load t u)) → kept_of new g ≡ Some (digest_of (picture_bytes left g))
    when-loaded g m =
        follows g
        ∙ ap (λ (b : Bool). if b then Some (digest_of (picture_bytes left g)) else (if is_one_of g (to_drop t u) then None else kept_of old g))
        ((one_of_decides g (groups_in (to_load t u))).1 m)

    unless-loaded : (g : Group) → (In g (groups_in (to_load t u)) → ⊥) → kept_of new g ≡ (if is_one_of g (to_drop t u) then None else kept_of old g)
    unless-loaded g away =
        follows g
        ∙ ap (λ (b : Bool). if b then Some (digest_of (picture_bytes left g)) else (if is_one_of g (to_drop t u) then None else kept_of old g))
        (not_told (is_one_of g (groups_in (to_load t u))) (one_of_decides g (groups_in (to_load t u))) away)

    when-dropped : (g : Group) → (In g (groups_in (to_load t u)) → ⊥) → In g (to_drop t u) → kept_of new g ≡ None
    when-dropped g away m = unless-loaded g away ∙ ap (λ (b : Bool). if b then None else kept_of old g) ((one_of_decides g (to_drop t u)).1 m)

    when-left : (g : Group) → (In g (groups_in (to_load t u)) → ⊥) → (In g (to_drop t u) → ⊥) → kept_of new g ≡ kept_of old g
    when-left g away still = unless-loaded g away ∙ ap (λ (b : Bool). if b then None else kept_of old g) (not_told (is_one_of g (to_drop t u)) (one_of_decides g (to_drop t u)) still)

    -- a row of the new table, whether it is one of the old one's
    row-kept : (r : Row) → In r u → (b : Bool) → is_row_of t r ≡ b → kept_of new r.group ≡ Some (digest_of (picture_bytes left r.group))
    row-kept r m true same =
        let k = row_of t r same in
        let twin : k.0 ≡ r = one k.0 r k.1 m (sym k.2) (sym k.3) in
        let old_row : In r t = subst (λ (x : Row). In x t) twin k.1 in
        when-left r.group (λ there. not_true (sym (loaded-row r m there) ∙ same)) (kept-stays r m same)
        ∙ was-kept r.group (in_map group_in t r old_row)
        ∙ ap (λ (p : State). Some (digest_of (state_bytes p))) (sym (kept_pictures (Stored None) t u s ps it iu one lives each r (in_filter (λ (x : Row). is_row_of t x) u r m same)))
    row-kept r m false new_row =
        when-loaded r.group (in_map group_in (to_load t u) r (in_filter (λ (x : Row). not (is_row_of t x)) u r m (ap not new_row)))

    in-new : (g : Group) → In g (groups_in u) → kept_of new g ≡ Some (digest_of (picture_bytes left g))
    in-new g m =
        let r = map_in group_in u g m in
        subst (λ (x : Group). kept_of new x ≡ Some (digest_of (picture_bytes left x))) (sym r.2) (row-kept r.0 r.1 (is_row_of t r.0) refl)

    -- a row of the old table whose group the new one doesn't have
    gone : (q : Row) → In q t → (In q.group (groups_in u) → ⊥) → (b : Bool) → is_row_of u q ≡ b → In q.group (to_drop t u)
    gone q m away true same = (let k = row_of u q same in absurd (away (subst (λ (x : Group). In x (groups_in u)) (sym k.2) (in_map group_in u k.0 k.1))))
    gone q m away false other = in_map group_in dropped_rows q (in_filter (λ (x : Row). not (is_row_of u x)) t q m (ap not other))

    out-new : (g : Group) → (In g (groups_in u) → ⊥) → kept_of new g ≡ None
    out-new g away =
        let unloaded : In g (groups_in (to_load t u)) → ⊥ = λ there.
        let q = map_in group_in (to_load t u) g there in
        away (subst (λ (x : Group). In x (groups_in u)) (sym q.2) (in_map group_in u q.0 (filter_in (λ (x : Row). not (is_row_of t x)) u q.0 q.1).0)) in
        ⊎_elim (when-dropped g unloaded)
        (λ (still : In g (to_drop t u) → ⊥).
        when-left g unloaded still
        ∙ never-kept g (λ there.
        let q = map_in group_in t g there in
        still (subst (λ (x : Group). In x (to_drop t u)) (sym q.2) (gone q.0 q.1 (λ m. away (subst (λ (x : Group). In x (groups_in u)) (sym q.2) m)) (is_row_of u q.0) refl))))
        (told (is_one_of g (to_drop t u)) (one_of_decides g (to_drop t u)))

    by-test : (g : Group) → kept_of new g ≡ (if is_one_of g (groups_in u) then Some (digest_of (picture_bytes left g)) else None)
    by-test g =
        ⊎_elim
        (λ (m : In g (groups_in u)). in-new g m ∙ sym (ap (λ (b : Bool). if b then Some (digest_of (picture_bytes left g)) else None) ((one_of_decides g (groups_in u)).1 m)))
        (λ (away : In g (groups_in u) → ⊥).
        out-new g away ∙ sym (ap (λ (b : Bool). if b then Some (digest_of (picture_bytes left g)) else None) (not_told (is_one_of g (groups_in u)) (one_of_decides g (groups_in u)) away)))
        (told (is_one_of g (groups_in u)) (one_of_decides g (groups_in u)))

    pub kept-just : KeepsJust new (groups_in u) left
    kept-just = record {
      digests = by-test;
      fit = λ g m. (let r = map_in group_in u g m in subst (λ (x : Group). StateFits (picture left x)) (sym r.2) (lives-left.pictures r.0 r.1).fits);
    }
