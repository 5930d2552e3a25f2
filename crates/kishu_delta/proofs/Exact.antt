-- What is settled by a draft is what changes by a test, and so splits the classes of the touched names.
use Rattle.std.proofs.Common.{◌≡◌, ◌∙◌, ◌⊎◌, ℕ, Bool, true, false, ◌&&◌, List, [], ◌∷◌, map, refl, sym, ap, subst, inl, inr}
use Rattle.std.specs.Prelude.{not, filter}
use Rattle.std.proofs.lemmas.Bool.{cases_Bool}
use Rattle.kishu_meaning.specs.values.Values.{State}
use Rattle.kishu_objects.specs.Bytes.{picture_bytes}
use Rattle.kishu_objects.specs.Lists.{In, Rise}
use Rattle.kishu_objects.specs.Picture.{listed}
use Rattle.kishu_objects_laws.specs.GroupLaws.{one_group}
use Rattle.kishu_objects_laws.specs.ListLaws.{filter_in, in_filter, map_in}
use Rattle.kishu_store.specs.Groups.{Group, first_name, is_one_of}
use Rattle.kishu_store.specs.Tables.{Table, group_in, groups_in}
use Rattle.kishu_history.specs.Tables.{IsTable}
use Rattle.kishu_history.specs.Touched.{holds_any, is_touched, touched, classes}
use Rattle.kishu_history_laws.specs.Choices.{filter_same, in_map, not_false, not_told, one_of_decides, one_truth, rise_chosen, rise_one}
use Rattle.kishu_history_laws.specs.states.AlikeLaws.{and_both, both_and, not_true}
use Rattle.kishu_history_laws.specs.tables.SplitLaws.{classes_split, not_twice}
use Rattle.kishu_history_laws.specs.tables.TableLaws.{first_inside, firsts_of_rows, groups_rise, rise_picked}
use Rattle.kishu_delta.specs.declared.delta.Delta as rust
use Rattle.kishu_delta.specs.declared.asking.Draft as rust_draft
use Rattle.kishu_delta.specs.Kept.{Digests}
use Rattle.kishu_delta.specs.Compared.{Pictures, groups_with, with_pictures, Forgets, HoldsHalves}
use Rattle.kishu_delta.specs.Deltas.{agrees, dropped_by, drafted_asked, drafted_dropped, drafted_stored, groups_dropped, groups_stored, joining, stays_by, stored_by, Follows, IsDraft}
use Rattle.kishu_delta.specs.Settled.{is_left, IsSettled, IsSettledAnyhow, Stays}
use Rattle.kishu_delta.proofs.Merges.{rise_merged}
use Rattle.kishu_delta.proofs.Settles.{all_told, bytes_told, differs_in, follows_is, groups_pictured, groups_told, in_with, joins_is, kept_digest, pictured_in, rise_differing, Merges}

-- ---- three tests

less : (c a b : Bool) → (c && a) ≡ false → (c && (a && b)) ≡ false
less true true b e = absurd (not_true (sym e))
less true false b e = refl
less false a b e = refl

joined : (c a j : Bool) → j ≡ true → (c && (a && not j)) ≡ false
joined true true true e = refl
joined true false true e = refl
joined false a true e = refl
joined c a false e = absurd (not_true e)

must : (c a j : Bool) → (c && (a && not j)) ≡ false → (c && a) ≡ true → j ≡ true
must true true true e f = refl
must true true false e f = absurd (not_true (sym e))
must true false j e f = absurd (not_true f)
must false a j e f = absurd (not_true f)

-- what goes by a test goes by whether it goes
by_itself : (h c a p : Bool) → p ≡ (h && not (c && a)) → (h && not (c && a)) ≡ (h && not (c && not p))
by_itself true true true p e = ap (λ b. not (not b)) (sym e)
by_itself true true false p e = ap (λ b. not (not b)) (sym e)
by_itself true false a p e = refl
by_itself false c a p e = refl

comes_itself : (t a p : Bool) → (t ≡ true → p ≡ not a) → not (t && a) ≡ not (t && not p)
comes_itself true true p e = ap (λ b. not (not b)) (sym (e refl))
comes_itself true false p e = ap (λ b. not (not b)) (sym (e refl))
comes_itself false a p e = refl

firsts_fused : (ps : Pictures) → map first_name (groups_with ps) ≡ map (λ (p : Group × List ℕ). first_name p.0) ps
firsts_fused [] = refl
firsts_fused (p ∷ ps) = ap (λ (l : List (List ℕ)). first_name p.0 ∷ l) (firsts_fused ps)

module _ (old : Digests) (t : Table) (accessed : List (List ℕ)) (s : State) (draft : rust_draft.Draft) (is : IsDraft old t accessed s draft)
    (handed : List (List ℕ)) (d : rust.Delta) (merges : Merges draft handed d)
  where
    abbrev gs : List Group
    gs = groups_in t

    abbrev cl : List Group
    cl = classes gs accessed s

    abbrev ag : Group → Bool
    ag = agrees old s

    abbrev asked : List Group
    asked = stays_by gs accessed s ag

    abbrev joins : List Group
    joins = groups_with (joining draft handed)

    -- a class that agrees, and doesn't join both lists, has its picture
    abbrev pub same : Group → Bool
    same g = ag g && not (is_one_of g joins)

    -- ---- the classes

    pub cl_rise : Rise (map first_name cl)
    cl_rise = groups_rise s is.sound.sound (touched gs accessed s) (rise_chosen (is_touched gs accessed) (listed s) is.sound.rise)

    asked_parts : (g : Group) → In g asked → In g cl × (is_one_of g gs ≡ true) × (ag g ≡ true)
    asked_parts g m =
        let f = filter_in (λ h. is_one_of h gs && ag h) cl g m in
        let b = and_both (is_one_of g gs) (ag g) f.1 in
        (f.0, b.0, b.1)

    joins_asked : (g : Group) → In g joins → In g asked
    joins_asked g m =
        let p = in_with (joining draft handed) g m in
        let q = differs_in p.0 (drafted_asked draft) handed p.1 in
        subst (λ h. In h asked) (sym p.2) (pictured_in s asked p.0 (subst (λ (l : Pictures). In p.0 l) is.asked q)).0

    joins_rise : Rise (map first_name joins)
    joins_rise =
        rise_differing (drafted_asked draft) handed
        (subst (λ (ps : Pictures). Rise (map first_name (groups_with ps))) (sym is.asked)
        (subst (λ (hs : List Group). Rise (map first_name hs)) (sym (groups_pictured s asked)) (rise_picked first_name (λ g. is_one_of g gs && ag g) cl cl_rise)))

    -- ---- what the draft drops

    abbrev goes : (Group → Bool) → Group → Bool
    goes test g = holds_any accessed g && not (is_one_of g cl && test g)

    drafted_parts : (g : Group) → In g (drafted_dropped draft) → In g gs × (holds_any accessed g ≡ true) × ((is_one_of g cl && ag g) ≡ false)
    drafted_parts g m =
        let f = filter_in (goes ag) gs g (subst (λ (l : List Group). In g l) is.dropped m) in
        let b = and_both (holds_any accessed g) (not (is_one_of g cl && ag g)) f.1 in
        (f.0, b.0, not_false (is_one_of g cl && ag g) b.1)

    -- ---- what is stored

    abbrev comes : (Group → Bool) → Group → Bool
    comes test g = not (is_one_of g gs && test g)

    abbrev first_stored : List Group
    first_stored = stored_by gs accessed s ag

    stored_in : (g : Group) → In g (groups_stored d) → In g first_stored ⊎ In g joins
    stored_in g m =
        let p = in_with (with_pictures d.stored.items) g (subst (λ (l : List Group). In g l) (sym (groups_told d.stored.items)) m) in
        elim (((joins_is draft handed d merges).stored p.0).0 p.1) [
          | inl n ↦ inl (subst (λ h. In h first_stored) (sym p.2) (pictured_in s first_stored p.0 (subst (λ (l : Pictures). In p.0 l) is.stored n)).0)
          | inr n ↦ inr (subst (λ h. In h joins) (sym p.2) (in_map (λ (q : Group × List ℕ). q.0) (joining draft handed) p.0 n))
        ]

    with_in : (p : Group × List ℕ) → In p (with_pictures d.stored.items) → In p.0 (groups_stored d)
    with_in p m = subst (λ (l : List Group). In p.0 l) (groups_told d.stored.items) (in_map (λ (q : Group × List ℕ). q.0) (with_pictures d.stored.items) p m)

    in_stored : (g : Group) → In g first_stored ⊎ In g joins → In g (groups_stored d)
    in_stored g (inl m) =
        with_in (g, picture_bytes s g) (((joins_is draft handed d merges).stored (g, picture_bytes s g)).1
        (inl (subst (λ (l : Pictures). In (g, picture_bytes s g) l) (sym is.stored) (in_map (λ h. (h, picture_bytes s h)) first_stored g m))))
    in_stored g (inr m) =
        let p = in_with (joining draft handed) g m in
        subst (λ h. In h (groups_stored d)) (sym p.2) (with_in p.0 (((joins_is draft handed d merges).stored p.0).1 (inr p.1)))

    first_parts : (g : Group) → In g first_stored → In g cl × ((is_one_of g gs && ag g) ≡ false)
    first_parts g m = (let f = filter_in (comes ag) cl g m in (f.0, not_false (is_one_of g gs && ag g) f.1))

    stored_apart : (x y : Group × List ℕ) → In x (drafted_stored draft) → In y (joining draft handed) → first_name x.0 ≡ first_name y.0 → ⊥
    stored_apart x y m n e =
        let a = first_parts x.0 (pictured_in s first_stored x (subst (λ (l : Pictures). In x l) is.stored m)).0 in
        let b = asked_parts y.0 (joins_asked y.0 (in_map (λ (q : Group × List ℕ). q.0) (joining draft handed) y n)) in
        let names = touched gs accessed s in
        let one : x.0 ≡ y.0 =
        one_group s is.sound.sound names x.0 y.0 (first_name x.0) a.0 b.0 (first_inside s is.sound.sound names x.0 a.0)
        (subst (λ z. In z y.0) (sym e) (first_inside s is.sound.sound names y.0 b.0)) in
        not_true (sym a.1 ∙ ap (λ h. is_one_of h gs && ag h) one ∙ both_and (is_one_of y.0 gs) (ag y.0) b.1 b.2)

    stored_rises : Rise (map first_name (groups_stored d))
    stored_rises =
        subst (λ (l : List Group). Rise (map first_name l)) (groups_told d.stored.items)
        (subst (λ xs. Rise xs) (sym (firsts_fused (with_pictures d.stored.items)))
        (subst (λ (ps : Pictures). Rise (map (λ (p : Group × List ℕ). first_name p.0) ps)) (sym merges.stored)
        (rise_merged (λ (p : Group × List ℕ). p.0) (drafted_stored draft) (joining draft handed)
        (subst (λ xs. Rise xs) (firsts_fused (drafted_stored draft))
        (subst (λ (ps : Pictures). Rise (map first_name (groups_with ps))) (sym is.stored)
        (subst (λ (hs : List Group). Rise (map first_name hs)) (sym (groups_pictured s first_stored)) (rise_picked first_name (comes ag) cl cl_rise))))
        (subst (λ xs. Rise xs) (firsts_fused (joining draft handed)) joins_rise) stored_apart)))

    pub stored_is : groups_stored d ≡ stored_by gs accessed s same
    stored_is = rise_one first_name (groups_stored d) (stored_by gs accessed s same) stored_rises (rise_picked first_name (comes same) cl cl_rise)
        (λ g m. elim (stored_in g m) [
          | inl n ↦ (let k = first_parts g n in in_filter (comes same) cl g k.0 (ap not (less (is_one_of g gs) (ag g) (not (is_one_of g joins)) k.1)))
          | inr n ↦ (
              let k = asked_parts g (joins_asked g n) in
              in_filter (comes same) cl g k.0 (ap not (joined (is_one_of g gs) (ag g) (is_one_of g joins) ((one_of_decides g joins).1 n)))
              )
        ])
        (λ g m.
        let f = filter_in (comes same) cl g m in
        elim (cases_Bool (is_one_of g gs && ag g)) [
          | inl e ↦ in_stored g (inr ((one_of_decides g joins).0 (must (is_one_of g gs) (ag g) (is_one_of g joins) (not_false (is_one_of g gs && same g) f.1) e)))
          | inr e ↦ in_stored g (inl (in_filter (comes ag) cl g f.0 (ap not e)))
        ])

    each_now : (p : Group × List ℕ) → In p (with_pictures d.stored.items) → p.1 ≡ picture_bytes s p.0
    each_now p m = elim (((joins_is draft handed d merges).stored p).0 m) [
      | inl n ↦ (pictured_in s first_stored p (subst (λ (l : Pictures). In p l) is.stored n)).1
      | inr n ↦ (pictured_in s asked p (subst (λ (l : Pictures). In p l) is.asked (differs_in p (drafted_asked draft) handed n))).1
    ]

    pub stored_class : (g : Group) → In g (groups_stored d) → In g cl
    stored_class g m = (filter_in (comes same) cl g (subst (λ (l : List Group). In g l) stored_is m)).0

    -- ---- a row that holds an accessed name

    -- It is a class with its picture where it isn't dropped,
    pub left_parts : (g : Group) → In g gs → holds_any accessed g ≡ true → (In g (groups_dropped d) → ⊥) → In g cl × (same g ≡ true)
    left_parts g m e stays = elim (cases_Bool (is_one_of g cl && ag g)) [
      | inr o ↦ absurd (stays (((joins_is draft handed d merges).dropped g).1 (inl (subst (λ (l : List Group). In g l) (sym is.dropped)
          (in_filter (goes ag) gs g m (both_and (holds_any accessed g) (not (is_one_of g cl && ag g)) e (ap not o)))))))
      | inl o ↦ (
          let b = and_both (is_one_of g cl) (ag g) o in
          let out : is_one_of g joins ≡ false = not_told (is_one_of g joins) (one_of_decides g joins) (λ n. stays (((joins_is draft handed d merges).dropped g).1 (inr n))) in
          ((one_of_decides g cl).0 b.0, both_and (ag g) (not (is_one_of g joins)) b.1 (ap not out))
          )
    ]

    pub stays_class : (g : Group) → Stays t accessed d g → In g cl
    stays_class g k = (left_parts g k.row k.holds k.stays).0

    pub stays_same : (g : Group) → Stays t accessed d g → ag g ≡ true
    stays_same g k = (and_both (ag g) (not (is_one_of g joins)) (left_parts g k.row k.holds k.stays).1).0

    -- and none where it is dropped.
    pub gone_parts : (g : Group) → In g (groups_dropped d) → (is_one_of g cl && same g) ≡ false
    gone_parts g m = elim (((joins_is draft handed d merges).dropped g).0 m) [
      | inl n ↦ less (is_one_of g cl) (ag g) (not (is_one_of g joins)) (drafted_parts g n).2
      | inr n ↦ joined (is_one_of g cl) (ag g) (is_one_of g joins) ((one_of_decides g joins).1 n)
    ]

    gone_row : (g : Group) → In g (groups_dropped d) → In g gs
    gone_row g m = elim (((joins_is draft handed d merges).dropped g).0 m) [
      | inl n ↦ (drafted_parts g n).0
      | inr n ↦ (one_of_decides g gs).0 (asked_parts g (joins_asked g n)).1
    ]

    module _ (mid new : Digests) (forgets : Forgets (groups_dropped d) old mid) (holds : HoldsHalves (with_pictures d.stored.items) mid new) where
      pub follows : Follows old new (groups_dropped d) (groups_stored d) s
      follows = follows_is s (groups_dropped d) (groups_stored d) (with_pictures d.stored.items) old mid new forgets holds (all_told s d.stored.items each_now)

      pub settled_anyhow : IsSettledAnyhow old new t accessed s d
      settled_anyhow = record {
        rows = gone_row;
        stored_rise = stored_rises;
        stays = stays_class;
        stored = stored_class;
        classes = λ g n. elim (cases_Bool (is_one_of g gs && same g)) [
          | inl e ↦ (
              let b = and_both (is_one_of g gs) (same g) e in
              inl ((one_of_decides g gs).0 b.0, λ m. not_true (sym (gone_parts g m) ∙ both_and (is_one_of g cl) (same g) ((one_of_decides g cl).1 n) b.1))
              )
          | inr e ↦ inr (subst (λ (l : List Group). In g l) (sym stored_is) (in_filter (comes same) cl g n (ap not e)))
        ];
        apart = λ g k m.
            let f = filter_in (comes same) cl g (subst (λ (l : List Group). In g l) stored_is m) in
            not_true (sym (not_false (is_one_of g gs && same g) f.1) ∙ both_and (is_one_of g gs) (same g) ((one_of_decides g gs).1 k.row) (left_parts g k.row k.holds k.stays).1);
        same = λ g k. kept_digest old s g (stays_same g k);
        pictures = bytes_told s d.stored.items each_now;
        kept = follows;
      }

    -- ---- over a table that records give

    module _ (table : IsTable t) where
      pub rise_gs : Rise (map first_name gs)
      rise_gs = subst (λ xs. Rise xs) (sym (firsts_of_rows t)) table.rise

      pub one_gs : (g h : Group) (x : List ℕ) → In g gs → In h gs → In x g → In x h → g ≡ h
      one_gs g h x m n a b =
          let r = map_in group_in t g m in
          let q = map_in group_in t h n in
          r.2 ∙ ap group_in (table.one r.0 q.0 x r.1 q.1 (subst (λ k. In x k) r.2 a) (subst (λ k. In x k) q.2 b)) ∙ sym q.2

      full_gs : (g : Group) → In g gs → In (first_name g) g
      full_gs g m = (let r = map_in group_in t g m in subst (λ k. In (first_name k) k) (sym r.2) (table.full r.0 r.1))

      pub class_holds : (g : Group) → In g gs → In g cl → holds_any accessed g ≡ true
      class_holds g m n = elim (classes_split gs rise_gs one_gs accessed s is.sound (λ h. true) g n) [
        | inl k ↦ (and_both (holds_any accessed g) (is_one_of g cl && true) (filter_in (λ h. holds_any accessed h && (is_one_of h cl && true)) gs g k).1).0
        | inr k ↦ (
            let f = not_false (is_one_of g gs && true) (filter_in (λ h. not (is_one_of h gs && true)) cl g k).1 in
            absurd (not_true (sym f ∙ both_and (is_one_of g gs) true ((one_of_decides g gs).1 m) refl))
            )
      ]

      -- ---- what is dropped

      dropped_apart : (x y : Group) → In x (drafted_dropped draft) → In y joins → first_name x ≡ first_name y → ⊥
      dropped_apart x y m n e =
          let a = drafted_parts x m in
          let b = asked_parts y (joins_asked y n) in
          let my = (one_of_decides y gs).0 b.1 in
          let one : x ≡ y = one_gs x y (first_name x) a.0 my (full_gs x a.0) (subst (λ z. In z y) (sym e) (full_gs y my)) in
          not_true (sym a.2 ∙ ap (λ h. is_one_of h cl && ag h) one ∙ both_and (is_one_of y cl) (ag y) ((one_of_decides y cl).1 b.0) b.2)

      dropped_rises : Rise (map first_name (groups_dropped d))
      dropped_rises =
          subst (λ (l : List Group). Rise (map first_name l)) (sym merges.dropped)
          (rise_merged (λ (g : Group). g) (drafted_dropped draft) joins
          (subst (λ (l : List Group). Rise (map first_name l)) (sym is.dropped) (rise_picked first_name (goes ag) gs rise_gs)) joins_rise dropped_apart)

      pub dropped_is : groups_dropped d ≡ dropped_by gs accessed s same
      dropped_is = rise_one first_name (groups_dropped d) (dropped_by gs accessed s same) dropped_rises (rise_picked first_name (goes same) gs rise_gs)
          (λ g m. elim (((joins_is draft handed d merges).dropped g).0 m) [
            | inl n ↦ (
                let k = drafted_parts g n in
                in_filter (goes same) gs g k.0 (both_and (holds_any accessed g) (not (is_one_of g cl && same g)) k.1 (ap not (less (is_one_of g cl) (ag g) (not (is_one_of g joins)) k.2)))
                )
            | inr n ↦ (
                let k = asked_parts g (joins_asked g n) in
                let h = (one_of_decides g gs).0 k.1 in
                in_filter (goes same) gs g h (both_and (holds_any accessed g) (not (is_one_of g cl && same g)) (class_holds g h k.0) (ap not (joined (is_one_of g cl) (ag g) (is_one_of g joins) ((one_of_decides g joins).1 n))))
                )
          ])
          (λ g m.
          let f = filter_in (goes same) gs g m in
          let b = and_both (holds_any accessed g) (not (is_one_of g cl && same g)) f.1 in
          elim (cases_Bool (is_one_of g cl && ag g)) [
            | inl e ↦ (
                let j = must (is_one_of g cl) (ag g) (is_one_of g joins) (not_false (is_one_of g cl && same g) b.1) e in
                ((joins_is draft handed d merges).dropped g).1 (inr ((one_of_decides g joins).0 j))
                )
            | inr e ↦ ((joins_is draft handed d merges).dropped g).1 (inl (subst (λ (l : List Group). In g l) (sym is.dropped)
                (in_filter (goes ag) gs g f.0 (both_and (holds_any accessed g) (not (is_one_of g cl && ag g)) b.0 (ap not e)))))
          ])

      -- ---- told by what isn't dropped

      is_dropped : (g : Group) → In g gs → is_one_of g (groups_dropped d) ≡ goes same g
      is_dropped g m = one_truth (is_one_of g (groups_dropped d)) (goes same g)
          (λ e. (filter_in (goes same) gs g (subst (λ (l : List Group). In g l) dropped_is ((one_of_decides g (groups_dropped d)).0 e))).1)
          (λ e. (one_of_decides g (groups_dropped d)).1 (subst (λ (l : List Group). In g l) (sym dropped_is) (in_filter (goes same) gs g m e)))

      is_gone : (g : Group) → In g cl → is_one_of g gs ≡ true → is_one_of g (groups_dropped d) ≡ not (same g)
      is_gone g n e =
          let m = (one_of_decides g gs).0 e in
          is_dropped g m ∙ ap (λ b. b && not (is_one_of g cl && same g)) (class_holds g m n) ∙ ap (λ b. not (b && same g)) ((one_of_decides g cl).1 n)

      dropped_itself : groups_dropped d ≡ dropped_by gs accessed s (is_left d)
      dropped_itself =
          dropped_is ∙ filter_same (goes same) (goes (is_left d)) gs (λ g m. by_itself (holds_any accessed g) (is_one_of g cl) (same g) (is_one_of g (groups_dropped d)) (is_dropped g m))

      stored_itself : groups_stored d ≡ stored_by gs accessed s (is_left d)
      stored_itself = stored_is ∙ filter_same (comes same) (comes (is_left d)) cl (λ g n. comes_itself (is_one_of g gs) (same g) (is_one_of g (groups_dropped d)) (is_gone g n))

      -- ---- what stays

      abbrev stands : Group → Bool
      stands g = holds_any accessed g && (is_one_of g cl && same g)

      pub stays_in : (g : Group) → Stays t accessed d g → In g (filter stands gs)
      stays_in g k = elim (cases_Bool (is_one_of g cl && same g)) [
        | inl e ↦ in_filter stands gs g k.row (both_and (holds_any accessed g) (is_one_of g cl && same g) k.holds e)
        | inr e ↦ absurd (k.stays (subst (λ (l : List Group). In g l) (sym dropped_is)
            (in_filter (goes same) gs g k.row (both_and (holds_any accessed g) (not (is_one_of g cl && same g)) k.holds (ap not e)))))
      ]

      in_stays : (g : Group) → In g (filter stands gs) → Stays t accessed d g
      in_stays g m =
          let f = filter_in stands gs g m in
          let b = and_both (holds_any accessed g) (is_one_of g cl && same g) f.1 in
          record {
            row = f.0;
            holds = b.0;
            stays = λ n.
                let h = filter_in (goes same) gs g (subst (λ (l : List Group). In g l) dropped_is n) in
                not_true (sym (not_false (is_one_of g cl && same g) (and_both (holds_any accessed g) (not (is_one_of g cl && same g)) h.1).1) ∙ b.1);
          }

      module _ (mid new : Digests) (forgets : Forgets (groups_dropped d) old mid) (holds : HoldsHalves (with_pictures d.stored.items) mid new) where
        pub settled : IsSettled old new t accessed s d
        settled = record {
          dropped = λ g m. (
              let f = filter_in (goes same) gs g (subst (λ (l : List Group). In g l) dropped_is m) in
              (f.0, (and_both (holds_any accessed g) (not (is_one_of g cl && same g)) f.1).0)
              );
          dropped_rise = dropped_rises;
          stored_rise = stored_rises;
          classes = λ g. (
            λ m. elim (classes_split gs rise_gs one_gs accessed s is.sound same g m) [
              | inl n ↦ inl (in_stays g n)
              | inr n ↦ inr (subst (λ (l : List Group). In g l) (sym stored_is) n)
            ],
            λ k. elim k [
              | inl n ↦ stays_class g n
              | inr n ↦ stored_class g n
            ],
          );
          apart = λ g k m. not_twice gs rise_gs one_gs accessed s is.sound same g (stays_in g k) (subst (λ (l : List Group). In g l) stored_is m);
          changes = (dropped_itself, stored_itself);
          same = λ g k. kept_digest old s g (stays_same g k);
          pictures = bytes_told s d.stored.items each_now;
          kept = follows mid new forgets holds;
        }
