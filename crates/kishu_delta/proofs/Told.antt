-- What is settled is exact for each list of pictures that fits, and the digests follow the state.
use Rattle.std.proofs.Common.{◌≡◌, ◌∙◌, ◌⊎◌, ℕ, Bool, true, false, ◌&&◌, List, [], ◌∷◌, map, Option, refl, sym, ap, subst, inl, inr}
use Rattle.std.specs.Prelude.{◌↔◌, not, if◌then◌else◌, filter, Some, None}
use Rattle.std.specs.Str.{bytes_eq}
use Rattle.std.specs.Cmp.Lexicographic.{bytes_decides}
use Rattle.std.proofs.lemmas.Bool.{cases_Bool}
use Rattle.kishu_meaning.specs.values.Values.{State}
use Rattle.kishu_objects.specs.Bytes.{picture_bytes, state_bytes}
use Rattle.kishu_objects.specs.Fits.{StateFits}
use Rattle.kishu_objects.specs.Groups.{groups_of}
use Rattle.kishu_objects.specs.Lists.{In}
use Rattle.kishu_objects.specs.Picture.{listed, picture}
use Rattle.kishu_objects_laws.specs.ListLaws.{filter_in, in_filter, map_in}
use Rattle.kishu_store.specs.Groups.{Group, first_name, is_one_of}
use Rattle.kishu_store.specs.Tables.{Row, Table, after, group_in, groups_in, without_groups}
use Rattle.kishu_history.specs.Alike.{is_state}
use Rattle.kishu_history.specs.Changed.{stands}
use Rattle.kishu_history.specs.Live.{IsLive}
use Rattle.kishu_history.specs.Stored.{Stored}
use Rattle.kishu_history.specs.Tables.{IsTable}
use Rattle.kishu_history.specs.Touched.{holds_any, classes, IsKept}
use Rattle.kishu_history_laws.specs.Choices.{filter_same, in_map, not_false, not_told, one_of_decides, rise_one}
use Rattle.kishu_history_laws.specs.cells.Led.{LeadsTo}
use Rattle.kishu_history_laws.specs.cells.LedLaws.{led_picture}
use Rattle.kishu_history_laws.specs.cells.TouchLaws.{class_group, dropped_exact, stored_exact}
use Rattle.kishu_history_laws.specs.checkouts.CheckoutLaws.{live_cut}
use Rattle.kishu_history_laws.specs.states.AlikeLaws.{and_both, both_and, not_true, state_decides}
use Rattle.kishu_history_laws.specs.tables.RecordLaws.{bytes_test}
use Rattle.kishu_history_laws.specs.tables.TableLaws.{groups_rise, put_rows_in, in_put_rows, rise_picked}
use Rattle.kishu_delta.specs.declared.delta.Delta as rust
use Rattle.kishu_delta.specs.declared.asking.Draft as rust_draft
use Rattle.kishu_delta.specs.Kept.{Digests, digest_of, kept_of, KeepsDigests, KeepsJust, KeepsJustThese}
use Rattle.kishu_delta.specs.Compared.{Pictures, differing, groups_with, pictured}
use Rattle.kishu_delta.specs.Deltas.{agrees, change_with, dropped_by, drafted_asked, groups_asked, groups_dropped, groups_stored, joining, stays_by, stored_by, Follows, IsDraft}
use Rattle.kishu_delta.specs.Settled.{has_listed, listed_then, IsExact, IsExactAmong, IsExactAnyhow, IsFitting, IsLeft, IsToldFrom, Stays}
use Rattle.kishu_delta.proofs.Exact.{cl_rise, dropped_is, gone_parts, left_parts, one_gs, same, stays_class, stays_same, stored_class, stored_is}
use Rattle.kishu_delta.proofs.Settles.{differing_listed, digest_passes, kept_digest, Merges}

chosen_groups : (s : State) (list : Group → List ℕ) (gs : List Group) → groups_with (filter (λ p. not (bytes_eq p.1 (list p.0))) (pictured s gs)) ≡ filter (λ g. not (has_listed s list g)) gs
chosen_groups s list [] = refl
chosen_groups s list (g ∷ gs) = elim (cases_Bool (has_listed s list g)) [
  | inl e ↦ rw e (chosen_groups s list gs)
  | inr e ↦ rw e (ap (λ (l : List Group). g ∷ l) (chosen_groups s list gs))
]

-- ---- what is kept then

module _ (old new : Digests) (dropped stored : List Group) (s : State) (follows : Follows old new dropped stored s) where
  pub new_stored : (g : Group) → is_one_of g stored ≡ true → kept_of new g ≡ Some (digest_of (picture_bytes s g))
  new_stored g e = (let f = follows g in rw e at f)

  pub new_left : (g : Group) → is_one_of g stored ≡ false → is_one_of g dropped ≡ false → kept_of new g ≡ kept_of old g
  new_left g e n = (let f = follows g in rw (e, n) at f)

  pub new_none : (g : Group) → is_one_of g stored ≡ false → (is_one_of g dropped ≡ false → kept_of old g ≡ None) → kept_of new g ≡ None
  new_none g e o = elim (cases_Bool (is_one_of g dropped)) [
    | inl n ↦ (let f = follows g in rw (e, n) at f)
    | inr n ↦ new_left g e n ∙ o n
  ]

-- a row of the new table: its group is stored, or it was there and its group isn't dropped
row_there : (t rows : Table) (dropped stored : List Group) → groups_in rows ≡ stored → (r : Row) → In r (after (record { dropped = dropped; stored = rows }) t)
    → (is_one_of r.group stored ≡ true) ⊎ ((is_one_of r.group stored ≡ false) × In r t × (is_one_of r.group dropped ≡ false))
row_there t rows dropped stored are r m = elim (cases_Bool (is_one_of r.group stored)) [
  | inl e ↦ inl e
  | inr e ↦ elim (put_rows_in r rows (without_groups dropped t) m) [
    | inl n ↦ absurd (not_true (sym e ∙ (one_of_decides r.group stored).1 (subst (λ (l : List Group). In r.group l) are (in_map group_in rows r n))))
    | inr n ↦ (let f = filter_in (λ q. not (is_one_of q.group dropped)) t r n in inr (e, f.0, not_false (is_one_of r.group dropped) f.1))
  ]
]

there_row : (t rows : Table) (dropped stored : List Group) → groups_in rows ≡ stored → (g : Group) → In g stored ⊎ (In g (groups_in t) × (is_one_of g dropped ≡ false))
    → In g (groups_in (after (record { dropped = dropped; stored = rows }) t))
there_row t rows dropped stored are g (inl m) =
    let r = map_in group_in rows g (subst (λ (l : List Group). In g l) (sym are) m) in
    let all = after (record { dropped = dropped; stored = rows }) t in
    subst (λ h. In h (groups_in all)) (sym r.2) (in_map group_in all r.0 (in_put_rows r.0 rows (without_groups dropped t) (inl r.1)))
there_row t rows dropped stored are g (inr m) =
    let r = map_in group_in t g m.0 in
    let all = after (record { dropped = dropped; stored = rows }) t in
    let out : is_one_of r.0.group dropped ≡ false = ap (λ h. is_one_of h dropped) (sym r.2) ∙ m.1 in
    subst (λ h. In h (groups_in all)) (sym r.2)
    (in_map group_in all r.0 (in_put_rows r.0 rows (without_groups dropped t) (inr (in_filter (λ q. not (is_one_of q.group dropped)) t r.0 r.1 (ap not out)))))

module _ (old new : Digests) (t : Table) (accessed : List (List ℕ)) (s : State) (draft : rust_draft.Draft) (is : IsDraft old t accessed s draft)
    (handed : List (List ℕ)) (d : rust.Delta) (merges : Merges draft handed d) (follows : Follows old new (groups_dropped d) (groups_stored d) s)
  where
    abbrev gs : List Group
    gs = groups_in t

    abbrev cl : List Group
    cl = classes gs accessed s

    abbrev ag : Group → Bool
    ag = agrees old s

    abbrev asked : List Group
    asked = stays_by gs accessed s ag

    abbrev joins : List Group
    joins = groups_with (joining draft handed)

    abbrev kept_same : Group → Bool
    kept_same = same old t accessed s draft is handed d merges

    abbrev gone : List Group
    gone = groups_dropped d

    abbrev come : List Group
    come = groups_stored d

    -- ---- for each list that fits

    module _ (list : Group → List ℕ) (fits : IsFitting old t draft handed list) where
      abbrev hl : Group → Bool
      hl = has_listed s list

      joins_listed : joins ≡ filter (λ g. not (hl g)) asked
      joins_listed =
          ap (λ (bs : List (List ℕ)). groups_with (differing (drafted_asked draft) bs)) fits.asked
          ∙ ap groups_with (differing_listed (drafted_asked draft) list)
          ∙ ap (λ (ps : Pictures). groups_with (filter (λ p. not (bytes_eq p.1 (list p.0))) ps)) is.asked
          ∙ chosen_groups s list asked

      kept_listed : (g : Group) → In g gs → kept_of old g ≡ Some (digest_of (list g))
      kept_listed g m = (let r = map_in group_in t g m in subst (λ h. kept_of old h ≡ Some (digest_of (list h))) (sym r.2) (fits.digests r.0 r.1))

      listed_same : (g : Group) → hl g ≡ true → picture_bytes s g ≡ list g
      listed_same g e = (bytes_decides (picture_bytes s g) (list g)).0 e

      not_joined : (g : Group) → hl g ≡ true → is_one_of g joins ≡ false
      not_joined g e = not_told (is_one_of g joins) (one_of_decides g joins) (λ m.
          let f = filter_in (λ h. not (hl h)) asked g (subst (λ (l : List Group). In g l) joins_listed m) in
          not_true (sym (not_false (hl g) f.1) ∙ e))

      is_joined : (g : Group) → In g gs → In g cl → ag g ≡ true → hl g ≡ false → is_one_of g joins ≡ true
      is_joined g m n a e = (one_of_decides g joins).1 (subst (λ (l : List Group). In g l) (sym joins_listed)
          (in_filter (λ h. not (hl h)) asked g (in_filter (λ h. is_one_of h gs && ag h) cl g n (both_and (is_one_of g gs) (ag g) ((one_of_decides g gs).1 m) a)) (ap not e)))

      pub tests_agree : (g : Group) → In g gs → In g cl → kept_same g ≡ hl g
      tests_agree g m n = elim (cases_Bool (hl g)) [
        | inl e ↦ (
            let a : ag g ≡ true = digest_passes old s g (kept_listed g m ∙ ap (λ (bytes : List ℕ). Some (digest_of bytes)) (sym (listed_same g e))) in
            both_and (ag g) (not (is_one_of g joins)) a (ap not (not_joined g e)) ∙ sym e
            )
        | inr e ↦ elim (cases_Bool (ag g)) [
          | inl a ↦ ap (λ b. b && not (is_one_of g joins)) a ∙ ap not (is_joined g m n a e) ∙ sym e
          | inr a ↦ ap (λ b. b && not (is_one_of g joins)) a ∙ sym e
        ]
      ]

      goes_agree : (g : Group) → In g gs → (is_one_of g cl && kept_same g) ≡ (is_one_of g cl && hl g)
      goes_agree g m = elim (cases_Bool (is_one_of g cl)) [
        | inl e ↦ ap (λ b. is_one_of g cl && b) (tests_agree g m ((one_of_decides g cl).0 e))
        | inr e ↦ ap (λ b. b && kept_same g) e ∙ sym (ap (λ b. b && hl g) e)
      ]

      comes_agree : (g : Group) → In g cl → (is_one_of g gs && kept_same g) ≡ (is_one_of g gs && hl g)
      comes_agree g n = elim (cases_Bool (is_one_of g gs)) [
        | inl e ↦ ap (λ b. is_one_of g gs && b) (tests_agree g ((one_of_decides g gs).0 e) n)
        | inr e ↦ ap (λ b. b && kept_same g) e ∙ sym (ap (λ b. b && hl g) e)
      ]

      pub come_listed : come ≡ stored_by gs accessed s hl
      come_listed = stored_is old t accessed s draft is handed d merges ∙ filter_same _ _ cl (λ g n. ap not (comes_agree g n))

      kept_then : (rows : List Row) → groups_in rows ≡ come → (r : Row) → In r (after (change_with d rows) t) → kept_of new r.group ≡ Some (digest_of (listed_then s list come r.group))
      kept_then rows are r m = elim (row_there t rows gone come are r m) [
        | inl e ↦ new_stored old new gone come s follows r.group e ∙ sym (ap (λ (b : Bool). Some (digest_of (if b then picture_bytes s r.group else list r.group))) e)
        | inr k ↦ new_left old new gone come s follows r.group k.0 k.2 ∙ fits.digests r k.1
            ∙ sym (ap (λ (b : Bool). Some (digest_of (if b then picture_bytes s r.group else list r.group))) k.0)
      ]

      stays_listed : (g : Group) → In g gs → holds_any accessed g ≡ true → ((In g gone → ⊥) ↔ (In g cl × (picture_bytes s g ≡ list g)))
      stays_listed g m e = (
        λ away.
            let k = left_parts old t accessed s draft is handed d merges g m e away in
            (k.0, listed_same g (sym (tests_agree g m k.0) ∙ k.1)),
        λ k n.
            let same_now = tests_agree g m k.0 ∙ (bytes_decides (picture_bytes s g) (list g)).1 k.1 in
            not_true (sym (gone_parts old t accessed s draft is handed d merges g n) ∙ both_and (is_one_of g cl) (kept_same g) ((one_of_decides g cl).1 k.0) same_now),
      )

      pub listed_anyhow : IsExactAnyhow new t accessed s list d
      listed_anyhow = record { stays = stays_listed; stored = come_listed; kept = kept_then }

      -- ---- over a table that records give

      module _ (table : IsTable t) where
        pub gone_listed : gone ≡ dropped_by gs accessed s hl
        gone_listed = dropped_is old t accessed s draft is handed d merges table ∙ filter_same _ _ gs (λ g m. ap (λ b. holds_any accessed g && not b) (goes_agree g m))

        pub among : IsExactAmong new t accessed s list d
        among = record { dropped = gone_listed; stored = come_listed; kept = kept_then }

        -- ---- against the whole state

        module _ (just : KeepsJustThese old gs list) (left : IsLeft t accessed s list) where
          abbrev whole : List Group
          whole = groups_of s

          -- The groups without an accessed name are groups of the state still.
          own_kept : IsKept gs (picture s) accessed s
          own_kept = record {
            still = λ g m e. ((left.still g m e).0, refl);
            others = left.others;
            one = one_gs old t accessed s draft is handed d merges table;
          }

          class_whole : (g : Group) → In g cl → In g whole
          class_whole = class_group gs (picture s) accessed s is.sound.sound own_kept

          -- A group of the table that holds an accessed name is a class where it is a group of the state;
          whole_class : (g : Group) → In g gs → holds_any accessed g ≡ true → In g whole → In g cl
          whole_class g m e n = elim (cases_Bool (is_one_of g cl)) [
            | inl c ↦ (one_of_decides g cl).0 c
            | inr c ↦ (
                let k = in_filter (λ h. holds_any accessed h && not (is_one_of h cl && is_state (picture s h) (picture s h))) gs g m
                (both_and (holds_any accessed g) (not (is_one_of g cl && is_state (picture s g) (picture s g))) e
                (ap (λ b. not (b && is_state (picture s g) (picture s g))) c)) in
                let f = filter_in (λ h. not (stands h (picture s h) s)) gs g
                (subst (λ (l : List Group). In g l) (dropped_exact gs (picture s) accessed s is.sound.sound own_kept) k) in
                absurd (not_true (sym (not_false (stands g (picture s g) s) f.1)
                ∙ both_and (is_one_of g whole) (is_state (picture s g) (picture s g)) ((one_of_decides g whole).1 n) ((state_decides (picture s g) (picture s g)).1 refl)))
                )
          ]

          -- and so is each group of the state that the table doesn't have.
          other_class : (g : Group) → is_one_of g gs ≡ false → In g whole → In g cl
          other_class g e n =
              let test : Group → Bool = λ h. not (is_one_of h gs && is_state (picture s h) (picture s h)) in
              let k = in_filter test whole g n (ap (λ b. not (b && is_state (picture s g) (picture s g))) e) in
              (filter_in test cl g (subst (λ (l : List Group). In g l) (sym (stored_exact gs (picture s) accessed s is.sound.sound own_kept)) k)).0

          gone_test : (g : Group) → In g gs → (holds_any accessed g && not (is_one_of g cl && hl g)) ≡ not (is_one_of g whole && hl g)
          gone_test g m = elim (cases_Bool (holds_any accessed g)) [
            | inl e ↦ ap (λ b. b && not (is_one_of g cl && hl g)) e ∙ ap (λ b. not (b && hl g)) (one_alike g m e)
            | inr e ↦ ap (λ b. b && not (is_one_of g cl && hl g)) e ∙ sym (ap not (still g m e))
          ]
            where
              one_alike : (g : Group) → In g gs → holds_any accessed g ≡ true → is_one_of g cl ≡ is_one_of g whole
              one_alike g m e = elim (cases_Bool (is_one_of g cl)) [
                | inl c ↦ c ∙ sym ((one_of_decides g whole).1 (class_whole g ((one_of_decides g cl).0 c)))
                | inr c ↦ c ∙ sym (not_told (is_one_of g whole) (one_of_decides g whole) (λ n. not_true (sym c ∙ (one_of_decides g cl).1 (whole_class g m e n))))
              ]

              still : (g : Group) → In g gs → holds_any accessed g ≡ false → (is_one_of g whole && hl g) ≡ true
              still g m e = (let k = left.still g m e in both_and (is_one_of g whole) (hl g) ((one_of_decides g whole).1 k.0) ((bytes_decides (picture_bytes s g) (list g)).1 k.1))

          gone_whole : gone ≡ filter (λ g. not (is_one_of g whole && hl g)) gs
          gone_whole = gone_listed ∙ filter_same _ _ gs gone_test

          abbrev come_test : Group → Bool
          come_test g = not (is_one_of g gs && hl g)

          whole_come : (g : Group) → In g whole → come_test g ≡ true → In g cl
          whole_come g n e = elim (cases_Bool (is_one_of g gs)) [
            | inr o ↦ other_class g o n
            | inl o ↦ elim (cases_Bool (holds_any accessed g)) [
              | inl h ↦ whole_class g ((one_of_decides g gs).0 o) h n
              | inr h ↦ (
                  let k = left.still g ((one_of_decides g gs).0 o) h in
                  absurd (not_true (sym (not_false (is_one_of g gs && hl g) e) ∙ both_and (is_one_of g gs) (hl g) o ((bytes_decides (picture_bytes s g) (list g)).1 k.1)))
                  )
            ]
          ]

          come_whole : come ≡ filter come_test whole
          come_whole = come_listed ∙ rise_one first_name (filter come_test cl) (filter come_test whole)
              (rise_picked first_name come_test cl (cl_rise old t accessed s draft is handed d merges))
              (rise_picked first_name come_test whole (groups_rise s is.sound.sound (listed s) is.sound.rise))
              (λ g m. let f = filter_in come_test cl g m in in_filter come_test whole g (class_whole g f.0) f.1)
              (λ g m. let f = filter_in come_test whole g m in in_filter come_test cl g (whole_come g f.0 f.1) f.1)

          not_gone : (g : Group) → In g whole → hl g ≡ true → is_one_of g gone ≡ false
          not_gone g n e = not_told (is_one_of g gone) (one_of_decides g gone) (λ m.
              let f = filter_in (λ h. not (is_one_of h whole && hl h)) gs g (subst (λ (l : List Group). In g l) gone_whole m) in
              not_true (sym (not_false (is_one_of g whole && hl g) f.1) ∙ both_and (is_one_of g whole) (hl g) ((one_of_decides g whole).1 n) e))

          kept_now : (g : Group) → In g whole → kept_of new g ≡ Some (digest_of (picture_bytes s g))
          kept_now g n = elim (cases_Bool (is_one_of g come)) [
            | inl e ↦ new_stored old new gone come s follows g e
            | inr e ↦ elim (cases_Bool (is_one_of g gs && hl g)) [
              | inl b ↦ (
                  let k = and_both (is_one_of g gs) (hl g) b in
                  new_left old new gone come s follows g e (not_gone g n k.1) ∙ kept_listed g ((one_of_decides g gs).0 k.0)
                  ∙ ap (λ (bytes : List ℕ). Some (digest_of bytes)) (sym (listed_same g k.1))
                  )
              | inr b ↦ absurd (not_true (sym e ∙ (one_of_decides g come).1 (subst (λ (l : List Group). In g l) (sym come_whole) (in_filter come_test whole g n (ap not b)))))
            ]
          ]

          none_now : (g : Group) → (In g whole → ⊥) → kept_of new g ≡ None
          none_now g away =
              let out : is_one_of g come ≡ false = not_told (is_one_of g come) (one_of_decides g come) (λ m. away (filter_in come_test whole g (subst (λ (l : List Group). In g l) come_whole m)).0) in
              new_none old new gone come s follows g out (λ n. elim (cases_Bool (is_one_of g gs)) [
                | inr o ↦ (let f = just g in rw o at f)
                | inl o ↦ (
                    let no : (is_one_of g whole && hl g) ≡ false = ap (λ b. b && hl g) (not_told (is_one_of g whole) (one_of_decides g whole) away) in
                    absurd (not_true (sym n ∙ (one_of_decides g gone).1 (subst (λ (l : List Group). In g l) (sym gone_whole)
                    (in_filter (λ h. not (is_one_of h whole && hl h)) gs g ((one_of_decides g gs).0 o) (ap not no)))))
                    )
              ])

          just_now : KeepsJustThese new whole (picture_bytes s)
          just_now g = elim (cases_Bool (is_one_of g whole)) [
            | inl e ↦ kept_now g ((one_of_decides g whole).0 e) ∙ sym (ap (λ (b : Bool). if b then Some (digest_of (picture_bytes s g)) else None) e)
            | inr e ↦ none_now g (λ m. not_true (sym e ∙ (one_of_decides g whole).1 m)) ∙ sym (ap (λ (b : Bool). if b then Some (digest_of (picture_bytes s g)) else None) e)
          ]

          pub exact : IsExact new t s list d
          exact = record { dropped = gone_whole; stored = come_whole; kept = just_now }

    -- ---- from a state before

    module _ (table : IsTable t) (before : State) (keeps : KeepsDigests old t before) (given : handed ≡ map (picture_bytes before) (groups_asked draft)) where
      before_fits : IsFitting old t draft handed (picture_bytes before)
      before_fits = record { digests = keeps.digests; asked = given }

      fit_before : (g : Group) → In g gs → StateFits (picture before g)
      fit_before g m = (let r = map_in group_in t g m in subst (λ h. StateFits (picture before h)) (sym r.2) (keeps.fit r.0 r.1))

      state_test : (g : Group) → In g gs → In g cl → has_listed s (picture_bytes before) g ≡ is_state (picture s g) (picture before g)
      state_test g m n = bytes_test (picture s g) (picture before g) (is.fits g n) (fit_before g m)

      pub told : IsToldFrom before t accessed s d
      told = record {
        dropped = gone_listed (picture_bytes before) before_fits table ∙ filter_same _ _ gs (λ g m. elim (cases_Bool (is_one_of g cl)) [
          | inl e ↦ ap (λ b. holds_any accessed g && not (is_one_of g cl && b)) (state_test g m ((one_of_decides g cl).0 e))
          | inr e ↦ ap (λ b. holds_any accessed g && not (b && has_listed s (picture_bytes before) g)) e
              ∙ sym (ap (λ b. holds_any accessed g && not (b && is_state (picture s g) (picture before g))) e)
        ]);
        stored = come_listed (picture_bytes before) before_fits ∙ filter_same _ _ cl (λ g n. elim (cases_Bool (is_one_of g gs)) [
          | inl e ↦ ap (λ b. not (is_one_of g gs && b)) (state_test g ((one_of_decides g gs).0 e) n)
          | inr e ↦ ap (λ b. not (b && has_listed s (picture_bytes before) g)) e ∙ sym (ap (λ b. not (b && is_state (picture s g) (picture before g))) e)
        ]);
      }

    -- ---- the digests follow the state

    module _ (table : IsTable t) (before : State) (file : Option (List ℕ)) (live : IsLive (Stored file) t before) (led : LeadsTo accessed before s) (keeps : KeepsDigests old t before)
        (rows : List Row) (are : groups_in rows ≡ come)
      where
        still : (r : Row) → In r t → holds_any accessed r.group ≡ false → picture before r.group ≡ picture s r.group
        still r m e = led_picture gs accessed before s live.state is.sound (live_cut (Stored file) t before table live) led r.group (in_map group_in t r m) e

        staying : (r : Row) → In r t → is_one_of r.group gone ≡ false → holds_any accessed r.group ≡ true → Stays t accessed d r.group
        staying r m n e = record { row = in_map group_in t r m; holds = e; stays = λ k. not_true (sym n ∙ (one_of_decides r.group gone).1 k) }

        digest_there : (r : Row) → In r (after (change_with d rows) t) → kept_of new r.group ≡ Some (digest_of (picture_bytes s r.group))
        digest_there r m = elim (row_there t rows gone come are r m) [
          | inl e ↦ new_stored old new gone come s follows r.group e
          | inr k ↦ new_left old new gone come s follows r.group k.0 k.2 ∙ elim (cases_Bool (holds_any accessed r.group)) [
            | inl e ↦ kept_digest old s r.group (stays_same old t accessed s draft is handed d merges r.group (staying r k.1 k.2 e))
            | inr e ↦ keeps.digests r k.1 ∙ ap (λ (p : State). Some (digest_of (state_bytes p))) (still r k.1 e)
          ]
        ]

        fit_there : (r : Row) → In r (after (change_with d rows) t) → StateFits (picture s r.group)
        fit_there r m = elim (row_there t rows gone come are r m) [
          | inl e ↦ is.fits r.group (stored_class old t accessed s draft is handed d merges r.group ((one_of_decides r.group come).0 e))
          | inr k ↦ elim (cases_Bool (holds_any accessed r.group)) [
            | inl e ↦ is.fits r.group (stays_class old t accessed s draft is handed d merges r.group (staying r k.1 k.2 e))
            | inr e ↦ subst StateFits (still r k.1 e) (keeps.fit r k.1)
          ]
        ]

        pub held_there : KeepsDigests new (after (change_with d rows) t) s
        held_there = record { digests = digest_there; fit = fit_there }

        module _ (just : KeepsJust old gs before) where
          abbrev there : List Group
          there = groups_in (after (change_with d rows) t)

          none_there : (g : Group) → (In g there → ⊥) → kept_of new g ≡ None
          none_there g away = new_none old new gone come s follows g
              (not_told (is_one_of g come) (one_of_decides g come) (λ m. away (there_row t rows gone come are g (inl m))))
              (λ n. elim (cases_Bool (is_one_of g gs)) [
                | inl o ↦ absurd (away (there_row t rows gone come are g (inr ((one_of_decides g gs).0 o, n))))
                | inr o ↦ (let f = just.digests g in rw o at f)
              ])

          some_there : (g : Group) → In g there → kept_of new g ≡ Some (digest_of (picture_bytes s g))
          some_there g m =
              let r = map_in group_in (after (change_with d rows) t) g m in
              subst (λ h. kept_of new h ≡ Some (digest_of (picture_bytes s h))) (sym r.2) (digest_there r.0 r.1)

          pub just_there : KeepsJust new there s
          just_there = record {
            digests = λ g. elim (cases_Bool (is_one_of g there)) [
              | inl e ↦ some_there g ((one_of_decides g there).0 e) ∙ sym (ap (λ (b : Bool). if b then Some (digest_of (picture_bytes s g)) else None) e)
              | inr e ↦ none_there g (λ m. not_true (sym e ∙ (one_of_decides g there).1 m)) ∙ sym (ap (λ (b : Bool). if b then Some (digest_of (picture_bytes s g)) else None) e)
            ];
            fit = λ g m. (let r = map_in group_in (after (change_with d rows) t) g m in subst (λ h. StateFits (picture s h)) (sym r.2) (fit_there r.0 r.1));
          }

-- Where just the digests of a state's pictures are kept, they are.
pub digests_kept : (old : Digests) (t : Table) (before : State) → KeepsJust old (groups_in t) before → KeepsDigests old t before
digests_kept old t before just = record { digests = λ r m. kept r.group (in_map group_in t r m); fit = λ r m. just.fit r.group (in_map group_in t r m) }
  where
    kept : (g : Group) → In g (groups_in t) → kept_of old g ≡ Some (digest_of (picture_bytes before g))
    kept g m = (let e = (one_of_decides g (groups_in t)).1 m in let f = just.digests g in rw e at f)
