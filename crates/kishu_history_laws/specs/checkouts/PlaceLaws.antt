-- A checkout leaves old nodes, and the names of what it keeps, in place; and a table takes what the pictures of its rows take.
use Rattle.std.specs.Prelude.{◌≡◌, ◌≤◌, ◌<◌, ◌+◌, ℕ, not, List, [], ◌∷◌, map, length, filter, flat_map, Option, Some, None}
use Rattle.std.specs.List.{AllZip, sum_by}
use Rattle.std.proofs.Common.{refl, ap, sym, ◌∙◌, subst, arith, inl, inr, length-append}
use Rattle.kishu_meaning.specs.values.Values.{State, find}
use Rattle.kishu_objects.specs.Shape.{node_at, each_child}
use Rattle.kishu_objects.specs.Picture.{renumbered, listed, picture}
use Rattle.kishu_objects.specs.Lists.{In}
use Rattle.kishu_objects_laws.specs.ListLaws.{flat_in, contains_in, map_in, filter_in}
use Rattle.kishu_objects.specs.Bytes.{state_bytes, picture_bytes}
use Rattle.kishu_objects.specs.Loading.{with_picture}
use Rattle.kishu_objects_laws.specs.LoadingLaws.{loaded_others, nodes_more}
use Rattle.kishu_objects.specs.Groups.{groups_of}
use Rattle.kishu_history.specs.Changed.{Group}
use Rattle.kishu_history.specs.Tables.{Row, Table, group_in, groups_in, IsTable, AreOfOne, bytes_in}
use Rattle.kishu_history.specs.Checkout.{is_row_of, to_keep, to_load, to_drop, without_names, with_pictures, carried}
use Rattle.kishu_history.specs.Live.{IsPictureOf, IsLive}
use Rattle.kishu_history.specs.Stored.{Stored}
use Rattle.kishu_objects.specs.Sizes.{size_among, size}
use Rattle.kishu_history_laws.specs.states.AlikeLaws.{not_true}
use Rattle.kishu_history_laws.specs.Choices.{not_false}
use Rattle.kishu_history_laws.specs.checkouts.CheckoutLaws.{row_of, of_row}
use Rattle.kishu_history_laws.specs.states.NameLaws.{find_unbind_others}
use Rattle.kishu_history_laws.specs.states.LoadLaws.{node_front}
use Rattle.kishu_history_laws.specs.tables.SplitLaws.{rows_take}

pub nodes_in_place : (ps : List State) (s : State) (i : ℕ) → i < length s.nodes → node_at s.nodes i ≡ node_at (with_pictures ps s).nodes i
nodes_in_place [] s i l = refl
nodes_in_place (p ∷ ps) s i l =
    let more = map (each_child (renumbered (λ i. length s.nodes + i))) p.nodes in
    let e = length-append s.nodes more in
    sym (node_front s.nodes more i l) ∙ nodes_in_place ps (with_picture s p) i (omega (arith, l, e))

-- No node is taken out.
pub nodes_grow : (ps : List State) (s : State) → length s.nodes ≤ length (with_pictures ps s).nodes
nodes_grow [] s = omega arith
nodes_grow (p ∷ ps) s = (let e = nodes_more s p in let l = nodes_grow ps (with_picture s p) in omega (arith, e, l))

names_in_place : (at : Row → State → Type 0) (rs : Table) (ps : List State) (s : State) (x : List ℕ) → AllZip (IsPictureOf at) rs ps → ((r : Row) → In r rs → In x r.group → ⊥) → find x (with_pictures ps s).names ≡ find x s.names
names_in_place at [] [] s x zip n = refl
names_in_place at (r ∷ rs) (p ∷ ps) s x zip n = names_in_place at rs ps (with_picture s p) x zip.1 (λ q m. n q (inr m)) ∙ loaded_others s p zip.0.sound zip.0.rise x (λ c. n r (inl refl) (subst (λ g. In x g) zip.0.names (contains_in (listed p) x c)))
names_in_place at [] (p ∷ ps) s x zip n = absurd zip
names_in_place at (r ∷ rs) [] s x zip n = absurd zip

-- The old nodes are as before under their numbers.
pub carried_nodes : (t u : Table) (ps : List State) (s : State) (i : ℕ) → i < length s.nodes → node_at s.nodes i ≡ node_at (carried (to_drop t u) ps s).nodes i
carried_nodes t u ps s i l = nodes_in_place ps (without_names (flat_map (λ g. g) (to_drop t u)) s) i l

pub carried_grow : (gs : List Group) (ps : List State) (s : State) → length s.nodes ≤ length (carried gs ps s).nodes
carried_grow gs ps s = nodes_grow ps (without_names (flat_map (λ g. g) gs) s)

-- The names of kept groups have their old values.
pub carried_names : (at : Row → State → Type 0) (t u : Table) (ps : List State) (s : State) → IsTable t → IsTable u → AreOfOne t u → AllZip (IsPictureOf at) (to_load t u) ps
    → (r : Row) (x : List ℕ) → In r (to_keep t u) → In x r.group → find x (carried (to_drop t u) ps s).names ≡ find x s.names
carried_names at t u ps s it iu one zip r x m n =
    let f = filter_in (λ r. is_row_of t r) u r m in
    let k = row_of t r f.1 in
    let q : k.0 ≡ r = one k.0 r k.1 f.0 (sym k.2) (sym k.3) in
    let old : In r t = subst (λ z. In z t) q k.1 in
    let here : In x (flat_map (λ g. g) (to_drop t u)) → ⊥ = λ h.
    let a = flat_in (λ g. g) x (to_drop t u) h in
    let b = map_in group_in (filter (λ r. not (is_row_of u r)) t) a.0 a.1 in
    let c = filter_in (λ r. not (is_row_of u r)) t b.0 b.1 in
    let e : b.0 ≡ r = it.one b.0 r x c.0 old (subst (λ g. In x g) b.2 a.2) n in
    not_true (sym (not_false (is_row_of u b.0) c.1) ∙ ap (is_row_of u) e ∙ of_row u r f.0) in
    names_in_place at (to_load t u) ps (without_names (flat_map (λ g. g) (to_drop t u)) s) x zip (λ p a b.
    let c = filter_in (λ r. not (is_row_of t r)) u p a in
    let e : p ≡ r = iu.one p r x c.0 f.0 b n in
    not_true (sym (not_false (is_row_of t p) c.1) ∙ ap (is_row_of t) e ∙ f.1))
    ∙ find_unbind_others x (flat_map (λ g. g) (to_drop t u)) s.names here

-- What is neither dropped nor loaded keeps its value.
pub carried_others : (at : Row → State → Type 0) (t u : Table) (ps : List State) (s : State) → AllZip (IsPictureOf at) (to_load t u) ps → (x : List ℕ) → ((g : Group) → In g (to_drop t u) → In x g → ⊥) → ((r : Row) → In r (to_load t u) → In x r.group → ⊥) → find x (carried (to_drop t u) ps s).names ≡ find x s.names
carried_others at t u ps s zip x here there =
    names_in_place at (to_load t u) ps (without_names (flat_map (λ g. g) (to_drop t u)) s) x zip there
    ∙ find_unbind_others x (flat_map (λ g. g) (to_drop t u)) s.names (λ h. let a = flat_in (λ g. g) x (to_drop t u) h in here a.0 a.1 a.2)

pub stored_len : (file : Option (List ℕ)) (r : Row) (p : State) → Stored file r p → length (state_bytes p) ≡ r.len
stored_len (Some bytes) r p h = h.len
stored_len None r p h = h.len

-- A table takes what the pictures of its rows take in the state that it tells.
pub rows_take_theirs : (file : Option (List ℕ)) (t : Table) (s : State) → IsLive (Stored file) t s → bytes_in t ≡ size_among (groups_in t) s
rows_take_theirs file t s live = rows_take (λ g. length (picture_bytes s g)) t (λ r m. sym (stored_len file r (picture s r.group) (live.pictures r m)))

-- Where it has the state's groups, it takes what the state takes.
pub table_takes : (file : Option (List ℕ)) (t : Table) (s : State) → IsLive (Stored file) t s → groups_in t ≡ groups_of s → bytes_in t ≡ size s
table_takes file t s live same = rows_take_theirs file t s live ∙ ap (sum_by (λ g. length (picture_bytes s g))) same
