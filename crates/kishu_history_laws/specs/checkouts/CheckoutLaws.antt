-- After a checkout the live state is the one that the target's table tells.
use Rattle.std.specs.Prelude.{◌≡◌, ℕ, zero, suc, ◌==◌, ◌<◌, ◌⊎◌, ⊤, Bool, true, false, not, List, [], ◌∷◌, map, length, filter, flat_map, slice_index_or, Option, Some, None, Contains}
use Rattle.std.specs.Bool.{Decides}
use Rattle.std.specs.List.{AllZip}
use Rattle.std.specs.List.Sorted.{IsStrictlySortedBy}
use Rattle.std.specs.Ordering.{nat_cmp}
use Rattle.std.specs.declared.cmp.Ordering.TheVariants.{Less}
use Rattle.std.specs.Cmp.Lexicographic.{slice_cmp}
use Rattle.std.proofs.Common.{refl, ap, sym, ◌∙◌, subst, arith, inl, inr}
use Rattle.std.proofs.lemmas.Bool.{cases_Bool}
use Rattle.std.proofs.lemmas.Bool.Decides.{Decides-eqb}
use Rattle.std.proofs.lemmas.List.Kept.{AllPairs-cons}
use Rattle.kishu_meaning.specs.values.Values.{State, find}
use Rattle.kishu_objects.specs.Shape.{reached, along}
use Rattle.kishu_objects.specs.Same.{Same}
use Rattle.kishu_objects.specs.Picture.{picture, listed}
use Rattle.kishu_objects.specs.Groups.{Touch, AreApart, Cuts}
use Rattle.kishu_objects.specs.Lists.{In, Rise}
use Rattle.kishu_objects_laws.specs.ListLaws.{in_flat, flat_in, contains_in, in_contains, map_in, in_filter, filter_in}
use Rattle.kishu_objects.specs.Loading.{with_picture}
use Rattle.kishu_objects_laws.specs.SameLaws.{kept_picture, glued}
use Rattle.kishu_objects_laws.specs.NameLaws.{below_in, not_both, found_listed, listed_found}
use Rattle.kishu_history.specs.Changed.{Group, is_group}
use Rattle.kishu_objects.specs.States.{IsSoundState}
use Rattle.kishu_history.specs.Tables.{Row, Table, group_in, groups_in, first_name, first_in, IsTable, AreOfOne}
use Rattle.kishu_history.specs.Cut.{IsCut}
use Rattle.kishu_history.specs.Checkout.{agree, is_row_of, to_load, to_drop, without_names, with_pictures, carried}
use Rattle.kishu_history.specs.Live.{IsLive, IsPictureOf}
use Rattle.kishu_history_laws.specs.states.AlikeLaws.{not_true, by_two}
use Rattle.kishu_history_laws.specs.Choices.{any_in, in_any, group_decides, in_map, told, not_false}
use Rattle.kishu_history_laws.specs.tables.TableLaws.{firsts_of_rows}
use Rattle.kishu_history_laws.specs.states.NameLaws.{rise_unbind_all, find_unbind_all, find_unbind_others}
use Rattle.kishu_history_laws.specs.states.LoadLaws.{load_one}

pub agree_decides : (r q : Row) → Decides (agree r q) ((r.group ≡ q.group) × (r.version ≡ q.version))
agree_decides r q = by_two {R = (r.group ≡ q.group) × (r.version ≡ q.version)} (is_group r.group q.group) (r.version == q.version) (group_decides r.group q.group) (Decides-eqb r.version q.version) (λ a b. (a, b)) (λ h. h.0) (λ h. h.1)

pub row_of : (t : Table) (r : Row) → is_row_of t r ≡ true → (q : Row) × In q t × (r.group ≡ q.group) × (r.version ≡ q.version)
row_of t r e = (let k = any_in (agree r) t e in let d = (agree_decides r k.0).0 k.2 in (k.0, k.1, d.0, d.1))

pub of_row : (t : Table) (r : Row) → In r t → is_row_of t r ≡ true
of_row t r m = in_any (agree r) t r m ((agree_decides r r).1 (refl, refl))

-- ---- names that are unbound

along_same : (s t : State) (x p : List (ℕ)) → find x s.names ≡ find x t.names → s.nodes ≡ t.nodes → reached s x p ≡ reached t x p
along_same s t x p e f = ap (λ v. along s.nodes v p) e ∙ ap (λ n. along n (find x t.names) p) f

module _ (at : Row → State → Type 0) (t : Table) (is : IsTable t) (s : State) (live : IsLive at t s) (keep : Row → Bool) where
  abbrev gone : List (List ℕ)
  gone = flat_map (λ g. g) (groups_in (filter (λ r. not (keep r)) t))

  abbrev rest : State
  rest = without_names gone s

  gone_of : (x : List ℕ) → In x gone → (r : Row) × In r t × (keep r ≡ false) × In x r.group
  gone_of x m =
      let k = flat_in (λ g. g) x (groups_in (filter (λ r. not (keep r)) t)) m in
      let r = map_in group_in (filter (λ r. not (keep r)) t) k.0 k.1 in
      let f = filter_in (λ r. not (keep r)) t r.0 r.1 in
      (r.0, f.0, not_false (keep r.0) f.1, subst (λ g. In x g) r.2 k.2)

  not_gone : (r : Row) (x : List ℕ) → In r t → keep r ≡ true → In x r.group → In x gone → ⊥
  not_gone r x m e n h = let k = gone_of x h in not_true (sym k.2 ∙ ap keep (is.one k.0 r x k.1 m k.3 n) ∙ e)

  same_there : (x : List ℕ) → (In x gone → ⊥) → find x rest.names ≡ find x s.names
  same_there x n = find_unbind_others x gone s.names n

  none_some : {A : Type 0} (a : A) (o : Option A) → o ≡ None → o ≡ Some a → ⊥
  none_some a o e f = (let g : None ≡ Some a = sym e ∙ f in cc)

  still_bound : (x : List ℕ) → In x (listed rest) → (In x gone → ⊥) × In x (listed s)
  still_bound x m =
      let k = listed_found rest.names x m in
      let n : In x gone → ⊥ = λ h. none_some k.0 (find x rest.names) (find_unbind_all x gone s.names live.state.rise h) k.1 in
      (n, found_listed s.names x k.0 (sym (same_there x n) ∙ k.1))

  pub drop_rows : IsLive at (filter keep t) rest
  drop_rows = record {
    state = record {
      sound = record {
        names = λ x i e.
            let n = (still_bound x (found_listed rest.names x _ e)).0 in
            live.state.sound.names x i (sym (same_there x n) ∙ e);
        nodes = live.state.sound.nodes;
      };
      rise = rise_unbind_all gone s.names live.state.rise;
    };
    bound = λ x. (
      λ m.
          let b = still_bound x m in
          let k = (live.bound x).0 b.1 in
          let e : keep k.0 ≡ true = elim (cases_Bool (keep k.0)) [
            | inl e ↦ e
            | inr e ↦ absurd (b.0 (in_flat (λ g. g) x k.0.group (groups_in (filter (λ r. not (keep r)) t)) (in_map group_in (filter (λ r. not (keep r)) t) k.0 (in_filter (λ r. not (keep r)) t k.0 k.1 (ap not e))) k.2))
          ] in
          (k.0, in_filter keep t k.0 k.1 e, k.2),
      λ k.
          let f = filter_in keep t k.0 k.1 in
          let b = listed_found s.names x ((live.bound x).1 (k.0, f.0, k.2)) in
          found_listed rest.names x b.0 (same_there x (not_gone k.0 x f.0 f.1 k.2) ∙ b.1),
    );
    apart = λ r q x y m n a b touch.
        let f = filter_in keep t r m in
        let g = filter_in keep t q n in
        let e = same_there x (not_gone r x f.0 f.1 a) in
        let h = same_there y (not_gone q y g.0 g.1 b) in
        live.apart r q x y f.0 g.0 a b (
          touch.0,
          (touch.1.0, sym (along_same rest s x touch.1.0 e refl) ∙ touch.1.1),
          (touch.2.0, sym (along_same rest s y touch.2.0 h refl) ∙ touch.2.1),
        );
    pictures = λ r m.
        let f = filter_in keep t r m in
        subst (λ p. at r p)
        (kept_picture s rest live.state.sound
        (record { names = λ x i e. live.state.sound.names x i (sym (same_there x (still_bound x (found_listed rest.names x _ e)).0) ∙ e); nodes = live.state.sound.nodes })
        r.group
        (λ x c. sym (same_there x (not_gone r x f.0 f.1 (contains_in r.group x c))))
        (λ x i c h. refl))
        (live.pictures r f.0);
  }

-- ---- rows that are loaded

abbrev onto : Table → Table → Table
onto [] t = t
onto (r ∷ rs) t = onto rs (r ∷ t)

in_onto : (q : Row) (rs t : Table) → In q rs ⊎ In q t → In q (onto rs t)
in_onto q [] t (inl m) = absurd m
in_onto q [] t (inr m) = m
in_onto q (r ∷ rs) t (inl (inl e)) = in_onto q rs (r ∷ t) (inr (inl e))
in_onto q (r ∷ rs) t (inl (inr m)) = in_onto q rs (r ∷ t) (inl m)
in_onto q (r ∷ rs) t (inr m) = in_onto q rs (r ∷ t) (inr (inr m))

onto_in : (q : Row) (rs t : Table) → In q (onto rs t) → In q rs ⊎ In q t
onto_in q [] t m = inr m
onto_in q (r ∷ rs) t m = elim (onto_in q rs (r ∷ t) m) [ inl n ↦ inl (inr n) | inr k ↦ elim k [ inl e ↦ inl (inl e) | inr n ↦ inr n ] ]

-- no row stands twice
abbrev pub Once : Table → Type 0
Once [] = ⊤
Once (r ∷ rs) = (In r rs → ⊥) × Once rs

load_all : (at : Row → State → Type 0) (u rs t : Table) (ps : List State) (s : State) → IsTable u
    → ((r : Row) → In r rs → In r u) → ((r : Row) → In r t → In r u) → Once rs → ((r : Row) → In r rs → In r t → ⊥)
    → AllZip (IsPictureOf at) rs ps → IsLive at t s → IsLive at (onto rs t) (with_pictures ps s)
load_all at u [] t [] s is a b once new zip live = live
load_all at u (r ∷ rs) t (p ∷ ps) s is a b once new zip live =
    load_all at u rs (r ∷ t) ps (with_picture s p) is
    (λ q m. a q (inr m))
    (λ q m. elim m [ inl e ↦ a q (inl e) | inr n ↦ b q n ])
    once.1
    (λ q m n. elim n [ inl e ↦ once.0 (subst (λ z. In z rs) e m) | inr k ↦ new q (inr m) k ])
    zip.1
    (load_one at t s live r p zip.0 (λ q x m n k. new r (inl refl) (subst (λ z. In z t) (is.one q r x (b q m) (a r (inl refl)) k n) m)))
load_all at u [] t (p ∷ ps) s is a b once new zip live = absurd zip
load_all at u (r ∷ rs) t [] s is a b once new zip live = absurd zip

-- ---- rows that are the same

live_rows : (at : Row → State → Type 0) (t u : Table) (s : State) → ((r : Row) → In r t → In r u) → ((r : Row) → In r u → In r t) → IsLive at t s → IsLive at u s
live_rows at t u s to from live = record {
  state = live.state;
  bound = λ x. ((λ m. let k = (live.bound x).0 m in (k.0, to k.0 k.1, k.2)), (λ k. (live.bound x).1 (k.0, from k.0 k.1, k.2)));
  apart = λ r q x y m n a b touch. live.apart r q x y (from r m) (from q n) a b touch;
  pictures = λ r m. live.pictures r (from r m);
}

pub once_rows : (keep : Row → Bool) (t : Table) → Rise (map first_in t) → Once (filter keep t)
unfolding IsStrictlySortedBy
once_rows keep [] r = tt
once_rows keep (q ∷ t) r = elim (cases_Bool (keep q)) [
  | inl e ↦ rw e ((λ m. let f = (filter_in keep t q m).0 in let l = below_in (first_in q) (first_in q) (map first_in t) r.0 (in_map first_in t q f) in not_both (first_in q) (first_in q) l l), once_rows keep t r.1)
  | inr e ↦ rw e (once_rows keep t r.1)
]

-- ---- a checkout

-- Where the live state is the one that the current table tells, it is, after the groups to drop are dropped and the rows to load are loaded, the one that the target's table tells.
pub carried_live : (at : Row → State → Type 0) (t u : Table) (s : State) (ps : List State) → IsTable t → IsTable u → AreOfOne t u → IsLive at t s → AllZip (IsPictureOf at) (to_load t u) ps → IsLive at u (carried (to_drop t u) ps s)
carried_live at t u s ps it iu one live zip =
    let stay = filter (λ r. is_row_of u r) t in
    let rest = without_names (flat_map (λ g. g) (to_drop t u)) s in
    let here : IsLive at stay rest = drop_rows at t it s live (λ r. is_row_of u r) in
    let in_u : (r : Row) → In r stay → In r u = λ r m.
    let f = filter_in (λ r. is_row_of u r) t r m in
    let k = row_of u r f.1 in
    subst (λ q. In q u) (sym (one r k.0 f.0 k.1 k.2 k.3)) k.1 in
    let load_u : (r : Row) → In r (to_load t u) → In r u = λ r m. (filter_in (λ r. not (is_row_of t r)) u r m).0 in
    let new : (r : Row) → In r (to_load t u) → In r stay → ⊥ = λ r m n.
    let f = filter_in (λ r. not (is_row_of t r)) u r m in
    let g = filter_in (λ r. is_row_of u r) t r n in
    not_true (sym (not_false (is_row_of t r) f.1) ∙ of_row t r g.0) in
    let all = load_all at u (to_load t u) stay ps rest iu load_u in_u (once_rows (λ r. not (is_row_of t r)) u iu.rise) new zip here in
    live_rows at (onto (to_load t u) stay) u (with_pictures ps rest)
    (λ r m. elim (onto_in r (to_load t u) stay m) [ inl h ↦ load_u r h | inr h ↦ in_u r h ])
    (λ r m. elim (cases_Bool (is_row_of t r)) [
      | inl e ↦ (
          let k = row_of t r e in
          let q : k.0 ≡ r = one k.0 r k.1 m (sym k.2) (sym k.3) in
          let n : In r t = subst (λ z. In z t) q k.1 in
          in_onto r (to_load t u) stay (inr (in_filter (λ r. is_row_of u r) t r n (of_row u r m)))
          )
      | inr e ↦ in_onto r (to_load t u) stay (inl (in_filter (λ r. not (is_row_of t r)) u r m (ap not e)))
    ])
    all

-- ---- on a good store

pub index_in : {A : Type 0} (xs : List A) (k : ℕ) (d : A) → k < length xs → In (slice_index_or xs k d) xs
index_in [] k d l = absurd (omega arith)
index_in (x ∷ xs) zero d l = inl refl
index_in (x ∷ xs) (suc k) d l = inr (index_in xs k d (omega arith))

apart_from : (s : State) (gs : List Group) → Rise (map first_name gs) → ((g h : Group) (x y : List ℕ) → In g gs → In h gs → In x g → In y h → Touch s x y → g ≡ h) → AreApart s gs
unfolding IsStrictlySortedBy
apart_from s [] r one = λ i j d l b. absurd (omega arith)
apart_from s (g ∷ gs) r one = AllPairs-cons (λ g h. (x y : List ℕ) → Contains g x → Contains h y → Touch s x y → ⊥) g gs
    (λ k d l x y m n touch.
    let h = slice_index_or gs k d in
    let i = index_in gs k d l in
    let e = one g h x y (inl refl) (inr i) (contains_in g x m) (contains_in h y n) touch in
    let b = below_in (first_name h) (first_name g) (map first_name gs) r.0 (in_map first_name gs h i) in
    let c = subst (λ z. slice_cmp nat_cmp (first_name g) (first_name z) ≡ Less) (sym e) b in
    not_both (first_name g) (first_name g) c c)
    (apart_from s gs r.1 (λ a b x y m n p q touch. one a b x y (inr m) (inr n) p q touch))

-- States that the same groups cut are the same, where each group has one picture in both.
pub same_by_parts : (gs : List Group) (s t : State) → IsSoundState s → IsSoundState t → Rise (map first_name gs) → IsCut gs s → IsCut gs t → ((g : Group) → In g gs → picture s g ≡ picture t g) → Same s t
same_by_parts gs s t here there rise cut other equal =
    glued s t here.sound there.sound gs (apart_from s gs rise cut.apart) (apart_from t gs rise other.apart) (λ k d l. equal (slice_index_or gs k d) (index_in gs k d l)) (cuts s cut) (cuts t other)
  where
    cuts : (u : State) → IsCut gs u → Cuts u gs
    cuts u c x v e = let k = (c.bound x).0 (found_listed u.names x v e) in (k.0, in_contains gs k.0 k.1, in_contains k.0 x k.2)

pub live_cut : (at : Row → State → Type 0) (t : Table) (s : State) → IsTable t → IsLive at t s → IsCut (groups_in t) s
live_cut at t s is live = record {
  bound = λ x. (
    λ m. let k = (live.bound x).0 m in (k.0.group, in_map group_in t k.0 k.1, k.2),
    λ k. let r = map_in group_in t k.0 k.1 in (live.bound x).1 (r.0, r.1, subst (λ g. In x g) r.2 k.2),
  );
  apart = λ g h x y m n a b touch.
      let r = map_in group_in t g m in
      let q = map_in group_in t h n in
      r.2 ∙ ap group_in (live.apart r.0 q.0 x y r.1 q.1 (subst (λ z. In x z) r.2 a) (subst (λ z. In y z) q.2 b) touch) ∙ sym q.2;
  one = λ g h x m n a b.
      let r = map_in group_in t g m in
      let q = map_in group_in t h n in
      r.2 ∙ ap group_in (is.one r.0 q.0 x r.1 q.1 (subst (λ z. In x z) r.2 a) (subst (λ z. In x z) q.2 b)) ∙ sym q.2;
}

-- Where the groups of the table cut a state, and what is stored for each of its rows is its group's picture there, the live state is the same as that state.
pub live_same : (at : Row → State → Type 0) (u : Table) (s t : State) → IsTable u → IsLive at u s → IsSoundState t → IsCut (groups_in u) t → ((r : Row) (p : State) → In r u → at r p → p ≡ picture t r.group) → Same s t
live_same at u s t is live other cut told = same_by_parts (groups_in u) s t live.state other (subst (λ xs. Rise xs) (sym (firsts_of_rows u)) is.rise) (live_cut at u s is live) cut (λ g m.
    let r = map_in group_in u g m in
    ap (picture s) r.2 ∙ told r.0 (picture s r.0.group) r.1 (live.pictures r.0 r.1) ∙ ap (picture t) (sym r.2))

-- ---- a plan from a table to itself

all_of : (t u : Table) → ((r : Row) → In r u → is_row_of t r ≡ true) → filter (λ r. not (is_row_of t r)) u ≡ []
all_of t [] h = refl
all_of t (r ∷ u) h = (let e = h r (inl refl) in rw e (all_of t u (λ q m. h q (inr m))))

-- Nothing is loaded, and nothing is dropped.
pub nothing_to_load : (t : Table) → to_load t t ≡ []
nothing_to_load t = all_of t t (λ r m. of_row t r m)

pub nothing_to_drop : (t : Table) → to_drop t t ≡ []
nothing_to_drop t = ap groups_in (all_of t t (λ r m. of_row t r m))
