-- Where the cells are texts, as those of a file are, a store that has the bytes of its pictures is good: each replay is a state and isn't too large, so its pictures can be written.
use Rattle.std.specs.Prelude.{◌≡◌, ℕ, suc, ◌==◌, ◌≤◌, ◌⊎◌, true, false, List, [], ◌∷◌, map, length}
use Rattle.std.specs.List.{sum_by}
use Rattle.std.proofs.Common.{refl, ap, sym, ◌∙◌, subst, arith, inl, inr}
use Rattle.std.proofs.lemmas.Bool.{cases_lt}
use Rattle.std.proofs.lemmas.Bool.Decides.{Decides-eqb}
use Rattle.std.proofs.lemmas.List.Sums.{sum_by-cons}
use Rattle.kishu_language.specs.declared.profile.Profile.{Profile}
use Rattle.kishu_meaning.specs.cells.Meaning.{run}
use Rattle.kishu_meaning.specs.values.Values.{Names, State, empty}
use Rattle.kishu_store.specs.Graph.{Commit, Graph, path_in}
use Rattle.kishu_replay.specs.Replay.{after_cells, after_commits}
use Rattle.kishu_objects.specs.Bytes.{picture_bytes}
use Rattle.kishu_objects.specs.Fits.{StateFits}
use Rattle.kishu_objects.specs.Groups.{groups_of}
use Rattle.kishu_objects.specs.Lists.{In}
use Rattle.kishu_objects.specs.Picture.{place, bound, named, listed, picture}
use Rattle.kishu_objects.specs.State.{IsState}
use Rattle.kishu_objects_laws.specs.ListLaws.{filter_in}
use Rattle.kishu_state_laws.specs.Fitting.{picture_fits}
use Rattle.kishu_state_laws.specs.HeldLaws.{AreTexts, held_texts, path_texts}
use Rattle.kishu_state_laws.specs.Real.{state_is_real}
use Rattle.kishu_state_laws.specs.Whole.{commits_keep}
use Rattle.kishu_state_laws.specs.keeping.Running.{empty_is_state}
use Rattle.kishu_history.specs.Changed.{Group}
use Rattle.kishu_history.specs.Good.{IsGoodStore, IsWrittenStore, IsGoodFileOf, IsWrittenFileOf}
use Rattle.kishu_history.specs.Paths.{stops_in, changes_in, change_of}
use Rattle.kishu_objects.specs.Sizes.{size, most_bytes}
use Rattle.kishu_history.specs.Sizes.{StaySmall, AllStaySmall}
use Rattle.kishu_history.specs.Tables.{Row, group_in, Change, AreRight}
use Rattle.kishu_history.specs.Versions.{Stop, at_end, version}
use Rattle.kishu_history_laws.specs.Choices.{in_map, not_told}
use Rattle.kishu_history_laws.specs.tables.TableLaws.{class_rises}
use Rattle.kishu_history_laws.specs.versions.PathLaws.{end_in}

-- ---- sizes

cells_small : (profile : Profile) (cells : List (List ℕ)) (s : State) → size s ≤ most_bytes → StaySmall profile cells s → size (after_cells profile cells s) ≤ most_bytes
cells_small profile [] s l h = l
cells_small profile (cell ∷ cells) s l h = cells_small profile cells (run profile cell s).state h.0 h.1

commits_small : (ks : List Commit) (s : State) → size s ≤ most_bytes → AllStaySmall ks s → size (after_commits ks s) ≤ most_bytes
commits_small [] s l h = l
commits_small (k ∷ ks) s l h = commits_small ks (after_cells k.profile k.cells s) (cells_small k.profile k.cells s l h.0) h.1

empty_small : size empty ≤ most_bytes
empty_small = (let e : size empty ≡ 0 = refl in omega (arith, e))

one_of_sum : (f : Group → ℕ) (gs : List Group) (g : Group) → In g gs → f g ≤ sum_by f gs
one_of_sum f [] g m = absurd m
one_of_sum f (h ∷ gs) g (inl e) = (let c = sum_by-cons f h gs in let d = ap f e in omega (arith, c, d))
one_of_sum f (h ∷ gs) g (inr m) = (let c = sum_by-cons f h gs in let r = one_of_sum f gs g m in omega (arith, c, r))

-- ---- the empty state

bound_empty : (g : Group) → bound empty g ≡ []
bound_empty [] = refl
bound_empty (x ∷ g) = bound_empty g

empty_fits : StateFits empty
empty_fits = ((omega arith, tt), (omega arith, tt))

fits_at_root : (g : Group) → StateFits (picture empty g)
fits_at_root g = subst (λ (ns : Names). StateFits (record { names = map (named (place [])) ns; nodes = [] })) (sym (bound_empty g)) empty_fits

root_path : (ks : List Commit) → stops_in ks 0 ≡ []
root_path [] = refl
root_path (k ∷ ks) = (let e = not_told (0 == suc (length ks)) (Decides-eqb 0 (suc (length ks))) (λ f. omega (arith, f)) in rw e (root_path ks))

-- ---- what a commit stores

newest_stops : (k : Commit) (ks : List Commit) (c : ℕ) → (c == suc (length ks)) ≡ true → stops_in (k ∷ ks) c ≡ record { commit = c; state = after_cells k.profile k.cells (at_end (stops_in ks k.parent)) } ∷ stops_in ks k.parent
newest_stops k ks c e = rw e refl

newest_changes : (k : Commit) (ks : List Commit) (of : ℕ → Change) (c : ℕ) → (c == suc (length ks)) ≡ true → changes_in (k ∷ ks) of c ≡ of c ∷ changes_in ks of k.parent
newest_changes k ks of c e = rw e refl

older_stops : (k : Commit) (ks : List Commit) (c : ℕ) → (c == suc (length ks)) ≡ false → stops_in (k ∷ ks) c ≡ stops_in ks c
older_stops k ks c e = rw e refl

older_changes : (k : Commit) (ks : List Commit) (of : ℕ → Change) (c : ℕ) → (c == suc (length ks)) ≡ false → changes_in (k ∷ ks) of c ≡ changes_in ks of c
older_changes k ks of c e = rw e refl

-- Each commit stores groups of its state.
right_stores : (k : Stop) (path : List Stop) (c : Change) (cs : List Change) → AreRight (k ∷ path) (c ∷ cs) → (r : Row) → In r c.stored → In r.group (groups_of k.state)
right_stores k path c cs right r m =
    let there = subst (λ gs. In r.group gs) right.1 (in_map group_in c.stored r m) in
    (filter_in (λ g. version (k ∷ path) g == k.commit) (groups_of k.state) r.group there).0

-- such a group of the commit's replay
abbrev IsGroupAt : List Commit → ℕ → Group → Type 0
IsGroupAt ks c g = In g (groups_of (at_end (stops_in ks c)))

newest_group : (k : Commit) (ks : List Commit) (of : ℕ → Change) (c : ℕ) → (c == suc (length ks)) ≡ true
    → AreRight (stops_in (k ∷ ks) c) (changes_in (k ∷ ks) of c) → (r : Row) → In r (of c).stored → IsGroupAt (k ∷ ks) c r.group
newest_group k ks of c e right r m =
    let stop : Stop = record { commit = c; state = after_cells k.profile k.cells (at_end (stops_in ks k.parent)) } in
    let path = stops_in ks k.parent in
    let at_stop = subst (λ z. AreRight z (changes_in (k ∷ ks) of c)) (newest_stops k ks c e) right in
    let here = subst (λ z. AreRight (stop ∷ path) z) (newest_changes k ks of c e) at_stop in
    subst (λ p. In r.group (groups_of (at_end p))) (sym (newest_stops k ks c e)) (right_stores stop path (of c) (changes_in ks of k.parent) here r m)

stored_group : (of : ℕ → Change) (ks : List Commit) (c : ℕ) → c ≤ length ks → AreRight (stops_in ks c) (changes_in ks of c)
    → (r : Row) → In r (of c).stored → (c ≡ 0) ⊎ IsGroupAt ks c r.group
stored_group of [] c l right r m = inl (omega (arith, l))
stored_group of (k ∷ ks) c l right r m = elim (cases_lt c (suc (length ks))) [
  | inl b ↦ (
      let e = not_told (c == suc (length ks)) (Decides-eqb c (suc (length ks))) (λ f. omega (arith, b, f)) in
      let at_changes = subst (λ q. AreRight (stops_in (k ∷ ks) c) q) (older_changes k ks of c e) right in
      let here = subst (λ p. AreRight p (changes_in ks of c)) (older_stops k ks c e) at_changes in
      elim (stored_group of ks c (omega (arith, b)) here r m) [
        | inl z ↦ inl z
        | inr g ↦ inr (subst (λ p. In r.group (groups_of (at_end p))) (sym (older_stops k ks c e)) g)
      ]
      )
  | inr b ↦ inr (newest_group k ks of c ((Decides-eqb c (suc (length ks))).1 (omega (arith, l, b))) right r m)
]

-- ---- replays

module _ (ks : List Commit) (cells : AreTexts ks) (c : ℕ) where
  abbrev replayed : State
  replayed = at_end (stops_in ks c)

  pub is_state : IsState replayed
  is_state = subst (λ s. IsState s) (sym (end_in ks c)) (commits_keep (path_in ks c) empty (path_texts ks c cells) empty_is_state)

  is_small : AllStaySmall (path_in ks c) empty → size replayed ≤ most_bytes
  is_small h = subst (λ s. size s ≤ most_bytes) (sym (end_in ks c)) (commits_small (path_in ks c) empty empty_small h)

-- ---- pictures of a state that isn't too large

-- The picture of each of its groups can be written.
groups_fit : (s : State) → IsState s → size s ≤ most_bytes → (g : Group) → In g (groups_of s) → StateFits (picture s g)
groups_fit s is small g m =
    let real = state_is_real s is in
    let a = one_of_sum (λ g. length (picture_bytes s g)) (groups_of s) g m in
    picture_fits s g is (class_rises s real.sound (listed s) real.rise g m) (omega (arith, a, small))

-- ---- good stores

pub written_is_good : (file : List ℕ) (ks : List Commit) (of : ℕ → Change) → AreTexts ks → IsWrittenStore file ks of → IsGoodStore file ks of
written_is_good file ks of cells store = record {
  right = store.right;
  pictures = λ c l r m. (let h = store.pictures c l r m in record {
    bytes = h.bytes;
    len = h.len;
    fits = elim (stored_group of ks c l (store.right c l) r m) [
      | inl z ↦ (
          let root = ap (λ d. at_end (stops_in ks d)) z ∙ ap at_end (root_path ks) in
          subst (λ s. StateFits (picture s r.group)) (sym root) (fits_at_root r.group)
          )
      | inr g ↦ groups_fit (at_end (stops_in ks c)) (is_state ks cells c) (is_small ks cells c (store.small c l)) r.group g
    ];
  });
  small = store.small;
}

pub good_is_written : (file : List ℕ) (ks : List Commit) (of : ℕ → Change) → IsGoodStore file ks of → IsWrittenStore file ks of
good_is_written file ks of good = record {
  right = good.right;
  pictures = λ c l r m. (let h = good.pictures c l r m in record { bytes = h.bytes; len = h.len });
  small = good.small;
}

-- ---- good files

pub written_is_file : (file : List ℕ) (g : Graph) → IsWrittenFileOf file g → IsGoodFileOf file g
written_is_file file g w = record {
  changes = w.changes;
  holds = w.holds;
  gives = w.gives;
  store = written_is_good file g.commits (change_of w.changes) (held_texts file g w.holds) w.store;
}

pub file_is_written : (file : List ℕ) (g : Graph) → IsGoodFileOf file g → IsWrittenFileOf file g
file_is_written file g good = record {
  changes = good.changes;
  holds = good.holds;
  gives = good.gives;
  store = good_is_written file g.commits (change_of good.changes) good.store;
}
