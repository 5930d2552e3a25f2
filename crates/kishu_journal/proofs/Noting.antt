-- A commit more, of which nothing is noted yet: what fits the head's table before fits that of its parent.
use Rattle.std.proofs.Common.{◌≡◌, ◌<◌, ℕ, suc, List, [], ◌∷◌, ◌++◌, length, map, get_or, refl, sym, ◌∙◌, ap, subst, arith, length-append}
use Rattle.std.proofs.Math.Seq.{get_or-append_seam}
use Rattle.kishu_graph.specs.ChangeLaws.{changes-before, older-changes, older-field, same-last}
use Rattle.kishu_graph.specs.Kept.{Kept, HasShapeOf, Noted, Outline, StandsFor, TellsChanges, noted_in, noted_of, outline_in, outlines, parents_of, profiles_of}
use Rattle.kishu_graph.specs.Laws.{count-shape, outline-newest}
use Rattle.kishu_graph.specs.Tables.{FitsParent, KeepsAllBut}
use Rattle.kishu_language.specs.declared.profile.Profile.{Profile}
use Rattle.kishu_store.specs.Graph.{Commit, Graph}
use Rattle.kishu_store.specs.Tables.{Change, FitsTable, change_of, changes_in, no_change, table_at, table_of}
use Rattle.kishu_store_laws.specs.HistoryLaws.{AreChanges}
use Rattle.kishu_journal.specs.Following.{FitsNext, HasNewest, TakesChange, TakesCommit}

module _ (old mid : Kept) (m : HasNewest old mid) where
  -- the graph before, whose commits are these
  abbrev before : List Commit → Graph
  before ks = record { commits = ks; branches = old.branches; head = old.head; records = old.records }

  module _ (k : Commit) (ks : List Commit) (g : Graph) (here : g.commits ≡ k ∷ ks) (s : HasShapeOf mid g) where
    cut_field : {B : Type 0} (f : Outline → B) → map f mid.commits ≡ map f (outlines g.commits) → (map f old.commits ≡ map f (outlines ks)) × (f m.outline ≡ f (outline_in (k ∷ ks) (suc (length ks))))
    cut_field f same =
        let newest_is = ap f (outline-newest k ks (suc (length ks)) refl) in
        let cut = older-field f old.commits m.outline k ks (ap (map f) (sym m.commits) ∙ same ∙ ap (λ (l : List Commit). map f (outlines l)) here) in
        (cut.0, cut.1 ∙ sym newest_is)

    shape-before : HasShapeOf old (before ks)
    shape-before = record { parents = (cut_field (λ o. o.parent) s.parents).0; profiles = (cut_field (λ o. o.profile) s.profiles).0; branches = refl; head = refl; records = refl }

    count-before : length old.commits ≡ suc (length ks)
    count-before = count-shape old (before ks) shape-before

    -- what fits the head's table before fits that of the newest commit's parent
    parent-fits : (d : Change) → FitsNext old d → old.head.commit < length old.commits → (number : ℕ) → number ≡ length old.commits → (c : Change) (cs : List Change) (most : ℕ) → TellsChanges mid (c ∷ cs)
        → AreChanges g (c ∷ cs) most → FitsTable (table_at g (change_of (c ∷ cs)) (outline_in g.commits number).parent) d
    parent-fits d head-fits there number is c cs most tells a =
        let told : TellsChanges old cs = (same-last old.noted (noted_in cs) (noted_of no_change) (noted_of c) (sym m.noted ∙ tells)).0 in
        let fits = head-fits (before ks) cs most shape-before told (older-changes g (before ks) k ks c cs most here refl a) in
        let counted : length cs ≡ length ks = (let n = a.counted in let e = ap length here in omega (arith, n, e)) in
        let parent : (outline_in g.commits number).parent ≡ old.head.commit =
        ap (λ (l : List Commit). (outline_in l number).parent) here
        ∙ ap (λ (n : ℕ). (outline_in (k ∷ ks) n).parent) (is ∙ count-before)
        ∙ sym (cut_field (λ o. o.parent) s.parents).1
        ∙ m.parent in
        let path : changes_in g.commits (change_of (c ∷ cs)) old.head.commit ≡ changes_in ks (change_of cs) old.head.commit =
        ap (λ (l : List Commit). changes_in l (change_of (c ∷ cs)) old.head.commit) here ∙ changes-before k ks c cs counted old.head.commit (omega (arith, there, count-before)) in
        subst (λ (n : ℕ). FitsTable (table_at g (change_of (c ∷ cs)) n) d) (sym parent) (subst (λ (l : List Change). FitsTable (table_of l) d) (sym path) fits)

  pub fits-parent : (d : Change) (number : ℕ) → number ≡ length old.commits → old.head.commit < length old.commits → length old.noted ≡ length old.commits → FitsNext old d → FitsParent mid number d
  fits-parent d number is there many head-fits g [] most s tells a =
      absurd (let n = ap length m.noted in let k = ap length tells in omega (arith, n, k, length-append old.noted (noted_of no_change ∷ []), many, there))
  fits-parent d number is there many head-fits g (c ∷ cs) most s tells a = by_commits g.commits refl
    where
      by_commits : (ks : List Commit) → ks ≡ g.commits → FitsTable (table_at g (change_of (c ∷ cs)) (outline_in g.commits number).parent) d
      by_commits [] e = absurd (let n = a.counted in let k = ap length e in omega (arith, n, k))
      by_commits (k ∷ ks) e = parent-fits k ks g (sym e) s d head-fits there number is c cs most tells a

  -- nothing is noted of it
  pub none-noted : (number : ℕ) → number ≡ length old.noted → get_or mid.noted number (noted_of no_change) ≡ noted_of no_change
  none-noted number is =
      ap (λ (l : List Noted). get_or l number (noted_of no_change)) m.noted
      ∙ ap (λ (n : ℕ). get_or (old.noted ++ (noted_of no_change ∷ [])) n (noted_of no_change)) is
      ∙ get_or-append_seam old.noted (noted_of no_change) [] (noted_of no_change)

  -- what is noted of it in the place of that is noted behind those of the commits before
  pub takes-change : (d : Change) (new : Kept) → ((c : Change) (cs : List Change) → TellsChanges mid (c ∷ cs) → TellsChanges new (d ∷ cs)) → TakesChange old d new
  takes-change d new noted cs tells = noted no_change cs (m.noted ∙ ap (λ (l : List Noted). l ++ (noted_of no_change ∷ [])) tells)

-- What is kept besides stays.
stands-noted : (old new : Kept) (g : Graph) → KeepsAllBut old new → StandsFor old g → StandsFor new g
stands-noted old new g k s = record {
  shape = record {
    parents = ap parents_of k.commits ∙ s.shape.parents;
    profiles = ap profiles_of k.commits ∙ s.shape.profiles;
    branches = k.branches ∙ s.shape.branches;
    head = k.head ∙ s.shape.head;
    records = k.records ∙ s.shape.records;
  };
  cells = record {
    counts = ap (map (λ (o : Outline). o.cells)) k.commits ∙ s.cells.counts;
    lines = ap (map (λ (o : Outline). o.line)) k.commits ∙ s.cells.lines;
  };
}

pub takes-noted : (old mid new : Kept) (profile : Profile) (texts : List (List ℕ)) → TakesCommit old profile texts mid → KeepsAllBut mid new → TakesCommit old profile texts new
takes-noted old mid new profile texts t k = record { room = t.room; stands = λ g s. stands-noted mid new _ k (t.stands g s) }
