-- What a change of what is kept means for the graph that it stands for.
use Rattle.std.proofs.Common.{◌≡◌, ◌<◌, ◌≤◌, ◌+◌, ℕ, suc, true, false, List, [], ◌∷◌, ◌++◌, length, map, Option, Some, None, refl, sym, ap, ◌∙◌, ⊎_elim, arith}
use Rattle.std.proofs.lemmas.Bool.Decides.{leb_tells}
use Rattle.std.proofs.lemmas.List.{map_push}
use Rattle.std.specs.Prelude.{nat_le, nat_lt, if◌then◌else◌, option_map, is_some}
use Rattle.kishu_store.specs.Branches.{commit_of, with_branch_at, is_branch_name}
use Rattle.kishu_store.specs.CommitLines.{line_in}
use Rattle.kishu_store.specs.Graph.{Commit, Graph, Target, newest, moved_with, with_commit}
use Rattle.kishu_store.specs.Limits.{most_records}
use Rattle.kishu_store.specs.References.{is_decimal, number_from, resolve}
use Rattle.kishu_store.specs.Tables.{no_change}
use Rattle.kishu_graph.specs.declared.fault.GraphFault.{GraphFault}
use Rattle.kishu_graph.specs.declared.fault.GraphFault.TheVariants.{BadName, NameTaken, StoreFull}
use Rattle.kishu_graph.specs.Kept.{Kept, Outline, HasShapeOf, StandsFor, outlines, outline_of, parents_of, profiles_of, noted_of}
use Rattle.kishu_graph.specs.Laws.{count-shape}
use Rattle.kishu_graph.specs.Refusals.{full, unless_there, unless_named, at_commit, at_branch, HasMoved, HasBranched}

less-suc : (a b : ℕ) → nat_lt a (suc b) ≡ nat_le a b
less-suc a b =
    ⊎_elim
    (λ p. ⊎_elim (λ q. q.0 ∙ sym p.0) (λ q. absurd (omega (arith, p.1, q.1))) (leb_tells (suc a) (suc b)))
    (λ p. ⊎_elim (λ q. absurd (omega (arith, p.1, q.1))) (λ q. q.0 ∙ sym p.0) (leb_tells (suc a) (suc b)))
    (leb_tells a b)

module _ (kept : Kept) (g : Graph) (s : HasShapeOf kept g) where
  count : length kept.commits ≡ suc (newest g)
  count = count-shape kept g s

  pub room : kept.records < most_records → full g ≡ None
  room h =
      ⊎_elim
      (λ p. absurd (omega (arith, h, p.1, s.records)))
      (λ p. rw p.0 refl)
      (leb_tells most_records g.records)

  pub no_room : most_records ≤ kept.records → full g ≡ Some StoreFull
  no_room h =
      ⊎_elim
      (λ p. rw p.0 refl)
      (λ p. absurd (omega (arith, h, p.1, s.records)))
      (leb_tells most_records g.records)

  -- the commit of a number, where there is one
  pub there-is : (n : ℕ) (o : Option ℕ) → o ≡ (if nat_lt n (length kept.commits) then Some n else None) → option_map (λ c. record { commit = c; branch = None }) o ≡ at_commit n g
  there-is n o h =
      ⊎_elim
      (λ p. let yes : nat_lt n (length kept.commits) ≡ true = ap (nat_lt n) count ∙ less-suc n (newest g) ∙ p.0 in rw (h, yes, p.0) refl)
      (λ p. let no : nat_lt n (length kept.commits) ≡ false = ap (nat_lt n) count ∙ less-suc n (newest g) ∙ p.0 in rw (h, no, p.0) refl)
      (leb_tells n (newest g))

  pub commit-there : (n : ℕ) (o : Option ℕ) → o ≡ (if nat_lt n (length kept.commits) then Some n else None) → o ≡ option_map (λ t. t.commit) (at_commit n g)
  commit-there n o h =
      ⊎_elim
      (λ p. let yes : nat_lt n (length kept.commits) ≡ true = ap (nat_lt n) count ∙ less-suc n (newest g) ∙ p.0 in rw (h, yes, p.0) refl)
      (λ p. let no : nat_lt n (length kept.commits) ≡ false = ap (nat_lt n) count ∙ less-suc n (newest g) ∙ p.0 in rw (h, no, p.0) refl)
      (leb_tells n (newest g))

pub resolves-number : (g : Graph) (to : List ℕ) → is_decimal to ≡ true → at_commit (number_from 0 to) g ≡ resolve g to
resolves-number g to h = rw h refl

pub resolves-branch : (g : Graph) (to : List ℕ) → is_decimal to ≡ false → at_branch to g ≡ resolve g to
resolves-branch g to h = rw h refl

-- ---- changes

-- all but the head and the records stays
pub record Moves (old new : Kept) (t : Target) : Type 0 where
  pub room : old.records < most_records
  pub commits : new.commits ≡ old.commits
  pub noted : new.noted ≡ old.noted
  pub branches : new.branches ≡ old.branches
  pub head : new.head ≡ t
  pub records : new.records ≡ old.records + 1

pub moved : (old new : Kept) (t : Target) → Moves old new t → (g : Graph) → HasShapeOf old g → HasMoved (Some t) g t.commit old new
moved old new t m g s = record {
  there = t;
  target_is = refl;
  commit_is = refl;
  accepted = room old g s m.room;
  shape = record {
    parents = ap parents_of m.commits ∙ s.parents;
    profiles = ap profiles_of m.commits ∙ s.profiles;
    branches = m.branches ∙ s.branches;
    head = m.head;
    records = omega (arith, m.records, s.records);
  };
  commits = m.commits;
  noted = m.noted;
}

-- all but the branches and the records stays
pub record Branches (old new : Kept) (name : List ℕ) (commit : ℕ) : Type 0 where
  pub named : is_branch_name name ≡ true
  pub free : is_some (commit_of name old.branches) ≡ false
  pub room : old.records < most_records
  pub commits : new.commits ≡ old.commits
  pub noted : new.noted ≡ old.noted
  pub branches : new.branches ≡ with_branch_at name commit old.branches
  pub head : new.head ≡ old.head
  pub records : new.records ≡ old.records + 1

pub branched : (old new : Kept) (name : List ℕ) (commit : ℕ) → Branches old new name commit → (g : Graph) → HasShapeOf old g → HasBranched name (Some commit) g commit old new
branched old new name commit m g s =
    let free : is_some (commit_of name g.branches) ≡ false = ap (λ bs. is_some (commit_of name bs)) (sym s.branches) ∙ m.free in
    record {
      start_is = refl;
      accepted = rw (m.named, free, room old g s m.room) refl;
      shape = record {
        parents = ap parents_of m.commits ∙ s.parents;
        profiles = ap profiles_of m.commits ∙ s.profiles;
        branches = m.branches ∙ ap (with_branch_at name commit) s.branches;
        head = m.head ∙ s.head;
        records = omega (arith, m.records, s.records);
      };
      commits = m.commits;
      noted = m.noted;
    }

-- why a branch isn't made
pub bad-name : (name : List ℕ) (start : Option ℕ) (g : Graph) → is_branch_name name ≡ false → unless_named name start g ≡ Some BadName
bad-name name start g h = rw h refl

pub name-taken : (old : Kept) (name : List ℕ) (start : Option ℕ) (g : Graph) → HasShapeOf old g → is_branch_name name ≡ true → is_some (commit_of name old.branches) ≡ true → unless_named name start g ≡ Some NameTaken
name-taken old name start g s h t =
    let taken : is_some (commit_of name g.branches) ≡ true = ap (λ bs. is_some (commit_of name bs)) (sym s.branches) ∙ t in
    rw (h, taken) refl

pub not-there : (old : Kept) (name : List ℕ) (start : Option ℕ) (g : Graph) (f : GraphFault) → HasShapeOf old g → is_branch_name name ≡ true → is_some (commit_of name old.branches) ≡ false → unless_there start g ≡ Some f
    → unless_named name start g ≡ Some f
not-there old name start g f s h t e =
    let free : is_some (commit_of name g.branches) ≡ false = ap (λ bs. is_some (commit_of name bs)) (sym s.branches) ∙ t in
    rw (h, free, e) refl

-- a commit more, the branch of the head along with it
pub record Commits (old new : Kept) (k : Outline) : Type 0 where
  pub parent : k.parent ≡ old.head.commit
  pub commits : new.commits ≡ old.commits ++ (k ∷ [])
  pub branches : new.branches ≡ moved_with old.head.branch (length old.commits) old.branches
  pub head : new.head ≡ record { commit = length old.commits; branch = old.head.branch }
  pub records : new.records ≡ old.records + 1
  pub noted : new.noted ≡ old.noted ++ (noted_of no_change ∷ [])

-- what is alike of all commits, and of one more
module _ {B : Type 0} (f : Outline → B) (os ps : List Outline) (k : Outline) (ks : List Commit) (j : Commit) where
  one-more : ps ≡ os ++ (k ∷ []) → map f os ≡ map f (outlines ks) → f k ≡ f (outline_of j) → map f ps ≡ map f (outlines (j ∷ ks))
  one-more is all same =
      ap (map f) is
      ∙ map_push f os k
      ∙ ap (λ l. l ++ (f k ∷ [])) all
      ∙ ap (λ x. map f (outlines ks) ++ (x ∷ [])) same
      ∙ sym (map_push f (outlines ks) (outline_of j))

module _ (old new : Kept) (k : Outline) (m : Commits old new k) (g : Graph) (texts : List (List ℕ)) where
  abbrev child : Commit
  child = record { parent = g.head.commit; profile = k.profile; cells = texts }

  pub committed-shape : HasShapeOf old g → HasShapeOf new (with_commit k.profile texts g)
  committed-shape s =
      let number = count-shape old g s in
      record {
        parents = one-more (λ (o : Outline). o.parent) old.commits new.commits k g.commits child m.commits s.parents (m.parent ∙ ap (λ (t : Target). t.commit) s.head);
        profiles = one-more (λ (o : Outline). o.profile) old.commits new.commits k g.commits child m.commits s.profiles refl;
        branches = m.branches ∙ ap (λ n. moved_with old.head.branch n old.branches) number ∙ ap (λ t. moved_with t.branch (suc (newest g)) old.branches) s.head ∙ ap (moved_with g.head.branch (suc (newest g))) s.branches;
        head = m.head ∙ ap (λ n. record { commit = n; branch = old.head.branch }) number ∙ ap (λ t. record { commit = suc (newest g); branch = t.branch }) s.head;
        records = omega (arith, m.records, s.records);
      }

  pub committed : StandsFor old g → length texts ≡ k.cells → line_in texts ≡ k.line → StandsFor new (with_commit k.profile texts g)
  committed s cells line = record {
    shape = committed-shape s.shape;
    cells = record {
      counts = one-more (λ (o : Outline). o.cells) old.commits new.commits k g.commits child m.commits s.cells.counts (sym cells);
      lines = one-more (λ (o : Outline). o.line) old.commits new.commits k g.commits child m.commits s.cells.lines (sym line);
    };
  }
