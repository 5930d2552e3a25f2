-- Of states that are the same a commit says the same, and what it stores of the one can be stored of the other.
use Rattle.std.specs.Prelude.{◌≡◌, ◌&&◌, ℕ, not, List, filter, length, map}
use Rattle.std.specs.List.{AllByRecursion}
use Rattle.std.proofs.Common.{ap, ◌∙◌, subst}
use Rattle.kishu_meaning.specs.values.Values.{State}
use Rattle.kishu_objects.specs.Bytes.{state_bytes}
use Rattle.kishu_objects.specs.Fits.{StateFits}
use Rattle.kishu_objects.specs.Picture.{picture}
use Rattle.kishu_objects.specs.Same.{Same}
use Rattle.kishu_objects.specs.States.{IsSoundState}
use Rattle.kishu_store.specs.Entries.{Record, commit}
use Rattle.kishu_store.specs.Groups.{Group, is_one_of}
use Rattle.kishu_store.specs.Histories.{History, head_table}
use Rattle.kishu_store.specs.Limits.{newest_profile}
use Rattle.kishu_store.specs.Tables.{Table, groups_in}
use Rattle.kishu_history.specs.Alike.{is_state}
use Rattle.kishu_history.specs.Touched.{classes, holds_any}
use Rattle.kishu_history_laws.specs.states.SameLaws.{same_pictures}
use Rattle.kishu_history_laws.specs.cells.LedLaws.{classes_of_same}
use Rattle.kishu_commit.specs.Told.{next_record, CanBeStored}

module _ (s : State) (accessed : List (List ℕ)) where
  -- what a commit says by the classes of the touched names and the pictures of groups
  module _ (gs now : List Group) (pictures : Group → State) where
    abbrev drops : List Group
    drops = filter (λ (g : Group). holds_any accessed g && not (is_one_of g now && is_state (pictures g) (picture s g))) gs

    abbrev stores : List Group
    stores = filter (λ (g : Group). not (is_one_of g gs && is_state (pictures g) (picture s g))) now

    abbrev record-from : (parent : ℕ) → (cells : List (List ℕ)) → Record
    record-from parent cells = record {
      entry = commit parent newest_profile cells drops (map (λ (g : Group). (g, length (state_bytes (pictures g)))) stores);
      pictures = map (λ (g : Group). state_bytes (pictures g)) stores;
    }

    abbrev Fit : Type 0
    Fit = AllByRecursion (λ (g : Group). StateFits (pictures g)) stores

  module _ (u x : State) (here : IsSoundState u) (there : IsSoundState x) (same : Same u x) where
    pictures-same : picture u ≡ picture x
    pictures-same = λ i g. same_pictures u x here there same g i

    pub record-same : (h : History) (cells : List (List ℕ)) → next_record h cells s accessed u ≡ next_record h cells s accessed x
    record-same h cells =
        let gs = groups_in (head_table h) in
        ap (λ (now : List Group). record-from gs now (picture u) h.graph.head.commit cells) (classes_of_same u x here there same gs accessed)
        ∙ ap (λ (ps : Group → State). record-from gs (classes gs accessed x) ps h.graph.head.commit cells) pictures-same

    pub fits-same : (t : Table) → CanBeStored t s accessed u → CanBeStored t s accessed x
    fits-same t fits =
        let gs = groups_in t in
        subst (λ (ps : Group → State). Fit gs (classes gs accessed x) ps) pictures-same
        (subst (λ (now : List Group). Fit gs now (picture u)) (classes_of_same u x here there same gs accessed) fits)
