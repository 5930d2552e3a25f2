-- Of the names that cells access only which they are counts: lists of the same names touch, drop and store the same groups, and tell the same size.
use Rattle.std.specs.Prelude.{◌≡◌, ◌↔◌, ◌+◌, ◌||◌, ◌&&◌, ℕ, Bool, not, List, filter}
use Rattle.std.specs.List.{list_any}
use Rattle.std.proofs.Common.{ap, ◌∙◌}
use Rattle.std.proofs.Math.Path.{fun_ext}
use Rattle.kishu_language.specs.tokens.Names.{is_among}
use Rattle.kishu_meaning.specs.values.Values.{State}
use Rattle.kishu_objects.specs.Groups.{groups}
use Rattle.kishu_objects.specs.Lists.{In}
use Rattle.kishu_objects.specs.Picture.{picture, listed}
use Rattle.kishu_objects.specs.Sizes.{size_among}
use Rattle.kishu_history.specs.Alike.{is_state}
use Rattle.kishu_history.specs.Changed.{Group, is_one_of}
use Rattle.kishu_history.specs.Tables.{Table, groups_in, bytes_in}
use Rattle.kishu_history.specs.Touched.{holds_any, is_touched, untouched, touched, classes, dropped_among, stored_among, change_told, size_told}
use Rattle.kishu_history_laws.specs.Choices.{among_decides, one_truth}

module _ (a b : List (List ℕ)) (same : (x : List ℕ) → (In x a ↔ In x b)) where
  among_same : (x : List ℕ) → is_among x a ≡ is_among x b
  among_same x =
      one_truth (is_among x a) (is_among x b)
      (λ e. (among_decides x b).1 ((same x).0 ((among_decides x a).0 e)))
      (λ e. (among_decides x a).1 ((same x).1 ((among_decides x b).0 e)))

  pub holds_same : (g : Group) → holds_any a g ≡ holds_any b g
  holds_same g = ap (λ (test : List ℕ → Bool). list_any test g) (fun_ext among_same)

  groups_same : holds_any a ≡ holds_any b
  groups_same = fun_ext holds_same

  pub untouched_same : (t : Table) → untouched t a ≡ untouched t b
  untouched_same t = ap (λ (test : Group → Bool). filter (λ r. not (test r.group)) t) groups_same

  -- ---- beside the groups of a table

  module _ (gs : List Group) where
    touches_same : (x : List ℕ) → is_touched gs a x ≡ is_touched gs b x
    touches_same x =
        ap (λ (c : Bool). c || list_any (λ g. holds_any a g && is_among x g) gs) (among_same x)
        ∙ ap (λ (test : Group → Bool). is_among x b || list_any (λ g. test g && is_among x g) gs) groups_same

    pub touched_same : (s : State) → touched gs a s ≡ touched gs b s
    touched_same s = ap (λ (test : List ℕ → Bool). filter test (listed s)) (fun_ext touches_same)

    pub classes_same : (s : State) → classes gs a s ≡ classes gs b s
    classes_same s = ap (groups s) (touched_same s)

    pub dropped_same : (pic : Group → State) (s : State) → dropped_among gs pic a s ≡ dropped_among gs pic b s
    dropped_same pic s =
        ap (λ (test : Group → Bool). filter (λ g. test g && not (is_one_of g (classes gs a s) && is_state (picture s g) (pic g))) gs) groups_same
        ∙ ap (λ (cs : List Group). filter (λ g. holds_any b g && not (is_one_of g cs && is_state (picture s g) (pic g))) gs) (classes_same s)

    pub stored_same : (pic : Group → State) (s : State) → stored_among gs pic a s ≡ stored_among gs pic b s
    stored_same pic s = ap (λ (cs : List Group). filter (λ g. not (is_one_of g gs && is_state (picture s g) (pic g))) cs) (classes_same s)

  -- ---- by a table

  pub size_same : (t : Table) (s : State) → size_told t a s ≡ size_told t b s
  size_same t s =
      ap (λ (rows : Table). bytes_in rows + size_among (classes (groups_in t) a s) s) (untouched_same t)
      ∙ ap (λ (cs : List Group). bytes_in (untouched t b) + size_among cs s) (classes_same (groups_in t) s)

  pub change_same : (t : Table) (s u : State) (rows : Table) → change_told t s a u rows ≡ change_told t s b u rows
  change_same t s u rows = ap (λ (gone : List Group). record { dropped = gone; stored = rows }) (dropped_same (groups_in t) (picture s) u)
