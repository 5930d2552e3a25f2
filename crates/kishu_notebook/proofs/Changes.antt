-- One entry of a map, or one item of a list, that was written, beside the change in the value that it stands for.
use Rattle.std.proofs.Common.{◌≡◌, ℕ, zero, suc, ◌<◌, ◌≤◌, Bool, true, false, cond, List, [], ◌∷◌, length, get_or, set, Option, Some, None, is_eq, string_bytes, ⊎_elim, refl, sym, ap, ◌∙◌, arith}
use Rattle.std.proofs.lemmas.Bool.{cases_lt}
use Rattle.std.proofs.lemmas.Map.Text.{is_eq-slice_cmp}
use Rattle.std.proofs.lemmas.Option.{none-some, same_Some}
use Rattle.std.specs.BTreeMap.{is_at}
use Rattle.std.specs.Cmp.Lexicographic.{slice_cmp}
use Rattle.std.specs.Map.{lookup, set_value}
use Rattle.std.specs.Ordering.{nat_cmp}
use Rattle.serde_json.proofs.Views.{Entry}
use Rattle.serde_json.specs.Data.{Data, null, boolean, number, string, array, object, Items, item, Members, member}
use Rattle.serde_json.specs.Find.{as_array, as_object}
use Rattle.serde_json.specs.View.{view, items_view, members_view}
use Rattle.serde_json.specs.declared.value.Value.{Value}
use Rattle.kishu_notebook.specs.Places.{item_changed}
use Rattle.kishu_model.specs.notebooks.Setting.{members_changed, changed_at, in_cells, with_run}

-- ---- an entry

module _ (key : List ℕ) (f : Data → Data) where
  written_at : (b : Bool) (found : Option Value) (e : Entry) (es rest : List Entry) (v w : Value) → cond b (Some e.1) found ≡ Some v → view w ≡ f (view v)
      → (found ≡ Some v → members_view rest ≡ members_changed key f (members_view es))
      → members_view (cond b ((e.0, w) ∷ es) (e ∷ rest)) ≡ cond b (member (string_bytes e.0) (f (view e.1)) (members_view es)) (member (string_bytes e.0) (view e.1) (members_changed key f (members_view es)))
  written_at true found e es rest v w is new later = ap (λ (d : Data). member (string_bytes e.0) d (members_view es)) (new ∙ ap (λ (x : Value). f (view x)) (sym (same_Some e.1 v is)))
  written_at false found e es rest v w is new later = ap (member (string_bytes e.0) (view e.1)) (later is)

  pub written : (es : List Entry) (v w : Value) → lookup (is_at (λ k. slice_cmp nat_cmp key (string_bytes k))) es ≡ Some v → view w ≡ f (view v)
      → members_view (set_value (is_at (λ k. slice_cmp nat_cmp key (string_bytes k))) es w) ≡ members_changed key f (members_view es)
  written [] v w is new = absurd (none-some v is)
  written (e ∷ es) v w is new =
      written_at (is_eq (slice_cmp nat_cmp key (string_bytes e.0))) (lookup (is_at (λ k. slice_cmp nat_cmp key (string_bytes k))) es) e es
      (set_value (is_at (λ k. slice_cmp nat_cmp key (string_bytes k))) es w) v w is new (λ found. written es v w found new)
      ∙ ap (λ (b : Bool). cond b (member (string_bytes e.0) (f (view e.1)) (members_view es)) (member (string_bytes e.0) (view e.1) (members_changed key f (members_view es))))
      (is_eq-slice_cmp key (string_bytes e.0))

  unwritten_at : (b : Bool) (found : Option Value) (e : Entry) (es : List Entry) → cond b (Some e.1) found ≡ None → (found ≡ None → members_changed key f (members_view es) ≡ members_view es)
      → cond b (member (string_bytes e.0) (f (view e.1)) (members_view es)) (member (string_bytes e.0) (view e.1) (members_changed key f (members_view es))) ≡ members_view (e ∷ es)
  unwritten_at true found e es is later = absurd (none-some e.1 (sym is))
  unwritten_at false found e es is later = ap (member (string_bytes e.0) (view e.1)) (later is)

  pub unwritten : (es : List Entry) → lookup (is_at (λ k. slice_cmp nat_cmp key (string_bytes k))) es ≡ None → members_changed key f (members_view es) ≡ members_view es
  unwritten [] is = refl
  unwritten (e ∷ es) is =
      ap (λ (b : Bool). cond b (member (string_bytes e.0) (f (view e.1)) (members_view es)) (member (string_bytes e.0) (view e.1) (members_changed key f (members_view es))))
      (sym (is_eq-slice_cmp key (string_bytes e.0)))
      ∙ unwritten_at (is_eq (slice_cmp nat_cmp key (string_bytes e.0))) (lookup (is_at (λ k. slice_cmp nat_cmp key (string_bytes k))) es) e es is (unwritten es)

-- ---- an item

pub not_below : (i n : ℕ) → (i < n → ⊥) → n ≤ i
not_below i n never = ⊎_elim (λ below. absurd (never below)) (λ past. past) (cases_lt i n)

pub item_written : (f : Data → Data) (vs : List Value) (i : ℕ) (v w : Value) → i < length vs → v ≡ get_or vs i v → view w ≡ f (view v) → items_view (set vs i w) ≡ item_changed i f (items_view vs)
item_written f [] i v w within is new = absurd (omega arith)
item_written f (x ∷ vs) zero v w within is new = ap (λ (d : Data). item d (items_view vs)) (new ∙ ap (λ (y : Value). f (view y)) is)
item_written f (x ∷ vs) (suc i) v w within is new = ap (item (view x)) (item_written f vs i v w (omega arith) is new)

pub item_unwritten : (f : Data → Data) (vs : List Value) (i : ℕ) → length vs ≤ i → item_changed i f (items_view vs) ≡ items_view vs
item_unwritten f [] i past = refl
item_unwritten f (x ∷ vs) zero past = absurd (omega arith)
item_unwritten f (x ∷ vs) (suc i) past = ap (item (view x)) (item_unwritten f vs i (omega arith))

-- ---- a value that is an object or an array, or none

pub as_object_is : (d : Data) (ms : Members) → Some ms ≡ as_object d → d ≡ object ms
as_object_is null ms is = absurd (none-some ms (sym is))
as_object_is (boolean b) ms is = absurd (none-some ms (sym is))
as_object_is (number n) ms is = absurd (none-some ms (sym is))
as_object_is (string s) ms is = absurd (none-some ms (sym is))
as_object_is (array ds) ms is = absurd (none-some ms (sym is))
as_object_is (object ns) ms is = ap object (sym (same_Some ms ns is))

pub as_array_is : (d : Data) (ds : Items) → Some ds ≡ as_array d → d ≡ array ds
as_array_is null ds is = absurd (none-some ds (sym is))
as_array_is (boolean b) ds is = absurd (none-some ds (sym is))
as_array_is (number n) ds is = absurd (none-some ds (sym is))
as_array_is (string s) ds is = absurd (none-some ds (sym is))
as_array_is (array es) ds is = ap array (sym (same_Some ds es is))
as_array_is (object ms) ds is = absurd (none-some ds (sym is))

pub changed_unchanged : (key : List ℕ) (f : Data → Data) (d : Data) → None ≡ as_object d → changed_at key f d ≡ d
changed_unchanged key f null none = refl
changed_unchanged key f (boolean b) none = refl
changed_unchanged key f (number n) none = refl
changed_unchanged key f (string s) none = refl
changed_unchanged key f (array ds) none = refl
changed_unchanged key f (object ms) none = absurd (none-some ms none)

pub run_unchanged : (outputs count d : Data) → None ≡ as_object d → with_run outputs count d ≡ d
run_unchanged outputs count null none = refl
run_unchanged outputs count (boolean b) none = refl
run_unchanged outputs count (number n) none = refl
run_unchanged outputs count (string s) none = refl
run_unchanged outputs count (array ds) none = refl
run_unchanged outputs count (object ms) none = absurd (none-some ms none)

pub cells_unchanged : (f : Items → Items) (d : Data) → None ≡ as_array d → in_cells f d ≡ d
cells_unchanged f null none = refl
cells_unchanged f (boolean b) none = refl
cells_unchanged f (number n) none = refl
cells_unchanged f (string s) none = refl
cells_unchanged f (array ds) none = absurd (none-some ds none)
cells_unchanged f (object ms) none = refl
