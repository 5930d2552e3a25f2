-- The first fault, in the order in which they are tried.
use Rattle.std.proofs.Common.{◌≡◌, ℕ, Bool, true, false, cond, not, List, [], length, Option, Some, None, is_some, codes, option_map, unwrap_or, Ok, Err, refl, sym, ap, ◌∙◌}
use Rattle.std.proofs.lemmas.Option.{none-some}
use Rattle.std.proofs.lemmas.Str.{IsUtf8-from_is_utf8, is_utf8-from_IsUtf8}
use Rattle.std.specs.Option.{option_or}
use Rattle.std.specs.Str.{is_utf8, IsUtf8}
use Rattle.serde_json.proofs.Views.{items_len-items_view}
use Rattle.serde_json.specs.Data.{Data, Items, no_items}
use Rattle.serde_json.specs.Events.{items_len}
use Rattle.serde_json.specs.Read.{read}
use Rattle.serde_json.specs.View.{items_view}
use Rattle.serde_json.specs.Written.{has_float}
use Rattle.serde_json.specs.declared.value.Value.{Value}
use Rattle.kishu_model.specs.notebooks.Cells.{has_object}
use Rattle.kishu_model.specs.notebooks.Notebook.{Key, format_key, minor_key, metadata_key, cells_key, Fault, not_json, not_notebook, version, bad_cell, repeated_id, not_whole, whole_at, cells_at, has_format, cells_of, missing_key, other_minor, bad_cell_from, repeated_from, unwhole, fault_from, fault_in, judged, verdict, verdict_on, opening}

-- ---- in the cells

pub bad_first : (cells : Items) (d : Data) (i : ℕ) → Some i ≡ bad_cell_from 0 cells → Some (bad_cell i) ≡ fault_from cells d
unfolding fault_from
bad_first cells d i bad = ap (λ (o : Option ℕ). option_or (option_map bad_cell o) (option_or (option_map repeated_id (repeated_from [] 0 cells)) (unwhole d))) bad

past_bad : (cells : Items) (d : Data) → None ≡ bad_cell_from 0 cells → option_or (option_map repeated_id (repeated_from [] 0 cells)) (unwhole d) ≡ fault_from cells d
unfolding fault_from
past_bad cells d bad = ap (λ (o : Option ℕ). option_or (option_map bad_cell o) (option_or (option_map repeated_id (repeated_from [] 0 cells)) (unwhole d))) bad

pub repeated_next : (cells : Items) (d : Data) (i : ℕ) → None ≡ bad_cell_from 0 cells → Some i ≡ repeated_from [] 0 cells → Some (repeated_id i) ≡ fault_from cells d
repeated_next cells d i bad repeated = ap (λ (o : Option ℕ). option_or (option_map repeated_id o) (unwhole d)) repeated ∙ past_bad cells d bad

past_repeated : (cells : Items) (d : Data) → None ≡ bad_cell_from 0 cells → None ≡ repeated_from [] 0 cells → unwhole d ≡ fault_from cells d
past_repeated cells d bad repeated = ap (λ (o : Option ℕ). option_or (option_map repeated_id o) (unwhole d)) repeated ∙ past_bad cells d bad

pub float_next : (cells : Items) (d : Data) → None ≡ bad_cell_from 0 cells → None ≡ repeated_from [] 0 cells → true ≡ has_float d → Some not_whole ≡ fault_from cells d
unfolding unwhole
float_next cells d bad repeated some = ap (λ (b : Bool). cond b (Some not_whole) None) some ∙ past_repeated cells d bad repeated

pub no_fault : (cells : Items) (d : Data) → None ≡ bad_cell_from 0 cells → None ≡ repeated_from [] 0 cells → false ≡ has_float d → None ≡ fault_from cells d
unfolding unwhole
no_fault cells d bad repeated some = ap (λ (b : Bool). cond b (Some not_whole) None) some ∙ past_repeated cells d bad repeated

-- ---- in the whole

pub key_first : (d : Data) (k : Key) → Some k ≡ missing_key d → Some (not_notebook k) ≡ fault_in d
unfolding fault_in
key_first d k missing = ap (λ (o : Option Key). option_or (option_map not_notebook o) (option_or (option_map version (other_minor d)) (fault_from (cells_of d) d))) missing

past_keys : (d : Data) → None ≡ missing_key d → option_or (option_map version (other_minor d)) (fault_from (cells_of d) d) ≡ fault_in d
unfolding fault_in
past_keys d missing = ap (λ (o : Option Key). option_or (option_map not_notebook o) (option_or (option_map version (other_minor d)) (fault_from (cells_of d) d))) missing

pub minor_next : (d : Data) (m : ℕ) → None ≡ missing_key d → Some m ≡ other_minor d → Some (version m) ≡ fault_in d
minor_next d m missing other = ap (λ (o : Option ℕ). option_or (option_map version o) (fault_from (cells_of d) d)) other ∙ past_keys d missing

pub cells_next : (d : Data) → None ≡ missing_key d → None ≡ other_minor d → fault_from (cells_of d) d ≡ fault_in d
cells_next d missing other = ap (λ (o : Option ℕ). option_or (option_map version o) (fault_from (cells_of d) d)) other ∙ past_keys d missing

-- where no key is missing there are cells
missing_at : (a b c : Bool) (o : Option Items)
    → None ≡ cond (not a) (Some format_key) (cond (not b) (Some minor_key) (cond (not c) (Some metadata_key) (cond (not (is_some o)) (Some cells_key) None))) → None ≡ o → ⊥
missing_at a b c (Some ds) missing none = none-some ds none
missing_at false b c None missing none = none-some format_key missing
missing_at true false c None missing none = none-some minor_key missing
missing_at true true false None missing none = none-some metadata_key missing
missing_at true true true None missing none = none-some cells_key missing

pub cells_there : (d : Data) → None ≡ missing_key d → None ≡ cells_at d → ⊥
unfolding missing_key
cells_there d missing none =
    missing_at (has_format d) (is_some (whole_at (codes "nbformat_minor") d)) (has_object (codes "metadata") d) (cells_at d) missing none

pub cells_are : (d : Data) (vs : List Value) → Some (items_view vs) ≡ cells_at d → items_view vs ≡ cells_of d
cells_are d vs found = ap (λ (o : Option Items). unwrap_or o no_items) found

pub no_cells : (d : Data) → None ≡ cells_at d → no_items ≡ cells_of d
no_cells d none = ap (λ (o : Option Items). unwrap_or o no_items) none

pub cells_len : (d : Data) (vs : List Value) → Some (items_view vs) ≡ cells_at d → length vs ≡ items_len (cells_of d)
cells_len d vs found = sym (items_len-items_view vs) ∙ ap items_len (cells_are d vs found)

-- ---- the verdict

pub verdict_ok : (d : Data) → None ≡ fault_in d → verdict d ≡ Ok d
unfolding verdict
verdict_ok d none = ap (judged d) (sym none)

pub verdict_err : (d : Data) (fault : Fault) → Some fault ≡ fault_in d → verdict d ≡ Err fault
unfolding verdict
verdict_err d fault is = ap (judged d) (sym is)

last_none : {A : Type 0} (a b : Option A) → None ≡ option_or a b → None ≡ b
last_none None b none = none
last_none (Some x) b none = absurd (none-some x none)

no_float_at : (b : Bool) → None ≡ cond b (Some not_whole) None → b ≡ false
no_float_at true none = absurd (none-some not_whole none)
no_float_at false none = refl

past_all_keys : (d : Data) → None ≡ fault_in d → None ≡ fault_from (cells_of d) d
unfolding fault_in
past_all_keys d none =
    last_none (option_map version (other_minor d)) (fault_from (cells_of d) d)
    (last_none (option_map not_notebook (missing_key d)) (option_or (option_map version (other_minor d)) (fault_from (cells_of d) d)) none)

past_all_cells : (cells : Items) (d : Data) → None ≡ fault_from cells d → None ≡ unwhole d
unfolding fault_from
past_all_cells cells d none =
    last_none (option_map repeated_id (repeated_from [] 0 cells)) (unwhole d)
    (last_none (option_map bad_cell (bad_cell_from 0 cells)) (option_or (option_map repeated_id (repeated_from [] 0 cells)) (unwhole d)) none)

no_float : (d : Data) → None ≡ unwhole d → has_float d ≡ false
unfolding unwhole
no_float d none = no_float_at (has_float d) none

-- A value without a fault has no float.
pub whole_numbers : (d : Data) → None ≡ fault_in d → has_float d ≡ false
whole_numbers d none = no_float d (past_all_cells (cells_of d) d (past_all_keys d none))

valued : (b : Bool) (o : Option Data) (d : Data) → b ≡ true → o ≡ Some d → verdict_on (cond b o None) ≡ verdict d
valued b o d text value = rw (text, value) refl

pub opening_of_value : (bytes : List ℕ) (d : Data) → IsUtf8 bytes → read bytes ≡ Some d → opening bytes ≡ verdict d
unfolding opening
opening_of_value bytes d utf8 value = valued (is_utf8 bytes) (read bytes) d (is_utf8-from_IsUtf8 bytes utf8) value

valueless : (b : Bool) (o : Option Data) → (b ≡ true → o ≡ None) → verdict_on (cond b o None) ≡ Err not_json
valueless true o none = rw (none refl) refl
valueless false o none = refl

pub opening_of_none : (bytes : List ℕ) → (IsUtf8 bytes → read bytes ≡ None) → opening bytes ≡ Err not_json
unfolding opening
opening_of_none bytes none = valueless (is_utf8 bytes) (read bytes) (λ e. none (IsUtf8-from_is_utf8 bytes e))
