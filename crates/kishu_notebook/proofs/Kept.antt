-- What stays as results are set: the places and the texts of the code cells, and that no number is a float.
use Rattle.std.proofs.Common.{◌≡◌, ℕ, zero, suc, ◌+◌, ◌-◌, ◌<◌, Bool, true, false, cond, eqb, List, [], ◌∷◌, length, get_or, map, Option, Some, None, option_map, option_and_then, unwrap_or, codes, refl, sym, ap, ◌∙◌, subst, arith}
use Rattle.std.proofs.lemmas.Bool.{or_parts, eqb-true}
use Rattle.serde_json.specs.Data.{Data, null, boolean, number, string, array, object, Items, no_items, item}
use Rattle.serde_json.specs.Find.{get, as_str, as_array}
use Rattle.serde_json.specs.View.{items_of}
use Rattle.serde_json.specs.Written.{has_float, items_have_float}
use Rattle.std.specs.Str.{bytes_eq}
use Rattle.kishu_meaning.specs.values.Values.{Output, stream, shown, fault}
use Rattle.kishu_model.specs.Answers.{output_data}
use Rattle.kishu_notebook.specs.Places.{code_places, item_changed}
use Rattle.kishu_model.specs.notebooks.Cells.{is_code_word, is_code, source_in, source_of, sources_in}
use Rattle.kishu_model.specs.notebooks.Notebook.{cells_of, sources_of}
use Rattle.kishu_model.specs.notebooks.Setting.{changed_at, code_cell_changed, in_cells, with_run, with_run_at, outputs_data}
use Rattle.kishu_notebook.proofs.Members.{get_other, get_same, changed_agree, neither, changed_no_float}

-- ---- a cell

get_of_run : (q : List ℕ) (outputs count cell : Data) → bytes_eq q (codes "execution_count") ≡ false → bytes_eq q (codes "outputs") ≡ false
    → get q (with_run outputs count cell) ≡ get q cell
get_of_run q outputs count cell p r =
    get_other q (codes "execution_count") (λ _. count) (changed_at (codes "outputs") (λ _. outputs) cell) p ∙ get_other q (codes "outputs") (λ _. outputs) cell r

code_stays : (outputs count cell : Data) → is_code (with_run outputs count cell) ≡ is_code cell
unfolding is_code
code_stays outputs count cell = ap (λ (o : Option Data). unwrap_or (option_map is_code_word (option_and_then as_str o)) false) (get_of_run (codes "cell_type") outputs count cell refl refl)

source_stays : (outputs count cell : Data) → source_of (with_run outputs count cell) ≡ source_of cell
unfolding source_of
source_stays outputs count cell = ap (λ (o : Option Data). unwrap_or (option_map source_in o) []) (get_of_run (codes "source") outputs count cell refl refl)

pub run_no_float : (outputs count : Data) → has_float outputs ≡ false → has_float count ≡ false → (cell : Data) → has_float cell ≡ false → has_float (with_run outputs count cell) ≡ false
run_no_float outputs count p q cell none =
    changed_no_float (codes "execution_count") (λ _. count) (changed_at (codes "outputs") (λ _. outputs) cell) (λ x h. q) (changed_no_float (codes "outputs") (λ _. outputs) cell (λ x h. p) none)

-- ---- cells, one of which was changed by f, which keeps what a cell is and runs

module _ (f : Data → Data) (same_kind : (c : Data) → is_code (f c) ≡ is_code c) (same_source : (c : Data) → source_of (f c) ≡ source_of c) where
  told : (c : Data) (rest : List (List ℕ)) → cond (is_code (f c)) (source_of (f c) ∷ rest) rest ≡ cond (is_code c) (source_of c ∷ rest) rest
  told c rest = rw (same_kind c, same_source c) refl

  sources_at : (b z : Bool) (c : Data) (cs first later : Items) → sources_in first ≡ sources_in cs → sources_in later ≡ sources_in cs
      → sources_in (cond b (cond z (item (f c) cs) (item c first)) (item c later)) ≡ sources_in (item c cs)
  sources_at true true c cs first later p q = told c (sources_in cs)
  sources_at true false c cs first later p q = ap (λ (s : List (List ℕ)). cond (is_code c) (source_of c ∷ s) s) p
  sources_at false z c cs first later p q = ap (λ (s : List (List ℕ)). cond (is_code c) (source_of c ∷ s) s) q

  sources_stay : (n : ℕ) (cs : Items) → sources_in (code_cell_changed n f cs) ≡ sources_in cs
  sources_stay n no_items = refl
  sources_stay n (item c cs) = sources_at (is_code c) (eqb n 0) c cs _ _ (sources_stay (n - 1) cs) (sources_stay n cs)

  places_at : (b z : Bool) (k : ℕ) (c : Data) (cs first later : Items) → code_places (suc k) first ≡ code_places (suc k) cs → code_places (suc k) later ≡ code_places (suc k) cs
      → code_places k (cond b (cond z (item (f c) cs) (item c first)) (item c later)) ≡ code_places k (item c cs)
  places_at true true k c cs first later p q = ap (λ (b : Bool). cond b (k ∷ code_places (suc k) cs) (code_places (suc k) cs)) (same_kind c)
  places_at true false k c cs first later p q = ap (λ (s : List ℕ). cond (is_code c) (k ∷ s) s) p
  places_at false z k c cs first later p q = ap (λ (s : List ℕ). cond (is_code c) (k ∷ s) s) q

  places_stay : (n k : ℕ) (cs : Items) → code_places k (code_cell_changed n f cs) ≡ code_places k cs
  places_stay n k no_items = refl
  places_stay n k (item c cs) = places_at (is_code c) (eqb n 0) k c cs _ _ (places_stay (n - 1) (suc k) cs) (places_stay n (suc k) cs)

-- ---- the place of a code cell

abbrev place_of : ℕ → Items → ℕ
place_of n no_items = 0
place_of n (item c cs) = cond (is_code c) (cond (eqb n 0) 0 (suc (place_of (n - 1) cs))) (suc (place_of n cs))

-- the change by count is the change at the place
by_place_at : (b z : Bool) (f : Data → Data) (c : Data) (cs : Items) (m n p q : ℕ) → code_cell_changed m f cs ≡ item_changed p f cs → code_cell_changed n f cs ≡ item_changed q f cs
    → cond b (cond z (item (f c) cs) (item c (code_cell_changed m f cs))) (item c (code_cell_changed n f cs)) ≡ item_changed (cond b (cond z 0 (suc p)) (suc q)) f (item c cs)
by_place_at true true f c cs m n p q g h = refl
by_place_at true false f c cs m n p q g h = ap (item c) g
by_place_at false z f c cs m n p q g h = ap (item c) h

by_place : (f : Data → Data) (n : ℕ) (cs : Items) → code_cell_changed n f cs ≡ item_changed (place_of n cs) f cs
by_place f n no_items = refl
by_place f n (item c cs) = by_place_at (is_code c) (eqb n 0) f c cs (n - 1) n (place_of (n - 1) cs) (place_of n cs) (by_place f (n - 1) cs) (by_place f n cs)

kept_at : (b z : Bool) (k n x p q : ℕ) (ps : List ℕ) → eqb n 0 ≡ z → n < length (cond b (k ∷ ps) ps) → (n - 1 < length ps → get_or ps (n - 1) x ≡ suc k + p) → (n < length ps → get_or ps n x ≡ suc k + q)
    → get_or (cond b (k ∷ ps) ps) n x ≡ k + cond b (cond z 0 (suc p)) (suc q)
kept_at true true k n x p q ps is within g h = ap (λ (m : ℕ). get_or (k ∷ ps) m x) (eqb-true n 0 is) ∙ omega arith
kept_at true false k zero x p q ps is within g h = cc
kept_at true false k (suc n) x p q ps is within g h =
    let before : suc n - 1 ≡ n = omega arith in
    let there : get_or ps n x ≡ suc k + p = subst (λ (m : ℕ). m < length ps → get_or ps m x ≡ suc k + p) before g (omega arith) in
    there ∙ omega arith
kept_at false z k n x p q ps is within g h = h within ∙ omega arith

kept_place : (cs : Items) (k n x : ℕ) → n < length (code_places k cs) → get_or (code_places k cs) n x ≡ k + place_of n cs
kept_place no_items k n x within = absurd (omega arith)
kept_place (item c cs) k n x within =
    kept_at (is_code c) (eqb n 0) k n x (place_of (n - 1) cs) (place_of n cs) (code_places (suc k) cs) refl within (kept_place cs (suc k) (n - 1) x) (kept_place cs (suc k) n x)

count_at : (b : Bool) (k : ℕ) (c : Data) (ps : List ℕ) (ss : List (List ℕ)) → length ps ≡ length ss → length (cond b (k ∷ ps) ps) ≡ length (cond b (source_of c ∷ ss) ss)
count_at true k c ps ss is = ap suc is
count_at false k c ps ss is = is

places_count : (k : ℕ) (cs : Items) → length (code_places k cs) ≡ length (sources_in cs)
places_count k no_items = refl
places_count k (item c cs) = count_at (is_code c) k c (code_places (suc k) cs) (sources_in cs) (places_count (suc k) cs)

-- ---- a notebook

list_changed : (o : Option Data) (f : Items → Items) → f no_items ≡ no_items → unwrap_or (option_and_then as_array (option_map (in_cells f) o)) no_items ≡ f (unwrap_or (option_and_then as_array o) no_items)
list_changed None f none = sym none
list_changed (Some null) f none = sym none
list_changed (Some (boolean b)) f none = sym none
list_changed (Some (number n)) f none = sym none
list_changed (Some (string s)) f none = sym none
list_changed (Some (array ds)) f none = refl
list_changed (Some (object ms)) f none = sym none

cells_changed : (at : ℕ) (outputs count d : Data) → cells_of (with_run_at at outputs count d) ≡ code_cell_changed at (with_run outputs count) (cells_of d)
unfolding with_run_at
cells_changed at outputs count d =
    let f = code_cell_changed at (with_run outputs count) in
    ap (λ (o : Option Data). unwrap_or (option_and_then as_array o) no_items) (get_same (codes "cells") (in_cells f) d) ∙ list_changed (get (codes "cells") d) f refl

pub sources_of_stay : (at : ℕ) (outputs count d : Data) → sources_of (with_run_at at outputs count d) ≡ sources_of d
unfolding sources_of
sources_of_stay at outputs count d =
    ap sources_in (cells_changed at outputs count d) ∙ sources_stay (with_run outputs count) (code_stays outputs count) (source_stays outputs count) at (cells_of d)

pub code_places_stay : (at : ℕ) (outputs count d : Data) → code_places 0 (cells_of (with_run_at at outputs count d)) ≡ code_places 0 (cells_of d)
code_places_stay at outputs count d =
    ap (code_places 0) (cells_changed at outputs count d) ∙ places_stay (with_run outputs count) (code_stays outputs count) (source_stays outputs count) at 0 (cells_of d)

pub places_of_sources : (d : Data) → length (code_places 0 (cells_of d)) ≡ length (sources_of d)
unfolding sources_of
places_of_sources d = places_count 0 (cells_of d)

-- the cells that are found are those of the notebook
pub agree_in : (d x : Data) (f g : Items → Items) → get (codes "cells") d ≡ Some x → f (cells_of d) ≡ g (cells_of d) → in_cells f x ≡ in_cells g x
agree_in d null f g found same = refl
agree_in d (boolean b) f g found same = refl
agree_in d (number n) f g found same = refl
agree_in d (string s) f g found same = refl
agree_in d (array ds) f g found same =
    let cells : cells_of d ≡ ds = ap (λ (o : Option Data). unwrap_or (option_and_then as_array o) no_items) found in
    ap array (ap f (sym cells) ∙ same ∙ ap g cells)
agree_in d (object ms) f g found same = refl

-- a change at the place that was kept is the change of that code cell
pub set_at_place : (at place x : ℕ) (code : List ℕ) (outputs count d : Data) → code ≡ code_places 0 (cells_of d) → at < length code → place ≡ get_or code at x
    → changed_at (codes "cells") (in_cells (item_changed place (with_run outputs count))) d ≡ with_run_at at outputs count d
unfolding with_run_at
set_at_place at place x code outputs count d kept within is =
    let f = with_run outputs count in
    let here : place ≡ place_of at (cells_of d) = is ∙ ap (λ (ps : List ℕ). get_or ps at x) kept ∙ kept_place (cells_of d) 0 at x (subst (λ (ps : List ℕ). at < length ps) kept within) ∙ omega arith in
    let same : item_changed place f (cells_of d) ≡ code_cell_changed at f (cells_of d) = ap (λ (p : ℕ). item_changed p f (cells_of d)) here ∙ sym (by_place f at (cells_of d)) in
    changed_agree (codes "cells") _ _ d (λ x found. agree_in d x (item_changed place f) (code_cell_changed at f) found same)

-- ---- no float comes in

float_at : (b z : Bool) (f : Data → Data) (c : Data) (cs first later : Items) → has_float (f c) ≡ false → has_float c ≡ false → items_have_float cs ≡ false → items_have_float first ≡ false → items_have_float later ≡ false
    → items_have_float (cond b (cond z (item (f c) cs) (item c first)) (item c later)) ≡ false
float_at true true f c cs first later new old all p q = neither _ _ new all
float_at true false f c cs first later new old all p q = neither _ _ old p
float_at false z f c cs first later new old all p q = neither _ _ old q

items_no_float : (f : Data → Data) → ((x : Data) → has_float x ≡ false → has_float (f x) ≡ false) → (n : ℕ) (cs : Items) → items_have_float cs ≡ false → items_have_float (code_cell_changed n f cs) ≡ false
items_no_float f keeps n no_items none = refl
items_no_float f keeps n (item c cs) none =
    let p = or_parts (has_float c) _ none in
    float_at (is_code c) (eqb n 0) f c cs _ _ (keeps c p.0) p.0 p.1 (items_no_float f keeps (n - 1) cs p.1) (items_no_float f keeps n cs p.1)

cells_no_float : (f : Items → Items) → ((cs : Items) → items_have_float cs ≡ false → items_have_float (f cs) ≡ false) → (d : Data) → has_float d ≡ false → has_float (in_cells f d) ≡ false
cells_no_float f keeps null none = refl
cells_no_float f keeps (boolean b) none = refl
cells_no_float f keeps (number n) none = none
cells_no_float f keeps (string s) none = refl
cells_no_float f keeps (array ds) none = keeps ds none
cells_no_float f keeps (object ms) none = none

pub run_at_no_float : (at : ℕ) (outputs count d : Data) → has_float outputs ≡ false → has_float count ≡ false → has_float d ≡ false → has_float (with_run_at at outputs count d) ≡ false
unfolding with_run_at
run_at_no_float at outputs count d p q none =
    changed_no_float (codes "cells") _ d (cells_no_float _ (items_no_float (with_run outputs count) (run_no_float outputs count p q) at)) none

listed_no_float : (count : ℕ) (outputs : List Output) → items_have_float (items_of (map (output_data count) outputs)) ≡ false
listed_no_float count [] = refl
listed_no_float count (stream text ∷ os) = listed_no_float count os
listed_no_float count (shown text ∷ os) = listed_no_float count os
listed_no_float count (fault ename evalue ∷ os) = listed_no_float count os

pub outputs_no_float : (count : ℕ) (outputs : List Output) → has_float (outputs_data count outputs) ≡ false
outputs_no_float count outputs = listed_no_float count outputs
