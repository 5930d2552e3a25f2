-- A change of a code cell that isn't there changes nothing.
use Rattle.std.proofs.Common.{◌≡◌, ℕ, suc, ◌+◌, ◌-◌, ◌≤◌, ◌<◌, Bool, true, false, cond, eqb, List, [], ◌∷◌, ◌++◌, length, map, take, drop, get_or, codes, OnErr, refl, ap, sym, ◌∙◌, arith}
use Rattle.std.proofs.lemmas.Bool.{eqb-true}
use Rattle.std.proofs.lemmas.List.{length-take-le, take_more, drop_more, get_or-map, length-map}
use Rattle.serde_json.specs.Data.{Data, null, boolean, number, string, array, object, Items, no_items, item, Members, no_members, member}
use Rattle.std.specs.Str.{bytes_eq}
use Rattle.std.specs.declared.result.Result.{Result}
use Rattle.std.specs.declared.result.Result.TheVariants.{Ok, Err}
use Rattle.kishu_model.specs.Answers.{Counted}
use Rattle.kishu_model.specs.Values.{counted_of}
use Rattle.kishu_model.specs.declared.answer.Counted as rust_counted
use Rattle.kishu_model.specs.notebooks.Cells.{is_code, source_of, sources_in}
use Rattle.kishu_model.specs.notebooks.Notebook.{cells_of, sources_of}
use Rattle.kishu_model.specs.notebooks.Run.{with_results}
use Rattle.kishu_model.specs.notebooks.Setting.{members_changed, changed_at, code_cell_changed, in_cells, with_run, with_run_at, with_result, outputs_data}
use Rattle.kishu_notebook.proofs.Members.{changed_agree}
use Rattle.kishu_notebook.proofs.Kept.{agree_in}

-- ---- among cells

past_at : (b z : Bool) (n : ℕ) (f : Data → Data) (c : Data) (cs first later : Items) (ss : List (List ℕ)) → eqb n 0 ≡ z → length (cond b (source_of c ∷ ss) ss) ≤ n
    → (length ss ≤ n - 1 → first ≡ cs) → (length ss ≤ n → later ≡ cs) → cond b (cond z (item (f c) cs) (item c first)) (item c later) ≡ item c cs
past_at true true n f c cs first later ss is past p q = absurd (omega (arith, eqb-true n 0 is, past))
past_at true false n f c cs first later ss is past p q = ap (item c) (p (omega arith))
past_at false z n f c cs first later ss is past p q = ap (item c) (q past)

cells_past : (n : ℕ) (f : Data → Data) (cs : Items) → length (sources_in cs) ≤ n → code_cell_changed n f cs ≡ cs
cells_past n f no_items past = refl
cells_past n f (item c cs) past = past_at (is_code c) (eqb n 0) n f c cs _ _ (sources_in cs) refl past (cells_past (n - 1) f cs) (cells_past n f cs)

-- ---- a change that changes nothing

same_at : (b : Bool) (k : List ℕ) (d : Data) (ms rest : Members) → rest ≡ ms → cond b (member k d ms) (member k d rest) ≡ member k d ms
same_at true k d ms rest same = refl
same_at false k d ms rest same = ap (member k d) same

members_same : (key : List ℕ) (ms : Members) → members_changed key (λ d. d) ms ≡ ms
members_same key no_members = refl
members_same key (member k d ms) = same_at (bytes_eq key k) k d ms _ (members_same key ms)

value_same : (key : List ℕ) (d : Data) → changed_at key (λ x. x) d ≡ d
value_same key null = refl
value_same key (boolean b) = refl
value_same key (number n) = refl
value_same key (string s) = refl
value_same key (array ds) = refl
value_same key (object ms) = ap object (members_same key ms)

inside_same : (d : Data) → in_cells (λ cs. cs) d ≡ d
inside_same null = refl
inside_same (boolean b) = refl
inside_same (number n) = refl
inside_same (string s) = refl
inside_same (array ds) = refl
inside_same (object ms) = refl

-- ---- in a notebook

pub run_past : (at : ℕ) (outputs count d : Data) → length (sources_of d) ≤ at → with_run_at at outputs count d ≡ d
unfolding with_run_at sources_of
run_past at outputs count d past =
    let f = code_cell_changed at (with_run outputs count) in
    changed_agree (codes "cells") (in_cells f) (λ x. x) d (λ x found. agree_in d x f (λ cs. cs) found (cells_past at (with_run outputs count) (cells_of d) past) ∙ inside_same x)
    ∙ value_same (codes "cells") d

pub results_past : (at : ℕ) (cs : List Counted) (d : Data) → length (sources_of d) ≤ at → with_results at cs d ≡ d
results_past at [] d past = refl
results_past at (c ∷ cs) d past =
    let set : with_result at c.count c.report d ≡ d = run_past at (outputs_data c.count c.report.outputs) _ d past in
    ap (with_results (suc at) cs) set ∙ results_past (suc at) cs d (omega arith)

-- ---- one result more

results_push : (at : ℕ) (cs : List Counted) (c : Counted) (d : Data) → with_results at (cs ++ c ∷ []) d ≡ with_result (at + length cs) c.count c.report (with_results at cs d)
results_push at [] c d = let here : at ≡ at + 0 = omega arith in ap (λ n. with_result n c.count c.report d) here
results_push at (x ∷ cs) c d =
    let here : suc at + length cs ≡ at + suc (length cs) = omega arith in
    results_push (suc at) cs c (with_result at x.count x.report d)
    ∙ ap (λ n. with_result n c.count c.report (with_results (suc at) cs (with_result at x.count x.report d))) here

-- k of these are set, and then the next one
pub results_more : (at place : ℕ) (cs : List Counted) (c : Counted) (d : Data) → at ≤ place → place - at < length cs
    → with_result place (get_or cs (place - at) c).count (get_or cs (place - at) c).report (with_results at (take (place - at) cs) d) ≡ with_results at (take (place + 1 - at) cs) d
results_more at place cs c d reached within =
    let k = place - at in
    let next = get_or cs k c in
    let on : place + 1 - at ≡ k + 1 = omega arith in
    let long : length (take k cs) ≡ k = length-take-le k cs (omega arith) in
    let here : place ≡ at + length (take k cs) = omega (arith, long) in
    ap (λ n. with_result n next.count next.report (with_results at (take k cs) d)) here
    ∙ sym (results_push at (take k cs) next d)
    ∙ ap (λ xs. with_results at xs d) (sym (take_more cs k c within))
    ∙ ap (λ n. with_results at (take n cs) d) (sym on)

-- The same, where this is the next one.
pub results_on : (at place : ℕ) (rs : List rust_counted.Counted) (r : rust_counted.Counted) (d : Data) → at ≤ place → place - at < length rs → r ≡ get_or rs (place - at) r
    → with_result place (counted_of r).count (counted_of r).report (with_results at (take (place - at) (map counted_of rs)) d) ≡ with_results at (take (place + 1 - at) (map counted_of rs)) d
results_on at place rs r d reached within is =
    let k = place - at in
    let same : counted_of r ≡ get_or (map counted_of rs) k (counted_of r) = ap counted_of is ∙ sym (get_or-map counted_of rs k r (counted_of r) within) in
    ap (λ (c : Counted). with_result place c.count c.report (with_results at (take k (map counted_of rs)) d)) same
    ∙ results_more at place (map counted_of rs) (counted_of r) d reached (omega (arith, within, length-map rs counted_of))

-- What is set still, where this is the next one.
pub results_left : (at place : ℕ) (rs : List rust_counted.Counted) (r : rust_counted.Counted) (d : Data) → at ≤ place → place - at < length rs → r ≡ get_or rs (place - at) r
    → with_results (place + 1) (map counted_of (drop (place + 1 - at) rs)) (with_result place (counted_of r).count (counted_of r).report d) ≡ with_results place (map counted_of (drop (place - at) rs)) d
results_left at place rs r d reached within is =
    let k = place - at in
    let on : place + 1 - at ≡ k + 1 = omega arith in
    let further : place + 1 ≡ suc place = omega arith in
    let set = with_result place (counted_of r).count (counted_of r).report d in
    ap (λ n. with_results (place + 1) (map counted_of (drop n rs)) set) on
    ∙ ap (λ n. with_results n (map counted_of (drop (k + 1) rs)) set) further
    ∙ ap (λ (xs : List rust_counted.Counted). with_results place (map counted_of xs) d) (ap (λ w. w ∷ drop (k + 1) rs) is ∙ sym (drop_more rs k r within))

-- ---- an error

pub on-err : {T E P : Type 0} (r : Result T E) → P → OnErr r P
on-err (Ok x) p = tt
on-err (Err e) p = p
