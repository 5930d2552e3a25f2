-- No answer has a float.
use Rattle.std.proofs.Common.{◌≡◌, ℕ, List, [], ◌∷◌, map, Option, Some, None, Bool, true, false, Ordering, Less, Equal, Greater, nat_cmp, true≢false, refl}
use Rattle.std.specs.Prelude.{◌||◌}
use Rattle.std.specs.Cmp.Lexicographic.{slice_cmp}
use Rattle.std.specs.Ordering.{match_ordering}
use Rattle.serde_json.specs.Data.{Data, string, Members, no_members, member, put}
use Rattle.serde_json.specs.View.{items_of}
use Rattle.serde_json.specs.Written.{has_float, items_have_float, members_have_float}
use Rattle.kishu_model.specs.Answers.{Refusal, bad_request, no_such_ref, bad_name, name_taken, store_full, cell_too_long, state_too_large, Counted, PathRow, Answer, ran_cell, ran_cells, checked_out, branched, logged, told_status, inspected, told_stored, told_plan, refused, answer_data, counted_data, branch_data, entry_data, row_data, node_data, with_texts, output_data}
use Rattle.kishu_meaning.specs.values.Values.{Output, stream, shown, fault}

outputs_no_float : (count : ℕ) (outputs : List Output) → items_have_float (items_of (map (output_data count) outputs)) ≡ false
outputs_no_float count [] = refl
outputs_no_float count (stream text ∷ os) = outputs_no_float count os
outputs_no_float count (shown text ∷ os) = outputs_no_float count os
outputs_no_float count (fault ename evalue ∷ os) = outputs_no_float count os

results_no_float : (results : List Counted) → items_have_float (items_of (map counted_data results)) ≡ false
results_no_float [] = refl
results_no_float (c ∷ cs) = rw (outputs_no_float c.count c.report.outputs) (results_no_float cs)

branch_no_float : (branch : Option (List ℕ)) → has_float (branch_data branch) ≡ false
branch_no_float None = refl
branch_no_float (Some name) = refl

entries_no_float : (branches : List (List ℕ × ℕ)) → items_have_float (items_of (map entry_data branches)) ≡ false
entries_no_float [] = refl
entries_no_float (b ∷ bs) = entries_no_float bs

rows_no_float : (path : List PathRow) → items_have_float (items_of (map row_data path)) ≡ false
rows_no_float [] = refl
rows_no_float (row ∷ rows) = rows_no_float rows

texts_no_float : (texts : List (List ℕ)) → items_have_float (items_of (map string texts)) ≡ false
texts_no_float [] = refl
texts_no_float (text ∷ texts) = texts_no_float texts

lists_no_float : (lists : List (List (List ℕ))) → items_have_float (items_of (map node_data lists)) ≡ false
lists_no_float [] = refl
lists_no_float (texts ∷ lists) = rw (texts_no_float texts) (lists_no_float lists)

neither : (a b : Bool) → (a || b) ≡ false → (a ≡ false) × (b ≡ false)
neither true b is = absurd (true≢false is)
neither false b is = (refl, is)

put_by : (o : Ordering) (name text l : List ℕ) (e : Data) (ms : Members) → members_have_float (member l e ms) ≡ false → members_have_float (put name (string text) ms) ≡ false
    → members_have_float (match_ordering o (member name (string text) (member l e ms)) (member l (string text) ms) (member l e (put name (string text) ms))) ≡ false
put_by Less name text l e ms is later = is
put_by Equal name text l e ms is later = (neither (has_float e) (members_have_float ms) is).1
put_by Greater name text l e ms is later = rw ((neither (has_float e) (members_have_float ms) is).0) later

put_no_float : (name text : List ℕ) (ms : Members) → members_have_float ms ≡ false → members_have_float (put name (string text) ms) ≡ false
put_no_float name text no_members is = refl
put_no_float name text (member l e ms) is =
    put_by (slice_cmp nat_cmp name l) name text l e ms is (put_no_float name text ms ((neither (has_float e) (members_have_float ms) is).1))

names_no_float : (names : List (List ℕ × List ℕ)) (ms : Members) → members_have_float ms ≡ false → members_have_float (with_texts names ms) ≡ false
names_no_float [] ms is = is
names_no_float (b ∷ bs) ms is = names_no_float bs (put b.0 (string b.1) ms) (put_no_float b.0 b.1 ms is)

refusal_no_float : (r : Refusal) → has_float (answer_data (refused r)) ≡ false
refusal_no_float bad_request = refl
refusal_no_float no_such_ref = refl
refusal_no_float bad_name = refl
refusal_no_float name_taken = refl
refusal_no_float store_full = refl
refusal_no_float cell_too_long = refl
refusal_no_float (state_too_large bytes) = refl

pub no_float : (a : Answer) → has_float (answer_data a) ≡ false
no_float (ran_cell commit count report) = rw (outputs_no_float count report.outputs) refl
no_float (ran_cells commit results) = rw (results_no_float results) refl
no_float (checked_out commit branch) = rw (branch_no_float branch) refl
no_float (branched commit name) = refl
no_float (logged branches path) = rw (entries_no_float branches, rows_no_float path) refl
no_float (told_status s) = rw (branch_no_float s.branch, texts_no_float s.names) refl
no_float (inspected commit names nodes) = rw (names_no_float names no_members refl, lists_no_float nodes) refl
no_float (told_stored commit dropped stored) = rw (lists_no_float dropped, lists_no_float stored) refl
no_float (told_plan commit drop keep load) = rw (lists_no_float drop, lists_no_float keep, lists_no_float load) refl
no_float (refused r) = refusal_no_float r
