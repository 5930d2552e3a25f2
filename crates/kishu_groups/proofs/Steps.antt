-- Steps of the loops that note.
use Rattle.std.proofs.Common.{◌≡◌, ℕ, zero, suc, ◌+◌, ◌<◌, ◌≤◌, List, [], ◌∷◌, ◌++◌, map, drop, length, ap, sym, ◌∙◌, arith, subst, refl, Some, None}
use Rattle.std.specs.Prelude.{IsTrue, slice_get}
use Rattle.std.specs.Rc.{rc_str_bytes}
use Rattle.std.specs.declared.alloc.Global.{Global}
use Rattle.std.specs.declared.rc.RcStr.{RcStr}
use Rattle.kishu_meaning.specs.declared.key.Key as rust_key
use Rattle.kishu_meaning.specs.declared.value.Value as rust
use Rattle.kishu_meaning.specs.values.Values.{Node, Names, State, value_of}
use Rattle.kishu_heap.specs.Cells.{entries_of, attributes_of}
use Rattle.kishu_objects.specs.Picture.{number, numbers}
use Rattle.kishu_objects.specs.Shape.{node_at}
use Rattle.kishu_meaning.specs.values.Sound.{is_sound_heap, are_sound_names}
use Rattle.kishu_names.specs.Namespace.{Namespace}
use Rattle.kishu_objects.specs.Shape.{children}
use Rattle.kishu_objects.specs.Sound.{IsSound}
use Rattle.kishu_objects.specs.Picture.{leads, order}
use Rattle.kishu_objects_laws.specs.ReadingLaws.{begins_short}
use Rattle.kishu_objects_laws.specs.SoundLaws.{sound_of}
use Rattle.kishu_objects_laws.specs.WalkLaws.{IsWalked}
use Rattle.kishu_groups.specs.Held.{held}
use Rattle.kishu_groups.specs.Marks.{Marks, AreMarks, Kept, nodes_under, note_all, note_names, unmarked}
use Rattle.kishu_groups.proofs.Joins.{there_short, map_length, alone_length}
use Rattle.kishu_groups.proofs.Walked.{IsMarked, marked_first, marked_more}

pub rest_at : {A : Type 0} (xs : List A) (i : ℕ) (x : A) → slice_get xs i ≡ Some x → drop i xs ≡ x ∷ drop (i + 1) xs
rest_at [] i x e = absurd (cc)
rest_at (y ∷ ys) zero x e = (let f : y ≡ x = cc in ap (λ z. z ∷ ys) f)
rest_at (y ∷ ys) (suc i) x e =
    (let k = rest_at ys i x e in let f : suc i + 1 ≡ suc (i + 1) = omega arith in k ∙ ap (λ j. x ∷ drop j (y ∷ ys)) (sym f))

pub past_end : {A : Type 0} (xs : List A) (i : ℕ) → slice_get xs i ≡ None → length xs ≤ i
past_end [] i e = omega arith
past_end (x ∷ xs) zero e = absurd (cc)
past_end (x ∷ xs) (suc i) e = (let k = past_end xs i e in omega arith)

pub node_is : (nodes : List Node) (k : ℕ) (n : Node) → slice_get nodes k ≡ Some n → node_at nodes k ≡ n
node_is [] k n e = absurd (cc)
node_is (m ∷ nodes) zero n e = cc
node_is (m ∷ nodes) (suc k) n e = node_is nodes k n e

pub kept_none : (m : Marks) → AreMarks m → Kept m m
kept_none m h = record { marks = h; many = refl }

pub kept_on : (m n o : Marks) → Kept m n → Kept n o → Kept m o
kept_on m n o a b = record { marks = b.marks; many = b.many ∙ a.many }

pub note_all_append : (l : ℕ) (xs ys : List ℕ) (m : Marks) → note_all l (xs ++ ys) m ≡ note_all l ys (note_all l xs m)
note_all_append l [] ys m = refl
note_all_append l (x ∷ xs) ys m = note_all_append l xs ys _

pub noted_step : (l : ℕ) (before after : Marks) (n rest more : List ℕ) (target : Marks) → note_all l more before ≡ target
    → after ≡ note_all l n before → more ≡ n ++ rest → note_all l rest after ≡ target
noted_step l before after n rest more target inv e f = ap (note_all l rest) e ∙ sym (note_all_append l n rest before)
    ∙ ap (λ z. note_all l z before) (sym f) ∙ inv

pub values_step : (l : ℕ) (vs : List rust.Value) (i : ℕ) (v : rust.Value) (before after target : Marks) → slice_get vs i ≡ Some v
    → note_all l (numbers (map value_of (drop i vs))) before ≡ target
    → after ≡ note_all l (number (value_of v)) before → note_all l (numbers (map value_of (drop (i + 1) vs))) after ≡ target
values_step l vs i v before after target at inv step =
    noted_step l before after (number (value_of v)) (numbers (map value_of (drop (i + 1) vs))) (numbers (map value_of (drop i vs))) target inv step
    (ap (λ z. numbers (map value_of z)) (rest_at vs i v at))

pub entries_step : (l : ℕ) (es : List (rust_key.Key × rust.Value)) (i : ℕ) (e : rust_key.Key × rust.Value) (before after target : Marks)
    → slice_get es i ≡ Some e → note_all l (numbers (map (λ d. d.1) (entries_of (drop i es)))) before ≡ target
    → after ≡ note_all l (number (value_of e.1)) before → note_all l (numbers (map (λ d. d.1) (entries_of (drop (i + 1) es)))) after ≡ target
entries_step l es i e before after target at inv step =
    noted_step l before after (number (value_of e.1)) (numbers (map (λ d. d.1) (entries_of (drop (i + 1) es))))
    (numbers (map (λ d. d.1) (entries_of (drop i es)))) target inv step
    (ap (λ z. numbers (map (λ d. d.1) (entries_of z))) (rest_at es i e at))

pub attributes_step : (l : ℕ) (es : List (RcStr Global × rust.Value)) (i : ℕ) (e : RcStr Global × rust.Value) (before after target : Marks)
    → slice_get es i ≡ Some e → note_all l (numbers (map (λ d. d.1) (attributes_of (drop i es)))) before ≡ target
    → after ≡ note_all l (number (value_of e.1)) before → note_all l (numbers (map (λ d. d.1) (attributes_of (drop (i + 1) es)))) after ≡ target
attributes_step l es i e before after target at inv step =
    noted_step l before after (number (value_of e.1)) (numbers (map (λ d. d.1) (attributes_of (drop (i + 1) es))))
    (numbers (map (λ d. d.1) (attributes_of (drop i es)))) target inv step
    (ap (λ z. numbers (map (λ d. d.1) (attributes_of z))) (rest_at es i e at))

pub names_step : (ns : Names) (xs : List (RcStr Global)) (i : ℕ) (x : RcStr Global) (before after target : Marks) → slice_get xs i ≡ Some x
    → note_names ns i (map rc_str_bytes (drop i xs)) before ≡ target
    → after ≡ note_all i (nodes_under (rc_str_bytes x) ns) before → note_names ns (i + 1) (map rc_str_bytes (drop (i + 1) xs)) after ≡ target
names_step ns xs i x before after target at inv step =
    let f : i + 1 ≡ suc i = omega arith in
    ap (note_names ns (i + 1) (map rc_str_bytes (drop (i + 1) xs))) step
    ∙ ap (λ j. note_names ns j (map rc_str_bytes (drop (i + 1) xs)) (note_all i (nodes_under (rc_str_bytes x) ns) before)) f
    ∙ sym (ap (λ z. note_names ns i (map rc_str_bytes z) before) (rest_at xs i x at)) ∙ inv

-- ---- the walk

pub walk_reads : (s : State) (names : List (List ℕ)) (found : List ℕ) (i : ℕ) → IsWalked s names found i → i ≤ length (order s names)
walk_reads s names found i w = (let a = w.within in let b = begins_short found (order s names) w.ahead in omega arith)

pub walk_reads_one : (s : State) (names : List (List ℕ)) (found : List ℕ) (i k : ℕ) → IsWalked s names found i → slice_get found i ≡ Some k
    → i + 1 ≤ length (order s names)
walk_reads_one s names found i k w at = (let a = there_short found i k at in let b = begins_short found (order s names) w.ahead in omega arith)

pub marked_on : (s : State) (sound : IsSound s) (names : List (List ℕ)) (m n : Marks) (i k l : ℕ) (a : Node) → IsMarked s names m i
    → slice_get m.found i ≡ Some k → slice_get m.labels i ≡ Some l → slice_get s.nodes k ≡ Some a
    → n ≡ note_all l (numbers (children a)) m → IsMarked s names n (i + 1)
marked_on s sound names m n i k l a w at label is step =
    let f : suc i ≡ i + 1 = omega arith in
    let e : note_all l (leads s.nodes k) m ≡ n = ap (λ b. note_all l (numbers (children b)) m) (node_is s.nodes k a is) ∙ sym step in
    subst (λ j. IsMarked s names n j) f (subst (λ z. IsMarked s names z (suc i)) e (marked_more s sound names m i k l w at label))

pub label_there : (s : State) (names : List (List ℕ)) (m : Marks) (i k : ℕ) → IsMarked s names m i → slice_get m.found i ≡ Some k
    → i < length m.labels
label_there s names m i k w at = (let a = there_short m.found i k at in let b = w.tells.marks.sized in omega arith)

pub sound_held : (nodes : List Node) (names : Namespace) → IsTrue (is_sound_heap nodes) → IsTrue (are_sound_names (length nodes) names.bound)
    → IsSound (held nodes names)
sound_held nodes names a b = sound_of (held nodes names) a b

pub marks_begin : (m : Marks) (n : ℕ) → m ≡ unmarked n → AreMarks m
marks_begin m n e = subst AreMarks (sym e) (record { sized = refl; labelled = λ p l f. absurd (cc) })

pub marks_many : (m : Marks) (n : ℕ) → m ≡ unmarked n → length m.firsts ≡ n
marks_many m n e = ap (λ (k : Marks). length k.firsts) e ∙ alone_length n

pub marked_begin : (s : State) (sound : IsSound s) (of : List (RcStr Global)) (n : ℕ) (m after : Marks)
    → n ≡ length of → m ≡ unmarked n → after ≡ note_names s.names 0 (map rc_str_bytes of) m → IsMarked s (map rc_str_bytes of) after 0
marked_begin s sound of n m after size e step =
    marked_first s sound (map rc_str_bytes of) after
    (step ∙ ap (note_names s.names 0 (map rc_str_bytes of)) (e ∙ ap unmarked (size ∙ sym (map_length rc_str_bytes of))))
