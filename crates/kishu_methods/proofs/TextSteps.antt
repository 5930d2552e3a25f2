-- Steps that are taken first, and what stands behind them.
use Rattle.std.proofs.Common.{◌≡◌, ◌∙◌, ap, sym, ℕ, List, [], ◌∷◌, length, Some, Bool, true, false, if◌then◌else◌, subst, Result, Err}
use Rattle.std.specs.Prelude.{codes, ℤ}
use Rattle.std.specs.List.{sum_by}
use Rattle.kishu_meaning.specs.values.Classes.{value_error_class}
use Rattle.kishu_meaning.specs.values.Values.{Value, none, bool, integer, text, range, builtin, class, node, value_of}
use Rattle.kishu_meaning.specs.moments.Moment.{M, Moment, Ends, fine, raised, and_then, ◌>>◌, give, spend, fresh}
use Rattle.kishu_meaning.specs.values.Texts.{pieces, is_nonempty, first_place, occurrences}
use Rattle.kishu_meaning.specs.values.Kinds.{value_error}
use Rattle.kishu_meaning.specs.calls.Methods as m
use Rattle.kishu_meaning.specs.calls.Methods.{text_row, is_cutting, search, made, made_all, new_texts, number, place_or_minus_one}
use Rattle.kishu_heap.specs.declared.fault.CallFault.{CallFault}
use Rattle.kishu_heap.specs.declared.fault.CallFault.TheVariants as faults
use Rattle.kishu_meaning.specs.declared.value.Value as rust_value
use Rattle.kishu_methods.specs.Called.{Fails, Gives}
use Rattle.kishu_methods.specs.TextValues.{text_in}

-- a value in which there is a text is that text
pub is_text : (v : Value) (cs : List ℕ) → Some cs ≡ text_in v → v ≡ text cs
is_text (text ds) cs e = let same : cs ≡ ds = cc e in ap text (sym same)
is_text none cs e = absurd (cc e)
is_text (bool b) cs e = absurd (cc e)
is_text (integer z) cs e = absurd (cc e)
is_text (range a b c) cs e = absurd (cc e)
is_text (builtin n) cs e = absurd (cc e)
is_text (class n) cs e = absurd (cc e)
is_text (node i) cs e = absurd (cc e)

-- what fails ends what stands behind it
pub fails_then : {A B : Type 0} (f : CallFault) (s : Moment) (e : Ends A) (g : A → M B) → Fails f s e → Fails f s (and_then e g)
fails_then (faults.Raise k t) s e g h = ap (λ (x : Ends _). and_then x g) h
fails_then (faults.RaiseWith k v) s e g h = ap (λ (x : Ends _). and_then x g) h
fails_then faults.Spent s e g h = ap (λ (x : Ends _). and_then x g) h
fails_then faults.NoMemory s e g h = tt

-- the steps of a split are taken, and its list is still to be made
pub split_taken : (v : Value) (t cs : List ℕ) (n : ℕ) (u w x : Unit {0}) (s s1 s2 : Moment) → v ≡ text t → is_cutting t s ≡ fine u s → search t cs s ≡ fine w s1 → n ≡ sum_by length (pieces t cs) → spend n s1 ≡ fine x s2
    → text_row m.split cs (v ∷ []) s ≡ new_texts (pieces t cs) s2
split_taken v t cs n u w x s s1 s2 ev e1 e2 en e3 =
    ap (λ (z : Value). text_row m.split cs (z ∷ []) s) ev
    ∙ ap (λ (e : Ends (Unit {0})). and_then (and_then e (λ _. search t cs)) (λ _. made_all (pieces t cs))) e1
    ∙ ap (λ (e : Ends (Unit {0})). and_then e (λ _. made_all (pieces t cs))) e2
    ∙ ap (λ (j : ℕ). and_then (spend j s1) (λ _. new_texts (pieces t cs))) (sym en)
    ∙ ap (λ (e : Ends (Unit {0})). and_then e (λ _. new_texts (pieces t cs))) e3

pub cutting_some : (t : List ℕ) (s : Moment) → true ≡ is_nonempty t → is_cutting t s ≡ fine tt s
cutting_some t s e = ap (λ (b : Bool). (if b then give {A = Unit {0}} tt else value_error (codes "empty separator")) s) (sym e)

pub cutting_none : (t : List ℕ) (s : Moment) → false ≡ is_nonempty t → is_cutting t s ≡ raised (fresh value_error_class (text (codes "empty separator") ∷ [])) s
cutting_none t s e = ap (λ (b : Bool). (if b then give {A = Unit {0}} tt else value_error (codes "empty separator")) s) (sym e)

pub found_row : (v : Value) (t cs : List ℕ) (r w : ℤ) (u : Unit {0}) (s s1 : Moment) → Some t ≡ text_in v → search t cs s ≡ fine u s1 → r ≡ place_or_minus_one (first_place t cs) → w ≡ r
    → text_row m.find cs (v ∷ []) s ≡ fine (integer w) s1
found_row v t cs r w u s s1 ev e er ew =
    ap (λ (z : Value). text_row m.find cs (z ∷ []) s) (is_text v t ev)
    ∙ ap (λ (x : Ends (Unit {0})). and_then x (λ _. give (integer (place_or_minus_one (first_place t cs))))) e
    ∙ ap (λ (z : ℤ). fine (integer z) s1) (sym (ew ∙ er))

pub counted_row : (v : Value) (t cs : List ℕ) (w : Value) (u x : Unit {0}) (s s1 : Moment) → Some t ≡ text_in v → is_cutting t s ≡ fine u s → search t cs s ≡ fine x s1 → w ≡ number (occurrences t cs)
    → text_row m.count cs (v ∷ []) s ≡ fine w s1
counted_row v t cs w u x s s1 ev e1 e2 ew =
    ap (λ (z : Value). text_row m.count cs (z ∷ []) s) (is_text v t ev)
    ∙ ap (λ (e : Ends (Unit {0})). and_then (and_then e (λ _. search t cs)) (λ _. give (number (occurrences t cs)))) e1
    ∙ ap (λ (e : Ends (Unit {0})). and_then e (λ _. give (number (occurrences t cs)))) e2
    ∙ ap (λ (z : Value). fine z s1) (sym ew)

-- ---- what fails on the way of a split

pub passed_on : (r : Result rust_value.Value CallFault) (f : CallFault) (s : Moment) (e : Ends Value) → (y : CallFault) × (r ≡ Err y) × (y ≡ f) → Fails f s e → Gives value_of r s e
passed_on r f s e p h = subst (λ (x : Result rust_value.Value CallFault). Gives value_of x s e) (sym p.1) (subst (λ (y : CallFault). Fails y s e) (sym p.2) h)

pub split_uncut : (v : Value) (t cs : List ℕ) (f : CallFault) (s : Moment) → Some t ≡ text_in v → Fails f s (is_cutting t s) → Fails f s (text_row m.split cs (v ∷ []) s)
split_uncut v t cs f s ev h =
    subst (λ (z : Value). Fails f s (text_row m.split cs (z ∷ []) s)) (sym (is_text v t ev))
    (fails_then f s (and_then (is_cutting t s) (λ _. search t cs)) (λ _. made_all (pieces t cs)) (fails_then f s (is_cutting t s) (λ _. search t cs) h))

pub split_unsearched : (v : Value) (t cs : List ℕ) (f : CallFault) (u : Unit {0}) (s s1 : Moment) → Some t ≡ text_in v → is_cutting t s ≡ fine u s → Fails f s1 (search t cs s) → Fails f s1 (text_row m.split cs (v ∷ []) s)
split_unsearched v t cs f u s s1 ev e1 h =
    subst (λ (z : Value). Fails f s1 (text_row m.split cs (z ∷ []) s)) (sym (is_text v t ev))
    (subst (λ (e : Ends (Unit {0})). Fails f s1 (and_then (and_then e (λ _. search t cs)) (λ _. made_all (pieces t cs)))) (sym e1)
    (fails_then f s1 (search t cs s) (λ _. made_all (pieces t cs)) h))

pub split_unmade : (v : Value) (t cs : List ℕ) (n : ℕ) (f : CallFault) (u w : Unit {0}) (s s1 s2 : Moment) → Some t ≡ text_in v → is_cutting t s ≡ fine u s → search t cs s ≡ fine w s1 → n ≡ sum_by length (pieces t cs) → Fails f s2 (spend n s1)
    → Fails f s2 (text_row m.split cs (v ∷ []) s)
split_unmade v t cs n f u w s s1 s2 ev e1 e2 en h =
    let rest = λ (e : Ends (Unit {0})). Fails f s2 (and_then e (λ _. made_all (pieces t cs))) in
    subst (λ (z : Value). Fails f s2 (text_row m.split cs (z ∷ []) s)) (sym (is_text v t ev))
    (subst (λ (e : Ends (Unit {0})). rest (and_then e (λ _. search t cs))) (sym e1)
    (subst rest (sym e2)
    (subst (λ (j : ℕ). Fails f s2 (and_then (spend j s1) (λ _. new_texts (pieces t cs)))) en (fails_then f s2 (spend n s1) (λ _. new_texts (pieces t cs)) h))))

-- steps, and then a call that gives what the definition says
pub listed : (r : Result rust_value.Value CallFault) (m : M Value) (n k : ℕ) (u : Unit {0}) (s s1 t : Moment) → n ≡ k → spend n s ≡ fine u s1 → Gives value_of r t (m s1) → Gives value_of r t ((spend k >> m) s)
listed r m n k u s s1 t en e h =
    subst (λ (j : ℕ). Gives value_of r t (and_then (spend j s) (λ _. m))) en
    (subst (λ (x : Ends (Unit {0})). Gives value_of r t (and_then x (λ _. m))) (sym e) h)
