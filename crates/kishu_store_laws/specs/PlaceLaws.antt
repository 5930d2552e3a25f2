-- Where the pictures of records lie in the file, and that they stay there; and what a file that holds a graph gives.
use Rattle.std.specs.Prelude.{◌≡◌, ◌≤◌, ℕ, suc, ◌+◌, List, [], ◌∷◌, ◌++◌, length, map, flat_map, take, drop, refl}
use Rattle.std.specs.List.{AllByRecursion, AllZip, sum}
use Rattle.std.proofs.Common.{sym, ◌∙◌, ap, subst, arith, inl, inr, length-append, append_assoc}
use Rattle.std.proofs.lemmas.Bool.Decides.{eqb_tells}
use Rattle.std.proofs.lemmas.List.{drop-drop, drop-append-le, take-append-le, take-append-drop, length-take-le, length-drop}
use Rattle.std.proofs.lemmas.List.Sums.{sum_by-cons}
use Rattle.kishu_bytes.specs.Numbers.{four}
use Rattle.kishu_store.specs.Entries.{Entry, commit, move, name, Record, entries_in, lengths_in}
use Rattle.kishu_store.specs.EntryBytes.{eight, head_of, body_of}
use Rattle.kishu_store.specs.Graph.{Graph, newest}
use Rattle.kishu_store.specs.Groups.{Group}
use Rattle.kishu_store.specs.Histories.{History, new_history, before_body, before_pictures, gives, led, led_by, AreRecords}
use Rattle.kishu_store.specs.Holds.{header, open_gate, framed, records, front, Holds, Gives, HasRecords, history_of, history_by, changes_by}
use Rattle.kishu_store.specs.Rules.{IsRecord}
use Rattle.kishu_store.specs.Tables.{Row, Table, Change, bytes_at, rows_from, change_of}
use Rattle.kishu_store_laws.specs.Laws.{history-graph, holds-records, gives-records, one_records, has-gives}
use Rattle.kishu_store_laws.specs.HistoryLaws.{AreChanges, IsHistory, records-history, place-end}

-- ---- a record's pictures

take_first : (xs ys : List ℕ) → take (length xs) (xs ++ ys) ≡ xs
take_first [] ys = refl
take_first (x ∷ xs) ys = ap (λ (l : List ℕ). x ∷ l) (take_first xs ys)

drop_first : (xs ys : List ℕ) → drop (length xs) (xs ++ ys) ≡ ys
drop_first [] ys = refl
drop_first (x ∷ xs) ys = drop_first xs ys

-- Where pictures lie one behind another from a place on, they lie at the places of the rows.
pub rows-bytes : (file : List ℕ) (number place : ℕ) (ss : List (Group × ℕ)) (ps : List (List ℕ)) (rest : List ℕ) → map length ps ≡ map (λ s. s.1) ss → drop place file ≡ flat_map (λ p. p) ps ++ rest
    → AllZip (λ r p. bytes_at file r ≡ p) (rows_from number place ss) ps
rows-bytes file number place [] [] rest sizes e = tt
rows-bytes file number place [] (p ∷ ps) rest sizes e = absurd (let d : length (map length (p ∷ ps)) ≡ 0 = ap length sizes in omega (arith, d))
rows-bytes file number place (s ∷ ss) [] rest sizes e = absurd (let d : 0 ≡ length (map (λ (z : Group × ℕ). z.1) (s ∷ ss)) = ap length sizes in omega (arith, d))
rows-bytes file number place (s ∷ ss) (p ∷ ps) rest sizes e =
    let size : s.1 ≡ length p = cc (sizes) in
    let sizes_behind : map length ps ≡ map (λ (z : Group × ℕ). z.1) ss = cc (sizes) in
    let here : drop place file ≡ p ++ (flat_map (λ q. q) ps ++ rest) = e ∙ append_assoc p (flat_map (λ q. q) ps) rest in (
      ap (λ (n : ℕ). take n (drop place file)) size ∙ ap (take (length p)) here ∙ take_first p (flat_map (λ q. q) ps ++ rest),
      rows-bytes file number (place + s.1) ss ps rest sizes_behind
          (sym (drop-drop s.1 place file) ∙ ap (λ (n : ℕ). drop n (drop place file)) size ∙ ap (drop (length p)) here ∙ drop_first p (flat_map (λ q. q) ps ++ rest)),
    )

parts : (e q h p rest : List ℕ) → (e ++ (q ++ (h ++ p))) ++ rest ≡ (e ++ (q ++ h)) ++ (p ++ rest)
parts e q h p rest =
    append_assoc e (q ++ (h ++ p)) rest
    ∙ ap (λ (l : List ℕ). e ++ l) (append_assoc q (h ++ p) rest ∙ ap (λ (l : List ℕ). q ++ l) (append_assoc h p rest) ∙ sym (append_assoc q h (p ++ rest)))
    ∙ sym (append_assoc e (q ++ h) (p ++ rest))

-- Behind those before it a record's pictures lie at the places of its rows.
module _ (before : List Record) (r : Record) (rest file : List ℕ) (all : AreRecords new_history before) (is : IsRecord r) (there : file ≡ front before ++ (open_gate ∷ (framed (body_of r) ++ rest))) where
  abbrev pictures : List ℕ
  pictures = flat_map (λ p. p) r.pictures

  -- all that stands before them
  abbrev to_pictures : List ℕ
  to_pictures = front before ++ (open_gate ∷ (eight (length (body_of r)) ++ (four (length (head_of r.entry)) ++ head_of r.entry)))

  pictures-there : file ≡ to_pictures ++ (pictures ++ rest)
  unfolding framed body_of
  pictures-there =
      let size = eight (length (body_of r)) in
      let head = four (length (head_of r.entry)) in
      there
      ∙ ap (λ (l : List ℕ). front before ++ (open_gate ∷ l)) (parts size head (head_of r.entry) pictures rest)
      ∙ sym (append_assoc (front before) (open_gate ∷ (size ++ (head ++ head_of r.entry))) (pictures ++ rest))

  length-to : length to_pictures ≡ (history_by before).place + before_body + before_pictures r.entry
  length-to =
      let end = place-end before all in
      let size = eight (length (body_of r)) in
      let head = four (length (head_of r.entry)) in
      omega (arith, end, length-append (front before) (open_gate ∷ (size ++ (head ++ head_of r.entry))), length-append size (head ++ head_of r.entry), length-append head (head_of r.entry))

  pictures-at : drop ((history_by before).place + before_body + before_pictures r.entry) file ≡ pictures ++ rest
  pictures-at = ap (λ (n : ℕ). drop n file) (sym length-to) ∙ ap (drop (length to_pictures)) pictures-there ∙ drop_first to_pictures (pictures ++ rest)

-- what a commit stores lies at the places of its rows
abbrev pub LiesAt : List ℕ → List (List ℕ) → Change → Type 0
LiesAt file ps c = AllZip (λ row p. bytes_at file row ≡ p) c.stored ps

lies_by : (h : History) (e : Entry) (ps : List (List ℕ)) (file rest : List ℕ) → map length ps ≡ lengths_in e → drop (h.place + before_body + before_pictures e) file ≡ flat_map (λ p. p) ps ++ rest → AllByRecursion (LiesAt file ps) (gives h e)
lies_by h (commit p f cells ds ss) ps file rest sizes at = (rows-bytes file (suc (newest h.graph)) (h.place + before_body + before_pictures (commit p f cells ds ss)) ss ps rest sizes at, tt)
lies_by h (move to) ps file rest sizes at = tt
lies_by h (name title n) ps file rest sizes at = tt

pub new-pictures : (before : List Record) (r : Record) (rest file : List ℕ) → AreRecords new_history before → IsRecord r → file ≡ front before ++ (open_gate ∷ (framed (body_of r) ++ rest))
    → AllByRecursion (LiesAt file r.pictures) (gives (history_by before) r.entry)
new-pictures before r rest file all is there = lies_by (history_by before) r.entry r.pictures file rest is.pictures (pictures-at before r rest file all is there)

-- ---- files that begin alike

pub begun-alike : (a x y : List ℕ) (r : Row) → r.place + r.len ≤ length a → bytes_at (a ++ x) r ≡ bytes_at (a ++ y) r
begun-alike a x y r l =
    let n : r.len ≤ length (drop r.place a) = (let k = length-drop r.place a in omega (arith, k, l)) in
    let at : (tail : List ℕ) → bytes_at (a ++ tail) r ≡ take r.len (drop r.place a) = λ tail.
    ap (take r.len) (drop-append-le r.place a tail (omega (arith, l))) ∙ take-append-le r.len (drop r.place a) tail n in
    at x ∙ sym (at y)

each_alike : (a x y : List ℕ) (t : Table) → AllByRecursion (λ r. r.place + r.len ≤ length a) t → AllByRecursion (λ r. bytes_at (a ++ x) r ≡ bytes_at (a ++ y) r) t
each_alike a x y [] h = tt
each_alike a x y (r ∷ t) h = (begun-alike a x y r h.0, each_alike a x y t h.1)

records-more : (rs more : List Record) → records (rs ++ more) ≡ records rs ++ records more
records-more [] more = refl
records-more (r ∷ rs) more = ap (λ (l : List ℕ). open_gate ∷ l) (ap (λ (l : List ℕ). framed (body_of r) ++ l) (records-more rs more) ∙ sym (append_assoc (framed (body_of r)) (records rs) (records more)))

front-more : (rs more : List Record) (x : List ℕ) → front (rs ++ more) ++ x ≡ front rs ++ (records more ++ x)
front-more rs more x =
    ap (λ (l : List ℕ). (header ++ l) ++ x) (records-more rs more)
    ∙ ap (λ (l : List ℕ). l ++ x) (sym (append_assoc header (records rs) (records more)))
    ∙ append_assoc (front rs) (records more) x

rows_within : (rs : List Record) → AreRecords new_history rs → (c : ℕ) → AllByRecursion (λ r. r.place + r.len ≤ length (front rs)) (change_of (changes_by rs) c).stored
rows_within rs all c = subst (λ (n : ℕ). AllByRecursion (λ (r : Row). r.place + r.len ≤ n) (change_of (changes_by rs) c).stored) (place-end rs all) ((records-history rs all).changes.each c).inside

-- The same bytes are at their places in both files.
abbrev pub StayIn : (a b : List ℕ) → List Change → Type 0
StayIn a b cs = (c : ℕ) → AllByRecursion (λ r. bytes_at a r ≡ bytes_at b r) (change_of cs c).stored

both_begun : (rs more : List Record) (a b x y : List ℕ) → AreRecords new_history rs → a ≡ front rs ++ x → b ≡ front (rs ++ more) ++ y → StayIn a b (changes_by rs)
both_begun rs more a b x y all ea eb c =
    subst (λ (f : List ℕ). AllByRecursion (λ (r : Row). bytes_at f r ≡ bytes_at b r) (change_of (changes_by rs) c).stored) (sym ea)
    (subst (λ (f : List ℕ). AllByRecursion (λ (r : Row). bytes_at (front rs ++ x) r ≡ bytes_at f r) (change_of (changes_by rs) c).stored) (sym (eb ∙ front-more rs more y))
    (each_alike (front rs) x (records more ++ y) (change_of (changes_by rs) c).stored (rows_within rs all c)))

none_stay : (rs : List Record) (a b : List ℕ) → rs ≡ [] → StayIn a b (changes_by rs)
none_stay rs a b e c = subst (λ (qs : List Record). AllByRecursion (λ (r : Row). bytes_at a r ≡ bytes_at b r) (change_of (changes_by qs) c).stored) (sym e) tt

first_none : (rs more : List Record) → rs ++ more ≡ [] → rs ≡ []
first_none [] more e = refl
first_none (r ∷ rs) more e = absurd (let d : length (r ∷ (rs ++ more)) ≡ 0 = ap length e in omega (arith, d))

-- Records that were appended behind leave the pictures of those before where they were.
pub pictures-stay : (a b : List ℕ) (rs more : List Record) → HasRecords a rs → HasRecords b (rs ++ more) → StayIn a b (changes_by rs)
pictures-stay a b rs more (inl ha) hb = none_stay rs a b ha.1
pictures-stay a b rs more (inr ha) (inl hb) = none_stay rs a b (first_none rs more hb.1)
pictures-stay a b rs more (inr ha) (inr hb) = both_begun rs more a b (ha.1.gate ∷ ha.1.rest) (hb.1.gate ∷ hb.1.rest) ha.1.fit ha.1.split hb.1.split

-- ---- what commits change, with records behind

led-append : (h : History) (es fs : List Entry) → led_by h (es ++ fs) ≡ led_by (led_by h es) fs
led-append h [] fs = refl
led-append h (e ∷ es) fs = led-append (led h e) es fs

entries-more : (rs more : List Record) → entries_in (rs ++ more) ≡ entries_in rs ++ entries_in more
entries-more [] more = refl
entries-more (r ∷ rs) more = ap (λ (es : List Entry). r.entry ∷ es) (entries-more rs more)

changes-grow : (h : History) (es : List Entry) → (ds : List Change) × ((led_by h es).changes ≡ ds ++ h.changes)
changes-grow h [] = ([], refl)
changes-grow h (e ∷ es) = (let k = changes-grow (led h e) es in (k.0 ++ gives h e, k.1 ∙ sym (append_assoc k.0 (gives h e) h.changes)))

change-before : (ds cs : List Change) (c : ℕ) → c ≤ length cs → change_of (ds ++ cs) c ≡ change_of cs c
change-before [] cs c l = refl
change-before (d ∷ ds) cs c l =
    elim (eqb_tells c (suc (length (ds ++ cs)))) [
      | inl p ↦ absurd (let e = p.1 in omega (arith, e, l, length-append ds cs))
      | inr p ↦ rw p.0 (change-before ds cs c l)
    ]

-- Records behind leave what the commits before change.
pub changes-stay : (rs more : List Record) (c : ℕ) → c ≤ length (changes_by rs) → change_of (changes_by (rs ++ more)) c ≡ change_of (changes_by rs) c
changes-stay rs more c l =
    let k = changes-grow (history_by rs) (entries_in more) in
    let grown : changes_by (rs ++ more) ≡ k.0 ++ changes_by rs =
    ap (λ (es : List Entry). (history_of es).changes) (entries-more rs more) ∙ ap (λ (h : History). h.changes) (led-append new_history (entries_in rs) (entries_in more)) ∙ k.1 in
    ap (λ (cs : List Change). change_of cs c) grown ∙ change-before k.0 (changes_by rs) c l

-- ---- a file that holds a graph

pub records-fit : (file : List ℕ) (rs : List Record) → HasRecords file rs → AreRecords new_history rs
records-fit file rs (inl h) = subst (λ (qs : List Record). AreRecords new_history qs) (sym h.1) tt
records-fit file rs (inr h) = h.1.fit

pub has-history : (file : List ℕ) (rs : List Record) → HasRecords file rs → IsHistory (history_by rs)
has-history file rs h = records-history rs (records-fit file rs h)

-- It gives changes,
pub holds-gives : (file : List ℕ) (g : Graph) → Holds file g → (cs : List Change) × Gives file cs
holds-gives file g h = (let k = holds-records file g h in (changes_by k.0, has-gives file k.0 k.1))

-- which are those of the graph's commits: as many, each with rows in order, and with tables that are ones.
pub held-changes : (file : List ℕ) (g : Graph) (cs : List Change) → Holds file g → Gives file cs → (place : ℕ) × AreChanges g cs place
held-changes file g cs holds gives =
    let a = holds-records file g holds in
    let b = gives-records file cs gives in
    let same : b.0 ≡ a.0 = one_records file b.0 a.0 b.1 a.1 in
    let k = (has-history file a.0 a.1).changes in
    let of_graph : AreChanges g (changes_by a.0) (history_by a.0).place = subst (λ (x : Graph). AreChanges x (changes_by a.0) (history_by a.0).place) (history-graph a.0 ∙ sym a.2) k in
    ((history_by a.0).place, subst (λ (xs : List Change). AreChanges g xs (history_by a.0).place) (sym (b.2 ∙ ap (λ (rs : List Record). changes_by rs) same)) of_graph)

-- ---- pictures, cut out of the bytes behind a head

abbrev pub cut_by : List ℕ → List ℕ → List (List ℕ)
cut_by [] bytes = []
cut_by (n ∷ ns) bytes = take n bytes ∷ cut_by ns (drop n bytes)

pub cut-lengths : (ns bytes : List ℕ) → sum ns ≡ length bytes → map length (cut_by ns bytes) ≡ ns
cut-lengths [] bytes e = refl
cut-lengths (n ∷ ns) bytes e =
    let all : sum (n ∷ ns) ≡ n + sum ns = sum_by-cons (λ x. x) n ns in
    let first : length (take n bytes) ≡ n = length-take-le n bytes (omega (arith, e, all)) in
    let rest = cut-lengths ns (drop n bytes) (omega (arith, e, all, length-drop n bytes)) in
    cc (first, rest)

pub cut-joined : (ns bytes : List ℕ) → sum ns ≡ length bytes → flat_map (λ p. p) (cut_by ns bytes) ≡ bytes
cut-joined [] [] e = refl
cut-joined [] (b ∷ bytes) e = absurd (omega (arith, e))
cut-joined (n ∷ ns) bytes e =
    let all : sum (n ∷ ns) ≡ n + sum ns = sum_by-cons (λ x. x) n ns in
    ap (λ (l : List ℕ). take n bytes ++ l) (cut-joined ns (drop n bytes) (omega (arith, e, all, length-drop n bytes))) ∙ take-append-drop n bytes
