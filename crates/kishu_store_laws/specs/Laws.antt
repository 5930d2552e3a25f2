-- What follows from the definition of the store file: a file holds at most one graph and gives at most one list of changes, and none where it is broken or foreign.
use Rattle.std.specs.Prelude.{◌≡◌, ◌≢◌, ◌<◌, ◌≤◌, ℕ, ◌+◌, List, [], ◌∷◌, ◌++◌, length, refl}
use Rattle.std.proofs.lemmas.Bool.{cases_lt}
use Rattle.std.proofs.Common.{inl, inr, ⊎_elim, sym, ◌∙◌, ap, subst, arith, length-append, append_assoc}
use Rattle.std.proofs.lemmas.List.{append_cancel_left}
use Rattle.kishu_bytes_laws.specs.NumberLaws.{append-unique}
use Rattle.kishu_store.specs.Entries.{Entry, Record, entries_in}
use Rattle.kishu_store.specs.EntryBytes.{eight, body_of}
use Rattle.kishu_store.specs.Fitting.{changed, changed_by}
use Rattle.kishu_store.specs.Graph.{Graph, new_graph}
use Rattle.kishu_store.specs.Histories.{History, new_history, led, led_by, Follows, AreRecords}
use Rattle.kishu_store.specs.Holds.{header, open_gate, fresh_length, framed, records, front, end_of, Ends, Holds, Gives, HasRecords, graph_of, graph_by, history_of, history_by, changes_by, IsGood, BeginsRecord, IsBroken, IsForeign}
use Rattle.kishu_store.specs.Limits.{longest_body}
use Rattle.kishu_store.specs.Rules.{IsRecord}
use Rattle.kishu_store.specs.Tables.{Change}
use Rattle.kishu_store_laws.specs.Cuts.{eight-unique}
use Rattle.kishu_store_laws.specs.EntryLaws.{body-unique}

-- ---- lengths

pub length-header : length header ≡ 16
unfolding header
length-header = refl

pub length-framed : (body : List ℕ) → length (framed body) ≡ 8 + length body
unfolding framed
length-framed body = length-append (eight (length body)) body

-- two framed bodies that begin alike are one
pub framed-unique : (a b x y : List ℕ) → length a ≤ longest_body → length b ≤ longest_body → framed a ++ x ≡ framed b ++ y → (a ≡ b) × (x ≡ y)
unfolding framed
framed-unique a b x y la lb e =
    let sizes = eight-unique (length a) (length b) (a ++ x) (b ++ y) (omega (arith, la)) (omega (arith, lb)) (sym (append_assoc (eight (length a)) a x) ∙ e ∙ append_assoc (eight (length b)) b y) in
    append-unique a b x y sizes.0 sizes.1

-- ---- records, one after another

pub changed-push : (g : Graph) (es : List Entry) (e : Entry) → changed_by g (es ++ (e ∷ [])) ≡ changed (changed_by g es) e
changed-push g [] e = refl
changed-push g (d ∷ es) e = changed-push (changed g d) es e

pub entries-push : (rs : List Record) (r : Record) → entries_in (rs ++ (r ∷ [])) ≡ entries_in rs ++ (r.entry ∷ [])
entries-push [] r = refl
entries-push (q ∷ rs) r = ap (λ (es : List Entry). q.entry ∷ es) (entries-push rs r)

pub led-push : (h : History) (es : List Entry) (e : Entry) → led_by h (es ++ (e ∷ [])) ≡ led (led_by h es) e
led-push h [] e = refl
led-push h (d ∷ es) e = led-push (led h d) es e

-- the graph of what records lead to is the one that they change
pub led-graph : (h : History) (es : List Entry) → (led_by h es).graph ≡ changed_by h.graph es
led-graph h [] = refl
led-graph h (e ∷ es) = led-graph (led h e) es

pub history-graph : (rs : List Record) → (history_by rs).graph ≡ graph_by rs
history-graph rs = led-graph new_history (entries_in rs)

pub records-push : (h : History) (rs : List Record) (r : Record) → AreRecords h rs → IsRecord r → Follows (led_by h (entries_in rs)) r.entry → AreRecords h (rs ++ (r ∷ []))
records-push h [] r all is fits = (is, fits, tt)
records-push h (q ∷ rs) r all is fits = (all.0, all.1, records-push (led h q.entry) rs r all.2 is fits)

-- the graph of some records and one more
pub graph-push : (rs : List Record) (r : Record) → graph_by (rs ++ (r ∷ [])) ≡ changed (graph_by rs) r.entry
graph-push rs r = ap (λ (es : List Entry). graph_of es) (entries-push rs r) ∙ changed-push new_graph (entries_in rs) r.entry

pub history-push : (rs : List Record) (r : Record) → history_by (rs ++ (r ∷ [])) ≡ led (history_by rs) r.entry
history-push rs r = ap (λ (es : List Entry). history_of es) (entries-push rs r) ∙ led-push new_history (entries_in rs) r.entry

-- ---- one file, one graph

-- the byte behind a record is there
begins : (bytes x : List ℕ) (b : Record) (bs : List Record) (gate : ℕ) (rest : List ℕ) (g : History) → bytes ≡ records (b ∷ bs) ++ (gate ∷ rest) → AreRecords g (b ∷ bs) → BeginsRecord bytes g b
begins bytes x b bs gate rest g e all = (
  records bs ++ (gate ∷ rest),
  e ∙ ap (λ (l : List ℕ). open_gate ∷ l) (append_assoc (framed (body_of b)) (records bs) (gate ∷ rest)),
  omega (arith, length-append (records bs) (gate ∷ rest)),
  all.0,
  all.1,
)

-- equal records at the front, one after another
module _ (g : History) (a b : Record) (al bl : List Record) (x y : List ℕ) (all_a : AreRecords g (a ∷ al)) (all_b : AreRecords g (b ∷ bl)) (e : records (a ∷ al) ++ x ≡ records (b ∷ bl) ++ y) where
  both_framed : (body_of a ≡ body_of b) × (records al ++ x ≡ records bl ++ y)
  both_framed =
      let rest : (framed (body_of a) ++ records al) ++ x ≡ (framed (body_of b) ++ records bl) ++ y = cc (e) in
      framed-unique (body_of a) (body_of b) (records al ++ x) (records bl ++ y) all_a.0.small all_b.0.small (sym (append_assoc (framed (body_of a)) (records al) x) ∙ rest ∙ append_assoc (framed (body_of b)) (records bl) y)

  first_same : a ≡ b
  first_same = body-unique a b all_a.0 all_b.0 both_framed.0

  rest_fit : AreRecords (led g a.entry) bl
  rest_fit = subst (λ (d : Record). AreRecords (led g d.entry) bl) (sym first_same) all_b.2

records-unique : (g : History) (a b : List Record) (x y : ℕ) (r s : List ℕ) → AreRecords g a → AreRecords g b → x ≢ open_gate → y ≢ open_gate → records a ++ (x ∷ r) ≡ records b ++ (y ∷ s) → a ≡ b
records-unique g [] [] x y r s fa fb cx cy e = refl
records-unique g [] (b ∷ bs) x y r s fa fb cx cy e = absurd (cx (cc (e)))
records-unique g (a ∷ al) [] x y r s fa fb cx cy e = absurd (cy (cc (e)))
records-unique g (a ∷ al) (b ∷ bs) x y r s fa fb cx cy e =
    let first = first_same g a b al bs (x ∷ r) (y ∷ s) fa fb e in
    let tails = (both_framed g a b al bs (x ∷ r) (y ∷ s) fa fb e).1 in
    let others = records-unique (led g a.entry) al bs x y r s fa.2 (rest_fit g a b al bs (x ∷ r) (y ∷ s) fa fb e) cx cy tails in
    cc (first, others)

-- records that end at an open gate with no record behind it don't end at a closed one
broken-unique : (g : History) (a b : List Record) (y : ℕ) (r s : List ℕ) → AreRecords g a → AreRecords g b → y ≢ open_gate → ((d : Record) → BeginsRecord (open_gate ∷ r) (led_by g (entries_in a)) d → ⊥) → records a ++ (open_gate ∷ r) ≡ records b ++ (y ∷ s) → ⊥
broken-unique g [] [] y r s fa fb cy none e = cy (cc (e))
broken-unique g [] (b ∷ bs) y r s fa fb cy none e = none b (begins (open_gate ∷ r) r b bs y s g e fb)
broken-unique g (a ∷ al) [] y r s fa fb cy none e = cy (cc (e))
broken-unique g (a ∷ al) (b ∷ bs) y r s fa fb cy none e =
    broken-unique (led g a.entry) al bs y r s fa.2 (rest_fit g a b al bs (open_gate ∷ r) (y ∷ s) fa fb e) cy none (both_framed g a b al bs (open_gate ∷ r) (y ∷ s) fa fb e).1

-- nor at another one
place-unique : (g : History) (a b : List Record) (r s : List ℕ) → AreRecords g a → AreRecords g b → ((d : Record) → BeginsRecord (open_gate ∷ r) (led_by g (entries_in a)) d → ⊥) → ((d : Record) → BeginsRecord (open_gate ∷ s) (led_by g (entries_in b)) d → ⊥) → records a ++ (open_gate ∷ r) ≡ records b ++ (open_gate ∷ s) → a ≡ b
place-unique g [] [] r s fa fb none_a none_b e = refl
place-unique g [] (b ∷ bs) r s fa fb none_a none_b e = absurd (none_a b (begins (open_gate ∷ r) r b bs open_gate s g e fb))
place-unique g (a ∷ al) [] r s fa fb none_a none_b e = absurd (none_b a (begins (open_gate ∷ s) s a al open_gate r g (sym e) fa))
place-unique g (a ∷ al) (b ∷ bs) r s fa fb none_a none_b e =
    let first = first_same g a b al bs (open_gate ∷ r) (open_gate ∷ s) fa fb e in
    let tails = (both_framed g a b al bs (open_gate ∷ r) (open_gate ∷ s) fa fb e).1 in
    let none_b2 : (d : Record) → BeginsRecord (open_gate ∷ s) (led_by (led g a.entry) (entries_in bs)) d → ⊥ =
    subst (λ (c : Record). (d : Record) → BeginsRecord (open_gate ∷ s) (led_by (led g c.entry) (entries_in bs)) d → ⊥) (sym first) none_b in
    let others = place-unique (led g a.entry) al bs r s fa.2 (rest_fit g a b al bs (open_gate ∷ r) (open_gate ∷ s) fa fb e) none_a none_b2 tails in
    cc (first, others)

-- behind the header
behind : (a b : List Record) (file x y : List ℕ) → file ≡ front a ++ x → file ≡ front b ++ y → records a ++ x ≡ records b ++ y
behind a b file x y ea eb =
    append_cancel_left header (records a ++ x) (records b ++ y) (sym (append_assoc header (records a) x) ∙ sym ea ∙ eb ∙ append_assoc header (records b) y)

pub one_ending : (file : List ℕ) (a b : List Record) → Ends file a → Ends file b → a ≡ b
one_ending file a b ea eb = records-unique new_history a b ea.gate eb.gate ea.rest eb.rest ea.fit eb.fit ea.closed eb.closed (behind a b file (ea.gate ∷ ea.rest) (eb.gate ∷ eb.rest) ea.split eb.split)

pub one_graph : (file : List ℕ) (g h : Graph) → Holds file g → Holds file h → g ≡ h
one_graph file g h (inl hg) (inl hh) = hg.1 ∙ sym hh.1
one_graph file g h (inl hg) (inr hh) = absurd (omega (arith, hg.0, hh.0))
one_graph file g h (inr hg) (inl hh) = absurd (omega (arith, hg.0, hh.0))
one_graph file g h (inr hg) (inr hh) = hg.3 ∙ ap (λ (rs : List Record). graph_by rs) (one_ending file hg.1 hh.1 hg.2 hh.2) ∙ sym hh.3

-- and gives one list of changes
pub one_changes : (file : List ℕ) (cs ds : List Change) → Gives file cs → Gives file ds → cs ≡ ds
one_changes file cs ds (inl gc) (inl gd) = gc.1 ∙ sym gd.1
one_changes file cs ds (inl gc) (inr gd) = absurd (omega (arith, gc.0, gd.0))
one_changes file cs ds (inr gc) (inl gd) = absurd (omega (arith, gc.0, gd.0))
one_changes file cs ds (inr gc) (inr gd) = gc.3 ∙ ap (λ (rs : List Record). changes_by rs) (one_ending file gc.1 gd.1 gc.2 gd.2) ∙ sym gd.3

-- for it has one list of records
pub one_records : (file : List ℕ) (a b : List Record) → HasRecords file a → HasRecords file b → a ≡ b
one_records file a b (inl ha) (inl hb) = ha.1 ∙ sym hb.1
one_records file a b (inl ha) (inr hb) = absurd (omega (arith, ha.0, hb.0))
one_records file a b (inr ha) (inl hb) = absurd (omega (arith, ha.0, hb.0))
one_records file a b (inr ha) (inr hb) = one_ending file a b ha.1 hb.1

-- of which it holds the graph and gives the changes
pub has-holds : (file : List ℕ) (rs : List Record) → HasRecords file rs → Holds file (graph_by rs)
has-holds file rs (inl h) = inl (h.0, ap (λ (qs : List Record). graph_by qs) h.1)
has-holds file rs (inr h) = inr (h.0, rs, h.1, refl)

pub has-gives : (file : List ℕ) (rs : List Record) → HasRecords file rs → Gives file (changes_by rs)
has-gives file rs (inl h) = inl (h.0, ap (λ (qs : List Record). changes_by qs) h.1)
has-gives file rs (inr h) = inr (h.0, rs, h.1, refl)

-- A file that holds a graph has its records.
pub holds-records : (file : List ℕ) (g : Graph) → Holds file g → (rs : List Record) × HasRecords file rs × (g ≡ graph_by rs)
holds-records file g (inl h) = ([], inl (h.0, refl), h.1)
holds-records file g (inr h) = (h.1, inr (h.0, h.2), h.3)

pub gives-records : (file : List ℕ) (cs : List Change) → Gives file cs → (rs : List Record) × HasRecords file rs × (cs ≡ changes_by rs)
gives-records file cs (inl g) = ([], inl (g.0, refl), g.1)
gives-records file cs (inr g) = (g.1, inr (g.0, g.2), g.3)

pub broken-ends : (file : List ℕ) (at : ℕ) (es : List Record) → IsBroken file at → Ends file es → ⊥
broken-ends file at es broken ends =
    broken-unique new_history broken.before es ends.gate broken.rest ends.rest broken.fit ends.fit ends.closed broken.none (behind broken.before es file (open_gate ∷ broken.rest) (ends.gate ∷ ends.rest) broken.split ends.split)

pub broken-holds : (file : List ℕ) (at : ℕ) (g : Graph) → IsBroken file at → Holds file g → ⊥
broken-holds file at g broken (inl short) = omega (arith, broken.long, short.0)
broken-holds file at g broken (inr held) = broken-ends file at held.1 broken held.2

pub foreign-holds : (file : List ℕ) (g : Graph) → IsForeign file → Holds file g → ⊥
foreign-holds file g foreign (inl short) = omega (arith, foreign.0, short.0)
foreign-holds file g foreign (inr held) = (
    let ends = held.2 in
    foreign.1 (records held.1 ++ (ends.gate ∷ ends.rest)) (ends.split ∙ append_assoc header (records held.1) (ends.gate ∷ ends.rest))
    )

pub foreign-broken : (file : List ℕ) (at : ℕ) → IsForeign file → IsBroken file at → ⊥
foreign-broken file at foreign broken = foreign.1 (records broken.before ++ (open_gate ∷ broken.rest)) (broken.split ∙ append_assoc header (records broken.before) (open_gate ∷ broken.rest))

pub one_place : (file : List ℕ) (at there : ℕ) → IsBroken file at → IsBroken file there → at ≡ there
one_place file at there p q =
    let same : p.before ≡ q.before = place-unique new_history p.before q.before p.rest q.rest p.fit q.fit p.none q.none (behind p.before q.before file (open_gate ∷ p.rest) (open_gate ∷ q.rest) p.split q.split) in
    p.place ∙ ap (λ (rs : List Record). end_of rs) same ∙ sym q.place

-- A file that ends so has these records, and holds their graph, however short it is.
pub ends-records : (file : List ℕ) (es : List Record) → Ends file es → HasRecords file es
ends-records file [] e = ⊎_elim (λ (l : fresh_length < length file). inr (l, e)) (λ (l : length file ≤ fresh_length). inl (l, refl)) (cases_lt fresh_length (length file))
ends-records file (c ∷ es) e =
    inr (
      omega (arith, ap length e.split, length-append (front (c ∷ es)) (e.gate ∷ e.rest), length-append header (records (c ∷ es)), length-header, length-append (framed (body_of c)) (records es), length-framed (body_of c)),
      e,
    )

pub ends-holds : (file : List ℕ) (es : List Record) → Ends file es → Holds file (graph_by es)
ends-holds file es e = has-holds file es (ends-records file es e)

pub ends-gives : (file : List ℕ) (es : List Record) → Ends file es → Gives file (changes_by es)
ends-gives file es e = has-gives file es (ends-records file es e)

pub ends-good : (file : List ℕ) (es : List Record) → Ends file es → IsGood file
ends-good file es e = (graph_by es, ends-holds file es e)
