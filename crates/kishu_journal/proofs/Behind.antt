-- Files with one record more.
use Rattle.std.proofs.Common.{◌≡◌, ◌≤◌, ◌<◌, ◌+◌, ◌*◌, ◌^◌, ℕ, List, [], ◌∷◌, ◌++◌, length, sym, ◌∙◌, ap, arith, length-append, append_assoc}
use Rattle.kishu_store.specs.Entries.{Record}
use Rattle.kishu_store.specs.EntryBytes.{body_of}
use Rattle.kishu_store.specs.Histories.{History, AreRecords, led, new_history}
use Rattle.kishu_store.specs.Holds.{header, open_gate, framed, records, front, end_of}
use Rattle.kishu_store_laws.specs.Laws.{length-header, length-framed}
use Rattle.kishu_store_laws.specs.GraphLaws.{records-most}
use Rattle.kishu_journal.specs.Stands.{with_record}

records-with : (es : List Record) (e : Record) (x : List ℕ) → records (with_record es e) ++ x ≡ records es ++ (open_gate ∷ (framed (body_of e) ++ x))
records-with [] e x = ap (λ (l : List ℕ). open_gate ∷ l) (append_assoc (framed (body_of e)) [] x)
records-with (d ∷ es) e x =
    ap
    (λ (l : List ℕ). open_gate ∷ l)
    (append_assoc (framed (body_of d)) (records (with_record es e)) x
    ∙ ap (λ (l : List ℕ). framed (body_of d) ++ l) (records-with es e x)
    ∙ sym (append_assoc (framed (body_of d)) (records es) (open_gate ∷ (framed (body_of e) ++ x))))

pub front-with : (es : List Record) (e : Record) (x : List ℕ) → front (with_record es e) ++ x ≡ front es ++ (open_gate ∷ (framed (body_of e) ++ x))
front-with es e x =
    append_assoc header (records (with_record es e)) x ∙ ap (λ (l : List ℕ). header ++ l) (records-with es e x) ∙ sym (append_assoc header (records es) (open_gate ∷ (framed (body_of e) ++ x)))

pub end-with : (es : List Record) (e : Record) → end_of (with_record es e) ≡ end_of es + 9 + length (body_of e)
end-with es e =
    let whole : length (front (with_record es e) ++ []) ≡ length (front es ++ (open_gate ∷ (framed (body_of e) ++ []))) = ap length (front-with es e []) in
    omega (
      arith,
      whole,
      length-append (front (with_record es e)) [],
      length-append (front es) (open_gate ∷ (framed (body_of e) ++ [])),
      length-append (framed (body_of e)) [],
      length-framed (body_of e),
    )

pub end-none : end_of [] ≡ 16
end-none = omega (arith, length-header, length-append header [])

records-below : (h : History) (es : List Record) → AreRecords h es → length (records es) ≤ 1073741833 * length es
records-below h [] all = omega arith
records-below h (e ∷ es) all = omega (arith, length-append (framed (body_of e)) (records es), length-framed (body_of e), all.0.small, records-below (led h e.entry) es all.2)

-- No store is so long that its places aren't numbers of eight bytes.
pub end-below : (es : List Record) → AreRecords new_history es → end_of es < 2 ^ 62
end-below es all = omega (arith, length-append header (records es), length-header, records-below new_history es all, records-most es all)
