-- The four calls of an append, and what a stop leaves in each.
use Rattle.std.proofs.Common.{◌≡◌, ◌≢◌, ◌⊎◌, inl, inr, ⊎_elim, ◌+◌, ℕ, List, [], ◌∷◌, ◌++◌, length, drop, get_or, sym, ◌∙◌, ap, subst, arith, append_assoc}
use Rattle.std.proofs.lemmas.Bool.{cases_eq}
use Rattle.kishu_host.specs.Host.{State, Now, Torn, Follows, Only, Elapses, overwrite}
use Rattle.kishu_host.specs.Going.{weaker, goes_on}
use Rattle.kishu_store.specs.Entries.{Record}
use Rattle.kishu_store.specs.EntryBytes.{body_of}
use Rattle.kishu_store.specs.Histories.{new_history}
use Rattle.kishu_store.specs.Holds.{open_gate, framed, front, end_of, Ends, HasRecords}
use Rattle.kishu_store_laws.specs.Laws.{records-push, ends-records}
use Rattle.kishu_journal.specs.Stands.{IsWhole, with_record}
use Rattle.kishu_journal.specs.Going.{WithOrWithoutRecord}
use Rattle.kishu_journal.proofs.Writes.{torn-rest, torn-gate, written-rest, written-gate}
use Rattle.kishu_journal.proofs.Behind.{front-with}

-- the whole record stands behind the closed gate
pub record IsStaged (file : List ℕ) (entries : List Record) (e : Record) : Type 0 where
  pub gate : ℕ
  pub rest : List ℕ
  pub split : file ≡ front entries ++ (gate ∷ (framed (body_of e) ++ (0 ∷ rest)))

module _ (old : List ℕ) (place : ℕ) (bytes : List ℕ) (entries : List Record) (e : Record) (w : IsWhole old place bytes entries e) where
  -- the records stay where the write behind the gate is cut short
  torn_ends : (n : ℕ) (c : List ℕ) → Torn (place + 1) n old c → Ends c entries
  torn_ends n c torn =
      let there : Torn (end_of entries + 1) n (front entries ++ (w.ends.gate ∷ w.ends.rest)) c =
      subst (λ (p : ℕ). Torn (p + 1) n (front entries ++ (w.ends.gate ∷ w.ends.rest)) c) w.place_is (subst (λ (f : List ℕ). Torn (place + 1) n f c) w.ends.split torn) in
      record {
        gate = w.ends.gate;
        rest = drop (end_of entries + 1) c;
        split = torn-rest (front entries) w.ends.gate w.ends.rest n c there;
        closed = w.ends.closed;
        fit = w.ends.fit;
      }

  pub staged : (file : List ℕ) → file ≡ overwrite (place + 1) bytes old → IsStaged file entries e
  staged file is =
      let new = framed (body_of e) ++ (0 ∷ []) in
      let there : overwrite (place + 1) bytes old ≡ overwrite (end_of entries + 1) new (front entries ++ (w.ends.gate ∷ w.ends.rest)) =
      ap (λ (p : ℕ). overwrite (p + 1) bytes old) w.place_is
      ∙ ap (λ (b : List ℕ). overwrite (end_of entries + 1) b old) w.bytes_are
      ∙ ap (λ (f : List ℕ). overwrite (end_of entries + 1) new f) w.ends.split in
      record {
        gate = w.ends.gate;
        rest = drop (length new) w.ends.rest;
        split = is ∙ there ∙ written-rest (front entries) w.ends.gate w.ends.rest new
            ∙ ap (λ (l : List ℕ). front entries ++ (w.ends.gate ∷ l)) (append_assoc (framed (body_of e)) (0 ∷ []) (drop (length new) w.ends.rest));
      }

  -- an open gate before the record
  opened : (rest c : List ℕ) → c ≡ front entries ++ (open_gate ∷ (framed (body_of e) ++ (0 ∷ rest))) → Ends c (with_record entries e)
  opened rest c is = record {
    gate = 0;
    rest = rest;
    split = is ∙ sym (front-with entries e (0 ∷ rest));
    closed = omega arith;
    fit = records-push new_history entries e w.ends.fit w.rules w.fits;
  }

  pub is_opened : (before file : List ℕ) → IsStaged before entries e → file ≡ overwrite place (open_gate ∷ []) before → Ends file (with_record entries e)
  is_opened before file st is =
      opened
      st.rest
      file
      (is
      ∙ ap (λ (p : ℕ). overwrite p (open_gate ∷ []) before) w.place_is
      ∙ ap (λ (f : List ℕ). overwrite (end_of entries) (open_gate ∷ []) f) st.split
      ∙ written-gate (front entries) st.gate (framed (body_of e) ++ (0 ∷ st.rest)) open_gate)

  -- with the record or without, where the write of the gate is cut short
  torn_records : (before c : List ℕ) → IsStaged before entries e → Torn place 1 before c → HasRecords c entries ⊎ HasRecords c (with_record entries e)
  torn_records before c st torn =
      let behind = framed (body_of e) ++ (0 ∷ st.rest) in
      let g = get_or c (end_of entries) 0 in
      let there : Torn (end_of entries) 1 (front entries ++ (st.gate ∷ behind)) c =
      subst (λ (p : ℕ). Torn p 1 (front entries ++ (st.gate ∷ behind)) c) w.place_is (subst (λ (f : List ℕ). Torn place 1 f c) st.split torn) in
      let is : c ≡ front entries ++ (g ∷ behind) = torn-gate (front entries) st.gate behind c there in
      ⊎_elim
      (λ (o : g ≡ open_gate). inr (ends-records c (with_record entries e) (opened st.rest c (is ∙ ap (λ (x : ℕ). front entries ++ (x ∷ behind)) o))))
      (λ (shut : g ≢ open_gate). inl (ends-records c entries (record { gate = g; rest = behind; split = is; closed = shut; fit = w.ends.fit })))
      (cases_eq g open_gate)

module _ (s0 : State) (place : ℕ) (bytes : List ℕ) (entries : List Record) (e : Record) (w : IsWhole s0.file place bytes entries e) (only : Only s0.file s0.may_leave) (s1 : State) (n : ℕ) (torn1 : Follows (Torn (place + 1) n) s0.may_leave s1.may_leave) (kept1 : s1.out ≡ s0.out) (time1 : Elapses s0 s1 (Now s1)) where
  after_write : (c o : List ℕ) → Now s1 c o → WithOrWithoutRecord s0 entries e c o
  after_write c o now =
      let from = torn1 c now.0 in
      (now.1 ∙ kept1, inl (ends-records c entries (torn_ends s0.file place bytes entries e w n c (subst (λ (f : List ℕ). Torn (place + 1) n f c) (only from.0 from.1) from.2))))

  pub first : Elapses s0 s1 (WithOrWithoutRecord s0 entries e)
  first = weaker s0 s1 (WithOrWithoutRecord s0 entries e) (Now s1) time1 after_write

  pub second : (s2 : State) → Elapses s1 s2 (Now s1) → Elapses s0 s2 (WithOrWithoutRecord s0 entries e)
  second s2 time2 = goes_on s0 s1 s2 (WithOrWithoutRecord s0 entries e) (Now s1) first time2 after_write

  module _ (s2 : State) (time2 : Elapses s1 s2 (Now s1)) (kept2 : s2.out ≡ s1.out) (written : s1.file ≡ overwrite (place + 1) bytes s0.file) (durable : Only s1.file s2.may_leave) (s3 : State) (torn3 : Follows (Torn place 1) s2.may_leave s3.may_leave) (kept3 : s3.out ≡ s2.out) (time3 : Elapses s2 s3 (Now s3)) where
    after_gate : (c o : List ℕ) → Now s3 c o → WithOrWithoutRecord s0 entries e c o
    after_gate c o now =
        let from = torn3 c now.0 in
        (now.1 ∙ kept3 ∙ kept2 ∙ kept1, torn_records s0.file place bytes entries e w s1.file c (staged s0.file place bytes entries e w s1.file written) (subst (λ (f : List ℕ). Torn place 1 f c) (durable from.0 from.1) from.2))

    pub third : Elapses s0 s3 (WithOrWithoutRecord s0 entries e)
    third = goes_on s0 s2 s3 (WithOrWithoutRecord s0 entries e) (Now s3) (second s2 time2) time3 after_gate

    pub fourth : (s4 : State) → Elapses s3 s4 (Now s3) → Elapses s0 s4 (WithOrWithoutRecord s0 entries e)
    fourth s4 time4 = goes_on s0 s3 s4 (WithOrWithoutRecord s0 entries e) (Now s3) third time4 after_gate
