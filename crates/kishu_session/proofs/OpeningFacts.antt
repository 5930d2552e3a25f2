-- What opening leaves of a file.
use Rattle.std.proofs.Common.{◌≡◌, ◌⊎◌, ◌≤◌, ◌<◌, inl, inr, ⊎_elim, ℕ, List, [], length, refl, sym, ◌∙◌, ap, subst, arith}
use Rattle.std.proofs.lemmas.Bool.{cases_lt}
use Rattle.std.proofs.lemmas.Bool.Decides.{nat_tests}
use Rattle.std.specs.Prelude.{Bool, true, false, if◌then◌else◌, nat_le}
use Rattle.kishu_host.specs.Host.{State, Told, Now}
use Rattle.kishu_host.specs.Going.{weaker, goes_on}
use Rattle.kishu_store.specs.Graph.{Graph, new_graph}
use Rattle.kishu_store.specs.Holds.{Holds, Gives}
use Rattle.kishu_store.specs.Tables.{Change, change_of}
use Rattle.kishu_store_laws.specs.Laws.{one_graph, one_changes}
use Rattle.kishu_history.specs.Good.{IsGoodStore, IsGoodFileOf}
use Rattle.kishu_history_laws.specs.stores.StoreLaws.{new_good}
use Rattle.kishu_journal.specs.Bytes.{fresh}
use Rattle.kishu_journal.specs.Facts.{KeepsLong, StaysShort, Settles, StopsAtOpening}
use Rattle.kishu_journal.specs.Going.{IsQuiet, LeavesShort}
use Rattle.kishu_session.specs.Attaching.{KeepsGraphs, KeepsGood, KeepsBad, SettlesUnless, SettlesGood, LeavesGraph, LeavesGood, StaysDamaged}
use Rattle.kishu_session.specs.Opening.{IsOpening}
use Rattle.kishu_session.specs.Written.{HoldsNone, begun}

-- a file that holds nothing is a long one
long-bad : (file : List ℕ) → HoldsNone file → 17 < length file
long-bad file bad = ⊎_elim (λ (l : 17 < length file). l) (λ (l : length file ≤ 17). absurd (bad new_graph (inl (l, refl)))) (cases_lt 17 (length file))

-- opening leaves each byte so
pub begun-is : (old new : List ℕ) → (17 < length old → new ≡ old) → (length old ≤ 17 → new ≡ fresh) → new ≡ begun old
begun-is old new kept anew =
    ⊎_elim (λ (long : 17 < length old). let no : nat_le (length old) 17 ≡ false = grind (arith, nat_tests) in kept long ∙ sym (ap (λ (b : Bool). if b then fresh else old) no))
    (λ (short : length old ≤ 17). let yes : nat_le (length old) 17 ≡ true = grind (arith, nat_tests) in anew short ∙ sym (ap (λ (b : Bool). if b then fresh else old) yes)) (cases_lt 17 (length old))

-- ---- what files hold

-- a short file is a good one
pub short-good : (file : List ℕ) (g : Graph) → length file ≤ 17 → g ≡ new_graph → IsGoodFileOf file g
short-good file g l is = record {
  changes = [];
  holds = inl (l, is);
  gives = inl (l, refl);
  store = subst (λ (x : Graph). IsGoodStore file x.commits (change_of [])) (sym is) (new_good file);
}

module _ (old new : List ℕ) (kept : 17 < length old → new ≡ old) (short : length old ≤ 17 → length new ≤ 17) where
  pub kept-holds : (g : Graph) → Holds old g → Holds new g
  kept-holds g (inl s) = inl (short s.0, s.1)
  kept-holds g (inr l) = subst (λ (f : List ℕ). Holds f g) (sym (kept l.0)) (inr l)

  pub kept-gives : (cs : List Change) → Gives old cs → Gives new cs
  kept-gives cs (inl s) = inl (short s.0, s.1)
  kept-gives cs (inr l) = subst (λ (f : List ℕ). Gives f cs) (sym (kept l.0)) (inr l)

  -- what the new file gives the old one gave
  pub gave-back : (cs : List Change) → Gives new cs → Gives old cs
  gave-back cs gives =
      ⊎_elim
      (λ (long : 17 < length old). subst (λ (f : List ℕ). Gives f cs) (kept long) gives)
      (λ (l : length old ≤ 17). inl (l, one_changes new cs [] gives (inl (short l, refl))))
      (cases_lt 17 (length old))

  pub kept-good : (g : Graph) → IsGoodFileOf old g → IsGoodFileOf new g
  kept-good g good =
      ⊎_elim
      (λ (long : 17 < length old). subst (λ (f : List ℕ). IsGoodFileOf f g) (sym (kept long)) good)
      (λ (l : length old ≤ 17). short-good new g (short l) (one_graph old g new_graph good.holds (inl (l, refl))))
      (cases_lt 17 (length old))

-- ---- what an opening leaves

pub opening-of : (F G : Type 0) (s t : State) → (F → G) → KeepsLong s t → StaysShort s t → t.out ≡ s.out → Settles F s t → StopsAtOpening s t → t.tells ≡ s.tells → s.disk_faults ≤ t.disk_faults → s.out_faults ≤ t.out_faults → IsOpening G s t
opening-of F G s t also long short out settled stop tells disk outs = record {
  long = long;
  short = short;
  out = out;
  settled = λ told. elim (settled told) [ inl unsynced ↦ inl (also unsynced.0, unsynced.1) | inr rest ↦ inr rest ];
  stop = stop;
  tells = tells;
  disk = disk;
  outs = outs;
}

module _ (Failed : Type 0) (s t : State) (o : IsOpening Failed s t) where
  pub opening-held : KeepsGraphs s t
  opening-held told g holds = kept-holds s.file t.file (o.long told) (o.short told) g holds

  pub opening-held-good : KeepsGood s t
  opening-held-good told g good = kept-good s.file t.file (o.long told) (o.short told) g good

  pub opening-bad : KeepsBad s t
  opening-bad told bad = record { file = o.long told (long-bad s.file bad); out = o.out }

  pub opening-settled : SettlesUnless Failed s t
  opening-settled told g holds = elim (o.settled told) [
    | inl unsynced ↦ inl unsynced
    | inr (inl only) ↦ inr (λ c now. subst (λ (f : List ℕ). Holds f g) (sym (only c now)) (opening-held told g holds))
    | inr (inr anew) ↦ inr (λ c now. inl (anew.1 c now, one_graph s.file g new_graph holds (inl (anew.0, refl))))
  ]

  pub opening-settled-good : SettlesGood Failed s t
  opening-settled-good told g good = elim (o.settled told) [
    | inl unsynced ↦ inl unsynced
    | inr (inl only) ↦ inr (λ c now. subst (λ (f : List ℕ). IsGoodFileOf f g) (sym (only c now)) (opening-held-good told g good))
    | inr (inr anew) ↦ inr (λ c now. short-good c g (anew.1 c now) (one_graph s.file g new_graph good.holds (inl (anew.0, refl))))
  ]

  pub opening-stop : LeavesGraph s t
  opening-stop told g holds =
      weaker s t (λ c o. Now s c o ⊎ (Holds c g × (o ≡ s.out))) (λ c o. Now s c o ⊎ ((length s.file ≤ 17) × LeavesShort s c o)) (o.stop told)
      (λ f out w. elim w [
        | inl now ↦ inl now
        | inr anew ↦ inr (inl (anew.1.1, one_graph s.file g new_graph holds (inl (anew.0, refl))), anew.1.0)
      ])

  pub opening-stop-good : LeavesGood s t
  opening-stop-good told g good =
      weaker s t (λ c o. Now s c o ⊎ (IsGoodFileOf c g × (o ≡ s.out))) (λ c o. Now s c o ⊎ ((length s.file ≤ 17) × LeavesShort s c o)) (o.stop told)
      (λ f out w. elim w [
        | inl now ↦ inl now
        | inr anew ↦ inr (short-good f g anew.1.1 (one_graph s.file g new_graph good.holds (inl (anew.0, refl))), anew.1.0)
      ])

  -- a longer file, where no call failed
  pub opening-damaged : (Failed → ⊥) → Told s (17 < length s.file → StaysDamaged s t)
  opening-damaged fine told long = record {
    file = o.long told long;
    only = elim (o.settled told) [
      | inl unsynced ↦ absurd (fine unsynced.0)
      | inr (inl only) ↦ (λ c now. only c now ∙ o.long told long)
      | inr (inr anew) ↦ absurd (let l = anew.0 in omega (arith, l, long))
    ];
    time = weaker s t (Now s) (λ c o. Now s c o ⊎ ((length s.file ≤ 17) × LeavesShort s c o)) (o.stop told)
        (λ f out w. elim w [
          | inl now ↦ now
          | inr anew ↦ absurd (let l = anew.0 in omega (arith, l, long))
        ]);
  }

-- ---- and what reading leaves then

module _ (Failed Then : Type 0) (s s1 t : State) (now : Told s (s.may_leave s.file)) (fine : Failed → ⊥) (o : IsOpening Failed s s1) (q : IsQuiet s1 t) where
  settled-then : Settles Then s t
  settled-then told = elim (o.settled told) [
    | inl unsynced ↦ absurd (fine unsynced.0)
    | inr (inl only) ↦ inr (inl (λ c here. only c (q.keeps.crash c here) ∙ sym q.keeps.file))
    | inr (inr anew) ↦ inr (inr (anew.0, λ c here. anew.1 c (q.keeps.crash c here)))
  ]

  -- what a stop leaves while it is read
  left-then : Told s ((f out : List ℕ) → Now s1 f out → Now s f out ⊎ ((length s.file ≤ 17) × LeavesShort s f out))
  left-then told f out here = elim (o.settled told) [
    | inl unsynced ↦ absurd (fine unsynced.0)
    | inr (inl only) ↦ ⊎_elim
        (λ (long : 17 < length s.file). inl (subst (λ (c : List ℕ). s.may_leave c) (sym (only f here.0 ∙ o.long told long)) (now told), here.1 ∙ o.out))
        (λ (short : length s.file ≤ 17). inr (short, (here.1 ∙ o.out, subst (λ (c : List ℕ). length c ≤ 17) (sym (only f here.0)) (o.short told short))))
        (cases_lt 17 (length s.file))
    | inr (inr anew) ↦ inr (anew.0, (here.1 ∙ o.out, anew.1 f here.0))
  ]

  pub opening-then : IsOpening Then s t
  opening-then = record {
    long = λ told long. q.keeps.file ∙ o.long told long;
    short = λ told short. subst (λ (f : List ℕ). length f ≤ 17) (sym q.keeps.file) (o.short told short);
    out = q.keeps.out ∙ o.out;
    settled = settled-then;
    stop = λ told. goes_on s s1 t (λ c o. Now s c o ⊎ ((length s.file ≤ 17) × LeavesShort s c o)) (Now s1) (o.stop told) q.time (left-then told);
    tells = q.time.tells ∙ o.tells;
    disk = omega (arith, o.disk, q.disk);
    outs = omega (arith, o.outs, q.outs);
  }
