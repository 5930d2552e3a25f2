-- The run of a notebook's cells, request by request.
use Rattle.std.proofs.Common.{◌≡◌, ◌≢◌, ◌⊎◌, ◌≤◌, ◌<◌, ◌+◌, inl, inr, ℕ, suc, zero, Bool, true, false, List, [], ◌∷◌, ◌++◌, length, map, drop, get_or, if◌then◌else◌, refl, sym, ◌∙◌, ap, subst, arith}
use Rattle.std.proofs.lemmas.List.{append-nil, drop_more, get_or-map, length-map}
use Rattle.std.specs.Rc.{rc_str_bytes}
use Rattle.std.specs.declared.alloc.Global.{Global}
use Rattle.std.specs.declared.rc.RcStr.{RcStr}
use Rattle.serde_json.specs.Data.{Data}
use Rattle.kishu_host.specs.Host.{State, Elapses, DuringPut}
use Rattle.kishu_store.specs.Graph.{Graph}
use Rattle.kishu_model.specs.Request.{Request, cell, cells}
use Rattle.kishu_model.specs.requests.Cells.{texts_size}
use Rattle.kishu_model.specs.Serve.{after, Item, silent, closing, charges}
use Rattle.kishu_model.specs.Step.{step, charge_of}
use Rattle.kishu_model.specs.notebooks.Run.{goes_on, each_cell, all_cells, with_answer, items_from}
use Rattle.kishu_model.specs.notebooks.Setting.{written}
use Rattle.kishu_session.specs.Attached.{IsAttached}
use Rattle.kishu_session.specs.Written.{IsRecorded}
use Rattle.kishu_session.specs.declared.session.Session.{Session}
use Rattle.kishu_serve.specs.Coming.{Comes, ComesTo}
use Rattle.kishu_serve.specs.Headline.{IsPart, IsWhole}
use Rattle.kishu_serve.specs.Recorded.{IsRecordedBy, AreRecorded, Records}
use Rattle.kishu_serve.proofs.Chain.{comes-start, more-stop, comes-more, comes-whole, comes-least}
use Rattle.kishu_serve.proofs.Parts.{told-stop}

-- ---- records

-- one record more behind others
recorded-by : (n : ℕ) (old mid new : List ℕ) → IsRecordedBy n old mid → (new ≡ mid) ⊎ IsRecorded mid new → AreRecorded true old new
recorded-by zero old mid new same (inl e) = (zero, e ∙ same)
recorded-by zero old mid new same (inr one) = (suc zero, (new, subst (λ (f : List ℕ). IsRecorded f new) same one, refl))
recorded-by (suc n) old mid new (next, first, rest) turn = let r = recorded-by n next mid new rest turn in (suc r.0, (next, first, r.1))

pub recorded-more : (many : Bool) (old mid new : List ℕ) → many ≡ true → AreRecorded many old mid → (new ≡ mid) ⊎ IsRecorded mid new → AreRecorded many old new
recorded-more true old mid new e (n, before) turn = recorded-by n old mid new before turn
recorded-more false old mid new e before turn = absurd (cc e)

-- They are where the host tells its file.
pub file-kept : (many : Bool) (s0 s1 s2 : State) → s2.file ≡ s1.file → Records many s0 s1 → Records many s0 s2
file-kept many s0 s1 s2 same before told = subst (λ (f : List ℕ). AreRecorded many s0.file f) (sym same) (before told)

-- ---- a request for which nothing is written

module _ (s0 s1 s2 : State) (g now : Graph) (all rest : List Item) (q : Request) (steps0 steps1 steps2 : ℕ)
    (comes : Comes s0 s1 g now all (silent q ∷ rest) steps0 steps1) where
  pub silent-more : s2.out ≡ s1.out → steps1 + charge_of now q ≤ steps2 → Elapses s1 s2 (IsPart s1 now (silent q ∷ []))
      → Comes s0 s2 g (after now q) all rest steps0 steps2
  silent-more same least stop = comes-more s0 s1 s2 g now all rest (silent q) steps0 steps1 comes (same ∙ sym (append-nil s1.out)) steps2 least stop

  pub silent-stop : Elapses s1 s2 (IsPart s1 now (silent q ∷ [])) → Elapses s0 s2 (IsPart s0 g all)
  silent-stop stop = more-stop s0 s1 s2 g now all rest (silent q) steps0 steps1 comes stop

-- ---- cells one by one

-- the rest of some texts, from one that is seen
pub drop-texts : (texts : List (RcStr Global)) (i : ℕ) (text : RcStr Global) → i < length texts → text ≡ get_or texts i text
    → drop i (map rc_str_bytes texts) ≡ rc_str_bytes text ∷ drop (i + 1) (map rc_str_bytes texts)
drop-texts texts i text lt is =
    drop_more (map rc_str_bytes texts) i (rc_str_bytes text) (omega (arith, length-map texts rc_str_bytes))
    ∙ ap (λ (t : List ℕ). t ∷ drop (i + 1) (map rc_str_bytes texts)) (get_or-map rc_str_bytes texts i text (rc_str_bytes text) lt ∙ ap rc_str_bytes (sym is))

-- what is left from this cell on
abbrev pub left_from : ℕ → List (List ℕ) → Data → Graph → List Item
left_from at texts d now = items_from now at (each_cell now (drop at texts)) d

module _ {s0 s : State} {session : Session} {g : Graph} {all : List Item} {steps0 steps : ℕ} (at : ℕ) (texts : List (List ℕ)) (d : Data)
    (so : ComesTo s0 s session g all (left_from at texts d) steps0 steps) (text : List ℕ) (here : drop at texts ≡ text ∷ drop (at + 1) texts) where
  -- what is left behind this cell
  abbrev pub behind : List Item
  behind =
      items_from (after so.now (cell text)) (suc at)
      (if goes_on (step so.now (cell text)).answer then each_cell (after so.now (cell text)) (drop (at + 1) texts) else [])
      (with_answer at (step so.now (cell text)).answer d)

  first : Comes s0 s g so.now all (silent (cell text) ∷ behind) steps0 steps
  first = subst (λ (ts : List (List ℕ)). Comes s0 s g so.now all (items_from so.now at (each_cell so.now ts) d) steps0 steps) here so.comes

  pub cell-stop : (s2 : State) → Elapses s s2 (IsPart s so.now (silent (cell text) ∷ [])) → Elapses s0 s2 (IsPart s0 g all)
  cell-stop s2 stop = silent-stop s0 s s2 g so.now all behind (cell text) steps0 steps steps first stop

  module _ (s2 : State) (next : Session) (set : Data) (steps2 : ℕ) (attached : IsAttached next s2 (after so.now (cell text))) (same : s2.out ≡ s.out)
      (least : steps + charge_of so.now (cell text) ≤ steps2)
      (stop : Elapses s s2 (IsPart s so.now (silent (cell text) ∷ []))) (is_set : set ≡ with_answer at (step so.now (cell text)).answer d) where
    then-behind : Comes s0 s2 g (after so.now (cell text)) all behind steps0 steps2
    then-behind = silent-more s0 s s2 g so.now all behind (cell text) steps0 steps steps2 first same least stop

    pub goes-further : goes_on (step so.now (cell text)).answer ≡ true → (further : ℕ) → further ≡ at + 1 → ComesTo s0 s2 next g all (left_from further texts set) steps0 steps2
    goes-further goes further is =
        let a = after so.now (cell text) in
        let e : behind ≡ items_from a further (each_cell a (drop further texts)) set =
        ap (λ (b : Bool). items_from a (suc at) (if b then each_cell a (drop (at + 1) texts) else []) (with_answer at (step so.now (cell text)).answer d)) goes
        ∙ ap (λ (x : Data). items_from a (suc at) (each_cell a (drop (at + 1) texts)) x) (sym is_set)
        ∙ ap (λ (n : ℕ). items_from a n (each_cell a (drop (at + 1) texts)) set) (omega (arith, is))
        ∙ ap (λ (n : ℕ). items_from a further (each_cell a (drop n texts)) set) (sym is) in
        record {
          now = a;
          attached = attached;
          comes = subst (λ (is : List Item). Comes s0 s2 g a all is steps0 steps2) e then-behind;
        }

    pub ends-here : goes_on (step so.now (cell text)).answer ≡ false → ComesTo s0 s2 next g all (λ _. closing (written set) ∷ []) steps0 steps2
    ends-here goes =
        let a = after so.now (cell text) in
        let e : behind ≡ closing (written set) ∷ [] =
        ap (λ (b : Bool). items_from a (suc at) (if b then each_cell a (drop (at + 1) texts) else []) (with_answer at (step so.now (cell text)).answer d)) goes
        ∙ ap (λ (x : Data). closing (written x) ∷ []) (sym is_set) in
        record {
          now = a;
          attached = attached;
          comes = subst (λ (is : List Item). Comes s0 s2 g a all is steps0 steps2) e then-behind;
        }

-- all cells are run
pub at-last : {s0 s : State} {session : Session} {g : Graph} {all : List Item} {steps0 steps : ℕ} (at : ℕ) (texts : List (List ℕ)) (d : Data)
    → drop at texts ≡ [] → ComesTo s0 s session g all (left_from at texts d) steps0 steps
    → ComesTo s0 s session g all (λ _. closing (written d) ∷ []) steps0 steps
at-last {s0 = s0} {s = s} {g = g} {all = all} {steps0 = steps0} {steps = steps} at texts d none so = record {
  now = so.now;
  attached = so.attached;
  comes =
      subst (λ (ts : List (List ℕ)). Comes s0 s g so.now all (items_from so.now at (each_cell so.now ts) d) steps0 steps) none so.comes;
}

-- before the first cell
pub at-first : (s : State) (session : Session) (g : Graph) (texts : List (List ℕ)) (d : Data) (steps : ℕ) → IsAttached session s g
    → ComesTo s s session g (items_from g 0 (each_cell g texts) d) (left_from 0 texts d) steps steps
at-first s session g texts d steps a = record {
  now = g;
  attached = a;
  comes = comes-start s session g (items_from g 0 (each_cell g texts) d) steps a;
}

-- ---- all cells in one request

-- where there is a cell
pub some-cells : (texts : List (RcStr Global)) → texts ≢ [] → all_cells (map rc_str_bytes texts) ≡ cells (map rc_str_bytes texts) ∷ []
some-cells [] some = absurd (some refl)
some-cells (text ∷ texts) some = refl

module _ (s : State) (session : Session) (g : Graph) (texts : List (List ℕ)) (d : Data) (steps : ℕ) (a : IsAttached session s g)
    (some : all_cells texts ≡ cells texts ∷ []) where
  abbrev pub all-of : List Item
  all-of = items_from g 0 (all_cells texts) d

  abbrev pub after-it : List Item
  after-it = closing (written (with_answer 0 (step g (cells texts)).answer d)) ∷ []

  only : Comes s s g g all-of (silent (cells texts) ∷ after-it) steps steps
  only = subst (λ (qs : List Request). Comes s s g g all-of (items_from g 0 qs d) steps steps) some (comes-start s session g all-of steps a)

  pub together-stop : (s2 : State) → Elapses s s2 (IsPart s g (silent (cells texts) ∷ [])) → Elapses s s2 (IsPart s g all-of)
  together-stop s2 stop = silent-stop s s s2 g g all-of after-it (cells texts) steps steps steps only stop

  pub together-comes : (s2 : State) (next : Session) (set : Data) (steps2 : ℕ)
      → IsAttached next s2 (after g (cells texts)) → s2.out ≡ s.out
      → steps + charge_of g (cells texts) ≤ steps2
      → Elapses s s2 (IsPart s g (silent (cells texts) ∷ [])) → set ≡ with_answer 0 (step g (cells texts)).answer d
      → ComesTo s s2 next g all-of (λ _. closing (written set) ∷ []) steps steps2
  together-comes s2 next set steps2 attached same least stop is_set =
      record {
        now = after g (cells texts);
        attached = attached;
        comes =
            subst (λ (x : Data). Comes s s2 g (after g (cells texts)) all-of (closing (written x) ∷ []) steps steps2) (sym is_set)
            (silent-more s s s2 g g all-of after-it (cells texts) steps steps steps2 only same least stop);
      }

pub together-none : (s : State) (session : Session) (g : Graph) (d : Data) (steps : ℕ) → IsAttached session s g
    → ComesTo s s session g (items_from g 0 (all_cells []) d) (λ _. closing (written d) ∷ []) steps steps
together-none s session g d steps a = record {
  now = g;
  attached = a;
  comes = comes-start s session g (items_from g 0 (all_cells []) d) steps a;
}

-- ---- the notebook goes out

module _ {s0 s1 : State} {session : Session} {g : Graph} {all : List Item} {steps0 steps : ℕ} (bytes : List ℕ)
    (so : ComesTo s0 s1 session g all (λ _. closing bytes ∷ []) steps0 steps) (s2 : State) where
  -- a stop while it does
  going-out : Elapses s1 s2 (DuringPut s1 bytes) → Elapses s1 s2 (IsPart s1 so.now (closing bytes ∷ []))
  going-out put = told-stop session s1 s2 so.now (closing bytes) bytes so.attached refl refl put

  pub last-stop : Elapses s1 s2 (DuringPut s1 bytes) → Elapses s0 s2 (IsPart s0 g all)
  last-stop put = more-stop s0 s1 s2 g so.now all [] (closing bytes) steps0 steps so.comes (going-out put)

  module _ (put : Elapses s1 s2 (DuringPut s1 bytes)) (out : s2.out ≡ s1.out ++ bytes) where
    last-comes : Comes s0 s2 g so.now all [] steps0 steps
    last-comes = comes-more s0 s1 s2 g so.now all [] (closing bytes) steps0 steps so.comes out steps (omega arith) (going-out put)

    pub last-whole : (next : Session) → IsAttached next s2 so.now → IsWhole s0 s2 g all
    last-whole next a = comes-whole s0 s2 g so.now all steps0 steps last-comes next a

    pub last-least : steps0 + charges g all ≤ steps
    last-least = comes-least s0 s2 g so.now all steps0 steps last-comes

-- ---- how many texts a record has room for

pub fewer-texts : (texts : List (List ℕ)) → length texts ≤ texts_size texts
fewer-texts [] = omega arith
fewer-texts (text ∷ texts) = omega (arith, fewer-texts texts)
