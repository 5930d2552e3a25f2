-- The requests of a run, one after another: what holds before each, told of the whole run.
use Rattle.std.proofs.Common.{◌≡◌, ◌⊎◌, ◌<◌, ◌≤◌, ◌+◌, inl, inr, ℕ, suc, true, false, List, [], ◌∷◌, ◌++◌, length, Result, Err, refl, sym, ◌∙◌, ap, subst, arith, append_assoc}
use Rattle.std.specs.Prelude.{IsOk, IsErrOf}
use Rattle.std.proofs.lemmas.List.{append-nil}
use Rattle.kishu_host.specs.Going.{goes_on}
use Rattle.kishu_host.specs.Host.{State, Told, Elapses, ReadsMore}
use Rattle.kishu_host.specs.Source.{SourceState}
use Rattle.kishu_store.specs.Graph.{Graph}
use Rattle.kishu_history.specs.Good.{IsGoodFileOf}
use Rattle.kishu_model.specs.Request.{Request}
use Rattle.kishu_model.specs.Serve.{after, answer_of, Item, answered, after_item, bytes_of, charge_by, answers, charges, Reached}
use Rattle.kishu_model.specs.Step.{charge_of}
use Rattle.kishu_live_laws.specs.Made.{made_by}
use Rattle.kishu_session.specs.Attached.{IsAttached}
use Rattle.kishu_session.specs.Lives.{state_of}
use Rattle.kishu_session.specs.Renewing.{most_kept}
use Rattle.kishu_session.specs.Written.{IsRecorded}
use Rattle.kishu_session.specs.declared.session.Session.{Session}
use Rattle.kishu_input.specs.declared.whole.InputStop.{InputStop}
use Rattle.kishu_input.specs.declared.whole.InputStop.TheVariants as input
use Rattle.kishu_serve.specs.Asking.{to_come, HaveRoom, reads_lines, taken_by, turns_left, Knows, IsLimited}
use Rattle.kishu_serve.specs.Coming.{Comes}
use Rattle.kishu_serve.specs.Efforts.{IsMeasured, AreMeasured, read_by, read_by_all, steps_by, steps_by_all}
use Rattle.kishu_serve.specs.Making.{made_by_all}
use Rattle.kishu_serve.specs.Headline.{IsPart, IsWhole}
use Rattle.kishu_serve.specs.Recorded.{IsRecordedBy, AreRecorded}
use Rattle.kishu_serve.specs.Serving.{IsOpen}
use Rattle.kishu_serve.specs.Stops.{stop_by}
use Rattle.kishu_serve.specs.declared.serving.Stop.{Stop}
use Rattle.kishu_serve.specs.declared.serving.Stop.TheVariants.{TooLong}
use Rattle.kishu_serve.specs.declared.asking.Requests.{Requests}
use Rattle.kishu_serve.specs.declared.asking.Requests.TheVariants.{Done, One, Lines}
use Rattle.kishu_serve.proofs.Parts.{attached-good}
use Rattle.kishu_serve.proofs.Runs.{reached-none}
use Rattle.kishu_serve.proofs.Works.{Works, works-start, works-more}

-- ---- an input that isn't read on

module _ {T : Type 0} where
  long-of : (unread : InputStop) → IsOk {T = T} (Err (stop_by unread)) ⊎ IsErrOf {T = T} (Err (stop_by unread)) TooLong → unread ≡ input.TooLong
  long-of input.Fault (inl ok) = absurd (cc ok)
  long-of input.Fault (inr is) = absurd (cc is)
  long-of input.TooLong w = refl
  long-of input.NoMemory (inl ok) = absurd (cc ok)
  long-of input.NoMemory (inr is) = absurd (cc is)

  pub stopped-long : (r : Result T Stop) (unread : InputStop) → r ≡ Err (stop_by unread) → IsOk r ⊎ IsErrOf r TooLong → unread ≡ input.TooLong
  stopped-long r unread is w = long-of unread (subst (λ (x : Result T Stop). IsOk x ⊎ IsErrOf x TooLong) is w)

-- ---- what the requests to come may record

abbrev pub MayRecord : Requests → List ℕ → List ℕ → Type 0
MayRecord Done old new = new ≡ old
MayRecord (One q) old new = (new ≡ old) ⊎ IsRecorded old new
MayRecord (Lines reader) old new = (n : ℕ) × IsRecordedBy n old new

-- Those of a whole run are what it may record.
all-recorded : (k : Requests) (old new : List ℕ) → MayRecord k old new → AreRecorded (reads_lines k) old new
all-recorded Done old new w = inl w
all-recorded (One q) old new w = w
all-recorded (Lines reader) old new w = w

pub none-recorded : (k : Requests) (file : List ℕ) → MayRecord k file file
none-recorded Done file = refl
none-recorded (One q) file = inl refl
none-recorded (Lines reader) file = (0, refl)

-- a request, and those behind it
pub more-recorded : (k rest : Requests) (old next new : List ℕ) → reads_lines rest ≡ reads_lines k → turns_left rest < turns_left k → (next ≡ old) ⊎ IsRecorded old next
    → MayRecord rest next new → MayRecord k old new
more-recorded Done rest old next new lines fewer turn w = absurd (omega (arith, fewer))
more-recorded (One q) Done old next new lines fewer (inl same) w = inl (w ∙ same)
more-recorded (One q) Done old next new lines fewer (inr one) w = inr (subst (λ (f : List ℕ). IsRecorded old f) (sym w) one)
more-recorded (One q) (One p) old next new lines fewer turn w = absurd (omega (arith, fewer))
more-recorded (One q) (Lines reader) old next new lines fewer turn w = absurd (cc lines)
more-recorded (Lines reader) Done old next new lines fewer turn w = absurd (cc lines)
more-recorded (Lines reader) (One p) old next new lines fewer turn w = absurd (cc lines)
more-recorded (Lines reader) (Lines later) old next new lines fewer (inl same) w = subst (λ (f : List ℕ). (n : ℕ) × IsRecordedBy n f new) same w
more-recorded (Lines reader) (Lines later) old next new lines fewer (inr one) w = (suc w.0, (next, one, w.1))

-- ---- what is known of the requests to come

still-known : (k rest : Requests) (i0 i : SourceState) → reads_lines rest ≡ reads_lines k → i.tells ≡ i0.tells → Knows k i0 → Knows rest i
still-known k Done i0 i lines tells known = tt
still-known k (One q) i0 i lines tells known = tt
still-known Done (Lines reader) i0 i lines tells known = absurd (cc lines)
still-known (One q) (Lines reader) i0 i lines tells known = absurd (cc lines)
still-known (Lines first) (Lines reader) i0 i lines tells known = tells ∙ known

-- ---- a run that has done nothing yet

pub comes-start : (s : State) (session : Session) (g : Graph) (all : List Item) (steps : ℕ) → IsAttached session s g → Comes s s g g all all steps steps
comes-start s session g all steps a = record {
  ends = refl;
  said = refl;
  parts = λ f o p. p;
  charged = omega arith;
  stop = record { tells = refl; later = omega arith; nothing_else = λ t c o le left. inl left; keeps = λ t c o le left. left };
}

-- ---- one item, with more behind it

reached-first : (g : Graph) (i : Item) (is : List Item) (now : Graph) (out : List ℕ) → Reached g (i ∷ []) now out → Reached g (i ∷ is) now out
reached-first g i is now out (inl none) = inl none
reached-first g i is now out (inr (inl part)) = inr (inl part)
reached-first g i is now out (inr (inr whole)) =
    let here = subst (λ (p : List ℕ). Reached (after_item g i) is (after_item g i) p) (sym whole.2.1) (reached-none (after_item g i) is) in
    inr (inr (whole.0, whole.1, subst (λ (n : Graph). Reached (after_item g i) is n whole.0) (sym whole.2.0) here))

-- ---- from the items of a run to the rest of them

module _ (s0 s1 s2 : State) (g now : Graph) (all rest : List Item) (i : Item) (steps0 steps1 : ℕ)
    (comes : Comes s0 s1 g now all (i ∷ rest) steps0 steps1) where
  first-part : (f o : List ℕ) → IsPart s1 now (i ∷ []) f o → IsPart s0 g all f o
  first-part f o p =
      comes.parts f o (record { now = p.now; printed = p.printed; good = p.good; out_is = p.out_is; reached = reached-first now i rest p.now p.printed p.reached })

  pub more-stop : Elapses s1 s2 (IsPart s1 now (i ∷ [])) → Elapses s0 s2 (IsPart s0 g all)
  more-stop time = goes_on s0 s1 s2 (IsPart s0 g all) (IsPart s1 now (i ∷ [])) comes.stop time first-part

  module _ (said : s2.out ≡ s1.out ++ bytes_of now i) where
    later-part : (f o : List ℕ) → IsPart s2 (after_item now i) rest f o → IsPart s0 g all f o
    later-part f o p =
        comes.parts f o
        (record {
          now = p.now;
          printed = bytes_of now i ++ p.printed;
          good = p.good;
          out_is = p.out_is ∙ ap (λ (l : List ℕ). l ++ p.printed) said ∙ append_assoc s1.out (bytes_of now i) p.printed;
          reached = inr (inr (p.printed, refl, p.reached));
        })

    pub comes-more : (steps2 : ℕ) → steps1 + charge_by now i ≤ steps2 → Elapses s1 s2 (IsPart s1 now (i ∷ []))
        → Comes s0 s2 g (after_item now i) all rest steps0 steps2
    comes-more steps2 least time = record {
      ends = comes.ends;
      said = ap (λ (l : List ℕ). l ++ answers (after_item now i) rest) said ∙ append_assoc s1.out (bytes_of now i) (answers (after_item now i) rest) ∙ comes.said;
      parts = later-part;
      charged = omega (arith, comes.charged, least);
      stop = more-stop time;
    }

-- where none is left
module _ (s0 s : State) (g now : Graph) (all : List Item) (steps0 steps : ℕ) (comes : Comes s0 s g now all [] steps0 steps) where
  pub comes-whole : (session : Session) → IsAttached session s now → IsWhole s0 s g all
  comes-whole session a = record {
    good = subst (λ (x : Graph). IsGoodFileOf s.file x) comes.ends (attached-good session s now a);
    out_is = sym (append-nil s.out) ∙ comes.said;
    durable = a.durable;
  }

  pub comes-least : steps0 + charges g all ≤ steps
  comes-least = omega (arith, comes.charged)

-- ---- a run that has come so far

-- the nodes of the live state
abbrev pub nodes_of : Session → ℕ
nodes_of session = length (state_of session.head.live).nodes

-- Its session is attached, whatever of its requests is known, and the live state has no more nodes than were made.
pub record Served (s0 s : State) (i0 i : SourceState) (all rest : Requests) (session : Session) (g : Graph) (made0 steps0 steps : ℕ) : Type 0 where
  pub now : Graph
  pub attached : IsAttached session s now
  pub made : ℕ
  pub room : nodes_of session ≤ made
  pub comes : Knows all i0 → Comes s0 s g now (to_come all i0.left) (to_come rest i.left) steps0 steps
  pub works : Knows all i0 → Works s0 s g now (to_come all i0.left) (to_come rest i.left) made0 made steps0 steps

module _ {s0 s : State} {i0 i : SourceState} {all rest : Requests} {session : Session} {g : Graph} {made0 steps0 steps : ℕ}
    (served : Served s0 s i0 i all rest session g made0 steps0 steps) where
  abbrev first : List Item
  first = to_come all i0.left

  come-with : (is : List Item) → to_come rest i.left ≡ is → Knows all i0 → Comes s0 s g served.now first is steps0 steps
  come-with is same known = subst (λ (js : List Item). Comes s0 s g served.now first js steps0 steps) same (served.comes known)

  work-with : (is : List Item) → to_come rest i.left ≡ is → Knows all i0 → Works s0 s g served.now first is made0 served.made steps0 steps
  work-with is same known = subst (λ (js : List Item). Works s0 s g served.now first js made0 served.made steps0 steps) same (served.works known)

  -- while a request is answered
  module _ (s2 : State) (q : Request) (is : List Item) (same : to_come rest i.left ≡ answered q ∷ is) (known : Knows all i0) where
    pub turn-stop : Elapses s s2 (IsPart s served.now (answered q ∷ [])) → Elapses s0 s2 (IsPart s0 g first)
    turn-stop time =
        more-stop s0 s s2 g served.now first is (answered q) steps0 steps (come-with (answered q ∷ is) same known) time

  -- once it is
  pub served-more : (s2 : State) (i2 : SourceState) (later : Requests) (next : Session) (q : Request) (steps2 : ℕ)
      → (Knows all i0 → to_come rest i.left ≡ answered q ∷ to_come later i2.left) → IsAttached next s2 (after served.now q) → s2.out ≡ s.out ++ answer_of served.now q
      → steps + charge_of served.now q ≤ steps2 → Elapses s s2 (IsPart s served.now (answered q ∷ []))
      → nodes_of next ≤ nodes_of session + made_by served.now q
      → (IsMeasured served.now q → ReadsMore s.reads s2.reads (read_by served.now q))
      → (IsMeasured served.now q → nodes_of session ≤ most_kept → steps2 ≤ steps + steps_by served.now q)
      → Served s0 s2 i0 i2 all later next g made0 steps0 steps2
  served-more s2 i2 later next q steps2 same attached said least time makes loads most = record {
    now = after served.now q;
    attached = attached;
    made = served.made + made_by served.now q;
    room = omega (arith, served.room, makes);
    comes = λ known.
        let is = to_come later i2.left in
        comes-more s0 s s2 g served.now first is (answered q) steps0 steps (come-with (answered q ∷ is) (same known) known) said steps2 least time;
    works = λ known.
        let is = to_come later i2.left in
        works-more s0 s s2 g served.now first is q made0 served.made steps0 steps (work-with (answered q ∷ is) (same known) known) steps2 (nodes_of session) served.room loads most;
  }

  -- where none is to come
  module _ (none : to_come rest i.left ≡ []) (known : Knows all i0) where
    last-comes : Comes s0 s g served.now first [] steps0 steps
    last-comes = come-with [] none known

    pub served-whole : IsWhole s0 s g first
    served-whole = comes-whole s0 s g served.now first steps0 steps last-comes session served.attached

    pub served-least : steps0 + charges g first ≤ steps
    served-least = comes-least s0 s g served.now first steps0 steps last-comes

    pub served-loads : AreMeasured g first → ReadsMore s0.reads s.reads (read_by_all g first)
    served-loads are =
        let r = (work-with [] none known).reads are in
        subst (λ (n : ℕ). ReadsMore s0.reads s.reads n) (omega (arith, r.2)) r.1

    pub served-most : AreMeasured g first → made0 + made_by_all g first ≤ most_kept → steps ≤ steps0 + steps_by_all g first
    served-most are few = let w = (work-with [] none known).counts are few in omega (arith, w.1)

-- What holds before each turn: the run has come from s0, i0 and all its requests to s, i and the rest of them.
pub record Along (s0 s : State) (i0 i : SourceState) (all rest : Requests) (old session : Session) (steps0 steps : ℕ) : Type 0 where
  pub going : session.halted ≡ false
  pub stands : IsOpen session s
  pub recorded : Told s0 ((final : List ℕ) → MayRecord rest s.file final → AreRecorded (reads_lines all) s0.file final)
  pub served : Told s0 ((g : Graph) → IsAttached old s0 g → (made0 : ℕ) → nodes_of old ≤ made0 → Served s0 s i0 i all rest session g made0 steps0 steps)
  pub limited : Knows all i0 → (IsLimited all i0 → IsLimited rest i) × (IsLimited rest i → IsLimited all i0)
  pub lines : reads_lines rest ≡ reads_lines all
  pub room : HaveRoom rest
  pub taken : i0.tells ≡ true → taken_by all + length i0.left ≡ taken_by rest + length i.left
  pub host_tells : s.tells ≡ s0.tells
  pub source_tells : i.tells ≡ i0.tells
  pub disk : s0.disk_faults ≤ s.disk_faults
  pub outs : s0.out_faults ≤ s.out_faults
  pub ins : i0.in_faults ≤ i.in_faults

-- So it is before the first.
pub along-first : (s : State) (i : SourceState) (all : Requests) (session : Session) (steps : ℕ) → session.halted ≡ false → IsOpen session s → HaveRoom all
    → Along s s i i all all session session steps steps
along-first s i all session steps going stands room = record {
  going = going;
  stands = stands;
  recorded = λ told final w. all-recorded all s.file final w;
  served = λ told g a made0 few. record {
    now = g;
    attached = a;
    made = made0;
    room = few;
    comes = λ known. comes-start s session g (to_come all i.left) steps a;
    works = λ known. works-start s g (to_come all i.left) made0 steps;
  };
  limited = λ known. (λ limited. limited, λ limited. limited);
  lines = refl;
  room = room;
  taken = λ told. refl;
  host_tells = refl;
  source_tells = refl;
  disk = omega arith;
  outs = omega arith;
  ins = omega arith;
}

pub known-along : {s0 s : State} {i0 i : SourceState} {all rest : Requests} {old session : Session} {steps0 steps : ℕ} → Along s0 s i0 i all rest old session steps0 steps → Knows all i0 → Knows rest i
known-along {i0 = i0} {i = i} {all = all} {rest = rest} along known = still-known all rest i0 i along.lines along.source_tells known

-- So it has come from as many nodes as the live state has.
pub served-along : {s0 s : State} {i0 i : SourceState} {all rest : Requests} {old session : Session} {steps0 steps : ℕ} → Along s0 s i0 i all rest old session steps0 steps
    → s0.tells ≡ true → (g : Graph) → IsAttached old s0 g → Served s0 s i0 i all rest session g (nodes_of old) steps0 steps
served-along {old = old} along told g a = along.served told g a (nodes_of old) (omega arith)
