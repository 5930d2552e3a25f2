-- Requests that are answered on live states, one after another, on every store.
use Rattle.std.proofs.Common.{◌≡◌, ◌⊎◌, ◌≤◌, inl, inr, ⊎_elim, ◌++◌, ℕ, Bool, true, false, List, [], ◌∷◌, length, Option, Some, None, if◌then◌else◌, refl, sym, ◌∙◌, ap, subst, arith, append_assoc}
use Rattle.std.proofs.lemmas.List.{append-nil}
use Rattle.kishu_host.specs.Going.{weaker, goes_on, now_has}
use Rattle.kishu_host.specs.Host.{State, Now, Only, Elapses, DuringPut}
use Rattle.kishu_meaning.specs.values.Values.{State as Live}
use Rattle.kishu_objects.specs.Same.{Same}
use Rattle.kishu_objects_laws.specs.SameLaws.{same_self}
use Rattle.kishu_store.specs.Entries.{Entry}
use Rattle.kishu_store.specs.Graph.{Graph}
use Rattle.kishu_store.specs.Holds.{Holds, Gives, graph_of}
use Rattle.kishu_store.specs.Tables.{Change, change_of, table_at}
use Rattle.kishu_store_laws.specs.Laws.{ends-holds, one_changes}
use Rattle.kishu_history.specs.Live.{IsLive}
use Rattle.kishu_history.specs.Stored.{Stored}
use Rattle.kishu_model.specs.Request.{Request, unreadable}
use Rattle.kishu_model.specs.Serve.{Item, answered}
use Rattle.kishu_live_laws.specs.OnStates.{after_on, commits_on, head_rows}
use Rattle.kishu_checkout.specs.Pictures.{told_file}
use Rattle.kishu_session.specs.Attached.{IsAtEnd, StandsAtEnd, LivesIn}
use Rattle.kishu_session.specs.Becoming.{IsHeadLoaded, IsLeftBy, IsNextState}
use Rattle.kishu_session.specs.Ends.{at-end-history}
use Rattle.kishu_session.specs.Head.{Lives}
use Rattle.kishu_session.specs.Journals.{BeforeOrAfter}
use Rattle.kishu_session.specs.Lives.{state_of}
use Rattle.kishu_session.specs.Written.{begun, IsRecorded}
use Rattle.kishu_session.specs.declared.session.Session.{Session}
use Rattle.kishu_serve.specs.EveryStore.{WhereLive, LeadsOn}
use Rattle.kishu_serve.specs.LiveAnswers.{line_on, AnswersLive, AreAnswered, AnswersFrom, ReachesLive, IsPartLive, ReachedFrom, EndsFrom}
use Rattle.kishu_serve.proofs.Parts.{at-end-kept, at-end-gives, recorded-kept}

-- ---- one request

-- The file at whose end a session stands holds the graph.
pub at-end-holds : (session : Session) (s : State) (g : Graph) → IsAtEnd session s g → Holds s.file g
at-end-holds session s g e =
    let journal = e.journal in
    let is = ap (λ (es : List Entry). graph_of es) journal.stands.says ∙ sym journal.graph in
    subst (λ (x : Graph). Holds s.file x) is (ends-holds s.file journal.stands.found journal.stands.ends)

-- The live state stays the one that the head's table tells, where what the host tells stays.
lives-kept : (session : Session) (s0 s1 : State) → s1.file ≡ s0.file → s1.tells ≡ s0.tells → LivesIn session s0 → LivesIn session s1
lives-kept session s0 s1 same tells lives =
    let file : told_file s0 ≡ told_file s1 =
    ap (λ (f : List ℕ). if s0.tells then Some f else None) (sym same) ∙ ap (λ (b : Bool). if b then Some s1.file else None) (sym tells) in
    subst (λ (o : Option (List ℕ)). Lives o session.head) file lives

-- A host that tells its file has the pictures of the live state in it, whichever changes the file gives.
lives-told : (session : Session) (s : State) (g : Graph) → s.tells ≡ true → LivesIn session s → IsAtEnd session s g → (cs : List Change)
    → Gives s.file cs → IsLive (Stored (Some s.file)) (head_rows (change_of cs) g) (state_of session.head.live)
lives-told session s g told lives e cs gives =
    let u = state_of session.head.live in
    let h = at-end-history session s g e in
    let file : told_file s ≡ Some s.file = ap (λ (b : Bool). if b then Some s.file else None) told in
    let here : IsLive (Stored (told_file s)) (table_at h.history.graph (change_of h.history.changes) h.history.graph.head.commit) u =
    lives h.history h.kept in
    let over = subst (λ (x : Graph). IsLive (Stored (told_file s)) (table_at x (change_of h.history.changes) x.head.commit) u) h.graph here in
    let by =
    subst (λ (ds : List Change). IsLive (Stored (told_file s)) (table_at g (change_of ds) g.head.commit) u)
    (one_changes s.file h.history.changes cs h.gives gives) over in
    subst (λ (o : Option (List ℕ)). IsLive (Stored o) (head_rows (change_of cs) g) u) file by

-- It was applied, and afterwards the file stayed.
module _ (old new : Session) (s0 s1 s2 : State) (q : Request) (g : Graph) (cs : List Change) (same : s2.file ≡ s1.file) (tells : s2.tells ≡ s1.tells)
    (told : s1.tells ≡ true) where
  pub applied-here : IsAtEnd new s1 (after_on (change_of cs) (state_of old.head.live) g q) → LivesIn new s1
      → (s1.file ≡ s0.file) ⊎ IsRecorded s0.file s1.file
      → IsNextState s0.file (change_of cs) g (state_of old.head.live) q (state_of new.head.live) → LeadsOn old new s0 s2 q g cs
  applied-here at_end lives recorded becomes =
      let then_graph = after_on (change_of cs) (state_of old.head.live) g q in
      let e = at-end-kept new s1 s2 then_graph same at_end in
      let still = lives-kept new s1 s2 same tells lives in
      let given = at-end-gives new s2 then_graph e in
      record {
        at_end = e;
        lives = still;
        more = given.0;
        applied = record {
          written = recorded-kept s0.file s1.file s2.file same recorded;
          holds = at-end-holds new s2 then_graph e;
          gives = given.1;
          becomes = becomes;
          tells = lives-told new s2 then_graph (tells ∙ told) still e given.0 given.1;
        };
      }

either : (u : Live) (b : Bool) → u ≡ (if b then u else u)
either u true = refl
either u false = refl

-- What has no reading as a request leads nowhere else.
unread-left : (changes : ℕ → Change) (g : Graph) (u : Live) → IsLeftBy changes g u unreadable u
unread-left changes g u =
    let is = either u (commits_on changes u g unreadable) in
    record { same = subst (λ (x : Live). Same u x) is (same_self _ u); few = omega (arith, ap (λ (x : Live). length x.nodes) is); exact = λ kept. is }

pub unread-here : (session : Session) (s0 s1 : State) (g : Graph) (cs : List Change) → s1.file ≡ s0.file → s1.tells ≡ s0.tells → s0.tells ≡ true
    → LivesIn session s0 → IsAtEnd session s0 g → LeadsOn session session s0 s1 unreadable g cs
unread-here session s0 s1 g cs same tells told lives a =
    applied-here session session s0 s0 s1 unreadable g cs same tells told a lives (inl refl) (inl (unread-left (change_of cs) g (state_of session.head.live)))

-- ---- what a stop of one request leaves

module _ (s : State) (cs : List Change) (g : Graph) (u : Live) (q : Request) where
  abbrev part : List ℕ → List ℕ → Type 0
  part = IsPartLive s.file s.out cs g u (answered q ∷ [])

  abbrev later : Graph
  later = after_on (change_of cs) u g q

  -- while it is applied
  part-applied : (file out : List ℕ) → BeforeOrAfter s g later file out → part file out
  part-applied file out (same, inl holds) =
      record { written = []; now = g; reached = inl (refl, refl); holds = holds; out_is = same ∙ sym (append-nil s.out) }
  part-applied file out (same, inr holds) =
      record { written = []; now = later; reached = inr (inl ((line_on cs g u q, refl), refl)); holds = holds; out_is = same ∙ sym (append-nil s.out) }

  pub applied-stops : (s1 : State) → Elapses s s1 (BeforeOrAfter s g later) → Elapses s s1 part
  applied-stops s1 time = weaker s s1 part (BeforeOrAfter s g later) time part-applied

  -- while its line goes out
  part-said : (s1 : State) → Only s1.file s1.may_leave → Holds s1.file later → s1.out ≡ s.out → (file out : List ℕ) → DuringPut s1 (line_on cs g u q) file out → part file out
  part-said s1 only holds same file out d = record {
    written = d.1;
    now = later;
    reached = inr (inl (d.2, refl));
    holds = subst (λ (f : List ℕ). Holds f later) (sym (only file d.0)) holds;
    out_is = d.3 ∙ ap (λ (l : List ℕ). l ++ d.1) same;
  }

  pub said-stops : (s1 s2 : State) → Only s1.file s1.may_leave → Holds s1.file later → s1.out ≡ s.out → Elapses s s1 (BeforeOrAfter s g later)
      → Elapses s1 s2 (DuringPut s1 (line_on cs g u q)) → Elapses s s2 part
  said-stops s1 s2 only holds same first put =
      goes_on s s1 s2 part (DuringPut s1 (line_on cs g u q)) (applied-stops s1 first) put (part-said s1 only holds same)

  -- It leaves the graph as it is.
  pub told-stops : (s1 : State) → later ≡ g → Only s.file s.may_leave → Holds s.file g → Elapses s s1 (DuringPut s (line_on cs g u q)) → Elapses s s1 part
  told-stops s1 stays only holds put =
      weaker s s1 part (DuringPut s (line_on cs g u q)) put (part-said s only (subst (λ (x : Graph). Holds s.file x) (sym stays) holds) refl)

-- With more items behind it.
first-reached : (file : List ℕ) (cs : List Change) (g : Graph) (u : Live) (q : Request) (is : List Item) (written : List ℕ) (now : Graph)
    → ReachesLive file cs g u (answered q ∷ []) written now → ReachesLive file cs g u (answered q ∷ is) written now
first-reached file cs g u q is written now (inl none) = inl none
first-reached file cs g u q is written now (inr (inl part)) = inr (inl part)
first-reached file cs g u q is written now (inr (inr (rest, whole, (next, more, v, applied, (empty, last))))) =
    let line = line_on cs g u q in
    let all : line ≡ written ++ [] = sym (append-nil written ∙ whole ∙ ap (λ (l : List ℕ). line ++ l) empty ∙ append-nil line) in
    inr (inl (([], all), last))

-- ---- a run that has come so far

-- Its session stands at the end of the file, with the state that the head's table tells, and the first lines are out. Where what is left is answered from there on, all of it is from the start.
pub record AnswersAlong (s0 s : State) (old session : Session) (all rest : List Item) (g : Graph) (cs : List Change) : Type 0 where
  pub now : Graph
  pub changes : List Change
  pub at_end : IsAtEnd session s now
  pub gives : Gives s.file changes
  pub lives : LivesIn session s
  pub said : List ℕ
  pub out_is : s.out ≡ s0.out ++ said
  pub answers : (written final : List ℕ) (last : Graph) → AnswersLive s.file changes now (state_of session.head.live) rest written final last
      → AnswersLive s0.file cs g (state_of old.head.live) all (said ++ written) final last
  pub parts : (left printed : List ℕ) → IsPartLive s.file s.out changes now (state_of session.head.live) rest left printed
      → IsPartLive s0.file s0.out cs g (state_of old.head.live) all left printed
  pub durable : Only s0.file s0.may_leave → Only s.file s.may_leave
  pub stop : Only s0.file s0.may_leave → Elapses s0 s (IsPartLive s0.file s0.out cs g (state_of old.head.live) all)

-- So it is where the session at its start stood so.
abbrev pub ComesHere : (s0 s : State) → (old session : Session) → (all rest : List Item) → Type 0
ComesHere s0 s old session all rest = WhereLive old s0 (AnswersAlong s0 s old session all rest)

-- Nothing is done yet.
pub comes-here : (s : State) (session : Session) (all : List Item) → ComesHere s s session session all all
comes-here s session all told lives g cs a gives = record {
  now = g;
  changes = cs;
  at_end = a;
  gives = gives;
  lives = lives;
  said = [];
  out_is = sym (append-nil s.out);
  answers = λ written final last w. w;
  parts = λ left printed p. p;
  durable = λ only. only;
  stop = λ only. record { tells = refl; later = omega arith; nothing_else = λ t c o le left. inl left; keeps = λ t c o le left. left };
}

module _ {s0 s : State} {old session : Session} {all rest : List Item} {g : Graph} {cs : List Change} (so : AnswersAlong s0 s old session all rest g cs) where
  abbrev live : Live
  live = state_of session.head.live

  abbrev first_live : Live
  first_live = state_of old.head.live

  -- What is reached from there on is reached from the start.
  part-on : (left printed : List ℕ) (is : List Item) → rest ≡ is → IsPartLive s.file s.out so.changes so.now live is left printed
      → IsPartLive s0.file s0.out cs g first_live all left printed
  part-on left printed is same p = so.parts left printed (subst (λ (js : List Item). IsPartLive s.file s.out so.changes so.now live js left printed) (sym same) p)

  -- while one is answered
  pub first-stops : (q : Request) (is : List Item) → rest ≡ answered q ∷ is → (s2 : State) → Only s0.file s0.may_leave
      → Elapses s s2 (IsPartLive s.file s.out so.changes so.now live (answered q ∷ [])) → Elapses s0 s2 (IsPartLive s0.file s0.out cs g first_live all)
  first-stops q is first s2 only time =
      goes_on s0 s s2 (IsPartLive s0.file s0.out cs g first_live all) (IsPartLive s.file s.out so.changes so.now live (answered q ∷ [])) (so.stop only) time
      (λ f o p.
      part-on f o (answered q ∷ is) first (record {
        written = p.written;
        now = p.now;
        reached = first-reached s.file so.changes so.now live q is p.written p.now p.reached;
        holds = p.holds;
        out_is = p.out_is;
      }))

  -- one more is answered
  pub answered-more : (q : Request) (is : List Item) → rest ≡ answered q ∷ is → (s2 : State) (next : Session) → LeadsOn session next s s2 q so.now so.changes
      → s2.out ≡ s.out ++ line_on so.changes so.now live q → (Only s.file s.may_leave → Only s2.file s2.may_leave)
      → (Only s.file s.may_leave → Elapses s s2 (IsPartLive s.file s.out so.changes so.now live (answered q ∷ []))) → AnswersAlong s0 s2 old next all is g cs
  answered-more q is first s2 next done said durable time =
      let line = line_on so.changes so.now live q in
      record {
        now = after_on (change_of so.changes) live so.now q;
        changes = done.more;
        at_end = done.at_end;
        gives = done.applied.gives;
        lives = done.lives;
        said = so.said ++ line;
        out_is = said ∙ ap (λ (l : List ℕ). l ++ line) so.out_is ∙ append_assoc s0.out so.said line;
        answers = λ written final last w.
            let here : AnswersLive s.file so.changes so.now live (answered q ∷ is) (line ++ written) final last =
            (written, refl, (s2.file, done.more, state_of next.head.live, done.applied, w)) in
            subst (λ (l : List ℕ). AnswersLive s0.file cs g first_live all l final last) (sym (append_assoc so.said line written))
            (so.answers (line ++ written) final last (subst (λ (js : List Item). AnswersLive s.file so.changes so.now live js (line ++ written) final last) (sym first) here));
        parts = λ left printed p.
            part-on left printed (answered q ∷ is) first (record {
              written = line ++ p.written;
              now = p.now;
              reached = inr (inr (p.written, refl, (s2.file, done.more, state_of next.head.live, done.applied, p.reached)));
              holds = p.holds;
              out_is = p.out_is ∙ ap (λ (l : List ℕ). l ++ p.written) said ∙ append_assoc s.out line p.written;
            });
        durable = λ only. durable (so.durable only);
        stop = λ only. first-stops q is first s2 only (time (so.durable only));
      }

  -- none is left
  pub answered-all : rest ≡ [] → AreAnswered s0.file s0.out s cs g first_live all
  answered-all none =
      let here : AnswersLive s.file so.changes so.now live [] [] s.file so.now = (refl, refl, refl) in
      let all_done = so.answers [] s.file so.now (subst (λ (js : List Item). AnswersLive s.file so.changes so.now live js [] s.file so.now) (sym none) here) in
      record {
        written = so.said;
        now = so.now;
        answers = subst (λ (l : List ℕ). AnswersLive s0.file cs g first_live all l s.file so.now) (append-nil so.said) all_done;
        holds = at-end-holds session s so.now so.at_end;
        out_is = so.out_is;
      }

-- ---- a whole run

-- from a session that is opened
module _ (items : Graph → List Item) (session : Session) (s0 s1 s2 : State) (same : s1.file ≡ begun s0.file) (out : s1.out ≡ s0.out) (end : StandsAtEnd session s1)
    (loaded : (g : Graph) → Holds s1.file g → IsHeadLoaded s1.file g (state_of session.head.live)) where
  abbrev opened : Live
  opened = state_of session.head.live

  -- all is answered
  pub answered-from : ((g : Graph) (cs : List Change) → IsAtEnd session s1 g → Gives s1.file cs → AreAnswered s1.file s1.out s2 cs g opened (items g)) → AnswersFrom items s0 s2
  answered-from all =
      let g = end.0 in
      let holds = at-end-holds session s1 g end.1 in
      let given = at-end-gives session s1 g end.1 in
      let here = subst (λ (o : List ℕ). AreAnswered s1.file o s2 given.0 g opened (items g)) out (all g given.0 end.1 given.1) in
      record {
        graph = g;
        changes = given.0;
        state = opened;
        holds = subst (λ (f : List ℕ). Holds f g) same holds;
        gives = subst (λ (f : List ℕ). Gives f given.0) same given.1;
        loaded = subst (λ (f : List ℕ). IsHeadLoaded f g opened) same (loaded g holds);
        answered = subst (λ (f : List ℕ). AreAnswered f s0.out s2 given.0 g opened (items g)) same here;
      }

  -- the first are, as it reads at the end
  module _ (cs : List Change) (gives : Gives s1.file cs) where
    abbrev Reached : List ℕ → List ℕ → Type 0
    Reached left printed = IsPartLive s1.file s1.out cs end.0 opened (items end.0) left printed

    abbrev Ends : Graph → List ℕ → List ℕ → Type 0
    Ends g left printed = (Holds left g × (printed ≡ s1.out)) ⊎ Reached left printed

    reached-from : Reached s2.file s2.out → ReachedFrom items s0 s2
    reached-from p =
        let g = end.0 in
        let holds = at-end-holds session s1 g end.1 in
        let here = subst (λ (o : List ℕ). IsPartLive s1.file o cs g opened (items g) s2.file s2.out) out p in
        record {
          graph = g;
          changes = cs;
          state = opened;
          holds = subst (λ (f : List ℕ). Holds f g) same holds;
          gives = subst (λ (f : List ℕ). Gives f cs) same gives;
          loaded = subst (λ (f : List ℕ). IsHeadLoaded f g opened) same (loaded g holds);
          part = subst (λ (f : List ℕ). IsPartLive f s0.out cs g opened (items g) s2.file s2.out) same here;
        }

    pub ends-from : (g : Graph) → Holds s1.file g → Only s1.file s1.may_leave → Elapses s1 s2 Reached → s2.may_leave s2.file
        → ((t : ℕ) (c : List ℕ) → t ≤ s2.moment → s2.may_leave c → s2.left_since t c s2.out) → ((c o : List ℕ) → s1.left_since s1.moment c o → Now s1 c o)
        → EndsFrom items s0 s2 g
    ends-from g holds only stops reads counts since =
        let stop = weaker s1 s2 (Ends g) Reached stops (λ f o p. inr p) in
        let start : (c o : List ℕ) → Now s1 c o → Ends g c o = λ c o now. inl (subst (λ (f : List ℕ). Holds f g) (sym (only c now.0)) holds, now.1) in
        ⊎_elim (λ (none : Holds s2.file g × (s2.out ≡ s1.out)). inl (none.0, none.1 ∙ out)) (λ (p : Reached s2.file s2.out). inr (reached-from p))
        (now_has s1 s2 (Ends g) stop reads counts since start)
