-- A checkout that isn't refused, whatever the host tells: it goes to what its reference names, has a record, and carries the live state on.
use Rattle.std.proofs.Common.{◌≡◌, ◌<◌, ℕ, Bool, true, false, if◌then◌else◌, List, length, Option, Some, None, refl, sym, ◌∙◌, ap, subst, arith}
use Rattle.std.specs.Prelude.{nat_le}
use Rattle.std.proofs.Math.Logic.{∥∥₁_elim}
use Rattle.kishu_host.specs.Host as host
use Rattle.kishu_language.specs.declared.profile.Profile.{Profile}
use Rattle.kishu_meaning.specs.values.Values as values
use Rattle.kishu_objects.specs.Shape.{node_at}
use Rattle.kishu_store.specs.Entries.{Entry, Record, commit, move, name}
use Rattle.kishu_store.specs.Branches.{Branches, commit_of, with_branch_at}
use Rattle.kishu_store.specs.Fitting.{GoesOn, changed}
use Rattle.kishu_store.specs.Graph.{Graph, Target, newest, with_branch, with_commit, with_head}
use Rattle.kishu_store.specs.Groups.{Group}
use Rattle.kishu_store.specs.Histories.{History}
use Rattle.kishu_store.specs.Limits.{most_records}
use Rattle.kishu_store.specs.References.{resolve}
use Rattle.kishu_store_laws.specs.BranchLaws.{commit-with}
use Rattle.kishu_graph.specs.Kept.{StandsFor}
use Rattle.kishu_graph.specs.Tables.{table_of_rows}
use Rattle.kishu_history_laws.specs.checkouts.PlaceLaws.{carried_grow, carried_nodes}
use Rattle.kishu_model.specs.Answers.{Answer, Refusal, store_full}
use Rattle.kishu_model.specs.Request.{Request, Stepped, checkout, refused_with}
use Rattle.kishu_model.specs.requests.Checkout.{checkout_to, went_to}
use Rattle.kishu_model.specs.Step.{step}
use Rattle.kishu_model.specs.Values.{answer_of}
use Rattle.kishu_live_laws.specs.Refusals.{refusal_in}
use Rattle.kishu_checkout.specs.Pictures.{told_file}
use Rattle.kishu_session.specs.Head.{CarriesFrom, IsCarried, IsKnown, groups_to_drop}
use Rattle.kishu_session.specs.Known.{IsHistoryOf}
use Rattle.kishu_session.specs.Lives.{state_of}
use Rattle.kishu_session.specs.Prepared.{Leads, LeadsOn, LeadsTo, Tells, TellsBy, after_by, record_in}
use Rattle.kishu_session.specs.Refusing.{IsRefusal, RefusesAs}
use Rattle.kishu_session.specs.Renewing.{StaysHere, renewed}
use Rattle.kishu_session.specs.declared.head.Head.{Head}
use Rattle.kishu_session.specs.declared.prepared.Prepared.{Prepared}
use Rattle.kishu_session.specs.declared.session.Session.{Session}
use Rattle.kishu_session.proofs.Committed.{⊥-prop}

-- ---- on a graph

module _ (g : Graph) where
  some-none : {r : Refusal} → Some r ≡ None → ⊥
  some-none e = cc (e)

  went-by : (t : Target) (b : Bool) → refusal_in (if b then refused_with store_full g else went_to t g).answer ≡ None
      → (if b then refused_with store_full g else went_to t g) ≡ went_to t g
  went-by t true free = absurd (some-none free)
  went-by t false free = refl

  went-of : (o : Option Target) → refusal_in (checkout_to o g).answer ≡ None → (t : Target) × (checkout_to o g ≡ went_to t g)
  went-of None free = absurd (some-none free)
  went-of (Some t) free = (t, went-by t (nat_le most_records g.records) free)

  pub went : (to : List ℕ) → refusal_in (step g (checkout to)).answer ≡ None → (t : Target) × (step g (checkout to) ≡ went_to t g)
  went to free = went-of (resolve g to) free

-- What an answer doesn't refuse, the step doesn't whose refusal it has.
free-by : (a : Option Answer) (b : Answer) → RefusesAs a b → (IsRefusal a → ⊥) → (o : Option Refusal) → refusal_in b ≡ o → refusal_in b ≡ None
free-by a b alike not None is = is
free-by a b alike not (Some r) is = absurd (not (r, alike ∙ ap (λ (x : Option Refusal). Some x) is))

pub not-refused : (a : Option Answer) (b : Answer) → RefusesAs a b → (IsRefusal a → ⊥) → refusal_in b ≡ None
not-refused a b alike not = free-by a b alike not (refusal_in b) refl

-- ---- of a session

module _ (old : Session) (new : Head) (s : host.State) (q : Request) (p : Prepared) (leads : LeadsOn (told_file s) old.journal.place old.head new q p)
    (to : List ℕ) (is : q ≡ checkout to) (not : IsRefusal (answer_of p.answer) → ⊥) where
  abbrev u : values.State
  u = state_of old.head.live

  abbrev v : values.State
  v = state_of new.live

  pub free : (g : Graph) → StandsFor old.head.graph g → refusal_in (step g (checkout to)).answer ≡ None
  free g stands =
      not-refused (answer_of p.answer) (step g (checkout to)).answer (subst (λ (x : Request). RefusesAs (answer_of p.answer) (step g x).answer) is (leads.refuses g stands)) not

  -- the head alone moves
  gone : (h : History) → IsHistoryOf old.head.graph h → (t : Target) × (after_by h u q ≡ with_head t h.graph)
  gone h kept =
      let w = went h.graph to (free h.graph kept.keeps.graph) in
      (w.0, ap (λ (x : Request). after_by h u x) is ∙ ap (λ (x : Stepped). x.graph) w.1)

  -- There is a record.
  no-record : record_in p.recorded ≡ None → (h : History) → IsHistoryOf old.head.graph h → h.place ≡ old.journal.place → ⊥
  no-record none h kept place =
      let stays : after_by h u q ≡ h.graph = subst (λ (o : Option Record). LeadsTo h o (after_by h u q)) none (leads.prepares h kept place).leads in
      omega (arith, ap (λ (x : Graph). x.records) (sym stays ∙ (gone h kept).1))

  -- It is no commit.
  no-commit : (r : Record) → record_in p.recorded ≡ Some r → (parent : ℕ) (profile : Profile) (cells : List (List ℕ)) (dropped : List Group) (stored : List (Group × ℕ))
      → r.entry ≡ commit parent profile cells dropped stored → (h : History) → IsHistoryOf old.head.graph h → h.place ≡ old.journal.place → ⊥
  no-commit r some parent profile cells dropped stored entry h kept place =
      let led : Leads h r (after_by h u q) = subst (λ (o : Option Record). LeadsTo h o (after_by h u q)) some (leads.prepares h kept place).leads in
      let grown : with_commit profile cells h.graph ≡ after_by h u q = ap (λ (x : Entry). changed h.graph x) (sym entry) ∙ led.changed_is in
      omega (arith, ap newest (grown ∙ (gone h kept).1))

  -- It is no branch: that has a name which none has, and the branches stay.
  no-name : (r : Record) → record_in p.recorded ≡ Some r → (title : List ℕ) (number : ℕ) → r.entry ≡ name title number
      → (h : History) → IsHistoryOf old.head.graph h → h.place ≡ old.journal.place → ⊥
  no-name r some title number entry h kept place =
      let led : Leads h r (after_by h u q) = subst (λ (o : Option Record). LeadsTo h o (after_by h u q)) some (leads.prepares h kept place).leads in
      let free : commit_of title h.graph.branches ≡ None = (subst (λ (x : Entry). GoesOn h.graph x) entry led.fits.graph.goes_on).1 in
      let grown : with_branch title number h.graph ≡ after_by h u q = ap (λ (x : Entry). changed h.graph x) (sym entry) ∙ led.changed_is in
      let same : with_branch_at title number h.graph.branches ≡ h.graph.branches = ap (λ (x : Graph). x.branches) (grown ∙ (gone h kept).1) in
      let there : Some number ≡ None = sym (commit-with title number h.graph.branches) ∙ ap (λ (bs : Branches). commit_of title bs) same ∙ free in
      cc (there)

  module _ (known : IsKnown old.head old.journal.place) where
    pub recorded : p.recorded ≡ None → ⊥
    recorded none = ∥∥₁_elim known ⊥-prop (λ k. no-record (ap record_in none) k.0 k.1.kept k.1.place_is)

    -- ---- the live state

    by-entry : (r : Record) (e : Entry) → record_in p.recorded ≡ Some r → r.entry ≡ e → TellsBy (told_file s) old.head new r e → IsCarried (told_file s) old.head new
    by-entry r (commit parent profile cells dropped stored) some entry tells =
        absurd (∥∥₁_elim known ⊥-prop (λ k. no-commit r some parent profile cells dropped stored entry k.0 k.1.kept k.1.place_is))
    by-entry r (move target) some entry tells = tells
    by-entry r (name title number) some entry tells = absurd (∥∥₁_elim known ⊥-prop (λ k. no-name r some title number entry k.0 k.1.kept k.1.place_is))

    by-record : (o : Option Record) → record_in p.recorded ≡ o → Tells (told_file s) old.head new o → IsCarried (told_file s) old.head new
    by-record None none tells = absurd (∥∥₁_elim known ⊥-prop (λ k. no-record none k.0 k.1.kept k.1.place_is))
    by-record (Some r) some tells = by-entry r r.entry some refl tells

    went-on : IsCarried (told_file s) old.head new
    went-on = by-record (record_in p.recorded) refl leads.tells

    -- It is carried on from the state before, or from that one loaded anew where it has more nodes than a heap keeps.
    pub carried-renewed : CarriesFrom (told_file s) (renewed u) old.head new
    carried-renewed = subst (λ (x : values.State). CarriesFrom (told_file s) x old.head new) went-on.starts.is went-on.carries

    -- The old nodes are there under their numbers, where the state wasn't loaded anew.
    pub nodes-kept : StaysHere old.head → (i : ℕ) → i < length u.nodes → (i < length v.nodes) × (node_at u.nodes i ≡ node_at v.nodes i)
    nodes-kept stays i within =
        let k = subst (λ (x : values.State). CarriesFrom (told_file s) x old.head new) (went-on.starts.stays stays) went-on.carries in
        let grown = carried_grow (groups_to_drop old.head new) k.state.pictures u in (
          omega (arith, within, grown, ap (λ (x : values.State). length x.nodes) k.state.is),
          carried_nodes (table_of_rows old.head.table) (table_of_rows new.table) k.state.pictures u i within
              ∙ ap (λ (x : values.State). node_at x.nodes i) (sym k.state.is),
        )
