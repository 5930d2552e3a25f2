-- What a request leads to whose cells were run and committed.
use Rattle.std.proofs.Common.{◌≡◌, ◌+◌, ℕ, suc, List, [], ◌∷◌, length, map, Option, Some, None, refl, sym, ◌∙◌, ap, subst, arith}
use Rattle.std.proofs.Math.Logic.{∥∥₁_elim}
use Rattle.std.specs.Coded.{Coded-set, coded_list, coded_ℕ}
use Rattle.std.specs.Prelude.{option_map}
use Rattle.kishu_language.specs.declared.profile.Profile.{Profile}
use Rattle.kishu_meaning.specs.values.Values.{State}
use Rattle.kishu_objects.specs.States.{IsSoundState}
use Rattle.kishu_store.specs.Entries.{Entry, commit, move, name, MoveTo, Record}
use Rattle.kishu_store.specs.Fitting.{changed}
use Rattle.kishu_store.specs.Graph.{Graph, with_commit, count_of}
use Rattle.kishu_store.specs.Groups.{Group}
use Rattle.kishu_store.specs.Histories.{History, head_table}
use Rattle.kishu_store.specs.Limits.{newest_profile}
use Rattle.kishu_store.specs.Tables.{Change, no_change}
use Rattle.kishu_history.specs.Accessed.{accessed_by}
use Rattle.kishu_history.specs.Live.{IsLive}
use Rattle.kishu_history.specs.Stored.{Stored}
use Rattle.kishu_model.specs.Answers.{Refusal}
use Rattle.kishu_model.specs.Request.{Request}
use Rattle.kishu_model.specs.Values.{answer_of}
use Rattle.kishu_graph.specs.Kept.{StandsFor, KeepsHistory}
use Rattle.kishu_graph.specs.Tables.{table_of_rows}
use Rattle.kishu_commit.specs.Told.{measured, next_entry_by, record_by, told_record, CanBeStored}
use Rattle.kishu_commit.specs.declared.committing.Record as rust_record
use Rattle.kishu_live_laws.specs.OnStates.{answer_on}
use Rattle.kishu_live_laws.specs.RefusalLaws.{refuses_as_step}
use Rattle.kishu_live_laws.specs.Refusals.{refusal_in}
use Rattle.kishu_session.specs.Committing.{record_of, Commits, IsTold}
use Rattle.kishu_session.specs.Head.{CountsPath}
use Rattle.kishu_session.specs.Known.{IsHistoryOf, HasHistory}
use Rattle.kishu_session.specs.Lives.{state_of}
use Rattle.kishu_session.specs.Prepared.{record_in, MayBeRecorded, LeadsTo, led_with, after_by, answer_by, HasLists, RefusesNoSize, IsCommitOf, TellsBy, Tells, LeadsOn, StaysWithout}
use Rattle.kishu_session.specs.Renewing.{IsLeft}
use Rattle.kishu_session.specs.declared.committing.Committed.{Committed}
use Rattle.kishu_session.specs.declared.head.Head.{Head}
use Rattle.kishu_session.specs.declared.live.Live.{Live}
use Rattle.kishu_session.specs.declared.prepared.Prepared.{Prepared}
use Rattle.kishu_session.proofs.AddFacts.{count-newest}

pub ⊥-prop : IsProp ⊥
⊥-prop a b = absurd a

-- what two commits have in common that are one
same-parent : (p q : ℕ) (f g : Profile) (cs bs : List (List ℕ)) (ds es : List Group) (ss ts : List (Group × ℕ)) → commit p f cs ds ss ≡ commit q g bs es ts → p ≡ q
same-parent p q f g cs bs ds es ss ts e = cc (e)

same-cells : (p q : ℕ) (f g : Profile) (cs bs : List (List ℕ)) (ds es : List Group) (ss ts : List (Group × ℕ)) → commit p f cs ds ss ≡ commit q g bs es ts → cs ≡ bs
same-cells p q f g cs bs ds es ss ts e = cc (e)

-- The cells were run on the old live state, and left this one.
module _ (file : Option (List ℕ)) (place : ℕ) (old new : Head) (l : Live) (q : Request) (cells : List (List ℕ)) (c : Committed) (k : Commits file place (state_of old.live) (record old { live = l }) new cells c) where
  abbrev s : State
  s = state_of old.live

  abbrev u : State
  u = state_of l

  abbrev r : Record
  r = record_of c.recorded

  -- what the commit of these cells says
  abbrev entry-of : (h : History) → IsHistoryOf old.graph h → Entry
  entry-of h kept = next_entry_by h cells (k.each h kept).dropped (k.each h kept).stored u

  entry-is : (h : History) (kept : IsHistoryOf old.graph h) → r.entry ≡ entry-of h kept
  entry-is h kept = ap (λ (x : Record). x.entry) (k.each h kept).is

  grown : (h : History) → IsHistoryOf old.graph h → changed h.graph r.entry ≡ with_commit newest_profile cells h.graph
  grown h kept = ap (λ (e : Entry). changed h.graph e) (entry-is h kept)

  -- ---- its record tells the new state

  module _ (live : new.live ≡ l) (left : IsLeft cells s u) (known : HasHistory old.graph) where
    now-is : state_of new.live ≡ u
    now-is = ap state_of live

    module _ (parent : ℕ) (profile : Profile) (texts : List (List ℕ)) (dropped : List Group) (stored : List (Group × ℕ)) (is : r.entry ≡ commit parent profile texts dropped stored) where
      both : (h : History) (kept : IsHistoryOf old.graph h) → commit parent profile texts dropped stored ≡ entry-of h kept
      both h kept = sym is ∙ entry-is h kept

      texts-in : (h : History) → IsHistoryOf old.graph h → texts ≡ cells
      texts-in h kept =
          same-cells parent h.graph.head.commit profile newest_profile texts cells dropped (k.each h kept).dropped stored (map (measured u) (k.each h kept).stored) (both h kept)

      parent-in : (h : History) → IsHistoryOf old.graph h → parent ≡ h.graph.head.commit
      parent-in h kept =
          same-parent parent h.graph.head.commit profile newest_profile texts cells dropped (k.each h kept).dropped stored (map (measured u) (k.each h kept).stored) (both h kept)

      texts-are : texts ≡ cells
      texts-are = ∥∥₁_elim known (Coded-set (coded_list (coded_list coded_ℕ)) _ _) (λ h. texts-in h.0 h.1)

      lists : (h : History) → IsHistoryOf old.graph h → HasLists r parent texts (state_of new.live)
      lists h kept =
          let e = k.each h kept in (
            e.dropped,
            e.stored,
            e.is
                ∙ ap (λ (p : ℕ). record_by p cells e.dropped e.stored u) (sym (parent-in h kept))
                ∙ ap (λ (ts : List (List ℕ)). record_by parent ts e.dropped e.stored u) (sym texts-are)
                ∙ ap (λ (x : State). record_by parent texts e.dropped e.stored x) (sym now-is),
          )

      told : (h : History) → IsHistoryOf old.graph h → IsTold file (head_table h) s → r ≡ told_record parent texts (head_table h) s (accessed_by newest_profile texts s) (state_of new.live)
      told h kept there =
          (k.each h kept).told there
          ∙ ap (λ (p : ℕ). told_record p cells (head_table h) s (accessed_by newest_profile cells s) u) (sym (parent-in h kept))
          ∙ ap (λ (ts : List (List ℕ)). told_record parent ts (head_table h) s (accessed_by newest_profile ts s) u) (sym texts-are)
          ∙ ap (λ (x : State). told_record parent texts (head_table h) s (accessed_by newest_profile texts s) x) (sym now-is)

      is-commit : IsCommitOf file old new r parent texts
      is-commit = record {
        lists = lists;
        told = told;
        ran = subst (λ (x : State). IsLeft texts s x) (sym now-is) (subst (λ (ts : List (List ℕ)). IsLeft ts s u) (sym texts-are) left);
        sound = subst IsSoundState (sym now-is) k.sound;
        fits = λ h kept.
            subst (λ (x : State). CanBeStored (head_table h) s (accessed_by newest_profile texts s) x) (sym now-is)
            (subst (λ (ts : List (List ℕ)). CanBeStored (head_table h) s (accessed_by newest_profile ts s) u) (sym texts-are) (k.each h kept).can);
        lives = subst (λ (x : State). IsLive (Stored None) (table_of_rows new.table) x) (sym now-is) k.lives;
        held = k.held;
      }

    no-move : (to : MoveTo) → r.entry ≡ move to → (h : History) → IsHistoryOf old.graph h → ⊥
    no-move to is h kept = (let e : move to ≡ entry-of h kept = sym is ∙ entry-is h kept in cc (e))

    no-name : (title : List ℕ) (number : ℕ) → r.entry ≡ name title number → (h : History) → IsHistoryOf old.graph h → ⊥
    no-name title number is h kept = (let e : name title number ≡ entry-of h kept = sym is ∙ entry-is h kept in cc (e))

    tells-by : (e : Entry) → r.entry ≡ e → TellsBy file old new r e
    tells-by (commit parent profile texts dropped stored) is = is-commit parent profile texts dropped stored is
    tells-by (move to) is = absurd (∥∥₁_elim known ⊥-prop (λ h. no-move to is h.0 h.1))
    tells-by (name title number) is = absurd (∥∥₁_elim known ⊥-prop (λ h. no-name title number is h.0 h.1))

    -- ---- together

    pub committed-leads : (p : Prepared) → p.recorded ≡ Some c.recorded → option_map refusal_in (answer_of p.answer) ≡ Some None → RefusesNoSize p.answer
        → ((h : History) → IsHistoryOf old.graph h → after_by h s q ≡ with_commit newest_profile cells h.graph)
        → ((of : ℕ → Change) (g : Graph) → StandsFor old.graph g → refusal_in (answer_on of s g q) ≡ None)
        → ((h : History) → IsHistoryOf old.graph h → CountsPath old h.graph → answer_of p.answer ≡ Some (answer_by h s q))
        → LeadsOn file place old new q p
    committed-leads p recorded kept sizes on none answers =
        let some : Some r ≡ record_in p.recorded = sym (ap record_in recorded) in
        record {
          prepares = λ h is at. record {
            leads =
                subst (λ (o : Option Record). LeadsTo h o (after_by h s q)) some
                (record { rules = k.rules; fits = (k.each h is).fits; changed_is = grown h is ∙ sym (on h is) });
            keeps = subst (λ (o : Option Record). KeepsHistory new.graph (led_with h o)) some (k.keeps h is at);
          };
          rules = subst MayBeRecorded some k.rules;
          refuses = λ g st. kept ∙ ap (λ (o : Option Refusal). Some o) (sym (none (λ c. no_change) g st) ∙ refuses_as_step g (λ c. no_change) s q);
          answers = λ h is count. record {
            answer = answers h is count;
            count =
                subst (λ (x : Graph). CountsPath new x) (grown h is ∙ sym (on h is))
                ((k.each h is).count (record { is = count.is; few = count.few }));
          };
          tells = subst (λ (o : Option Record). Tells file old new o) some (tells-by r.entry refl);
          large = λ bytes is. absurd (sizes bytes is);
        }

pub committed-stays : {H : Type 0} (old new : Head) (host now : H) (p : Prepared) (r : rust_record.Record) → p.recorded ≡ Some r → StaysWithout old new host now p
committed-stays old new host now p r some none sizes = (let e : Some r ≡ None = sym some ∙ none in absurd (cc (e)))

-- ---- one cell

-- It is counted behind those on the path.
pub cell-counted : (file : Option (List ℕ)) (old new : Head) (l : Live) (place : ℕ) (h : History) (cells : List (List ℕ)) (text : List ℕ) (c : Committed) → Commits file place (state_of old.live) (record old { live = l }) new cells c → IsHistoryOf old.graph h → cells ≡ text ∷ []
    → CountsPath old h.graph → new.cells ≡ suc (count_of h.graph h.graph.head.commit)
cell-counted file old new l place h cells text c k is one count =
    let e = k.each h is in
    let more = e.count (record { is = count.is; few = count.few }) in
    let grown : changed h.graph (record_of c.recorded).entry ≡ with_commit newest_profile cells h.graph = ap (λ (x : Record). changed h.graph x.entry) e.is in
    let total : new.cells ≡ count_of h.graph h.graph.head.commit + length cells = more.is ∙ ap (λ (g : Graph). count_of g g.head.commit) grown ∙ count-newest newest_profile cells h.graph in
    omega (arith, total, ap length one)
