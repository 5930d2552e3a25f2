-- Cells that are run one after another, up to the first that doesn't end well or leaves a state that is too large, as a table tells it.
use Rattle.std.proofs.Common.{◌≡◌, ◌<◌, ◌≤◌, ◌+◌, ◌^◌, ℕ, zero, suc, Bool, true, false, if◌then◌else◌, List, [], ◌∷◌, ◌++◌, length, take, refl, sym, ◌∙◌, ap, subst, arith, length-append, append_assoc}
use Rattle.std.specs.Prelude.{not, ◌&&◌}
use Rattle.std.proofs.lemmas.List.{append-nil}
use Rattle.std.specs.declared.alloc.Global.{Global}
use Rattle.std.specs.declared.rc.RcStr.{RcStr}
use Rattle.kishu_language.specs.declared.profile.Profile.TheVariants.{One}
use Rattle.kishu_meaning.specs.cells.Meaning.{run}
use Rattle.kishu_meaning.specs.moments.Accesses.{with_accesses}
use Rattle.kishu_meaning.specs.values.Values.{Report, State}
use Rattle.kishu_objects.specs.States.{IsSoundState}
use Rattle.kishu_pairing_laws.specs.runs.PairedRuns.{same_runs}
use Rattle.kishu_store.specs.Tables.{Table}
use Rattle.kishu_history.specs.Accessed.{accessed_by}
use Rattle.kishu_live_laws.specs.OnStates.{run_behind, run_of, go_on, leave_too_large}
use Rattle.kishu_model.specs.Answers.{Counted}
use Rattle.kishu_model.specs.requests.Cells.{is_ok, results_from}
use Rattle.kishu_replay.specs.Replay.{after_cells, charge_in}
use Rattle.kishu_session_laws.specs.CellLaws.{cells_keep}
use Rattle.kishu_session.specs.Renewing.{IsLeft}
use Rattle.kishu_session.specs.Running.{AreSameNames}
use Rattle.kishu_session.specs.TextLists.{texts_of}
use Rattle.kishu_session.proofs.Accesses.{same-more}
use Rattle.kishu_session.proofs.LeftBy.{left-behind, left-none}

-- what a further cell leaves
pub after-more : (before : List (List ℕ)) (text : List ℕ) (s : State) → after_cells One (before ++ (text ∷ [])) s ≡ (run One text (after_cells One before s)).state
after-more [] text s = refl
after-more (c ∷ before) text s = after-more before text (run One c s).state

-- of all these cells, from this state, whose table this is, with so many cells before them on the path and so many steps counted
module _ (t : Table) (all : List (List ℕ)) (s0 : State) (before n0 : ℕ) where
  abbrev ran : List (List ℕ)
  ran = run_of t all s0

  abbrev shows : List Counted
  shows = results_from (suc before) One ran s0

  abbrev IsCounted : Type 0
  IsCounted = before + length all < 2 ^ 64

  -- what cells leave of it, where it is never loaded anew
  abbrev after : List (List ℕ) → State
  after taken = after_cells One taken s0

  -- after those that were taken, before the rest: these names are noted
  pub record Going (taken rest : List (List ℕ)) (shown : List Counted) (names : List (List ℕ)) (s : State) (n : ℕ) : Type 0 where
    pub here : IsLeft taken s0 s
    pub accessed : AreSameNames names (accessed_by One taken s0)
    pub ran_is : taken ++ run_behind t taken rest s0 ≡ ran
    pub shown_is : IsCounted → shown ++ results_from (suc (before + length shown)) One (run_behind t taken rest s0) (after taken) ≡ shows
    pub least : n0 + charge_in One ran s0 ≤ n + charge_in One (run_behind t taken rest s0) (after taken)

  -- those that were taken are all that are run; the names that are noted, the state after the last, and the steps that are counted then
  pub record Left (taken : List (List ℕ)) (names : List (List ℕ)) (s : State) (n : ℕ) : Type 0 where
    pub ran_is : taken ≡ ran
    pub accessed : AreSameNames names (accessed_by One ran s0)
    pub left : IsLeft ran s0 s
    pub least : n0 + charge_in One ran s0 ≤ n

  -- with what they showed
  pub record Ended (taken : List (List ℕ)) (shown : List Counted) (names : List (List ℕ)) (s : State) (n : ℕ) : Type 0 where
    pub shown_is : IsCounted → shown ≡ shows
    pub left : Left taken names s n

  pub going-begin : (names : List (List ℕ)) → AreSameNames names [] → Going [] all [] names s0 n0
  going-begin names none = record {
    here = left-none s0;
    accessed = none;
    ran_is = refl;
    shown_is = λ few. ap (λ (k : ℕ). results_from (suc k) One ran s0) (omega arith);
    least = omega arith;
  }

  pub going-none : (taken : List (List ℕ)) (shown : List Counted) (names : List (List ℕ)) (s : State) (n : ℕ) → Going taken [] shown names s n → Ended taken shown names s n
  going-none taken shown names s n g =
      let is : taken ≡ ran = sym (append-nil taken) ∙ g.ran_is in
      record {
        shown_is = λ few. sym (append-nil shown) ∙ g.shown_is few;
        left = record {
          ran_is = is;
          accessed = subst (λ (cs : List (List ℕ)). AreSameNames names (accessed_by One cs s0)) is g.accessed;
          left = subst (λ (cs : List (List ℕ)). IsLeft cs s0 s) is g.here;
          least = omega (arith, g.least);
        };
      }

  -- ---- one cell more, which runs as on the state that is the same: what it leaves, the names that are noted then, and the steps that are counted

  module _ (taken : List (List ℕ)) (text : List ℕ) (rest : List (List ℕ)) (shown : List Counted) (names : List (List ℕ)) (s : State) (n : ℕ) (g : Going taken (text ∷ rest) shown names s n) (sound : IsSoundState s0) (is-sound : IsSoundState s)
      (now : List (List ℕ)) (now_is : now ≡ taken ++ (text ∷ [])) (next : State) (next_left : IsLeft (text ∷ []) s next)
      (more : List (List ℕ)) (more_is : more ≡ with_accesses (run One text s).accessed names) (m : ℕ) (spent : n + (run One text s).charge ≤ m) where
    abbrev x : State
    x = after taken

    x-sound : IsSoundState x
    x-sound = cells_keep One taken s0 sound

    shown-alike : (run One text s).report ≡ (run One text x).report
    shown-alike = (same_runs One text s x is-sound x-sound g.here.same).report

    noted-alike : (run One text s).accessed ≡ (run One text x).accessed
    noted-alike = (same_runs One text s x is-sound x-sound g.here.same).accessed

    charged-alike : (run One text s).charge ≡ (run One text x).charge
    charged-alike = (same_runs One text s x is-sound x-sound g.here.same).charge

    abbrev goes : Bool
    goes = go_on t taken text s0

    pub next-here : IsLeft now s0 next
    next-here = subst (λ (cs : List (List ℕ)). IsLeft cs s0 next) (sym now_is) (left-behind taken text s0 s next sound is-sound g.here next_left)

    pub next-accessed : AreSameNames more (accessed_by One now s0)
    next-accessed =
        subst (λ (cs : List (List ℕ)). AreSameNames more (accessed_by One cs s0)) (sym now_is)
        (subst (λ (l : List (List ℕ)). AreSameNames l (accessed_by One (taken ++ (text ∷ [])) s0))
        (sym (more_is ∙ ap (λ (l : List (List ℕ)). with_accesses l names) noted-alike))
        (same-more One taken text s0 names g.accessed))

    -- whether a further one is run
    module _ (well : Bool) (ends : is_ok (run One text s).report.outcome ≡ well) where
      goes-by : (b : Bool) → leave_too_large t now s0 ≡ b → goes ≡ (well && not b)
      goes-by b is =
          ap (λ (r : Report). is_ok r.outcome && not (leave_too_large t (taken ++ (text ∷ [])) s0)) (sym shown-alike)
          ∙ ap (λ (c : Bool). c && not (leave_too_large t (taken ++ (text ∷ [])) s0)) ends
          ∙ ap (λ (cs : List (List ℕ)). well && not (leave_too_large t cs s0)) (sym now_is)
          ∙ ap (λ (c : Bool). well && not c) is

    pub follows : is_ok (run One text s).report.outcome ≡ true → leave_too_large t now s0 ≡ false → goes ≡ true
    follows well small = goes-by true well false small

    pub ends-ill : is_ok (run One text s).report.outcome ≡ false → goes ≡ false
    ends-ill ill = goes-by false ill (leave_too_large t now s0) refl

    none-more : (b : Bool) → (b && false) ≡ false
    none-more true = refl
    none-more false = refl

    pub ends-large : leave_too_large t now s0 ≡ true → goes ≡ false
    ends-large large = goes-by (is_ok (run One text s).report.outcome) refl true large ∙ none-more (is_ok (run One text s).report.outcome)

    further : goes ≡ true → run_behind t taken (text ∷ rest) s0 ≡ text ∷ run_behind t now rest s0
    further well =
        ap (λ (b : Bool). text ∷ (if b then run_behind t (taken ++ (text ∷ [])) rest s0 else [])) well
        ∙ ap (λ (cs : List (List ℕ)). text ∷ run_behind t cs rest s0) (sym now_is)

    last : goes ≡ false → run_behind t taken (text ∷ rest) s0 ≡ text ∷ []
    last ill = ap (λ (b : Bool). text ∷ (if b then run_behind t (taken ++ (text ∷ [])) rest s0 else [])) ill

    -- what comes behind the cell on the state that is the same
    after-now : after now ≡ (run One text x).state
    after-now = ap after now_is ∙ after-more taken text s0

    pub left-end : goes ≡ false → Left now more next m
    left-end ill =
        let f = last ill in
        let is : now ≡ ran = now_is ∙ ap (λ (l : List (List ℕ)). taken ++ l) (sym f) ∙ g.ran_is in
        record {
          ran_is = is;
          accessed = subst (λ (cs : List (List ℕ)). AreSameNames more (accessed_by One cs s0)) is next-accessed;
          left = subst (λ (cs : List (List ℕ)). IsLeft cs s0 next) is next-here;
          least = omega (arith, g.least, spent, charged-alike, ap (λ (l : List (List ℕ)). charge_in One l x) f);
        }

    abbrev shows_next : Counted
    shows_next = record { count = suc (before + length shown); report = (run One text s).report }

    module _ (results : List Counted) (told : IsCounted → results ≡ shown ++ (shows_next ∷ [])) where
      abbrev shows_alike : Counted
      shows_alike = record { count = suc (before + length shown); report = (run One text x).report }

      told-alike : IsCounted → results ≡ shown ++ (shows_alike ∷ [])
      told-alike few = told few ∙ ap (λ (r : Report). shown ++ (record { count = suc (before + length shown); report = r } ∷ [])) shown-alike

      -- what is shown, with the cells that follow this one
      shown-on : (cells : List (List ℕ)) → run_behind t taken (text ∷ rest) s0 ≡ text ∷ cells → IsCounted → results ++ results_from (suc (before + length results)) One cells (after now) ≡ shows
      shown-on cells is few =
          let long : length results ≡ length shown + 1 = omega (arith, ap length (told few), length-append shown (shows_next ∷ [])) in
          ap (λ (y : State). results ++ results_from (suc (before + length results)) One cells y) after-now
          ∙ ap (λ (l : List Counted). l ++ results_from (suc (before + length results)) One cells (run One text x).state) (told-alike few)
          ∙ ap (λ (k : ℕ). (shown ++ (shows_alike ∷ [])) ++ results_from k One cells (run One text x).state) (omega (arith, long))
          ∙ append_assoc shown (shows_alike ∷ []) (results_from (suc (suc (before + length shown))) One cells (run One text x).state)
          ∙ ap (λ (cs : List (List ℕ)). shown ++ results_from (suc (before + length shown)) One cs x) (sym is)
          ∙ g.shown_is few

      pub going-on : goes ≡ true → Going now rest results more next m
      going-on well =
          let f = further well in
          record {
            here = next-here;
            accessed = next-accessed;
            ran_is =
                ap (λ (l : List (List ℕ)). l ++ run_behind t now rest s0) now_is
                ∙ append_assoc taken (text ∷ []) (run_behind t now rest s0)
                ∙ ap (λ (l : List (List ℕ)). taken ++ l) (sym f)
                ∙ g.ran_is;
            shown_is = shown-on (run_behind t now rest s0) f;
            least =
                omega (
                  arith,
                  g.least,
                  spent,
                  charged-alike,
                  ap (λ (l : List (List ℕ)). charge_in One l x) f,
                  ap (λ (y : State). charge_in One (run_behind t now rest s0) y) after-now,
                );
          }

      pub going-end : goes ≡ false → Ended now results more next m
      going-end ill = record { shown_is = λ few. sym (append-nil results) ∙ shown-on [] (last ill) few; left = left-end ill }

-- ---- those that were run are the first of all

pub taken-some : (texts : List (RcStr Global)) (n : ℕ) (t : Table) (s : State) → 0 < length texts → take n (texts_of texts) ≡ run_of t (texts_of texts) s → 0 < length (take n texts)
taken-some [] n t s some is = absurd (omega (arith, some))
taken-some (x ∷ xs) zero t s some is = absurd (cc (is))
taken-some (x ∷ xs) (suc n) t s some is = omega arith
