-- What cells leave of a state that is loaded anew before some of them, and what follows for what they left of the first.
use Rattle.std.specs.Prelude.{◌≡◌, ◌≤◌, ◌<◌, ℕ, Bool, if◌then◌else◌, List, [], ◌∷◌, ◌++◌, length}
use Rattle.std.proofs.Common.{refl, ap, sym, ◌∙◌, subst, arith, ⊎_elim}
use Rattle.std.proofs.lemmas.Bool.Decides.{leb_tells}
use Rattle.kishu_meaning.specs.cells.Meaning.{run}
use Rattle.kishu_meaning.specs.values.Values.{State}
use Rattle.kishu_objects.specs.Same.{Same}
use Rattle.kishu_objects.specs.States.{IsSoundState}
use Rattle.kishu_objects_laws.specs.SameLaws.{same_joined, same_self, same_turned}
use Rattle.kishu_pairing_laws.specs.runs.PairedRuns.{same_runs}
use Rattle.kishu_replay.specs.Replay.{after_cells}
use Rattle.kishu_store.specs.Limits.{newest_profile}
use Rattle.kishu_session_laws.specs.CellLaws.{cells_keep}
use Rattle.kishu_anew.specs.Anew.{IsAnew, loaded_anew, most_kept}
use Rattle.kishu_session.specs.Renewing.{BeginKept, IsLeft, Starts, left_anew, renewed}

-- It is loaded anew where it has too many nodes, and else stays.
pub is-renewed : (s u : State) → (length s.nodes ≤ most_kept → u ≡ s) → (most_kept < length s.nodes → u ≡ loaded_anew s) → u ≡ renewed s
is-renewed s u stays loaded =
    ⊎_elim
    (λ p. stays p.1 ∙ sym (ap (λ (b : Bool). if b then s else loaded_anew s) p.0))
    (λ p. loaded p.1 ∙ sym (ap (λ (b : Bool). if b then s else loaded_anew s) p.0))
    (leb_tells (length s.nodes) most_kept)

-- A state that is loaded anew or not.
pub anew-starts : (s u : State) → u ≡ renewed s → IsAnew s u → IsSoundState u → Starts s u
anew-starts s u is anew sound = record { is = is; same = anew.same; sound = sound; few = anew.few; stays = anew.stays }

-- Without a cell nothing is left but the state.
pub left-none : (s : State) → IsLeft [] s s
left-none s = record { is = refl; same = same_self _ s; few = omega arith; exact = λ kept. refl }

-- what one cell more leaves behind others
after-one-more : (before : List (List ℕ)) (text : List ℕ) (s : State) → after_cells newest_profile (before ++ text ∷ []) s ≡ (run newest_profile text (after_cells newest_profile before s)).state
after-one-more [] text s = refl
after-one-more (b ∷ before) text s = after-one-more before text (run newest_profile b s).state

-- So it is where the state may be loaded anew before each of them.
anew-one-more : (before : List (List ℕ)) (text : List ℕ) (s : State) → left_anew (before ++ text ∷ []) s ≡ (run newest_profile text (renewed (left_anew before s))).state
anew-one-more [] text s = refl
anew-one-more (b ∷ before) text s = anew-one-more before text (run newest_profile b (renewed s)).state

kept-front : (before : List (List ℕ)) (text : List ℕ) (s : State) → BeginKept (before ++ text ∷ []) s → BeginKept before s × (length (after_cells newest_profile before s).nodes ≤ most_kept)
kept-front [] text s kept = (tt, kept.0)
kept-front (b ∷ before) text s kept = (let k = kept-front before text (run newest_profile b s).state kept.1 in ((kept.0, k.0), k.1))

-- A further cell runs on the state that was left, loaded anew or not.
pub left-more : (before : List (List ℕ)) (text : List ℕ) (s t u : State) → IsSoundState s → IsSoundState t → IsLeft before s t → Starts t u → IsLeft (before ++ text ∷ []) s (run newest_profile text u).state
left-more before text s t u here there left starts =
    let x = after_cells newest_profile before s in
    let sound = cells_keep newest_profile before s here in
    let same : Same u x = same_joined _ u t x (same_turned _ t u starts.same) left.same in
    let runs = same_runs newest_profile text u x starts.sound sound same in
    let last = after-one-more before text s in
    record {
      is = ap (λ (y : State). (run newest_profile text y).state) (starts.is ∙ ap renewed left.is) ∙ sym (anew-one-more before text s);
      same = subst (λ (y : State). Same (run newest_profile text u).state y) (sym last) runs.states;
      few =
          let a = left.few in
          let b = starts.few in
          let c = runs.nodes_new in
          let d = ap (λ (y : State). length y.nodes) last in
          omega (arith, a, b, c, d);
      exact = λ kept.
          let k = kept-front before text s kept in
          let e = left.exact k.0 in
          let few : length t.nodes ≤ most_kept = subst (λ (y : State). length y.nodes ≤ most_kept) (sym e) k.1 in
          ap (λ (y : State). (run newest_profile text y).state) (starts.stays few ∙ e) ∙ sym last;
    }

-- So it is with the first one.
pub left-one : (text : List ℕ) (s u : State) → IsSoundState s → Starts s u → IsLeft (text ∷ []) s (run newest_profile text u).state
left-one text s u here starts = left-more [] text s s u here here (left-none s) starts

-- What a cell leaves of what others left, they leave together.
pub left-behind : (before : List (List ℕ)) (text : List ℕ) (s t u : State) → IsSoundState s → IsSoundState t → IsLeft before s t → IsLeft (text ∷ []) t u → IsLeft (before ++ text ∷ []) s u
left-behind before text s t u here there left one =
    let x = after_cells newest_profile before s in
    let runs = same_runs newest_profile text t x there (cells_keep newest_profile before s here) left.same in
    let last = after-one-more before text s in
    record {
      is = one.is ∙ ap (λ (y : State). (run newest_profile text (renewed y)).state) left.is ∙ sym (anew-one-more before text s);
      same = subst (λ (y : State). Same u y) (sym last) (same_joined _ u (run newest_profile text t).state (run newest_profile text x).state one.same runs.states);
      few =
          let a = left.few in
          let b = one.few in
          let c = runs.nodes_new in
          let d = ap (λ (y : State). length y.nodes) last in
          omega (arith, a, b, c, d);
      exact = λ kept.
          let k = kept-front before text s kept in
          let e = left.exact k.0 in
          let few : length t.nodes ≤ most_kept = subst (λ (y : State). length y.nodes ≤ most_kept) (sym e) k.1 in
          one.exact (few, tt) ∙ ap (λ (y : State). (run newest_profile text y).state) e ∙ sym last;
    }
