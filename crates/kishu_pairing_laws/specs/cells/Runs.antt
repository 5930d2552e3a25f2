-- Whole runs go alike.
use Rattle.std.specs.Prelude.{◌≡◌, List, ℕ, Option, ◌-◌, ◌++◌, [], ◌∷◌, Result, Ok, Err}
use Rattle.std.specs.Str.{encode_utf8_all, chars}
use Rattle.std.proofs.Common.{refl, ◌∙◌, ap, subst, sym}
use Rattle.kishu_language.specs.declared.profile.Profile.{Profile}
use Rattle.kishu_language.specs.reading.ReadText.{read_chars}
use Rattle.kishu_language.specs.trees.Tree.{Statement}
use Rattle.kishu_meaning.specs.cells.Meaning.{uncaught, finished, ended, printed, fault_output, shown_output, begun, run_tree, cell, run}
use Rattle.kishu_meaning.specs.comparing.Show.{show_thrown, class_name}
use Rattle.kishu_meaning.specs.declared.result.Outcome.{Outcome}
use Rattle.kishu_meaning.specs.declared.result.Outcome.TheVariants.{Raised, Stopped, Done}
use Rattle.kishu_meaning.specs.moments.Moment.{Thrown, Ends, fine, raised, stopped, Moment, most_steps}
use Rattle.kishu_meaning.specs.values.Values.{Ran, Output, fault, State}
use Rattle.kishu_objects.specs.Lists.{In}
use Rattle.kishu_pairing_laws.specs.World.{World, SameNames, SameHeaps, end_of, SameMoment, SameThrown, SameEnds, Is, both_fine, both_raised, both_stopped, neither}
use Rattle.kishu_pairing_laws.specs.comparing.Show.{show_thrown_quiet}
use Rattle.kishu_pairing_laws.specs.Itself.{quiet_stays, itself, one_thrown}
use Rattle.kishu_pairing_laws.specs.cells.Raising.{thrown_kind}
use Rattle.kishu_pairing_laws.specs.cells.Cells.{cell_alike}

pub record SameRan (W : World) (r q : Ran) : Type 0 where
  pub report : r.report ≡ q.report
  pub accessed : r.accessed ≡ q.accessed
  pub charge : r.charge ≡ q.charge
  pub names : SameNames W r.state.names q.state.names
  pub heaps : SameHeaps W r.state.nodes q.state.nodes

uncaught_accessed : (x : Thrown) (e : Ends (List ℕ)) → (uncaught x e).accessed ≡ (end_of e).accessed
uncaught_accessed x (fine cs s) = refl
uncaught_accessed x (raised y s) = refl
uncaught_accessed x (stopped s) = refl

finished_accessed : (e : Ends (Option (List ℕ))) → (finished e).accessed ≡ (end_of e).accessed
finished_accessed (fine o s) = refl
finished_accessed (raised x s) = uncaught_accessed x (show_thrown x s) ∙ quiet_stays (show_thrown_quiet itself (one_thrown x)) s
finished_accessed (stopped s) = refl

module _ (W : World) where
  ended_same : (outcome : Outcome) {os ps : List Output} {s t : Moment} → os ≡ ps → SameMoment W s t → SameRan W (ended outcome os s) (ended outcome ps t)
  ended_same outcome {os = os} {s = s} {t = t} e st = record {
    report = ap (λ cs. record { outcome = outcome; outputs = printed cs ++ os }) st.out ∙ ap (λ ps. record { outcome = outcome; outputs = printed t.out ++ ps }) e;
    accessed = st.accessed;
    charge = ap (λ n. most_steps - n) st.left;
    names = st.names;
    heaps = st.heaps;
  }

  fault_is : {x y : Thrown} {s t : Moment} (cs : List ℕ) → SameThrown W x y → SameMoment W s t → fault_output s.nodes x cs ∷ [] ≡ fault_output t.nodes y cs ∷ []
  fault_is cs xy st = ap (λ k. fault (class_name k) (encode_utf8_all cs) ∷ []) (thrown_kind W xy st)

  uncaught_same : {x y : Thrown} {e e' : Ends (List ℕ)} → SameThrown W x y → SameEnds W Is e e' → SameRan W (uncaught x e) (uncaught y e')
  uncaught_same {x = x} {y = y} xy (both_fine {a = cs} {s = s} {t = t} ab st) = ended_same Raised (fault_is cs xy st ∙ ap (λ ds. fault_output t.nodes y ds ∷ []) ab) st
  uncaught_same xy (both_raised zw st) = ended_same Raised (fault_is [] xy st) st
  uncaught_same xy (both_stopped st) = ended_same Stopped refl st

  finished_same : {e e' : Ends (Option (List ℕ))} → SameEnds W Is e e' → SameRan W (finished e) (finished e')
  finished_same (both_fine ab st) = ended_same Done (ap shown_output ab) st
  finished_same (both_raised {s = s} {t = t} xy st) = uncaught_same xy ((show_thrown_quiet W xy).go s t st)
  finished_same (both_stopped st) = ended_same Stopped refl st

  begun_alike : (profile : Profile) {s t : State} → SameNames W s.names t.names → SameHeaps W s.nodes t.nodes → SameMoment W (begun profile s) (begun profile t)
  begun_alike profile n h = record { profile = refl; names = n; heaps = h; accessed = refl; locals = neither; handled = neither; left = refl; depth = refl; out = refl }

  tree_same : W.Sorted → (profile : Profile) (tree : Result (List Statement) ℕ) {s t : State} → SameNames W s.names t.names → SameHeaps W s.nodes t.nodes → ((x : List ℕ) → In x (run_tree profile tree s).accessed → W.N x) → SameRan W (run_tree profile tree s) (run_tree profile tree t)
  tree_same sorted profile (Ok tree) {s = s} {t = t} n h w = finished_same ((cell_alike W sorted tree).go (begun profile s) (begun profile t) (begun_alike profile n h) (λ x m. w x (subst (In x) (sym (finished_accessed (cell tree (begun profile s)))) m)))
  tree_same sorted profile (Err line) n h w = record { report = refl; accessed = refl; charge = refl; names = n; heaps = h }

  pub run_same : W.Sorted → (profile : Profile) (source : List ℕ) {s t : State} → SameNames W s.names t.names → SameHeaps W s.nodes t.nodes → ((x : List ℕ) → In x (run profile source s).accessed → W.N x) → SameRan W (run profile source s) (run profile source t)
  unfolding run
  run_same sorted profile source n h w = tree_same sorted profile (read_chars profile (chars source)) n h w
