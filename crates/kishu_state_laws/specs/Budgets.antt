-- Runs with a budget of any size: a run is stopped exactly where it takes a further step with a step more to spend, and else each larger budget gives the same run.
use Rattle.std.specs.Prelude.{◌≡◌, ℕ, zero, suc, ◌+◌, ◌-◌, ◌<◌, ◌≤◌, ◌↔◌, List, Option, Ok, Err, Result, length}
use Rattle.std.specs.Str.{chars}
use Rattle.std.proofs.Common.{refl, ap, subst, arith}
use Rattle.kishu_language.specs.declared.profile.Profile.{Profile}
use Rattle.kishu_language.specs.trees.Tree.{Statement, statements}
use Rattle.kishu_language.specs.reading.ReadText.{read_chars}
use Rattle.kishu_meaning.specs.declared.result.Outcome.TheVariants.{Done, Raised, Stopped}
use Rattle.kishu_meaning.specs.values.Values.{Node, State, Ran}
use Rattle.kishu_meaning.specs.moments.Moment.{Moment, Thrown, Ends, fine, raised, stopped, most_steps}
use Rattle.kishu_meaning.specs.comparing.Show.{show_thrown}
use Rattle.kishu_meaning.specs.cells.Meaning.{cell, begun, ended, shown_output, uncaught, finished, unread, run_tree, run}
use Rattle.kishu_objects.specs.State.{IsCell, IsState}
use Rattle.kishu_pairing_laws.specs.World.{end_of}
use Rattle.kishu_state_laws.specs.Moments.{IsMoment, widest_budget}
use Rattle.kishu_state_laws.specs.trees.Sound.{StatementsSound}
use Rattle.kishu_state_laws.specs.trees.Read.{tree_sound}
use Rattle.kishu_state_laws.specs.keeping.Logic.{Any, SafeEnds, fines, raiseds, stoppeds, more_good, WiderEnds, both_fine, both_raised, one_stopped, falls_in}
use Rattle.kishu_state_laws.specs.keeping.Counting.{show_thrown_s}
use Rattle.kishu_state_laws.specs.keeping.Running.{cell_s}

-- ---- a run with a budget of n steps

abbrev pub begun_with : ℕ → Profile → State → Moment
begun_with n profile state = record (begun profile state) { left = n }

-- the moment at which a cell's run is over: the text of an exception is made last
abbrev pub last_moment : Ends (Option (List ℕ)) → Moment
last_moment (fine o s) = s
last_moment (raised x s) = end_of (show_thrown x s)
last_moment (stopped s) = s

abbrev pub ran_with : ℕ → Ends (Option (List ℕ)) → Ran
ran_with n e = record (finished e) { charge = n - (last_moment e).left }

abbrev pub tree_within : ℕ → Profile → Result (List Statement) ℕ → State → Ran
tree_within n profile (Ok tree) state = ran_with n (cell tree (begun_with n profile state))
tree_within n profile (Err line) state = unread line state

unfoldable pub run_within : ℕ → Profile → List ℕ → State → Ran
run_within n profile source state = tree_within n profile (read_chars profile (chars source)) state

-- a cell that is to run from a state
pub record Start : Type 0 where
  pub profile : Profile
  pub text : List ℕ
  pub state : State
  pub is_cell : IsCell text
  pub is_state : IsState state

-- its run, and that with a budget of n steps
abbrev pub run_of : Start → Ran
run_of c = run c.profile c.text c.state

abbrev pub run_by : ℕ → Start → Ran
run_by n c = run_within n c.profile c.text c.state

abbrev pub IsStopped : Ran → Type 0
IsStopped r = r.report.outcome ≡ Stopped

-- ---- a run has the budget of a cell

thrown_is : (x : Thrown) (f : Ends (List ℕ)) → record (uncaught x f) { charge = most_steps - (end_of f).left } ≡ uncaught x f
thrown_is x (fine cs s) = refl
thrown_is x (raised y s) = refl
thrown_is x (stopped s) = refl

ran_is : (e : Ends (Option (List ℕ))) → ran_with most_steps e ≡ finished e
ran_is (fine o s) = refl
ran_is (raised x s) = thrown_is x (show_thrown x s)
ran_is (stopped s) = refl

tree_is : (profile : Profile) (o : Result (List Statement) ℕ) (s : State) → tree_within most_steps profile o s ≡ run_tree profile o s
tree_is profile (Ok tree) s = ran_is (cell tree (begun profile s))
tree_is profile (Err line) s = refl

run_is : (profile : Profile) (source : List ℕ) (s : State) → run_within most_steps profile source s ≡ run profile source s
unfolding run_within run
run_is profile source s = tree_is profile (read_chars profile (chars source)) s

-- ---- no more than the budget is taken

tree_most : (n : ℕ) (profile : Profile) (o : Result (List Statement) ℕ) (s : State) → (tree_within n profile o s).charge ≤ n
tree_most n profile (Ok tree) s = omega arith
tree_most n profile (Err line) s = omega arith

run_most : (n : ℕ) (profile : Profile) (source : List ℕ) (s : State) → (run_within n profile source s).charge ≤ n
unfolding run_within
run_most n profile source s = tree_most n profile (read_chars profile (chars source)) s

-- ---- with d more steps: the same run, or one that was stopped, where the other takes more steps than there were

data Widened (n : ℕ) (r r' : Ran) : Type 0 where
  same_run : r' ≡ r → (IsStopped r → ⊥) → Widened n r r'
  stopped_run : IsStopped r → r.charge ≡ n → n < r'.charge → Widened n r r'

with_charge : (r : Ran) (n d left : ℕ) → record r { charge = n + d - (left + d) } ≡ record r { charge = n - left }
with_charge r n d left = (let e : n + d - (left + d) ≡ n - left = omega arith in ap (λ (c : ℕ). record r { charge = c }) e)

abbrev ran_thrown : ℕ → Thrown → Ends (List ℕ) → Ran
ran_thrown n x f = record (uncaught x f) { charge = n - (end_of f).left }

thrown_widened : (n d : ℕ) (x : Thrown) {f f' : Ends (List ℕ)} → 0 < d → WiderEnds d f f' → Widened n (ran_thrown n x f) (ran_thrown (n + d) x f')
thrown_widened n d x pos (both_fine {a = cs} {s = s}) = same_run (with_charge (ended Raised _ s) n d s.left) (λ e. absurd (cc))
thrown_widened n d x pos (both_raised {x = y} {s = s}) = same_run (with_charge (ended Raised _ s) n d s.left) (λ e. absurd (cc))
thrown_widened n d x pos (one_stopped {s = s} {e = f} z short) = stopped_run refl (omega (arith, z)) (omega (arith, short))

-- what ends with fewer than d steps left makes its text with fewer
last_short : {k n d : ℕ} {ns : List Node} {deep : ℕ} {profile : Profile} {e : Ends (Option (List ℕ))} → SafeEnds k n ns deep profile Any e → (end_of e).left < d → (last_moment e).left < d
last_short (fines l le after q g) short = short
last_short (raiseds l {x = x} {s = s} le after q g) short = let p = falls_in ((show_thrown_s {k = l} x q).go l (omega arith) s g) in omega (arith, p, short)
last_short (stoppeds l le after g) short = short

ends_widened : {k n d n' : ℕ} {ns ns' : List Node} {deep deep' : ℕ} {profile profile' : Profile} {e e' : Ends (Option (List ℕ))} → 0 < d → n + d ≤ widest_budget → WiderEnds d e e' → SafeEnds k n ns deep profile Any e → SafeEnds k n' ns' deep' profile' Any e' → Widened n (ran_with n e) (ran_with (n + d) e')
ends_widened {n = n} {d = d} pos fits (both_fine {a = o} {s = s}) one two = same_run (with_charge (ended Done (shown_output o) s) n d s.left) (λ e. absurd (cc))
ends_widened {n = n} {d = d} pos fits both_raised (raiseds l {x = x} {s = s} le after q g) two = let p : s.left ≤ n = after.0 in thrown_widened n d x pos ((show_thrown_s {k = l} x q).wide l (omega arith) s g d pos (omega (arith, p, fits)))
ends_widened {n = n} {d = d} pos fits (one_stopped {s = s} {e = e'} z short) one two = let p = last_short two short in stopped_run refl (omega (arith, z)) (omega (arith, p))

begun_moment : (n : ℕ) (profile : Profile) (s : State) → n ≤ widest_budget → IsState s → IsMoment (length s.nodes) (begun_with n profile s)
begun_moment n profile s fits h = record { many = refl; nodes = h.nodes; names = h.names; locals = tt; handled = tt; budget = fits }

tree_widened : (n d : ℕ) (profile : Profile) (o : Result (List Statement) ℕ) (s : State) → ((tree : List Statement) → o ≡ Ok tree → StatementsSound (statements tree)) → IsState s → 0 < d → n + d ≤ widest_budget → Widened n (tree_within n profile o s) (tree_within (n + d) profile o s)
tree_widened n d profile (Ok tree) s sound h pos fits =
    let c = cell_s (length s.nodes) tree (sound tree refl) in
    let g = begun_moment n profile s (omega (arith, fits)) h in
    ends_widened pos fits (c.wide (length s.nodes) (omega arith) (begun_with n profile s) g d pos fits) (c.go (length s.nodes) (omega arith) (begun_with n profile s) g) (c.go (length s.nodes) (omega arith) (begun_with (n + d) profile s) (more_good d fits g))
tree_widened n d profile (Err line) s sound h pos fits = same_run refl (λ e. absurd (cc))

run_widened : (n d : ℕ) (profile : Profile) (source : List ℕ) (s : State) → IsCell source → IsState s → 0 < d → n + d ≤ widest_budget → Widened n (run_within n profile source s) (run_within (n + d) profile source s)
unfolding run_within
run_widened n d profile source s c h pos fits = tree_widened n d profile (read_chars profile (chars source)) s (tree_sound profile source c.0 c.1) h pos fits

-- ---- the laws

whole_spent : {n : ℕ} {r r' : Ran} → Widened n r r' → IsStopped r → r.charge ≡ n
whole_spent (same_run e other) h = absurd (other h)
whole_spent (stopped_run e all further) h = all

pub stopped_spends_all : (c : Start) (n : ℕ) → n < widest_budget → IsStopped (run_by n c) → (run_by n c).charge ≡ n
stopped_spends_all c n small = whole_spent (run_widened n 1 c.profile c.text c.state c.is_cell c.is_state (omega arith) (omega (arith, small)))

asks : {n : ℕ} {r r' : Ran} → Widened n r r' → r.charge ≤ n → r'.charge ≤ n + 1 → (IsStopped r ↔ r'.charge ≡ n + 1)
asks {n = n} (same_run e other) most most' = ((λ h. absurd (other h)), (λ h. absurd (let f = ap (λ (r : Ran). r.charge) e in omega (arith, f, h, most))))
asks (stopped_run e all further) most most' = ((λ h. omega (arith, further, most')), (λ h. e))

pub stopped_asks_further : (c : Start) (n : ℕ) → n < widest_budget → (IsStopped (run_by n c) ↔ (run_by (n + 1) c).charge ≡ n + 1)
stopped_asks_further c n small =
    asks (run_widened n 1 c.profile c.text c.state c.is_cell c.is_state (omega arith) (omega (arith, small)))
    (run_most n c.profile c.text c.state) (run_most (n + 1) c.profile c.text c.state)

goes_same : {n : ℕ} {r r' : Ran} → Widened n r r' → (IsStopped r → ⊥) → r' ≡ r
goes_same (same_run e other) h = e
goes_same (stopped_run e all further) h = absurd (h e)

with_more : (c : Start) (n d : ℕ) → n + d ≤ widest_budget → (IsStopped (run_by n c) → ⊥) → run_by (n + d) c ≡ run_by n c
with_more c n zero fits other = (let e : n + 0 ≡ n = omega arith in ap (λ (j : ℕ). run_by j c) e)
with_more c n (suc d) fits other = goes_same (run_widened n (suc d) c.profile c.text c.state c.is_cell c.is_state (omega arith) fits) other

pub larger_budgets_agree : (c : Start) (n m : ℕ) → n ≤ m → m ≤ widest_budget → (IsStopped (run_by n c) → ⊥) → run_by m c ≡ run_by n c
larger_budgets_agree c n m le fits other =
    let e : n + (m - n) ≡ m = omega (arith, le) in
    subst (λ (j : ℕ). run_by j c ≡ run_by n c) e (with_more c n (m - n) (omega (arith, le, fits)) other)

pub run_has_budget : (c : Start) → run_by most_steps c ≡ run_of c
run_has_budget c = run_is c.profile c.text c.state

pub takes_no_more : (c : Start) (n : ℕ) → (run_by n c).charge ≤ n
takes_no_more c n = run_most n c.profile c.text c.state

pub cell_spends_all : (c : Start) → IsStopped (run_of c) → (run_of c).charge ≡ most_steps
cell_spends_all c = subst (λ (r : Ran). IsStopped r → r.charge ≡ most_steps) (run_has_budget c) (stopped_spends_all c most_steps (omega arith))
