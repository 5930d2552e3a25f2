-- What an answer refuses, and whether it refuses a state for its size.
use Rattle.std.specs.Prelude.{min, nat_lt, option_map}
use Rattle.std.proofs.Common.{◌≡◌, ◌<◌, ◌≤◌, ℕ, Bool, true, false, if◌then◌else◌, List, Option, Some, None, refl, sym, ◌∙◌, ap, arith}
use Rattle.std.proofs.lemmas.Bool.Decides.{nat_tests}
use Rattle.kishu_meaning.specs.values.Values.{State}
use Rattle.kishu_objects.specs.Sizes.{most_bytes}
use Rattle.kishu_objects.specs.States.{IsSoundState}
use Rattle.kishu_replay.specs.Replay.{after_cells}
use Rattle.kishu_store.specs.Limits.{newest_profile}
use Rattle.kishu_store.specs.Tables.{Table}
use Rattle.kishu_history.specs.Accessed.{accessed_by}
use Rattle.kishu_history.specs.Touched.{size_told}
use Rattle.kishu_history_laws.specs.cells.AccessLaws.{size_same}
use Rattle.kishu_session_laws.specs.CellLaws.{cells_keep}
use Rattle.kishu_model.specs.Answers.{Answer, Refusal, refused, state_too_large}
use Rattle.kishu_model.specs.declared.refusal.Refusal as program
use Rattle.kishu_model.specs.requests.TooLarge.{most_told}
use Rattle.kishu_model.specs.Values.{refusal_of}
use Rattle.kishu_live_laws.specs.OnStates.{left_size, leave_too_large, told_too_large}
use Rattle.kishu_live_laws.specs.SameRequests.{told_size_same}
use Rattle.kishu_live_laws.specs.Refusals.{by_graph, refusal_in, TellsSize}
use Rattle.kishu_session.specs.Refusing.{RefusesSize}
use Rattle.kishu_session.specs.Renewing.{IsLeft}
use Rattle.kishu_session.specs.Running.{AreSameNames}
use Rattle.kishu_session.specs.Sized.{size_refused}

-- ---- what the test finds

module _ (bytes : ℕ) where
  abbrev large : Bool
  large = nat_lt most_bytes bytes

  abbrev told : Refusal
  told = state_too_large (min bytes most_told)

  large-by : (r : Refusal) (b : Bool) → Some r ≡ (if b then Some told else None) → (b ≡ true) × (r ≡ told)
  large-by r true is = (refl, cc (is))
  large-by r false is = absurd (cc (is))

  large-found : (found : Option program.Refusal) (r : program.Refusal) → found ≡ Some r → option_map refusal_of found ≡ size_refused bytes → (large ≡ true) × (refusal_of r ≡ told)
  large-found found r there is = large-by (refusal_of r) large (sym (ap (option_map refusal_of) there) ∙ is)

  small-by : (b : Bool) → None ≡ (if b then Some told else None) → b ≡ false
  small-by true is = absurd (cc (is))
  small-by false is = refl

  small-found : (found : Option program.Refusal) → found ≡ None → option_map refusal_of found ≡ size_refused bytes → large ≡ false
  small-found found none is = small-by large (sym (ap (option_map refusal_of) none) ∙ is)

-- Cells were run from a state, and left this one, which is loaded anew before some of them or not; the names that they accessed are recorded. What is told of its size by the record is what they leave.
module _ (t : Table) (cells : List (List ℕ)) (s u : State) (sound : IsSoundState s) (is-sound : IsSoundState u) (names : List (List ℕ)) (left : IsLeft cells s u)
    (same : AreSameNames names (accessed_by newest_profile cells s)) where
  pub sizes-are : size_told t names u ≡ left_size t cells s
  sizes-are =
      told_size_same u (after_cells newest_profile cells s) is-sound (cells_keep newest_profile cells s sound) left.same t names
      ∙ size_same names (accessed_by newest_profile cells s) same t (after_cells newest_profile cells s)

  module _ (found : Option program.Refusal) (is : option_map refusal_of found ≡ size_refused (size_told t names u)) where
    here : option_map refusal_of found ≡ size_refused (left_size t cells s)
    here = is ∙ ap size_refused sizes-are

    pub found-large : (r : program.Refusal) → found ≡ Some r → (leave_too_large t cells s ≡ true) × (refusal_of r ≡ told_too_large t cells s)
    found-large r there = large-found (left_size t cells s) found r there here

    pub found-small : found ≡ None → leave_too_large t cells s ≡ false
    found-small none = small-found (left_size t cells s) found none here

module _ (t : Table) (cells : List (List ℕ)) (s : State) where
  -- what is told of it
  pub tells-size : leave_too_large t cells s ≡ true → (bytes : ℕ) → Some (refused (told_too_large t cells s)) ≡ Some (refused (state_too_large bytes)) → TellsSize t cells s bytes
  tells-size large bytes is =
      let over : most_bytes < left_size t cells s = grind (arith, nat_tests, large) in
      let told : min (left_size t cells s) most_told ≡ bytes = cc (is) in
      (over, sym told)

  pub small-size : leave_too_large t cells s ≡ false → left_size t cells s ≤ most_bytes
  small-size small = grind (arith, nat_tests, small)

-- ---- what the graph refuses isn't refused for a size

pub refusal-no-size : (a : Option Answer) (r : Refusal) (bytes : ℕ) → option_map refusal_in a ≡ Some (Some r) → RefusesSize a bytes → ⊥
refusal-no-size a r bytes is size = apart (sym (ap (option_map refusal_in) size) ∙ is)
  where
    apart : Some None ≡ Some (Some r) → ⊥
    apart e = cc (e)

pub refused-no-size : (a : Option Answer) (r : Refusal) → by_graph r ≡ Some r → a ≡ Some (refused r) → (bytes : ℕ) → RefusesSize a bytes → ⊥
refused-no-size a r by is bytes size = refusal-no-size a r bytes (ap (option_map refusal_in) is ∙ ap (λ (o : Option Refusal). Some o) by) size
