-- What running cells one after another gives: what each showed, or that one left a state that is too large, as a table tells it.
use Rattle.std.specs.Prelude.{◌≡◌, ◌<◌, ◌≤◌, ◌+◌, ◌^◌, ◌↔◌, ℕ, true, false, List, length, map, take}
use Rattle.std.specs.declared.rc.RcStr.{RcStr}
use Rattle.std.specs.declared.alloc.Global.{Global}
use Rattle.kishu_objects.specs.Lists.{In}
use Rattle.kishu_store.specs.Tables.{Table}
use Rattle.kishu_model.specs.declared.answer.Counted.{Counted}
use Rattle.kishu_model.specs.declared.refusal.Refusal.{Refusal}
use Rattle.kishu_model.specs.Values.{counted_of, refusal_of}
use Rattle.kishu_live_laws.specs.OnStates.{leave_too_large, told_too_large}
use Rattle.kishu_session.specs.Lives.{state_of, ran_of, shown_of}
use Rattle.kishu_session.specs.TextLists.{texts_of}
use Rattle.kishu_session.specs.declared.live.Live.{Live}
use Rattle.kishu_session.specs.declared.requests.cells.Several.{Several}
use Rattle.kishu_session.specs.declared.requests.cells.Several.TheVariants.{Shown, TooLarge}

-- The same names stand in both lists.
abbrev pub AreSameNames : List (List ℕ) → List (List ℕ) → Type 0
AreSameNames xs ys = (x : List ℕ) → (In x xs ↔ In x ys)

-- The first of these texts were run, no state was too large, and this is what they showed, where so many cells are on the path before them.
pub record AreShown (before : ℕ) (t : Table) (live : Live) (texts : List (RcStr Global)) (results : List Counted) : Type 0 where
  pub few : length results ≤ length texts
  pub ran : take (length results) (texts_of texts) ≡ ran_of t live texts
  pub shown : before + length texts < 2 ^ 64 → map counted_of results ≡ shown_of t live texts before
  pub small : leave_too_large t (ran_of t live texts) (state_of live) ≡ false

-- The last that was run left a state that is too large, which this refusal tells.
pub record AreTooLarge (t : Table) (live : Live) (texts : List (RcStr Global)) (refusal : Refusal) : Type 0 where
  pub large : leave_too_large t (ran_of t live texts) (state_of live) ≡ true
  pub told : refusal_of refusal ≡ told_too_large t (ran_of t live texts) (state_of live)

abbrev pub IsGivenBy : ℕ → Table → Live → List (RcStr Global) → Several → Type 0
IsGivenBy before t live texts (Shown results) = AreShown before t live texts results.items
IsGivenBy before t live texts (TooLarge refusal) = AreTooLarge t live texts refusal
