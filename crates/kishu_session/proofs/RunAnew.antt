-- A cell that runs on a state which is loaded anew before, or not, runs as on the first.
use Rattle.std.specs.Prelude.{◌≡◌, ℕ, List, [], ◌∷◌}
use Rattle.kishu_language.specs.declared.profile.Profile.TheVariants.{One}
use Rattle.kishu_meaning.specs.cells.Meaning.{run}
use Rattle.kishu_meaning.specs.values.Values.{State}
use Rattle.kishu_objects.specs.States.{IsSoundState}
use Rattle.kishu_objects_laws.specs.SameLaws.{same_turned}
use Rattle.kishu_pairing_laws.specs.runs.PairedRuns.{same_runs}
use Rattle.kishu_anew.specs.Anew.{IsAnew, IsWhole}
use Rattle.kishu_anew.specs.WholeLaws.{whole_sound}
use Rattle.kishu_session.specs.Renewing.{IsLeft, Starts, renewed}
use Rattle.kishu_session.proofs.LeftBy.{anew-starts, left-one}

module _ (text : List ℕ) (s u : State) (whole : IsWhole s) (anew : IsAnew s u) (is : u ≡ renewed s) where
  here : IsSoundState s
  here = whole_sound s whole

  there : IsSoundState u
  there = whole_sound u anew.whole

  pub starts : Starts s u
  starts = anew-starts s u is anew there

  pub report-alike : (run One text u).report ≡ (run One text s).report
  report-alike = (same_runs One text u s there here (same_turned _ s u anew.same)).report

  pub accessed-alike : (run One text u).accessed ≡ (run One text s).accessed
  accessed-alike = (same_runs One text u s there here (same_turned _ s u anew.same)).accessed

  pub charge-alike : (run One text u).charge ≡ (run One text s).charge
  charge-alike = (same_runs One text u s there here (same_turned _ s u anew.same)).charge

  pub left-alike : IsLeft (text ∷ []) s (run One text u).state
  left-alike = left-one text s u here starts
