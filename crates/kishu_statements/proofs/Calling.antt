-- What a call of a function does, and that what its parameters get is sound.
use Rattle.std.proofs.Common.{◌≡◌, refl, ap, arith, ℕ, zero, suc, ◌-◌, ◌<◌, Bool, true, false, IsTrue, List, [], ◌∷◌, Option, Some, None, cond}
use Rattle.kishu_language.specs.declared.profile.Profile.{Profile}
use Rattle.kishu_language.specs.reading.ReadText.{ReadsDef}
use Rattle.kishu_language.specs.trees.Tree.{Text, Parameter, Definition}
use Rattle.kishu_language.specs.trees.Tree as t
use Rattle.kishu_meaning.specs.values.Values.{Value, Names, find}
use Rattle.kishu_language.specs.tokens.Names.{is_name}
use Rattle.kishu_meaning.specs.values.Sound.{is_sound, are_sound, are_sound_names}
use Rattle.kishu_meaning.specs.calls.Callees.{Given}
use Rattle.kishu_meaning.specs.calls.Functions.{with_defaults, with_value, values_for, or_default, bound_values, function_in}
use Rattle.kishu_meaning.specs.cells.Meaning.{call, enter, enter_code}
use Rattle.kishu_items.specs.Holding.{first, second}
use Rattle.kishu_calls.specs.Calls.{is_sound_given}
use Rattle.kishu_language.specs.trees.Fits.{ParametersFit}
use Rattle.kishu_statements.specs.Forms.{called}
use Rattle.kishu_machine.specs.SoundNames.{is_sound_found, finds_sound, binds_sound}

pub called_at : (room : ℕ) (d : Definition) (vs : List Value) (given : Given) → 0 < room → called room d vs given ≡ enter (call (room - 1)) d (bound_values d vs given)
called_at zero d vs given p = absurd (omega arith)
called_at (suc n) d vs given p = let e : n ≡ suc n - 1 = omega arith in ap (λ k. enter (call k) d (bound_values d vs given)) e

pub call_is : (room : ℕ) (profile : Profile) (code : Text) (d : Definition) (vs : List Value) (given : Given) → ReadsDef profile code d → call room profile code vs given ≡ called room d vs given
unfolding call
call_is zero profile code d vs given h = refl
call_is (suc n) profile code d vs given h = ap (λ r. enter_code (call n) vs given (function_in r)) h

-- ---- what parameters get

module _ (n : ℕ) where
  abbrev pub AreSoundNames : Option Names → Type 0
  AreSoundNames None = Unit {0}
  AreSoundNames (Some names) = IsTrue (are_sound_names n names)

  abbrev are_sound_defaults : List (Text × Option Value) → Type 0
  are_sound_defaults [] = Unit {0}
  are_sound_defaults (p ∷ ps) = IsTrue (is_name p.0) × IsTrue (is_sound_found n p.1) × are_sound_defaults ps

  defaults_sound : (ps : List Parameter) (vs : List Value) → ParametersFit ps → IsTrue (are_sound n vs) → are_sound_defaults (with_defaults ps vs)
  defaults_sound [] vs f h = tt
  defaults_sound ((x, None) ∷ ps) vs f h = (f.0, refl, defaults_sound ps vs f.2 h)
  defaults_sound ((x, Some e) ∷ ps) [] f h = (f.0, refl, defaults_sound ps [] f.2 h)
  defaults_sound ((x, Some e) ∷ ps) (v ∷ vs) f h = (f.0, first (is_sound n v) _ h, defaults_sound ps vs f.2 (second (is_sound n v) _ h))

  with_sound : (x : Text) (found : Option Value) (rest : Option Names) → IsTrue (is_name x) → IsTrue (is_sound_found n found) → AreSoundNames rest → AreSoundNames (with_value x found rest)
  with_sound x (Some v) (Some names) p h k = binds_sound n x v names p h k
  with_sound x (Some v) None p h k = tt
  with_sound x None (Some names) p h k = tt
  with_sound x None None p h k = tt

  default_sound : (a b : Option Value) → IsTrue (is_sound_found n a) → IsTrue (is_sound_found n b) → IsTrue (is_sound_found n (or_default a b))
  default_sound (Some v) b h k = h
  default_sound None b h k = k

  values_sound : (ps : List (Text × Option Value)) (vs : List Value) (named : Names) → are_sound_defaults ps → IsTrue (are_sound n vs) → IsTrue (are_sound_names n named) → AreSoundNames (values_for ps vs named)
  values_sound [] vs named f h k = refl
  values_sound (p ∷ ps) (v ∷ vs) named f h k = with_sound p.0 (Some v) (values_for ps vs named) f.0 (first (is_sound n v) _ h) (values_sound ps vs named f.2 (second (is_sound n v) _ h) k)
  values_sound (p ∷ ps) [] named f h k = with_sound p.0 (or_default (find p.0 named) p.1) (values_for ps [] named) f.0 (default_sound (find p.0 named) p.1 (finds_sound n p.0 named k) f.1) (values_sound ps [] named f.2 refl k)

  either : (b : Bool) (o : Option Names) → AreSoundNames o → AreSoundNames (cond b o None)
  either true o h = h
  either false o h = tt

  pub bound_sound : (d : Definition) (vs : List Value) (given : Given) → ParametersFit d.parameters → IsTrue (are_sound n vs) → IsTrue (is_sound_given n given) → AreSoundNames (bound_values d vs given)
  bound_sound d vs given f h k =
      either _ (values_for (with_defaults d.parameters vs) given.plain given.named)
      (values_sound (with_defaults d.parameters vs) given.plain given.named (defaults_sound d.parameters vs f h) (first (are_sound n given.plain) _ k) (first (are_sound_names n given.named) _ (second (are_sound n given.plain) _ k)))
