-- Code that was read as a function.
use Rattle.std.specs.Prelude.{◌≡◌, ◌≤◌, ℕ, List, length, Some, true}
use Rattle.std.specs.Rc.{rc_str_bytes}
use Rattle.kishu_language.specs.Limits.{longest_text}
use Rattle.kishu_language.specs.trees.Fits.{IsCodeOf}
use Rattle.kishu_language.specs.trees.Tree.{definition_of}
use Rattle.kishu_meaning.specs.values.Sound.{default_count}
use Rattle.kishu_reading.specs.FromBytes.{is_code, code_defaults}
use Rattle.kishu_loading.specs.declared.functions.Code.{Code}

-- The bytes are this code, which is that of the function whose tree stands beside it.
pub record IsFunction (bytes : List ℕ) (code : Code) : Type 0 where
  pub text : rc_str_bytes code.text ≡ bytes
  pub short : length bytes ≤ longest_text
  pub read : is_code code.profile bytes ≡ true
  pub defaults : code_defaults code.profile bytes ≡ Some (default_count (definition_of code.def))
  pub fits : ∥ IsCodeOf code.profile bytes (definition_of code.def) ∥₁
