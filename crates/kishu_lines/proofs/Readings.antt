-- The reading of a line, by what its JSON is.
use Rattle.std.proofs.Common.{◌≡◌, List, ℕ, Bool, true, false, cond, Option, Some, None, option_and_then, refl}
use Rattle.std.proofs.lemmas.Str.{IsUtf8-from_is_utf8, is_utf8-from_IsUtf8}
use Rattle.std.specs.Str.{is_utf8, IsUtf8}
use Rattle.serde_json.specs.Data.{Data}
use Rattle.serde_json.specs.Read.{read}
use Rattle.kishu_model.specs.Reading.{request_in, reading}

valued : (b : Bool) (o : Option Data) (d : Data) → b ≡ true → o ≡ Some d → cond b (option_and_then request_in o) None ≡ request_in d
valued b o d text value = rw (text, value) refl

pub reads_value : (line : List ℕ) (d : Data) → IsUtf8 line → read line ≡ Some d → reading line ≡ request_in d
unfolding reading
reads_value line d utf8 value = valued (is_utf8 line) (read line) d (is_utf8-from_IsUtf8 line utf8) value

valueless : (b : Bool) (o : Option Data) → (b ≡ true → o ≡ None) → cond b (option_and_then request_in o) None ≡ None
valueless true o none = rw (none refl) refl
valueless false o none = refl

pub reads_none : (line : List ℕ) → (IsUtf8 line → read line ≡ None) → reading line ≡ None
unfolding reading
reads_none line none = valueless (is_utf8 line) (read line) (λ e. none (IsUtf8-from_is_utf8 line e))
