-- The characters of a text that another text or a character stands behind.
use Rattle.std.proofs.Common.{◌≡◌, ◌∙◌, ap, sym, ℕ, List, [], ◌∷◌, ◌++◌, Result, Ok, Err, OnOk, is_ok, if◌then◌else◌}
use Rattle.std.specs.Char.{encode_utf8}
use Rattle.std.specs.Str.{chars, IsUtf8}
use Rattle.std.proofs.lemmas.List.{append-nil}
use Rattle.std.proofs.lemmas.Str.{chars_from_encodes, encodes-append, encodes-chars}

pub chars_behind : (bs front : List ℕ) (c : ℕ) → IsUtf8 bs → IsUtf8 front → bs ≡ front ++ encode_utf8 c → chars bs ≡ chars front ++ c ∷ []
chars_behind bs front c u v e =
    sym (chars_from_encodes (chars front ++ c ∷ []) bs u
    (encodes-append (chars front) (c ∷ []) ∙ (ap (λ (x : List ℕ). x ++ (encode_utf8 c ++ [])) (encodes-chars front v) ∙ (ap (λ (x : List ℕ). front ++ x) (append-nil (encode_utf8 c)) ∙ sym e))))

pub pushed_char : {T E : Type 0} (r : Result T E) (new old : List ℕ) (c : ℕ) → IsUtf8 new → IsUtf8 old → new ≡ (if is_ok r then old ++ encode_utf8 c else old) → OnOk r (chars new ≡ chars old ++ c ∷ [])
pushed_char (Ok x) new old c u v e = chars_behind new old c u v e
pushed_char (Err x) new old c u v e = tt
