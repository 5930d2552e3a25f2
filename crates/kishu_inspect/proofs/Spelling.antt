-- The bytes of a text whose code points are known.
use Rattle.std.proofs.Common.{◌≡◌, ℕ, List, sym, ap, ◌∙◌}
use Rattle.std.proofs.lemmas.Str.{encodes-chars}
use Rattle.std.specs.Str.{chars, encode_utf8_all, IsUtf8}

pub spelled : (seen bytes points : List ℕ)
    → IsUtf8 seen → seen ≡ bytes → chars bytes ≡ points → seen ≡ encode_utf8_all points
spelled seen bytes points utf8 same are =
    sym (encodes-chars seen utf8)
    ∙ ap (λ (b : List ℕ). encode_utf8_all (chars b)) same
    ∙ ap encode_utf8_all are
