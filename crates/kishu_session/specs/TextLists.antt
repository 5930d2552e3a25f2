-- Texts, as their bytes.
use Rattle.std.specs.Prelude.{ℕ, nat_le, Bool, IsTrue, List, length, map, Option, option_map}
use Rattle.std.specs.List.{list_all}
use Rattle.std.specs.declared.rc.RcStr.{RcStr}
use Rattle.std.specs.declared.alloc.Global.{Global}
use Rattle.std.specs.Rc.{rc_str_bytes}
use Rattle.kishu_language.specs.Limits.{longest_text}

abbrev pub texts_of : List (RcStr Global) → List (List ℕ)
texts_of texts = map rc_str_bytes texts

-- a text that may be missing
abbrev pub text_in : Option (RcStr Global) → Option (List ℕ)
text_in text = option_map rc_str_bytes text

-- None is longer than a cell may be.
abbrev pub are_short : List (List ℕ) → Bool
are_short texts = list_all (λ text. nat_le (length text) longest_text) texts

abbrev pub AreShort : List (RcStr Global) → Type 0
AreShort texts = IsTrue (are_short (texts_of texts))
