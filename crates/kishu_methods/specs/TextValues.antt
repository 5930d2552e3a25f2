-- Texts among values.
use Rattle.std.specs.Prelude.{ℕ, List, map, Option, Some, None}
use Rattle.std.specs.Rc.{rc_str_bytes}
use Rattle.std.specs.Str.{chars}
use Rattle.std.specs.declared.alloc.Global.{Global}
use Rattle.std.specs.declared.rc.RcStr.{RcStr}
use Rattle.kishu_meaning.specs.values.Values.{Value, none, bool, integer, text, range, builtin, class, node}

-- the code points of a value that is a text
abbrev pub text_in : Value → Option (List ℕ)
text_in none = None
text_in (bool b) = None
text_in (integer z) = None
text_in (text cs) = Some cs
text_in (range a b c) = None
text_in (builtin n) = None
text_in (class n) = None
text_in (node i) = None

-- the code points of each of these texts
abbrev pub texts_of : List (RcStr Global) → List (List ℕ)
texts_of = map (λ s. chars (rc_str_bytes s))
