-- Copies of a dict.
use Rattle.std.proofs.Common.{◌≡◌, ap, sym, List, length, Some}
use Rattle.std.specs.Prelude.{unwrap_or}
use Rattle.kishu_meaning.specs.values.Keys.{Key}
use Rattle.kishu_meaning.specs.calls.Builtins.{copied_dict}
use Rattle.kishu_meaning.specs.moments.Moment.{◌>>◌, spend, make}
use Rattle.kishu_meaning.specs.values.Nodes.{dict_in}
use Rattle.kishu_meaning.specs.values.Values.{Value, Node, list, tuple, dict, object, function, exception}

pub copied_as : (n : Node) (es : List (Key × Value)) → Some es ≡ dict_in n → copied_dict (Some n) ≡ (spend (length es) >> make (dict es))
copied_as (list vs) es e = absurd cc
copied_as (tuple vs) es e = absurd cc
copied_as (dict fs) es e = ap (λ o. spend (length (unwrap_or o es)) >> make (dict (unwrap_or o es))) (sym e)
copied_as (object as') es e = absurd cc
copied_as (function profile code vs) es e = absurd cc
copied_as (exception kind vs) es e = absurd cc
