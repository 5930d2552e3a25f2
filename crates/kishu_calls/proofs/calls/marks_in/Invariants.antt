use Rattle.std.proofs.Common.{◌≡◌, drop, List, [], ◌∷◌}
use Rattle.std.specs.Prelude.{codes}
use Rattle.std.specs.Rc.{rc_str_bytes}
use Rattle.std.specs.Str.{chars}
use Rattle.kishu_meaning.specs.calls.Callees.{print_by}
use Rattle.kishu_language.specs.tokens.Lines.{line_feed}
use Rattle.kishu_meaning.specs.moments.Moment.{Moment}
use Rattle.kishu_meaning.specs.values.Values.{Value}
use Rattle.kishu_calls.specs.Calls.{named_of}
use Rattle.kishu_calls.proofs.calls.marks_in.Given as goal

abbrev pub invariant-loop-name : goal.invariant-loop-name
invariant-loop-name l = (s : Moment) (vs : List Value) → print_by (named_of l.named) (codes " ") (line_feed ∷ []) vs s ≡ print_by (named_of (drop l.name-index l.named)) (chars (rc_str_bytes l.separator)) (chars (rc_str_bytes l.end)) vs s
