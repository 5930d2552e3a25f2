use Rattle.std.proofs.Common.{sym, ◌∙◌}
use Rattle.kishu_parser.proofs.Assignable.{ends_is}
use Rattle.kishu_parser.proofs.targets.ends_in_place.Goals as goal

pub returns-in-Some : goal.returns-in-Some
returns-in-Some c = c.is_place_trailer.ensures ∙ sym (ends_is c.args.trailers.now c.in-Some.last.now c.in-Some.ensures.value)
