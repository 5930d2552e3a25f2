use Rattle.std.proofs.Common.{◌∙◌, ap, map, arith, sym}
use Rattle.std.proofs.lemmas.List.{take_all}
use Rattle.std.proofs.lemmas.Simd.{map-map}
use Rattle.kishu_store.specs.Groups.{first_name}
use Rattle.kishu_graph.specs.Kept.{texts_of}
use Rattle.kishu_graph.proofs.noting.first_names.Goals as goal

pub returns : goal.returns
returns c = c.loop-group.invariant ∙ ap (map (λ g. first_name (texts_of g))) (take_all c.loop-group.group-index c.args.groups.now (omega arith)) ∙ sym (map-map first_name texts_of c.args.groups.now)
