use Rattle.std.proofs.Common.{List, ℕ, [], ◌-◌, ◌∙◌, arith, subst, sym}
use Rattle.std.specs.Str.{chars}
use Rattle.std.specs.String.{string_bytes}
use Rattle.kishu_meaning.specs.moments.Counting.{Count}
use Rattle.kishu_meaning.specs.comparing.Equal.{room_at}
use Rattle.kishu_meaning.specs.moments.Moment.{most_depth}
use Rattle.kishu_meaning.specs.comparing.Show.{repr_nodes, show_nodes}
use Rattle.kishu_meaning.specs.values.Values.{value_of}
use Rattle.kishu_show.specs.Shown as shown
use Rattle.kishu_machine.proofs.Showing.{deep_inside, plain_inside}
use Rattle.kishu_machine.proofs.shows.deeper_text.Goals as goal

pub returns-then-is_node-clause-gives : goal.returns-then-is_node-clause-gives
returns-then-is_node-clause-gives g c = deep_inside c.args.heap.now c.args.budget.now.depth c.args.class.0 c.args.budget.now.left (value_of c.args.argument.now) (omega arith) (sym c.is_node.ensures ∙ c.if-is_node.true)

pub returns-clause-gives : goal.returns-clause-gives
returns-clause-gives g c =
    let ns = c.args.heap.now in
    let d = c.args.budget.now.depth in
    let same = plain_inside (repr_nodes ns (room_at d) []) (repr_nodes ns (most_depth - d) []) (show_nodes ns (room_at d)) (show_nodes ns (most_depth - d)) c.args.class.0 (value_of c.args.argument.now) (sym c.is_node.ensures ∙ c.if-is_node.false) in
    subst (λ (m : Count (List ℕ)). shown.Gives (λ t. chars (string_bytes t)) c.inner_text.result c.inner_text.new.budget.left (m c.args.budget.now.left)) same c.inner_text.ensures.gives
