use Rattle.std.proofs.Common.{ℕ, [], subst}
use Rattle.std.specs.Str.{chars}
use Rattle.std.specs.String.{string_bytes}
use Rattle.kishu_meaning.specs.comparing.Show.{argument_text, repr_nodes, show_nodes}
use Rattle.kishu_meaning.specs.values.Values.{value_of}
use Rattle.kishu_show.specs.Shown as shown
use Rattle.kishu_machine.proofs.Showing.{room_inside}
use Rattle.kishu_machine.proofs.shows.text_below.Goals as goal

pub returns-clause-gives : goal.returns-clause-gives
returns-clause-gives g c =
    let heap = c.args.heap.now in
    subst (λ (room : ℕ). shown.Gives (λ t. chars (string_bytes t)) c.inner_text-text.result c.inner_text-text.new.budget.left (argument_text (repr_nodes heap room []) (show_nodes heap room) c.args.class.0 (value_of c.args.argument.now) c.args.budget.now.left)) (room_inside c.args.budget.now.depth c.requires) c.inner_text-text.ensures.gives
