use Rattle.std.proofs.Common.{subst, sym, List, ℕ, [], ◌-◌}
use Rattle.std.specs.Str.{chars}
use Rattle.std.specs.String.{string_bytes}
use Rattle.kishu_meaning.specs.moments.Counting.{ended_in}
use Rattle.kishu_meaning.specs.moments.Moment.{Ends, most_depth}
use Rattle.kishu_meaning.specs.comparing.Show.{argument_text, repr_nodes, show_nodes}
use Rattle.kishu_meaning.specs.values.Values.{Node, value_of}
use Rattle.kishu_machine.specs.Composing.{gives_on}
use Rattle.kishu_machine.specs.Machine.{Gives, moment_of}
use Rattle.kishu_machine.proofs.Showing.{ticked}
use Rattle.kishu_machine.proofs.shows.argument_text.Goals as goal

pub returns-clause-gives : goal.returns-clause-gives
returns-clause-gives g c =
    let v = value_of c.args.argument.now in
    let m = λ (ns : List Node) (d : ℕ). argument_text (repr_nodes ns (most_depth - d) []) (show_nodes ns (most_depth - d)) c.args.class.0 v in
    let s = moment_of c.args.machine.now in
    let t = moment_of c.tick.new.machine in
    rw c.deeper_text-text.ensures.spends.0 (
    subst (λ (e : Ends (List ℕ)). Gives (λ x. chars (string_bytes x)) c.made.result (record t { left = c.deeper_text-text.new.budget.left }) e) (sym (ticked s m))
    (gives_on (λ _ u. ended_in u (m u.nodes u.depth u.left)) (λ x. chars (string_bytes x)) c.made.result tt t (record t { left = c.deeper_text-text.new.budget.left }) _ c.in_ok-tick.ensures.gives
    (c.made.ensures.gives t c.deeper_text-text.new.budget.left _ c.deeper_text-text.ensures.gives)))

pub returns-clause-sound : goal.returns-clause-sound
returns-clause-sound g c = c.made.ensures.sound _
