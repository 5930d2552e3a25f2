use Rattle.std.proofs.Common.{Option, option_map, unwrap_or, false, eqb, ap, sym, ◌∙◌}
use Rattle.serde_json.proofs.Views.{members_len-members_view}
use Rattle.serde_json.specs.Data.{Members}
use Rattle.serde_json.specs.Events.{members_len}
use Rattle.kishu_lines.proofs.reading.has_members.Goals as goal

pub returns-in-Some : goal.returns-in-Some
returns-in-Some c =
    let count = c.args.count in
    let size = c.len.ensures.len ∙ sym (members_len-members_view c.in-Some.members.now.entries) in
    ap (λ n. eqb n count) size ∙ ap (λ (o : Option Members). unwrap_or (option_map (λ ms. eqb (members_len ms) count) o) false) c.in-Some.ensures
