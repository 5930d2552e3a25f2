use Rattle.std.proofs.Common.{◌≡◌, map, drop}
use Rattle.serde_json.specs.Data.{no_members}
use Rattle.serde_json.specs.View.{members_view}
use Rattle.kishu_model.specs.Answers.{with_texts}
use Rattle.kishu_model.specs.Values.{named_of}
use Rattle.kishu_lines.proofs.answers.named_json.Given as goal

abbrev pub invariant-loop-named : goal.invariant-loop-named
invariant-loop-named l = with_texts (map named_of (drop l.named-index l.names)) (members_view l.members.entries) ≡ with_texts (map named_of l.names) no_members
