use Rattle.std.proofs.Common.{codes, ap, ◌∙◌}
use Rattle.serde_json.specs.View.{view}
use Rattle.kishu_model.specs.notebooks.Setting.{members_changed}
use Rattle.kishu_notebook.proofs.setting.set_members.Goals as goal

pub returns : goal.returns
returns c = c.set_member-2.ensures ∙ ap (members_changed (codes "execution_count") (λ _. view c.args.count)) c.set_member.ensures
