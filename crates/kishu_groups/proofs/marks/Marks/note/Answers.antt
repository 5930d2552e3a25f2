use Rattle.std.proofs.Common.{◌≡◌, sym, subst}
use Rattle.std.proofs.lemmas.Result.{on_ok_weaker}
use Rattle.kishu_groups.specs.Marks.{Kept, marks_of, note}
use Rattle.kishu_groups.proofs.Notes.{note_kept}
use Rattle.kishu_groups.proofs.marks.Marks.note.Goals as goal

pub returns-in-Node-clause-kept : goal.returns-in-Node-clause-kept
returns-in-Node-clause-kept c =
    let before = marks_of c.args.self.now in
    on_ok_weaker c.note_node.result
    (λ (e : marks_of c.note_node.new.self ≡ note c.args.label c.in-Node.id.0 before). subst (Kept before) (sym e)
    (note_kept c.args.label c.in-Node.id.0 before c.requires.marks c.requires.label))
    c.note_node.ensures
