use Rattle.kishu_objects_laws.specs.SameLaws.{glued}
use Rattle.kishu_state_laws.specs.Real.{state_is_real}
use Rattle.kishu_iso.proofs.Telling.{parts_equal}
use Rattle.kishu_iso.proofs.laws.parts_make_the_whole_same.Goals as goal

pub returns-clause-pictures : goal.returns-clause-pictures
returns-clause-pictures c = λ s t groups a b p q e. glued s t a.sound b.sound groups p.1 q.1 e p.0 q.0

pub returns-clause-bytes : goal.returns-clause-bytes
returns-clause-bytes c = λ s t groups a b p q e.
    glued s t (state_is_real s a).sound (state_is_real t b).sound groups p.1 q.1 (parts_equal s t groups a b e) p.0 q.0
