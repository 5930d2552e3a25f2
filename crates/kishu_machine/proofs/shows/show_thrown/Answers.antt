use Rattle.std.proofs.Common.{◌∙◌, ap, sym, List, ℕ}
use Rattle.std.specs.Str.{chars}
use Rattle.std.proofs.lemmas.Str.{chars-nil}
use Rattle.kishu_meaning.specs.moments.Moment.{fine}
use Rattle.kishu_machine.specs.Machine.{moment_of}
use Rattle.kishu_machine.proofs.shows.show_thrown.Goals as goal

pub returns-in-Plain-clause-gives : goal.returns-in-Plain-clause-gives
returns-in-Plain-clause-gives g c = rw c.in-Plain.is (ap (λ (t : List ℕ). fine t (moment_of c.args.machine.now)) (sym (ap chars c.new.ensures.bytes ∙ chars-nil)))
