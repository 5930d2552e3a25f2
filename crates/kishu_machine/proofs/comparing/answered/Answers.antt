use Rattle.kishu_meaning_laws.specs.Bare.{bare}
use Rattle.kishu_meaning.specs.moments.Counting.{ended_in}
use Rattle.std.specs.Prelude.{[]}
use Rattle.kishu_machine.proofs.Members.{passed_gives, ended_sound}
use Rattle.kishu_machine.proofs.Sequences.{raised_sound}
use Rattle.kishu_machine.proofs.comparing.answered.Goals as goal

pub returns-clause-gives : goal.returns-clause-gives
returns-clause-gives c = λ s left e h. rw c.passed.ensures (passed_gives (λ b. b) c.compared.result (record s { left = left }) (ended_in s e) (c.compared.ensures e s left h))

pub returns-clause-sound : goal.returns-clause-sound
returns-clause-sound c = λ n left e h.
    let s = bare [] 0 0 in
    rw c.passed.ensures (raised_sound (λ b. b) n _ (record s { left = left }) (ended_in s e) (ended_sound n s e) (passed_gives (λ b. b) c.compared.result (record s { left = left }) (ended_in s e) (c.compared.ensures e s left h)))
