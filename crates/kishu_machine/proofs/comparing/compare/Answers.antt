use Rattle.kishu_machine.specs.Machine.{moment_of}
use Rattle.kishu_machine.proofs.comparing.compare.Goals as goal

pub returns-in-Less-clause-gives : goal.returns-in-Less-clause-gives
returns-in-Less-clause-gives g c = rw c.in-Less.is (rw c.in-Less.is at c.less.ensures.gives)

pub returns-in-LessEqual-clause-gives : goal.returns-in-LessEqual-clause-gives
returns-in-LessEqual-clause-gives g c = rw c.in-LessEqual.is (c.negated.ensures.gives (moment_of c.greater.new.machine) _ (rw c.in-LessEqual.is at c.greater.ensures.gives))

pub returns-in-LessEqual-clause-sound : goal.returns-in-LessEqual-clause-sound
returns-in-LessEqual-clause-sound g c = c.negated.ensures.sound _ c.greater.ensures.sound

pub returns-in-Greater-clause-gives : goal.returns-in-Greater-clause-gives
returns-in-Greater-clause-gives g c = rw c.in-Greater.is (rw c.in-Greater.is at c.greater-in-Greater.ensures.gives)

pub returns-in-GreaterEqual-clause-gives : goal.returns-in-GreaterEqual-clause-gives
returns-in-GreaterEqual-clause-gives g c = rw c.in-GreaterEqual.is (c.negated-in-GreaterEqual.ensures.gives (moment_of c.less-in-GreaterEqual.new.machine) _ (rw c.in-GreaterEqual.is at c.less-in-GreaterEqual.ensures.gives))

pub returns-in-GreaterEqual-clause-sound : goal.returns-in-GreaterEqual-clause-sound
returns-in-GreaterEqual-clause-sound g c = c.negated-in-GreaterEqual.ensures.sound _ c.less-in-GreaterEqual.ensures.sound

pub returns-in-Equal-clause-gives : goal.returns-in-Equal-clause-gives
returns-in-Equal-clause-gives g c = rw c.in-Equal.is c.equal.ensures.gives

pub returns-in-NotEqual-clause-gives : goal.returns-in-NotEqual-clause-gives
returns-in-NotEqual-clause-gives g c = rw c.in-NotEqual.is (c.negated-in-NotEqual.ensures.gives (moment_of c.equal-in-NotEqual.new.machine) _ c.equal-in-NotEqual.ensures.gives)

pub returns-in-NotEqual-clause-sound : goal.returns-in-NotEqual-clause-sound
returns-in-NotEqual-clause-sound g c = c.negated-in-NotEqual.ensures.sound _ c.equal-in-NotEqual.ensures.sound

pub returns-in-In-clause-gives : goal.returns-in-In-clause-gives
returns-in-In-clause-gives g c = rw c.in-In.is (rw c.in-In.is at c.member.ensures.gives)

pub returns-in-NotIn-clause-gives : goal.returns-in-NotIn-clause-gives
returns-in-NotIn-clause-gives g c = rw c.in-NotIn.is (c.negated-in-NotIn.ensures.gives (moment_of c.member-in-NotIn.new.machine) _ (rw c.in-NotIn.is at c.member-in-NotIn.ensures.gives))

pub returns-in-NotIn-clause-sound : goal.returns-in-NotIn-clause-sound
returns-in-NotIn-clause-sound g c = c.negated-in-NotIn.ensures.sound _ c.member-in-NotIn.ensures.sound

pub returns-in-Is-clause-gives : goal.returns-in-Is-clause-gives
returns-in-Is-clause-gives g c = rw c.in-Is.is c.identical.ensures.gives

pub returns-in-IsNot-clause-gives : goal.returns-in-IsNot-clause-gives
returns-in-IsNot-clause-gives g c = rw c.in-IsNot.is (c.negated-in-IsNot.ensures.gives (moment_of c.identical-in-IsNot.new.machine) _ c.identical-in-IsNot.ensures.gives)

pub returns-in-IsNot-clause-sound : goal.returns-in-IsNot-clause-sound
returns-in-IsNot-clause-sound g c = c.negated-in-IsNot.ensures.sound _ c.identical-in-IsNot.ensures.sound
