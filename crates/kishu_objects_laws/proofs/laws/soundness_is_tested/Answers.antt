use Rattle.kishu_objects_laws.specs.SoundLaws.{sound_of}
use Rattle.kishu_objects_laws.proofs.laws.soundness_is_tested.Goals as goal

pub returns : goal.returns
returns c = sound_of
