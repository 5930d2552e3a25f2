use Rattle.std.proofs.Common.{ap}
use Rattle.kishu_objects.specs.Bytes.{state_bytes}
use Rattle.kishu_objects.specs.Picture.{whole}
use Rattle.kishu_objects_laws.specs.WholeLaws.{same_whole, whole_same}
use Rattle.kishu_objects_laws.specs.BytesLaws.{reads_state, same_bytes, bytes_same}
use Rattle.kishu_objects_laws.proofs.laws.bytes_tell.Goals as goal

pub returns-clause-pictures : goal.returns-clause-pictures
returns-clause-pictures c = reads_state

pub returns-clause-states : goal.returns-clause-states
returns-clause-states c = λ s t names a b f g. (same_bytes s t names a b, bytes_same s t names a b f g)

pub returns-clause-whole : goal.returns-clause-whole
returns-clause-whole c = λ s t a b p q f g. (λ h. ap state_bytes (same_whole s t a b p q h), λ e. whole_same s t a b (reads_state (whole s) (whole t) f g e))
