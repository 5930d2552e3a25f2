-- A host and a source that tell nothing but how often their calls failed.
use Rattle.std.specs.Prelude.{◌≡◌, ℕ, true, false, [], None}
use Rattle.std.proofs.lemmas.Bool.{false≢true}
use Rattle.kishu_host.specs.Host.{State}
use Rattle.kishu_host.specs.Source.{SourceState}

abbrev pub silent_host : ℕ → ℕ → State
silent_host disk out = record {
  tells = false;
  file = [];
  out = [];
  moment = 0;
  reads = None;
  disk_faults = disk;
  out_faults = out;
  may_leave = λ _. Unit {0};
  left_since = λ _ _ _. Unit {0};
}

abbrev pub silent_source : ℕ → SourceState
silent_source faults = record { tells = false; left = []; in_faults = faults }

pub not_told : false ≡ true → ⊥
not_told = false≢true
