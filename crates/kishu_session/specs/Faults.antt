-- Which faults a host's calls had.
use Rattle.kishu_host.specs.Host.{State, Rises}

-- A call of the disk failed meanwhile.
abbrev pub DiskFailed : (s t : State) → Type 0
DiskFailed s t = Rises s.disk_faults t.disk_faults
