pub mod Worlds
pub mod PairedRuns
pub mod LocalRuns
pub mod SoundRuns
pub mod CellsInRow
