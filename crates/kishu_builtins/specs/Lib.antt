pub mod Called
pub mod Answered
pub mod Walking
pub mod Extremes
pub mod CallLaws
pub mod SoundCalls
