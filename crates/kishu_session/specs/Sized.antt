-- When a state is refused for the bytes that it takes.
use Rattle.std.specs.Prelude.{ℕ, nat_lt, min, if◌then◌else◌, Option, Some, None}
use Rattle.kishu_objects.specs.Sizes.{most_bytes}
use Rattle.kishu_model.specs.Answers.{Refusal, state_too_large}
use Rattle.kishu_model.specs.requests.TooLarge.{most_told}

-- the refusal of a state that takes so many, where they are too many
abbrev pub size_refused : ℕ → Option Refusal
size_refused bytes = if nat_lt most_bytes bytes then Some (state_too_large (min bytes most_told)) else None
