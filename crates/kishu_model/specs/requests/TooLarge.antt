-- When cells leave more than a commit may keep, and how that is told.
use Rattle.std.specs.Prelude.{ℕ, ◌-◌, ◌^◌, min, nat_lt, Bool, if◌then◌else◌}
use Rattle.kishu_meaning.specs.values.Values.{State}
use Rattle.kishu_store.specs.Graph.{Graph}
use Rattle.kishu_objects.specs.Sizes.{size, most_bytes}
use Rattle.kishu_model.specs.Answers.{Refusal, state_too_large}
use Rattle.kishu_model.specs.Request.{Stepped, refused_with}

-- The pictures of the state's groups have too many bytes together.
abbrev pub is_too_large : State → Bool
is_too_large s = nat_lt most_bytes (size s)

-- the most bytes that an answer tells, by which more are told, too
abbrev pub most_told : ℕ
most_told = 2 ^ 64 - 1

abbrev pub too_large : State → Refusal
too_large s = state_too_large (min (size s) most_told)

-- what a step gives that leaves this state: nothing changes where it is too large
abbrev pub unless_too_large : State → Graph → Stepped → Stepped
unless_too_large s g kept = if is_too_large s then refused_with (too_large s) g else kept
