-- The text of an exception leads from good moments to good ones.
use Rattle.std.specs.Prelude.{ℕ}
use Rattle.kishu_meaning.specs.comparing.Show.{show_thrown, thrown_in, show_in}
use Rattle.kishu_meaning.specs.moments.Moment.{Thrown, fresh, thrown_object}
use Rattle.kishu_meaning.specs.values.Values.{node}
use Rattle.kishu_soundness_laws.specs.Below.{Any}
use Rattle.kishu_soundness_laws.specs.moments.Steps.{IsSafe, counted_safe}

pub show_thrown_safe : {k : ℕ} (x : Thrown) → IsSafe k Any (show_thrown x)
show_thrown_safe (fresh kind vs) = counted_safe (λ s. thrown_in s.nodes s.depth kind vs)
show_thrown_safe (thrown_object i) = counted_safe (λ s. show_in s.nodes s.depth (node i))
