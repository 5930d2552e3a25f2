-- The nodes that are being shown, as a list.
use Rattle.std.specs.Prelude.{ℕ, List, [], ◌∷◌}
use Rattle.kishu_show.specs.declared.around.Around.{Around}
use Rattle.kishu_show.specs.declared.around.Around.TheOpen.{Around-F}
use Rattle.kishu_show.specs.declared.around.Around.TheFolds.{fold-Around}

abbrev pub around_step : Around-F (List ℕ) → List ℕ
around_step Around-F.Nothing = []
around_step (Around-F.Inside id outer) = id ∷ outer.now

-- the innermost first
abbrev pub around_of : Around → List ℕ
around_of = fold-Around (List ℕ) around_step
