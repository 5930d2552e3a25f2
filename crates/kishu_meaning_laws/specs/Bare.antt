-- What depends on the nodes, the steps that are left and the depth alone, and leaves the rest of a moment as it is.
use Rattle.std.specs.Prelude.{◌≡◌, ℕ, List, [], None}
use Rattle.kishu_language.specs.declared.profile.Profile.TheVariants.{One}
use Rattle.kishu_meaning.specs.values.Values.{Node}
use Rattle.kishu_meaning.specs.moments.Moment.{Moment, Ends, fine, raised, stopped, M}

-- a moment that has nothing else
abbrev pub bare : List Node → ℕ → ℕ → Moment
bare nodes left depth = record {
  profile = One;
  names = [];
  nodes = nodes;
  accessed = [];
  locals = None;
  handled = None;
  left = left;
  depth = depth;
  out = [];
}

-- the same moment, with the nodes and the steps of another
abbrev pub changed_to : Moment → Moment → Moment
changed_to s t = record s { nodes = t.nodes; left = t.left }

abbrev pub over : {A : Type 0} → Moment → Ends A → Ends A
over s (fine a t) = fine a (changed_to s t)
over s (raised x t) = raised x (changed_to s t)
over s (stopped t) = stopped (changed_to s t)

-- It ends as at the moment that has nothing else, and the rest stays.
pub record IsBare {A : Type 0} (m : M A) : Type 0 where
  pub ends : (s : Moment) → m s ≡ over s (m (bare s.nodes s.left s.depth))
