-- A text that is made from nothing.
use Rattle.std.proofs.Common.{◌≡◌, ◌∙◌, ap, sym, subst, refl, ℕ, List, [], ◌∷◌, ◌++◌, Result, Err, Bor}
use Rattle.std.specs.Str.{chars}
use Rattle.std.specs.String.{string_bytes}
use Rattle.std.specs.declared.alloc.Global.{Global}
use Rattle.std.specs.declared.string.String.{String}
use Rattle.kishu_meaning.specs.moments.Counting.{Counted, Count, answer, too_deep, spent, and_then, give}
use Rattle.kishu_meaning.specs.comparing.Equal.{room_at}
use Rattle.kishu_meaning.specs.comparing.Show.{repr_by, repr_in, repr_nodes, show_by, show_in, show_nodes}
use Rattle.kishu_meaning.specs.values.Values.{Value, Node}
use Rattle.kishu_show.specs.declared.around.Around.{Around}
use Rattle.kishu_show.specs.declared.around.Around.TheVariants as v
use Rattle.kishu_show.specs.declared.around.Around.TheOpen.{Around-F}
use Rattle.kishu_show.specs.declared.around.Around.TheFolds.{fold-roll-Around}
use Rattle.kishu_show.specs.declared.draft.Draft.{Draft}
use Rattle.kishu_show.specs.declared.fault.ShowFault.{ShowFault}
use Rattle.kishu_show.specs.declared.fault.ShowFault.TheVariants as faults
use Rattle.kishu_show.specs.Shown.{Gives, Makes, onto, text_of}
use Rattle.kishu_show.specs.Stack.{around_of, around_step}

pub nothing_around : around_of v.Nothing ≡ []
nothing_around = ap around_of (sym v.rolls-Nothing) ∙ fold-roll-Around (List ℕ) around_step Around-F.Nothing

pub inside_around : (id : ℕ) (outer : Bor Around) → around_of (v.Inside id outer) ≡ id ∷ around_of outer.now
inside_around id outer = ap around_of (sym (v.rolls-Inside id outer)) ∙ fold-roll-Around (List ℕ) around_step (Around-F.Inside id outer)

from_nothing : (x : Counted (List ℕ)) → and_then x (λ back. give ([] ++ back)) ≡ x
from_nothing (answer k n) = refl
from_nothing (too_deep n) = refl
from_nothing (spent n) = refl

pub finished : (r : Result (Unit {0}) ShowFault) (d e : Draft) (m : Count (List ℕ)) → text_of d ≡ [] → Makes r e (onto d m) → Makes r e (m d.left)
finished r d e m h g =
    subst (λ x. Makes r e x) (from_nothing (m d.left)) (subst (λ t. Makes r e (and_then (m d.left) (λ back. give (t ++ back)))) h g)

-- A fault tells the same of a text and of the text in the making.
pub fault_told : (f : ShowFault) (d : Draft) (e : Counted (List ℕ)) → Makes (Err f) d e → Gives {A = String Global} (λ s. chars (string_bytes s)) (Err f) d.left e
fault_told faults.Depth d e h = h
fault_told faults.Spent d e h = h
fault_told faults.NoMemory d e h = tt

module _ (ns : List Node) (value : Value) (r : Result (Unit {0}) ShowFault) (d e : Draft) (room depth left : ℕ) (empty : text_of d ≡ []) (full : d.left ≡ left) (deep : room ≡ room_at depth) where
  pub repr_whole : Makes r e (onto d (repr_by (repr_nodes ns room (around_of v.Nothing)) value)) → Makes r e (repr_in ns depth value left)
  repr_whole g =
      let g0 = subst (λ a. Makes r e (onto d (repr_by (repr_nodes ns room a) value))) nothing_around g in
      let g1 = subst (λ n. Makes r e (onto d (repr_by (repr_nodes ns n []) value))) deep g0 in
      subst (λ n. Makes r e (repr_in ns depth value n)) full (finished r d e (repr_by (repr_nodes ns (room_at depth) []) value) empty g1)

  pub show_whole : Makes r e (onto d (show_by (show_nodes ns room) value)) → Makes r e (show_in ns depth value left)
  show_whole g =
      let g1 = subst (λ n. Makes r e (onto d (show_by (show_nodes ns n) value))) deep g in
      subst (λ n. Makes r e (show_in ns depth value n)) full (finished r d e (show_by (show_nodes ns (room_at depth)) value) empty g1)
