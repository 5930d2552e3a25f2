-- States that are the same have the same groups and pictures, and the same groups change from them and to them.
use Rattle.std.specs.Prelude.{◌≡◌, not, ◌&&◌, ⊤, filter, Contains}
use Rattle.std.proofs.Common.{ap, sym, ◌∙◌}
use Rattle.kishu_meaning.specs.values.Values.{State}
use Rattle.kishu_objects.specs.Same.{Same}
use Rattle.kishu_objects.specs.Picture.{picture, listed}
use Rattle.kishu_objects.specs.Groups.{groups, groups_of}
use Rattle.kishu_objects_laws.specs.SameLaws.{same_picture, same_fewer}
use Rattle.kishu_objects_laws.specs.WholeLaws.{same_whole, listed_whole}
use Rattle.kishu_objects_laws.specs.GroupLaws.{groups_same}
use Rattle.kishu_history.specs.Alike.{is_state}
use Rattle.kishu_history.specs.Changed.{Group, is_one_of, stands, changed}
use Rattle.kishu_objects.specs.States.{IsSoundState}
use Rattle.kishu_history_laws.specs.Choices.{filter_same}

module _ (s t : State) (here : IsSoundState s) (there : IsSoundState t) (same : Same s t) where
  pub same_listed : listed s ≡ listed t
  same_listed = sym (listed_whole s) ∙ ap listed (same_whole s t here.sound there.sound here.rise there.rise same) ∙ listed_whole t

  pub same_groups : groups_of s ≡ groups_of t
  same_groups = groups_same s t here.sound there.sound (listed s) (same_fewer (λ x. Contains (listed s) x) (λ x. ⊤) s t (λ x m. tt) same) ∙ ap (groups t) same_listed

  pub same_pictures : (g : Group) → picture s g ≡ picture t g
  same_pictures g = same_picture s t here.sound there.sound g (same_fewer (λ x. Contains g x) (λ x. ⊤) s t (λ x m. tt) same)

-- What changed between two states changed between states that are the same.
pub same_changed : (s u t v : State) → IsSoundState s → IsSoundState u → IsSoundState t → IsSoundState v → Same s t → Same u v → changed s u ≡ changed t v
same_changed s u t v a a' b b' h h' =
    filter_same (λ g. not (stands g (picture s g) u)) (λ g. not (stands g (picture t g) v)) (groups_of s) (λ g m.
    ap (λ p. not (stands g p u)) (same_pictures s t a b h g) ∙ ap not (stands_same g (picture t g)))
    ∙ ap (filter (λ g. not (stands g (picture t g) v))) (same_groups s t a b h)
  where
    stands_same : (g : Group) (p : State) → stands g p u ≡ stands g p v
    stands_same g p = ap (λ gs. is_one_of g gs && is_state (picture u g) p) (same_groups u v a' b' h') ∙ ap (λ q. is_one_of g (groups_of v) && is_state q p) (same_pictures u v a' b' h' g)
