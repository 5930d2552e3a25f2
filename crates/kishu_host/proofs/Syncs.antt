-- A sync as a call of a host.
use Rattle.std.proofs.Common.{◌≡◌, inl, inr, ⊎_elim, ℕ, List, true, refl, sym, subst, arith}
use Rattle.kishu_host.specs.Host.{Keeps, Elapses, Now}
use Rattle.kishu_host.specs.Story.{Story, Synced, with_event, MayLeave, is_valid}
use Rattle.kishu_host.specs.Memory.{state_of}
use Rattle.kishu_host.specs.Laws.{valid-reads_now}

module _ (s : Story) (valid : is_valid s.first s.events ≡ true) (reads disk out reads' disk' out' : ℕ) where
  now : (c : List ℕ) → c ≡ (state_of s reads disk out).file → MayLeave s.first s.events c
  now c is = subst (MayLeave s.first s.events) (sym is) (valid-reads_now s.first s.events valid)

  pub sync-keeps : Keeps (state_of s reads disk out) (state_of (with_event Synced s) reads' disk' out')
  sync-keeps = record { file = refl; out = refl; crash = now }

  pub sync-elapses : Elapses (state_of s reads disk out) (state_of (with_event Synced s) reads' disk' out') (Now (state_of s reads disk out))
  sync-elapses = record {
    tells = refl;
    later = omega arith;
    nothing_else = λ t c o le left. ⊎_elim (λ h. inr (now c h.0, h.1)) (λ h. ⊎_elim (λ none. absurd none) (λ before. inl before) h.1) left;
    keeps = λ t c o le left. inr (le, inr left);
  }
