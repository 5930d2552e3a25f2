-- Parameters and handlers in their order, with what stood just before.
use Rattle.std.proofs.Common.{◌≡◌, Bool, true, false, List, [], ◌∷◌, map, Option, Some, None, refl, ap}
use Rattle.std.specs.Prelude.{not, ◌&&◌, is_none, is_some}
use Rattle.std.specs.declared.alloc.Global.{Global}
use Rattle.std.specs.declared.rc.RcStr.{RcStr}
use Rattle.kishu_language.specs.declared.tree.Expr.{Expr}
use Rattle.kishu_language.specs.trees.Tree.{Handler, parameter_of}
use Rattle.kishu_language.specs.grammar.Refusals.{defaults_last, handlers_fit}

-- whether the one before has a default
abbrev pub after_default : Bool → List (RcStr Global × Option Expr) → Bool
after_default given [] = true
after_default given (p ∷ ps) = not (given && is_none p.1) && after_default (is_some p.1) ps

pub defaults_after : (ps : List (RcStr Global × Option Expr)) → defaults_last (map parameter_of ps) ≡ after_default false ps
defaults_after [] = refl
defaults_after ((x, None) ∷ ps) = defaults_after ps
defaults_after ((x, Some e) ∷ []) = refl
defaults_after ((x, Some e) ∷ (y, None) ∷ ps) = refl
defaults_after ((x, Some e) ∷ (y, Some f) ∷ ps) = defaults_after ((y, Some f) ∷ ps)

-- whether the one before has no class
abbrev pub after_open : Bool → List Handler → Bool
after_open open' [] = true
after_open open' (h ∷ hs) = not open' && after_open (is_none h.class) hs

pub handlers_after : (hs : List Handler) → handlers_fit hs ≡ after_open false hs
handlers_after [] = refl
handlers_after (h ∷ []) = refl
handlers_after (h ∷ k ∷ hs) = ap (λ b. not (is_none h.class) && b) (handlers_after (k ∷ hs))
