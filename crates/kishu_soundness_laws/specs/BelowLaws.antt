-- What is below a number is below a greater one, and parts of what is below it are.
use Rattle.std.specs.Prelude.{ℕ, zero, suc, ◌≤◌, List, [], ◌∷◌, ◌++◌, map, slice_get, Option, Some, None}
use Rattle.std.proofs.Common.{arith}
use Rattle.kishu_meaning.specs.moments.Moment.{Thrown, fresh, thrown_object}
use Rattle.kishu_meaning.specs.values.Values.{Value, node, Node}
use Rattle.kishu_objects.specs.Shape.{children}
use Rattle.kishu_soundness_laws.specs.Below.{Each, Maybe, Below, AllBelow, NodeBelow, ThrownBelow}

pub below_later : (k l : ℕ) → k ≤ l → (v : Value) → Below k v → Below l v
below_later k l h (node i) p = omega (arith, h, p)
below_later k l h v p = tt

pub each_later : {A : Type 0} (P Q : A → Type 0) → ((a : A) → P a → Q a) → (as' : List A) → Each P as' → Each Q as'
each_later P Q h [] p = tt
each_later P Q h (a ∷ as') p = (h a p.0, each_later P Q h as' p.1)

pub each_map : {A B : Type 0} (P : B → Type 0) (f : A → B) → ((a : A) → P (f a)) → (as' : List A) → Each P (map f as')
each_map P f h [] = tt
each_map P f h (a ∷ as') = (h a, each_map P f h as')

pub all_later : (k l : ℕ) → k ≤ l → (vs : List Value) → AllBelow k vs → AllBelow l vs
all_later k l h = each_later (Below k) (Below l) (below_later k l h)

pub node_later : (k l : ℕ) → k ≤ l → (n : Node) → NodeBelow k n → NodeBelow l n
node_later k l h n p = all_later k l h (children n) p

pub maybe_later : {A : Type 0} (P Q : A → Type 0) → ((a : A) → P a → Q a) → (o : Option A) → Maybe P o → Maybe Q o
maybe_later P Q h None p = tt
maybe_later P Q h (Some a) p = h a p

pub thrown_later : (k l : ℕ) → k ≤ l → (x : Thrown) → ThrownBelow k x → ThrownBelow l x
thrown_later k l h (fresh kind vs) p = all_later k l h vs p
thrown_later k l h (thrown_object i) p = omega (arith, h, p)

pub each_append : {A : Type 0} (P : A → Type 0) (as' bs : List A) → Each P as' → Each P bs → Each P (as' ++ bs)
each_append P [] bs p q = q
each_append P (a ∷ as') bs p q = (p.0, each_append P as' bs p.1 q)

pub each_get : {A : Type 0} (P : A → Type 0) (as' : List A) (i : ℕ) → Each P as' → Maybe P (slice_get as' i)
each_get P [] i p = tt
each_get P (a ∷ as') zero p = p.0
each_get P (a ∷ as') (suc i) p = each_get P as' i p.1
