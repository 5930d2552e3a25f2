-- What holds of a result, from what holds of it besides.
use Rattle.std.proofs.Common.{Result, Ok, Err, OnOk}
use Rattle.std.specs.Prelude.{IfOk}

pub gives : {T E : Type 0} (r : Result T E) (P R : T → Type 0) → IfOk r P → ((x : T) → P x → R x) → IfOk r R
gives (Ok x) P R p f = f x p
gives (Err e) P R p f = tt

pub always : {T E : Type 0} (r : Result T E) (Q : Type 0) → Q → OnOk r Q
always (Ok x) Q q = q
always (Err e) Q q = tt

-- from two facts
pub gives-both : {T E : Type 0} (r : Result T E) (P R : T → Type 0) (Q : Type 0) → IfOk r P → OnOk r Q → ((x : T) → P x → Q → R x) → IfOk r R
gives-both (Ok x) P R Q p q f = f x p q
gives-both (Err e) P R Q p q f = tt

pub both-ok : {T E P Q R : Type 0} (r : Result T E) → (P → Q → R) → OnOk r P → OnOk r Q → OnOk r R
both-ok (Ok x) f p q = f p q
both-ok (Err e) f p q = tt
