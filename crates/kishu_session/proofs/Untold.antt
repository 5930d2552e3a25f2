-- What is known merely, that a table tells a state by the lengths of its pictures, or that the digests of these are kept, is so.
use Rattle.std.proofs.Common.{◌≡◌, ◌⊎◌, inl, inr, ⊎_elim, ℕ, if◌then◌else◌, List, [], ◌∷◌, length, refl, subst}
use Rattle.std.specs.List.{AllByRecursion-prop}
use Rattle.std.specs.Prelude.{Option, Some, None}
use Rattle.std.proofs.Math.Logic.{∥∥₁_elim}
use Rattle.std.proofs.Props.{props}
use Rattle.kishu_language.specs.tokens.Names.{is_among}
use Rattle.kishu_meaning.specs.values.Keys.{KeyPart, Key}
use Rattle.kishu_meaning.specs.values.Keys as keys
use Rattle.kishu_meaning.specs.values.Values.{State, Value, Node, none, bool, integer, text, range, builtin, class, node, list, tuple, dict, object, function, exception}
use Rattle.kishu_objects.specs.Bytes.{state_bytes, picture_bytes}
use Rattle.kishu_objects.specs.Fits.{ValueFits, PartFits, AllFit, KeyFits, NodeFits, StateFits}
use Rattle.kishu_objects.specs.Lists.{In, Rise}
use Rattle.kishu_objects.specs.Picture.{listed, picture}
use Rattle.kishu_objects.specs.Sound.{IsSound}
use Rattle.kishu_objects.specs.States.{IsSoundState}
use Rattle.kishu_store.specs.Histories.{History, head_table}
use Rattle.kishu_store.specs.Groups.{Group, is_one_of}
use Rattle.kishu_store.specs.Tables.{Row, Table, groups_in}
use Rattle.kishu_graph.specs.Tables.{table_of_rows}
use Rattle.kishu_delta.specs.Kept.{Digest, Digests, KeepsJust, digest_of, kept_of}
use Rattle.kishu_history.specs.Live.{IsLive}
use Rattle.kishu_history.specs.Stored.{Stored, HasLength}
use Rattle.kishu_history_laws.specs.Choices.{among_decides, told}
use Rattle.kishu_session.specs.Head.{KeepsTable}
use Rattle.kishu_session.specs.Lives.{state_of}
use Rattle.kishu_session.specs.declared.head.Head.{Head}

-- ---- facts of which there is one proof at most

sound-prop : (s : State) → IsProp (IsSound s)
sound-prop s = hlevel props

state-prop : (s : State) → IsProp (IsSoundState s)
state-prop s x y =
    let rise : IsProp (Rise (listed s)) = hlevel props in
    λ i. record { sound = sound-prop s x.sound y.sound i; rise = rise x.rise y.rise i }

pair-prop : {A B : Type 0} → IsProp A → IsProp B → IsProp (A × B)
pair-prop a b x y = λ i. (a x.0 y.0 i, b x.1 y.1 i)

fit-prop : {A : Type 0} (Fits : A → Type 0) → ((a : A) → IsProp (Fits a)) → (xs : List A) → IsProp (AllFit Fits xs)
fit-prop Fits each xs = pair-prop (hlevel props) (AllByRecursion-prop Fits each xs)

value-prop : (v : Value) → IsProp (ValueFits v)
value-prop none = hlevel props
value-prop (bool b) = hlevel props
value-prop (integer z) = hlevel props
value-prop (text cs) = hlevel props
value-prop (range start stop step) = hlevel props
value-prop (builtin n) = hlevel props
value-prop (class n) = hlevel props
value-prop (node i) = hlevel props

part-prop : (p : KeyPart) → IsProp (PartFits p)
part-prop keys.none = hlevel props
part-prop (keys.bool b) = hlevel props
part-prop (keys.integer z) = hlevel props
part-prop (keys.text cs) = hlevel props

key-prop : (k : Key) → IsProp (KeyFits k)
key-prop (keys.single p) = part-prop p
key-prop (keys.tuple ps) = fit-prop PartFits part-prop ps

node-prop : (n : Node) → IsProp (NodeFits n)
node-prop (list vs) = fit-prop ValueFits value-prop vs
node-prop (tuple vs) = fit-prop ValueFits value-prop vs
node-prop (dict es) = fit-prop (λ (e : Key × Value). KeyFits e.0 × ValueFits e.1) (λ e. pair-prop (key-prop e.0) (value-prop e.1)) es
node-prop (object as') = fit-prop (λ (a : List ℕ × Value). ValueFits a.1) (λ a. value-prop a.1) as'
node-prop (function profile code vs) = pair-prop (hlevel props) (fit-prop ValueFits value-prop vs)
node-prop (exception kind vs) = fit-prop ValueFits value-prop vs

fits-prop : (s : State) → IsProp (StateFits s)
fits-prop s = pair-prop (fit-prop (λ (b : List ℕ × Value). ValueFits b.1) (λ b. value-prop b.1) s.names) (fit-prop NodeFits node-prop s.nodes)

length-prop : (r : Row) (p : State) → IsProp (HasLength r p)
length-prop r p x y =
    let len : IsProp (length (state_bytes p) ≡ r.len) = hlevel props in
    λ i. record { len = len x.len y.len i; fits = fits-prop p x.fits y.fits i }

row-set : IsSet Row
row-set = hlevel props

-- ---- what is decided by looking

-- a name stands in a list, or not
in-or-not : (x : List ℕ) (xs : List (List ℕ)) → In x xs ⊎ (In x xs → ⊥)
in-or-not x xs = told (is_among x xs) (among_decides x xs)

-- the row of a name
abbrev HasRow : List ℕ → Table → Type 0
HasRow x t = (r : Row) × In r t × In x r.group

row-or-none : (x : List ℕ) (t : Table) → HasRow x t ⊎ (HasRow x t → ⊥)
row-or-none x [] = inr (λ k. absurd k.1)
row-or-none x (r ∷ t) =
    ⊎_elim (λ (here : In x r.group). inl (r, inl refl, here))
    (λ (away : In x r.group → ⊥).
    ⊎_elim (λ (k : HasRow x t). inl (k.0, inr k.1, k.2))
    (λ (none : HasRow x t → ⊥). inr (λ k. ⊎_elim (λ (e : k.0 ≡ r). away (subst (λ (q : Row). In x q.group) e k.2))
    (λ (m : In k.0 t). none (k.0, m, k.2)) k.1))
    (row-or-none x t))
    (in-or-not x r.group)

-- What is there merely, and is there or not, is there.
is-there : {P : Type 0} → P ⊎ (P → ⊥) → ∥ P ∥₁ → P
is-there (inl p) merely = p
is-there (inr away) merely = absurd (∥∥₁_elim merely (λ x y. absurd x) away)

-- ---- live states

pub live-there : (t : Table) (s : State) → ∥ IsLive (Stored None) t s ∥₁ → IsLive (Stored None) t s
live-there t s merely = record {
  state = ∥∥₁_elim merely (state-prop s) (λ k. k.state);
  bound = λ x. (
    λ m. is-there (row-or-none x t) (∥∥₁_elim merely squash₁ (λ k. ∣ (k.bound x).0 m ∣₁)),
    λ r. is-there (in-or-not x (listed s)) (∥∥₁_elim merely squash₁ (λ k. ∣ (k.bound x).1 r ∣₁)),
  );
  apart = λ r q x y m n a b touch. ∥∥₁_elim merely (row-set r q) (λ k. k.apart r q x y m n a b touch);
  pictures = λ r m. ∥∥₁_elim merely (length-prop r (picture s r.group)) (λ k. k.pictures r m);
}

-- ---- what is kept of a head's table

pictures-prop : (kept : Digests) (gs : List Group) (s : State) → IsProp (KeepsJust kept gs s)
pictures-prop kept gs s x y = λ i. record {
  digests = λ g. digests-set (kept_of kept g) (if is_one_of g gs then Some (digest_of (picture_bytes s g)) else None) (x.digests g) (y.digests g) i;
  fit = λ g m. fits-prop (picture s g) (x.fit g m) (y.fit g m) i;
}
  where
    digests-set : IsSet (Option Digest)
    digests-set = hlevel props

pub pictures-there : (kept : Digests) (gs : List Group) (s : State) → ∥ KeepsJust kept gs s ∥₁ → KeepsJust kept gs s
pictures-there kept gs s merely = ∥∥₁_elim merely (pictures-prop kept gs s) (λ k. k)

pub keeps-prop : (head : Head) (h : History) → IsProp (KeepsTable head h)
keeps-prop head h x y =
    let rows : IsSet Table = hlevel props in
    λ i. record {
      table = rows (table_of_rows head.table) (head_table h) x.table y.table i;
      pictures = pictures-prop head.kept (groups_in (head_table h)) (state_of head.live) x.pictures y.pictures i;
    }
