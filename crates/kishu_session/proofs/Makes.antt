-- How many nodes requests make on the live state of an attached session: no more than one step of the machine that replays.
use Rattle.std.proofs.Common.{◌≡◌, ◌≤◌, ◌+◌, ⊎_elim, ℕ, List, length, ◌∙◌, ap, sym, subst, arith}
use Rattle.std.specs.List.{AllZip}
use Rattle.kishu_host.specs.Host as host
use Rattle.kishu_meaning.specs.values.Values as values
use Rattle.kishu_objects_laws.specs.SameLaws.{same_joined, same_turned}
use Rattle.kishu_replay.specs.Replay.{replay}
use Rattle.kishu_store.specs.Graph.{Graph, newest}
use Rattle.kishu_store.specs.Holds.{Holds}
use Rattle.kishu_store.specs.Tables.{Change, change_of, table_at}
use Rattle.kishu_store_laws.specs.Laws.{one_changes}
use Rattle.kishu_history.specs.Checkout.{to_drop}
use Rattle.kishu_history.specs.Good as good
use Rattle.kishu_history.specs.Good.{IsGoodFileOf}
use Rattle.kishu_history.specs.Live.{IsPictureOf}
use Rattle.kishu_history.specs.Paths.{AreRows}
use Rattle.kishu_history.specs.Stored.{Held}
use Rattle.kishu_history_laws.specs.stores.BackLaws.{attached_same}
use Rattle.kishu_session_laws.specs.CellLaws.{replays_are_states}
use Rattle.kishu_live_laws.specs.Anew.{anew_few}
use Rattle.kishu_live_laws.specs.Made.{made_by}
use Rattle.kishu_live_laws.specs.NextMakes.{carried_makes, on_makes}
use Rattle.kishu_live_laws.specs.AtHead.{after_here}
use Rattle.kishu_live_laws.specs.OnStates.{after_on, head_rows}
use Rattle.kishu_model.specs.Request.{Request}
use Rattle.kishu_session.specs.Attached.{IsAttached}
use Rattle.kishu_session.specs.Becoming.{IsCarriedAfter, IsHeadCarried, IsHeadLoaded, IsLeftBy, IsLoadedAfter, IsNextState}
use Rattle.kishu_session.specs.Ends.{at-end-history}
use Rattle.kishu_session.specs.Lives.{state_of}
use Rattle.kishu_session.specs.Renewing.{Starts}
use Rattle.kishu_session.specs.declared.session.Session.{Session}
use Rattle.kishu_session.proofs.AttachFacts.{good-rows}

module _ (old : Session) (s : host.State) (q : Request) (g : Graph) (a : IsAttached old s g) (v : values.State) where
  abbrev of : ℕ → Change
  of = change_of a.changes

  abbrev u : values.State
  u = state_of old.head.live

  abbrev is-good : IsGoodFileOf s.file g
  is-good = (let i = at-end-history old s g a.at_end in record { changes = a.changes; holds = subst (λ (x : Graph). Holds s.file x) i.graph i.holds; gives = a.gives; store = a.states.good })

  rows : AreRows of
  rows = good-rows s.file g is-good

  abbrev Few : Type 0
  Few = length v.nodes ≤ length u.nodes + made_by g q

  nodes-of : (x : values.State) → v ≡ x → length v.nodes ≡ length x.nodes
  nodes-of x e = ap (λ (y : values.State). length y.nodes) e

  left-few : IsLeftBy of g u q v → Few
  left-few k = omega (arith, k.few, on_makes s.file of u g rows a.states q)

  -- A state that is the same is one of an attached session too.
  starts-attached : (x : values.State) → Starts u x → good.IsAttached s.file g of x
  starts-attached x starts =
      attached_same s.file g of rows (replays_are_states g) a.states.head x starts.sound (same_joined _ x u (replay g g.head.commit) (same_turned _ u x starts.same) a.states.same) a.states.good

  carried-few : IsCarriedAfter s.file of g u q v → Few
  carried-few k =
      let x = k.start in
      let there = starts-attached x k.starts in
      let alike : after_on of u g q ≡ after_on of x g q = after_here s.file of u g rows a.states q ∙ sym (after_here s.file of x g rows there q) in
      let from = subst (λ (now : Graph). IsHeadCarried s.file of g now x v) alike k.carried in
      let none = subst (λ (now : Graph). newest now ≤ newest g) alike k.none in
      omega (arith, nodes-of _ from.is, carried_makes s.file of x g rows there q none from.pictures from.each (to_drop (head_rows of g) (head_rows of (after_on of x g q))), k.starts.few)

  anew-few : IsHeadLoaded s.file g v → Few
  anew-few k =
      let same : k.changes ≡ a.changes = one_changes s.file k.changes a.changes k.gives a.gives in
      let zip = subst (λ (cs : List Change). AllZip (IsPictureOf (Held s.file)) (table_at g (change_of cs) g.head.commit) k.loaded.pictures) same k.loaded.each in
      omega (arith, nodes-of _ k.loaded.is, anew_few s.file of u g rows a.states k.loaded.pictures zip)

  pub makes-few : IsNextState s.file of g u q v → Few
  makes-few =
      ⊎_elim left-few (⊎_elim carried-few (λ (k : IsLoadedAfter s.file of g u q v). anew-few k.1))
