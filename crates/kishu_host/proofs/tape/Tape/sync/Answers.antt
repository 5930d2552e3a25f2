use Rattle.std.proofs.Common.{[], List, ◌≡◌, ◌∷◌, ◌∙◌, ap, arith}
use Rattle.kishu_host.specs.Story.{Event, Story, Synced, with_event}
use Rattle.kishu_host.specs.Tape.{history}
use Rattle.kishu_host.proofs.History.{tape-sync, history-sync}
use Rattle.kishu_host.proofs.tape.Tape.sync.Goals as goal

pub invariant_of-self : goal.invariant_of-self
invariant_of-self c = (
  rw c.add_entry.ensures.items (tape-sync _ _ _ _ _ c.self.invariant.0),
  c.self.invariant.1,
  c.self.invariant.2,
  c.self.invariant.3,
  record { used = omega arith; memory = omega arith },
)

pub returns-clause-yes : goal.returns-clause-yes
returns-clause-yes c _ =
    let s = c.self.inside in
    let story : List Event → Story = λ es. record { first = s.first.items; events = es; room = s.room } in
    let e : history c.add_entry.new.to.items s.written.items s.out.items [] ≡ Synced ∷ history s.entries.items s.written.items s.out.items [] =
    rw c.add_entry.ensures.items (history-sync s.entries.items s.written.items s.out.items []) in
    ap story e ∙ ap (with_event Synced) c.self.view_is
