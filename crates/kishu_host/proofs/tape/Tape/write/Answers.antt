use Rattle.std.proofs.Common.{[], List, ◌≡◌, ◌∷◌, ◌∙◌, ap, arith}
use Rattle.kishu_host.specs.Story.{Event, Story, Wrote, with_event}
use Rattle.kishu_host.specs.Tape.{history}
use Rattle.kishu_host.proofs.History.{tape-write, history-write}
use Rattle.kishu_host.proofs.tape.Tape.write.Goals as goal

pub invariant_of-self : goal.invariant_of-self
invariant_of-self c = (
  rw (c.add_entry.ensures.items, c.add_bytes.ensures.items, c.put_over.ensures.items) (tape-write _ _ _ _ _ c.self.invariant.0 c.args.at c.args.bytes.now),
  record { used = omega arith; memory = omega arith },
  c.self.invariant.2,
  record { used = omega arith; memory = omega arith },
  record { used = omega arith; memory = omega arith },
)

pub returns-clause-yes : goal.returns-clause-yes
returns-clause-yes c _ =
    let s = c.self.inside in
    let story : List Event → Story = λ es. record { first = s.first.items; events = es; room = s.room } in
    let e : history c.add_entry.new.to.items c.add_bytes.new.to.items s.out.items [] ≡ Wrote c.args.at c.args.bytes.now ∷ history s.entries.items s.written.items s.out.items [] =
    rw (c.add_entry.ensures.items, c.add_bytes.ensures.items) (history-write s.entries.items s.written.items s.out.items [] c.args.at c.args.bytes.now c.self.invariant.0.writes) in
    ap story e ∙ ap (with_event (Wrote c.args.at c.args.bytes.now)) c.self.view_is
