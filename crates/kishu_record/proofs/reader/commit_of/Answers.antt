use Rattle.std.proofs.Common.{◌≡◌, ◌++◌, ◌∷◌, ◌∙◌, [], length, Ok, ap, sym, arith, length-append, eqb-true}
use Rattle.std.proofs.lemmas.List.{length-map}
use Rattle.std.specs.Rc.{rc_str_bytes}
use Rattle.kishu_bytes.specs.Numbers.{four, profile_number}
use Rattle.kishu_store.specs.EntryBytes.{text_bytes, many, group_bytes, stored_bytes}
use Rattle.kishu_store.specs.Groups.{AreGroups, AreStored}
use Rattle.kishu_store.specs.Rules.{AreCells}
use Rattle.kishu_record.specs.Entries.{texts_of, groups_of, all_stored_of}
use Rattle.kishu_record.proofs.Heads.{commit_head, commit_found, behind_parent, lists_is, cells_are, dropped_are, nothing_left, lists_bytes}
use Rattle.kishu_record.proofs.reader.commit_of.Goals as goal

pub returns-in_default-clause-none : goal.returns-in_default-clause-none
returns-in_default-clause-none c same e k is =
    let h = commit_head c.args.rest.now e k is in
    omega (arith, c.number.ensures.none c.in_default.is, ap length h.is, length-append (four h.p) (profile_number h.f ∷ lists_bytes h.cs h.ds h.ss))

pub returns-in_default-profile-clause-none : goal.returns-in_default-profile-clause-none
returns-in_default-profile-clause-none c same e k is =
    let h = commit_head c.args.rest.now e k is in
    let e1 : c.args.rest.now ≡ four c.in-Some.parent ++ c.number.new.self.rest.now = c.in-Some.ensures.found in
    c.profile.ensures.none c.in_default-profile.is (lists_bytes h.cs h.ds h.ss) (behind_parent c.args.rest.now c.number.new.self.rest.now c.in-Some.parent h (omega arith) e1)

pub returns-in_default-2-clause-none : goal.returns-in_default-2-clause-none
returns-in_default-2-clause-none c same e k is =
    let h = commit_head c.args.rest.now e k is in
    let x = c.number.new.self.rest.now in
    let y = c.profile.new.cursor.rest.now in
    let n = c.in-Some.parent in
    let f = c.in-Some-profile.profile in
    let short = c.requires in
    let e1 : c.args.rest.now ≡ four n ++ x = c.in-Some.ensures.found in
    let e2 : x ≡ profile_number f ∷ y = c.in-Some-profile.ensures.found in
    c.in_ok-cells.ensures.none (ap (λ o. Ok o) c.in_default-2.is) (record { item = h.cs; rest = many group_bytes h.ds ++ many stored_bytes h.ss; is_fit = h.keeps.cells; is = lists_is c.args.rest.now x y n f short (omega arith) e1 e2 h })

pub returns-then-is_empty-clause-none : goal.returns-then-is_empty-clause-none
returns-then-is_empty-clause-none c same e k is =
    let h = commit_head c.args.rest.now e k is in
    let x = c.number.new.self.rest.now in
    let y = c.profile.new.cursor.rest.now in
    let n = c.in-Some.parent in
    let f = c.in-Some-profile.profile in
    let short = c.requires in
    let e1 : c.args.rest.now ≡ four n ++ x = c.in-Some.ensures.found in
    let e2 : x ≡ profile_number f ∷ y = c.in-Some-profile.ensures.found in
    let cells = texts_of c.in-Some-2.cells in
    let z = c.texts.new.self.rest.now in
    let e3 : y ≡ many text_bytes cells ++ z = rw c.in-Some-2.is at c.in_ok-cells.ensures.found in
    let fc : AreCells cells = rw c.in-Some-2.is at c.in_ok-cells.ensures.fit in
    let one : cells ≡ h.cs = (cells_are c.args.rest.now x y n f short (omega arith) e1 e2 h cells z fc e3).0 in
    let none : c.in-Some-2.cells.len ≡ 0 = eqb-true c.in-Some-2.cells.len 0 (sym c.is_empty.ensures ∙ c.if-is_empty.true) in
    absurd (omega (arith, none, c.in-Some-2.cells.ok.0, ap length one, length-map c.in-Some-2.cells.items rc_str_bytes, h.keeps.some))

pub returns-in_default-3-clause-none : goal.returns-in_default-3-clause-none
returns-in_default-3-clause-none c same e k is =
    let h = commit_head c.args.rest.now e k is in
    let x = c.number.new.self.rest.now in
    let y = c.profile.new.cursor.rest.now in
    let n = c.in-Some.parent in
    let f = c.in-Some-profile.profile in
    let short = c.requires in
    let e1 : c.args.rest.now ≡ four n ++ x = c.in-Some.ensures.found in
    let e2 : x ≡ profile_number f ∷ y = c.in-Some-profile.ensures.found in
    let cells = texts_of c.in-Some-2.cells in
    let z = c.texts.new.self.rest.now in
    let e3 : y ≡ many text_bytes cells ++ z = rw c.in-Some-2.is at c.in_ok-cells.ensures.found in
    let fc : AreCells cells = rw c.in-Some-2.is at c.in_ok-cells.ensures.fit in
    c.in_ok-dropped.ensures.none (ap (λ o. Ok o) c.in_default-3.is) (record { item = h.ds; rest = many stored_bytes h.ss; is_fit = h.keeps.dropped; is = (cells_are c.args.rest.now x y n f short (omega arith) e1 e2 h cells z fc e3).1 })

pub returns-in_default-4-clause-none : goal.returns-in_default-4-clause-none
returns-in_default-4-clause-none c same e k is =
    let h = commit_head c.args.rest.now e k is in
    let x = c.number.new.self.rest.now in
    let y = c.profile.new.cursor.rest.now in
    let n = c.in-Some.parent in
    let f = c.in-Some-profile.profile in
    let short = c.requires in
    let e1 : c.args.rest.now ≡ four n ++ x = c.in-Some.ensures.found in
    let e2 : x ≡ profile_number f ∷ y = c.in-Some-profile.ensures.found in
    let cells = texts_of c.in-Some-2.cells in
    let z = c.texts.new.self.rest.now in
    let e3 : y ≡ many text_bytes cells ++ z = rw c.in-Some-2.is at c.in_ok-cells.ensures.found in
    let fc : AreCells cells = rw c.in-Some-2.is at c.in_ok-cells.ensures.fit in
    let dropped = groups_of c.in-Some-3.dropped in
    let v = c.dropped.new.self.rest.now in
    let e4 : z ≡ many group_bytes dropped ++ v = rw c.in-Some-3.is at c.in_ok-dropped.ensures.found in
    let fd : AreGroups dropped = rw c.in-Some-3.is at c.in_ok-dropped.ensures.fit in
    c.in_ok-stored.ensures.none (ap (λ o. Ok o) c.in_default-4.is) (record { item = h.ss; rest = []; is_fit = h.keeps.stored; is = dropped_are c.args.rest.now x y n f short (omega arith) e1 e2 h cells z fc e3 dropped v fd e4 })

pub returns-then-not-is_at_end-clause-none : goal.returns-then-not-is_at_end-clause-none
returns-then-not-is_at_end-clause-none c same e k is =
    let h = commit_head c.args.rest.now e k is in
    let x = c.number.new.self.rest.now in
    let y = c.profile.new.cursor.rest.now in
    let n = c.in-Some.parent in
    let f = c.in-Some-profile.profile in
    let short = c.requires in
    let e1 : c.args.rest.now ≡ four n ++ x = c.in-Some.ensures.found in
    let e2 : x ≡ profile_number f ∷ y = c.in-Some-profile.ensures.found in
    let cells = texts_of c.in-Some-2.cells in
    let z = c.texts.new.self.rest.now in
    let e3 : y ≡ many text_bytes cells ++ z = rw c.in-Some-2.is at c.in_ok-cells.ensures.found in
    let fc : AreCells cells = rw c.in-Some-2.is at c.in_ok-cells.ensures.fit in
    let dropped = groups_of c.in-Some-3.dropped in
    let v = c.dropped.new.self.rest.now in
    let e4 : z ≡ many group_bytes dropped ++ v = rw c.in-Some-3.is at c.in_ok-dropped.ensures.found in
    let fd : AreGroups dropped = rw c.in-Some-3.is at c.in_ok-dropped.ensures.fit in
    let stored = all_stored_of c.in-Some-4.stored in
    let u = c.stored.new.self.rest.now in
    let e5 : v ≡ many stored_bytes stored ++ u = rw c.in-Some-4.is at c.in_ok-stored.ensures.found in
    let fs : AreStored stored = rw c.in-Some-4.is at c.in_ok-stored.ensures.fit in
    c.is_at_end.ensures.no c.if-not-is_at_end.true (nothing_left c.args.rest.now x y n f short (omega arith) e1 e2 h cells z fc e3 dropped v fd e4 stored u fs e5)

pub returns-clause-found : goal.returns-clause-found
returns-clause-found c =
    let x = c.number.new.self.rest.now in
    let y = c.profile.new.cursor.rest.now in
    let n = c.in-Some.parent in
    let f = c.in-Some-profile.profile in
    let e1 : c.args.rest.now ≡ four n ++ x = c.in-Some.ensures.found in
    let e2 : x ≡ profile_number f ∷ y = c.in-Some-profile.ensures.found in
    let cells = texts_of c.in-Some-2.cells in
    let z = c.texts.new.self.rest.now in
    let e3 : y ≡ many text_bytes cells ++ z = rw c.in-Some-2.is at c.in_ok-cells.ensures.found in
    let dropped = groups_of c.in-Some-3.dropped in
    let v = c.dropped.new.self.rest.now in
    let e4 : z ≡ many group_bytes dropped ++ v = rw c.in-Some-3.is at c.in_ok-dropped.ensures.found in
    let stored = all_stored_of c.in-Some-4.stored in
    let u = c.stored.new.self.rest.now in
    let e5 : v ≡ many stored_bytes stored ++ u = rw c.in-Some-4.is at c.in_ok-stored.ensures.found in
    commit_found c.args.rest.now x y z v u n f cells dropped stored e1 e2 e3 e4 e5 (c.is_at_end.ensures.yes c.if-not-is_at_end.false)
