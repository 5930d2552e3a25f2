use Rattle.std.proofs.Common.{◌≡◌, ◌<◌, ◌∙◌, ◌∷◌, ◌++◌, [], List, ℕ, true, length, map, take, get_or, refl, ap, sym, subst, arith}
use Rattle.std.proofs.lemmas.List.{get_or-map, length-map, map_push, take_all, take_more}
use Rattle.std.specs.List.{list_all}
use Rattle.std.specs.Prelude.{not, ◌||◌}
use Rattle.std.specs.Rc.{rc_str_bytes}
use Rattle.kishu_language.specs.tokens.Names.{is_among}
use Rattle.kishu_store.specs.Groups.{Group, first_name, is_one_of, IsGroup}
use Rattle.kishu_store.specs.Tables.{Table, groups_in, names_in, bytes_in}
use Rattle.kishu_graph.specs.Kept.{texts_of}
use Rattle.kishu_graph.specs.Leaves.{IsLeft}
use Rattle.kishu_graph.specs.Walks.{all_texts}
use Rattle.kishu_graph.proofs.HeldFits.{all-false, all-of-more, each-at, fresh-at, none-gone}
use Rattle.kishu_graph.proofs.RowsLeft.{left-all}
use Rattle.kishu_graph.proofs.heads.HeadRows.leave_all.Goals as goal

pub loop-group-init : goal.loop-group-init
loop-group-init c = record {
  room = c.room_with.ensures.most;
  leaves = λ t s h. (
    refl,
    record {
      names = λ z.
          ap (λ (u : Table). is_among z (names_in u)) (left-all t)
          ∙ sym (h.names z)
          ∙ none-gone (is_among z (all_texts c.args.self.now.names.keys))
          ∙ ap (λ l. not (not (is_among z (all_texts c.args.self.now.names.keys)) || is_among z (all_texts l))) (sym c.new.ensures.empty);
      room = (let room = h.room in let same = ap bytes_in (left-all t) in let sum = c.room_with.ensures.sum (omega (arith, room)) in omega (arith, room, same, sum));
    },
  );
}

pub leave_one-requires-clause-some : goal.leave_one-requires-clause-some
leave_one-requires-clause-some c =
    let item = c.group-item.result in
    let some = (each-at IsGroup texts_of c.args.dropped.now c.loop-group.group-index item c.requires.dropped.each c.loop-group-test.true).some in
    let is = ap (λ v. length v.items) c.group-item.is in
    omega (arith, some, is, ap length c.deref.ensures.value, length-map (get_or c.args.dropped.now c.loop-group.group-index item).items rc_str_bytes)

pub returns-then-not-branch-clause-leaves : goal.returns-then-not-branch-clause-leaves
returns-then-not-branch-clause-leaves c t s h =
    let ds = map texts_of c.args.dropped.now in
    let at = c.loop-group.group-index in
    let item = c.group-item.result in
    let inside : at < length ds = omega (arith, c.loop-group-test.true, length-map c.args.dropped.now texts_of) in
    let here : map rc_str_bytes c.deref.result.now ≡ get_or ds at (texts_of item) =
    ap (map rc_str_bytes) c.deref.ensures.value ∙ ap texts_of c.group-item.is ∙ sym (get_or-map texts_of c.args.dropped.now at item (texts_of item) c.loop-group-test.true) in
    let fresh = ap (λ (d : Group). is_among (first_name d) (map first_name (take at ds))) here ∙ fresh-at ds at (texts_of item) c.requires.dropped.rise inside in
    let told = c.in_ok-leave_one.ensures.leaves t (map first_name (take at ds)) s h fresh (c.loop-group.invariant.leaves t s h).1 in
    all-false (λ d. is_one_of d (groups_in t)) ds at (texts_of item) inside (ap (λ (d : Group). is_one_of d (groups_in t)) (sym here) ∙ sym told.0 ∙ c.if-not-branch.true)

pub loop-group-preserved : goal.loop-group-preserved
loop-group-preserved c = record {
  room = c.in_ok-leave_one.ensures.room;
  leaves = λ t s h.
      let ds = map texts_of c.args.dropped.now in
      let at = c.loop-group.group-index in
      let item = c.group-item.result in
      let d = get_or ds at (texts_of item) in
      let inside : at < length ds = omega (arith, c.loop-group-test.true, length-map c.args.dropped.now texts_of) in
      let here : map rc_str_bytes c.deref.result.now ≡ d =
      ap (map rc_str_bytes) c.deref.ensures.value ∙ ap texts_of c.group-item.is ∙ sym (get_or-map texts_of c.args.dropped.now at item (texts_of item) c.loop-group-test.true) in
      let fresh = ap (λ (g : Group). is_among (first_name g) (map first_name (take at ds))) here ∙ fresh-at ds at (texts_of item) c.requires.dropped.rise inside in
      let was = c.loop-group.invariant.leaves t s h in
      let told = c.in_ok-leave_one.ensures.leaves t (map first_name (take at ds)) s h fresh was.1 in
      let more = take_more ds at (texts_of item) inside in
      let one : is_one_of d (groups_in t) ≡ true = ap (λ (g : Group). is_one_of g (groups_in t)) (sym here) ∙ sym told.0 ∙ c.if-not-branch.false in
      let ones : list_all (λ g. is_one_of g (groups_in t)) (d ∷ []) ≡ true = rw one refl in
      let all = all-of-more (λ g. is_one_of g (groups_in t)) (take at ds) (d ∷ []) was.0 ones in
      let left : IsLeft c.args.self.now (map first_name (take at ds ++ (d ∷ []))) t c.leave_one.new.left =
      subst (λ (l : List (List ℕ)). IsLeft c.args.self.now l t c.leave_one.new.left) (ap (λ (g : Group). map first_name (take at ds) ++ (first_name g ∷ [])) here ∙ sym (map_push first_name (take at ds) d)) (told.1 c.if-not-branch.false) in (
        ap (list_all (λ g. is_one_of g (groups_in t))) more ∙ all,
        subst (λ (l : List Group). IsLeft c.args.self.now (map first_name l) t c.leave_one.new.left) (sym more) left,
      );
}

pub returns-clause-leaves : goal.returns-clause-leaves
returns-clause-leaves c t s h =
    let ds = map texts_of c.args.dropped.now in
    let all : take c.loop-group.group-index ds ≡ ds = take_all c.loop-group.group-index ds (omega (arith, c.loop-group-test.false, length-map c.args.dropped.now texts_of)) in
    let was = c.loop-group.invariant.leaves t s h in
    (ap (list_all (λ g. is_one_of g (groups_in t))) (sym all) ∙ was.0, subst (λ (l : List Group). IsLeft c.args.self.now (map first_name l) t c.loop-group.left) all was.1)
