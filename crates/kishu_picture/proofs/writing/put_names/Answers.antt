use Rattle.std.proofs.Common.{◌≡◌, ◌+◌, ◌++◌, ◌≤◌, ℕ, List, Some, None, length, drop, ap, sym, ◌∙◌, subst, arith}
use Rattle.std.proofs.lemmas.List.{length-map}
use Rattle.std.specs.Rc.{rc_str_bytes}
use Rattle.kishu_meaning.specs.values.Values.{Value, value_of, find}
use Rattle.kishu_names.specs.Record.{texts_of}
use Rattle.kishu_objects.specs.Bytes.{name_bytes}
use Rattle.kishu_objects.specs.Fits.{ValueFits}
use Rattle.kishu_picture.specs.Rows.{names_of, names_bytes}
use Rattle.kishu_picture.proofs.Found.{bound_short, names_count}
use Rattle.kishu_picture.proofs.Putting.{few, putting_begins, all_fit}
use Rattle.kishu_picture.proofs.Sizes.{name_some}
use Rattle.kishu_picture.proofs.Steps.{rest_here, no_rest, first_in}
use Rattle.kishu_picture.proofs.writing.put_names.Goals as goal

abbrev Fit : List ℕ × Value → Type 0
Fit a = ValueFits a.1

pub overflow_cast-group : goal.overflow_cast-group
overflow_cast-group c =
    let found = c.args.found.now.keys in
    let ns = c.args.names.now.bound in
    let group = c.args.group.now in
    omega (
      arith,
      few name_bytes name_some (names_of found ns (texts_of group)) c.requires.short,
      names_count found ns (texts_of group)
          c.requires.bound,
      length-map group rc_str_bytes,
    )

pub loop-name-init : goal.loop-name-init
loop-name-init c =
    let found = c.args.found.now.keys in
    let ns = c.args.names.now.bound in
    let group = c.args.group.now in
    putting_begins name_bytes Fit c.args.out.now.items c.put_number.new.out.items (names_of found ns (texts_of group)) (length group)
    (sym (names_count found ns (texts_of group) c.requires.bound ∙ length-map group rc_str_bytes)) c.in_ok-put_number.ensures c.requires.short

pub unreachable-requires : goal.unreachable-requires
unreachable-requires c =
    let group = c.args.group.now in
    let i = c.loop-name.name-index in
    let name = c.name-item.result in
    let there = first_in rc_str_bytes group i name (drop (i + 1) group) (rest_here group i name c.loop-name-test.true c.name-item.is) in
    let is_bound = c.requires.bound (rc_str_bytes name) there in
    let e : None ≡ Some is_bound.0 = c.in_default.ensures.value ∙ ap (λ x. find x c.args.names.now.bound) c.as_str.ensures.value ∙ is_bound.1 in
    absurd (cc)

pub put_name-requires : goal.put_name-requires
put_name-requires c =
    let name = rc_str_bytes c.name-item.result in
    let ns = c.args.names.now.bound in
    let value = value_of c.in-Some.value.now in
    let is = ap (λ x. find x ns) (sym c.as_str.ensures.value) ∙ sym c.in-Some.ensures.value in
    subst (λ cs. length cs ≤ 255) (sym c.as_str-in-loop-name.ensures.value) (bound_short ns name value c.in-Some.ensures.kept.0 is)

pub put_value-requires-clause-met : goal.put_value-requires-clause-met
put_value-requires-clause-met c = λ k is.
    let group = c.args.group.now in
    let i = c.loop-name.name-index in
    let name = c.name-item.result in
    let there = first_in rc_str_bytes group i name (drop (i + 1) group) (rest_here group i name c.loop-name-test.true c.name-item.is) in
    c.requires.met (rc_str_bytes name) k there (ap (λ x. find x c.args.names.now.bound) (sym c.as_str.ensures.value) ∙ sym c.in-Some.ensures.value
    ∙ ap Some is)

pub returns-clause-fits : goal.returns-clause-fits
returns-clause-fits c =
    let found = c.args.found.now.keys in
    let ns = c.args.names.now.bound in
    let group = c.args.group.now in
    let i = c.loop-name.name-index in
    let all = names_of found ns (texts_of group) in
    all_fit name_bytes Fit all (c.args.out.now.items ++ names_bytes found c.args.names.now group) c.loop-name.out.items
    (names_of found ns (texts_of (drop i group))) c.loop-name.invariant
    (ap (λ xs. names_of found ns (texts_of xs)) (no_rest group i (omega (arith, c.loop-name-test.false))))
    (few name_bytes name_some all c.requires.short)
