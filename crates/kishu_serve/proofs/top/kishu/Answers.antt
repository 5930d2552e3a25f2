use Rattle.std.proofs.Common.{◌≡◌, ◌⊎◌, ◌<◌, ◌≤◌, ◌+◌, ◌*◌, inl, inr, ⊎_elim, refl, sym, ◌∙◌, ap, subst, arith, ℕ, List, [], length, Option, Some}
use Rattle.kishu_host.specs.Host.{Now, Elapses}
use Rattle.kishu_model.specs.Serve.{Item, charges}
use Rattle.kishu_model.specs.Task.{Form, session, task}
use Rattle.kishu_input.specs.Sources.{TakesMoreThan, TakesAtMost}
use Rattle.kishu_notebook.specs.Values.{fault_of}
use Rattle.kishu_words.specs.Commands.{form_by, form_found}
use Rattle.kishu_journal.specs.Going.{ReadsAtMost}
use Rattle.kishu_live_laws.specs.Made.{opened_nodes}
use Rattle.kishu_session.specs.Renewing.{most_kept}
use Rattle.kishu_serve.specs.Efforts.{AreMeasured, read_by_all, steps_by_all}
use Rattle.kishu_serve.specs.Making.{made_by_all}
use Rattle.kishu_serve.specs.Headline.{IsPart, IsWhole, IsRead, ReadsWhole, longest_input, most_taken, HasFault}
use Rattle.kishu_serve.specs.LiveAnswers.{AnswersFrom, EndsFrom}
use Rattle.kishu_serve.specs.Promise.{form_named, PassesLimit, StaysWithin, AsksEach}
use Rattle.kishu_serve.proofs.Askings.{knows-told, form-told, asked-form, read-form, whole-alone}
use Rattle.kishu_serve.proofs.Forms.{session-form, whole-not-session, session-not-whole, form-is, passes-whole, passes-session, stays-within, none-taken, one-fault, taken-form}
use Rattle.kishu_serve.proofs.LiveForms.{unread-not-done, each-form, each-knows, each-answered, each-ends}
use Rattle.kishu_serve.proofs.Runs.{none-done, risen}
use Rattle.kishu_serve.proofs.top.kishu.Goals as goal

pub returns-in-Err-clause-run : goal.returns-in-Err-clause-run
returns-in-Err-clause-run g c g' given = none-done (g.H.Host.state c.args.host.now) g' _ _ _ given.good refl

pub returns-in-Err-of_command-clause-run : goal.returns-in-Err-of_command-clause-run
returns-in-Err-of_command-clause-run g c g' given = none-done (g.H.Host.state c.args.host.now) g' _ _ _ given.good refl

pub returns-in-Ok-clause-run : goal.returns-in-Ok-clause-run
returns-in-Ok-clause-run g c g' given =
    let st = g.H.Host.state in
    let src = g.S.Source.source in
    let f = form_by c.in-Ok-Some.command in
    let is : Some f ≡ form_named c.args.words.now = sym (ap (λ o. form_found o) c.in-Ok-Some.field-0-is) ∙ c.in-Ok-Some.ensures.form in
    let asked = asked-form (form_named c.args.words.now) f g' (src c.args.source.now).left _ is (c.in-Ok.ensures.asked (form-told f (src c.args.source.now) given.source_tells) g') in
    let knows = knows-told c.in-Ok.work (src c.of_command.new.source) (c.of_command.ensures.tells ∙ given.source_tells) in
    let s2 = st c.run_work.new.host in
    subst (λ (qs : List Item). IsPart (st c.args.host.now) g' qs s2.file s2.out) asked (c.run_work.ensures.run given.host_tells knows g' given.good)

pub returns-in-Ok-clause-done : goal.returns-in-Ok-clause-done
returns-in-Ok-clause-done g c done g' given =
    let st = g.H.Host.state in
    let src = g.S.Source.source in
    let f = form_by c.in-Ok-Some.command in
    let rs = c.in-Ok.work in
    let is : Some f ≡ form_named c.args.words.now = sym (ap (λ o. form_found o) c.in-Ok-Some.field-0-is) ∙ c.in-Ok-Some.ensures.form in
    let asked = asked-form (form_named c.args.words.now) f g' (src c.args.source.now).left _ is (c.in-Ok.ensures.asked (form-told f (src c.args.source.now) given.source_tells) g') in
    let knows = knows-told rs (src c.of_command.new.source) (c.of_command.ensures.tells ∙ given.source_tells) in
    let whole = c.run_work.ensures.whole (inl done) given.host_tells knows g' given.good in
    let whole_read : ReadsWhole (Some f) → (src c.run_work.new.source).left ≡ [] =
    λ e. ap (λ s. (src s).left) (c.run_work.ensures.alone (whole-alone f _ c.in-Ok.ensures.lines e)) ∙ (c.in-Ok.ensures.whole e given.source_tells).0 in
    let at_end = read-form f rs (src c.run_work.new.source) c.in-Ok.ensures.lines (c.run_work.ensures.read done knows).0 whole_read in
    (subst (λ (qs : List Item). IsWhole (st c.args.host.now) (st c.run_work.new.host) g' qs) asked whole, subst (λ (o : Option Form). IsRead o (src c.run_work.new.source).left) is at_end)

pub returns-in-Ok-clause-read : goal.returns-in-Ok-clause-read
returns-in-Ok-clause-read g c done told =
    let src = g.S.Source.source in
    let f = form_by c.in-Ok-Some.command in
    let rs = c.in-Ok.work in
    let is : Some f ≡ form_named c.args.words.now = sym (ap (λ o. form_found o) c.in-Ok-Some.field-0-is) ∙ c.in-Ok-Some.ensures.form in
    let knows = knows-told rs (src c.of_command.new.source) (c.of_command.ensures.tells ∙ told) in
    let whole_read : ReadsWhole (Some f) → (src c.run_work.new.source).left ≡ [] =
    λ e. ap (λ s. (src s).left) (c.run_work.ensures.alone (whole-alone f _ c.in-Ok.ensures.lines e)) ∙ (c.in-Ok.ensures.whole e told).0 in
    let at_end = read-form f rs (src c.run_work.new.source) c.in-Ok.ensures.lines (c.run_work.ensures.read done knows).0 whole_read in
    subst (λ (o : Option Form). IsRead o (src c.run_work.new.source).left) is at_end

pub returns-in-Ok-clause-stop : goal.returns-in-Ok-clause-stop
returns-in-Ok-clause-stop g c g' given =
    let st = g.H.Host.state in
    let src = g.S.Source.source in
    let s0 = st c.args.host.now in
    let f = form_by c.in-Ok-Some.command in
    let is : Some f ≡ form_named c.args.words.now = sym (ap (λ o. form_found o) c.in-Ok-Some.field-0-is) ∙ c.in-Ok-Some.ensures.form in
    let asked = asked-form (form_named c.args.words.now) f g' (src c.args.source.now).left _ is (c.in-Ok.ensures.asked (form-told f (src c.args.source.now) given.source_tells) g') in
    let knows = knows-told c.in-Ok.work (src c.of_command.new.source) (c.of_command.ensures.tells ∙ given.source_tells) in
    subst (λ (qs : List Item). Elapses s0 (st c.run_work.new.host) (λ (x o : List ℕ). Now s0 x o ⊎ IsPart s0 g' qs x o)) asked (c.run_work.ensures.stop given.host_tells knows g' given.good)

pub returns-in-Ok-clause-settled : goal.returns-in-Ok-clause-settled
returns-in-Ok-clause-settled g c g' given =
    let st = g.H.Host.state in
    let src = g.S.Source.source in
    let s0 = st c.args.host.now in
    let f = form_by c.in-Ok-Some.command in
    let is : Some f ≡ form_named c.args.words.now = sym (ap (λ o. form_found o) c.in-Ok-Some.field-0-is) ∙ c.in-Ok-Some.ensures.form in
    let asked = asked-form (form_named c.args.words.now) f g' (src c.args.source.now).left _ is (c.in-Ok.ensures.asked (form-told f (src c.args.source.now) given.source_tells) g') in
    let knows = knows-told c.in-Ok.work (src c.of_command.new.source) (c.of_command.ensures.tells ∙ given.source_tells) in
    inr (elim (c.run_work.ensures.settled given.host_tells knows g' given.good) [
      | inl fault ↦ inl fault
      | inr each ↦ inr (λ x now. subst (λ (qs : List Item). IsPart s0 g' qs x (st c.run_work.new.host).out) asked (each x now))
    ])

pub returns-in-Ok-clause-all_before : goal.returns-in-Ok-clause-all_before
returns-in-Ok-clause-all_before g c form long g' given =
    let st = g.H.Host.state in
    let src = g.S.Source.source in
    let f = form_by c.in-Ok-Some.command in
    let is : Some f ≡ form_named c.args.words.now = sym (ap (λ o. form_found o) c.in-Ok-Some.field-0-is) ∙ c.in-Ok-Some.ensures.form in
    let asked = asked-form (form_named c.args.words.now) f g' (src c.args.source.now).left _ is (c.in-Ok.ensures.asked (form-told f (src c.args.source.now) given.source_tells) g') in
    let knows = knows-told c.in-Ok.work (src c.of_command.new.source) (c.of_command.ensures.tells ∙ given.source_tells) in
    subst (λ (qs : List Item). IsWhole (st c.args.host.now) (st c.run_work.new.host) g' qs) asked (c.run_work.ensures.whole (inr long) given.host_tells knows g' given.good)

pub returns-in-Ok-clause-answered : goal.returns-in-Ok-clause-answered
returns-in-Ok-clause-answered g c ended asked told =
    let st = g.H.Host.state in
    let i0 = g.S.Source.source c.args.source.now in
    let i1 = g.S.Source.source c.of_command.new.source in
    let s0 = st c.args.host.now in
    let s1 = st c.run_work.new.host in
    let f = form_by c.in-Ok-Some.command in
    let is : Some f ≡ form_named c.args.words.now = sym (ap (λ o. form_found o) c.in-Ok-Some.field-0-is) ∙ c.in-Ok-Some.ensures.form in
    let each = subst (λ (o : Option Form). AsksEach o i0) (sym is) asked in
    let knows = each-knows f c.in-Ok.work i0 i1 c.in-Ok.ensures.lines c.of_command.ensures.tells each in
    let all = c.run_work.ensures.whole_live (⊎_elim (λ done. inl done) (λ long. inr long.1) ended) (c.in-Ok.ensures.each ∙ each-form f i0 each) knows told in
    subst (λ (o : Option Form). AnswersFrom (λ g'. task o g' i0.left) s0 s1) is (each-answered c.in-Ok.work i0 i1 f c.in-Ok.ensures.asked each all)

pub returns-in-Ok-clause-first_answered : goal.returns-in-Ok-clause-first_answered
returns-in-Ok-clause-first_answered g c asked told g' holds =
    let st = g.H.Host.state in
    let i0 = g.S.Source.source c.args.source.now in
    let i1 = g.S.Source.source c.of_command.new.source in
    let s0 = st c.args.host.now in
    let s1 = st c.run_work.new.host in
    let f = form_by c.in-Ok-Some.command in
    let is : Some f ≡ form_named c.args.words.now = sym (ap (λ o. form_found o) c.in-Ok-Some.field-0-is) ∙ c.in-Ok-Some.ensures.form in
    let each = subst (λ (o : Option Form). AsksEach o i0) (sym is) asked in
    let knows = each-knows f c.in-Ok.work i0 i1 c.in-Ok.ensures.lines c.of_command.ensures.tells each in
    let part = c.run_work.ensures.part_live (c.in-Ok.ensures.each ∙ each-form f i0 each) knows told g' holds in
    subst (λ (o : Option Form). EndsFrom (λ x. task o x i0.left) s0 s1 g') is (each-ends c.in-Ok.work i0 i1 f c.in-Ok.ensures.asked each part)

pub returns-in-Err-of_command-clause-first_answered : goal.returns-in-Err-of_command-clause-first_answered
returns-in-Err-of_command-clause-first_answered g c asked told g' holds = inl (holds, refl)

pub returns-in-Err-clause-first_answered : goal.returns-in-Err-clause-first_answered
returns-in-Err-clause-first_answered g c asked told g' holds = inl (holds, refl)

pub returns-in-Ok-clause-counted : goal.returns-in-Ok-clause-counted
returns-in-Ok-clause-counted g c done g' given =
    let src = g.S.Source.source in
    let f = form_by c.in-Ok-Some.command in
    let is : Some f ≡ form_named c.args.words.now = sym (ap (λ o. form_found o) c.in-Ok-Some.field-0-is) ∙ c.in-Ok-Some.ensures.form in
    let asked = asked-form (form_named c.args.words.now) f g' (src c.args.source.now).left _ is (c.in-Ok.ensures.asked (form-told f (src c.args.source.now) given.source_tells) g') in
    let knows = knows-told c.in-Ok.work (src c.of_command.new.source) (c.of_command.ensures.tells ∙ given.source_tells) in
    subst (λ (is : List Item). c.args.steps.now + charges g' is ≤ c.run_work.new.steps) asked (c.run_work.ensures.counted done given.host_tells knows g' given.good)

pub returns-in-Ok-clause-complete : goal.returns-in-Ok-clause-complete
returns-in-Ok-clause-complete g c g' given form no_disk no_out no_in =
    elim (c.run_work.ensures.complete given.host_tells g' given.good) [
      | inl done ↦ inl done
      | inr rest ↦ elim rest [
        | inl none ↦ inr (inl none)
        | inr more ↦ elim more [
          | inl long ↦ inr (inr (inl long))
          | inr faults ↦ elim faults [
            | inl disk ↦ absurd (no_disk (c.run_work.ensures.disk_fault disk))
            | inr ends ↦ elim ends [
              | inl unread ↦ absurd (no_in (risen _ _ _ c.of_command.ensures.faults (c.run_work.ensures.input_fault unread).1))
              | inr out ↦ absurd (no_out (c.run_work.ensures.output_fault out))
            ]
          ]
        ]
      ]
    ]

-- ---- an input that isn't what the words ask for

pub returns-in-Err-of_command-clause-too_long : goal.returns-in-Err-of_command-clause-too_long
returns-in-Err-of_command-clause-too_long g c long =
    let st = g.H.Host.state in
    let src = g.S.Source.source in
    let f = form_by c.in-Ok-Some.command in
    let is : Some f ≡ form_named c.args.words.now = sym (ap (λ o. form_found o) c.in-Ok-Some.field-0-is) ∙ c.in-Ok-Some.ensures.form in
    subst (λ (o : Option Form). PassesLimit o (src c.args.source.now)) is (passes-whole f (src c.args.source.now) (src c.of_command.new.source) (c.in-Err-of_command.ensures.whole_alone refl) (c.in-Err-of_command.ensures.too_long (cc (c.unread.ensures.too_long long))))

pub returns-in-Err-of_command-clause-refused : goal.returns-in-Err-of_command-clause-refused
returns-in-Err-of_command-clause-refused g c why refused =
    let st = g.H.Host.state in
    let src = g.S.Source.source in
    let f = form_by c.in-Ok-Some.command in
    let is : Some f ≡ form_named c.args.words.now = sym (ap (λ o. form_found o) c.in-Ok-Some.field-0-is) ∙ c.in-Ok-Some.ensures.form in
    subst (λ (o : Option Form). HasFault o (src c.args.source.now) (fault_of why)) is (c.in-Err-of_command.ensures.refused why (cc (c.unread.ensures.refused why refused)))

pub returns-in-Err-of_command-clause-refuses : goal.returns-in-Err-of_command-clause-refuses
returns-in-Err-of_command-clause-refuses g c fault told has =
    let st = g.H.Host.state in
    let src = g.S.Source.source in
    let f = form_by c.in-Ok-Some.command in
    let is : Some f ≡ form_named c.args.words.now = sym (ap (λ o. form_found o) c.in-Ok-Some.field-0-is) ∙ c.in-Ok-Some.ensures.form in
    elim c.unread.ensures.these [
      | inl unread ↦ inr (inr (inl unread))
      | inr rest ↦ elim rest [
        | inl long ↦ inr (inl long)
        | inr last ↦ elim last [
          | inl none ↦ inr (inr (inr none))
          | inr refused ↦ inl (
            refused.0,
            one-fault (form_named c.args.words.now) (src c.args.source.now) (fault_of refused.0) fault told
                (subst (λ (o : Option Form). HasFault o (src c.args.source.now) (fault_of refused.0)) is (c.in-Err-of_command.ensures.refused refused.0 (cc refused.1))) has,
            refused.2,
          )
        ]
      ]
    ]

pub returns-in-Err-of_command-clause-whole_limit : goal.returns-in-Err-of_command-clause-whole_limit
returns-in-Err-of_command-clause-whole_limit g c whole told long =
    let st = g.H.Host.state in
    let src = g.S.Source.source in
    let f = form_by c.in-Ok-Some.command in
    let is : Some f ≡ form_named c.args.words.now = sym (ap (λ o. form_found o) c.in-Ok-Some.field-0-is) ∙ c.in-Ok-Some.ensures.form in
    elim c.unread.ensures.these [
      | inl unread ↦ inr (inl unread)
      | inr rest ↦ elim rest [
        | inl long ↦ inl long
        | inr last ↦ elim last [
          | inl none ↦ inr (inr none)
          | inr refused ↦ absurd (omega (arith, (c.in-Err-of_command.ensures.refused_short refused.0 (cc refused.1) told).1, subst (λ (o : Option Form). longest_input o < length (src c.args.source.now).left) (sym is) long))
        ]
      ]
    ]

pub returns-in-Err-of_command-clause-whole_taken : goal.returns-in-Err-of_command-clause-whole_taken
returns-in-Err-of_command-clause-whole_taken g c whole long =
    let st = g.H.Host.state in
    let src = g.S.Source.source in
    let f = form_by c.in-Ok-Some.command in
    let is : Some f ≡ form_named c.args.words.now = sym (ap (λ o. form_found o) c.in-Ok-Some.field-0-is) ∙ c.in-Ok-Some.ensures.form in
    subst (λ (o : Option Form). TakesMoreThan (longest_input o) (src c.args.source.now) (src c.of_command.new.source)) is (c.in-Err-of_command.ensures.too_long (cc (c.unread.ensures.too_long long)))

pub returns-in-Err-of_command-clause-reads : goal.returns-in-Err-of_command-clause-reads
returns-in-Err-of_command-clause-reads g c either =
    let st = g.H.Host.state in
    let src = g.S.Source.source in
    let f = form_by c.in-Ok-Some.command in
    let is : Some f ≡ form_named c.args.words.now = sym (ap (λ o. form_found o) c.in-Ok-Some.field-0-is) ∙ c.in-Ok-Some.ensures.form in
    inl (subst (λ (o : Option Form). ReadsWhole o) is (c.in-Err-of_command.ensures.whole_alone refl))

pub returns-in-Err-of_command-clause-taken : goal.returns-in-Err-of_command-clause-taken
returns-in-Err-of_command-clause-taken g c =
    let st = g.H.Host.state in
    let src = g.S.Source.source in
    let f = form_by c.in-Ok-Some.command in
    let is : Some f ≡ form_named c.args.words.now = sym (ap (λ o. form_found o) c.in-Ok-Some.field-0-is) ∙ c.in-Ok-Some.ensures.form in
    subst (λ (o : Option Form). TakesAtMost (most_taken o) (src c.args.source.now) (src c.of_command.new.source)) is c.of_command.ensures.taken

pub returns-in-Err-of_command-clause-unread : goal.returns-in-Err-of_command-clause-unread
returns-in-Err-of_command-clause-unread g c none =
    let st = g.H.Host.state in
    let src = g.S.Source.source in
    let f = form_by c.in-Ok-Some.command in
    let is : Some f ≡ form_named c.args.words.now = sym (ap (λ o. form_found o) c.in-Ok-Some.field-0-is) ∙ c.in-Ok-Some.ensures.form in
    absurd ((none-taken f (ap most_taken is ∙ none)).0 (c.in-Err-of_command.ensures.whole_alone refl))

pub returns-in-Err-of_command-clause-opened : goal.returns-in-Err-of_command-clause-opened
returns-in-Err-of_command-clause-opened g c form either =
    let st = g.H.Host.state in
    let src = g.S.Source.source in
    let f = form_by c.in-Ok-Some.command in
    let is : Some f ≡ form_named c.args.words.now = sym (ap (λ o. form_found o) c.in-Ok-Some.field-0-is) ∙ c.in-Ok-Some.ensures.form in
    absurd (session-not-whole f (form-is f _ session is form) (c.in-Err-of_command.ensures.whole_alone refl))

pub returns-in-Err-of_command-clause-all_before : goal.returns-in-Err-of_command-clause-all_before
returns-in-Err-of_command-clause-all_before g c form long g' given =
    let st = g.H.Host.state in
    let src = g.S.Source.source in
    let f = form_by c.in-Ok-Some.command in
    let is : Some f ≡ form_named c.args.words.now = sym (ap (λ o. form_found o) c.in-Ok-Some.field-0-is) ∙ c.in-Ok-Some.ensures.form in
    absurd (session-not-whole f (form-is f _ session is form) (c.in-Err-of_command.ensures.whole_alone refl))

pub returns-in-Err-of_command-clause-answered : goal.returns-in-Err-of_command-clause-answered
returns-in-Err-of_command-clause-answered g c ended =
    let f = form_by c.in-Ok-Some.command in
    let is : Some f ≡ form_named c.args.words.now = sym (ap (λ o. form_found o) c.in-Ok-Some.field-0-is) ∙ c.in-Ok-Some.ensures.form in
    elim ended [
      | inl done ↦ absurd (unread-not-done _ c.unread.ensures.these done)
      | inr long ↦ absurd (session-not-whole f (form-is f _ session is long.0) (c.in-Err-of_command.ensures.whole_alone refl))
    ]

-- ---- an input that is

pub returns-in-Ok-clause-too_long : goal.returns-in-Ok-clause-too_long
returns-in-Ok-clause-too_long g c long =
    let st = g.H.Host.state in
    let src = g.S.Source.source in
    let f = form_by c.in-Ok-Some.command in
    let is : Some f ≡ form_named c.args.words.now = sym (ap (λ o. form_found o) c.in-Ok-Some.field-0-is) ∙ c.in-Ok-Some.ensures.form in
    let limited = c.run_work.ensures.too_long long in
    subst (λ (o : Option Form). PassesLimit o (src c.args.source.now)) is
    (passes-session f (src c.args.source.now) (sym c.in-Ok.ensures.lines ∙ limited.0)
    (λ told. (c.in-Ok.ensures.limits (session-form f (sym c.in-Ok.ensures.lines ∙ limited.0))).0 (limited.1 (knows-told c.in-Ok.work (src c.of_command.new.source) (c.of_command.ensures.tells ∙ told)))))

pub returns-in-Ok-clause-limit : goal.returns-in-Ok-clause-limit
returns-in-Ok-clause-limit g c done =
    let st = g.H.Host.state in
    let src = g.S.Source.source in
    let f = form_by c.in-Ok-Some.command in
    let is : Some f ≡ form_named c.args.words.now = sym (ap (λ o. form_found o) c.in-Ok-Some.field-0-is) ∙ c.in-Ok-Some.ensures.form in
    subst (λ (o : Option Form). StaysWithin o (src c.args.source.now)) is
    (stays-within f (src c.args.source.now) (λ whole told. (c.in-Ok.ensures.whole whole told).1)
    (λ form told limited. (c.run_work.ensures.read done (knows-told c.in-Ok.work (src c.of_command.new.source) (c.of_command.ensures.tells ∙ told))).1 ((c.in-Ok.ensures.limits form).1 limited)))

pub returns-in-Ok-clause-refuses : goal.returns-in-Ok-clause-refuses
returns-in-Ok-clause-refuses g c fault told has =
    let st = g.H.Host.state in
    let src = g.S.Source.source in
    let f = form_by c.in-Ok-Some.command in
    let is : Some f ≡ form_named c.args.words.now = sym (ap (λ o. form_found o) c.in-Ok-Some.field-0-is) ∙ c.in-Ok-Some.ensures.form in
    absurd (c.in-Ok.ensures.no_fault fault told (subst (λ (o : Option Form). HasFault o (src c.args.source.now) fault) (sym is) has))

pub returns-in-Ok-clause-whole_limit : goal.returns-in-Ok-clause-whole_limit
returns-in-Ok-clause-whole_limit g c whole told long =
    let st = g.H.Host.state in
    let src = g.S.Source.source in
    let f = form_by c.in-Ok-Some.command in
    let is : Some f ≡ form_named c.args.words.now = sym (ap (λ o. form_found o) c.in-Ok-Some.field-0-is) ∙ c.in-Ok-Some.ensures.form in
    absurd (omega (arith, (c.in-Ok.ensures.whole (subst (λ (o : Option Form). ReadsWhole o) (sym is) whole) told).1, subst (λ (o : Option Form). longest_input o < length (src c.args.source.now).left) (sym is) long))

pub returns-in-Ok-clause-whole_taken : goal.returns-in-Ok-clause-whole_taken
returns-in-Ok-clause-whole_taken g c whole long =
    let st = g.H.Host.state in
    let src = g.S.Source.source in
    let f = form_by c.in-Ok-Some.command in
    let is : Some f ≡ form_named c.args.words.now = sym (ap (λ o. form_found o) c.in-Ok-Some.field-0-is) ∙ c.in-Ok-Some.ensures.form in
    absurd (whole-not-session f (subst (λ (o : Option Form). ReadsWhole o) (sym is) whole) (sym c.in-Ok.ensures.lines ∙ (c.run_work.ensures.too_long long).0))

pub returns-in-Ok-clause-reads : goal.returns-in-Ok-clause-reads
returns-in-Ok-clause-reads g c either =
    let st = g.H.Host.state in
    let src = g.S.Source.source in
    let f = form_by c.in-Ok-Some.command in
    let is : Some f ≡ form_named c.args.words.now = sym (ap (λ o. form_found o) c.in-Ok-Some.field-0-is) ∙ c.in-Ok-Some.ensures.form in
    let reads = ⊎_elim (λ unread. (c.run_work.ensures.input_fault unread).0) (λ long. (c.run_work.ensures.too_long long).0) either in
    inr (sym is ∙ ap (λ (x : Form). Some x) (session-form f (sym c.in-Ok.ensures.lines ∙ reads)))

pub returns-in-Ok-clause-taken : goal.returns-in-Ok-clause-taken
returns-in-Ok-clause-taken g c =
    let st = g.H.Host.state in
    let src = g.S.Source.source in
    let f = form_by c.in-Ok-Some.command in
    let is : Some f ≡ form_named c.args.words.now = sym (ap (λ o. form_found o) c.in-Ok-Some.field-0-is) ∙ c.in-Ok-Some.ensures.form in
    subst (λ (o : Option Form). TakesAtMost (most_taken o) (src c.args.source.now) (src c.run_work.new.source)) is
    (taken-form f (src c.args.source.now) (src c.of_command.new.source) (src c.run_work.new.source) c.of_command.ensures.taken (λ alone. ap src (c.run_work.ensures.alone (c.in-Ok.ensures.lines ∙ alone)))
    (λ whole. ap src (c.of_command.ensures.unread whole)) (c.run_work.ensures.taken c.in-Ok.ensures.none_taken))

pub returns-in-Ok-clause-unread : goal.returns-in-Ok-clause-unread
returns-in-Ok-clause-unread g c none =
    let st = g.H.Host.state in
    let src = g.S.Source.source in
    let f = form_by c.in-Ok-Some.command in
    let is : Some f ≡ form_named c.args.words.now = sym (ap (λ o. form_found o) c.in-Ok-Some.field-0-is) ∙ c.in-Ok-Some.ensures.form in
    c.run_work.ensures.alone (c.in-Ok.ensures.lines ∙ (none-taken f (ap most_taken is ∙ none)).1) ∙ c.of_command.ensures.unread (none-taken f (ap most_taken is ∙ none)).0

pub returns-in-Ok-clause-untouched : goal.returns-in-Ok-clause-untouched
returns-in-Ok-clause-untouched g c unopened =
    let st = g.H.Host.state in
    let src = g.S.Source.source in
    let f = form_by c.in-Ok-Some.command in
    let is : Some f ≡ form_named c.args.words.now = sym (ap (λ o. form_found o) c.in-Ok-Some.field-0-is) ∙ c.in-Ok-Some.ensures.form in
    elim unopened [
      | inl usage ↦ absurd (c.run_work.ensures.not_usage usage)
      | inr rest ↦ elim rest [
        | inl whole ↦ absurd (whole-not-session f (subst (λ (o : Option Form). ReadsWhole o) (sym is) whole.0)
            (sym c.in-Ok.ensures.lines ∙ ⊎_elim (λ unread. (c.run_work.ensures.input_fault unread).0) (λ long. (c.run_work.ensures.too_long long).0) whole.1))
        | inr refused ↦ absurd (c.run_work.ensures.not_refused refused.0 refused.1)
      ]
    ]

pub returns-in-Ok-clause-idle : goal.returns-in-Ok-clause-idle
returns-in-Ok-clause-idle g c unopened =
    let st = g.H.Host.state in
    let src = g.S.Source.source in
    let f = form_by c.in-Ok-Some.command in
    let is : Some f ≡ form_named c.args.words.now = sym (ap (λ o. form_found o) c.in-Ok-Some.field-0-is) ∙ c.in-Ok-Some.ensures.form in
    elim unopened [
      | inl usage ↦ absurd (c.run_work.ensures.not_usage usage)
      | inr rest ↦ elim rest [
        | inl whole ↦ absurd (whole-not-session f (subst (λ (o : Option Form). ReadsWhole o) (sym is) whole.0)
            (sym c.in-Ok.ensures.lines ∙ ⊎_elim (λ unread. (c.run_work.ensures.input_fault unread).0) (λ long. (c.run_work.ensures.too_long long).0) whole.1))
        | inr refused ↦ absurd (c.run_work.ensures.not_refused refused.0 refused.1)
      ]
    ]

pub returns-in-Ok-clause-opened : goal.returns-in-Ok-clause-opened
returns-in-Ok-clause-opened g c form either =
    let st = g.H.Host.state in
    let src = g.S.Source.source in
    let f = form_by c.in-Ok-Some.command in
    let is : Some f ≡ form_named c.args.words.now = sym (ap (λ o. form_found o) c.in-Ok-Some.field-0-is) ∙ c.in-Ok-Some.ensures.form in
    c.run_work.ensures.good (inr either)

pub returns-in-Err-of_command-clause-no_form : goal.returns-in-Err-of_command-clause-no_form
returns-in-Err-of_command-clause-no_form g c none =
    let f = form_by c.in-Ok-Some.command in
    let is : Some f ≡ form_named c.args.words.now = sym (ap (λ o. form_found o) c.in-Ok-Some.field-0-is) ∙ c.in-Ok-Some.ensures.form in
    absurd (cc (is, none))

pub returns-in-Err-of_command-clause-nothing : goal.returns-in-Err-of_command-clause-nothing
returns-in-Err-of_command-clause-nothing g c none =
    let f = form_by c.in-Ok-Some.command in
    let is : Some f ≡ form_named c.args.words.now = sym (ap (λ o. form_found o) c.in-Ok-Some.field-0-is) ∙ c.in-Ok-Some.ensures.form in
    absurd (cc (is, none))

pub returns-in-Ok-clause-no_form : goal.returns-in-Ok-clause-no_form
returns-in-Ok-clause-no_form g c none =
    let f = form_by c.in-Ok-Some.command in
    let is : Some f ≡ form_named c.args.words.now = sym (ap (λ o. form_found o) c.in-Ok-Some.field-0-is) ∙ c.in-Ok-Some.ensures.form in
    absurd (cc (is, none))

pub returns-in-Ok-clause-nothing : goal.returns-in-Ok-clause-nothing
returns-in-Ok-clause-nothing g c none =
    let f = form_by c.in-Ok-Some.command in
    let is : Some f ≡ form_named c.args.words.now = sym (ap (λ o. form_found o) c.in-Ok-Some.field-0-is) ∙ c.in-Ok-Some.ensures.form in
    absurd (cc (is, none))

-- ---- the work

pub returns-in-Ok-clause-loads : goal.returns-in-Ok-clause-loads
returns-in-Ok-clause-loads g c done named g' given measured =
    let st = g.H.Host.state in
    let src = g.S.Source.source in
    let s0 = st c.args.host.now in
    let f = form_by c.in-Ok-Some.command in
    let is : Some f ≡ form_named c.args.words.now = sym (ap (λ o. form_found o) c.in-Ok-Some.field-0-is) ∙ c.in-Ok-Some.ensures.form in
    let asked = asked-form (form_named c.args.words.now) f g' (src c.args.source.now).left _ is (c.in-Ok.ensures.asked (form-told f (src c.args.source.now) given.source_tells) g') in
    let knows = knows-told c.in-Ok.work (src c.of_command.new.source) (c.of_command.ensures.tells ∙ given.source_tells) in
    subst (λ (is : List Item). ReadsAtMost s0.reads (st c.run_work.new.host).reads (3 * length s0.file + read_by_all g' is)) asked
    (c.run_work.ensures.loads done given.host_tells knows g' given.good (subst (λ (is : List Item). AreMeasured g' is) (sym asked) measured))

pub returns-in-Ok-clause-most : goal.returns-in-Ok-clause-most
returns-in-Ok-clause-most g c done named g' given measured few =
    let src = g.S.Source.source in
    let f = form_by c.in-Ok-Some.command in
    let is : Some f ≡ form_named c.args.words.now = sym (ap (λ o. form_found o) c.in-Ok-Some.field-0-is) ∙ c.in-Ok-Some.ensures.form in
    let asked = asked-form (form_named c.args.words.now) f g' (src c.args.source.now).left _ is (c.in-Ok.ensures.asked (form-told f (src c.args.source.now) given.source_tells) g') in
    let knows = knows-told c.in-Ok.work (src c.of_command.new.source) (c.of_command.ensures.tells ∙ given.source_tells) in
    subst (λ (is : List Item). c.run_work.new.steps ≤ c.args.steps.now + steps_by_all g' is) asked
    (c.run_work.ensures.most done given.host_tells knows g' given.good (subst (λ (is : List Item). AreMeasured g' is) (sym asked) measured)
    (subst (λ (is : List Item). opened_nodes g' g'.head.commit + made_by_all g' is ≤ most_kept) (sym asked) few))
