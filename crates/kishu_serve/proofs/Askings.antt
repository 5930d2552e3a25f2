-- What a run does, by the form of its words.
use Rattle.std.proofs.Common.{◌≡◌, ◌≤◌, ◌+◌, ◌^◌, ℕ, List, [], ◌∙◌, ap, arith, Bool, true, false, Option, Some}
use Rattle.std.proofs.lemmas.List.{length-drop}
use Rattle.kishu_host.specs.Source.{SourceState}
use Rattle.kishu_store.specs.Graph.{Graph}
use Rattle.kishu_model.specs.Serve.{Item}
use Rattle.kishu_model.specs.Task.{Form, one_cell, session, notebook, one_request, generated, task}
use Rattle.kishu_serve.specs.Asking as asking
use Rattle.kishu_serve.specs.Headline.{IsRead, ReadsWhole}
use Rattle.kishu_serve.specs.Work.{still_reads, is_session, Knows, KnowsForm, IsRead as IsReadFor}
use Rattle.kishu_serve.specs.declared.asking.Requests.{Requests}
use Rattle.kishu_serve.specs.declared.asking.Requests.TheVariants.{Done, One, Lines}
use Rattle.kishu_serve.specs.declared.work.Work.{Work}
use Rattle.kishu_serve.specs.declared.work.Work.TheVariants.{Answers, Runs, Makes}

-- What is to do is known where the source tells.
asks-told : (rs : Requests) (s : SourceState) → s.tells ≡ true → asking.Knows rs s
asks-told Done s told = tt
asks-told (One q) s told = tt
asks-told (Lines reader) s told = told

pub knows-told : (work : Work) (s : SourceState) → s.tells ≡ true → Knows work s
knows-told (Answers rs) s told = asks-told rs s told
knows-told (Runs book) s told = tt
knows-told (Makes script) s told = tt

pub form-told : (f : Form) (s : SourceState) → s.tells ≡ true → KnowsForm f s
form-told one_cell s told = told
form-told session s told = told
form-told (notebook together) s told = told
form-told (one_request q) s told = tt
form-told (generated start many) s told = tt

pub asked-form : (o : Option Form) (f : Form) (g : Graph) (left : List ℕ) (is : List Item) → Some f ≡ o → is ≡ task (Some f) g left → is ≡ task o g left
asked-form o f g left is e same = same ∙ ap (λ (p : Option Form). task p g left) e

-- A form that reads its input whole reads no lines.
pub whole-alone : (f : Form) (b : Bool) → b ≡ is_session f → ReadsWhole (Some f) → b ≡ false
whole-alone one_cell b is whole = is
whole-alone session b is whole = absurd whole
whole-alone (notebook together) b is whole = is
whole-alone (one_request q) b is whole = absurd whole
whole-alone (generated start many) b is whole = absurd whole

lines-read : (rs : Requests) (s : SourceState) → asking.reads_lines rs ≡ true → asking.IsRead rs s → s.left ≡ []
lines-read Done s reads at_end = absurd (cc reads)
lines-read (One q) s reads at_end = absurd (cc reads)
lines-read (Lines reader) s reads at_end = at_end

read-lines : (work : Work) (s : SourceState) → still_reads work ≡ true → IsReadFor work s → s.left ≡ []
read-lines (Answers rs) s reads at_end = lines-read rs s reads at_end
read-lines (Runs book) s reads at_end = absurd (cc reads)
read-lines (Makes script) s reads at_end = absurd (cc reads)

-- A form that reads has read to the end.
pub read-form : (f : Form) (work : Work) (s : SourceState) → still_reads work ≡ is_session f → IsReadFor work s → (ReadsWhole (Some f) → s.left ≡ []) → IsRead (Some f) s.left
read-form one_cell work s reads at_end whole = whole tt
read-form session work s reads at_end whole = read-lines work s reads at_end
read-form (notebook together) work s reads at_end whole = whole tt
read-form (one_request q) work s reads at_end whole = tt
read-form (generated start many) work s reads at_end whole = tt

-- how many bytes are taken at most
pub taken-most : (rs : Requests) → asking.taken_by rs ≤ 2 ^ 30 + 4096
taken-most Done = omega arith
taken-most (One q) = omega arith
taken-most (Lines reader) = omega (arith, reader.below, reader.few, length-drop reader.at reader.taken.items)
