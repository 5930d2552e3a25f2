-- What a change of a graph says of the entry by which it was changed, kind by kind.
use Rattle.std.proofs.Common.{◌≡◌, ◌≢◌, ◌<◌, ◌≤◌, ◌⊎◌, inl, inr, ◌↔◌, ℕ, ◌^◌, Bool, true, false, IsTrue, List, [], ◌∷◌, ◌++◌, length, map, flat_map, get_or, Option, Some, None, Result, Ok, Err, refl, sym, ap, subst, ◌∙◌, ⊎_elim, arith, length-append}
use Rattle.std.proofs.lemmas.Bool.{false≢true}
use Rattle.std.proofs.lemmas.Bool.Decides.{leb_tells}
use Rattle.std.proofs.lemmas.List.{length-map}
use Rattle.std.specs.Prelude.{not, is_some, if◌then◌else◌, option_map, IsOk, IsErrOf, IfOk, IfErr, OnOk, OnErr}
use Rattle.std.specs.Rc.{rc_str_bytes}
use Rattle.std.specs.declared.alloc.Global.{Global}
use Rattle.std.specs.declared.rc.RcStr.{RcStr}
use Rattle.kishu_graph.specs.declared.fault.GraphFault.{GraphFault}
use Rattle.kishu_graph.specs.declared.fault.GraphFault.TheVariants.{BadName, NameTaken, StoreFull, NoMemory}
use Rattle.kishu_graph.specs.Facts.{with_newest}
use Rattle.kishu_graph.specs.Kept.{Kept, KeepsHistory, StandsFor, noted_of}
use Rattle.kishu_graph.specs.Laws.{moved-stands, branched-stands}
use Rattle.kishu_graph.specs.Refusals.{full, unless_there, unless_named, at_commit, at_branch, HasMoved, HasBranched}
use Rattle.kishu_bytes.specs.Numbers.{four}
use Rattle.kishu_language.specs.declared.profile.Profile.{Profile}
use Rattle.kishu_store.specs.Branches.{commit_of, is_branch_name}
use Rattle.kishu_store.specs.CommitLines.{line_in}
use Rattle.kishu_store.specs.Entries.{commit, move, name, to_commit, to_branch}
use Rattle.kishu_store.specs.EntryBytes.{text_bytes}
use Rattle.kishu_store.specs.Fitting.{Fits}
use Rattle.kishu_store.specs.Graph.{Graph, Target, newest, with_commit, with_head, with_branch}
use Rattle.kishu_store.specs.Groups.{Group}
use Rattle.kishu_store.specs.Histories.{History}
use Rattle.kishu_store.specs.Limits.{most_records}
use Rattle.kishu_store.specs.Rules.{IsEntry}
use Rattle.kishu_store_laws.specs.EntryLaws.{length-commit}
use Rattle.kishu_store.specs.Tables.{no_change}
use Rattle.kishu_journal.specs.Following.{GoesOn, HasNewest, TakesCells, TakesCommit}

-- ---- answers

pub ok-value : {P : ℕ → Type 0} (r : Result ℕ GraphFault) → IsOk r → IfOk r P → (x : ℕ) × P x
ok-value (Ok x) ok p = (x, p)
ok-value (Err e) ok p = absurd (false≢true ok)

pub ok-fact : {A : Type 0} (r : Result ℕ GraphFault) → IsOk r → OnOk r A → A
ok-fact (Ok x) ok a = a
ok-fact (Err e) ok a = absurd (false≢true ok)

pub err-fact : {A : Type 0} (r : Result ℕ GraphFault) → (IsOk r → ⊥) → OnErr r A → A
err-fact (Ok x) not_ok a = absurd (not_ok refl)
err-fact (Err e) not_ok a = a

-- a refusal that isn't want of memory
pub refused-by : {Q : GraphFault → Type 0} (r : Result ℕ GraphFault) → (IsOk r → ⊥) → IfErr r (λ e. e ≢ NoMemory) → IfErr r (λ e. (e ≡ NoMemory) ⊎ Q e) → (e : GraphFault) × Q e
refused-by (Ok x) not_ok other why = absurd (not_ok refl)
refused-by (Err e) not_ok other (inl p) = absurd (other p)
refused-by (Err e) not_ok other (inr q) = (e, q)

pub refused-plainly : {Q : GraphFault → Type 0} (r : Result ℕ GraphFault) → (IsOk r → ⊥) → IfErr r Q → (e : GraphFault) × Q e
refused-plainly (Ok x) not_ok why = absurd (not_ok refl)
refused-plainly (Err e) not_ok q = (e, q)

-- a commit is refused for want of room alone
pub not-full : (old : Kept) (r : Result ℕ GraphFault) → (IsOk r → ⊥) → IfErr r (λ e. e ≢ NoMemory) → IfErr r (λ e. (e ≡ StoreFull) ⊎ (e ≡ NoMemory)) → (IsErrOf r StoreFull ↔ (old.records ≡ most_records))
    → (g : Graph) → StandsFor old g → g.records < most_records → ⊥
not-full old (Ok x) not_ok other why stored g s room = not_ok refl
not-full old (Err e) not_ok other (inl p) stored g s room = (let at = stored.0 (ap Err p) in omega (arith, at, s.shape.records, room))
not-full old (Err e) not_ok other (inr p) stored g s room = other p

-- a commit was added
pub added : (old new : Kept) (r : Result ℕ GraphFault) (profile : Profile) (texts : List (List ℕ)) (cells : ℕ) (line : List ℕ) → IsOk r → OnOk r (old.records < most_records)
    → IfOk r (λ c. (g : Graph) (ts : List (List ℕ)) → StandsFor old g → length ts ≡ cells → line_in ts ≡ line → StandsFor new (with_commit profile ts g))
    → length texts ≡ cells → line_in texts ≡ line → TakesCommit old profile texts new
added old new r profile texts cells line ok room stands count is = record {
  room = λ g s. (let free = ok-fact r ok room in omega (arith, free, s.shape.records));
  stands = λ g s. (ok-value r ok stands).1 g texts s count is;
}

pub newest-added : (old new : Kept) (r : Result ℕ GraphFault) (profile : Profile) (cells : ℕ) (line : List ℕ) → IsOk r → OnOk r (new.commits ≡ with_newest profile cells line old)
    → OnOk r (new.noted ≡ old.noted ++ (noted_of no_change ∷ [])) → HasNewest old new
newest-added old new r profile cells line ok added noted = record {
  outline = record { parent = old.head.commit; profile = profile; cells = cells; line = line };
  parent = refl;
  commits = ok-fact r ok added;
  noted = ok-fact r ok noted;
}

-- ---- room

full-none : (g : Graph) → full g ≡ None → g.records < most_records
full-none g h =
    ⊎_elim
    (λ p. let is : full g ≡ Some StoreFull = rw p.0 refl in absurd (cc (h, is)))
    (λ p. p.1)
    (leb_tells most_records g.records)

room-full : (g : Graph) → g.records < most_records → full g ≡ None
room-full g h = ⊎_elim (λ p. absurd (omega (arith, h, p.1))) (λ p. rw p.0 refl) (leb_tells most_records g.records)

-- ---- the commit of a number

commit-at : (n : ℕ) (g : Graph) → n ≤ newest g → at_commit n g ≡ Some (record { commit = n; branch = None })
commit-at n g h = ⊎_elim (λ p. rw p.0 refl) (λ p. absurd (omega (arith, h, p.1))) (leb_tells n (newest g))

commit-known : (n : ℕ) (g : Graph) (t : Target) → at_commit n g ≡ Some t → (n ≤ newest g) × (t ≡ record { commit = n; branch = None })
commit-known n g t h =
    ⊎_elim
    (λ p. let is = commit-at n g p.1 in (p.1, cc (h, is)))
    (λ p. let is : at_commit n g ≡ None = rw p.0 refl in absurd (cc (h, is)))
    (leb_tells n (newest g))

-- ---- moves

pub moved-commit : (n : ℕ) (body : ℕ) (h : History) (c : ℕ) (old new : Kept) → KeepsHistory old h → HasMoved (at_commit n h.graph) h.graph c old new → GoesOn body h (move (to_commit n)) new
moved-commit n body h c old new k m =
    let g = h.graph in
    let known = commit-known n g m.there m.target_is in
    record {
      fits = record {
        graph = record { room = full-none g (sym (ap (λ (o : Option Target). unless_there o g) m.target_is) ∙ m.accepted); goes_on = known.0 };
        table = tt;
      };
      keeps = record {
        graph = subst (λ (t : Target). StandsFor new (with_head t g)) known.1 (moved-stands (at_commit n g) g c old new k.graph m);
        changes = m.noted ∙ k.changes;
      };
    }

pub refused-commit : (n : ℕ) (g : Graph) (e : GraphFault) → unless_there (at_commit n g) g ≡ Some e → Fits g (move (to_commit n)) → ⊥
refused-commit n g e h fits =
    let none : unless_there (at_commit n g) g ≡ None = ap (λ (o : Option Target). unless_there o g) (commit-at n g fits.goes_on) ∙ room-full g fits.room in
    absurd (cc (h, none))

branch-known : (title : List ℕ) (g : Graph) (o : Option ℕ) (t : Target) → option_map (λ c. record { commit = c; branch = Some title }) o ≡ Some t → (c : ℕ) × (o ≡ Some c) × (t ≡ record { commit = c; branch = Some title })
branch-known title g None t h = absurd (cc (h))
branch-known title g (Some c) t h = (c, refl, cc (h))

pub moved-branch : (title : List ℕ) (body : ℕ) (h : History) (c : ℕ) (old new : Kept) → KeepsHistory old h → HasMoved (at_branch title h.graph) h.graph c old new → GoesOn body h (move (to_branch title)) new
moved-branch title body h c old new k m =
    let g = h.graph in
    let known = branch-known title g (commit_of title g.branches) m.there m.target_is in
    let there : IsTrue (is_some (commit_of title g.branches)) = rw known.1 refl in
    let stands = subst (λ (t : Target). StandsFor new (with_head t g)) known.2 (moved-stands (at_branch title g) g c old new k.graph m) in
    record {
      fits = record {
        graph = record { room = full-none g (sym (ap (λ (o : Option Target). unless_there o g) m.target_is) ∙ m.accepted); goes_on = there };
        table = tt;
      };
      keeps = record { graph = rw known.1 stands; changes = m.noted ∙ k.changes };
    }

-- where a head stands on a branch
abbrev on : List ℕ → Option ℕ → Option Target
on title o = option_map (λ c. record { commit = c; branch = Some title }) o

branch-at : (title : List ℕ) (g : Graph) (o : Option ℕ) → IsTrue (is_some o) → unless_there (on title o) g ≡ full g
branch-at title g None h = absurd (false≢true h)
branch-at title g (Some c) h = refl

pub refused-branch : (title : List ℕ) (g : Graph) (e : GraphFault) → unless_there (at_branch title g) g ≡ Some e → Fits g (move (to_branch title)) → ⊥
refused-branch title g e h fits =
    let none : unless_there (at_branch title g) g ≡ None = branch-at title g (commit_of title g.branches) fits.goes_on ∙ room-full g fits.room in
    absurd (cc (h, none))

-- ---- names

pub refused-name : (title : List ℕ) (n : ℕ) (g : Graph) (e : GraphFault) → unless_named title (option_map (λ t. t.commit) (at_commit n g)) g ≡ Some e → Fits g (name title n) → ⊥
refused-name title n g e h fits =
    let start : option_map (λ (t : Target). t.commit) (at_commit n g) ≡ Some n = ap (option_map (λ (t : Target). t.commit)) (commit-at n g fits.goes_on.2) in
    let free : is_some (commit_of title g.branches) ≡ false = ap is_some fits.goes_on.1 in
    let named : is_branch_name title ≡ true = fits.goes_on.0 in
    let none : unless_named title (option_map (λ (t : Target). t.commit) (at_commit n g)) g ≡ None = rw (named, free, start) (room-full g fits.room) in
    absurd (cc (h, none))

accepted-name : (b : Bool) (o : Option ℕ) (rest : Option GraphFault) → (if not b then Some BadName else if is_some o then Some NameTaken else rest) ≡ None → (b ≡ true) × (o ≡ None) × (rest ≡ None)
accepted-name true None rest h = (refl, refl, h)
accepted-name true (Some c) rest h = absurd (cc (h))
accepted-name false o rest h = absurd (cc (h))

number-known : (n c : ℕ) (g : Graph) → option_map (λ t. t.commit) (at_commit n g) ≡ Some c → (n ≤ newest g) × (c ≡ n)
number-known n c g h =
    ⊎_elim
    (λ p. let is : option_map (λ (t : Target). t.commit) (at_commit n g) ≡ Some n = ap (option_map (λ (t : Target). t.commit)) (commit-at n g p.1) in (p.1, cc (h, is)))
    (λ p. let is : option_map (λ (t : Target). t.commit) (at_commit n g) ≡ None = rw p.0 refl in absurd (cc (h, is)))
    (leb_tells n (newest g))

pub made-name : (title : List ℕ) (n : ℕ) (body : ℕ) (h : History) (c : ℕ) (old new : Kept) → KeepsHistory old h → HasBranched title (option_map (λ t. t.commit) (at_commit n h.graph)) h.graph c old new → GoesOn body h (name title n) new
made-name title n body h c old new k b =
    let g = h.graph in
    let start = option_map (λ (t : Target). t.commit) (at_commit n g) in
    let known = number-known n c g b.start_is in
    let accepted = accepted-name (is_branch_name title) (commit_of title g.branches) (unless_there start g) b.accepted in
    let room : full g ≡ None = sym (ap (λ (o : Option ℕ). unless_there o g) b.start_is) ∙ accepted.2 in
    record {
      fits = record { graph = record { room = full-none g room; goes_on = (accepted.0, accepted.1, known.0) }; table = tt };
      keeps = record {
        graph = subst (λ (x : ℕ). StandsFor new (with_branch title x g)) known.1 (branched-stands title start g c old new k.graph b);
        changes = b.noted ∙ k.changes;
      };
    }

-- ---- the first cell

-- a commit of so many cells, the first with this text, is one of these
pub takes-texts : (old new : Kept) (profile : Profile) (cells : List (RcStr Global)) (d : RcStr Global) (count : ℕ) (first : List ℕ) → 0 < length cells → count ≡ length cells → first ≡ rc_str_bytes (get_or cells 0 d)
    → TakesCells old profile count first new → TakesCommit old profile (map rc_str_bytes cells) new
takes-texts old new profile [] d count first some is same takes = absurd (omega (arith, some))
takes-texts old new profile (k ∷ ks) d count first some is same takes =
    let others = map rc_str_bytes ks in
    subst (λ (t : List ℕ). TakesCommit old profile (t ∷ others) new) same (takes others (omega (arith, is, length-map ks rc_str_bytes)))

-- ---- how many cells a commit has

texts-few : (cells : List (List ℕ)) → length cells ≤ length (flat_map text_bytes cells)
texts-few [] = omega arith
texts-few (k ∷ ks) = omega (arith, length-append (text_bytes k) (flat_map text_bytes ks), length-append (four (length k)) k, texts-few ks)

pub few-cells : (parent : ℕ) (profile : Profile) (cells : List (List ℕ)) (ds : List Group) (ss : List (Group × ℕ)) → IsEntry (commit parent profile cells ds ss) → length cells < 2 ^ 32
few-cells parent profile cells ds ss is = omega (arith, is.short, length-commit parent profile cells ds ss, length-append (four (length cells)) (flat_map text_bytes cells), texts-few cells)
