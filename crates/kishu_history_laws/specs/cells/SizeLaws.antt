-- What a table takes after a cell: what its rows without an accessed name take, and the classes of the touched names.
use Rattle.std.specs.Prelude.{◌≡◌, ◌+◌, ℕ, Bool, true, false, not, ◌&&◌, List, length, filter, Option}
use Rattle.std.proofs.Common.{refl, ap, sym, ◌∙◌}
use Rattle.kishu_meaning.specs.values.Values.{State}
use Rattle.kishu_objects.specs.Picture.{picture}
use Rattle.kishu_objects.specs.Bytes.{state_bytes, picture_bytes}
use Rattle.kishu_objects.specs.Lists.{In}
use Rattle.kishu_history.specs.Alike.{is_state}
use Rattle.kishu_history.specs.Changed.{Group, is_one_of}
use Rattle.kishu_objects.specs.States.{IsSoundState}
use Rattle.kishu_history.specs.Tables.{Row, Table, groups_in, bytes_in, after, IsTable}
use Rattle.kishu_history.specs.Touched.{holds_any, classes, stored_among, change_told}
use Rattle.kishu_history.specs.Live.{IsLive}
use Rattle.kishu_history.specs.Stored.{Stored}
use Rattle.kishu_objects.specs.Sizes.{size_among}
use Rattle.kishu_history_laws.specs.states.AlikeLaws.{state_decides, and_both}
use Rattle.kishu_history_laws.specs.Choices.{filter_same, one_of_decides}
use Rattle.kishu_history_laws.specs.tables.SplitLaws.{after_takes}
use Rattle.kishu_history_laws.specs.checkouts.CheckoutLaws.{live_cut}
use Rattle.kishu_history_laws.specs.checkouts.PlaceLaws.{stored_len}

pub cell_takes : (file : Option (List ℕ)) (t : Table) (s u : State) (accessed : List (List ℕ)) (rows : Table) → IsTable t → IsLive (Stored file) t s → IsSoundState u → groups_in rows ≡ stored_among (groups_in t) (picture s) accessed u → ((r : Row) → In r rows → Stored file r (picture u r.group))
    → bytes_in (after (change_told t s accessed u rows) t) ≡ bytes_in (filter (λ r. not (holds_any accessed r.group)) t) + size_among (classes (groups_in t) accessed u) u
cell_takes file t s u accessed rows is live there stores new =
    after_takes t is (live_cut (Stored file) t s is live).one accessed u there (λ g. is_state (picture u g) (picture s g)) (λ g. length (picture_bytes u g)) rows stores
    (λ r m. sym (stored_len file r (picture u r.group) (new r m)))
    (λ r m e. sym (ap (λ p. length (state_bytes p)) ((state_decides (picture u r.group) (picture s r.group)).0 e) ∙ stored_len file r (picture s r.group) (live.pictures r m)))

twice : (c a : Bool) → (c && a) ≡ (c && (c && a))
twice true a = refl
twice false a = refl

-- So it is whatever test tells which classes stay, where those that do are stored for their rows with their pictures now.
pub tested_takes : (file : Option (List ℕ)) (t : Table) (s u : State) (accessed : List (List ℕ)) (same : Group → Bool) (rows : Table) → IsTable t → IsLive (Stored file) t s → IsSoundState u
    → ((r : Row) → In r t → In r.group (classes (groups_in t) accessed u) → same r.group ≡ true → Stored file r (picture u r.group))
    → groups_in rows ≡ filter (λ g. not (is_one_of g (groups_in t) && same g)) (classes (groups_in t) accessed u) → ((r : Row) → In r rows → Stored file r (picture u r.group))
    → bytes_in (after (record { dropped = filter (λ g. holds_any accessed g && not (is_one_of g (classes (groups_in t) accessed u) && same g)) (groups_in t); stored = rows }) t)
    ≡ bytes_in (filter (λ r. not (holds_any accessed r.group)) t) + size_among (classes (groups_in t) accessed u) u
tested_takes file t s u accessed same rows is live there standing stores new =
    let gs = groups_in t in
    let now = classes gs accessed u in
    let both : Group → Bool = λ g. is_one_of g now && same g in
    let drops = filter_same (λ g. holds_any accessed g && not (is_one_of g now && same g)) (λ g. holds_any accessed g && not (is_one_of g now && both g)) gs
    (λ g m. ap (λ b. holds_any accessed g && not b) (twice (is_one_of g now) (same g))) in
    let chosen = filter_same (λ g. not (is_one_of g gs && same g)) (λ g. not (is_one_of g gs && both g)) now
    (λ g n. ap (λ b. not (is_one_of g gs && (b && same g))) (sym ((one_of_decides g now).1 n))) in
    ap (λ (ds : List Group). bytes_in (after (record { dropped = ds; stored = rows }) t)) drops
    ∙ after_takes t is (live_cut (Stored file) t s is live).one accessed u there both (λ g. length (picture_bytes u g)) rows (stores ∙ chosen)
    (λ r m. sym (stored_len file r (picture u r.group) (new r m)))
    (λ r m e.
    let b = and_both (is_one_of r.group now) (same r.group) e in
    sym (stored_len file r (picture u r.group) (standing r m ((one_of_decides r.group now).0 b.0) b.1)))
