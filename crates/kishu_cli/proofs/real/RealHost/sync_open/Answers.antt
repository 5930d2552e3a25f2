use Rattle.std.proofs.Common.{◌≡◌, [], ◌∷◌, refl, sym, ap, ◌∙◌, subst, true}
use Rattle.std.proofs.lemmas.Bool.{false≢true}
use Rattle.std.specs.declared.result.Result.TheVariants.{Ok, Err}
use Rattle.kishu_cli.specs.declared.call.Call.TheVariants.{SyncFolder}
use Rattle.kishu_cli.specs.declared.real.Store.{Store}
use Rattle.kishu_cli.specs.declared.real.Store.TheVariants.{Unopened, New, Open, Failed}
use Rattle.kishu_cli.specs.Calls.{History}
use Rattle.kishu_cli.specs.Adapters.{is_open, Synced, SyncFailed, file_synced, folder_synced, file_failed, folder_failed}
use Rattle.kishu_cli.proofs.Transfers.{on-err}
use Rattle.kishu_cli.proofs.real.RealHost.sync_open.Goals as goal

-- a store that is open, and not new
not_new : (store : Store) → is_open store ≡ true → (store ≡ New → ⊥) → store ≡ Open
not_new Unopened is differs = absurd (false≢true is)
not_new New is differs = absurd (differs refl)
not_new Open is differs = refl
not_new Failed is differs = absurd (false≢true is)

pub returns-in_err-sync-clause-err : goal.returns-in_err-sync-clause-err
returns-in_err-sync-clause-err g c =
    let old = g.S.System.history c.args.self.now.system in let store = c.args.self.now.store in
    on-err _ (subst (λ (new : History). SyncFailed store old store new) (sym c.in_err-sync.ensures) (file_failed store old _))

pub returns-in_err-sync_folder-clause-err : goal.returns-in_err-sync_folder-clause-err
returns-in_err-sync_folder-clause-err g c =
    let old = g.S.System.history c.args.self.now.system in let e = c.in_err-sync_folder.field-0.0 in let now = g.S.System.history c.sync_folder.new.self in
    let is = c.in_err-sync_folder.ensures ∙ ap (λ (past : History). (SyncFolder (Err e), []) ∷ past) c.in_ok-sync.ensures in
    on-err _ (subst (λ (s : Store). SyncFailed s old s now) (sym c.in-New.is) (subst (λ (new : History). SyncFailed New old New new) (sym is) (folder_failed old e)))

pub returns-in_ok-sync_folder-clause-ok : goal.returns-in_ok-sync_folder-clause-ok
returns-in_ok-sync_folder-clause-ok g c =
    let old = g.S.System.history c.args.self.now.system in let now = g.S.System.history c.sync_folder.new.self in
    let is = c.in_ok-sync_folder.ensures ∙ ap (λ (past : History). (SyncFolder (Ok record {}), []) ∷ past) c.in_ok-sync.ensures in
    subst (λ (s : Store). Synced s old Open now) (sym c.in-New.is) (subst (λ (new : History). Synced New old Open new) (sym is) (folder_synced old))

pub returns-in_default : goal.returns-in_default
returns-in_default g c =
    let old = g.S.System.history c.args.self.now.system in let now = g.S.System.history c.sync.new.self in
    let is_old = not_new c.args.self.now.store c.requires c.in_default.not-New in
    record {
      ok = subst (λ (s : Store). Synced s old s now) (sym is_old) (subst (λ (new : History). Synced Open old Open new) (sym c.in_ok-sync.ensures) (file_synced old));
      err = tt;
      disk = refl;
      out = refl;
    }
