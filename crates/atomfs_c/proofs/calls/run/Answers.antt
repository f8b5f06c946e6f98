use Rattle.std.proofs.Common.{rules, ◌≡◌, Some}
use Rattle.fs_embed.specs.Calls.{RunsCall}
use Rattle.fs_embed.specs.Keeping.{After}
use Rattle.fs_embed.specs.Requests.{asked}
use Rattle.atomfs_c.specs.Exports.{to_keep}
use Rattle.atomfs_c.proofs.Called.{comes_not, goes}
use Rattle.atomfs_c.proofs.calls.run.Goals as goal

pub returns-in-Ok-clause-came : goal.returns-in-Ok-clause-came
returns-in-Ok-clause-came c =
    let is_old : c.args.handle.now.held.core ≡ Some c.deref_mut.result.now = search rules in
    let is_new : c.put.new.handle.held.core ≡ Some c.run_kept-ran.new.core = search rules in
    let is_most : c.to_keep-most.result ≡ to_keep c.args.handle.now.most = search rules in
    goes (After (to_keep c.args.handle.now.most) (λ a b. RunsCall a c.args.seat (asked c.args.request) c.get.result c.in-Ok.done.reply b))
    c.args.handle.now.held.core c.put.new.handle.held.core c.deref_mut.result.now c.run_kept-ran.new.core is_old is_new
    (rw (c.new.ensures, is_most, ← c.get.ensures) at c.in-Ok.ensures.returned)

pub returns-in-Err-clause-came : goal.returns-in-Err-clause-came
returns-in-Err-clause-came c =
    let is_old : c.args.handle.now.held.core ≡ Some c.deref_mut.result.now = search rules in
    let is_new : c.put.new.handle.held.core ≡ Some c.run_kept-ran.new.core = search rules in
    let is_most : c.to_keep-most.result ≡ to_keep c.args.handle.now.most = search rules in
    comes_not (to_keep c.args.handle.now.most) (asked c.args.request) c.args.seat c.tell_why.new.number c.args.handle.now.held.core c.put.new.handle.held.core
    c.deref_mut.result.now c.run_kept-ran.new.core is_old is_new c.in-Err.why c.tell_why.result (rw (c.new.ensures, is_most) at c.in-Err.ensures.unreturned) c.tell_why.ensures.told
