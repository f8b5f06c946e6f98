use Rattle.std.proofs.Common.{rules, ◌≡◌, ◌<◌, Some, arith}
use Rattle.fs_embed.specs.Calls.{BeginsCall, IsNotBegun}
use Rattle.fs_embed.specs.Keeping.{After}
use Rattle.fs_embed.specs.Requests.{asked}
use Rattle.atomfs_c.specs.Exports.{Goes, to_keep}
use Rattle.atomfs_c.proofs.Called.{goes, stays_open, not_begun}
use Rattle.atomfs_c.proofs.calls.begin.Goals as goal

pub returns-in-Ok-clause-begun : goal.returns-in-Ok-clause-begun
returns-in-Ok-clause-begun c =
    let is_old : c.args.handle.now.held.core ≡ Some c.deref_mut.result.now = search rules in
    let is_new : c.put.new.handle.held.core ≡ Some c.begin_kept-begun.new.core = search rules in
    let is_most : c.to_keep-most.result ≡ to_keep c.args.handle.now.most = search rules in
    let there : Goes (After (to_keep c.args.handle.now.most) (λ a b. BeginsCall a c.args.seat (asked c.args.request) c.get.result b)) c.args.handle.now.held.core c.put.new.handle.held.core =
    goes (After (to_keep c.args.handle.now.most) (λ a b. BeginsCall a c.args.seat (asked c.args.request) c.get.result b))
    c.args.handle.now.held.core c.put.new.handle.held.core c.deref_mut.result.now c.begin_kept-begun.new.core is_old is_new
    (rw (c.new.ensures, is_most, ← c.get.ensures) at c.in-Ok.ensures.begun)
    in
    record {
      begun = λ _. there;
      refused = λ r. absurd (let above : 4 < 0 = r.above in omega (arith, above));
      closed = stays_open (After (to_keep c.args.handle.now.most) (λ a b. BeginsCall a c.args.seat (asked c.args.request) c.get.result b)) 0 c.args.handle.now.held.core c.put.new.handle.held.core there (λ at. let closed : 0 ≡ 4 = at in omega (arith, closed));
    }

pub returns-in-Err-clause-begun : goal.returns-in-Err-clause-begun
returns-in-Err-clause-begun c =
    let is_old : c.args.handle.now.held.core ≡ Some c.deref_mut.result.now = search rules in
    let is_new : c.put.new.handle.held.core ≡ Some c.begin_kept-begun.new.core = search rules in
    let is_most : c.to_keep-most.result ≡ to_keep c.args.handle.now.most = search rules in
    let came : After (to_keep c.args.handle.now.most) (λ a b. IsNotBegun a c.args.seat (asked c.args.request) c.in-Err.why b) c.deref_mut.result.now c.begin_kept-begun.new.core =
    rw (c.new.ensures, is_most) at c.in-Err.ensures.refused
    in
    not_begun (to_keep c.args.handle.now.most) (asked c.args.request) c.args.seat c.args.number.now c.args.handle.now.held.core c.put.new.handle.held.core
    c.deref_mut.result.now c.begin_kept-begun.new.core is_old is_new c.in-Err.why c.begin_status.result came c.begin_status.ensures.number c.begin_status.ensures.refused
