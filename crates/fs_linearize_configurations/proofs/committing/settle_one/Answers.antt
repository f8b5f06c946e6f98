use Rattle.std.proofs.Common.{◌≡◌, refl, length, arith}
use Rattle.fs_linearize_configurations.proofs.SearchLemmas.{settles_one}
use Rattle.fs_linearize_configurations.specs.declared.reached.Reached.{Reached}
use Rattle.fs_linearize_configurations.specs.declared.steps.Link.{Link}
use Rattle.fs_linearize_configurations.proofs.committing.settle_one.Goals as goal

pub returns : goal.returns
returns c = λ h way.
    let r = c.args.reached in
    let s : Reached = record { configuration = c.in_ok-hold.field-0; last = c.len.result } in
    let link : Link = record { number = c.args.call.now.number; at = c.passed_count.result; before = r.last } in
    let last : c.len.result ≡ length c.push.new.self.items = omega (arith, c.len.ensures, c.push.new.self.ok.0) in
    settles_one h c.args.links.now.items c.push.new.self.items r s c.args.call.now link c.in_ok-push.ensures.items refl c.passed_count.ensures refl last c.in_ok-hold.ensures (c.in_ok-commits_quietly.ensures c.if-not-branch.false) way
