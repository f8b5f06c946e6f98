use Rattle.std.proofs.Common.{◌≡◌, refl, sym, ap, length, arith, subst}
use Rattle.fs_linearize_configurations.specs.code.Calls.{CommitsNow, AreEach}
use Rattle.fs_linearize_configurations.specs.declared.reached.Reached.{Reached}
use Rattle.fs_linearize_configurations.specs.declared.steps.Link.{Link}
use Rattle.fs_linearize_configurations.proofs.SearchLemmas.{adds_commit, adds_commit_seen}
use Rattle.fs_linearize_configurations.proofs.widening.add_commit.Goals as goal

pub returns-then-contains : goal.returns-then-contains
returns-then-contains c = λ h each way.
    let r = c.args.reached.now in
    let u = c.args.call.now in
    let done = subst (CommitsNow r.configuration u) c.in-Some.is c.in_ok-configuration.ensures in
    adds_commit_seen h r u c.in-Some.configuration c.args.links.now.items c.args.layer.now done (c.contains.ensures.0 c.if-contains.true)

pub returns-in_ok-add-in-Some : goal.returns-in_ok-add-in-Some
returns-in_ok-add-in-Some c = λ h each way.
    let r = c.args.reached.now in
    let u = c.args.call.now in
    let s : Reached = record { configuration = c.in-Some.configuration; last = c.len.result } in
    let link : Link = record { number = u.number; at = c.passed_count.result; before = r.last } in
    let last : c.len.result ≡ length c.push.new.self.items = omega (arith, c.len.ensures, c.push.new.self.ok.0) in
    let done = subst (CommitsNow r.configuration u) c.in-Some.is c.in_ok-configuration.ensures in
    adds_commit h r s u link c.args.links.now.items c.push.new.self.items c.add.new.links.items c.args.layer.now c.add.new.layer c.in_ok-push-in-Some.ensures.items refl c.passed_count.ensures refl last done way
    (c.in_ok-add-in-Some.ensures h (subst (λ n. AreEach h n c.args.calls.now) (sym (ap (λ z. z.at) done.1)) each))
