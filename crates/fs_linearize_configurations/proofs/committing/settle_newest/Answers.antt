use Rattle.std.proofs.Common.{◌-◌, length}
use Rattle.fs_linearize_configurations.proofs.SearchLemmas.{contains_got}
use Rattle.fs_linearize_configurations.proofs.committing.settle_newest.Goals as goal

pub returns-in_ok-settle_one-in-Some : goal.returns-in_ok-settle_one-in-Some
returns-in_ok-settle_one-in-Some c = λ h each.
    let us = c.args.calls.now in
    let call = c.in-Some.call.now in
    c.in_ok-settle_one-in-Some.ensures h (each call (contains_got us (length us - 1) call c.in-Some.ensures.value))
