use Rattle.std.proofs.Common.{◌-◌, ◌<◌, length, Some, ap, ◌∙◌, arith}
use Rattle.fs_linearize_histories.proofs.PrefixLemmas.{history_take}
use Rattle.fs_linearize.proofs.FindingLemmas.{here_at}
use Rattle.fs_linearize.proofs.PlaceLemmas.{narrows_first, narrowed, never_begin}
use Rattle.fs_linearize.proofs.first_return.first_place.Goals as goal

pub loop-middle-init : goal.loop-middle-init
loop-middle-init g c = narrows_first c.args.start.now c.args.history.now c.args.held c.requires.held

pub find_way-requires : goal.find_way-requires
find_way-requires g c = history_take c.args.history.now c.in-Some.middle c.requires.history

pub unreachable-requires : goal.unreachable-requires
unreachable-requires g c =
    let h = c.args.history.now in
    let high = c.loop-middle.high in
    let inside = c.loop-middle.invariant.within in
    let apart = c.loop-middle.invariant.apart in
    let small : high - 1 < length h = omega (arith, inside, apart) in
    let here = here_at h (high - 1) c.index-history-high.result small c.index-history-high.is in
    never_begin c.args.start.now h high c.in-Begin.field-0 c.in-Begin.field-1 c.in-Begin.field-2 c.requires.history (narrowed c.args.start.now h c.loop-middle.low high c.loop-middle.invariant c.in_default.ensures.none) (here ∙ ap Some c.in-Begin.is)

pub returns : goal.returns
returns g c =
    let h = c.args.history.now in
    let high = c.loop-middle.high in
    let inside = c.loop-middle.invariant.within in
    let apart = c.loop-middle.invariant.apart in
    let small : high - 1 < length h = omega (arith, inside, apart) in
    let here = here_at h (high - 1) c.index-history-high.result small c.index-history-high.is in
    (narrowed c.args.start.now h c.loop-middle.low high c.loop-middle.invariant c.in_default.ensures.none, (c.in-Return.field-1, here ∙ ap Some c.in-Return.is))
