use Rattle.std.proofs.Common.{◌≡◌, ℕ, ◌<◌, length, get_or, ◌∙◌, refl, arith, subst}
use Rattle.std.proofs.lemmas.List.{length-set}
use Rattle.fs_nodes.specs.Stores.{child}
use Rattle.fs_core_seats.specs.code.Searches.{AreWays}
use Rattle.fs_core_seats.proofs.Ways.{ways_more}
use Rattle.fs_core_seats.proofs.helping.find_ways.Goals as goal

pub loop-i-preserved : goal.loop-i-preserved
loop-i-preserved c =
    let inside : get_or c.args.listed.now c.loop-i.i 0 < length c.args.seats.now = c.requires.can.all.inside c.loop-i.i c.loop-i-test.true in
    let within : get_or c.args.listed.now c.loop-i.i 0 < length c.loop-i.ways = omega (arith, inside, c.loop-i.invariant.same, c.requires.ways) in
    record {
      ways = ways_more (child c.args.store.now) c.args.seats.now c.args.moved.now c.args.listed.now c.loop-i.i c.loop-i.ways _ c.way_of.result within refl c.way_of.ensures c.loop-i.invariant.ways;
      same = length-set c.loop-i.ways (get_or c.args.listed.now c.loop-i.i 0) c.way_of.result ∙ c.loop-i.invariant.same;
    }

pub returns-clause-ways : goal.returns-clause-ways
returns-clause-ways c =
    let e : c.loop-i.i ≡ length c.args.listed.now = omega (arith, c.loop-i-test.false, c.loop-i.auto.i-end) in
    subst (λ (i : ℕ). AreWays (child c.args.store.now) c.args.seats.now c.args.moved.now c.args.listed.now i c.loop-i.ways) e c.loop-i.invariant.ways
