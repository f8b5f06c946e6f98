use Rattle.std.proofs.Common.{List, take, sym, subst, ◌∙◌}
use Rattle.fs_timeline.specs.declared.entry.Entry.{Entry}
use Rattle.fs_linearize_histories.specs.Heard.{entries}
use Rattle.fs_linearize.specs.code.Knowing.{IsKnown}
use Rattle.fs_linearize_configurations.proofs.HeardLemmas.{entries_more}
use Rattle.fs_linearize.proofs.HeardLemmas.{fault_here, fault_later, fault_never}
use Rattle.fs_linearize.proofs.faults.first_fault.Goals as goal

pub returns-in-Some : goal.returns-in-Some
returns-in-Some c =
    let h = c.args.history.now in
    let i = c.loop-place.place in
    let x = c.index-history-place.result in
    fault_here h i x c.in-Some.kind c.loop-place-test.true c.index-history-place.is c.loop-place.invariant.left (sym (c.fault.ensures (entries (take i h)) c.loop-place.invariant.known) ∙ c.in-Some.is)

pub loop-place-preserved : goal.loop-place-preserved
loop-place-preserved c =
    let h = c.args.history.now in
    let i = c.loop-place.place in
    let x = c.index-history-place.result in
    let small = c.loop-place-test.true in
    let is = c.index-history-place.is in
    let known = c.loop-place.invariant.known in
    record {
      known = subst (λ (es : List Entry). IsKnown es c.take_in.new.self) (sym (entries_more h i x small is)) (c.in_ok-take_in.ensures (entries (take i h)) known);
      left = fault_later h i x small is c.loop-place.invariant.left (sym (c.fault.ensures (entries (take i h)) known) ∙ c.in_default.is);
    }

pub returns : goal.returns
returns c = fault_never c.args.history.now c.loop-place.place c.loop-place-test.false c.loop-place.invariant.left
