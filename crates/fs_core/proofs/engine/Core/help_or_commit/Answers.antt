use Rattle.std.proofs.Common.{◌+◌, Some, None, refl, sym, ◌∙◌}
use Rattle.std.specs.List.{length_refill}
use Rattle.fs_core.proofs.Doing.{help_fits, help_place, help_some, helped_kept, fits_below}
use Rattle.fs_core.proofs.Choosing.{search_by, chosen_if}
use Rattle.fs_core.proofs.Indexing.{commit_next}
use Rattle.fs_core_seats.proofs.SeatLemmas.{length_after}
use Rattle.fs_core.proofs.Starting.{starting_helped}
use Rattle.fs_ops_effects.specs.Plans.{moved_by}
use Rattle.fs_core_seats.proofs.Among.{listed_by}
use Rattle.fs_core.proofs.Among.{among_helped}
use Rattle.fs_core.proofs.engine.Core.help_or_commit.Goals as goal

pub to_help_before-requires-clause-can : goal.to_help_before-requires-clause-can
to_help_before-requires-clause-can c = search_by _ _ _ _ c.deref.result.now c.first.result.now c.self.invariant.0 (listed_by _ _ _ _ c.self.invariant.3 c.first.ensures.inside c.first.ensures.each) c.deref.ensures.value

pub give_place-helped-requires : goal.give_place-helped-requires
give_place-helped-requires c =
    help_some _ (moved_by c.args.plan) c.in-Some.other _ (chosen_if _ _ _ _ c.deref.result.now c.self.invariant.0 c.deref.ensures.value (moved_by c.args.plan) (Some c.in-Some.other) (rw c.moved.ensures at c.in-Some.ensures.chosen)) c.index_mut.ensures.value

pub commit-requires-clause-alone : goal.commit-requires-clause-alone
commit-requires-clause-alone c = chosen_if _ _ _ _ c.deref.result.now c.self.invariant.0 c.deref.ensures.value (moved_by c.args.plan) None (rw c.moved.ensures at c.in-None.ensures.chosen)

pub overflow_add-self : goal.overflow_add-self
overflow_add-self c =
    let fits = help_fits _ _ _ _ (moved_by c.args.plan) c.in-Some.other c.self.invariant.0 (chosen_if _ _ _ _ c.deref.result.now c.self.invariant.0 c.deref.ensures.value (moved_by c.args.plan) (Some c.in-Some.other) (rw c.moved.ensures at c.in-Some.ensures.chosen)) in
    fits_below c.self.inside.begun (c.self.inside.commits + 1) fits c.self.ranges.1.1.1.0.1

pub push-requires-clause-place : goal.push-requires-clause-place
push-requires-clause-place c = help_place _ _ _ _ (moved_by c.args.plan) c.in-Some.other c.self.invariant.0 (chosen_if _ _ _ _ c.deref.result.now c.self.invariant.0 c.deref.ensures.value (moved_by c.args.plan) (Some c.in-Some.other) (rw c.moved.ensures at c.in-Some.ensures.chosen))

pub push-requires-clause-fits : goal.push-requires-clause-fits
push-requires-clause-fits c =
    commit_next _ _ _ _ c.self.inside.timeline.entries c.give_place-helped.result refl
    (helped_kept _ _ _ _ c.args.seat c.args.call (moved_by c.args.plan) c.self.invariant.0 (rw (← c.self.view_is) at c.requires.moves) (rw (← c.self.view_is) at c.requires.walking) c.in-Some.other (chosen_if _ _ _ _ c.deref.result.now c.self.invariant.0 c.deref.ensures.value (moved_by c.args.plan) (Some c.in-Some.other) (rw c.moved.ensures at c.in-Some.ensures.chosen))
    c.give_place-helped.result c.index_mut.result.now c.give_place-helped.new.slot c.index_mut.ensures.value c.give_place-helped.ensures.call c.give_place-helped.ensures.slot).1

pub invariant_of-self : goal.invariant_of-self
invariant_of-self c = rw c.push.ensures (
  (helped_kept _ _ _ _ c.args.seat c.args.call (moved_by c.args.plan) c.self.invariant.0 (rw (← c.self.view_is) at c.requires.moves) (rw (← c.self.view_is) at c.requires.walking) c.in-Some.other (chosen_if _ _ _ _ c.deref.result.now c.self.invariant.0 c.deref.ensures.value (moved_by c.args.plan) (Some c.in-Some.other) (rw c.moved.ensures at c.in-Some.ensures.chosen))
      c.give_place-helped.result c.index_mut.result.now c.give_place-helped.new.slot c.index_mut.ensures.value c.give_place-helped.ensures.call c.give_place-helped.ensures.slot).1,
  length_after _ _ _ _ (sym (length_refill c.self.inside.ways.len c.self.inside.ways.items c.to_help_before.new.ways c.self.inside.ways.ok.0) ∙ c.self.inside.ways.ok.0 ∙ c.self.invariant.1),
  starting_helped _ (moved_by c.args.plan) _ c.in-Some.other c.self.inside.commits c.index_mut.result.now c.give_place-helped.new.slot
      (chosen_if _ _ _ _ c.deref.result.now c.self.invariant.0 c.deref.ensures.value (moved_by c.args.plan) (Some c.in-Some.other) (rw c.moved.ensures at c.in-Some.ensures.chosen))
      c.self.invariant.2 c.index_mut.ensures.value c.give_place-helped.ensures.slot,
  among_helped _ (moved_by c.args.plan) _ _ c.in-Some.other c.give_place-helped.new.slot
      (chosen_if _ _ _ _ c.deref.result.now c.self.invariant.0 c.deref.ensures.value (moved_by c.args.plan) (Some c.in-Some.other) (rw c.moved.ensures at c.in-Some.ensures.chosen)) c.self.invariant.3,
)

pub returns-in-Some-clause-step : goal.returns-in-Some-clause-step
returns-in-Some-clause-step c = rw (c.push.ensures, ← c.self.view_is)
    (helped_kept _ _ _ _ c.args.seat c.args.call (moved_by c.args.plan) c.self.invariant.0 (rw (← c.self.view_is) at c.requires.moves) (rw (← c.self.view_is) at c.requires.walking) c.in-Some.other (chosen_if _ _ _ _ c.deref.result.now c.self.invariant.0 c.deref.ensures.value (moved_by c.args.plan) (Some c.in-Some.other) (rw c.moved.ensures at c.in-Some.ensures.chosen))
    c.give_place-helped.result c.index_mut.result.now c.give_place-helped.new.slot c.index_mut.ensures.value c.give_place-helped.ensures.call c.give_place-helped.ensures.slot).0
