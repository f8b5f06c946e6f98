use Rattle.std.proofs.Common.{◌++◌, length, ap, sym, ◌∙◌}
use Rattle.fs_sched_seen.specs.Calls.{places_on, places_at}
use Rattle.fs_sched_seen.proofs.ListLemmas.{flat_more}
use Rattle.fs_sched_seen.proofs.places.places_of.Goals as goal

pub loop-seat-preserved : goal.loop-seat-preserved
loop-seat-preserved c =
    let lists = c.args.lists.now in
    let seat = c.loop-seat.seat in
    c.in_ok-push_places.ensures ∙ ap (λ calls. c.loop-seat.places.items ++ places_on seat (length calls)) c.of.ensures ∙ ap (λ l. l ++ places_at lists seat) c.loop-seat.invariant ∙ sym (flat_more (places_at lists) seat)
