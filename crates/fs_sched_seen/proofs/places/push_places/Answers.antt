use Rattle.std.proofs.Common.{[], ◌∷◌, ◌++◌, map, ap, sym, ◌∙◌, append_assoc}
use Rattle.std.specs.List.{range_with_len}
use Rattle.fs_sched_seen.specs.Calls.{place_on}
use Rattle.fs_sched_seen.proofs.ListLemmas.{map_more}
use Rattle.fs_sched_seen.proofs.places.push_places.Goals as goal

pub loop-turn-preserved : goal.loop-turn-preserved
loop-turn-preserved c =
    let old = c.args.places.now.items in
    let one = place_on c.args.seat c.loop-turn.turn in
    c.in_ok-push.ensures.items ∙ ap (λ l. l ++ one ∷ []) c.loop-turn.invariant ∙ append_assoc old (map (place_on c.args.seat) (range_with_len 0 c.loop-turn.turn)) (one ∷ []) ∙ ap (λ l. old ++ l) (sym (map_more (place_on c.args.seat) c.loop-turn.turn))
