use Rattle.std.proofs.Common.{◌++◌, List, length, sym, ap, ap₂, ◌∙◌}
use Rattle.std.proofs.lemmas.List.{length-map}
use Rattle.std.specs.Global.{Vec}
use Rattle.fs_calls.specs.declared.call.Call.{Call}
use Rattle.fs_sched_seen.specs.code.Meetings.{IsOf}
use Rattle.fs_sched_seen.specs.declared.places.Place.{Place}
use Rattle.fs_sched_outcomes.specs.Lines.{labels_of, rows_text, seen_text}
use Rattle.fs_sched_outcomes.specs.Outcomes.{seen_in}
use Rattle.fs_sched_outcomes.specs.declared.rows.Row.{Row}
use Rattle.fs_sched_outcomes.proofs.OutcomeLemmas.{outcomes_made}
use Rattle.fs_sched_outcomes.proofs.running.outcomes_of.Goals as goal

pub returns-in-Ok-lines_of-clause-lines : goal.returns-in-Ok-lines_of-clause-lines
returns-in-Ok-lines_of-clause-lines g c =
    let drawn = c.args.campaign.now in
    let script = c.args.script.now in
    let rows = c.in-Ok-in_order.rows.items in
    let seed = c.args.seed in
    let runs = c.args.runs in
    let (timelines, are, count, have) = c.in_ok-sums.ensures.met in
    let first : IsOf c.new-met.result script.lists = c.new-met.ensures.threads script.lists (c.deref.ensures.value ∙ c.in-Ok.ensures) (sym (length-map c.as_slice.result.now (λ (calls : Vec Call). calls.items)) ∙ ap length c.as_slice.ensures) in
    let pairs = c.pairs.ensures script.lists timelines (c.deref-4.ensures.value ∙ c.in-Ok.ensures) (c.in_ok-sums.ensures.script script.lists first) have in
    let seen = c.seen_in-seen.ensures ∙ ap₂ (λ rs ps. seen_in rs seed runs ps) c.deref-3.ensures.value pairs in
    let text = c.in-Ok-lines_of.ensures ∙ ap₂ (λ (ps : List Place) (rs : List Row). rows_text c.args.form (labels_of script.names ps) rs ++ seen_text c.args.form c.seen_in-seen.result) (c.deref-5.ensures.value ∙ c.in-Ok.ensures) c.deref-6.ensures.value in
    (rows, outcomes_made drawn script seed runs c.in_ok-sums.sums.rows.items rows c.in_ok-sums.ensures.rows c.in-Ok-in_order.ensures.same c.in-Ok-in_order.ensures.order, (timelines, are, count, seen), text)
