use Rattle.std.proofs.Common.{Bor, List, ℕ, map, sym, ap, ◌∙◌}
use Rattle.fs_sched_outcomes.specs.Lines.{added_text}
use Rattle.fs_sched_outcomes.proofs.AddingLemmas.{added_made}
use Rattle.fs_sched_outcomes.proofs.adding.sum_in.Goals as goal

pub returns-in-Ok : goal.returns-in-Ok
returns-in-Ok c =
    let labels = map (λ label. label.items) c.deref-2.result.now in
    let lines = map (λ (line : Bor (List ℕ)). line.now) c.deref-3.result.now in
    let read = ap (map (λ (line : Bor (List ℕ)). line.now)) c.deref-3.ensures.value ∙ c.in_ok-lines.ensures.lines in
    let (ordered, moved, order, is) = c.in-Ok.ensures in
    let same = ap (λ ls. added_text c.args.form (map (λ label. label.items) ls) ordered) (c.deref-4.ensures.value ∙ sym c.deref-2.ensures.value) in
    record {
      added = added_made c.args.form c.args.text.now c.in-Ok.text.items labels lines c.in_ok-rows.rows.rows.items ordered read c.in_ok-rows.ensures.rows moved order (is ∙ same);
      short = c.in_ok-lines.ensures.short;
      fault = tt;
    }
