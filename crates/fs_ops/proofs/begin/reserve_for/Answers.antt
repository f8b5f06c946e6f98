use Rattle.std.proofs.Common.{Some, subst, Option, ap, ◌∙◌}
use Rattle.fs_names.specs.declared.limits.Limits.TheVariants.{V1}
use Rattle.fs_calls.specs.Forms.{reserves}
use Rattle.fs_names.specs.Shapes.{Shape}
use Rattle.fs_nodes.specs.Seen.{Seen, seen}
use Rattle.fs_nodes.specs.Stores.{graph_of}
use Rattle.fs_ops.specs.code.Reservations.{HasReserved}
use Rattle.fs_machine.specs.OpValues.{IsSpare}
use Rattle.fs_ops.proofs.BeginLemmas.{reserved_spare, only}
use Rattle.fs_ops.proofs.begin.reserve_for.Goals as goal

pub returns-in_ok-reserve_counted-in-Some-clause-ok : goal.returns-in_ok-reserve_counted-in-Some-clause-ok
returns-in_ok-reserve_counted-in-Some-clause-ok c =
    let old = c.args.store.now in
    let new = graph_of c.reserve_counted.new.self in
    let r = c.in_ok-reserve_counted-in-Some.ensures in
    let n = c.in_ok-reserve_counted-in-Some.field-0 in
    subst (λ (o : Option Shape). HasReserved (graph_of old) (seen old).limit o (Some n) new) (c.in-Some.ensures V1 ∙ ap reserves c.target.ensures.by_text) (record {
      reserves = record { within = r.within; free = r.free; added = ap (λ (s : Seen). s.graph) r.change };
      spare = only n (IsSpare new) (reserved_spare (graph_of old) c.in-Some.kind n new r.unlinked r.not_root (ap (λ (s : Seen). s.graph) r.change));
    })
