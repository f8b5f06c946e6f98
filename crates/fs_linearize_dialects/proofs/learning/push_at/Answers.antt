use Rattle.std.proofs.Common.{List, Option, subst}
use Rattle.std.specs.Prelude.{IfOk}
use Rattle.fs_linearize_dialects.specs.declared.dialect.Row.{Row}
use Rattle.fs_linearize_dialects.specs.code.Steps.{Adds}
use Rattle.fs_linearize_dialects.proofs.LearnLemmas.{match_may, cannot_be, adds_none, rows_else}
use Rattle.fs_linearize_dialects.proofs.learning.push_at.Goals as goal

pub returns-then-matches : goal.returns-then-matches
returns-then-matches c = adds_none c.args.name c.args.ours.now c.args.known.now c.args.rows.now.items (match_may c.args.known.now c.args.ours.now (c.matches.ensures.0 c.if-matches.true))

pub returns : goal.returns
returns c =
    subst (λ (o : Option (List Row)). IfOk c.push_known.result (Adds o c.args.rows.now.items c.push_known.new.rows.items))
    (rows_else c.args.name c.args.ours.now c.args.known.now (cannot_be c.args.known.now c.args.ours.now c.matches.result c.matches.ensures.1 c.if-matches.false)) c.push_known.ensures
