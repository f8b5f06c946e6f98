use Rattle.std.proofs.Common.{◌≡◌, Err, rules, subst}
use Rattle.std.specs.Io.KnownBytes.{Appends}
use Rattle.fs_verdict.specs.Devices.{WritesBeginning}
use Rattle.fs_verdict.proofs.shell.transform.Goals as goal

pub returns-in-Err-clause-unmade : goal.returns-in-Err-clause-unmade
returns-in-Err-clause-unmade g c e told =
    let same : c.in-Err.reason ≡ e = cc in
    (c.in_ok-text.text, c.in_ok-text.ensures.same, subst (λ r. goal.F-post g c.args.make c.in_ok-text.text (Err r)) same c.in-Err.ensures)

pub returns-in-Ok-write_text-clause-made : goal.returns-in-Ok-write_text-clause-made
returns-in-Ok-write_text-clause-made g c = (
  c.in_ok-text.text,
  c.in-Ok.made,
  c.in_ok-text.ensures.same,
  c.in_ok-text.ensures.end,
  c.in-Ok.ensures,
  search rules,
  subst (Appends _ _) c.deref.ensures.value c.in-Ok-write_text.ensures.ok,
)

pub returns-in-Err-write_text-clause-beginning : goal.returns-in-Err-write_text-clause-beginning
returns-in-Err-write_text-clause-beginning g c _ = (
  c.in_ok-text.text,
  c.in-Ok.made,
  c.in_ok-text.ensures.same,
  c.in-Ok.ensures,
  subst (λ t. WritesBeginning t (g.W.Sink.contents c.args.writer.now) (g.W.Sink.contents c.write_text.new.writer)) c.deref.ensures.value c.in-Err-write_text.ensures.err,
)
