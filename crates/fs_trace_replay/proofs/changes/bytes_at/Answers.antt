use Rattle.std.proofs.Common.{◌≡◌, ◌+◌, ◌≤◌, ◌++◌, sym, ap, ◌∙◌, arith}
use Rattle.std.proofs.lemmas.List.{take_all}
use Rattle.std.proofs.Math.Seq.{take-add}
use Rattle.fs_names.specs.Limits.{read_limit}
use Rattle.fs_trace_replay.specs.code.Sights.{bytes_in}
use Rattle.fs_trace_replay.proofs.ChangeLemmas.{read_tells}
use Rattle.fs_trace_replay.proofs.changes.bytes_at.Goals as goal

pub loop-off-preserved : goal.loop-off-preserved
loop-off-preserved c =
    let tree = c.args.tree.now in
    let off = c.loop-off.off in
    let count = c.min-count.result in
    let most : c.read-most.result ≡ read_limit tree.limits = c.read-most.ensures ∙ ap read_limit c.limits.ensures in
    let few : count ≤ read_limit tree.limits = omega (arith, c.min-count.ensures, most) in
    let within : off + count ≤ c.args.size = omega (arith, c.min-count.ensures, c.loop-off.invariant.within) in
    record {
      within = within;
      read = λ bytes there.
          c.in_ok-extend_from_slice.ensures.items
          ∙ (λ i. c.loop-off.invariant.read bytes there i ++ (c.as_slice.ensures ∙ c.bytes_in-piece.ensures ∙ ap bytes_in c.in_ok-read_at.ensures ∙ read_tells tree.limits tree.tree c.args.path.now bytes off count c.requires there few) i)
          ∙ sym (take-add off count bytes);
    }

pub returns : goal.returns
returns c bytes there long =
    c.new.ensures ∙ c.loop-off.invariant.read bytes there ∙ take_all c.loop-off.off bytes (omega (arith, c.loop-off-test.false, long))
