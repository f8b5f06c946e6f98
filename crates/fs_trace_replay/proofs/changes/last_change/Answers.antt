use Rattle.std.proofs.Common.{◌≡◌, ◌+◌, length, refl, sym, subst, ◌∙◌, arith}
use Rattle.fs_calls.specs.Starts.{Start}
use Rattle.fs_calls.specs.Tree.{IsTree}
use Rattle.fs_calls.proofs.TreeLaws.{stays_a_tree}
use Rattle.fs_trace_replay.specs.Changes.{IsLastChange}
use Rattle.fs_trace_replay.specs.code.Seen.{calls_in}
use Rattle.fs_trace_replay.proofs.ChangeLemmas.{behind, last_more, nothing_yet}
use Rattle.fs_trace_replay.proofs.CommitLemmas.{played_more}
use Rattle.fs_trace_replay.proofs.changes.last_change.Goals as goal

pub loop-index-init : goal.loop-index-init
loop-index-init c = record { tree = refl; is_tree = c.requires; sight = c.in_ok-sight.ensures; last = nothing_yet c.args.start (calls_in c.args.calls.now) c.args.path.now }

pub sight_at-requires-in-loop-index : goal.sight_at-requires-in-loop-index
sight_at-requires-in-loop-index c = subst (λ (s : Start). IsTree s.tree) (sym c.in_ok-_reply.ensures.tree) (stays_a_tree _ _ _ c.loop-index.invariant.is_tree)

pub loop-index-preserved : goal.loop-index-preserved
loop-index-preserved c =
    let so_far = c.loop-index.invariant in
    let played = c.in_ok-_reply.ensures.tree ∙ played_more c.args.start c.loop-index.tree c.args.calls.now c.loop-index.index c.index-calls-index.result c.loop-index-test.true c.index-calls-index.is so_far.tree in record {
      tree = played;
      is_tree = subst (λ (s : Start). IsTree s.tree) (sym c.in_ok-_reply.ensures.tree) (stays_a_tree _ _ _ so_far.is_tree);
      sight = c.in_ok-now.ensures;
      last = last_more c.args.start (calls_in c.args.calls.now) c.args.path.now c.loop-index.index _ _ _ _ _ (so_far.sight ∙ behind c.args.start c.loop-index.tree c.args.calls.now c.args.path.now c.loop-index.index so_far.tree)
          (c.in_ok-now.ensures ∙ behind c.args.start _ c.args.calls.now c.args.path.now (c.loop-index.index + 1) played) c.same.ensures c.latest-last.ensures so_far.last;
    }

pub returns : goal.returns
returns c =
    let end : c.loop-index.index ≡ length c.args.calls.now = omega (arith, c.loop-index-test.false, c.loop-index.auto.index-end) in
    subst (λ n. IsLastChange c.args.start (calls_in c.args.calls.now) c.args.path.now n c.loop-index.last) end c.loop-index.invariant.last
