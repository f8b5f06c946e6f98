use Rattle.std.proofs.Common.{◌∙◌, refl, sym, ap}
use Rattle.fs_blocks.specs.Files.{FileValue}
use Rattle.fs_calls.specs.Tree.{inserted, File}
use Rattle.fs_seq_nodes.specs.code.Nodes.{graph}
use Rattle.fs_seq_nodes.specs.code.Slots.{tree_of}
use Rattle.fs_seq.specs.code.Effects.{making_fault}
use Rattle.fs_calls.specs.declared.call.Call.TheVariants.{Mknod}
use Rattle.fs_seq.proofs.Made.{mknod_fault}
use Rattle.fs_seq.proofs.Replies.{answers, needs, IfOk-map, OnErr-map}
use Rattle.fs_seq.proofs.create.mknod.Goals as goal

pub returns-clause-given : goal.returns-clause-given
returns-clause-given c =
    let g = graph c.args.nodes.now in
    let p = c.args.path.now in
    IfOk-map c.make.result (λ r given. answers c.args.limits g (graph c.make.new.nodes) (Mknod p) (making_fault c.args.limits (tree_of g) p) _ _ r (mknod_fault c.args.limits (tree_of g) p) refl (ap (λ (z : FileValue). inserted (tree_of g) p (File z.bytes)) (sym c.empty.ensures)) c.make.ensures.form given) c.make.ensures.given

pub returns-clause-memory : goal.returns-clause-memory
returns-clause-memory c =
    let t = tree_of (graph c.args.nodes.now) in
    OnErr-map c.make.result (λ sound. needs c.args.limits t (Mknod c.args.path.now) (mknod_fault c.args.limits t c.args.path.now ∙ sound) refl) c.make.ensures.memory
