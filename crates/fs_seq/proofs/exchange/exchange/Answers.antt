use Rattle.std.proofs.Common.{◌≡◌, sym, subst, refl}
use Rattle.fs_calls.specs.declared.call.Call.TheVariants.{Exchange}
use Rattle.fs_calls.specs.declared.reply.Reply.TheVariants.{Done}
use Rattle.fs_seq_nodes.specs.code.Nodes.{graph}
use Rattle.fs_seq.specs.code.Effects.{Answers}
use Rattle.fs_seq.proofs.Replies.{at_each, refused}
use Rattle.fs_seq.proofs.Exchanged.{stayed, swapped}
use Rattle.fs_seq.proofs.exchange.exchange.Goals.{then-one-two, else-one-two}
use Rattle.fs_seq.proofs.exchange.exchange.Goals as goal

pub returns-in-Err : goal.returns-in-Err
returns-in-Err c =
    let g = graph c.args.nodes.now in
    at_each g g (Exchange c.args.path.now c.args.other.now) _ (λ limits. refused limits g g (Exchange c.args.path.now c.args.other.now) c.in-Err.errno refl c.requires (c.in-Err.ensures limits))

pub returns : goal.returns
returns c =
    let g = graph c.args.nodes.now in
    let p = c.args.path.now in
    let q = c.args.other.now in
    let found = c.in-Ok.ensures in
    elim c.if-one-two.branch [
      | then-one-two w ↦
          let same : c.if-one-two.nodes ≡ w.swap.new.nodes = (let is = w.nodes-is in cc) in
          subst (λ nodes. Answers g (graph nodes) (Exchange p q) Done) (sym same)
          (swapped g c.requires p q found.0 c.in-Ok.entries.0 c.in-Ok.entries.1 found.1 found.2 w.if-one-two.true (graph w.swap.new.nodes) w.swap.ensures)
      | else-one-two w ↦
          let same : c.if-one-two.nodes ≡ c.args.nodes.now = (let is = w.nodes-is in cc) in
          subst (λ nodes. Answers g (graph nodes) (Exchange p q) Done) (sym same) (stayed g c.requires p q found.0 c.in-Ok.entries.0 c.in-Ok.entries.1 found.1 found.2 w.if-one-two.false)
    ]
