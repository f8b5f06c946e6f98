-- On calls that answer at a node.
use Rattle.std.proofs.Common.{◌≡◌, ℕ, List, Option, Some, None}
use Rattle.fs_nodes.specs.Graphs.{Graph}
use Rattle.fs_calls.specs.declared.reply.Reply.{Reply}
use Rattle.fs_ops_effects.specs.declared.finish.Finish.{Finish}
use Rattle.fs_ops_effects.specs.Endings.{IsEffect}
use Rattle.fs_ops_effects.specs.Replies.{refilled}
use Rattle.fs_machine.specs.Finishes.{node_effect}

-- a row's reply and its change are its effect
pub row_effect : (graph : Graph) (n : ℕ) (reserved : Option ℕ) (row : Reply × Option (List ℕ)) (finish : Finish) (new : Graph) → finish.replies ≡ row.0 → finish.reserved ≡ reserved → finish.removed ≡ None → new ≡ refilled n row.1 graph
    → IsEffect (node_effect graph n reserved row) finish new
row_effect graph n reserved (r, None) finish new a b c d = record { reply = a; reserved = b; removed = c; graph_is = d }
row_effect graph n reserved (r, Some bytes) finish new a b c d = record { reply = a; reserved = b; removed = c; graph_is = d }
