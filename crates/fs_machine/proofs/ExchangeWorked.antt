-- Worked moves of an exchange, computed.
use Rattle.std.proofs.Common.{◌≡◌, [], ◌∷◌, Option, Some, None, refl}
use Rattle.fs_names.specs.Names.{Name}
use Rattle.fs_names.specs.Shapes.{Dir, File}
use Rattle.fs_names.specs.declared.limits.Limits.TheVariants.{V1}
use Rattle.fs_calls.specs.Forms.{form}
use Rattle.fs_calls.specs.declared.call.Call.{Call}
use Rattle.fs_calls.specs.declared.call.Call.TheVariants.{Exchange}
use Rattle.fs_calls.specs.declared.errno.Errno.TheVariants.{Enoent, Ebusy, Einval}
use Rattle.fs_calls.specs.declared.reply.Reply.TheVariants.{Done, Failed}
use Rattle.fs_calls.specs.Graphs.{Graph, empty_graph, reserved_in, linked_in}
use Rattle.fs_machine.specs.Finishes.{finish}
use Rattle.fs_machine.specs.Moves.{next}
use Rattle.fs_machine.specs.declared.moves.Move.TheVariants.{Take as Takes, Finish as Finishes}
use Rattle.fs_machine.specs.declared.moves.Moved.TheVariants.{Nothing, Two}
use Rattle.fs_machine.specs.Records.{Holdings, holdings_at, Walking, Record}

abbrev pub a : Name
a = 97 ∷ []

abbrev pub b : Name
b = 98 ∷ []

abbrev pub z : Name
z = 122 ∷ []

-- /a is the node 1, a directory, and /b the node 2, a file
abbrev pub two : Graph
two = linked_in 0 b 2 (linked_in 0 a 1 (reserved_in 2 (File []) (reserved_in 1 (Dir []) empty_graph)))

abbrev pub call_at : Call → Option Holdings → Record
call_at call st = record { seat = 0; call = call; walked = []; remaining = form V1 call; holdings = st; phase = Walking; reserved = None; removed = None }

abbrev pub at_root : Call → Record
at_root call = call_at call (Some (holdings_at 0 None))

pub takes_root : next two (call_at (Exchange (a ∷ []) (b ∷ [])) None) ≡ Takes 0
takes_root = refl

pub moves_both : next two (at_root (Exchange (a ∷ []) (b ∷ []))) ≡ Finishes (Two 1 2)
moves_both = refl

pub other_way : next two (at_root (Exchange (b ∷ []) (a ∷ []))) ≡ Finishes (Two 2 1)
other_way = refl

pub onto_itself : next two (at_root (Exchange (a ∷ []) (a ∷ []))) ≡ Finishes Nothing
onto_itself = refl

pub of_missing : next two (at_root (Exchange (a ∷ []) (z ∷ []))) ≡ Finishes Nothing
of_missing = refl

pub missing_error : (finish two (at_root (Exchange (z ∷ []) (z ∷ [])))).reply ≡ Failed Enoent
missing_error = refl

pub root_error : (finish two (call_at (Exchange [] (a ∷ [])) None)).reply ≡ Failed Ebusy
root_error = refl

pub prefix_error : (finish two (call_at (Exchange (b ∷ a ∷ []) (b ∷ [])) None)).reply ≡ Failed Einval
prefix_error = refl

pub reply : (finish two (at_root (Exchange (a ∷ []) (b ∷ [])))).reply ≡ Done
reply = refl

pub at_a : (finish two (at_root (Exchange (a ∷ []) (b ∷ [])))).graph.child 0 a ≡ Some 2
at_a = refl

pub at_b : (finish two (at_root (Exchange (a ∷ []) (b ∷ [])))).graph.child 0 b ≡ Some 1
at_b = refl
