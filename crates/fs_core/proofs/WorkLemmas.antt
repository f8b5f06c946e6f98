-- Moves and finishes of a call's work, whatever its seat and its place.
use Rattle.std.proofs.Common.{◌≡◌, ℕ, Option, Some, None, refl}
use Rattle.fs_calls.specs.declared.errno.Errno.{Errno}
use Rattle.fs_calls.specs.declared.reply.Reply.{Reply}
use Rattle.fs_calls.specs.Forms.{by_paths}
use Rattle.fs_nodes.specs.Graphs.{Graph}
use Rattle.fs_machine.specs.Finishes.{effect_of, finish}
use Rattle.fs_machine.specs.Moves.{next, next_by}
use Rattle.fs_machine.specs.declared.moves.Move.TheVariants.{Finish as Finishes, Return as Ends}
use Rattle.fs_machine.specs.Records.{Holdings, Finished}
use Rattle.fs_laws.proofs.states.ComputedSteps.{by_ends}
use Rattle.fs_machine.specs.OpValues.{OpValue, phase_of, record_of, next_of}
use Rattle.fs_machine.specs.declared.moves.Moved.{Moved}

-- its next move
pub next_is : (graph : Graph) (seat : ℕ) (place : Option ℕ) (work : OpValue) → next graph (record_of seat place work) ≡ next_of graph work
next_is graph seat place work = go work.reply place (by_paths work.call) work.holdings
  where
    go : (r : Option Reply) (i : Option ℕ) (e : Option Errno) (s : Option Holdings) → next_by graph (record_of seat place work) e (phase_of i r) s ≡ next_by graph (record_of 0 None work) e (phase_of None r) s
    go (Some r) i e None = refl
    go (Some r) i e (Some st) = refl
    go None None (Some e) s = refl
    go None (Some i) (Some e) s = refl
    go None None None None = refl
    go None (Some i) None None = refl
    go None None None (Some st) = refl
    go None (Some i) None (Some st) = refl

-- its finish
pub finish_is : (graph : Graph) (seat : ℕ) (place : Option ℕ) (work : OpValue) → finish graph (record_of seat place work) ≡ finish graph (record_of 0 None work)
finish_is graph seat place work = go (by_paths work.call) work.holdings
  where
    go : (e : Option Errno) (s : Option Holdings) → effect_of graph (record_of seat place work) e s ≡ effect_of graph (record_of 0 None work) e s
    go (Some e) s = refl
    go None None = refl
    go None (Some st) = refl

-- a call that finishes has no reply yet, and one that returns has one
pub unfinished_at : (graph : Graph) (work : OpValue) (s : Moved) → next_of graph work ≡ Finishes s → work.reply ≡ None
unfinished_at graph work s m = go work.reply work.holdings refl refl m
  where
    go : (r : Option Reply) (st : Option Holdings) → work.reply ≡ r → work.holdings ≡ st → next_by graph (record_of 0 None work) (by_paths work.call) (phase_of None r) st ≡ Finishes s → work.reply ≡ None
    go None st e f h = e
    go (Some r) None e f h = cc
    go (Some r) (Some st) e f h = cc

pub finished_at : (graph : Graph) (work : OpValue) → next_of graph work ≡ Ends → (r : Reply) × (work.reply ≡ Some r)
finished_at graph work m = let e : (r : Reply) × (phase_of None work.reply ≡ Finished r) = by_ends graph (record_of 0 None work) (by_paths work.call) (phase_of None work.reply) work.holdings m in (e.0, go work.reply e.0 e.1)
  where
    go : (o : Option Reply) (r : Reply) → phase_of None o ≡ Finished r → o ≡ Some r
    go None r e = cc
    go (Some q) r e = cc
