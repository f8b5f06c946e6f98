use Rattle.std.proofs.Common.{◌≤◌, ◌≢◌, ℕ, length, slice_get, Some}
use Rattle.fs_calls.specs.declared.reply.Reply.{Reply}
use Rattle.fs_timeline.specs.declared.entry.Entry.TheVariants.{Return}
use Rattle.fs_embed.proofs.texts.find_reply.Given as goal

-- no entry from here on is a return of the call
abbrev pub invariant-loop-at : goal.invariant-loop-at
invariant-loop-at l = record {
  inside : l.at ≤ length l.entries;
  none : (i : ℕ) (reply : Reply) → l.at ≤ i → slice_get l.entries i ≢ Some (Return l.number reply);
}

-- the entries before it
abbrev pub decreases-loop-at : goal.decreases-loop-at
decreases-loop-at l = l.at
