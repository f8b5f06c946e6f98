-- A look leaves the tree on which it is played.
use Rattle.std.proofs.Common.{◌≡◌, ℕ, Option, Some, None, refl, sym, ap, ◌∙◌}
use Rattle.fs_names.specs.Keys.{Key}
use Rattle.fs_names.specs.declared.limits.Limits.{Limits}
use Rattle.fs_calls.specs.Tree.{Tree}
use Rattle.fs_calls.specs.Starts.{Start}
use Rattle.fs_calls.specs.Outcomes.{after, called, fault, if_sound, change}
use Rattle.fs_calls.specs.declared.call.Call.{Call}
use Rattle.fs_calls.specs.declared.call.Call.TheVariants.{Stat, Readdir, ListAfter, Read}
use Rattle.fs_calls.specs.declared.errno.Errno.{Errno}

either_way : (o : Option Errno) (t : Tree) → if_sound o t t ≡ t
either_way None t = refl
either_way (Some e) t = refl

left : (limits : Limits) (t : Tree) (call : Call) → change limits t call ≡ t → after limits t call ≡ t
unfolding after
left limits t call same = ap (if_sound (fault limits t call) t) same ∙ either_way (fault limits t call) t

stays : (start : Start) (call : Call) → change start.limits start.tree call ≡ start.tree → start ≡ called start call
stays start call same = sym (ap (λ (t : Tree). record { limits = start.limits; tree = t }) (left start.limits start.tree call same))

pub stat_stays : (start : Start) (p : Key) → start ≡ called start (Stat p)
stat_stays start p = stays start (Stat p) refl

pub readdir_stays : (start : Start) (p : Key) → start ≡ called start (Readdir p)
readdir_stays start p = stays start (Readdir p) refl

pub list_stays : (start : Start) (count : ℕ) (p last : Key) → start ≡ called start (ListAfter count p last)
list_stays start count p last = stays start (ListAfter count p last) refl

pub read_stays : (start : Start) (p : Key) (off count : ℕ) → start ≡ called start (Read p off count)
read_stays start p off count = stays start (Read p off count) refl
