-- What the code of a call keeps, seen as an OpValue: counts of walked names in the place of keys.
use Rattle.std.specs.Prelude.{ℕ, zero, suc, ◌≡◌, ◌+◌, ◌-◌, ◌≤◌, Bool, List, ◌++◌, length, take, drop, Option, Some, None}
use Rattle.fs_names.specs.Keys.{Key, parent_of}
use Rattle.fs_names.specs.Limits.{in_blocks}
use Rattle.fs_names.specs.declared.limits.Limits.{Limits}
use Rattle.fs_calls.specs.Forms.{Form, AtNode, AtEntry, AtPair, by_paths, form}
use Rattle.fs_calls.specs.declared.errno.Errno.{Errno}
use Rattle.fs_calls.specs.declared.call.Call.{Call}
use Rattle.fs_calls.specs.declared.reply.Reply.{Reply}
use Rattle.fs_walk.specs.Ways.{Way, ForkWay}
use Rattle.fs_walk.specs.declared.head.Head as count
use Rattle.fs_ops.specs.declared.outcome.Outcome.{Outcome}
use Rattle.fs_ops.specs.declared.outcome.Outcome.TheVariants.{Open, Fixed}
use Rattle.fs_ops.specs.declared.stand.Stand.{Stand}
use Rattle.fs_machine.specs.Moves.{target, left_holdings}
use Rattle.fs_machine.specs.Records.{Finished, Head, Holdings, head_at, taken_if}
use Rattle.fs_ops_effects.specs.Paths.{first_path, second_path}
use Rattle.fs_ops_effects.specs.Rooms.{Suffices}
use Rattle.fs_machine.specs.OpValues.{OpValue}

-- the form of a call without so many first names of each path
abbrev pub dropped : ℕ → Form → Form
dropped n (AtNode c p) = AtNode c (drop n p)
dropped n (AtEntry c p) = AtEntry c (drop n p)
dropped n (AtPair c p q) = AtPair c (drop n p) (drop n q)

-- a head that has walked so many names of a path behind those to the common directory
abbrev pub head_of : Key → ℕ → count.Head → Head
head_of path names head = record { walked = take head.walked (drop names path); node = head.node }

-- what is behind: the walk, or the heads once one of them has set out
abbrev pub behind_in : Option ℕ → Option ForkWay → Option ℕ
behind_in behind None = behind
behind_in behind (Some fork) = fork.behind

-- where a call stands: at first both heads are where the walk is
abbrev pub holdings_with : Form → ℕ → Option ℕ → Option ForkWay → Option ℕ → Holdings
holdings_with call n behind None victim = record { node = n; behind = behind; source = head_at n; dest = head_at n; victim = victim }
holdings_with call n behind (Some fork) victim =
    record { node = n; behind = behind; source = head_of (first_path call) fork.names fork.source; dest = head_of (second_path call) fork.names fork.dest; victim = victim }

-- the same, or nothing where it holds no node
abbrev pub holdings_of : Form → Option ℕ → Option ℕ → Option ForkWay → Option ℕ → Option Holdings
holdings_of call None behind fork victim = None
holdings_of call (Some n) behind fork victim = Some (holdings_with call n behind fork victim)

-- the reply once it is fixed
abbrev pub reply_of : Outcome → Option Reply
reply_of (Open prepared) = None
reply_of (Fixed reply held) = Some reply

-- after so many let gos of a call with this reply
abbrev pub left_times : Reply → ℕ → Option Holdings → Option Holdings
left_times reply zero st = st
left_times reply (suc k) st = left_holdings (Finished reply) (left_times reply k st)

-- what a call holds by its outcome: once its reply is fixed, all that it had taken but the nodes that it has let go since
abbrev pub held_by : Outcome → Option Holdings → Option Holdings
held_by (Open prepared) st = st
held_by (Fixed reply held) st = left_times reply (length (taken_if st) - length held) st

-- where a call stands that has let go of none since its finish
abbrev pub stands : Form → Stand → Option Holdings
stands call stand = holdings_of call stand.walk.node (behind_in stand.walk.behind stand.fork) stand.fork stand.victim

-- its value by these limits
abbrev pub op_value : Limits → Call → Stand → Option ℕ → Option ℕ → Outcome → OpValue
op_value limits call stand reserved removed outcome =
    record {
      limits = limits;
      call = call;
      walked = take stand.walk.walked (first_path (form limits call));
      remaining = dropped stand.walk.walked (form limits call);
      holdings = stands (form limits call) stand;
      reply = reply_of outcome;
      reserved = reserved;
      removed = removed;
    }

-- the whole value
abbrev pub with_held : Outcome → OpValue → OpValue
with_held outcome op = record op { holdings = held_by outcome op.holdings }

-- a fork of a pair whose walk has come to the common directory; each head is on its way to a parent
pub record IsForked (p q : Key) (way : Way) (fork : ForkWay) : Type 0 where
  pub node : way.node ≡ Some fork.node
  pub names : fork.names ≡ way.walked
  pub arrived : way.walked ≡ way.names
  pub source : fork.names + fork.source.walked ≤ length (parent_of p)
  pub dest : fork.names + fork.dest.walked ≤ length (parent_of q)

-- other calls have none
abbrev pub Forks : Form → Way → Option ForkWay → Type 0
Forks call way None = Unit {0}
Forks (AtPair c p q) way (Some fork) = IsForked p q way fork
Forks (AtNode c p) way (Some fork) = ⊥
Forks (AtEntry c p) way (Some fork) = ⊥

-- before the finish there is room for it, by whether files are in blocks; after it what is held is a beginning of what had been taken
abbrev pub IsReady : Bool → Form → Option Holdings → Outcome → Type 0
IsReady in_blocks call st (Open prepared) = Suffices in_blocks call prepared
IsReady in_blocks call st (Fixed reply held) = (gone : List ℕ) × (held ++ gone ≡ taken_if st)

-- what the fields of a call keep: the error that its paths decide is kept from the begin, and the walk goes to the target
pub record IsOp (limits : Limits) (call : Call) (path_error : Option Errno) (stand : Stand) (outcome : Outcome) : Type 0 where
  pub decided : path_error ≡ by_paths call
  pub names : stand.walk.names ≡ length (target (form limits call))
  pub within : stand.walk.walked ≤ stand.walk.names
  pub forks : Forks (form limits call) stand.walk stand.fork
  pub ready : IsReady (in_blocks limits) (form limits call) (stands (form limits call) stand) outcome
