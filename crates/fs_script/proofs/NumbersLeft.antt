-- How many calls a script has by each set of limits: more numbers are there than the nodes that they make and the root.
use Rattle.std.proofs.Common.{◌+◌, ◌<◌, ◌≤◌, arith}
use Rattle.fs_names.specs.Limits.{node_limit}
use Rattle.fs_names.specs.declared.limits.Limits.{Limits}
use Rattle.fs_names.specs.declared.limits.Limits.TheVariants.{V1, V2, V3}
use Rattle.fs_script.specs.Limits.{call_limit}
use Rattle.fs_script.specs.declared.limits.TheConstants.{CALL_LIMIT}

-- each call makes one node at most
pub numbers_left : (limits : Limits) → call_limit limits + 1 < node_limit limits
numbers_left V1 = omega arith
numbers_left V2 = omega arith
numbers_left V3 = omega arith

-- no set allows more calls than the largest
pub most_calls : (limits : Limits) → call_limit limits ≤ CALL_LIMIT
most_calls V1 = omega arith
most_calls V2 = omega arith
most_calls V3 = omega arith
