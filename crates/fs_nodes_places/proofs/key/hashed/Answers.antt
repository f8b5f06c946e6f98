use Rattle.fs_nodes_places.specs.code.Keys.{hashed}
use Rattle.fs_nodes_places.proofs.key.hashed.Goals as goal

pub returns : goal.returns
unfolding hashed
returns c = rw (c.finish.ensures, c.write.ensures, c.default-hasher.ensures, c.bytes.ensures.bytes)
