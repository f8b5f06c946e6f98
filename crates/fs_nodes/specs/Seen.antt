-- What is seen of a store, handed on.
pub use Rattle.fs_nodes_places.specs.Seen.{Seen, seen, Ascends, IsReal}
