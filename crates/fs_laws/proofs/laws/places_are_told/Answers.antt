use Rattle.fs_laws.proofs.journal.PlacesOfPlaced.{places_are_told}
use Rattle.fs_laws.proofs.laws.places_are_told.Goals as goal

pub returns : goal.returns
returns c = places_are_told
