-- The journal of the machine.
pub mod OneMoreEntry
pub mod ViewAndMachine
pub mod ViewOfTimeline
pub mod PlacesOfPlaced
