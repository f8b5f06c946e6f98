-- What ties the code to the definitions: of it nothing has to be believed.
pub mod Rooms
pub mod Seats
pub mod Helping
pub mod Starting
pub mod Doing
pub mod Leasts
pub mod Filling
