-- Keys, and changes of a tree as a function from keys.
pub mod Prefixes
pub mod Commuting
pub mod SeveralWrites
pub mod SeenAsMaps
pub mod ChangesAsMaps
pub mod RenamesAsMaps
pub mod ExchangesAsMaps
pub mod TreesAsMaps
