pub mod Laws
pub mod LineTexts
pub mod Mades
pub mod ObjectTexts
pub mod WordTexts
