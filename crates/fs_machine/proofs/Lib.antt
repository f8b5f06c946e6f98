pub mod StepsAreDetermined
pub mod StepsAddEntries
pub mod LastTakenGoesFirst
pub mod LowestIsHelped
pub mod FinishKeepsNumbers
pub mod ExchangeWorked
