-- What every state of a run keeps, and the laws from it.
pub mod WaitsForOneBelow
pub mod ComputedSteps
pub mod Headline
pub mod StartsEmpty
pub mod Agreement
pub mod GraphOfARun
pub mod Waiters
pub mod Sums
pub mod StepsTakeWork
pub mod OneCall
pub mod ComputedRuns
