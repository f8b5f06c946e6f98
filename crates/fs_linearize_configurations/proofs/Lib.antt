mod NumberLemmas
mod CodeLemmas
mod ChainLemmas
pub mod HeardLemmas
pub mod CallLemmas
pub mod NearLemmas
pub mod WayLemmas
mod WalkLemmas
pub mod LayerLemmas
pub mod SearchLemmas
