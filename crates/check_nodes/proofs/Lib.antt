pub mod AscentLemmas
