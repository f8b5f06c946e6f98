pub mod CheckerLemmas
