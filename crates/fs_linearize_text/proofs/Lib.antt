mod ReadingLemmas
mod FrontLemmas
mod ManyLemmas
mod LearningLemmas
