-- Worked examples, computed from the definitions.
use Rattle.std.specs.Prelude.{ℕ, ◌≡◌, true, false, List, [], ◌∷◌, take, Some, None, Bool, codes}
use Rattle.fs_machine.specs.declared.answers.Stepped.TheVariants.{Took, Helped, Committed, CarriedOut}
use Rattle.fs_sched_witness.specs.Moments.{event_of}
use Rattle.fs_sched_witness.specs.declared.moments.Answer.TheVariants.{Begun, Stepped}
use Rattle.fs_sched_witness.specs.declared.moments.Moment.{Moment}
use Rattle.fs_sched_reach.specs.Coming.{has_come}
use Rattle.fs_sched_reach.specs.Plain.{has_words, plain}
use Rattle.fs_sched_reach.specs.Words.{reach_of, times_words}
use Rattle.fs_sched_reach.specs.declared.target.Target.{Target}

-- words that name a call, and what is written for them
pub record WordsRead : Type 0 where
  pub begin : reach_of (codes "m@3") ≡ Some (record { name = codes "m"; call = Some 3; to_commit = false })
  pub commit : reach_of (codes "m@12!") ≡ Some (record { name = codes "m"; call = Some 12; to_commit = true })
  pub no_number : reach_of (codes "m@03") ≡ Some (record { name = codes "m"; call = None; to_commit = false })
  pub count : reach_of (codes "m*3") ≡ None
  pub some : times_words (codes "m") 7 ≡ codes "m*7" ∷ []
  pub none : times_words (codes "m") 0 ≡ []

-- the first call of the thread on a seat
abbrev pub first_call : ℕ → Bool → Target
first_call seat to_commit = record { seat = seat; call = 1; to_commit = to_commit }

-- a call of one thread is helped by that of another, and goes on
abbrev pub helped : List Moment
helped = event_of 0 (Begun 1) ∷ event_of 0 (Stepped (Took 0)) ∷ event_of 1 (Begun 2) ∷ event_of 1 (Stepped (Helped 1)) ∷ event_of 1 (Stepped Committed) ∷ event_of 0 (Stepped CarriedOut) ∷ []

pub record CallsCome : Type 0 where
  pub not_begun : has_come (first_call 1 false) (take 2 helped) ≡ false
  pub begun : has_come (first_call 1 false) (take 3 helped) ≡ true
  pub not_helped : has_come (first_call 0 true) (take 3 helped) ≡ false
  pub by_help : has_come (first_call 0 true) (take 4 helped) ≡ true
  pub not_committed : has_come (first_call 1 true) (take 4 helped) ≡ false
  pub by_itself : has_come (first_call 1 true) (take 5 helped) ≡ true

-- a script's text with words that name calls, and without these calls
pub record TextsPlain : Type 0 where
  pub named : plain (codes "atomfs 1\nthread m\nmkdir /a@1\nschedule\n# m@1\nm@1! m*2\n") ≡ codes "atomfs 1\nthread m\nmkdir /a@1\nschedule\n# m@1\nm m*2\n"
  pub some : has_words (codes "atomfs 1\nschedule\nm@1") ≡ true
  pub none : has_words (codes "atomfs 1\nthread m\nmkdir /a@1\nschedule\nm") ≡ false
