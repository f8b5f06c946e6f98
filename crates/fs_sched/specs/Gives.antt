-- The words that a schedule gives before rounds to the end, one for each event.
use Rattle.std.specs.Prelude.{List, [], ◌∷◌, replicate}
use Rattle.std.specs.List.{flat_map}
use Rattle.fs_calls.specs.declared.call.Call.{Call}
use Rattle.fs_script.specs.declared.script.Word.{Word}
use Rattle.fs_script.specs.declared.script.Word.TheVariants.{Events, Checkpoint, Finish, Drawn}
use Rattle.fs_sched.specs.Schedules.{one_event, words_by}
use Rattle.fs_sched.specs.declared.schedule.Schedule.{Schedule}

-- a word, with each of its events as a word of its own
abbrev pub single_words : Word → List Word
single_words (Events seat times) = replicate times (one_event seat)
single_words Checkpoint = Checkpoint ∷ []
single_words Finish = []
single_words Drawn = []

-- the same of words, from left to right
abbrev pub given_words : List Word → List Word
given_words words = flat_map single_words words

-- those before rounds to the end; an event of a thread that has nothing to do is spent
abbrev pub words_before : Schedule → List Word → List (List Call) → List Word
words_before schedule words lists = given_words (words_by schedule words lists)
