-- Words that name a call of a thread: what they say, and what is written for them.
use Rattle.std.specs.Prelude.{ℕ, ◌+◌, ◌-◌, Bool, ◌==◌, List, [], ◌∷◌, ◌++◌, length, get_or, take, drop, Option, Some, None, if◌then◌else◌, codes, decimal, position}
use Rattle.fs_words.specs.Words.{Word, number_of}

-- what such a word says: the name of the thread, which of its calls, if that is a number, and whether the thread is to come to its commit
pub record CallWord : Type 0 where
  pub name : Word
  pub call : Option ℕ
  pub to_commit : Bool

-- `@`
abbrev pub is_at_sign : ℕ → Bool
is_at_sign b = b == 64

-- the last byte is `!`
abbrev pub is_marked : Word → Bool
is_marked word = get_or word (length word - 1) 0 == 33

-- the number of a call, with `!` after it or without
abbrev pub call_in : Word → Option ℕ
call_in word = if is_marked word then number_of (take (length word - 1) word) else number_of word

-- what a word says whose first `@` is there
abbrev pub reach_at : Word → Option ℕ → Option CallWord
reach_at word None = None
reach_at word (Some at) = Some (record { name = take at word; call = call_in (drop (at + 1) word); to_commit = is_marked (drop (at + 1) word) })

-- what a word says, if it names a call: a thread, `@`, and the number of one of its calls, with `!` for the commit
abbrev pub reach_of : Word → Option CallWord
reach_of word = reach_at word (position is_at_sign word)

-- a word up to its first `@`
abbrev pub plain_at : Word → Option ℕ → Word
plain_at word None = word
plain_at word (Some at) = take at word

-- a word without the call that it names: the thread alone, which is one event of it
abbrev pub plain_word : Word → Word
plain_word word = plain_at word (position is_at_sign word)

-- the word by which a thread has so many events
abbrev pub times_word : Word → ℕ → Word
times_word name times = name ++ (codes "*" ++ decimal times)

-- the words by which it has so many, which are none for no event
abbrev pub times_words : Word → ℕ → List Word
times_words name times = if times == 0 then [] else times_word name times ∷ []
