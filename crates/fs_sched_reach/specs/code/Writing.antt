-- What the code adds to a text, step by step.
use Rattle.std.specs.Prelude.{ℕ, ◌≡◌, Bool, true, false, List, ◌++◌, codes}
use Rattle.fs_names.specs.declared.limits.Limits.{Limits}
use Rattle.fs_words.specs.Words.{Word}
use Rattle.fs_sched.specs.declared.origin.Origin.{Origin}
use Rattle.fs_sched_reach.specs.Written.{spaced, IsWordWritten, IsStuck, AreWordsWritten, IsOneStuck, IsLineWritten, IsLeft, AreLinesWritten}
use Rattle.fs_sched_reach.specs.code.Joined.{closed}

-- a word was written after a text, or it is stuck and nothing was
abbrev pub WritesWord : Origin → Limits → List ℕ → Word → Bool → List ℕ → Type 0
WritesWord from limits old word true new = (first : List Word) × IsWordWritten from limits old word first × (new ≡ old ++ spaced first)
WritesWord from limits old word false new = IsStuck from limits old word × (new ≡ old)

-- words were written, or one of them is stuck
abbrev pub WritesWords : Origin → Limits → List ℕ → List Word → Bool → List ℕ → Type 0
WritesWords from limits old words true new = (written : List Word) × AreWordsWritten from limits old words written × (new ≡ old ++ spaced written)
WritesWords from limits old words false new = IsOneStuck from limits old words × (more : List ℕ) × (new ≡ old ++ more)

-- a line was written, or it is left and nothing was
abbrev pub WritesLine : Origin → Limits → List ℕ → List ℕ → Bool → List ℕ → Type 0
WritesLine from limits old line true new = (first : List ℕ) × IsLineWritten from limits old line first × (new ≡ old ++ (first ++ codes "\n"))
WritesLine from limits old line false new = IsLeft from limits old line × (new ≡ old)

-- lines were written, each with a line feed after it
abbrev pub WritesLines : Origin → Limits → List ℕ → List (List ℕ) → List ℕ → Type 0
WritesLines from limits old lines new = (written : List (List ℕ)) × AreLinesWritten from limits old lines written × (new ≡ old ++ closed 10 written)
