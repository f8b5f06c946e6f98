-- What reading words and lines gives: the first step that fails is the answer.
use Rattle.std.specs.Prelude.{ℕ, Bool, false, ◌&&◌, nat_le, List, [], ◌∷◌, length, Result, Ok, Err, Option, Some, None, if◌then◌else◌}
use Rattle.std.specs.Str.{bytes_eq}
use Rattle.percent_encoding.specs.Percent.{percent_decode}
use Rattle.fs_names.specs.Names.{Name, can_name}
use Rattle.fs_names.specs.Keys.{Key}
use Rattle.fs_names.specs.declared.fault.PathFault.{PathFault}
use Rattle.fs_names.specs.Limits.{name_limit}
use Rattle.fs_names.specs.declared.limits.Limits.{Limits}
use Rattle.fs_words.specs.Lines.{lines_of, pieces_of, has_empty}
use Rattle.fs_words.specs.Words.{Word, number_of, hex_of, path_of}
use Rattle.fs_words.specs.Headers.{is_too_long}
use Rattle.fs_words.specs.declared.fault.ScriptFault.{ScriptFault}
use Rattle.fs_words.specs.declared.fault.FaultKind.{FaultKind}
use Rattle.fs_words.specs.declared.fault.FaultKind.TheVariants as kind

-- the next step goes on with what the step before it gives
infixl 10 ◌>>=◌
abbrev pub ◌>>=◌ : {A B F : Type 0} → Result A F → (A → Result B F) → Result B F
Ok x >>= f = f x
Err e >>= f = Err e

-- where nothing is found the fault is this one
abbrev pub or_fault : {X : Type 0} → FaultKind → Option X → Result X FaultKind
or_fault k (Some x) = Ok x
or_fault k None = Err k

-- ---- words

-- a fault of a path is the fault `BadPath`
abbrev pub or_bad_path : Result Key PathFault → Result Key FaultKind
or_bad_path (Ok key) = Ok key
or_bad_path (Err f) = Err (kind.BadPath f)

-- a word as a path, by these limits
abbrev pub path_at : Limits → Word → Result Key FaultKind
path_at limits word = or_bad_path (path_of limits word)

-- a word as a number
abbrev pub number_at : Word → Result ℕ FaultKind
number_at word = or_fault kind.BadNumber (number_of word)

-- a word of hexadecimal digits as bytes
abbrev pub hex_at : Word → Result (List ℕ) FaultKind
hex_at word = or_fault kind.BadHex (hex_of word)

-- bytes as a name, by these limits; else the reply is a bad one
abbrev pub read_name : Limits → List ℕ → Result Name FaultKind
read_name limits name = if nat_le (length name) (name_limit limits) && can_name name then Ok name else Err kind.BadReply

-- a word as a name, by these limits, read back from its escapes
abbrev pub name_at : Limits → Word → Result Name FaultKind
name_at limits word = read_name limits (percent_decode word)

-- ---- lines

-- the words of a line
abbrev pub words_of : List ℕ → Result (List Word) FaultKind
words_of line = if has_empty (pieces_of line) then Err kind.BadLine else Ok (pieces_of line)

-- a fault of this kind in the line of this number
abbrev pub fault_at : ℕ → FaultKind → ScriptFault
fault_at n k = record { line = n; kind = k }

-- a fault is that of the line of this number
abbrev pub at_line : {X : Type 0} → ℕ → Result X FaultKind → Result X ScriptFault
at_line n (Ok x) = Ok x
at_line n (Err k) = Err (fault_at n k)

-- ---- the header line

-- whether the first line is the one that is wanted
abbrev pub first_is : List ℕ → List (List ℕ) → Bool
first_is wanted [] = false
first_is wanted (line ∷ more) = bytes_eq line wanted

-- the lines behind the first
abbrev pub behind_first : List (List ℕ) → List (List ℕ)
behind_first [] = []
behind_first (line ∷ more) = more

-- the first of these lines, and those behind it
abbrev pub first_line : List (List ℕ) → Result (List ℕ × List (List ℕ)) ScriptFault
first_line [] = Err (fault_at 1 kind.BadHeader)
first_line (line ∷ more) = Ok (line, more)

-- the first line of a text, and those behind it; the text keeps the limit that its first line allows
abbrev pub headed : List ℕ → Result (List ℕ × List (List ℕ)) ScriptFault
headed text = if is_too_long text then Err (fault_at 1 kind.TooLarge) else first_line (lines_of text)

-- the lines of a text behind its first one, which has to be this header
abbrev pub behind_header : List ℕ → List ℕ → Result (List (List ℕ)) ScriptFault
behind_header header text = headed text >>= λ h. if bytes_eq h.0 header then Ok (h.1) else Err (fault_at 1 kind.BadHeader)
