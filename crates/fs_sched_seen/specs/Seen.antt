-- How much was seen, in words and as an object of JSON.
use Rattle.std.specs.Prelude.{ℕ, ◌==◌, ◌%◌, ◌&&◌, not, List, [], ◌∷◌, ◌++◌, length, Option, Some, None, if◌then◌else◌, codes, decimal}
use Rattle.fs_words.specs.JsonObjects.{Member, object_text}
use Rattle.fs_words.specs.JsonObjects.Value.{Number}
use Rattle.fs_sched_seen.specs.declared.meetings.Pairs.{Pairs}
use Rattle.fs_sched_seen.specs.declared.seen.Seen.{Seen}

-- a comma stands in front of so many digits, if they are threes
abbrev pub comma_before : ℕ → List ℕ
comma_before digits = if not (digits == 0) && ((digits % 3) == 0) then codes "," else []

-- digits with a comma in front of each three
abbrev pub with_commas : List ℕ → List ℕ
with_commas [] = []
with_commas (d ∷ ds) = d ∷ (comma_before (length ds) ++ with_commas ds)

-- a number with commas
abbrev pub grouped : ℕ → List ℕ
grouped n = with_commas (decimal n)

-- so many of a thing: its name has an s, unless it is one
abbrev pub counted : ℕ → List ℕ → List ℕ
counted n name = grouped n ++ (name ++ (if n == 1 then [] else codes "s"))

-- how many pairs of calls met
abbrev pub pairs_words : Option Pairs → List ℕ
pairs_words None = []
pairs_words (Some pairs) = codes "; " ++ (grouped pairs.met ++ (codes " of " ++ (counted pairs.all (codes " pair") ++ codes " of calls met")))

-- how many outcomes were new lately
abbrev pub new_words : Seen → List ℕ
new_words seen = grouped seen.new ++ (codes " new in the last " ++ counted seen.lately (codes " run"))

-- how much was seen
abbrev pub seen_words : Seen → List ℕ
seen_words seen =
    counted seen.runs (codes " run") ++ (codes ", " ++ (counted seen.outcomes (codes " outcome") ++ (codes ", " ++ (new_words seen ++ pairs_words seen.pairs))))

-- ---- the same as an object

abbrev pub pairs_members : Option Pairs → List Member
pairs_members None = []
pairs_members (Some pairs) = (codes "met", Number pairs.met) ∷ (codes "pairs", Number pairs.all) ∷ []

abbrev pub seen_object : Seen → List ℕ
seen_object seen =
    object_text ((codes "runs", Number seen.runs) ∷ (codes "outcomes", Number seen.outcomes) ∷ (codes "new", Number seen.new) ∷ (codes "lately", Number seen.lately) ∷ pairs_members seen.pairs)
