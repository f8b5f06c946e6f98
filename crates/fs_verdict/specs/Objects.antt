-- The verdict on a journal, as an object of JSON.
use Rattle.std.specs.Prelude.{ℕ, List, ◌++◌, codes, decimal}
use Rattle.fs_timeline.specs.declared.verdict.Verdict.{Verdict}
use Rattle.fs_timeline.specs.declared.verdict.Verdict.TheVariants.{Lawful, Fault}
use Rattle.fs_words.specs.Json.{string_text}
use Rattle.fs_verdict.specs.Checks.{kind_word}

-- a verdict, and of a journal that is not lawful what is wrong with it
abbrev pub check_text : Verdict → List ℕ → List ℕ
check_text Lawful reason = codes "{\"lawful\":true}\n"
check_text (Fault place kind) reason =
    codes "{\"lawful\":false,\"place\":" ++ (decimal place ++ (codes ",\"kind\":" ++ (string_text (kind_word kind) ++ (codes ",\"reason\":" ++ (string_text reason ++ codes "}\n")))))
