-- What was found, as an object of JSON.
use Rattle.std.specs.Prelude.{ℕ, List, ◌++◌, Option, Some, None, codes, decimal}
use Rattle.fs_words.specs.Json.{string_text}

-- what was found: the number from which the run is drawn, and the script with that run as its words
abbrev pub found_text : Option ℕ → List ℕ → List ℕ
found_text (Some n) script = codes "{\"seed\":" ++ (decimal n ++ (codes ",\"script\":" ++ (string_text script ++ codes "}\n")))
found_text None script = codes "{\"seed\":null}\n"
