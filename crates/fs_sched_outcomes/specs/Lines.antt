-- How rows are written.
use Rattle.std.specs.Prelude.{ℕ, ◌+◌, Bool, true, false, not, ◌||◌, if◌then◌else◌, List, [], ◌∷◌, ◌++◌, map, get_or, take, codes, decimal}
use Rattle.std.specs.List.{flat_map, list_any}
use Rattle.std.specs.Str.{bytes_eq}
use Rattle.sha2.specs.Sha256.{sha256}
use Rattle.fs_words.specs.Json.{string_text}
use Rattle.fs_words.specs.Words.{hex_word}
use Rattle.fs_sched_outcomes.specs.declared.lines.Form.{Form}
use Rattle.fs_sched_seen.specs.Seen.{seen_object}
use Rattle.fs_sched_seen.specs.declared.places.Place.{Place}
use Rattle.fs_sched_seen.specs.declared.seen.Seen.{Seen}
use Rattle.fs_sched_outcomes.specs.declared.rows.Row.{Row}

-- the name of a call: its thread, and its turn, counted from 1
abbrev pub label_of : List (List ℕ) → Place → List ℕ
label_of names p = get_or names p.seat [] ++ (codes "#" ++ decimal p.turn)

abbrev pub labels_of : List (List ℕ) → List Place → List (List ℕ)
labels_of names places = map (label_of names) places

-- the reply of a row at a place among the calls
abbrev pub reply_in : ℕ → Row → List ℕ
reply_in i row = get_or row.end.replies i []

-- a row has another reply there than this one
abbrev pub is_other : ℕ → List ℕ → Row → Bool
is_other i reply row = not (bytes_eq (reply_in i row) reply)

-- the replies at a place differ: some row has another than the first
abbrev pub differs : List Row → ℕ → Bool
differs [] i = false
differs (row ∷ rows) i = list_any (is_other i (reply_in i row)) (row ∷ rows)

-- whether the replies at a place are written
abbrev pub is_shown : Bool → List Row → ℕ → Bool
is_shown all rows i = all || differs rows i

-- a call and its reply
abbrev pub reply_part : List ℕ → List ℕ → List ℕ
reply_part label reply = codes " | " ++ (label ++ (codes " " ++ reply))

-- a call whose replies are written: its place among the calls, and its name
abbrev pub column_at : (ℕ → Bool) → ℕ → List ℕ → List (ℕ × List ℕ)
column_at shown i label = if shown i then (i, label) ∷ [] else []

-- those of calls from a place on
abbrev pub columns_from : (ℕ → Bool) → ℕ → List (List ℕ) → List (ℕ × List ℕ)
columns_from shown i [] = []
columns_from shown i (label ∷ labels) = column_at shown i label ++ columns_from shown (i + 1) labels

abbrev pub columns_of : Bool → List (List ℕ) → List Row → List (ℕ × List ℕ)
columns_of all labels rows = columns_from (is_shown all rows) 0 labels

-- the replies of a row that are written
abbrev pub part_of : Row → ℕ × List ℕ → List ℕ
part_of row column = reply_part column.1 (reply_in column.0 row)

abbrev pub parts_text : List (ℕ × List ℕ) → Row → List ℕ
parts_text columns row = flat_map (part_of row) columns

-- the first sixteen digits of a tree's digest
abbrev pub digest_text : List ℕ → List ℕ
digest_text tree = hex_word (take 8 (sha256 tree))

-- how often a row came, and its number
abbrev pub numbers_text : Row → List ℕ
numbers_text row = decimal row.times ++ (codes " seed " ++ (decimal row.seed ++ codes " tree "))

-- the line of a row, and behind it its tree where that is asked for
abbrev pub row_text : Bool → List (ℕ × List ℕ) → Row → List ℕ
row_text trees columns row = numbers_text row ++ (digest_text row.end.tree ++ (parts_text columns row ++ (codes "\n" ++ (if trees then row.end.tree else []))))

-- ---- the same as objects of JSON

-- what stands before a member of an object: nothing before the first
abbrev pub separator : Bool → List ℕ
separator first = if first then [] else codes ","

-- a call and its reply
abbrev pub member_of : Row → ℕ × List ℕ → List ℕ
member_of row column = string_text column.1 ++ (codes ":" ++ string_text (reply_in column.0 row))

-- calls and their replies
abbrev pub members_from : Bool → Row → List (ℕ × List ℕ) → List ℕ
members_from first row [] = []
members_from first row (column ∷ columns) = separator first ++ (member_of row column ++ members_from false row columns)

-- how often a row came, its number, and what stands for its tree
abbrev pub numbers_object : Row → List ℕ → List ℕ
numbers_object row digest = codes "{\"times\":" ++ (decimal row.times ++ (codes ",\"seed\":" ++ (decimal row.seed ++ (codes ",\"digest\":" ++ string_text digest))))

-- the replies of it that are written
abbrev pub replies_object : List (ℕ × List ℕ) → Row → List ℕ
replies_object columns row = codes ",\"replies\":{" ++ (members_from true row columns ++ codes "}")

-- both
abbrev pub head_object : List (ℕ × List ℕ) → Row → List ℕ → List ℕ
head_object columns row digest = numbers_object row digest ++ replies_object columns row

-- its tree, where that is asked for
abbrev pub tree_member : Bool → Row → List ℕ
tree_member trees row = if trees then codes ",\"tree\":" ++ string_text row.end.tree else []

-- the object of a row
abbrev pub row_object : Bool → List (ℕ × List ℕ) → Row → List ℕ
row_object trees columns row = head_object columns row (digest_text row.end.tree) ++ (tree_member trees row ++ codes "}\n")

-- a row in a form
abbrev pub row_by : Form → List (ℕ × List ℕ) → Row → List ℕ
row_by form columns row = if form.json then row_object form.trees columns row else row_text form.trees columns row

-- the lines of rows
abbrev pub rows_text : Form → List (List ℕ) → List Row → List ℕ
rows_text form labels rows = flat_map (row_by form (columns_of form.all labels rows)) rows

-- as objects, one more follows: how much was seen
abbrev pub seen_text : Form → Seen → List ℕ
seen_text form seen = if form.json then seen_object seen else []

-- ---- rows that were read: in the place of a tree they have the digits that stand for it

-- the line of such a row, without its line feed
abbrev pub added_words : List (ℕ × List ℕ) → Row → List ℕ
added_words columns row = numbers_text row ++ (row.end.tree ++ parts_text columns row)

-- with the replies of all calls
abbrev pub added_line : List (List ℕ) → Row → List ℕ
added_line labels row = added_words (columns_of true labels []) row

-- the line of such a row, and its object
abbrev pub added_row : List (ℕ × List ℕ) → Row → List ℕ
added_row columns row = added_words columns row ++ codes "\n"

abbrev pub added_object : List (ℕ × List ℕ) → Row → List ℕ
added_object columns row = head_object columns row row.end.tree ++ codes "}\n"

-- such a row in a form
abbrev pub added_by : Form → List (ℕ × List ℕ) → Row → List ℕ
added_by form columns row = if form.json then added_object columns row else added_row columns row

-- the lines of such rows
abbrev pub added_text : Form → List (List ℕ) → List Row → List ℕ
added_text form labels rows = flat_map (added_by form (columns_of form.all labels rows)) rows
