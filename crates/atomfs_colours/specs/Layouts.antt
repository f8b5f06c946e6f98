-- What a layout keeps of a text.
use Rattle.std.specs.Prelude.{ℕ, Bool, true, false, ◌==◌, ◌&&◌, List, [], ◌∷◌, ◌++◌, if◌then◌else◌}
use Rattle.atomfs_colours.specs.declared.spacing.Place.{Place}
use Rattle.atomfs_colours.specs.declared.spacing.Place.TheVariants.{Start, Word, Gap, Share}
use Rattle.atomfs_colours.specs.declared.layout.Layout.{Layout}
use Rattle.atomfs_colours.specs.declared.layout.Layout.TheVariants.{Plain, Columns, Table}

-- where a line is behind a byte: before its first word, in a word, in a gap between two, or in a share, which begins with a bracket behind a gap
abbrev pub behind_gap : Place → Place
behind_gap Start = Start
behind_gap Word = Gap
behind_gap Gap = Gap
behind_gap Share = Gap

abbrev pub in_word : Bool → Place → ℕ → Place
in_word shares Start b = Word
in_word shares Word b = Word
in_word shares Gap b = if shares && (b == 40) then Share else Word
in_word shares Share b = Share

abbrev pub place_after : Bool → Place → ℕ → Place
place_after shares p b = if b == 10 then Start else (if b == 32 then behind_gap p else in_word shares p b)

-- what is left of a byte: of a word itself, with one space before it if a gap is, and of a share nothing
abbrev pub kept_word : Bool → Place → ℕ → List ℕ
kept_word shares Start b = b ∷ []
kept_word shares Word b = b ∷ []
kept_word shares Gap b = if shares && (b == 40) then [] else 32 ∷ b ∷ []
kept_word shares Share b = []

abbrev pub kept_byte : Bool → Place → ℕ → List ℕ
kept_byte shares p b = if b == 10 then 10 ∷ [] else (if b == 32 then [] else kept_word shares p b)

unfoldable pub words_on : Bool → Place → List ℕ → List ℕ
words_on shares p [] = []
words_on shares p (b ∷ text) = kept_byte shares p b ++ words_on shares (place_after shares p b) text

-- the words of a text, line by line, with one space between two; if it has shares, without these
abbrev pub words_of : Bool → List ℕ → List ℕ
words_of shares text = words_on shares Start text

-- whether a layout adds shares
abbrev pub has_shares : Layout → Bool
has_shares Plain = false
has_shares Columns = false
has_shares Table = true

-- whether a text with a layout, in colours or not, may be another than the text
abbrev pub changes : Layout → Bool → Bool
changes Plain in_colours = in_colours
changes Columns in_colours = true
changes Table in_colours = true
