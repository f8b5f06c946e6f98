-- A tree that was read has the limits by which it was read, and its names keep them.
use Rattle.std.proofs.Common.{◌≡◌, ◌≤◌, ℕ, ◌+◌, Bool, true, false, cond, List, [], ◌∷◌, ◌++◌, length, Option, Some, None, Result, Ok, Err, refl, sym, ap, subst, ◌∙◌, codes, arith, rules}
use Rattle.std.proofs.lemmas.Bool.Decides.{nat_tests}
use Rattle.std.specs.Prelude.{nat_le, nat_lt, ◌&&◌, take, drop, IfOk}
use Rattle.std.specs.List.{All, AllByRecursion, slice_split, join_with_byte}
use Rattle.std.proofs.lemmas.List.Splits.{slice_split_at}
use Rattle.std.proofs.lemmas.List.Elements.{All-from_recursion}
use Rattle.std.specs.Str.{bytes_eq}
use Rattle.fs_names.specs.Keys.{Key}
use Rattle.fs_names.specs.Names.{Name, can_name}
use Rattle.fs_names.specs.Reading.{is_slash}
use Rattle.fs_names.specs.Limits.{same_limits, name_limit}
use Rattle.fs_names.proofs.LimitLemmas.{one_set}
use Rattle.fs_names.specs.declared.kind.Kind.{Kind}
use Rattle.fs_names.specs.declared.limits.Limits.{Limits}
use Rattle.fs_names.specs.declared.limits.Limits.TheVariants.{V1, V2, V3}
use Rattle.fs_calls.specs.Tree.{Tree, Node, root_tree}
use Rattle.fs_calls.specs.Starts.{Start, root_start}
use Rattle.fs_timeline.specs.declared.entry.Entry.{Entry}
use Rattle.fs_timeline.proofs.KeptNames.{NamesTree}
use Rattle.fs_seq.specs.Rows.{node_of_kind, fits_at}
use Rattle.fs_words.specs.Lines.{is_line_feed, without_last_empty, lines_of, is_passed_over}
use Rattle.fs_words.specs.Words.{Word}
use Rattle.fs_words.specs.code.Answers.{GivesText}
use Rattle.fs_words.specs.Reading.{◌>>=◌, read_name, name_at, hex_at, words_of, fault_at, behind_first, first_line, headed}
use Rattle.fs_words.specs.declared.fault.FaultKind.{FaultKind}
use Rattle.fs_words.specs.declared.fault.FaultKind.TheVariants as kind
use Rattle.fs_words.specs.declared.fault.ScriptFault.{ScriptFault}
use Rattle.fs_words.proofs.PathLemmas.{IsShort}
use Rattle.fs_text.specs.Journal.{names_at, entries_from, entries_of}
use Rattle.fs_text.proofs.ReadNames.{Given, given_then, given_is}
use Rattle.fs_words.specs.Headers.{started_header, announced, is_too_long}
use Rattle.fs_script.specs.Journals.{Read, key_at, node_at, node_in_line, grown, in_start, with_start, started_from, behind_line, started_lines, announced_journal, journal_behind, journal_of, line_end, nodes_journal, start_read, entries_line, before_entries, nodes_read, by_limits, start_of}
use Rattle.fs_script.specs.TreeText.{node_words}
use Rattle.fs_words.proofs.HeaderLemmas.{started_announced}

either : {A F : Type 0} (P : A → Type 0) (b : Bool) (r q : Result A F) → Given P r → Given P q → Given P (cond b r q)
either P true r q h g = h
either P false r q h g = g

pub any_then : {A B F : Type 0} (P : B → Type 0) (r : Result A F) (f : A → Result B F) → ((x : A) → Given P (f x)) → Given P (r >>= f)
any_then P (Ok x) f each = each x
any_then P (Err e) f each = tt

-- ---- a line

module _ (limits : Limits) where
  abbrev Short : Key → Type 0
  Short key = AllByRecursion (IsShort limits) key

  name_given : (name : Name) → Given (IsShort limits) (read_name limits name)
  name_given name = by (nat_le (length name) (name_limit limits)) (can_name name) refl
    where
      by : (b c : Bool) → nat_le (length name) (name_limit limits) ≡ b → Given (IsShort limits) (cond {A = Result Name FaultKind} (b && c) (Ok name) (Err kind.BadReply))
      by true true e = let h : length name ≤ name_limit limits = grind (arith, nat_tests) in h
      by true false e = tt
      by false c e = tt

  names_given : (ws : List Word) → Given Short (names_at limits ws)
  names_given [] = tt
  names_given (w ∷ ws) = given_then (IsShort limits) Short (name_at limits w) _ (name_given _) (λ n h. given_then Short Short (names_at limits ws) _ (names_given ws) (λ ns g. (h, g)))

  key_given : (w : Word) → Given Short (key_at limits w)
  key_given w = either Short (bytes_eq w (codes "/")) (Ok []) (names_at limits (behind_first (slice_split is_slash w))) tt (names_given (behind_first (slice_split is_slash w)))

  -- the key of a node
  abbrev Keyed : Key × Kind × List ℕ → Type 0
  Keyed n = Short n.0

  node_given : (ws : List Word) → Given Keyed (node_at limits ws)
  node_given [] = tt
  node_given (k ∷ []) = tt
  node_given (k ∷ path ∷ []) = given_then Short Keyed (key_at limits path) _ (key_given path) (λ key h. h)
  node_given (k ∷ path ∷ hex ∷ []) = given_then Short Keyed (key_at limits path) _ (key_given path) (λ key h. any_then Keyed (hex_at hex) _ (λ bytes. h))
  node_given (k ∷ path ∷ hex ∷ w ∷ ws) = tt

  line_given : (line : List ℕ) → Given Keyed (node_in_line limits line)
  line_given line = given_then Keyed Keyed (words_of line >>= node_at limits) _ (any_then Keyed (words_of line) (node_at limits) node_given) (λ n h. either Keyed (bytes_eq line (join_with_byte 32 (node_words n.0 (node_of_kind n.1 n.2)))) (Ok n) (Err kind.BadStart) h tt)

-- ---- a start

-- a start by these limits, whose names are as short as they say
abbrev pub IsShortStart : Limits → Start → Type 0
IsShortStart limits start = (start.limits ≡ limits) × NamesTree (IsShort limits) start.tree

abbrev ShortRead : Limits → Start × List Entry → Type 0
ShortRead limits read = IsShortStart limits read.0

one_more : (limits : Limits) (t : Tree) (e : Key × Node) → NamesTree (IsShort limits) t → AllByRecursion (IsShort limits) e.0 → NamesTree (IsShort limits) (t ++ e ∷ [])
one_more limits [] e h g = (g, tt)
one_more limits (f ∷ t) e h g = (h.0, one_more limits t e h.1 g)

entries_given : (limits : Limits) (start : Start) (entries : Result (List Entry) ScriptFault) → IsShortStart limits start → Given (ShortRead limits) (with_start start entries)
entries_given limits start (Ok es) h = h
entries_given limits start (Err f) h = tt

pub placed : {A : Type 0} (P : A → Type 0) (n : ℕ) (r : Result A FaultKind) → Given P r → Given P (in_start n r)
placed P n (Ok x) h = h
placed P n (Err k) h = tt

from_given : (limits : Limits) (t : Tree) (n : ℕ) (lines : List (List ℕ)) → NamesTree (IsShort limits) t → Given (ShortRead limits) (started_from limits t n lines)
unfolding started_from
from_given limits t n [] h = tt
from_given limits t n (line ∷ more) h =
    either (ShortRead limits) (is_passed_over line) _ _ (from_given limits t (n + 1) more h)
    (either (ShortRead limits) (bytes_eq line (codes "entries")) _ _ (entries_given limits (record { limits = limits; tree = t }) (entries_from limits (n + 1) more) (refl, h))
    (given_then (NamesTree (IsShort limits)) (ShortRead limits) (in_start n (node_in_line limits line >>= grown limits t)) (λ u. started_from limits u (n + 1) more)
    (placed (NamesTree (IsShort limits)) n _ (given_then (Keyed limits) (NamesTree (IsShort limits)) (node_in_line limits line) (grown limits t) (line_given limits line)
    (λ e g. either (NamesTree (IsShort limits)) (fits_at limits t e.0 e.1 e.2) (Ok (t ++ (e.0, node_of_kind e.1 e.2) ∷ [])) (Err kind.BadStart) (one_more limits t (e.0, node_of_kind e.1 e.2) h g) tt)))
    (λ u g. from_given limits u (n + 1) more g)))

behind_given : (P : Start × List Entry → Type 0) (wanted : List ℕ) (read : ℕ → List (List ℕ) → Read) (n : ℕ) (lines : List (List ℕ)) → ((m : ℕ) (rest : List (List ℕ)) → Given P (read m rest)) → Given P (behind_line wanted read n lines)
unfolding behind_line
behind_given P wanted read n [] each = tt
behind_given P wanted read n (line ∷ more) each =
    either P (is_passed_over line) _ _ (behind_given P wanted read (n + 1) more each) (either P (bytes_eq line wanted) (read (n + 1) more) (Err (fault_at n kind.BadStart)) (each (n + 1) more) tt)

-- what is read by the limits that it has
abbrev AnyRead : Start × List Entry → Type 0
AnyRead read = ShortRead read.0.limits read

by_given : (limits : Limits) (read : Read) → Given (ShortRead limits) read → Given AnyRead read
by_given limits (Ok read) (is, h) = let same : limits ≡ read.0.limits = sym is in (refl, subst (λ (l : Limits). NamesTree (IsShort l) read.0.tree) same h)
by_given limits (Err f) h = tt

lines_given : (limits : Limits) (lines : List (List ℕ)) → Given (ShortRead limits) (started_lines limits lines)
lines_given limits lines = behind_given (ShortRead limits) (codes "start") _ 2 lines (λ m rest. behind_given (ShortRead limits) (codes "dir /") _ m rest (λ k last. from_given limits root_tree k last (tt, tt)))

announced_given : (text : List ℕ) (limits : Option Limits) (lines : List (List ℕ)) → Given AnyRead (announced_journal text limits lines)
announced_given text None lines = by_given V1 _ (entries_given V1 (root_start V1) (entries_of text) (refl, (tt, tt)))
announced_given text (Some limits) lines = by_given limits _ (lines_given limits lines)

journal_given : (text : List ℕ) → Given AnyRead (journal_of text)
unfolding journal_of
journal_given text = any_then AnyRead (headed text) (journal_behind text) (λ h. announced_given text (announced started_header h.0) h.1)

-- ---- the tree at which something starts

-- the journal of a tree's lines begins with the header of its limits
no_end : (w : List ℕ) → AllByRecursion (λ b. is_line_feed b ≡ false) w → All (λ b. is_line_feed b ≡ false) w
no_end w h = All-from_recursion (λ b. is_line_feed b ≡ false) w h

header_no_end : (limits : Limits) → All (λ b. is_line_feed b ≡ false) (started_header limits)
header_no_end V1 = no_end (codes "atomfs-journal 2") (search rules)
header_no_end V2 = no_end (codes "atomfs-journal 3") (search rules)
header_no_end V3 = no_end (codes "atomfs-journal 4") (search rules)

-- what stands behind a line and the line `start`
split_twice : (line rest : List ℕ) → All (λ b. is_line_feed b ≡ false) line → lines_of (line ++ (10 ∷ (codes "start" ++ (10 ∷ rest)))) ≡ line ∷ without_last_empty (codes "start" ∷ slice_split is_line_feed rest)
split_twice line rest h = ap without_last_empty (slice_split_at is_line_feed line 10 (codes "start" ++ (10 ∷ rest)) h refl ∙ ap (λ (l : List (List ℕ)). line ∷ l) (slice_split_at is_line_feed (codes "start") 10 rest (no_end (codes "start") (search rules)) refl))

pub cut : (limits : Limits) (nodes : List ℕ) → lines_of (nodes_journal limits nodes) ≡ started_header limits ∷ without_last_empty (codes "start" ∷ slice_split is_line_feed (nodes ++ line_end nodes ++ codes "entries\n"))
cut V1 nodes = split_twice (started_header V1) (nodes ++ line_end nodes ++ codes "entries\n") (header_no_end V1)
cut V2 nodes = split_twice (started_header V2) (nodes ++ line_end nodes ++ codes "entries\n") (header_no_end V2)
cut V3 nodes = split_twice (started_header V3) (nodes ++ line_end nodes ++ codes "entries\n") (header_no_end V3)

nodes_given : (limits : Limits) (nodes : List ℕ) → Given (ShortRead limits) (journal_of (nodes_journal limits nodes))
unfolding journal_of
nodes_given limits nodes = by (is_too_long text)
  where
    text : List ℕ
    text = nodes_journal limits nodes

    rest : List (List ℕ)
    rest = without_last_empty (codes "start" ∷ slice_split is_line_feed (nodes ++ line_end nodes ++ codes "entries\n"))

    by : (b : Bool) → Given (ShortRead limits) (cond {A = Result (List ℕ × List (List ℕ)) ScriptFault} b (Err (fault_at 1 kind.TooLarge)) (first_line (lines_of text)) >>= journal_behind text)
    by true = tt
    by false =
        subst (λ (lines : List (List ℕ)). Given (ShortRead limits) (first_line lines >>= journal_behind text)) (sym (cut limits nodes))
        (subst (λ (o : Option Limits). Given (ShortRead limits) (announced_journal text o rest)) (sym (started_announced limits)) (lines_given limits rest))

start_given : (limits : Limits) (read : Read) → Given (ShortRead limits) read → Given (IsShortStart limits) (start_read read)
start_given limits (Ok read) h = h
start_given limits (Err f) h = tt

by_limits_given : (limits : Limits) (read : Read) → Given AnyRead read → Given (IsShortStart limits) (by_limits limits read)
by_limits_given limits (Err f) h = tt
by_limits_given limits (Ok read) h = by (same_limits limits read.0.limits) refl
  where
    by : (b : Bool) → same_limits limits read.0.limits ≡ b → Given (IsShortStart limits) (cond {A = Result Start ScriptFault} b (Ok (read.0)) (Err (fault_at 1 kind.BadHeader)))
    by true e = let same : read.0.limits ≡ limits = sym (one_set limits read.0.limits e) in (same, subst (λ (l : Limits). NamesTree (IsShort l) read.0.tree) same h.1)
    by false e = tt

-- a fault in place of what is read changes no start
before_given : (P : Start → Type 0) (n : Option ℕ) (read : Result Start ScriptFault) → Given P read → Given P (before_entries n read)
before_given P None read h = h
before_given P (Some n) (Ok start) h = tt
before_given P (Some n) (Err f) h = either P (nat_lt f.line n) (Err f) (Err (fault_at n kind.BadStart)) tt tt

lines_of_nodes_given : (limits : Limits) (nodes : List ℕ) → Given (IsShortStart limits) (nodes_read limits nodes)
lines_of_nodes_given limits nodes = before_given (IsShortStart limits) (entries_line 2 (lines_of nodes)) _ (start_given limits (journal_of (nodes_journal limits nodes)) (nodes_given limits nodes))

text_given : (limits : Limits) (text : List ℕ) → Given (IsShortStart limits) (start_of limits text)
text_given limits text =
    either (IsShortStart limits) (bytes_eq (take 5 text) (codes "tree\n")) _ _ (lines_of_nodes_given limits (drop 5 text))
    (either (IsShortStart limits) (bytes_eq text (codes "tree")) (Err (fault_at 2 kind.BadStart)) (by_limits limits (journal_of text)) tt (by_limits_given limits (journal_of text) (journal_given text)))

pub short_start : (limits : Limits) (text : List ℕ) (start : Start) → start_of limits text ≡ Ok start → (start.limits ≡ limits) × NamesTree (IsShort limits) start.tree
short_start limits text start is = given_is (IsShortStart limits) (start_of limits text) start (text_given limits text) is

-- so what is read of the lines of nodes has these limits
pub nodes_limits : (limits : Limits) (nodes : List ℕ) (read : Result Start ScriptFault) → GivesText (λ (start : Start). start) read (nodes_read limits nodes) → IfOk read (λ (start : Start). start.limits ≡ limits)
nodes_limits limits nodes (Ok start) is = (given_is (IsShortStart limits) (nodes_read limits nodes) start (lines_of_nodes_given limits nodes) is).0
nodes_limits limits nodes (Err f) is = tt

-- and what is read of a text
pub limits_given : (limits : Limits) (text : List ℕ) (read : Result Start ScriptFault) → GivesText (λ (start : Start). start) read (start_of limits text) → IfOk read (λ (start : Start). start.limits ≡ limits)
limits_given limits text (Ok start) is = (short_start limits text start is).0
limits_given limits text (Err f) is = tt
