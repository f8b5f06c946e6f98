-- The line of the first node too many is there: each node but the root has a line of its own.
use Rattle.std.proofs.Common.{◌≡◌, ◌≤◌, ◌<◌, ℕ, ◌+◌, Bool, true, false, cond, inl, inr, List, [], ◌∷◌, ◌++◌, length, Result, Ok, Err, refl, sym, ap, subst, ◌∙◌, codes, arith, rules, get_or, length-append, append_assoc, append-nil, slice_index, ◌-◌}
use Rattle.std.proofs.lemmas.Bool.{cases_Bool, cond-true, cond-false}
use Rattle.std.proofs.lemmas.Bool.Decides.{nat_tests}
use Rattle.std.proofs.lemmas.List.{take-append-drop, get_or_past}
use Rattle.std.proofs.lemmas.List.Splits.{slice_split-cons_yes, slice_split-cons_no}
use Rattle.std.proofs.lemmas.Option.{slice_get-get_or}
use Rattle.std.proofs.lemmas.Slice.Eq.{bytes_eq-Decides}
use Rattle.std.proofs.Math.Seq.{get_or-append_seam}
use Rattle.std.specs.Prelude.{take, drop, nat_lt, ◌==◌, Option, Some, None}
use Rattle.std.specs.List.{slice_split, onto_first}
use Rattle.std.specs.Str.{bytes_eq}
use Rattle.fs_names.specs.Limits.{same_limits, node_limit}
use Rattle.fs_names.specs.declared.limits.Limits.{Limits}
use Rattle.fs_names.specs.declared.limits.Limits.TheVariants.{V1, V2, V3}
use Rattle.fs_names.proofs.LimitLemmas.{some_nodes}
use Rattle.fs_calls.specs.Tree.{Tree, root_tree}
use Rattle.fs_calls.specs.Starts.{Start, root_start}
use Rattle.fs_timeline.specs.declared.entry.Entry.{Entry}
use Rattle.fs_seq.specs.Rows.{node_of_kind, fits_at}
use Rattle.fs_words.specs.Lines.{is_line_feed, without_last_empty, lines_of, is_passed_over}
use Rattle.fs_words.specs.Reading.{◌>>=◌, fault_at, first_line}
use Rattle.fs_words.specs.declared.fault.FaultKind.TheVariants as kind
use Rattle.fs_words.specs.declared.fault.ScriptFault.{ScriptFault}
use Rattle.fs_text.specs.Journal.{entries_from, entries_of}
use Rattle.fs_text.proofs.ReadNames.{Given, given_then, given_is}
use Rattle.fs_words.specs.Headers.{started_header, announced, is_too_long}
use Rattle.fs_script.specs.Journals.{Read, node_in_line, grown, in_start, with_start, started_from, behind_line, announced_journal, journal_behind, journal_of, ends_line, line_end, nodes_journal, start_read, entries_line, before_entries, nodes_read, by_limits, start_of}
use Rattle.fs_sched_start.specs.Faults.{told_lines, lines_before, IsNodeTooMany}
use Rattle.fs_words.proofs.HeaderLemmas.{announced_is}
use Rattle.fs_script.proofs.StartNames.{any_then, placed, cut}

-- ---- lines that tell something

-- how many they are
abbrev told : List (List ℕ) → ℕ
told [] = 0
told (line ∷ more) = cond (is_passed_over line) (told more) (1 + told more)

told_all : (n : ℕ) (lines : List (List ℕ)) → length (told_lines n lines) ≡ told lines
told_all n [] = refl
told_all n (line ∷ more) = by (is_passed_over line) (told_all (n + 1) more)
  where
    by : (b : Bool) → length (told_lines (n + 1) more) ≡ told more → length (cond b (told_lines (n + 1) more) (n ∷ told_lines (n + 1) more)) ≡ cond b (told more) (1 + told more)
    by true h = h
    by false h = omega (arith, h)

told_one : (line : List ℕ) (more : List (List ℕ)) → is_passed_over line ≡ false → told (line ∷ more) ≡ 1 + told more
told_one line more p = cond-false _ _ _ p

told_more : (line : List ℕ) (more : List (List ℕ)) → told more ≤ told (line ∷ more)
told_more line more = by (is_passed_over line)
  where
    by : (b : Bool) → told more ≤ cond b (told more) (1 + told more)
    by true = omega arith
    by false = omega arith

told_append : (xs ys : List (List ℕ)) → told (xs ++ ys) ≡ told xs + told ys
told_append [] ys = omega arith
told_append (line ∷ more) ys = by (is_passed_over line) (told_append more ys)
  where
    by : (b : Bool) → told (more ++ ys) ≡ told more + told ys → cond b (told (more ++ ys)) (1 + told (more ++ ys)) ≡ cond b (told more) (1 + told more) + told ys
    by true h = h
    by false h = omega (arith, h)

-- an empty line tells nothing
told_parts : (parts : List (List ℕ)) → told (without_last_empty parts) ≡ told parts
told_parts [] = refl
told_parts ([] ∷ []) = refl
told_parts ((b ∷ bs) ∷ []) = ap told (cond-false _ _ _ (some_bytes bs))
  where
    some_bytes : (l : List ℕ) → (length (b ∷ l) == 0) ≡ false
    some_bytes l = search rules
told_parts (part ∷ next ∷ more) = ap (λ n. cond (is_passed_over part) n (1 + n)) (told_parts (next ∷ more))

-- ---- how many nodes are read

abbrev Bounds : ℕ → ℕ → Start × List Entry → Type 0
Bounds before lines read = length read.0.tree + before ≤ lines

either_by : {A F : Type 0} (P : A → Type 0) (b : Bool) (r q : Result A F) → (b ≡ true → Given P r) → (b ≡ false → Given P q) → Given P (cond b r q)
either_by P true r q h g = h refl
either_by P false r q h g = g refl

weaker : {A F : Type 0} (P Q : A → Type 0) (r : Result A F) → ((x : A) → P x → Q x) → Given P r → Given Q r
weaker P Q (Ok x) f h = f x h
weaker P Q (Err e) f h = tt

at_entries : (m : ℕ) (start : Start) (entries : Result (List Entry) ScriptFault) → length start.tree + 1 ≤ m → Given (Bounds 1 m) (with_start start entries)
at_entries m start (Ok es) h = h
at_entries m start (Err f) h = tt

one_node : (limits : Limits) (t : Tree) (n : ℕ) (line : List ℕ) → Given (λ (u : Tree). length u ≡ length t + 1) (in_start n (node_in_line limits line >>= grown limits t))
one_node limits t n line =
    placed (λ (u : Tree). length u ≡ length t + 1) n _ (any_then (λ (u : Tree). length u ≡ length t + 1) (node_in_line limits line) (grown limits t)
    (λ e. either_by (λ (u : Tree). length u ≡ length t + 1) (fits_at limits t e.0 e.1 e.2) (Ok (t ++ (e.0, node_of_kind e.1 e.2) ∷ [])) (Err kind.BadStart) (λ h. length-append t ((e.0, node_of_kind e.1 e.2) ∷ [])) (λ h. tt)))

from_most : (limits : Limits) (t : Tree) (n : ℕ) (lines : List (List ℕ)) → Given (Bounds 1 (length t + told lines)) (started_from limits t n lines)
unfolding started_from
from_most limits t n [] = tt
from_most limits t n (line ∷ more) =
    let P : Start × List Entry → Type 0 = Bounds 1 (length t + told (line ∷ more)) in
    either_by P (is_passed_over line) _ _
    (λ p. weaker (Bounds 1 (length t + told more)) P _ (λ read h. let less : told more ≤ told (line ∷ more) = told_more line more in omega (arith, h, less)) (from_most limits t (n + 1) more))
    (λ p. let one : told (line ∷ more) ≡ 1 + told more = told_one line more p in
    either_by P (bytes_eq line (codes "entries")) _ _
    (λ e. at_entries (length t + told (line ∷ more)) (record { limits = limits; tree = t }) (entries_from limits (n + 1) more) (omega (arith, one)))
    (λ e. given_then (λ (u : Tree). length u ≡ length t + 1) P (in_start n (node_in_line limits line >>= grown limits t)) (λ u. started_from limits u (n + 1) more) (one_node limits t n line)
    (λ u long. weaker (Bounds 1 (length u + told more)) P _ (λ read h. omega (arith, h, long, one)) (from_most limits u (n + 1) more))))

is_other : (line wanted : List ℕ) → is_passed_over wanted ≡ false → bytes_eq line wanted ≡ true → is_passed_over line ≡ false
is_other line wanted p e = ap is_passed_over ((bytes_eq-Decides line wanted).0 e) ∙ p

behind_most : (wanted : List ℕ) (read : ℕ → List (List ℕ) → Read) (before : ℕ) → is_passed_over wanted ≡ false → ((n : ℕ) (lines : List (List ℕ)) → Given (Bounds before (1 + told lines)) (read n lines))
    → (n : ℕ) (lines : List (List ℕ)) → Given (Bounds (before + 1) (1 + told lines)) (behind_line wanted read n lines)
unfolding behind_line
behind_most wanted read before p each n [] = tt
behind_most wanted read before p each n (line ∷ more) =
    let P : Start × List Entry → Type 0 = Bounds (before + 1) (1 + told (line ∷ more)) in
    either_by P (is_passed_over line) _ _
    (λ q. weaker (Bounds (before + 1) (1 + told more)) P _ (λ r h. let less : told more ≤ told (line ∷ more) = told_more line more in omega (arith, h, less)) (behind_most wanted read before p each (n + 1) more))
    (λ q. either_by P (bytes_eq line wanted) _ _
    (λ e. let one : told (line ∷ more) ≡ 1 + told more = told_one line more q in weaker (Bounds before (1 + told more)) P _ (λ r h. omega (arith, h, one)) (each (n + 1) more))
    (λ e. tt))

-- the lines of a start tree: the nodes but the root behind the lines `start` and `dir /`, and `entries` behind them
lines_most : (limits : Limits) (n : ℕ) (lines : List (List ℕ)) → Given (Bounds 3 (1 + told lines)) (behind_line (codes "start") (behind_line (codes "dir /") (started_from limits root_tree)) n lines)
lines_most limits = behind_most (codes "start") _ 2 refl (behind_most (codes "dir /") _ 1 refl (from_most limits root_tree))

told_header : (limits : Limits) → is_passed_over (started_header limits) ≡ false
told_header V1 = refl
told_header V2 = refl
told_header V3 = refl

-- more nodes than the root are read only of a text that has so many lines
abbrev Many : List ℕ → Start × List Entry → Type 0
Many text read = 1 < length read.0.tree → Bounds 3 (told (lines_of text)) read

root_many : (text : List ℕ) (entries : Result (List Entry) ScriptFault) → Given (Many text) (with_start (root_start V1) entries)
root_many text (Ok es) = λ many. absurd (let h : 1 < 1 = many in omega (arith, h))
root_many text (Err f) = tt

announced_many : (text first : List ℕ) (more : List (List ℕ)) (limits : Option Limits) → lines_of text ≡ first ∷ more → announced started_header first ≡ limits → Given (Many text) (announced_journal text limits more)
announced_many text first more None are is = root_many text (entries_of text)
announced_many text first more (Some limits) are is =
    let other : is_passed_over first ≡ false = ap is_passed_over (announced_is started_header first limits is) ∙ told_header limits in
    let one : told (lines_of text) ≡ 1 + told more = ap told are ∙ told_one first more other in
    weaker (Bounds 3 (1 + told more)) (Many text) _ (λ read few many. omega (arith, few, one)) (lines_most limits 2 more)

journal_many : (text : List ℕ) → Given (Many text) (journal_of text)
unfolding journal_of
journal_many text = by (is_too_long text) (lines_of text) refl
  where
    by : (long : Bool) (lines : List (List ℕ)) → lines_of text ≡ lines
        → Given (Many text) (cond {A = Result (List ℕ × List (List ℕ)) ScriptFault} long (Err (fault_at 1 kind.TooLarge)) (first_line lines) >>= journal_behind text)
    by true lines are = tt
    by false [] are = tt
    by false (first ∷ more) are = announced_many text first more (announced started_header first) are refl

-- ---- the text of a tree alone

split_some : (p : ℕ → Bool) (xs : List ℕ) → (part : List ℕ) × (parts : List (List ℕ)) × (slice_split p xs ≡ part ∷ parts)
split_some p [] = ([], [], refl)
split_some p (x ∷ xs) =
    elim (cases_Bool (p x)) [
      | inl e ↦ ([], slice_split p xs, slice_split-cons_yes p x xs e)
      | inr e ↦
          let r = split_some p xs in
          (x ∷ r.0, r.1, slice_split-cons_no p x xs e ∙ ap (onto_first x) r.2)
    ]

onto_append : (x : ℕ) (parts more : List (List ℕ)) (part : List ℕ) (rest : List (List ℕ)) → parts ≡ part ∷ rest → onto_first x (parts ++ more) ≡ onto_first x parts ++ more
onto_append x parts more part rest e = subst (λ (l : List (List ℕ)). onto_first x (l ++ more) ≡ onto_first x l ++ more) (sym e) refl

split_append : (xs ys : List ℕ) → slice_split is_line_feed (xs ++ 10 ∷ ys) ≡ slice_split is_line_feed xs ++ slice_split is_line_feed ys
split_append [] ys = slice_split-cons_yes is_line_feed 10 ys refl
split_append (x ∷ xs) ys =
    elim (cases_Bool (is_line_feed x)) [
      | inl e ↦ slice_split-cons_yes is_line_feed x (xs ++ 10 ∷ ys) e ∙ ap (λ (l : List (List ℕ)). [] ∷ l) (split_append xs ys) ∙ ap (λ (l : List (List ℕ)). l ++ slice_split is_line_feed ys) (sym (slice_split-cons_yes is_line_feed x xs e))
      | inr e ↦
          let some = split_some is_line_feed xs in
          slice_split-cons_no is_line_feed x (xs ++ 10 ∷ ys) e ∙ ap (onto_first x) (split_append xs ys) ∙ onto_append x (slice_split is_line_feed xs) (slice_split is_line_feed ys) some.0 some.1 some.2
          ∙ ap (λ (l : List (List ℕ)). l ++ slice_split is_line_feed ys) (sym (slice_split-cons_no is_line_feed x xs e))
    ]

-- how many lines of a text tell something
abbrev in_text : List ℕ → ℕ
in_text text = told (slice_split is_line_feed text)

text_told : (text : List ℕ) → told (lines_of text) ≡ in_text text
text_told text = told_parts (slice_split is_line_feed text)

text_append : (xs ys : List ℕ) → in_text (xs ++ 10 ∷ ys) ≡ in_text xs + in_text ys
text_append xs ys = ap told (split_append xs ys) ∙ told_append (slice_split is_line_feed xs) (slice_split is_line_feed ys)

last_of : (b : ℕ) (bs : List ℕ) → (front : List ℕ) × (x : ℕ) × (b ∷ bs ≡ front ++ x ∷ [])
last_of b [] = ([], b, refl)
last_of b (c ∷ cs) = let r = last_of c cs in (b ∷ r.0, r.1, ap (λ (l : List ℕ). b ∷ l) r.2)

last_is : (front : List ℕ) (x : ℕ) → ends_line (front ++ x ∷ []) ≡ (x == 10)
last_is front x =
    let last : length (front ++ x ∷ []) - 1 ≡ length front = ap (λ n. n - 1) (length-append front (x ∷ [])) ∙ omega arith in
    ap (λ i. slice_index (front ++ x ∷ []) i == 10) last ∙ ap (λ b. b == 10) (get_or-append_seam front x [] 0)

is_feed : (x : ℕ) → (x == 10) ≡ true → x ≡ 10
is_feed x e = grind (arith, nat_tests)

-- the nodes of a tree, and the line `entries` behind them
entries_told : (nodes : List ℕ) → in_text ((nodes ++ line_end nodes) ++ codes "entries\n") ≡ in_text nodes + 1
entries_told [] = refl
entries_told (b ∷ bs) =
    elim (cases_Bool (ends_line (b ∷ bs))) [
      | inl e ↦
          let none : line_end (b ∷ bs) ≡ [] = some_bytes b bs ∙ cond-true _ _ _ e in
          let r = last_of b bs in
          let feed : r.1 ≡ 10 = is_feed r.1 (sym (last_is r.0 r.1) ∙ ap ends_line (sym r.2) ∙ e) in
          let is : b ∷ bs ≡ r.0 ++ 10 ∷ [] = r.2 ∙ ap (λ (x : ℕ). r.0 ++ x ∷ []) feed in
          let whole : in_text (r.0 ++ 10 ∷ []) ≡ in_text r.0 + 0 = text_append r.0 [] in
          let long : in_text (r.0 ++ 10 ∷ codes "entries\n") ≡ in_text r.0 + 1 = text_append r.0 (codes "entries\n") in
          ap (λ (end : List ℕ). in_text (((b ∷ bs) ++ end) ++ codes "entries\n")) none
          ∙ ap (λ (l : List ℕ). in_text (l ++ codes "entries\n")) (append-nil (b ∷ bs) ∙ is)
          ∙ ap in_text (append_assoc r.0 (10 ∷ []) (codes "entries\n"))
          ∙ long ∙ ap (λ n. n + 1) (omega (arith, whole)) ∙ ap (λ (l : List ℕ). in_text l + 1) (sym is)
      | inr e ↦
          let one : line_end (b ∷ bs) ≡ 10 ∷ [] = some_bytes b bs ∙ cond-false _ _ _ e in
          ap (λ (end : List ℕ). in_text (((b ∷ bs) ++ end) ++ codes "entries\n")) one
          ∙ ap in_text (append_assoc (b ∷ bs) (10 ∷ []) (codes "entries\n"))
          ∙ text_append (b ∷ bs) (codes "entries\n")
    ]
  where
    some_bytes : (b : ℕ) (bs : List ℕ) → line_end (b ∷ bs) ≡ cond (ends_line (b ∷ bs)) [] (codes "\n")
    some_bytes b bs = let e : (length (b ∷ bs) == 0) ≡ false = search rules in cond-false _ _ _ e

journal_told : (limits : Limits) (nodes : List ℕ) → told (lines_of (nodes_journal limits nodes)) ≡ in_text nodes + 3
journal_told limits nodes =
    let rest : List (List ℕ) = slice_split is_line_feed (nodes ++ line_end nodes ++ codes "entries\n") in
    let header : told (lines_of (nodes_journal limits nodes)) ≡ 1 + told (without_last_empty (codes "start" ∷ rest)) = ap told (cut limits nodes) ∙ told_one (started_header limits) (without_last_empty (codes "start" ∷ rest)) (told_header limits) in
    let start : told (without_last_empty (codes "start" ∷ rest)) ≡ 1 + told rest = told_parts (codes "start" ∷ rest) in
    let end : told rest ≡ in_text nodes + 1 = entries_told nodes in
    omega (arith, header, start, end)

tree_told : (text : List ℕ) → bytes_eq (take 5 text) (codes "tree\n") ≡ true → told (lines_of text) ≡ 1 + in_text (drop 5 text)
tree_told text e =
    let is : text ≡ codes "tree" ++ 10 ∷ drop 5 text = sym (take-append-drop 5 text) ∙ ap (λ (l : List ℕ). l ++ drop 5 text) ((bytes_eq-Decides (take 5 text) (codes "tree\n")).0 e) in
    text_told text ∙ ap in_text is ∙ text_append (codes "tree") (drop 5 text)

-- ---- the tree at which something starts

abbrev HasMany : Limits → List ℕ → Start → Type 0
HasMany limits text start = node_limit limits < length start.tree → lines_before text + node_limit limits < told (lines_of text)

more_than_root : (limits : Limits) (start : Start) → node_limit limits < length start.tree → 1 < length start.tree
more_than_root limits start many = omega (arith, many, some_nodes limits)

behind_one : (limits : Limits) (text : List ℕ) (read : Start × List Entry) → bytes_eq (take 5 text) (codes "tree\n") ≡ true → Many (nodes_journal limits (drop 5 text)) read → HasMany limits text (read.0)
behind_one limits text read e h many =
    let first : lines_before text ≡ 1 = cond-true _ _ _ e in
    let few : length read.0.tree + 3 ≤ told (lines_of (nodes_journal limits (drop 5 text))) = h (more_than_root limits read.0 many) in
    omega (arith, many, few, first, journal_told limits (drop 5 text), tree_told text e)

-- a fault in place of what is read says nothing of a start
before_many : (P : Start → Type 0) (n : Option ℕ) (read : Result Start ScriptFault) → Given P read → Given P (before_entries n read)
before_many P None read h = h
before_many P (Some n) (Ok start) h = tt
before_many P (Some n) (Err f) h = either_by P (nat_lt f.line n) (Err f) (Err (fault_at n kind.BadStart)) (λ less. tt) (λ not_less. tt)

tree_many : (limits : Limits) (text : List ℕ) → bytes_eq (take 5 text) (codes "tree\n") ≡ true → Given (HasMany limits text) (nodes_read limits (drop 5 text))
tree_many limits text e =
    before_many (HasMany limits text) (entries_line 2 (lines_of (drop 5 text))) _ (by (journal_of (nodes_journal limits (drop 5 text))) (journal_many (nodes_journal limits (drop 5 text))))
  where
    by : (read : Read) → Given (Many (nodes_journal limits (drop 5 text))) read → Given (HasMany limits text) (start_read read)
    by (Err f) h = tt
    by (Ok read) h = behind_one limits text read e h

behind_two : (limits : Limits) (text : List ℕ) (read : Start × List Entry) → bytes_eq (take 5 text) (codes "tree\n") ≡ false → Many text read → HasMany limits text (read.0)
behind_two limits text read e h many =
    let first : lines_before text ≡ 2 = cond-false _ _ _ e in
    let few : length read.0.tree + 3 ≤ told (lines_of text) = h (more_than_root limits read.0 many) in
    omega (arith, many, few, first)

plain_many : (limits : Limits) (text : List ℕ) → bytes_eq (take 5 text) (codes "tree\n") ≡ false → Given (HasMany limits text) (by_limits limits (journal_of text))
plain_many limits text e = by (journal_of text) (journal_many text)
  where
    by : (read : Read) → Given (Many text) read → Given (HasMany limits text) (by_limits limits read)
    by (Err f) h = tt
    by (Ok read) h = either_by (HasMany limits text) (same_limits limits read.0.limits) (Ok (read.0)) (Err (fault_at 1 kind.BadHeader)) (λ same. behind_two limits text read e h) (λ other. tt)

start_many : (limits : Limits) (text : List ℕ) → Given (HasMany limits text) (start_of limits text)
start_many limits text =
    either_by (HasMany limits text) (bytes_eq (take 5 text) (codes "tree\n")) _ _ (tree_many limits text)
    (λ other. either_by (HasMany limits text) (bytes_eq text (codes "tree")) (Err (fault_at 2 kind.BadStart)) (by_limits limits (journal_of text)) (λ alone. tt) (λ more. plain_many limits text other))

-- the line of the first node too many is there
pub node_too_many : (limits : Limits) (text : List ℕ) (start : Start) → start_of limits text ≡ Ok start → node_limit limits < length start.tree → IsNodeTooMany limits text (get_or (told_lines 1 (lines_of text)) (lines_before text + node_limit limits) (length (lines_of text)))
node_too_many limits text start is many =
    let there : lines_before text + node_limit limits < told (lines_of text) = given_is (HasMany limits text) (start_of limits text) start (start_many limits text) is many in
    slice_get-get_or (told_lines 1 (lines_of text)) (lines_before text + node_limit limits) (length (lines_of text)) (omega (arith, there, told_all 1 (lines_of text)))

-- ---- the lines one after the other

-- so many of the lines before those that are left tell something, and the first of these has the next number
pub record HasPassed (text left : List ℕ) (number passed lines : ℕ) : Type 0 where
  pub before : List ℕ
  pub are : told_lines 1 (lines_of text) ≡ before ++ told_lines (number + 1) (lines_of left)
  pub count : length before ≡ passed
  pub few : passed ≤ lines
  pub number_of : number + length (lines_of left) ≡ length (lines_of text)
  pub room : number + length left ≤ length text

pub none_passed : (text : List ℕ) (lines : ℕ) → HasPassed text text 0 0 lines
none_passed text lines = record { before = []; are = refl; count = refl; few = omega arith; number_of = omega arith; room = omega arith }

-- a line that tells nothing
pub over_one : (text left : List ℕ) (line rest : List ℕ) (number passed lines : ℕ) → HasPassed text left number passed lines → lines_of left ≡ line ∷ lines_of rest → length rest < length left → is_passed_over line ≡ true → HasPassed text rest (number + 1) passed lines
over_one text left line rest number passed lines h is less p = record {
  before = h.before;
  are = h.are ∙ ap (λ (l : List (List ℕ)). h.before ++ told_lines (number + 1) l) is ∙ ap (λ (l : List ℕ). h.before ++ l) (cond-true _ _ _ p);
  count = h.count;
  few = h.few;
  number_of = let e : length (lines_of left) ≡ 1 + length (lines_of rest) = ap length is ∙ omega arith in omega (arith, e, h.number_of);
  room = omega (arith, h.room, less);
}

-- one that does
pub told_line : (text left : List ℕ) (line rest : List ℕ) (number passed lines : ℕ) → HasPassed text left number passed lines → lines_of left ≡ line ∷ lines_of rest → length rest < length left → is_passed_over line ≡ false → passed < lines → HasPassed text rest (number + 1) (passed + 1) lines
told_line text left line rest number passed lines h is less p more = record {
  before = h.before ++ (number + 1) ∷ [];
  are = h.are ∙ ap (λ (l : List (List ℕ)). h.before ++ told_lines (number + 1) l) is ∙ ap (λ (l : List ℕ). h.before ++ l) (cond-false _ _ _ p)
      ∙ sym (append_assoc h.before ((number + 1) ∷ []) (told_lines (number + 1 + 1) (lines_of rest)));
  count = length-append h.before ((number + 1) ∷ []) ∙ ap (λ n. n + 1) h.count;
  few = omega (arith, more);
  number_of = let e : length (lines_of left) ≡ 1 + length (lines_of rest) = ap length is ∙ omega arith in omega (arith, e, h.number_of);
  room = omega (arith, h.room, less);
}

-- the line behind so many
pub found_line : (text left : List ℕ) (line rest : List ℕ) (number passed lines : ℕ) → HasPassed text left number passed lines → lines_of left ≡ line ∷ lines_of rest → is_passed_over line ≡ false → passed ≡ lines → number + 1 ≡ get_or (told_lines 1 (lines_of text)) lines (length (lines_of text))
found_line text left line rest number passed lines h is p same =
    let whole : told_lines 1 (lines_of text) ≡ h.before ++ (number + 1) ∷ told_lines (number + 1 + 1) (lines_of rest) = h.are ∙ ap (λ (l : List (List ℕ)). h.before ++ told_lines (number + 1) l) is ∙ ap (λ (l : List ℕ). h.before ++ l) (cond-false _ _ _ p) in
    sym (get_or-append_seam h.before (number + 1) (told_lines (number + 1 + 1) (lines_of rest)) (length (lines_of text)))
    ∙ ap (λ n. get_or (h.before ++ (number + 1) ∷ told_lines (number + 1 + 1) (lines_of rest)) n (length (lines_of text))) (h.count ∙ same)
    ∙ ap (λ (l : List ℕ). get_or l lines (length (lines_of text))) (sym whole)

-- there is none
pub no_line : (text left : List ℕ) (number passed lines : ℕ) → HasPassed text left number passed lines → lines_of left ≡ [] → number ≡ get_or (told_lines 1 (lines_of text)) lines (length (lines_of text))
no_line text left number passed lines h none =
    let whole : told_lines 1 (lines_of text) ≡ h.before = h.are ∙ ap (λ (l : List (List ℕ)). h.before ++ told_lines (number + 1) l) none ∙ append-nil h.before in
    let short : length (told_lines 1 (lines_of text)) ≡ passed = ap length whole ∙ h.count in
    let all : number ≡ length (lines_of text) = let e : length (lines_of left) ≡ 0 = ap length none in omega (arith, e, h.number_of) in
    all ∙ sym (get_or_past (told_lines 1 (lines_of text)) lines (length (lines_of text)) (omega (arith, short, h.few)))
