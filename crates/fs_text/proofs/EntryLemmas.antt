-- Entries that were written behind the header are read again.
use Rattle.std.proofs.Common.{◌≡◌, ℕ, ◌+◌, ◌<◌, ◌≤◌, true, false, ltb, List, [], ◌∷◌, ◌++◌, length, map, refl, ap, ◌∙◌, arith, rules, codes, Ok, Err, decimal}
use Rattle.std.specs.Prelude.{◌^◌, zero, suc, if◌then◌else◌, IsTrue, Some}
use Rattle.std.specs.Str.{bytes_eq}
use Rattle.std.specs.List.{flat_map, AllByRecursion, join_with_byte}
use Rattle.std.proofs.lemmas.List.Elements.{All-from_recursion}
use Rattle.std.proofs.lemmas.Bool.{cond-true, cond-false, le-leb, lt-ltb}
use Rattle.std.specs.Cmp.Derive.{both_true}
use Rattle.percent_encoding.specs.Percent.{percent_decode}
use Rattle.hex.specs.Hex.{IsBytes}
use Rattle.fs_names.specs.Names.{AreBytes, IsName}
use Rattle.fs_names.specs.Keys.{Key}
use Rattle.fs_names.specs.Limits.{has_list}
use Rattle.fs_names.specs.declared.limits.Limits.TheVariants.{V1}
use Rattle.fs_names.specs.declared.kind.Kind.{Kind}
use Rattle.fs_names.specs.declared.kind.Kind.TheVariants.{Dir, File}
use Rattle.fs_names.specs.declared.limits.Limits.{Limits}
use Rattle.fs_calls.specs.declared.call.Call.{Call}
use Rattle.fs_calls.specs.declared.call.Call.TheVariants as call
use Rattle.fs_calls.specs.declared.reply.Reply.{Reply}
use Rattle.fs_calls.specs.declared.reply.Reply.TheVariants as reply
use Rattle.fs_calls.specs.declared.errno.Errno.{Errno}
use Rattle.fs_calls.specs.declared.errno.Errno.TheVariants as errno
use Rattle.fs_timeline.specs.declared.entry.Entry.{Entry}
use Rattle.fs_timeline.specs.declared.entry.Entry.TheVariants.{Begin, Commit, Return}
use Rattle.fs_words.specs.Lines.{lines_of, pieces_of, has_empty, is_passed_over}
use Rattle.fs_words.specs.Words.{hex_word, escaped, path_word}
use Rattle.fs_words.specs.Reading.{◌>>=◌, or_fault, or_bad_path, path_at, number_at, hex_at, name_at, read_name, words_of, fault_at, at_line, first_line}
use Rattle.fs_text.specs.Calls.{call_words, call_of, count_at, paths_and_count, list_form, formed_call, is_formed, has_call_form}
use Rattle.fs_text.specs.Journal.{kind_word, errno_word, reply_words, entry_words, entry_line, journal_header, journal_text, names_at, reply_of, entry_of, return_of, is_tree_line, entries_from, entries_of}
use Rattle.fs_words.specs.declared.fault.FaultKind.TheVariants as kind
use Rattle.fs_text.specs.Fits.{FitsName, FitsPath, IsU64, IsU32, FitsCall, FitsReply, FitsEntry, AllFit}
use Rattle.fs_text.specs.Laws.{ReadsBack}
use Rattle.fs_words.specs.Headers.{text_limit}
use Rattle.fs_words.proofs.HeaderLemmas.{short_enough}
use Rattle.fs_words.proofs.WordLemmas.{IsWord, pieces_of_joined, has_no_empty, IsLine, IsLine_joined, ended, lines_of_ended}
use Rattle.fs_words.proofs.NumberLemmas.{number_again, IsWord_decimal, hex_again, IsWord_hex}
use Rattle.fs_words.proofs.EscapeLemmas.{escape_again, IsWord_escaped}
use Rattle.fs_names.proofs.WrittenLemmas.{NameFacts, name_facts}
use Rattle.fs_words.proofs.PathLemmas.{KeyFacts, IsShort, path_again, IsWord_path}

-- ---- one word

all_facts : (limits : Limits) (ns : Key) → AllByRecursion (FitsName limits) ns → AllByRecursion (IsShort limits) ns × AllByRecursion NameFacts ns × AllByRecursion AreBytes ns
all_facts limits [] h = (tt, tt, tt)
all_facts limits (n ∷ ns) h = let rest = all_facts limits ns h.1 in ((h.0.short, rest.0), (name_facts n h.0.is_name.test, rest.1), (h.0.is_name.bytes, rest.2))

key_facts : (limits : Limits) (key : Key) → FitsPath limits key → KeyFacts limits key
key_facts limits key h = let each = all_facts limits key h.names in record { few = h.few; short = each.0; names = each.1; bytes = each.2 }

path_read : (limits : Limits) (p : Key) → FitsPath limits p → path_at limits (path_word p) ≡ Ok p
path_read limits p h = ap or_bad_path (path_again limits p (key_facts limits p h))

wide : (n : ℕ) → IsU32 n → IsU64 n
wide n h = omega (arith, h)

number_read : (n : ℕ) → IsU64 n → number_at (decimal n) ≡ Ok n
number_read n h = ap (or_fault kind.BadNumber) (number_again n h)

count_read : (n : ℕ) → IsU32 n → count_at (decimal n) ≡ Ok n
count_read n h =
    ap (λ r. r >>= λ count. if ltb count (2 ^ 32) then Ok count else Err kind.BadNumber) (number_read n (wide n h))
    ∙ cond-true _ _ _ (lt-ltb _ _ h)

pub byte_at : (bs : List ℕ) → AreBytes bs → IsBytes bs
byte_at [] h i = omega arith
byte_at (b ∷ bs) h zero = h.0
byte_at (b ∷ bs) h (suc i) = byte_at bs h.1 i

pub hex_read : (bs : List ℕ) → AreBytes bs → hex_at (hex_word bs) ≡ Ok bs
hex_read bs h = ap (or_fault kind.BadHex) (hex_again bs (byte_at bs h))

-- ---- a call

list_formed : (limits : Limits) → IsTrue (has_list limits) → list_form limits ≡ Some (paths_and_count call.ListAfter)
list_formed limits has = cond-true _ _ _ has

call_again : (limits : Limits) (c : Call) → FitsCall limits c → call_of limits (call_words c) ≡ Ok c
unfolding call_of
call_again limits (call.Mkdir p) h = ap (λ r. r >>= λ key. Ok (call.Mkdir key)) (path_read limits p h)
call_again limits (call.Mknod p) h = ap (λ r. r >>= λ key. Ok (call.Mknod key)) (path_read limits p h)
call_again limits (call.Unlink p) h = ap (λ r. r >>= λ key. Ok (call.Unlink key)) (path_read limits p h)
call_again limits (call.Rmdir p) h = ap (λ r. r >>= λ key. Ok (call.Rmdir key)) (path_read limits p h)
call_again limits (call.Rename p q) h = rw (path_read limits p h.0, path_read limits q h.1) refl
call_again limits (call.Exchange p q) h = rw (path_read limits p h.0, path_read limits q h.1) refl
call_again limits (call.Stat p) h = ap (λ r. r >>= λ key. Ok (call.Stat key)) (path_read limits p h)
call_again limits (call.Readdir p) h = ap (λ r. r >>= λ key. Ok (call.Readdir key)) (path_read limits p h)
call_again limits (call.ListAfter count p after) h =
    ap (λ o. formed_call limits o (path_word p ∷ path_word after ∷ decimal count ∷ [])) (list_formed limits h.3)
    ∙ rw (path_read limits p h.0, path_read limits after h.1, count_read count h.2) refl
call_again limits (call.Read p off count) h = rw (path_read limits p h.0, number_read off h.1, number_read count h.2) refl
call_again limits (call.Write p off file) h = rw (path_read limits p h.0, number_read off h.1, hex_read file h.2) refl
call_again limits (call.Truncate p size) h = rw (path_read limits p h.0, number_read size h.1) refl

-- ---- a reply

name_word_again : (n : List ℕ) → IsName n → percent_decode (escaped n) ≡ n
name_word_again n h = escape_again n h.bytes

name_read : (limits : Limits) (n : List ℕ) → FitsName limits n → name_at limits (escaped n) ≡ Ok n
name_read limits n h =
    ap (read_name limits) (name_word_again n h.is_name) ∙ cond-true _ _ _ (both_true (le-leb _ _ h.short) h.is_name.test)

pub names_read : (limits : Limits) (ns : List (List ℕ)) → AllByRecursion (FitsName limits) ns → names_at limits (map escaped ns) ≡ Ok ns
names_read limits [] h = refl
names_read limits (n ∷ ns) h =
    ap (λ r. r >>= λ x. names_at limits (map escaped ns) >>= λ rest. Ok (x ∷ rest)) (name_read limits n h.0)
    ∙ ap (λ r. r >>= λ rest. Ok (n ∷ rest)) (names_read limits ns h.1)

stated_again : (limits : Limits) (k : Kind) (size : ℕ) → IsU64 size → reply_of limits (reply_words (reply.Stat k size)) ≡ Ok (reply.Stat k size)
unfolding reply_of
stated_again limits Dir size h = ap (λ r. r >>= λ n. Ok (reply.Stat Dir n)) (number_read size h)
stated_again limits File size h = ap (λ r. r >>= λ n. Ok (reply.Stat File n)) (number_read size h)

failed_again : (limits : Limits) (e : Errno) → reply_of limits (reply_words (reply.Failed e)) ≡ Ok (reply.Failed e)
unfolding reply_of
failed_again limits errno.Enoent = refl
failed_again limits errno.Enotdir = refl
failed_again limits errno.Eexist = refl
failed_again limits errno.Enotempty = refl
failed_again limits errno.Eisdir = refl
failed_again limits errno.Einval = refl
failed_again limits errno.Ebusy = refl
failed_again limits errno.Eperm = refl
failed_again limits errno.Enospc = refl
failed_again limits errno.Efbig = refl
failed_again limits errno.Eoverflow = refl

reply_again : (limits : Limits) (r : Reply) → FitsReply limits r → reply_of limits (reply_words r) ≡ Ok r
unfolding reply_of
reply_again limits reply.Done h = refl
reply_again limits (reply.Stat k size) h = stated_again limits k size h
reply_again limits (reply.Names ns) h = ap (λ r. r >>= λ found. Ok (reply.Names found)) (names_read limits ns h)
reply_again limits (reply.Bytes file) h = ap (λ r. r >>= λ found. Ok (reply.Bytes found)) (hex_read file h)
reply_again limits (reply.Wrote size) h = ap (λ r. r >>= λ n. Ok (reply.Wrote n)) (number_read size h)
reply_again limits (reply.Failed e) h = failed_again limits e

-- ---- an entry

begun_again : (limits : Limits) (c s : ℕ) (x : Call) → IsU64 c → IsU64 s → FitsCall limits x → has_call_form limits (call_words x) ≡ true → entry_of limits (entry_words (Begin c s x)) ≡ Ok (Begin c s x)
unfolding entry_of
begun_again limits c s x hc hs h form =
    cond-true _ _ _ form
    ∙ ap (λ r. r >>= λ n. number_at (decimal s) >>= λ seat. call_of limits (call_words x) >>= λ found. Ok (Begin n seat found)) (number_read c hc)
    ∙ ap (λ r. r >>= λ seat. call_of limits (call_words x) >>= λ found. Ok (Begin c seat found)) (number_read s hs)
    ∙ ap (λ r. r >>= λ found. Ok (Begin c s found)) (call_again limits x h)

form_again : (limits : Limits) (x : Call) → FitsCall limits x → has_call_form limits (call_words x) ≡ true
form_again limits (call.Mkdir p) h = refl
form_again limits (call.Mknod p) h = refl
form_again limits (call.Unlink p) h = refl
form_again limits (call.Rmdir p) h = refl
form_again limits (call.Rename p q) h = refl
form_again limits (call.Exchange p q) h = refl
form_again limits (call.Stat p) h = refl
form_again limits (call.Readdir p) h = refl
form_again limits (call.ListAfter count p after) h = ap (λ o. is_formed o (path_word p ∷ path_word after ∷ decimal count ∷ [])) (list_formed limits h.3)
form_again limits (call.Read p off count) h = refl
form_again limits (call.Write p off file) h = refl
form_again limits (call.Truncate p size) h = refl

returned_again : (limits : Limits) (c : ℕ) (first : List ℕ) (more : List (List ℕ)) (r : Reply) → IsU64 c → reply_of limits (first ∷ more) ≡ Ok r → return_of limits (decimal c ∷ first ∷ more) ≡ Ok (Return c r)
returned_again limits c first more r hc e =
    ap (λ x. x >>= λ n. reply_of limits (first ∷ more) >>= λ found. Ok (Return n found)) (number_read c hc)
    ∙ ap (λ x. x >>= λ found. Ok (Return c found)) e

return_again : (limits : Limits) (c : ℕ) (r : Reply) → IsU64 c → reply_of limits (reply_words r) ≡ Ok r → entry_of limits (entry_words (Return c r)) ≡ Ok (Return c r)
unfolding entry_of
return_again limits c reply.Done hc e = returned_again limits c (codes "ok") [] reply.Done hc e
return_again limits c (reply.Stat k size) hc e = returned_again limits c (codes "stat") _ (reply.Stat k size) hc e
return_again limits c (reply.Names ns) hc e = returned_again limits c (codes "names") _ (reply.Names ns) hc e
return_again limits c (reply.Bytes file) hc e = returned_again limits c (codes "bytes") _ (reply.Bytes file) hc e
return_again limits c (reply.Wrote size) hc e = returned_again limits c (codes "wrote") _ (reply.Wrote size) hc e
return_again limits c (reply.Failed x) hc e = returned_again limits c (codes "failed") _ (reply.Failed x) hc e

pub entry_again : (limits : Limits) (e : Entry) → FitsEntry limits e → entry_of limits (entry_words e) ≡ Ok e
unfolding entry_of
entry_again limits (Begin c s x) h = begun_again limits c s x h.0 h.1 h.2 (form_again limits x h.2)
entry_again limits (Commit c) h = ap (λ r. r >>= λ n. Ok (Commit n)) (number_read c h)
entry_again limits (Return c r) h = return_again limits c r h.0 (reply_again limits r h.1)

-- ---- its words are words

literal : (w : List ℕ) → 0 < length w → AllByRecursion (λ b. 32 < b) w → IsWord w
literal w some h = record { some = some; dark = All-from_recursion (λ b. 32 < b) w h }

abbrev Words : List (List ℕ) → Type 0
Words ws = AllByRecursion IsWord ws

call_good : (limits : Limits) (c : Call) → FitsCall limits c → Words (call_words c)
call_good limits (call.Mkdir p) h = (literal (codes "mkdir") (search rules) (search rules), (IsWord_path p, tt))
call_good limits (call.Mknod p) h = (literal (codes "mknod") (search rules) (search rules), (IsWord_path p, tt))
call_good limits (call.Unlink p) h = (literal (codes "unlink") (search rules) (search rules), (IsWord_path p, tt))
call_good limits (call.Rmdir p) h = (literal (codes "rmdir") (search rules) (search rules), (IsWord_path p, tt))
call_good limits (call.Rename p q) h = (literal (codes "rename") (search rules) (search rules), (IsWord_path p, (IsWord_path q, tt)))
call_good limits (call.Exchange p q) h = (literal (codes "exchange") (search rules) (search rules), (IsWord_path p, (IsWord_path q, tt)))
call_good limits (call.Stat p) h = (literal (codes "stat") (search rules) (search rules), (IsWord_path p, tt))
call_good limits (call.Readdir p) h = (literal (codes "readdir") (search rules) (search rules), (IsWord_path p, tt))
call_good limits (call.ListAfter count p after) h = (literal (codes "list") (search rules) (search rules), (IsWord_path p, (IsWord_path after, (IsWord_decimal count (wide count h.2), tt))))
call_good limits (call.Read p off count) h = (literal (codes "read") (search rules) (search rules), (IsWord_path p, (IsWord_decimal off h.1, (IsWord_decimal count h.2, tt))))
call_good limits (call.Write p off file) h = (literal (codes "write") (search rules) (search rules), (IsWord_path p, (IsWord_decimal off h.1, (IsWord_hex file h.2, tt))))
call_good limits (call.Truncate p size) h = (literal (codes "truncate") (search rules) (search rules), (IsWord_path p, (IsWord_decimal size h.1, tt)))

pub kind_good : (k : Kind) → IsWord (kind_word k)
kind_good Dir = literal (codes "dir") (search rules) (search rules)
kind_good File = literal (codes "file") (search rules) (search rules)

errno_good : (e : Errno) → IsWord (errno_word e)
errno_good errno.Enoent = literal (codes "ENOENT") (search rules) (search rules)
errno_good errno.Enotdir = literal (codes "ENOTDIR") (search rules) (search rules)
errno_good errno.Eexist = literal (codes "EEXIST") (search rules) (search rules)
errno_good errno.Enotempty = literal (codes "ENOTEMPTY") (search rules) (search rules)
errno_good errno.Eisdir = literal (codes "EISDIR") (search rules) (search rules)
errno_good errno.Einval = literal (codes "EINVAL") (search rules) (search rules)
errno_good errno.Ebusy = literal (codes "EBUSY") (search rules) (search rules)
errno_good errno.Eperm = literal (codes "EPERM") (search rules) (search rules)
errno_good errno.Enospc = literal (codes "ENOSPC") (search rules) (search rules)
errno_good errno.Efbig = literal (codes "EFBIG") (search rules) (search rules)
errno_good errno.Eoverflow = literal (codes "EOVERFLOW") (search rules) (search rules)

names_good : (limits : Limits) (ns : List (List ℕ)) → AllByRecursion (FitsName limits) ns → Words (map escaped ns)
names_good limits [] h = tt
names_good limits (n ∷ ns) h = (IsWord_escaped n (name_facts n h.0.is_name.test).some, names_good limits ns h.1)

reply_good : (limits : Limits) (r : Reply) → FitsReply limits r → Words (reply_words r)
reply_good limits reply.Done h = (literal (codes "ok") (search rules) (search rules), tt)
reply_good limits (reply.Stat k size) h = (literal (codes "stat") (search rules) (search rules), (kind_good k, (IsWord_decimal size h, tt)))
reply_good limits (reply.Names ns) h = (literal (codes "names") (search rules) (search rules), names_good limits ns h)
reply_good limits (reply.Bytes file) h = (literal (codes "bytes") (search rules) (search rules), (IsWord_hex file h, tt))
reply_good limits (reply.Wrote size) h = (literal (codes "wrote") (search rules) (search rules), (IsWord_decimal size h, tt))
reply_good limits (reply.Failed e) h = (literal (codes "failed") (search rules) (search rules), (errno_good e, tt))

entry_good : (limits : Limits) (e : Entry) → FitsEntry limits e → Words (entry_words e)
entry_good limits (Begin c s x) h = (literal (codes "begin") (search rules) (search rules), (IsWord_decimal c h.0, (IsWord_decimal s h.1, call_good limits x h.2)))
entry_good limits (Commit c) h = (literal (codes "commit") (search rules) (search rules), (IsWord_decimal c h, tt))
entry_good limits (Return c r) h = (literal (codes "return") (search rules) (search rules), (IsWord_decimal c h.0, reply_good limits r h.1))

-- ---- a line, and the text

abbrev pub joined : Entry → List ℕ
joined e = join_with_byte 32 (entry_words e)

some_words : (e : Entry) → 0 < length (entry_words e)
some_words (Begin c s x) = omega arith
some_words (Commit c) = omega arith
some_words (Return c r) = omega arith

line_words : (limits : Limits) (e : Entry) → FitsEntry limits e → words_of (joined e) ≡ Ok (entry_words e)
line_words limits e h =
    let good = entry_good limits e h in
    let cut : pieces_of (joined e) ≡ entry_words e = pieces_of_joined (entry_words e) good (some_words e) in
    let whole : has_empty (pieces_of (joined e)) ≡ false = ap has_empty cut ∙ has_no_empty (entry_words e) good in
    cond-false _ _ _ whole ∙ ap Ok cut

not_passed : (e : Entry) → is_passed_over (joined e) ≡ false
not_passed (Begin c s x) = refl
not_passed (Commit c) = refl
not_passed (Return c r) = refl

not_tree : (e : Entry) → is_tree_line (joined e) ≡ false
not_tree (Begin c s x) = refl
not_tree (Commit c) = refl
not_tree (Return c r) = refl

pub lines_again : (limits : Limits) (n : ℕ) (es : List Entry) → AllFit limits es → entries_from limits n (map joined es) ≡ Ok es
unfolding entries_from
lines_again limits n [] h = refl
lines_again limits n (e ∷ es) h =
    cond-false _ _ _ (not_passed e)
    ∙ cond-false _ _ _ (not_tree e)
    ∙ ap (λ r. at_line n (r >>= entry_of limits) >>= λ x. entries_from limits (n + 1) (map joined es) >>= λ xs. Ok (x ∷ xs)) (line_words limits e h.0)
    ∙ ap (λ r. at_line n r >>= λ x. entries_from limits (n + 1) (map joined es) >>= λ xs. Ok (x ∷ xs)) (entry_again limits e h.0)
    ∙ ap (λ r. r >>= λ xs. Ok (e ∷ xs)) (lines_again limits (n + 1) es h.1)

pub text_ended : (es : List Entry) → flat_map entry_line es ≡ flat_map ended (map joined es)
text_ended [] = refl
text_ended (e ∷ es) = ap (λ t. ended (joined e) ++ t) (text_ended es)

journal_ended : (es : List Entry) → journal_text es ≡ flat_map ended (journal_header ∷ map joined es)
journal_ended es = ap (λ t. journal_header ++ 10 ∷ t) (text_ended es)

pub are_lines : (limits : Limits) (es : List Entry) → AllFit limits es → AllByRecursion IsLine (map joined es)
are_lines limits [] h = tt
are_lines limits (e ∷ es) h = (IsLine_joined (entry_words e) (entry_good limits e h.0), are_lines limits es h.1)

pub header_line : IsLine journal_header
header_line = All-from_recursion (λ b. 31 < b) journal_header (search rules)

pub journal_lines : (limits : Limits) (es : List Entry) → AllFit limits es → lines_of (journal_text es) ≡ journal_header ∷ map joined es
journal_lines limits es h = ap lines_of (journal_ended es) ∙ lines_of_ended (journal_header ∷ map joined es) (header_line, are_lines limits es h)

-- entries written behind the header line are read again as the same entries, where the text keeps the length limit
pub journal_again : (es : List Entry) → AllFit V1 es → length (journal_text es) ≤ text_limit V1 → entries_of (journal_text es) ≡ Ok es
unfolding entries_of
journal_again es h short =
    ap (λ r. r >>= entries_from V1 2)
    (ap (λ r. r >>= λ f. if bytes_eq f.0 journal_header then Ok (f.1) else Err (fault_at 1 kind.BadHeader))
    (cond-false _ _ _ (short_enough (journal_text es) short) ∙ ap first_line (journal_lines V1 es h)))
    ∙ lines_again V1 2 es h

pub reads_back : ReadsBack
reads_back es h short = journal_again es h short
