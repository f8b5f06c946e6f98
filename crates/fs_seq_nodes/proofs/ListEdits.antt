-- Edits of one of several lists.
use Rattle.std.proofs.Common.{◌≡◌, ℕ, zero, suc, ◌+◌, ◌-◌, ◌<◌, ◌≤◌, List, [], ◌∷◌, ◌++◌, length, take, drop, get_or, None, Some, append_assoc, length-append, length-drop, refl, sym, ap, subst, ◌∙◌, arith, slice_get}
use Rattle.std.specs.Prelude.{insert, remove, slice_set}
use Rattle.std.proofs.lemmas.List.{get_or_default, length-take-le, take-append-drop}
use Rattle.std.proofs.lemmas.List.Elements.{All-get_or, All-set}
use Rattle.std.proofs.lemmas.List.Edits.{length-insert, length-remove}
use Rattle.fs_calls.proofs.ListLemmas.{take_whole}
use Rattle.fs_names.specs.Names.{Name, name_cmp}
use Rattle.fs_seq_nodes.specs.declared.nodes.Link.{Link}
use Rattle.fs_seq_nodes.specs.declared.piece.TheConstants.{MOST}
use Rattle.fs_seq_nodes.specs.code.Entries.{pairs, name_of}
use Rattle.fs_seq_nodes.specs.code.Lists.{flat, before, list_at, AllSome, IsIn, led_to}
use Rattle.std.specs.FinMap.{put}
use Rattle.fs_seq_nodes.proofs.LinkLemmas.{pairs-set, pairs-insert, pairs-remove}
use Rattle.fs_seq_nodes.proofs.FlatLemmas as FlatLemmas

-- a list that was read
pub got : (ls : List (List Link)) (i : ℕ) (p : List Link) → i < length ls → p ≡ get_or ls i p → p ≡ list_at ls i
got ls i p h e = e ∙ get_or_default ls i p [] h

-- nothing comes before the first
insert_first : (links : List Link) (x : Link) → insert links 0 x ≡ x ∷ links
insert_first [] x = refl
insert_first (l ∷ links) x = refl

-- an entry came to its list
pub put_at : (ls : List (List Link)) (i at : ℕ) (x : Link) (p q : List Link) → i < length ls → at ≤ length (list_at ls i) → p ≡ get_or ls i p → q ≡ insert p at x → flat (slice_set ls i q) ≡ insert (flat ls) (before ls i + at) x
put_at ls i at x p q h within e is = ap (λ z. FlatLemmas.joined (slice_set ls i z)) (is ∙ ap (λ z. insert z at x) (got ls i p h e)) ∙ FlatLemmas.joined_insert ls i at x h within

-- the last entry goes on to the next list
pub carried_up : (ls : List (List Link)) (i at : ℕ) (x last : Link) (p q : List Link) → i < length ls → at ≤ length (list_at ls i) → p ≡ get_or ls i p → q ++ last ∷ [] ≡ insert p at x
    → insert (flat (slice_set ls i q)) (before (slice_set ls i q) (i + 1)) last ≡ insert (flat ls) (before ls i + at) x
carried_up ls i at x last p q h within e is =
    let front = flat (take i ls) in
    let behind = flat (drop (suc i) ls) in
    let one : i + 1 ≡ suc i = omega arith in
    let now = slice_set ls i q in
    let there : i < length now = subst (λ n. i < n) (sym (FlatLemmas.length_set ls i q)) h in
    let upto : flat (take (i + 1) now) ≡ front ++ q = ap (λ n. flat (take n now)) one ∙ FlatLemmas.take_next now i there ∙ ap (λ z. z ++ get_or now i []) (ap flat (FlatLemmas.take_set ls i i q (omega arith))) ∙ ap (λ z. front ++ z) (FlatLemmas.got_set ls i q h) in
    let count : before now (i + 1) ≡ length (front ++ q) + 0 = ap length upto ∙ omega arith in
    let whole : flat now ≡ (front ++ q) ++ behind = FlatLemmas.joined_set ls i q h ∙ sym (append_assoc front q behind) in
    ap (λ n. insert (flat now) n last) count ∙ ap (λ z. insert z (length (front ++ q) + 0) last) whole ∙ FlatLemmas.insert_past (front ++ q) behind 0 last ∙ ap (λ z. (front ++ q) ++ z) (insert_first behind last)
    ∙ append_assoc front q (last ∷ behind) ∙ ap (λ z. front ++ z) (sym (append_assoc q (last ∷ []) behind))
    ∙ ap (λ z. front ++ (z ++ behind)) is
    ∙ sym (FlatLemmas.joined_set ls i (insert p at x) h) ∙ put_at ls i at x p (insert p at x) h within e refl

-- the first entry goes on to the list before
pub carried_down : (ls : List (List Link)) (i at : ℕ) (x first : Link) (p q : List Link) → i < length ls → at ≤ length (list_at ls i) → p ≡ get_or ls i p → first ∷ q ≡ insert p at x
    → insert (flat (slice_set ls i q)) (before (slice_set ls i q) i) first ≡ insert (flat ls) (before ls i + at) x
carried_down ls i at x first p q h within e is =
    let front = flat (take i ls) in
    let behind = flat (drop (suc i) ls) in
    let now = slice_set ls i q in
    let count : before now i ≡ length front + 0 = ap (λ z. length (flat z)) (FlatLemmas.take_set ls i i q (omega arith)) ∙ omega arith in
    ap (λ n. insert (flat now) n first) count ∙ ap (λ z. insert z (length front + 0) first) (FlatLemmas.joined_set ls i q h) ∙ FlatLemmas.insert_past front (q ++ behind) 0 first ∙ ap (λ z. front ++ z) (insert_first (q ++ behind) first)
    ∙ ap (λ z. front ++ (z ++ behind)) is
    ∙ sym (FlatLemmas.joined_set ls i (insert p at x) h) ∙ put_at ls i at x p (insert p at x) h within e refl

-- a list that is written and not empty
pub still_some : (ls : List (List Link)) (i : ℕ) (q : List Link) → AllSome ls → 0 < length q → AllSome (slice_set ls i q)
still_some ls i q some h = All-set (λ l. 0 < length l) ls i q h some

-- a list with an entry more is not empty
pub grown_some : (p q : List Link) (at : ℕ) (x : Link) → at ≤ length p → q ≡ insert p at x → 0 < length q
grown_some p q at x within is = let long = ap length is in let more = length-insert p at x within in omega (arith, long, more)

-- nor one that has given its last
pub moved_up_some : (p q : List Link) (at : ℕ) (x last : Link) → at ≤ length p → 0 < length p → q ++ last ∷ [] ≡ insert p at x → 0 < length q
moved_up_some p q at x last within some is = let long = ap length is in let more = length-insert p at x within in omega (arith, long, more, length-append q (last ∷ []))

-- nor one that has given its first
pub moved_down_some : (p q : List Link) (at : ℕ) (x first : Link) → at ≤ length p → 0 < length p → first ∷ q ≡ insert p at x → 0 < length q
moved_down_some p q at x first within some is = let long : suc (length q) ≡ length (insert p at x) = ap length is in let more = length-insert p at x within in omega (arith, long, more)

-- a list that hands an entry out is full
pub is_other : (ls : List (List Link)) (i room : ℕ) (x : Link) (p : List Link) → i < length ls → p ≡ get_or ls i p → length (list_at ls room) < MOST → (length p < MOST → Some x ≡ None) → room ≡ i → ⊥
is_other ls i room x p h e space full same =
    let here : length p < MOST = subst (λ z. length z < MOST) (sym (got ls i p h e)) (subst (λ n. length (list_at ls n) < MOST) same space) in
    let wrong : Some x ≡ None = full here in cc

-- the list with room has it still
pub still_room : (ls : List (List Link)) (i room : ℕ) (q : List Link) → (room ≡ i → ⊥) → length (list_at ls room) < MOST → length (list_at (slice_set ls i q) room) < MOST
still_room ls i room q other space = subst (λ z. length z < MOST) (sym (FlatLemmas.got_elsewhere ls i room q other)) space

-- the entries of a list that was read are some
pub read_some : (ls : List (List Link)) (i : ℕ) (p : List Link) → AllSome ls → i < length ls → p ≡ get_or ls i p → 0 < length p
read_some ls i p some h e = subst (λ z. 0 < length z) (sym (got ls i p h e)) (All-get_or (λ l. 0 < length l) ls i [] h some)

-- a place within a list that was read
pub within_read : (ls : List (List Link)) (i at : ℕ) (p : List Link) → i < length ls → p ≡ get_or ls i p → at ≤ length (list_at ls i) → at ≤ length p
within_read ls i at p h e within = subst (λ z. at ≤ length z) (sym (got ls i p h e)) within

-- an entry went from its list
pub taken_at : (ls : List (List Link)) (place i at : ℕ) (p q : List Link) → IsIn ls place i at → p ≡ get_or ls i p → q ≡ remove p at → flat (slice_set ls i q) ≡ remove (flat ls) place
taken_at ls place i at p q is e went =
    ap (λ z. FlatLemmas.joined (slice_set ls i z)) (went ∙ ap (λ z. remove z at) (got ls i p is.list e)) ∙ FlatLemmas.joined_remove ls i at is.list is.within ∙ ap (remove (flat ls)) (sym is.counted)

-- all lists but the one that was written are some
pub others_some : (ls : List (List Link)) (i : ℕ) (q : List Link) → AllSome ls → AllSome (remove (slice_set ls i q) i)
others_some ls i q some = subst AllSome (sym (FlatLemmas.remove_set ls i q)) (FlatLemmas.all_without (λ l. 0 < length l) ls i some)

-- an entry less
pub one_less : (old new : List Link) (place count : ℕ) → place < length old → new ≡ remove old place → count ≡ length old → count - 1 ≡ length new
one_less old new place count h went is = let less = length-remove old place h in let same = ap length went in omega (arith, less, same, is)

-- an entry more
pub one_more : (old new : List Link) (place count more : ℕ) (x : Link) → place ≤ length old → new ≡ insert old place x → count ≡ length old → more ≡ count + 1 → more ≡ length new
one_more old new place count more x h came is next = let long = length-insert old place x h in let same = ap length came in omega (arith, long, same, is, next)

-- the entries from a place of a list on
pub part_from : (ls : List (List Link)) (place i at : ℕ) (p s part : List Link) → IsIn ls place i at → p ≡ get_or ls i p → s ≡ p → part ≡ take (length s - at) (drop at s) → part ≡ take (length part) (drop place (flat ls))
part_from ls place i at p s part is e same cut =
    let near = is.within in
    let rest : part ≡ drop at (list_at ls i) = cut ∙ take_whole (drop at s) (length s - at) (sym (length-drop at s)) ∙ ap (drop at) (same ∙ got ls i p is.list e) in
    FlatLemmas.joined_from ls i at part is.list (omega (arith, near)) rest ∙ ap (λ n. take (length part) (drop n (flat ls))) (sym is.counted)

-- the entries of a list up to a place
pub part_until : (ls : List (List Link)) (place i at : ℕ) (p s part : List Link) → 0 < place → IsIn ls (place - 1) i at → p ≡ get_or ls i p → s ≡ p → part ≡ take (at + 1) s → take place (flat ls) ≡ take (place - length part) (flat ls) ++ part
part_until ls place i at p s part some is e same cut =
    let near = is.within in
    let there = is.counted in
    let front : part ≡ take (at + 1) (list_at ls i) = cut ∙ ap (take (at + 1)) (same ∙ got ls i p is.list e) in
    let long : length part ≡ at + 1 = ap length front ∙ length-take-le (at + 1) (list_at ls i) (omega (arith, near)) in
    FlatLemmas.joined_until ls i (at + 1) place part is.list (omega (arith, near)) front long (omega (arith, there, some))

-- an entry of its list leads elsewhere
pub led_at : (ls : List (List Link)) (place i at n : ℕ) (p q : List Link) (x : Name) → IsIn ls place i at → p ≡ get_or ls i p → ((l : Link) → l ≡ get_or p at l → q ≡ slice_set p at (led_to n l))
    → name_of (slice_get (pairs (flat ls)) place) ≡ Some x → pairs (flat (slice_set ls i q)) ≡ slice_set (pairs (flat ls)) place (x, n)
led_at ls place i at n p q x is e led named =
    let same = got ls i p is.list e in
    let near : at < length p = subst (λ z. at < length z) (sym same) is.within in
    let l = get_or p at (record { name = x; node = n }) in
    let here : l ≡ get_or p at l = get_or_default p at (record { name = x; node = n }) l near in
    let now : flat (slice_set ls i q) ≡ slice_set (flat ls) place (led_to n l) =
    ap (λ z. FlatLemmas.joined (slice_set ls i z)) (led l here ∙ ap (λ z. slice_set z at (led_to n l)) same)
    ∙ FlatLemmas.joined_written ls i at (led_to n l) is.list is.within ∙ ap (λ k. slice_set (flat ls) k (led_to n l)) (sym is.counted) in
    let there : get_or (flat ls) place l ≡ l = ap (λ k. get_or (flat ls) k l) is.counted ∙ FlatLemmas.joined_got ls i at l is.list is.within ∙ ap (λ z. get_or z at l) (sym same) ∙ sym here in
    let inside : place < length (flat ls) = let room = FlatLemmas.before_within ls i is.list in let w = is.within in let k = is.counted in omega (arith, room, w, k) in
    let name : l.name ≡ x = named_there (flat ls) place l x inside there named in
    ap pairs now ∙ pairs-set (flat ls) place (led_to n l) ∙ ap (λ z. slice_set (pairs (flat ls)) place (z, n)) name
  where
    named_there : (links : List Link) (k : ℕ) (l : Link) (x : Name) → k < length links → get_or links k l ≡ l → name_of (slice_get (pairs links) k) ≡ Some x → l.name ≡ x
    named_there [] k l x h e f = absurd (omega arith)
    named_there (m ∷ links) zero l x h e f = ap (λ (z : Link). z.name) (sym e) ∙ some_name m.name x f
      where
        some_name : (y z : Name) → Some y ≡ Some z → y ≡ z
        some_name y z g = cc
    named_there (m ∷ links) (suc k) l x h e f = named_there links k l x (omega arith) e f

-- as many entries
pub led_count : (ls : List (List Link)) (place i at n : ℕ) (p q : List Link) → IsIn ls place i at → p ≡ get_or ls i p → ((l : Link) → l ≡ get_or p at l → q ≡ slice_set p at (led_to n l)) → (length q ≡ length p) × (length (flat (slice_set ls i q)) ≡ length (flat ls))
led_count ls place i at n p q is e led =
    let same = got ls i p is.list e in
    let near : at < length p = subst (λ z. at < length z) (sym same) is.within in
    let l = get_or p at (record { name = []; node = n }) in
    let here : l ≡ get_or p at l = get_or_default p at (record { name = []; node = n }) l near in
    let long : length q ≡ length p = ap length (led l here) ∙ length_written p at (led_to n l) in
    (long, ap length (FlatLemmas.joined_set ls i q is.list) ∙ length-append _ _ ∙ ap (λ k. length (flat (take i ls)) + k) (length-append q _ ∙ ap (λ k. k + length (flat (drop (suc i) ls))) (long ∙ ap length same) ∙ sym (length-append (list_at ls i) _)) ∙ sym (length-append _ _) ∙ sym (ap length (FlatLemmas.joined_at ls i is.list)))
  where
    length_written : (links : List Link) (k : ℕ) (l : Link) → length (slice_set links k l) ≡ length links
    length_written [] k l = refl
    length_written (m ∷ links) zero l = refl
    length_written (m ∷ links) (suc k) l = ap suc (length_written links k l)

-- one list of two
pub joined_pair : (ls left : List (List Link)) (i : ℕ) (p q b : List Link) → suc i < length ls → left ≡ remove ls (suc i) → b ≡ get_or ls (suc i) b → p ≡ get_or left i p → q ≡ p ++ b → flat (slice_set left i q) ≡ flat ls
joined_pair ls left i p q b h went second first is =
    let short : i < length (remove ls (suc i)) = let less = length-remove ls (suc i) h in omega (arith, less) in
    let p_is : p ≡ list_at ls i = first ∙ ap (λ z. get_or z i p) went ∙ get_or_default (remove ls (suc i)) i p [] short ∙ FlatLemmas.got_below ls i in
    let b_is : b ≡ list_at ls (suc i) = second ∙ get_or_default ls (suc i) b [] h in
    ap (λ z. flat (slice_set z i q)) went ∙ ap (λ z. flat (slice_set (remove ls (suc i)) i z)) (is ∙ ap (λ z. z ++ b) p_is ∙ ap (λ z. list_at ls i ++ z) b_is) ∙ FlatLemmas.joined_join ls i h

-- which is not empty
pub paired_some : (ls left : List (List Link)) (i : ℕ) (p q b : List Link) → AllSome ls → suc i < length ls → left ≡ remove ls (suc i) → b ≡ get_or ls (suc i) b → q ≡ p ++ b → AllSome (slice_set left i q)
paired_some ls left i p q b some h went second is =
    let long = ap length is ∙ length-append p b in
    let more = read_some ls (suc i) b some h second in
    still_some left i q (subst AllSome (sym went) (FlatLemmas.all_without (λ l. 0 < length l) ls (suc i) some)) (omega (arith, long, more))

-- two lists of one
pub split_same : (ls one two : List (List Link)) (i half : ℕ) (p q r : List Link) → i < length ls → p ≡ get_or ls i p → q ≡ take half p → r ≡ drop half p → one ≡ slice_set ls i q → two ≡ insert one (i + 1) r → flat two ≡ flat ls
split_same ls one two i half p q r h e first second set came =
    let next : i + 1 ≡ suc i = omega arith in
    let whole : q ++ r ≡ list_at ls i = ap (λ z. z ++ r) first ∙ ap (λ z. take half p ++ z) second ∙ take-append-drop half p ∙ got ls i p h e in
    ap flat (came ∙ ap (λ k. insert one k r) next ∙ ap (λ z. insert z (suc i) r) set) ∙ FlatLemmas.joined_split ls i q r h whole

-- neither of which is empty
pub split_some : (ls one two : List (List Link)) (i half : ℕ) (p q r : List Link) → AllSome ls → 0 < half → half < length p → q ≡ take half p → r ≡ drop half p → one ≡ slice_set ls i q → two ≡ insert one (i + 1) r → AllSome two
split_some ls one two i half p q r some h g first second set came =
    let long = ap length first ∙ length-take-le half p (omega arith) in
    let rest = ap length second ∙ length-drop half p in
    subst AllSome (sym came) (FlatLemmas.all_insert (λ l. 0 < length l) one (i + 1) r (subst AllSome (sym set) (still_some ls i q some (omega (arith, long)))) (omega (arith, rest)))

-- an entry came where its name belongs
pub put_links : (ls read now : List (List Link)) (i at : ℕ) (l : Link) (x : Name) → read ≡ ls → x ≡ l.name → ((n : ℕ) → put name_cmp x n (pairs (flat read)) ≡ insert (pairs (flat read)) (before read i + at) (x, n)) → flat now ≡ insert (flat ls) (before ls i + at) l
    → pairs (flat now) ≡ put name_cmp l.name l.node (pairs (flat ls))
put_links ls read now i at l x same name placed came =
    ap pairs came ∙ pairs-insert (flat ls) (before ls i + at) l
    ∙ sym (subst (λ y. put name_cmp y l.node (pairs (flat ls)) ≡ insert (pairs (flat ls)) (before ls i + at) (y, l.node)) name (subst (λ z. put name_cmp x l.node (pairs (flat z)) ≡ insert (pairs (flat z)) (before z i + at) (x, l.node)) same (placed l.node)))

-- the pairs that are left
pub left_pairs : (old new : List Link) (place : ℕ) → new ≡ remove old place → pairs new ≡ remove (pairs old) place
left_pairs old new place went = ap pairs went ∙ pairs-remove old place

-- as many as there were, and one
pub put_count : (ls now : List (List Link)) (i at : ℕ) (l : Link) → i < length ls → at ≤ length (list_at ls i) → flat now ≡ insert (flat ls) (before ls i + at) l → length (flat now) ≡ length (flat ls) + 1
put_count ls now i at l h within came = let room = FlatLemmas.before_within ls i h in ap length came ∙ length-insert (flat ls) (before ls i + at) l (omega (arith, room, within))

-- a list that has lost its last entry goes
pub emptied : (ls : List (List Link)) (i : ℕ) (p : List Link) → i < length ls → p ≡ get_or ls i p → length p ≡ 0 → flat (remove ls i) ≡ flat ls
emptied ls i p h e none = FlatLemmas.joined_without_empty ls i h (sym (got ls i p h e) ∙ none_there p none)
  where
    none_there : (l : List Link) → length l ≡ 0 → l ≡ []
    none_there [] f = refl
    none_there (x ∷ l) f = absurd (omega arith)

-- an entry less, and one more
pub back_again : (old left new : List Link) (place : ℕ) → place < length old → left ≡ remove old place → length new ≡ length left + 1 → length old ≡ length new
back_again old left new place h went came = let less = length-remove old place h in let same = ap length went in omega (arith, less, same, came)
