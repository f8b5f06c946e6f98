-- A schedule that was written is read again.
use Rattle.std.proofs.Common.{◌≡◌, ℕ, ◌+◌, ◌<◌, ◌≤◌, Bool, true, false, List, [], ◌∷◌, ◌++◌, length, map, Result, Ok, Err, refl, sym, ap, subst, ◌∙◌, codes, inl, inr, append_assoc, append-nil, arith}
use Rattle.std.specs.List.{AllByRecursion, join_with_byte, list_any}
use Rattle.std.proofs.lemmas.Bool.{cond-false}
use Rattle.std.proofs.lemmas.Bool.Decides.{nat_tests}
use Rattle.std.proofs.lemmas.List.Elements.{All-weaker}
use Rattle.fs_names.specs.declared.limits.Limits.{Limits}
use Rattle.fs_names.specs.declared.limits.Limits.TheVariants.{V1, V2, V3}
use Rattle.fs_words.specs.Lines.{is_line_feed, is_passed_over, lines_of, pieces_of, has_empty}
use Rattle.fs_words.specs.Reading.{◌>>=◌, words_of, fault_at, at_line}
use Rattle.fs_words.specs.declared.fault.ScriptFault.{ScriptFault}
use Rattle.fs_words.specs.declared.fault.FaultKind.{FaultKind}
use Rattle.fs_words.specs.declared.fault.FaultKind.TheVariants as kind
use Rattle.fs_words.proofs.WordLemmas.{IsWord, pieces_of_joined, has_no_empty, IsLine_joined}
use Rattle.fs_script.specs.Limits.{events_in, SeatsAreThere}
use Rattle.fs_script.specs.Script.{nothing_yet, with_word, has_finish, schedule_word, schedule_line, schedule_from, blocks_from, script_of}
use Rattle.fs_script.specs.declared.limits.TheConstants.{EVENT_LIMIT}
use Rattle.fs_script.specs.declared.script.Script.{Script}
use Rattle.fs_script.specs.declared.script.Word.{Word}
use Rattle.fs_script.specs.declared.script.Word.TheVariants.{Events, Finish, Checkpoint, Drawn}
use Rattle.fs_words.specs.Headers.{script_header, is_too_long}
use Rattle.fs_script.proofs.HeaderLemmas.{script_in, short_script, lines_read, IsHeaded, headed_script, again}
use Rattle.fs_script.proofs.LimitLemmas.{unfinished_more, unfinished_checkpoint, events_more, events_checkpoint}
use Rattle.fs_trace.specs.Traces.{word_text, AreWordTexts}
use Rattle.fs_trace.specs.code.WordTexts.{is_schedule, AreTimed, IsBehindLine, IsWritten}
use Rattle.fs_trace.proofs.Heads.{IsOneLine, line_first}
use Rattle.fs_trace.proofs.Naming.{AreNames, IsText, events_again, checkpoint_again, events_text, checkpoint_text}
use Rattle.fs_trace.proofs.Blocks.{IsBegun, IsCut, cut_at, none_read, other_first, other_words}

-- ---- the words of a line

abbrev AreTexts : List (List ℕ) → Type 0
AreTexts words = AllByRecursion IsText words

are_words : (words : List (List ℕ)) → AreTexts words → AllByRecursion IsWord words
are_words [] h = tt
are_words (w ∷ words) h = (h.0.is_word, are_words words h.1)

words_cut : (words : List (List ℕ)) → AllByRecursion IsWord words → 0 < length words → words_of (join_with_byte 32 words) ≡ Ok words
words_cut words good some =
    let cut : pieces_of (join_with_byte 32 words) ≡ words = pieces_of_joined words good some in
    let whole : has_empty (pieces_of (join_with_byte 32 words)) ≡ false = ap has_empty cut ∙ has_no_empty words good in
    cond-false _ _ _ whole ∙ ap Ok cut

joined_more : (p : List ℕ) (ps : List (List ℕ)) (w : List ℕ) → join_with_byte 32 (p ∷ (ps ++ w ∷ [])) ≡ join_with_byte 32 (p ∷ ps) ++ 32 ∷ w
joined_more p [] w = refl
joined_more p (q ∷ ps) w = ap (λ t. p ++ 32 ∷ t) (joined_more q ps w) ∙ sym (append_assoc p (32 ∷ join_with_byte 32 (q ∷ ps)) (32 ∷ w))

joined_begun : (p : List ℕ) (ps : List (List ℕ)) → IsText p → is_passed_over (join_with_byte 32 (p ∷ ps)) ≡ false
joined_begun [] ps h = absurd (omega (arith, h.is_word.some))
joined_begun (b ∷ bs) [] h = h.begun
joined_begun (b ∷ bs) (q ∷ ps) h = h.begun

not_feed : (b : ℕ) → 31 < b → is_line_feed b ≡ false
not_feed b h = grind (arith, nat_tests)

one_line : (words : List (List ℕ)) → AreTexts words → IsOneLine (join_with_byte 32 words)
one_line words h = All-weaker (λ b. 31 < b) (λ b. is_line_feed b ≡ false) not_feed (join_with_byte 32 words) (IsLine_joined words (are_words words h))

line_taken : (n : ℕ) (s t : Script) (p : List ℕ) (ps more : List (List ℕ)) → IsText p → AreTexts ps → schedule_line s (p ∷ ps) ≡ Ok t → schedule_from n s (join_with_byte 32 (p ∷ ps) ∷ more) ≡ schedule_from (n + 1) t more
unfolding schedule_from
line_taken n s t p ps more h hs read =
    cond-false _ _ _ (joined_begun p ps h)
    ∙ ap (λ r. at_line n (r >>= schedule_line s) >>= λ u. schedule_from (n + 1) u more) (words_cut (p ∷ ps) (h.is_word, are_words ps hs) (omega arith))
    ∙ ap (λ r. at_line n r >>= λ u. schedule_from (n + 1) u more) read

no_lines : (n : ℕ) (s : Script) → schedule_from n s [] ≡ Ok s
unfolding schedule_from
no_lines n s = refl

-- a line of words is read from left to right
step_split : (r : Result Script FaultKind) (f : Script → Result Script FaultKind) (u : Script) → (r >>= f) ≡ Ok u → (t : Script) × (r ≡ Ok t) × (f t ≡ Ok u)
step_split (Ok t) f u e = (t, refl, e)
step_split (Err k) f u e = absurd (let z : ◌≡◌ {A = Result Script FaultKind} (Err k) (Ok u) = e in cc)

line_split : (s u : Script) (xs ys : List (List ℕ)) → schedule_line s (xs ++ ys) ≡ Ok u → (m : Script) × (schedule_line s xs ≡ Ok m) × (schedule_line m ys ≡ Ok u)
line_split s u [] ys e = (s, refl, e)
line_split s u (x ∷ xs) ys e =
    let (t, first, rest) = step_split (schedule_word s x) (λ v. schedule_line v (xs ++ ys)) u e in
    let (m, before, behind) = line_split t u xs ys rest in
    (m, ap (λ r. r >>= λ v. schedule_line v xs) first ∙ before, behind)

-- ---- the lines of words

abbrev texts_of : List (List ℕ) → List Word → List (List ℕ)
texts_of names words = map (word_text names) words

texts_more : (ps : List (List ℕ)) (w : List ℕ) → AreTexts ps → IsText w → AreTexts (ps ++ w ∷ [])
texts_more [] w hs h = (h, tt)
texts_more (p ∷ ps) w hs h = (hs.0, texts_more ps w hs.1 h)

words_lines : (names : List (List ℕ)) (words : List Word) (p : List ℕ) (ps : List (List ℕ)) (n : ℕ) (s u : Script) (texts : List ℕ) → AreWordTexts names words texts → IsText p → AreTexts ps → AreTexts (texts_of names words)
    → schedule_line s ((p ∷ ps) ++ texts_of names words) ≡ Ok u → schedule_from n s (lines_of (join_with_byte 32 (p ∷ ps) ++ (texts ++ 10 ∷ []))) ≡ Ok u
words_lines names [] p ps n s u texts none h hs good read =
    ap (λ t. schedule_from n s (lines_of (join_with_byte 32 (p ∷ ps) ++ (t ++ 10 ∷ [])))) none
    ∙ ap (schedule_from n s) (line_first (join_with_byte 32 (p ∷ ps)) [] (one_line (p ∷ ps) (h, hs)))
    ∙ line_taken n s u p ps [] h hs (ap (schedule_line s) (sym (append-nil (p ∷ ps))) ∙ read)
    ∙ no_lines (n + 1) u
words_lines names (w ∷ words) p ps n s u texts (gap, rest, inl space, e, are) h hs good read =
    let word : List ℕ = word_text names w in
    let line : List ℕ = join_with_byte 32 (p ∷ ps) in
    let is : line ++ (texts ++ 10 ∷ []) ≡ join_with_byte 32 (p ∷ (ps ++ word ∷ [])) ++ (rest ++ 10 ∷ []) =
    ap (λ t. line ++ (t ++ 10 ∷ [])) (e ∙ ap (λ b. b ∷ (word ++ rest)) space) ∙ ap (λ t. line ++ 32 ∷ t) (append_assoc word rest (10 ∷ []))
    ∙ sym (append_assoc line (32 ∷ word) (rest ++ 10 ∷ [])) ∙ ap (λ l. l ++ (rest ++ 10 ∷ [])) (sym (joined_more p ps word)) in
    ap (λ l. schedule_from n s (lines_of l)) is
    ∙ words_lines names words p (ps ++ word ∷ []) n s u rest are h (texts_more ps word hs good.0) good.1 (ap (schedule_line s) (append_assoc (p ∷ ps) (word ∷ []) (texts_of names words)) ∙ read)
words_lines names (w ∷ words) p ps n s u texts (gap, rest, inr feed, e, are) h hs good read =
    let word : List ℕ = word_text names w in
    let line : List ℕ = join_with_byte 32 (p ∷ ps) in
    let (m, before, behind) = line_split s u (p ∷ ps) (word ∷ texts_of names words) read in
    let is : line ++ (texts ++ 10 ∷ []) ≡ line ++ 10 ∷ (word ++ (rest ++ 10 ∷ [])) =
    ap (λ t. line ++ (t ++ 10 ∷ [])) (e ∙ ap (λ b. b ∷ (word ++ rest)) feed) ∙ ap (λ t. line ++ 10 ∷ t) (append_assoc word rest (10 ∷ [])) in
    ap (λ l. schedule_from n s (lines_of l)) is
    ∙ ap (schedule_from n s) (line_first line (word ++ (rest ++ 10 ∷ [])) (one_line (p ∷ ps) (h, hs)))
    ∙ line_taken n s m p ps (lines_of (word ++ (rest ++ 10 ∷ []))) h hs before
    ∙ words_lines names words word [] (n + 1) m u rest are good.0 tt good.1 behind

-- all of them, behind the line feed before the first
lines_again : (names : List (List ℕ)) (words : List Word) (n : ℕ) (s u : Script) (texts : List ℕ) → AreWordTexts names words texts → IsBehindLine texts → AreTexts (texts_of names words) → schedule_line s (texts_of names words) ≡ Ok u
    → (more : List ℕ) × (texts ++ 10 ∷ [] ≡ 10 ∷ more) × (schedule_from n s (lines_of more) ≡ Ok u)
lines_again names [] n s u texts none begins good read =
    let same : s ≡ u = (let z : ◌≡◌ {A = Result Script FaultKind} (Ok s) (Ok u) = read in cc) in
    ([], ap (λ t. t ++ 10 ∷ []) none, no_lines n s ∙ ap Ok same)
lines_again names (w ∷ words) n s u texts (gap, rest, is_gap, e, are) begins good read =
    let word : List ℕ = word_text names w in
    let feed : gap ≡ 10 = subst IsBehindLine e begins in (
      word ++ (rest ++ 10 ∷ []),
      ap (λ t. t ++ 10 ∷ []) (e ∙ ap (λ b. b ∷ (word ++ rest)) feed) ∙ ap (λ t. 10 ∷ t) (append_assoc word rest (10 ∷ [])),
      words_lines names words word [] n s u rest are good.0 tt good.1 read,
    )

-- ---- the words

are_texts : (names : List (List ℕ)) (words : List Word) → AreNames names → SeatsAreThere (length names) words → AreTimed words → events_in words ≤ EVENT_LIMIT → AreTexts (texts_of names words)
are_texts names [] are there timed few = tt
are_texts names (Events seat times ∷ words) are (here, there) (some, timed) few = (events_text names seat times are here (omega (arith, few)), are_texts names words are there timed (omega (arith, few)))
are_texts names (Checkpoint ∷ words) are there timed few = (checkpoint_text, are_texts names words are there timed few)
are_texts names (Finish ∷ words) are there timed few = absurd timed
are_texts names (Drawn ∷ words) are there timed few = absurd timed

words_again : (s : Script) (words : List Word) → AreNames s.names → has_finish s.words ≡ false → SeatsAreThere (length s.names) words → AreTimed words → events_in s.words + events_in words ≤ EVENT_LIMIT
    → schedule_line s (texts_of s.names words) ≡ Ok (record s { words = s.words ++ words })
words_again s [] are unended there timed few = ap (λ ws. Ok (record s { words = ws })) (sym (append-nil s.words))
words_again s (Events seat times ∷ words) are unended (here, there) (some, timed) few =
    let more : events_in (s.words ++ Events seat times ∷ []) ≡ events_in s.words + times = events_more s.words seat times in
    ap (λ r. r >>= λ t. schedule_line t (texts_of s.names words)) (events_again s seat times are here unended some (omega (arith, few)))
    ∙ words_again (with_word s (Events seat times)) words are (unfinished_more s.words seat times ∙ unended) there timed (omega (arith, more, few))
    ∙ ap (λ ws. Ok (record s { words = ws })) (append_assoc s.words (Events seat times ∷ []) words)
words_again s (Checkpoint ∷ words) are unended there timed few =
    let same : events_in (s.words ++ Checkpoint ∷ []) ≡ events_in s.words = events_checkpoint s.words in
    ap (λ r. r >>= λ t. schedule_line t (texts_of s.names words)) (checkpoint_again s unended)
    ∙ words_again (with_word s Checkpoint) words are (unfinished_checkpoint s.words ∙ unended) there timed (omega (arith, same, few))
    ∙ ap (λ ws. Ok (record s { words = ws })) (append_assoc s.words (Checkpoint ∷ []) words)
words_again s (Finish ∷ words) are unended there timed few = absurd timed
words_again s (Drawn ∷ words) are unended there timed few = absurd timed

-- ---- the whole text

-- no header is a line `schedule`
header_other : (limits : Limits) → is_schedule (script_header limits) ≡ false
header_other V1 = refl
header_other V2 = refl
header_other V3 = refl

first_other : (first : List ℕ) (rest : List (List ℕ)) (script : Script) → IsHeaded first rest script → is_schedule first ≡ false
first_other first rest script h = ap is_schedule h.is ∙ header_other h.limits

nothing_begun : (limits : Limits) → IsBegun (nothing_yet limits)
nothing_begun limits = record { names = tt; none = refl }

-- a text that is read as a script has a line `schedule`
any_schedule : (lines : List (List ℕ)) (script : Script) → script_in lines ≡ Ok script → list_any is_schedule lines ≡ true
any_schedule [] script is = absurd (let z : ◌≡◌ {A = Result Script ScriptFault} (Err (fault_at 1 kind.BadHeader)) (Ok script) = is in cc)
any_schedule (first ∷ rest) script is = go (list_any is_schedule (first ∷ rest)) refl
  where
    h : IsHeaded first rest script
    h = headed_script first rest script is

    go : (b : Bool) → list_any is_schedule (first ∷ rest) ≡ b → list_any is_schedule (first ∷ rest) ≡ true
    go true t = t
    go false f = absurd (none_read 2 (nothing_yet h.limits) script rest (nothing_begun h.limits) (other_first first rest f).1 h.read)

has_schedule : (text : List ℕ) (script : Script) → script_of text ≡ Ok script → list_any is_schedule (lines_of text) ≡ true
has_schedule text script is = any_schedule (lines_of text) script (lines_read text script is)

-- other words behind the lines of a script
blocks_again : (n : ℕ) (s script : Script) (before after : List (List ℕ)) (words : List Word) (texts : List ℕ) (c : IsCut n s before after script) → AreWordTexts script.names words texts → IsBehindLine texts
    → SeatsAreThere (length script.names) words → AreTimed words → events_in words ≤ EVENT_LIMIT
    → (more : List ℕ) × (texts ++ 10 ∷ [] ≡ 10 ∷ more) × (blocks_from n s (before ++ codes "schedule" ∷ lines_of more) ≡ Ok (record script { words = words }))
blocks_again n s script before after words texts c are begins there timed few =
    let t : Script = c.blocks in
    let (old, e) = other_words c.number t script after c.read in
    let names : script.names ≡ t.names = ap (λ (x : Script). x.names) e in
    let there_t : SeatsAreThere (length t.names) words = subst (λ (ns : List (List ℕ)). SeatsAreThere (length ns) words) names there in
    let unended : has_finish t.words ≡ false = ap has_finish c.begun.none in
    let none : events_in t.words ≡ 0 = ap events_in c.begun.none in
    let read = words_again t words c.begun.names unended there_t timed (omega (arith, none, few)) in
    let (more, is, lines) = lines_again t.names words c.number t (record t { words = t.words ++ words }) texts (subst (λ (ns : List (List ℕ)). AreWordTexts ns words texts) names are) begins (are_texts t.names words c.begun.names there_t timed few) read in
    (more, is, c.again (lines_of more) ∙ lines ∙ ap (λ ws. Ok (record t { words = ws ++ words })) c.begun.none ∙ ap (λ (x : Script). Ok (record x { words = words })) (sym e))

first_again : (before after : List (List ℕ)) (script : Script) (words : List Word) (texts : List ℕ) → list_any is_schedule before ≡ false → script_in (before ++ codes "schedule" ∷ after) ≡ Ok script → AreWordTexts script.names words texts → IsBehindLine texts
    → SeatsAreThere (length script.names) words → AreTimed words → events_in words ≤ EVENT_LIMIT
    → (more : List ℕ) × (texts ++ 10 ∷ [] ≡ 10 ∷ more) × (script_in (before ++ codes "schedule" ∷ lines_of more) ≡ Ok (record script { words = words }))
first_again [] after script words texts none is are begins there timed few = absurd (let z : ◌≡◌ {A = Bool} true false = first_other (codes "schedule") after script (headed_script (codes "schedule") after script is) in cc)
first_again (first ∷ before) after script words texts none is are begins there timed few =
    let h = headed_script first (before ++ codes "schedule" ∷ after) script is in
    let c = cut_at 2 (nothing_yet h.limits) before after script (nothing_begun h.limits) (other_first first before none).1 h.read in
    let (more, e, read) = blocks_again 2 (nothing_yet h.limits) script before after words texts c are begins there timed few in
    (more, e, again h.limits first h.announces (before ++ codes "schedule" ∷ lines_of more) ∙ read)

-- a script's text with other words is read as the script with these words
pub read_again : (input text : List ℕ) (script : Script) (words : List Word) → script_of input ≡ Ok script → IsWritten input script.names words text → is_too_long text ≡ false → SeatsAreThere (length script.names) words → AreTimed words → events_in words ≤ EVENT_LIMIT
    → script_of text ≡ Ok (record script { words = words })
read_again input text script words is w short there timed few =
    let (before, after, none, lines, same) = w.has_head (has_schedule input script is) in
    let (more, behind, read) = first_again before after script words w.texts none (ap script_in (sym lines) ∙ lines_read input script is) w.are_texts w.behind there timed few in
    let text_lines : lines_of text ≡ before ++ codes "schedule" ∷ lines_of more = ap lines_of (w.is ∙ ap (λ t. w.head ++ t) behind) ∙ same more in
    short_script text short ∙ ap script_in text_lines ∙ read
