use Rattle.std.proofs.Common.{◌≡◌, List, [], ◌∷◌, refl, sym, ap, ◌∙◌, subst, ◌⊎◌, inl, inr, ⊎_elim, map, arith}
use Rattle.std.specs.List.{Contains}
use Rattle.fs_names.specs.declared.limits.Limits.TheVariants.{V1}
use Rattle.fs_calls.specs.Tree.{look, inserted, removed, renamed}
use Rattle.fs_calls.specs.Starts.{Start, root_start}
use Rattle.fs_calls.specs.Outcomes.{fault, reply, after, reply_at, called, replies}
use Rattle.fs_calls.specs.declared.call.Call.{Call}
use Rattle.fs_calls.specs.declared.call.Call.TheVariants.{Mkdir, Stat}
use Rattle.fs_calls.specs.declared.reply.Reply.{Reply}
use Rattle.fs_calls.specs.declared.reply.Reply.TheVariants as answer
use Rattle.fs_linearizable.specs.Linearizable.{ComesBefore, IsInvoked, Operation, IsLinearization}
use Rattle.fs_linearizable.specs.Examples.{IsLinear, at_a, directory, nothing, stat_after, two_stats_beside}
use Rattle.fs_timeline.specs.declared.entry.Entry.{Entry}
use Rattle.fs_timeline.specs.declared.entry.Entry.TheVariants.{Begin, Return}
use Rattle.fs_linearizable.proofs.LawfulLemmas.{contains_later, first_or_later, none_there, stands_first}
use Rattle.fs_linearizable.proofs.LinearizationLemmas.{stands_second}
use Rattle.fs_linearizable.proofs.examples.refused_histories.Goals as goal

heads : (x y : Reply) (xs ys : List Reply) → x ∷ xs ≡ y ∷ ys → x ≡ y
heads x y xs ys k = cc

tails : (x y : Reply) (xs ys : List Reply) → x ∷ xs ≡ y ∷ ys → xs ≡ ys
tails x y xs ys k = cc

-- what the sequential tree replies
tells_nothing : reply_at (root_start V1) (Stat at_a) ≡ nothing
unfolding look inserted removed renamed fault reply after
tells_nothing = refl

tells_directory : reply_at (called (root_start V1) (Mkdir at_a)) (Stat at_a) ≡ directory
unfolding look inserted removed renamed fault reply after
tells_directory = refl

-- the calls of the history
abbrev IsMkdir : Operation → Type 0
IsMkdir o = (o.number ≡ 1) × (o.call ≡ Mkdir at_a)

abbrev IsStat : Operation → Type 0
IsStat o = (o.number ≡ 2) × (o.call ≡ Stat at_a)

either : (r : Reply) (o : Operation) → IsInvoked (stat_after r) o.number o.call → IsMkdir o ⊎ IsStat o
either r o h =
    ⊎_elim (λ here. inl (cc, cc)) (λ h1.
    ⊎_elim (λ here. absurd (cc)) (λ h2.
    ⊎_elim (λ here. inr (cc, cc)) (λ h3.
    ⊎_elim (λ here. absurd (cc)) (λ h4. absurd (none_there e h4))
    (first_or_later (Return 2 r) [] e h3))
    (first_or_later (Begin 2 1 (Stat at_a)) (Return 2 r ∷ []) e h2))
    (first_or_later (Return 1 answer.Done) (Begin 2 1 (Stat at_a) ∷ Return 2 r ∷ []) e h1))
    (first_or_later (Begin 1 0 (Mkdir at_a)) (Return 1 answer.Done ∷ Begin 2 1 (Stat at_a) ∷ Return 2 r ∷ []) e h.1)
  where
    e : Entry
    e = Begin o.number h.0 o.call

-- a stat in the second place finds the directory
second_tells : (s : List Operation) → IsLinearization (root_start V1) (stat_after nothing) s → (a b : Operation) → a.number ≡ 1 → b.number ≡ 2 → b.reply ≡ nothing → ComesBefore s a b → ⊥
second_tells [] l a b one two stale h = absurd h
second_tells (x ∷ xs) l a b one two stale h =
    ⊎_elim
    (λ here. at_second xs l (subst (λ (o : Operation). o.number ≡ 1) (sym here.0) one) here.1)
    (λ later. ⊎_elim
    (λ is. l.once x a (inl (refl, stands_first xs a b later)) (is.0 ∙ sym one))
    (λ is. l.once x b (inl (refl, stands_second xs a b later)) (is.0 ∙ sym two))
    (either nothing x (l.invoked x (0, omega arith, refl))))
    h
  where
    at_second : (ys : List Operation) → IsLinearization (root_start V1) (stat_after nothing) (x ∷ ys) → x.number ≡ 1 → Contains ys b → ⊥
    at_second [] k first there = none_there b there
    at_second (y ∷ ys) k first there =
        ⊎_elim
        (λ is. k.once x y (inl (refl, (0, omega arith, refl))) (first ∙ sym is.0))
        (λ is. ⊎_elim
        (λ here. wrong x_call is.1 (ap (λ (o : Operation). o.reply) here ∙ stale))
        (λ later. k.once y b (inr (inl (refl, later))) (is.0 ∙ sym two))
        (first_or_later y ys b there))
        (either nothing y (k.invoked y (1, omega arith, refl)))
      where
        x_call : x.call ≡ Mkdir at_a
        x_call = ⊎_elim (λ is. is.1) (λ is. absurd (cc)) (either nothing x (k.invoked x (0, omega arith, refl)))

        wrong : x.call ≡ Mkdir at_a → y.call ≡ Stat at_a → y.reply ≡ nothing → ⊥
        wrong mkdir stat told =
            let second : y.reply ≡ reply_at (called (root_start V1) x.call) y.call = heads _ _ _ _ (tails _ _ _ _ k.legal) in
            let due : reply_at (called (root_start V1) x.call) y.call ≡ directory =
            ap (λ (c : Call). reply_at (called (root_start V1) c) y.call) mkdir ∙ ap (reply_at (called (root_start V1) (Mkdir at_a))) stat ∙ tells_directory in
            let same : nothing ≡ directory = sym told ∙ second ∙ due in
            absurd (cc)

stale : IsLinear (stat_after nothing) → ⊥
stale h =
    let l = h.linearization.1 in
    let made = l.completed 1 answer.Done (1, omega arith, refl) in
    let read = l.completed 2 nothing (3, omega arith, refl) in
    let a : Operation = record { number = 1; call = made.0; reply = answer.Done } in
    let b : Operation = record { number = 2; call = read.0; reply = nothing } in
    second_tells h.linearization.0 l a b refl refl refl (l.order a b made.1 read.1 (answer.Done, 1, Stat at_a, inr (inl (refl, (0, omega arith, refl)))))

-- a stat alone
alone : (s : List Operation) → IsLinearization (root_start V1) (Begin 2 1 (Stat at_a) ∷ Return 2 directory ∷ []) s → (call : Call) → Contains s (record { number = 2; call = call; reply = directory }) → ⊥
alone [] l call there = none_there _ there
alone (x ∷ xs) l call there =
    ⊎_elim
    (λ here.
    let told : x.reply ≡ directory = ap (λ (o : Operation). o.reply) here in
    let first : x.reply ≡ reply_at (root_start V1) x.call = heads _ _ _ _ l.legal in
    let due : reply_at (root_start V1) x.call ≡ nothing = ap (reply_at (root_start V1)) (is_stat x (l.invoked x (0, omega arith, refl))).1 ∙ tells_nothing in
    let same : directory ≡ nothing = sym told ∙ first ∙ due in
    absurd (cc))
    (λ later. l.once x _ (inl (refl, later)) (is_stat x (l.invoked x (0, omega arith, refl))).0)
    (first_or_later x xs _ there)
  where
    is_stat : (o : Operation) → IsInvoked (Begin 2 1 (Stat at_a) ∷ Return 2 directory ∷ []) o.number o.call → IsStat o
    is_stat o h =
        ⊎_elim (λ here. (cc, cc)) (λ h1.
        ⊎_elim (λ here. absurd (cc)) (λ h2. absurd (none_there e h2))
        (first_or_later (Return 2 directory) [] e h1))
        (first_or_later (Begin 2 1 (Stat at_a)) (Return 2 directory ∷ []) e h.1)
      where
        e : Entry
        e = Begin o.number h.0 o.call

-- ---- a new-old inversion

-- the tree that has /a
abbrev made : Start
made = called (root_start V1) (Mkdir at_a)

-- a stat changes no tree, and a second mkdir does not either
stat_leaves : called (root_start V1) (Stat at_a) ≡ root_start V1
unfolding look inserted removed renamed fault reply after
stat_leaves = refl

stat_leaves_made : called made (Stat at_a) ≡ made
unfolding look inserted removed renamed fault reply after
stat_leaves_made = refl

mkdir_leaves_made : called made (Mkdir at_a) ≡ made
unfolding look inserted removed renamed fault reply after
mkdir_leaves_made = refl

-- the replies are those of the sequential tree from a start
abbrev IsLegal : Start → List Operation → Type 0
IsLegal start s = map (λ (o : Operation). o.reply) s ≡ replies start (map (λ (o : Operation). o.call) s)

legal_first : (start : Start) (x : Operation) (xs : List Operation) → IsLegal start (x ∷ xs) → x.reply ≡ reply_at start x.call
legal_first start x xs k = heads _ _ _ _ k

legal_later : (start then : Start) (x : Operation) (xs : List Operation) → called start x.call ≡ then → IsLegal start (x ∷ xs) → IsLegal then xs
legal_later start then x xs is k = subst (λ (t : Start). IsLegal t xs) is (tails _ _ _ _ k)

-- each call is the mkdir or a stat
abbrev AreOfTwo : List Operation → Type 0
AreOfTwo s = (o : Operation) → Contains s o → (o.call ≡ Mkdir at_a) ⊎ (o.call ≡ Stat at_a)

-- once /a is there, no stat finds nothing
seen_since : (s : List Operation) → AreOfTwo s → IsLegal made s → (b : Operation) → b.call ≡ Stat at_a → b.reply ≡ nothing → Contains s b → ⊥
seen_since [] two legal b stat told there = none_there b there
seen_since (x ∷ xs) two legal b stat told there =
    ⊎_elim wrong (λ later. seen_since xs (λ o h. two o (contains_later x xs o h)) rest b stat told later) (first_or_later x xs b there)
  where
    leaves : (x.call ≡ Mkdir at_a) ⊎ (x.call ≡ Stat at_a) → called made x.call ≡ made
    leaves (inl is) = ap (called made) is ∙ mkdir_leaves_made
    leaves (inr is) = ap (called made) is ∙ stat_leaves_made

    rest : IsLegal made xs
    rest = legal_later made made x xs (leaves (two x (0, omega arith, refl))) legal

    wrong : x ≡ b → ⊥
    wrong here =
        let due : x.reply ≡ directory = legal_first made x xs legal ∙ ap (reply_at made) (ap (λ (o : Operation). o.call) here ∙ stat) ∙ tells_directory in
        let same : nothing ≡ directory = sym told ∙ sym (ap (λ (o : Operation). o.reply) here) ∙ due in
        absurd (cc)

-- no stat finds nothing after one that found the directory
never_back : (s : List Operation) → AreOfTwo s → IsLegal (root_start V1) s → (a b : Operation) → a.call ≡ Stat at_a → a.reply ≡ directory → b.call ≡ Stat at_a → b.reply ≡ nothing → ComesBefore s a b → ⊥
never_back [] two legal a b a_stat seen b_stat gone h = absurd h
never_back (x ∷ xs) two legal a b a_stat seen b_stat gone h = go (two x (0, omega arith, refl)) (λ legal_rest later. never_back xs (λ o there. two o (contains_later x xs o there)) legal_rest a b a_stat seen b_stat gone later)
  where
    of_rest : AreOfTwo xs
    of_rest = λ o there. two o (contains_later x xs o there)

    b_later : ComesBefore (x ∷ xs) a b → Contains xs b
    b_later k = ⊎_elim (λ here. here.1) (λ later. stands_second xs a b later) k

    go : (x.call ≡ Mkdir at_a) ⊎ (x.call ≡ Stat at_a) → (IsLegal (root_start V1) xs → ComesBefore xs a b → ⊥) → ⊥
    go (inl is) again = seen_since xs of_rest (legal_later (root_start V1) made x xs (ap (called (root_start V1)) is) legal) b b_stat gone (b_later h)
    go (inr is) again =
        let told : x.reply ≡ nothing = legal_first (root_start V1) x xs legal ∙ ap (reply_at (root_start V1)) is ∙ tells_nothing in
        ⊎_elim
        (λ here. let same : nothing ≡ directory = sym told ∙ ap (λ (o : Operation). o.reply) here.0 ∙ seen in absurd (cc))
        (λ later. again (legal_later (root_start V1) (root_start V1) x xs (ap (called (root_start V1)) is ∙ stat_leaves) legal) later)
        h

-- the calls of the history
of_two : (o : Operation) → IsInvoked (two_stats_beside directory nothing) o.number o.call → IsMkdir o ⊎ (o.call ≡ Stat at_a)
of_two o h =
    ⊎_elim (λ here. inl (cc, cc)) (λ h1.
    ⊎_elim (λ here. inr (cc)) (λ h2.
    ⊎_elim (λ here. absurd (cc)) (λ h3.
    ⊎_elim (λ here. inr (cc)) (λ h4.
    ⊎_elim (λ here. absurd (cc)) (λ h5. absurd (none_there e h5))
    (first_or_later (Return 3 nothing) [] e h4))
    (first_or_later (Begin 3 1 (Stat at_a)) (Return 3 nothing ∷ []) e h3))
    (first_or_later (Return 2 directory) (Begin 3 1 (Stat at_a) ∷ Return 3 nothing ∷ []) e h2))
    (first_or_later (Begin 2 1 (Stat at_a)) (Return 2 directory ∷ Begin 3 1 (Stat at_a) ∷ Return 3 nothing ∷ []) e h1))
    (first_or_later (Begin 1 0 (Mkdir at_a)) (Begin 2 1 (Stat at_a) ∷ Return 2 directory ∷ Begin 3 1 (Stat at_a) ∷ Return 3 nothing ∷ []) e h.1)
  where
    e : Entry
    e = Begin o.number h.0 o.call

-- one that is not the first is a stat
is_stat_of : (o : Operation) → IsInvoked (two_stats_beside directory nothing) o.number o.call → (o.number ≡ 1 → ⊥) → o.call ≡ Stat at_a
is_stat_of o h other = ⊎_elim (λ is. absurd (other is.0)) (λ is. is) (of_two o h)

inverted : IsLinear (two_stats_beside directory nothing) → ⊥
inverted h =
    let l = h.linearization.1 in
    let first = l.completed 2 directory (2, omega arith, refl) in
    let second = l.completed 3 nothing (4, omega arith, refl) in
    let a : Operation = record { number = 2; call = first.0; reply = directory } in
    let b : Operation = record { number = 3; call = second.0; reply = nothing } in
    never_back h.linearization.0 (λ o there. ⊎_elim (λ is. inl is.1) (λ is. inr is) (of_two o (l.invoked o there))) l.legal a b
    (is_stat_of a (l.invoked a first.1) (λ k. absurd (cc))) refl (is_stat_of b (l.invoked b second.1) (λ k. absurd (cc))) refl
    (l.order a b first.1 second.1 (directory, 1, Stat at_a, inr (inr (inl (refl, (0, omega arith, refl))))))

pub returns : goal.returns
returns c = record {
  stale_read = stale;
  new_old_inversion = inverted;
  out_of_thin_air = λ h. let found = h.linearization.1.completed 2 directory (1, omega arith, refl) in alone h.linearization.0 h.linearization.1 found.0 found.1;
  unbegun = λ h. let begun = h.well_formed.0.0 in absurd (cc);
}
