-- The calls of a seat, and the place of a call among them.
use Rattle.std.proofs.Common.{◌≡◌, ℕ, ◌+◌, ◌-◌, ◌<◌, Bool, true, false, ◌==◌, List, [], ◌∷◌, ◌++◌, take, drop, length, get_or, Some, refl, sym, ap, ◌∙◌, subst, arith, add-one, drop-cons, zero, suc}
use Rattle.std.specs.List.{flat_map}
use Rattle.std.specs.Prelude.{slice_get, ◌||◌, if◌then◌else◌}
use Rattle.std.proofs.lemmas.Bool.{eqb-true}
use Rattle.std.proofs.lemmas.Grind.{flat_map-append}
use Rattle.std.proofs.lemmas.List.{take_more, take-append-drop}
use Rattle.fs_calls.specs.declared.call.Call.{Call}
use Rattle.fs_timeline.specs.Timeline.{has_begun, is_begin}
use Rattle.fs_timeline.specs.declared.entry.Entry.{Entry}
use Rattle.fs_timeline.specs.declared.entry.Entry.TheVariants.{Begin, Commit, Return}
use Rattle.fs_timeline.proofs.AppendLemmas.{list_any-push}
use Rattle.fs_trace_replay.specs.Commits.{IsTurn, begun_on_seat, calls_on, committed, committed_by}

-- an element behind others
behind : (xs ys : List ℕ) (y : ℕ) → slice_get (xs ++ y ∷ ys) (length xs) ≡ Some y
behind [] ys y = refl
behind (x ∷ xs) ys y = behind xs ys y

-- the call that an entry begins stands behind those that begin before it
turn_of_begin : (es : List Entry) (i c seat : ℕ) (call : Call) → i < length es → Begin c seat call ≡ get_or es i (Begin c seat call) → IsTurn es seat (length (calls_on seat (take i es)) + 1) c
turn_of_begin es i c seat call less is = (omega arith, found)
  where
    before : List ℕ
    before = calls_on seat (take i es)

    later : List ℕ
    later = calls_on seat (drop (i + 1) es)

    cut : drop i es ≡ Begin c seat call ∷ drop (i + 1) es
    cut = rw (add-one) (drop-cons es i (Begin c seat call) less ∙ ap (λ x. x ∷ drop (suc i) es) (sym is))

    own : (seat == seat) ≡ true
    own = grind arith

    all : calls_on seat es ≡ before ++ c ∷ later
    all =
        ap (calls_on seat) (sym (take-append-drop i es)) ∙ flat_map-append (begun_on_seat seat) (take i es) (drop i es)
        ∙ ap (λ xs. before ++ calls_on seat xs) cut
        ∙ ap (λ b. before ++ ((if b then c ∷ [] else []) ++ later)) own

    found : slice_get (calls_on seat es) (length before + 1 - 1) ≡ Some c
    found = ap (slice_get (calls_on seat es)) (let back : length before + 1 - 1 ≡ length before = omega arith in back) ∙ ap (λ xs. slice_get xs (length before)) all ∙ behind before later c

pub turn_at : (es : List Entry) (i c seat d s n : ℕ) (call : Call) (e : Entry) → i < length es → e ≡ get_or es i e → e ≡ Begin d s call → d ≡ c → s ≡ seat → n ≡ length (calls_on seat (take i es)) → IsTurn es seat (n + 1) c
turn_at es i c seat d s n call e less at begins same on count =
    let begin : e ≡ Begin c seat call = begins ∙ ap (λ z. Begin z s call) same ∙ ap (λ z. Begin c z call) on in
    subst (λ z. IsTurn es seat (z + 1) c) (sym count) (turn_of_begin es i c seat call less (subst (λ x. x ≡ get_or es i x) begin at))

-- one entry further none has begun either
pub none_more : (es : List Entry) (i c : ℕ) (e : Entry) → i < length es → e ≡ get_or es i e → has_begun c (take i es) ≡ false → is_begin c e ≡ false → has_begun c (take (i + 1) es) ≡ false
none_more es i c e less is none other =
    let more : take (i + 1) es ≡ take i es ++ e ∷ [] = take_more es i e less ∙ ap (λ x. take i es ++ x ∷ []) (sym is) in
    ap (has_begun c) more ∙ list_any-push (is_begin c) (take i es) e ∙ ap (λ b. b || is_begin c e) none ∙ other

-- an entry that is no Begin of the call
pub other_begin : (c d s : ℕ) (call : Call) (e : Entry) → e ≡ Begin d s call → (d ≡ c → ⊥) → is_begin c e ≡ false
other_begin c d s call e is other = ap (is_begin c) is ∙ go (c == d) refl
  where
    go : (b : Bool) → (c == d) ≡ b → b ≡ false
    go false e = refl
    go true e = absurd (other (sym (eqb-true c d e)))

pub no_begin : (c : ℕ) (e : Entry) → ((d s : ℕ) (call : Call) → e ≡ Begin d s call → ⊥) → is_begin c e ≡ false
no_begin c (Begin d s call) none = absurd (none d s call refl)
no_begin c (Commit d) none = refl
no_begin c (Return d r) none = refl

-- a call that commits has begun
with_begun : (whole : List Entry) (b : Bool) (d n c : ℕ) (ns : List ℕ) → has_begun d whole ≡ b → slice_get ((if b then d ∷ [] else []) ++ ns) n ≡ Some c → ((m : ℕ) → slice_get ns m ≡ Some c → has_begun c whole ≡ true) → has_begun c whole ≡ true
with_begun whole false d n c ns e h later = later n h
with_begun whole true d zero c ns e h later = let same : d ≡ c = cc in subst (λ z. has_begun z whole ≡ true) same e
with_begun whole true d (suc n) c ns e h later = later n h

begun_from : (whole es : List Entry) (n c : ℕ) → slice_get (flat_map (committed_by whole) es) n ≡ Some c → has_begun c whole ≡ true
begun_from whole [] n c h = absurd (cc)
begun_from whole (Begin d seat other ∷ es) n c h = begun_from whole es n c h
begun_from whole (Commit d ∷ es) n c h = with_begun whole (has_begun d whole) d n c (flat_map (committed_by whole) es) refl h (λ m later. begun_from whole es m c later)
begun_from whole (Return d r ∷ es) n c h = begun_from whole es n c h

pub committed_begun : (es : List Entry) (n c : ℕ) → slice_get (committed es) n ≡ Some c → has_begun c es ≡ true
committed_begun es n c h = begun_from es es n c h
