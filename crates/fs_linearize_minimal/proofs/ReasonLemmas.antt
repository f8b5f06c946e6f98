-- Why a history has no order, and replies that are open.
use Rattle.std.proofs.Common.{◌≡◌, ◌==◌, ℕ, Bool, true, false, not, ◌&&◌, ◌||◌, arith, List, [], ◌∷◌, ◌++◌, refl, sym, ap, ◌∙◌, subst, append_assoc}
use Rattle.fs_calls.specs.Starts.{Start}
use Rattle.fs_calls.specs.Replies.{same_reply}
use Rattle.fs_calls.specs.declared.reply.Reply.{Reply}
use Rattle.fs_timeline.proofs.ReplyLemmas.{same_reply_refl}
use Rattle.fs_linearize_histories.specs.declared.heard.Heard.{Heard}
use Rattle.fs_linearize_histories.specs.Heard.{is_among}
use Rattle.fs_linearize.specs.Results.{IsAnswerFor}
use Rattle.fs_linearize.specs.declared.replies.Possible.{Possible}
use Rattle.fs_linearize.specs.declared.linearizing.Found.{Found}
use Rattle.fs_linearize.specs.declared.linearizing.Found.TheVariants as found
use Rattle.fs_linearize_minimal.specs.Reasons.{AreOpen, CouldBeRight, IsOpen, are_among, is_lawful, is_same, same_replies}
use Rattle.fs_linearize_minimal.specs.declared.reason.Reason.{Reason}

-- ---- the same replies

and_true : (a b : Bool) → a ≡ true → b ≡ true → (a && b) ≡ true
and_true true b x y = y
and_true false b x y = x

and_left : (a b : Bool) → (a && b) ≡ true → a ≡ true
and_left true b e = refl
and_left false b e = e

and_right : (a b : Bool) → (a && b) ≡ true → b ≡ true
and_right true b e = e
and_right false b e = absurd (cc)

or_first : (a b : Bool) → a ≡ true → (a || b) ≡ true
or_first true b e = refl
or_first false b e = absurd (cc)

or_last : (a b : Bool) → b ≡ true → (a || b) ≡ true
or_last true b e = refl
or_last false b e = e

all_or : (a b : Bool) → b ≡ true → (not a || (a && b)) ≡ true
all_or true b e = e
all_or false b e = refl

among_more : (xs ys : List Reply) (s : Reply) → are_among xs ys ≡ true → are_among xs (s ∷ ys) ≡ true
among_more [] ys s k = refl
among_more (r ∷ xs) ys s k =
    and_true (is_among r (s ∷ ys)) (are_among xs (s ∷ ys))
    (or_last (same_reply s r) (is_among r ys) (and_left (is_among r ys) (are_among xs ys) k))
    (among_more xs ys s (and_right (is_among r ys) (are_among xs ys) k))

among_itself : (xs : List Reply) → are_among xs xs ≡ true
among_itself [] = refl
among_itself (r ∷ xs) =
    and_true (is_among r (r ∷ xs)) (are_among xs (r ∷ xs))
    (or_first (same_reply r r) (is_among r xs) (same_reply_refl r))
    (among_more xs xs r (among_itself xs))

same_itself : (p : Possible) → same_replies p p ≡ true
same_itself p =
    let a = are_among p.replies.items p.replies.items in
    let each : a ≡ true = among_itself p.replies.items in
    all_or p.all (a && a) (and_true a a each each)

same_number : (n : ℕ) → (n == n) ≡ true
same_number n = grind arith

-- the reason of a refusal is its own
pub same_reason : (reason : Reason) → is_same reason reason.call reason.possible ≡ true
same_reason reason = and_true (reason.call == reason.call) (reason.race || same_replies reason.possible reason.possible) (same_number reason.call) (or_last reason.race (same_replies reason.possible reason.possible) (same_itself reason.possible))

-- ---- open replies

pub open_more : (call : ℕ) (h front rest : List Heard) (old new : List Heard) (x y : Heard) → ((more : List Heard) → AreOpen call front more → AreOpen call h (old ++ more)) → front ≡ x ∷ rest → IsOpen call x y → new ≡ old ++ y ∷ [] → (more : List Heard) → AreOpen call rest more → AreOpen call h (new ++ more)
open_more call h front rest old new x y known is opened pushed more k =
    let longer : AreOpen call h (old ++ y ∷ more) = known (y ∷ more) (subst (λ (l : List Heard). AreOpen call l (y ∷ more)) (sym is) (opened, k)) in
    subst (AreOpen call h) (sym (ap (λ (l : List Heard). l ++ more) pushed ∙ append_assoc old (y ∷ []) more)) longer

pub could_be : (start : Start) (call limit : ℕ) (h opened : List Heard) (f : Found) → AreOpen call h opened → IsAnswerFor start opened limit f → is_lawful f ≡ true → CouldBeRight start call h
could_be start call limit h opened (found.Lawful journal) are answer is = (opened, are, (journal.items, answer))
could_be start call limit h opened (found.NoOrder place c p held) are answer is = absurd (cc)
could_be start call limit h opened (found.Fault place kind) are answer is = absurd (cc)
could_be start call limit h opened (found.Unknown place) are answer is = absurd (cc)
