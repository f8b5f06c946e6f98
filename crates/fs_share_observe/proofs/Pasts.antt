-- What a history says, and what a longer one says.
use Rattle.std.proofs.Common.{◌≡◌, ◌+◌, List, [], ◌∷◌, ◌++◌, length, refl, ap, sym, ◌∙◌, subst, arith, length-append}
use mathlib.Core.List.{IsPrefix}
use Rattle.fs_calls.specs.declared.call.Call.{Call}
use Rattle.fs_share_observe.specs.declared.history.Noted.{Noted}
use Rattle.fs_share_observe.specs.declared.history.Noted.TheVariants.{Began, Played}
use Rattle.fs_share_observe.specs.Pasts.{start_of, calls_of, past_of, AllPlayed, IsNoted, GoesOn}

pub calls_append : (xs ys : List Noted) → calls_of (xs ++ ys) ≡ calls_of xs ++ calls_of ys
calls_append [] ys = refl
calls_append (Began tree ∷ xs) ys = calls_append xs ys
calls_append (Played call ∷ xs) ys = ap (λ (l : List Call). call ∷ l) (calls_append xs ys)

pub start_append : (xs ys : List Noted) → IsNoted xs → start_of (xs ++ ys) ≡ start_of xs
start_append [] ys h = absurd h
start_append (Began tree ∷ xs) ys h = refl
start_append (Played call ∷ xs) ys h = absurd h

played_push : (xs : List Noted) (call : Call) → AllPlayed xs → AllPlayed (xs ++ Played call ∷ [])
played_push [] call h = tt
played_push (Began tree ∷ xs) call h = absurd h
played_push (Played first ∷ xs) call h = played_push xs call h

pub noted_push : (xs : List Noted) (call : Call) → IsNoted xs → IsNoted (xs ++ Played call ∷ [])
noted_push [] call h = absurd h
noted_push (Began tree ∷ xs) call h = played_push xs call h
noted_push (Played first ∷ xs) call h = absurd h

played_length : (xs : List Noted) → AllPlayed xs → length xs ≡ length (calls_of xs)
played_length [] h = refl
played_length (Began tree ∷ xs) h = absurd h
played_length (Played call ∷ xs) h = omega (arith, played_length xs h)

pub noted_length : (xs : List Noted) → IsNoted xs → length xs ≡ length (calls_of xs) + 1
noted_length [] h = absurd h
noted_length (Began tree ∷ xs) h = omega (arith, played_length xs h)
noted_length (Played call ∷ xs) h = absurd h

-- with one more call
pub calls_push : (xs ys : List Noted) (call : Call) → ys ≡ xs ++ Played call ∷ [] → calls_of ys ≡ calls_of xs ++ call ∷ []
calls_push xs ys call h = ap calls_of h ∙ calls_append xs (Played call ∷ [])

pub start_push : (xs ys : List Noted) (call : Call) → IsNoted xs → ys ≡ xs ++ Played call ∷ [] → start_of ys ≡ start_of xs
start_push xs ys call noted h = ap start_of h ∙ start_append xs (Played call ∷ []) noted

pub length_push : (xs ys : List Noted) (call : Call) → ys ≡ xs ++ Played call ∷ [] → length (calls_of ys) ≡ length (calls_of xs) + 1
length_push xs ys call h = omega (arith, ap length (calls_push xs ys call h), length-append (calls_of xs) (call ∷ []))

-- a longer history goes on from a shorter one
pub goes_on : (xs ys : List Noted) → IsNoted xs → IsPrefix xs ys → GoesOn (past_of xs) (past_of ys)
goes_on xs ys h p = subst (λ (l : List Noted). GoesOn (past_of xs) (past_of l)) p.1
    (sym (start_append xs p.0 h), (calls_of p.0, sym (calls_append xs p.0)))
