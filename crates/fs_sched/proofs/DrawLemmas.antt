-- Drawn seats, one word after the other.
use Rattle.std.proofs.Common.{◌≡◌, ℕ, zero, suc, ◌+◌, ◌-◌, ◌<◌, ◌%◌, ◌≤◌, [], ◌∷◌, map, arith, refl, sym, ap, ap₂, ◌∙◌}
use Rattle.rand_core.specs.Steps.{first_words}
use Rattle.rand_pcg.specs.Lcg.{Lcg}
use Rattle.rand_pcg.specs.Pcg.{pcg32}
use Rattle.fs_sched.specs.Schedules.{seats_from, one_event}
use Rattle.fs_sched.specs.declared.schedule.TheConstants.{DRAW_LIMIT}
use Rattle.fs_sched.specs.declared.seats.SeatsAhead.{SeatsAhead}
use Rattle.fs_sched.specs.code.Ahead.{upcoming}
use Rattle.fs_sched.proofs.Staging.{one_less}

pub seats_next : (t w : ℕ) (g h : Lcg) → ◌≡◌ {A = ℕ × Lcg} (w, h) (pcg32 g) → (k : ℕ) → seats_from t (suc k) g ≡ (w % t) ∷ seats_from t k h
unfolding seats_from first_words
seats_next t w g h e k = ap (λ (p : ℕ × Lcg). (p.0 % t) ∷ seats_from t k p.1) (sym e)

no_draws : (n : ℕ) (g : Lcg) → seats_from n 0 g ≡ []
unfolding seats_from first_words
no_draws n g = refl

-- the seat ahead is the first of the seats from the generator that it was drawn from
pub upcoming_after : (g : Lcg) (seats : SeatsAhead) → ((k : ℕ) → seats_from seats.threads (suc k) g ≡ seats.ahead ∷ seats_from seats.threads k seats.draws) → (k : ℕ) → upcoming k seats ≡ seats_from seats.threads k g
upcoming_after g seats next zero = sym (no_draws seats.threads g)
upcoming_after g seats next (suc k) = sym (next k)

pub upcoming_from : (threads : ℕ) (g : Lcg) (seats : SeatsAhead) → seats.threads ≡ threads → (first : Lcg) → first ≡ g → ((k : ℕ) → seats_from seats.threads (suc k) first ≡ seats.ahead ∷ seats_from seats.threads k seats.draws) → (k : ℕ) → upcoming k seats ≡ seats_from threads k g
upcoming_from threads g seats e first is next k = upcoming_after first seats next k ∙ ap₂ (λ (t : ℕ) (h : Lcg). seats_from t k h) e is

pub upcoming_more : (i seat : ℕ) (old new : SeatsAhead) → i < DRAW_LIMIT → ((k : ℕ) → upcoming (suc k) old ≡ seat ∷ upcoming k new) → upcoming (DRAW_LIMIT - i) old ≡ seat ∷ upcoming (DRAW_LIMIT - (i + 1)) new
upcoming_more i seat old new less next = ap (λ (k : ℕ). upcoming k old) (one_less DRAW_LIMIT i less) ∙ next (DRAW_LIMIT - (i + 1))

pub upcoming_end : (i : ℕ) (seats : SeatsAhead) → DRAW_LIMIT ≤ i → map one_event (upcoming (DRAW_LIMIT - i) seats) ≡ []
upcoming_end i seats h = let e : DRAW_LIMIT - i ≡ 0 = omega (arith, h) in ap (λ (k : ℕ). map one_event (upcoming k seats)) e
