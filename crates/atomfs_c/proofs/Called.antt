-- What the status of a call says of it.
use Rattle.std.proofs.Common.{◌≡◌, ◌<◌, ◌≤◌, ℕ, Ok, Err, Option, Some, None, refl, sym, subst, arith}
use Rattle.fs_calls.specs.declared.reply.Reply.{Reply}
use Rattle.fs_core.specs.CoreValues.{CoreValue}
use Rattle.fs_embed.specs.Calls.{RunsCall, WaitsCall, IsNotBegun, IsNotReturned}
use Rattle.fs_embed.specs.Keeping.{After}
use Rattle.fs_embed.specs.Requests.{Asked}
use Rattle.fs_embed.specs.declared.calls.NotBegun.{NotBegun}
use Rattle.fs_embed.specs.declared.calls.NotReturned.{NotReturned}
use Rattle.fs_embed.specs.declared.calls.NotReturned.TheVariants as not_returned
use Rattle.fs_embed.specs.Statuses.{IsReturned, IsRefusal, IsToldWhy, begin_status}
use Rattle.atomfs_c.specs.Exports.{Goes, ToldIfClosed, IsCalled, IsBegun, IsReplied, Comes}
use Rattle.fs_embed.specs.declared.status.TheConstants.{OK, WAITS, CLOSED}

-- what is so of two cores is so of the handles that have them
pub goes : (P : CoreValue → CoreValue → Type 0) (before after : Option CoreValue) (old new : CoreValue) → before ≡ Some old → after ≡ Some new → P old new → Goes P before after
goes P before after old new is_old is_new p = subst (λ (o : Option CoreValue). Goes P o after) (sym is_old) (subst (λ (n : Option CoreValue). Goes P (Some old) n) (sym is_new) p)

-- a handle that is open before and after, and is not told to be closed
pub stays_open : (P : CoreValue → CoreValue → Type 0) (status : ℕ) (old new : Option CoreValue) → Goes P old new → (status ≡ CLOSED → ⊥) → ToldIfClosed status old new
stays_open P status None new there other = absurd there
stays_open P status (Some a) None there other = absurd there
stays_open P status (Some a) (Some b) goes other = (other, refl)

-- a status of a call that returned is neither that of a closed handle nor that of one that waits, and no refusal
pub not_closed : (status : ℕ) → IsReturned status → status ≡ CLOSED → ⊥
not_closed status returned at = let e : status ≡ 4 = at in let b : 128 ≤ status = returned (omega (arith, e)) in omega (arith, e, b)

pub not_waits : (status : ℕ) → IsReturned status → status ≡ WAITS → ⊥
not_waits status returned at = let e : status ≡ 3 = at in let b : 128 ≤ status = returned (omega (arith, e)) in omega (arith, e, b)

pub not_refused : (status : ℕ) → IsReturned status → IsRefusal status → ⊥
not_refused status returned is = let a : 4 < status = is.above in let b : status < 128 = is.below in let c : 128 ≤ status = returned (omega (arith, a)) in omega (arith, b, c)

-- a refusal is no status of a call that began, nor of a closed handle
not_ok : (status : ℕ) → IsRefusal status → status ≡ OK → ⊥
not_ok status is at = let e : status ≡ 0 = at in let above : 4 < status = is.above in omega (arith, e, above)

refusal_open : (status : ℕ) → IsRefusal status → status ≡ CLOSED → ⊥
refusal_open status is at = let e : status ≡ 4 = at in let above : 4 < status = is.above in omega (arith, e, above)

module _ (most : Option ℕ) (given : Asked) (seat number : ℕ) (old new : Option CoreValue) where
  -- a call that did not begin
  pub not_begun : (a b : CoreValue) → old ≡ Some a → new ≡ Some b → (why : NotBegun) (status : ℕ) → After most (λ x y. IsNotBegun x seat given why y) a b → status ≡ begin_status why → IsRefusal status → IsBegun most given seat status number old new
  not_begun a b is_old is_new why status came told is = record {
    begun = λ at. absurd (not_ok status is at);
    refused = λ r. there;
    closed = stays_open (After most (λ x y. (w : NotBegun) × (status ≡ begin_status w) × IsNotBegun x seat given w y)) status old new there (refusal_open status is);
  }
    where
      there : Goes (After most (λ x y. (w : NotBegun) × (status ≡ begin_status w) × IsNotBegun x seat given w y)) old new
      there = goes (After most (λ x y. (w : NotBegun) × (status ≡ begin_status w) × IsNotBegun x seat given w y)) old new a b is_old is_new (came.0, came.1, (why, told, came.2))

  -- a call that returned, and whose reply is told
  pub called : (Told : Reply → Type 0) (status : ℕ) (reply : Reply) → Comes most given seat (Ok reply) number old new → Told reply → IsReturned status → IsCalled most given seat Told status number old new
  called Told status reply came told is = record {
    returned = λ _. (reply, came, told);
    waits = λ at. absurd (not_waits status is at);
    refused = λ r. absurd (not_refused status is r);
    closed = stays_open (After most (λ a b. RunsCall a seat given number reply b)) status old new came (not_closed status is);
  }

  -- one that did not return has no reply to tell
  pub uncalled : (Told : Reply → Type 0) (status : ℕ) → Comes most given seat (Err status) number old new → IsCalled most given seat Told status number old new
  uncalled Told status came = record {
    returned = λ is. absurd (let a : 2 < status = came.1 in let b : 128 ≤ status = is a in let c : status < 128 = came.2 in omega (arith, b, c));
    waits = came.0.waits;
    refused = came.0.refused;
    closed = came.0.closed;
  }

  -- a closed handle
  pub comes_closed : old ≡ None → new ≡ None → Comes most given seat (Err 4) number old new
  comes_closed is_old is_new = (
    record {
      returned = λ is. absurd (let b : 128 ≤ 4 = is (omega arith) in omega (arith, b));
      waits = λ at. absurd (let e : 4 ≡ 3 = at in omega (arith, e));
      refused = λ r. absurd (let a : 4 < 4 = r.above in omega (arith, a));
      closed = subst (λ (o : Option CoreValue). ToldIfClosed 4 o new) (sym is_old) (refl, is_new);
    },
    omega arith,
    omega arith,
  )

  -- a call that did not return
  pub comes_not : (a b : CoreValue) → old ≡ Some a → new ≡ Some b → (why : NotReturned) (status : ℕ) → After most (λ x y. IsNotReturned x seat given why y) a b → IsToldWhy why status number → Comes most given seat (Err status) number old new
  comes_not a b is_old is_new (not_returned.Waits call holder) status is told = (
    record {
      returned = λ r. absurd (let e : status ≡ 3 = told.0 in let c : 128 ≤ status = r (omega (arith, e)) in omega (arith, c, e));
      waits = λ at. there;
      refused = λ r. absurd (let e : status ≡ 3 = told.0 in let c : 4 < status = r.above in omega (arith, c, e));
      closed = stays_open (After most (λ x y. (h : ℕ) × WaitsCall x seat given number h y)) status old new there (λ at. let e : status ≡ 3 = told.0 in let c : status ≡ 4 = at in omega (arith, c, e));
    },
    (let e : status ≡ 3 = told.0 in omega (arith, e)),
    (let e : status ≡ 3 = told.0 in omega (arith, e)),
  )
    where
      there : Goes (After most (λ x y. (h : ℕ) × WaitsCall x seat given number h y)) old new
      there = goes (After most (λ x y. (h : ℕ) × WaitsCall x seat given number h y)) old new a b is_old is_new (is.0, is.1, (holder, subst (λ (k : ℕ). WaitsCall is.0 seat given k holder b) (sym told.1) is.2))
  comes_not a b is_old is_new (not_returned.NotBegun why) status is told = (
    record {
      returned = λ r. absurd (let c : 4 < status = told.1.above in let d : status < 128 = told.1.below in let e : 128 ≤ status = r (omega (arith, c)) in omega (arith, d, e));
      waits = λ at. absurd (let c : 4 < status = told.1.above in let e : status ≡ 3 = at in omega (arith, c, e));
      refused = λ r. there;
      closed = stays_open (After most (λ x y. (w : NotBegun) × (status ≡ begin_status w) × IsNotBegun x seat given w y)) status old new there (λ at. let c : 4 < status = told.1.above in let e : status ≡ 4 = at in omega (arith, c, e));
    },
    (let c : 4 < status = told.1.above in omega (arith, c)),
    told.1.below,
  )
    where
      there : Goes (After most (λ x y. (w : NotBegun) × (status ≡ begin_status w) × IsNotBegun x seat given w y)) old new
      there = goes (After most (λ x y. (w : NotBegun) × (status ≡ begin_status w) × IsNotBegun x seat given w y)) old new a b is_old is_new (is.0, is.1, (why, told.0, is.2))

-- what is so of the reply in a core is so of the handle that has it
pub behind : {Told : Reply → Type 0} {number status : ℕ} (held : Option CoreValue) (core : CoreValue) → held ≡ Some core → IsReplied (Some core) Told number status → IsReplied held Told number status
behind {Told} {number} {status} held core is replied = subst (λ (h : Option CoreValue). IsReplied h Told number status) (sym is) replied
