-- Linearizable histories, in the words of Herlihy and Wing ("Linearizability: A Correctness Condition for Concurrent Objects", 1990).
-- The processes are the seats, an operation is a call with its reply, and the object is the sequential tree.
use Rattle.std.specs.Prelude.{◌≡◌, ◌⊎◌, ℕ, true, false, List, [], ◌∷◌, map, Contains}
use Rattle.fs_calls.specs.Starts.{Start}
use Rattle.fs_calls.specs.Outcomes.{replies}
use Rattle.fs_calls.specs.declared.call.Call.{Call}
use Rattle.fs_calls.specs.declared.reply.Reply.{Reply}
use Rattle.fs_timeline.specs.Timeline.{has_begun, has_returned, is_busy, Each}
use Rattle.fs_timeline.specs.declared.entry.Entry.{Entry}
use Rattle.fs_timeline.specs.declared.entry.Entry.TheVariants.{Begin, Commit, Return}

-- the history of a timeline: its invocations and responses, in order
abbrev pub history : List Entry → List Entry
history [] = []
history (Begin c seat call ∷ es) = Begin c seat call ∷ history es
history (Commit c ∷ es) = history es
history (Return c r ∷ es) = Return c r ∷ history es

-- an event may come next: a call is invoked once, on a seat whose last call has responded; it responds once, after its invocation
abbrev pub IsNextEvent : List Entry → Entry → Type 0
IsNextEvent before (Begin c seat call) = (has_begun c before ≡ false) × (is_busy seat before ≡ false)
IsNextEvent before (Commit c) = ⊥
IsNextEvent before (Return c r) = (has_begun c before ≡ true) × (has_returned c before ≡ false)

-- a well-formed history: on each seat invocations and their responses take turns
abbrev pub IsHistory : List Entry → Type 0
IsHistory h = Each IsNextEvent [] h

-- in a list one element comes before the other
abbrev pub ComesBefore : {A : Type 0} → List A → A → A → Type 0
ComesBefore [] x y = ⊥
ComesBefore (z ∷ zs) x y = ((z ≡ x) × Contains zs y) ⊎ ComesBefore zs x y

-- the call of a number is invoked
abbrev pub IsInvoked : List Entry → ℕ → Call → Type 0
IsInvoked h c call = (seat : ℕ) × Contains h (Begin c seat call)

-- it is completed, with this reply; an invoked call that is not completed is pending
abbrev pub IsCompleted : List Entry → ℕ → Reply → Type 0
IsCompleted h c r = Contains h (Return c r)

-- real-time precedence: the response of one call comes before the invocation of the other
abbrev pub Precedes : List Entry → ℕ → ℕ → Type 0
Precedes h c d = (r : Reply) × (seat : ℕ) × (call : Call) × ComesBefore h (Return c r) (Begin d seat call)

-- an operation: the call of a number, and its reply
pub record Operation : Type 0 where
  pub number : ℕ
  pub call : Call
  pub reply : Reply

-- a linearization of a history: some of its calls, each with a reply, in an order
pub record IsLinearization (start : Start) (h : List Entry) (s : List Operation) : Type 0 where
  -- each is invoked, and occurs once
  pub invoked : (o : Operation) → Contains s o → IsInvoked h o.number o.call
  pub once : (o p : Operation) → ComesBefore s o p → o.number ≡ p.number → ⊥
  -- every completed call occurs, with the reply that it got; a pending call may occur or not
  pub completed : (c : ℕ) (r : Reply) → IsCompleted h c r → (call : Call) × Contains s (record { number = c; call = call; reply = r })
  -- legal: the replies are those of the sequential tree, called in this order
  pub legal : map (λ (o : Operation). o.reply) s ≡ replies start (map (λ (o : Operation). o.call) s)
  -- the order keeps real-time precedence
  pub order : (o p : Operation) → Contains s o → Contains s p → Precedes h o.number p.number → ComesBefore s o p

-- a history is linearizable from a start tree: it is well formed, and has a linearization
pub record IsLinearizable (start : Start) (h : List Entry) : Type 0 where
  pub well_formed : IsHistory h
  pub linearization : (s : List Operation) × IsLinearization start h s
