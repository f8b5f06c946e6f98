-- When what is kept beside the entries is their index.
use Rattle.std.specs.Prelude.{◌≡◌, ℕ, zero, suc, ◌+◌, true, List, length, map, Option, Some, None, slice_get}
use Rattle.std.specs.Option.{option_flatten}
use Rattle.fs_calls.specs.declared.call.Call.{Call}
use Rattle.fs_timeline.specs.Timeline.{has_begun, has_committed, begins, call_of, commits}
use Rattle.fs_timeline.specs.declared.entry.Entry.{Entry}
use Rattle.fs_timeline.specs.declared.entry.Entry.TheVariants.{Begin, Commit, Return}
use Rattle.fs_timeline.specs.Index.{place_of}

-- the call that begins at a place of the entries
abbrev pub call_begun : Option Entry → Option Call
call_begun None = None
call_begun (Some (Begin c seat call)) = Some call
call_begun (Some (Commit c)) = None
call_begun (Some (Return c r)) = None

-- the call that the entry at a place begins
abbrev pub begun_at : List Entry → ℕ → Option Call
begun_at es at = call_begun (slice_get es at)

-- what a list by call numbers, from 1 on, has for a call
abbrev pub kept_for : List (Option ℕ) → ℕ → Option ℕ
kept_for places zero = None
kept_for places (suc at) = option_flatten (slice_get places at)

-- where the Begin of a call stands
pub record HasBegin (es : List Entry) (begun : List ℕ) (c : ℕ) : Type 0 where
  pub at : ℕ
  pub place : ℕ
  pub numbered : c ≡ at + 1
  pub kept : slice_get begun at ≡ Some place
  pub called : begun_at es place ≡ call_of c es

-- a place for each begin; each begun call's Begin, each call's place among the commits, and the calls of the commits
pub record IsIndex (es : List Entry) (begun : List ℕ) (places : List (Option ℕ)) (order : List ℕ) : Type 0 where
  pub count : length begun ≡ begins es
  pub beside : length places ≡ begins es
  pub stands : (c : ℕ) → has_begun c es ≡ true → HasBegin es begun c
  pub placed : (c : ℕ) → kept_for places c ≡ place_of c es
  pub calls : map (begun_at es) order ≡ map (λ (call : Call). Some call) (commits es)
  pub begun_first : (c : ℕ) → has_committed c es ≡ true → has_begun c es ≡ true
