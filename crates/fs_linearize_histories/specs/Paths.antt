-- Which timeline leads to a configuration.
use Rattle.std.specs.Prelude.{◌≡◌, ℕ, not, ◌&&◌, List, [], ◌∷◌, ◌++◌, length, slice_get, Some, true}
use Rattle.fs_calls.specs.Starts.{Start}
use Rattle.fs_calls.specs.Outcomes.{next_start}
use Rattle.fs_calls.specs.declared.call.Call.{Call}
use Rattle.fs_calls.specs.declared.reply.Reply.{Reply}
use Rattle.fs_timeline.specs.Timeline.{has_committed, has_returned, commits, due}
use Rattle.fs_timeline.specs.declared.entry.Entry.{Entry}
use Rattle.fs_linearizable.specs.Linearizable.{history}
use Rattle.fs_linearize_histories.specs.declared.heard.Heard.{Heard}
use Rattle.fs_linearize_histories.specs.declared.heard.Heard.TheVariants as heard
use Rattle.fs_linearize_histories.specs.declared.heard.Pattern.{Pattern}
use Rattle.fs_timeline.specs.declared.entry.Entry.TheVariants.{Begin, Commit, Return}
use Rattle.fs_linearize_histories.specs.Histories.{ExplainsFront, IsHistory}
use Rattle.fs_linearize_histories.specs.Configurations.{Configuration, at_start, is_in, AreRising, passed, returned, committed, CanCommit}

-- a timeline leads to a configuration: it explains the front that has passed, and leaves its tree and the calls that it holds, in order and each once
pub record LeadsTo (start : Start) (h : List Heard) (es : List Entry) (x : Configuration) : Type 0 where
  pub explains : ExplainsFront start h es
  pub place : x.at ≡ length (history es)
  pub tree : x.now ≡ next_start start (commits es)
  pub held : (c : ℕ) → is_in c x.held ≡ (has_committed c es && not (has_returned c es))
  pub rising : AreRising x.held

-- each step of the search is one more entry
pub record StepsLead : Type 0 where
  pub starts : (start : Start) (h : List Heard) → LeadsTo start h [] (at_start start)
  pub begins : (start : Start) (h : List Heard) (es : List Entry) (x : Configuration) (c seat : ℕ) (call : Call) → IsHistory h → slice_get h x.at ≡ Some (heard.Begin c seat call) → LeadsTo start h es x → LeadsTo start h (es ++ Begin c seat call ∷ []) (passed x)
  pub commits : (start : Start) (h : List Heard) (es : List Entry) (x : Configuration) (c : ℕ) (call : Call) → CanCommit h x c call → LeadsTo start h es x → LeadsTo start h (es ++ Commit c ∷ []) (committed x c call)
  pub returns : (start : Start) (h : List Heard) (es : List Entry) (x : Configuration) (c : ℕ) (p : Pattern) (r : Reply) → IsHistory h → slice_get h x.at ≡ Some (heard.Return c p) → is_in c x.held ≡ true → due start c es ≡ Some r → LeadsTo start h es x → LeadsTo start h (es ++ Return c r ∷ []) (returned x c)
