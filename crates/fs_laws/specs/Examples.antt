-- Worked examples of the machine: runs of it, with what each step answers and what the nodes spell at the end.
use Rattle.std.specs.Prelude.{◌≡◌, ℕ, List, [], ◌∷◌, ◌++◌, Some, None, codes, Ok}
use Prim.Native.String.{String}
use Rattle.fs_names.specs.Keys.{Key}
use Rattle.fs_names.specs.Reading.{names}
use Rattle.fs_names.specs.Shapes.{Dir, File}
use Rattle.fs_calls.specs.declared.call.Call.{Call}
use Rattle.fs_calls.specs.declared.call.Call.TheVariants.{Mkdir, Mknod, Unlink, Rmdir, Rename, Exchange, Write}
use Rattle.fs_calls.specs.declared.errno.Errno.TheVariants.{Eexist, Ebusy, Eperm, Enotempty}
use Rattle.fs_calls.specs.declared.reply.Reply.TheVariants.{Done, Wrote, Failed}
use Rattle.fs_calls.specs.Graphs.{graph_shapes, used_below}
use Rattle.fs_timeline.specs.declared.entry.Entry.TheVariants.{Begin, Commit, Return}
use Rattle.fs_laws.specs.Events.{Event, Begins, Steps, Ran}
use Rattle.fs_machine.specs.declared.answers.Stepped.{Stepped}
use Rattle.fs_machine.specs.declared.answers.Stepped.TheVariants.{Took, Busy, LetGo, Helped, Committed, CarriedOut, Returned}

abbrev pub at : String → Key
at text = names (codes text)

-- a call begins on a seat, by this number
abbrev pub begins : ℕ → Call → ℕ → List Event
begins seat call c = Begins seat call (Ok c) ∷ []

-- a seat is stepped, with these answers
abbrev pub steps : ℕ → List Stepped → List Event
steps seat [] = []
steps seat (answer ∷ answers) = Steps seat answer ∷ steps seat answers

-- the first mkdir
abbrev pub first_mkdir : List Event
first_mkdir =
    begins 0 (Mkdir (at "/a")) 1
    ++ steps 0 (Took 0 ∷ Committed ∷ LetGo 0 ∷ Returned Done ∷ [])

pub record FirstMkdir : Type 0 where
  pub ran : Ran first_mkdir
  pub timeline : ran.state.timeline ≡ Begin 1 0 (Mkdir (at "/a")) ∷ Commit 1 ∷ Return 1 Done ∷ []
  pub at_root : graph_shapes ran.state.graph [] ≡ Some (Dir (codes "a" ∷ []))
  pub at_a : graph_shapes ran.state.graph (at "/a") ≡ Some (Dir [])
  pub at_b : graph_shapes ran.state.graph (at "/b") ≡ None

-- calls on the root take nothing
abbrev pub calls_on_the_root : List Event
calls_on_the_root =
    begins 0 (Mkdir []) 1
    ++ steps 0 (Committed ∷ Returned (Failed Eexist) ∷ [])
    ++ begins 0 (Rmdir []) 2
    ++ steps 0 (Committed ∷ Returned (Failed Ebusy) ∷ [])
    ++ begins 0 (Unlink []) 3
    ++ steps 0 (Committed ∷ Returned (Failed Eperm) ∷ [])
    ++ begins 0 (Rename [] (at "/x")) 4
    ++ steps 0 (Committed ∷ Returned (Failed Ebusy) ∷ [])

pub record CallsOnTheRoot : Type 0 where
  pub ran : Ran calls_on_the_root

-- a call waits for the root while another holds it
abbrev pub waits_for_the_root : List Event
waits_for_the_root =
    begins 0 (Mkdir (at "/x")) 1
    ++ steps 0 (Took 0 ∷ [])
    ++ begins 1 (Mkdir (at "/x")) 2
    ++ steps 1 (Busy 0 1 ∷ [])
    ++ steps 0 (Committed ∷ LetGo 0 ∷ Returned Done ∷ [])
    ++ steps 1 (Took 0 ∷ Committed ∷ LetGo 0 ∷ Returned (Failed Eexist) ∷ [])

pub record WaitsForTheRoot : Type 0 where
  pub ran : Ran waits_for_the_root
  pub at_root : graph_shapes ran.state.graph [] ≡ Some (Dir (codes "x" ∷ []))

-- a rename helps a mkdir below the node that it moves
abbrev pub helped_mkdir : List Event
helped_mkdir =
    begins 0 (Mkdir (at "/a")) 1
    ++ steps 0 (Took 0 ∷ Committed ∷ LetGo 0 ∷ Returned Done ∷ [])
    ++ begins 0 (Mkdir (at "/a/d")) 2
    ++ steps 0 (Took 0 ∷ Took 1 ∷ LetGo 0 ∷ Committed ∷ LetGo 1 ∷ Returned Done ∷ [])
    ++ begins 0 (Mkdir (at "/a/d/x")) 3
    ++ steps 0 (Took 0 ∷ Took 1 ∷ LetGo 0 ∷ Took 2 ∷ LetGo 1 ∷ [])
    ++ begins 1 (Rename (at "/a") (at "/b")) 4
    ++ steps 1 (Took 0 ∷ Helped 3 ∷ Committed ∷ LetGo 0 ∷ Returned Done ∷ [])
    ++ steps 0 (CarriedOut ∷ LetGo 2 ∷ Returned Done ∷ [])

pub record HelpedMkdir : Type 0 where
  pub ran : Ran helped_mkdir
  pub timeline : ran.state.timeline ≡ Begin 1 0 (Mkdir (at "/a")) ∷ Commit 1 ∷ Return 1 Done ∷ Begin 2 0 (Mkdir (at "/a/d")) ∷ Commit 2 ∷ Return 2 Done ∷ Begin 3 0 (Mkdir (at "/a/d/x")) ∷ Begin 4 1 (Rename (at "/a") (at "/b")) ∷ Commit 3 ∷ Commit 4 ∷ Return 4 Done ∷ Return 3 Done ∷ []
  pub at_root : graph_shapes ran.state.graph [] ≡ Some (Dir (codes "b" ∷ []))
  pub at_b : graph_shapes ran.state.graph (at "/b") ≡ Some (Dir (codes "d" ∷ []))
  pub at_b_d : graph_shapes ran.state.graph (at "/b/d") ≡ Some (Dir (codes "x" ∷ []))
  pub at_b_d_x : graph_shapes ran.state.graph (at "/b/d/x") ≡ Some (Dir [])
  pub at_a : graph_shapes ran.state.graph (at "/a") ≡ None
  pub at_a_d : graph_shapes ran.state.graph (at "/a/d") ≡ None

-- of two calls below, the lowest is helped first
abbrev pub lowest_first : List Event
lowest_first =
    begins 0 (Mkdir (at "/a")) 1
    ++ steps 0 (Took 0 ∷ Committed ∷ LetGo 0 ∷ Returned Done ∷ [])
    ++ begins 0 (Mkdir (at "/a/d")) 2
    ++ steps 0 (Took 0 ∷ Took 1 ∷ LetGo 0 ∷ Committed ∷ LetGo 1 ∷ Returned Done ∷ [])
    ++ begins 0 (Mkdir (at "/a/d/e")) 3
    ++ steps 0 (Took 0 ∷ Took 1 ∷ LetGo 0 ∷ Took 2 ∷ LetGo 1 ∷ Committed ∷ LetGo 2 ∷ Returned Done ∷ [])
    ++ begins 1 (Rmdir (at "/a/d/e")) 4
    ++ begins 0 (Mkdir (at "/a/d/e/x")) 5
    ++ steps 0 (Took 0 ∷ Took 1 ∷ LetGo 0 ∷ Took 2 ∷ LetGo 1 ∷ Took 3 ∷ LetGo 2 ∷ [])
    ++ steps 1 (Took 0 ∷ Took 1 ∷ LetGo 0 ∷ Took 2 ∷ LetGo 1 ∷ [])
    ++ begins 2 (Rename (at "/a") (at "/b")) 6
    ++ steps 2 (Took 0 ∷ Helped 5 ∷ Helped 4 ∷ Committed ∷ LetGo 0 ∷ Returned Done ∷ [])
    ++ steps 0 (CarriedOut ∷ [])
    ++ steps 1 (Busy 3 5 ∷ [])
    ++ steps 0 (LetGo 3 ∷ [])
    ++ steps 1 (Took 3 ∷ [])
    ++ steps 0 (Returned Done ∷ [])
    ++ steps 1 (CarriedOut ∷ LetGo 3 ∷ LetGo 2 ∷ Returned (Failed Enotempty) ∷ [])

pub record LowestFirst : Type 0 where
  pub ran : Ran lowest_first
  pub at_root : graph_shapes ran.state.graph [] ≡ Some (Dir (codes "b" ∷ []))
  pub at_b_d_e_x : graph_shapes ran.state.graph (at "/b/d/e/x") ≡ Some (Dir [])
  pub at_a : graph_shapes ran.state.graph (at "/a") ≡ None

-- a rename helps a rename below
abbrev pub helped_rename : List Event
helped_rename =
    begins 0 (Mkdir (at "/a")) 1
    ++ steps 0 (Took 0 ∷ Committed ∷ LetGo 0 ∷ Returned Done ∷ [])
    ++ begins 0 (Mkdir (at "/a/p")) 2
    ++ steps 0 (Took 0 ∷ Took 1 ∷ LetGo 0 ∷ Committed ∷ LetGo 1 ∷ Returned Done ∷ [])
    ++ begins 0 (Mkdir (at "/a/q")) 3
    ++ steps 0 (Took 0 ∷ Took 1 ∷ LetGo 0 ∷ Committed ∷ LetGo 1 ∷ Returned Done ∷ [])
    ++ begins 0 (Mknod (at "/a/p/s")) 4
    ++ steps 0 (Took 0 ∷ Took 1 ∷ LetGo 0 ∷ Took 2 ∷ LetGo 1 ∷ Committed ∷ LetGo 2 ∷ Returned Done ∷ [])
    ++ begins 0 (Rename (at "/a/p/s") (at "/a/q/t")) 5
    ++ steps 0 (Took 0 ∷ Took 1 ∷ LetGo 0 ∷ [])
    ++ begins 1 (Rename (at "/a") (at "/b")) 6
    ++ steps 1 (Took 0 ∷ Helped 5 ∷ Committed ∷ LetGo 0 ∷ Returned Done ∷ [])
    ++ steps 0 (Took 2 ∷ Took 3 ∷ CarriedOut ∷ LetGo 3 ∷ LetGo 2 ∷ LetGo 1 ∷ Returned Done ∷ [])

pub record HelpedRename : Type 0 where
  pub ran : Ran helped_rename
  pub at_root : graph_shapes ran.state.graph [] ≡ Some (Dir (codes "b" ∷ []))
  pub at_b : graph_shapes ran.state.graph (at "/b") ≡ Some (Dir (codes "p" ∷ codes "q" ∷ []))
  pub at_b_p : graph_shapes ran.state.graph (at "/b/p") ≡ Some (Dir [])
  pub at_b_q_t : graph_shapes ran.state.graph (at "/b/q/t") ≡ Some (File [])
  pub at_b_p_s : graph_shapes ran.state.graph (at "/b/p/s") ≡ None

-- two calls stand below the two directories that are to change places
abbrev pub before_exchange : List Event
before_exchange =
    begins 0 (Mkdir (at "/a")) 1
    ++ steps 0 (Took 0 ∷ Committed ∷ LetGo 0 ∷ Returned Done ∷ [])
    ++ begins 0 (Mkdir (at "/b")) 2
    ++ steps 0 (Took 0 ∷ Committed ∷ LetGo 0 ∷ Returned Done ∷ [])
    ++ begins 0 (Mkdir (at "/a/x")) 3
    ++ steps 0 (Took 0 ∷ Took 1 ∷ LetGo 0 ∷ [])
    ++ begins 1 (Mkdir (at "/b/y")) 4
    ++ steps 1 (Took 0 ∷ Took 2 ∷ LetGo 0 ∷ [])

-- the exchange helps both, the one with the lesser number first, and each makes its directory where it stands
abbrev pub after_exchange : List Event
after_exchange =
    steps 2 (Took 0 ∷ Helped 3 ∷ Helped 4 ∷ Committed ∷ LetGo 0 ∷ Returned Done ∷ [])
    ++ steps 0 (CarriedOut ∷ LetGo 1 ∷ Returned Done ∷ [])
    ++ steps 1 (CarriedOut ∷ LetGo 2 ∷ Returned Done ∷ [])

-- an exchange helps the calls below both nodes that it moves
abbrev pub helped_on_both_sides : List Event
helped_on_both_sides = before_exchange ++ begins 2 (Exchange (at "/a") (at "/b")) 5 ++ after_exchange

pub record HelpedOnBothSides : Type 0 where
  pub ran : Ran helped_on_both_sides
  pub timeline : ran.state.timeline ≡ Begin 1 0 (Mkdir (at "/a")) ∷ Commit 1 ∷ Return 1 Done ∷ Begin 2 0 (Mkdir (at "/b")) ∷ Commit 2 ∷ Return 2 Done ∷ Begin 3 0 (Mkdir (at "/a/x")) ∷ Begin 4 1 (Mkdir (at "/b/y")) ∷ Begin 5 2 (Exchange (at "/a") (at "/b")) ∷ Commit 3 ∷ Commit 4 ∷ Commit 5 ∷ Return 5 Done ∷ Return 3 Done ∷ Return 4 Done ∷ []
  pub at_root : graph_shapes ran.state.graph [] ≡ Some (Dir (codes "a" ∷ codes "b" ∷ []))
  pub at_a : graph_shapes ran.state.graph (at "/a") ≡ Some (Dir (codes "y" ∷ []))
  pub at_a_y : graph_shapes ran.state.graph (at "/a/y") ≡ Some (Dir [])
  pub at_b : graph_shapes ran.state.graph (at "/b") ≡ Some (Dir (codes "x" ∷ []))
  pub at_b_x : graph_shapes ran.state.graph (at "/b/x") ≡ Some (Dir [])

-- the least number is helped first also where it stands below the second path
abbrev pub least_below_second_path : List Event
least_below_second_path = before_exchange ++ begins 2 (Exchange (at "/b") (at "/a")) 5 ++ after_exchange

pub record LeastBelowSecondPath : Type 0 where
  pub ran : Ran least_below_second_path
  pub at_a : graph_shapes ran.state.graph (at "/a") ≡ Some (Dir (codes "y" ∷ []))
  pub at_b : graph_shapes ran.state.graph (at "/b") ≡ Some (Dir (codes "x" ∷ []))

-- an unlink waits for the victim that another call holds
abbrev pub victim_is_waited_for : List Event
victim_is_waited_for =
    begins 0 (Mknod (at "/f")) 1
    ++ steps 0 (Took 0 ∷ Committed ∷ LetGo 0 ∷ Returned Done ∷ [])
    ++ begins 0 (Write (at "/f") 0 (104 ∷ 105 ∷ [])) 2
    ++ steps 0 (Took 0 ∷ Took 1 ∷ LetGo 0 ∷ [])
    ++ begins 1 (Unlink (at "/f")) 3
    ++ steps 1 (Took 0 ∷ Busy 1 2 ∷ [])
    ++ steps 0 (Committed ∷ [])
    ++ steps 1 (Busy 1 2 ∷ [])
    ++ steps 0 (LetGo 1 ∷ [])
    ++ steps 1 (Took 1 ∷ [])
    ++ steps 0 (Returned (Wrote 2) ∷ [])
    ++ steps 1 (Committed ∷ LetGo 1 ∷ LetGo 0 ∷ Returned Done ∷ [])

pub record VictimIsWaitedFor : Type 0 where
  pub ran : Ran victim_is_waited_for
  pub timeline : ran.state.timeline ≡ Begin 1 0 (Mknod (at "/f")) ∷ Commit 1 ∷ Return 1 Done ∷ Begin 2 0 (Write (at "/f") 0 (104 ∷ 105 ∷ [])) ∷ Begin 3 1 (Unlink (at "/f")) ∷ Commit 2 ∷ Return 2 (Wrote 2) ∷ Commit 3 ∷ Return 3 Done ∷ []
  pub at_root : graph_shapes ran.state.graph [] ≡ Some (Dir [])
  pub at_f : graph_shapes ran.state.graph (at "/f") ≡ None
  pub used : used_below ran.state.graph.shape 3 ≡ 1
