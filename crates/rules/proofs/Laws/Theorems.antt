-- The proofs of `Theorems`, and which refusal of a move comes where.
use Rattle.std.specs.Prelude.{ℕ, ◌≡◌, true, false, get_or}
use Rattle.std.proofs.Common.{arith}
use Rattle.rules.specs.Sheet.{Bytes, narrow, wide, print}
use Rattle.rules.specs.declared.Format.{Format}
use Rattle.rules.specs.Judge.{accept, refuse}
use Rattle.rules.specs.Lists.{keep}
use Rattle.rules.specs.Directory.{Directory, directory_of, directory_lines, blank, entry_of, entries_in}
use Rattle.rules.specs.Move.{beyond, spills, moved}
use Rattle.rules.specs.Serve.{setting_of}
use Rattle.rules.specs.Theorems.{PrintedBack, RoundTrip, MovedAccepted, BackAgain, FormsAlike, ResolvedAlike, LongAbsent, Permuted, InOrder, Stable, SmallestKey}
use Rattle.rules.proofs.Laws.DirectoryLines.{accepted-back}
use Rattle.rules.proofs.Laws.Move.{move-accepted, there_and_back, moved_back}
use Rattle.rules.proofs.Laws.FormsAlike.{served-alike}
use Rattle.rules.proofs.Laws.Each.{each_keep, each_at, mapped-each}
use Rattle.rules.proofs.Laws.Directory.{accepted-means}
use Rattle.rules.proofs.Laws.Absent.{none-longer}
use Rattle.rules.proofs.Laws.Aliases.{replaced-alike}
use Rattle.rules.proofs.Laws.Allowed.{EntryAllowed, entries-allowed}
use Rattle.rules.proofs.Laws.Keys.{arranged-permuted, key-stable, key-ordered, key-least}

pub printed-back : PrintedBack
printed-back = accepted-back

pub round_trip : RoundTrip
round_trip = (there_and_back narrow (omega arith) 8 9999999 (omega arith) (omega arith), there_and_back wide (omega arith) 5 999 (omega arith) (omega arith))

pub moved-accepted : MovedAccepted
moved-accepted = (move-accepted narrow (omega arith) 8 9999999 (omega arith) (omega arith), move-accepted wide (omega arith) 5 999 (omega arith) (omega arith))

pub back-again : BackAgain
back-again = (moved_back narrow (omega arith) 8 9999999 (omega arith) (omega arith), moved_back wide (omega arith) 5 999 (omega arith) (omega arith))

pub forms-alike : FormsAlike
forms-alike = served-alike

pub resolved-alike : ResolvedAlike
resolved-alike = replaced-alike

pub long-absent : LongAbsent
unfolding entries_in
long-absent f s d e n l = none-longer d.schema d.entries (accepted-means f s d e).depths n l

pub permuted : Permuted
permuted = arranged-permuted

pub in_order_lem : InOrder
unfolding entries_in
in_order_lem f s d e is u o chosen =
    key-ordered (setting_of d is u) o (keep chosen (entries_in d))
    (each_keep (EntryAllowed d.schema) chosen (entries_in d) (entries-allowed d.schema d.entries (accepted-means f s d e)))

pub stable : Stable
stable = key-stable

pub smallest-key : SmallestKey
smallest-key f s d e is u t k l =
    key-least (setting_of d is u) t (entry_of (get_or d.entries k blank))
    (each_at (λ x. EntryAllowed d.schema (entry_of x)) blank d.entries
    (mapped-each (EntryAllowed d.schema) entry_of d.entries (entries-allowed d.schema d.entries (accepted-means f s d e))) k l)

-- ---- which refusal of a move comes where

module _ (from to : Format) (s : Bytes) (room : ℕ) where
  -- those of the sheet come first
  pub refused-sheet : (n : ℕ) → directory_of from s ≡ refuse n → moved from to s room ≡ refuse n
  unfolding moved
  refused-sheet n e = rw e

  module _ (d : Directory) (e : directory_of from s ≡ accept d) where
    -- "35 .. after 6", whatever the buffer
    pub refused-type : beyond to.top d.schema ≡ true → moved from to s room ≡ refuse 35
    unfolding moved
    refused-type h = rw (e, h)

    -- "36 .. after 35"
    pub refused-length : beyond to.top d.schema ≡ false → spills room (print to.width (directory_lines d)) ≡ true → moved from to s room ≡ refuse 36
    unfolding moved
    refused-length h l = rw (e, h, l)
