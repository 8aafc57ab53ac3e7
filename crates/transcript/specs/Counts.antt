-- The definitions that count events down: their equations hold without the count, for every text.
use Rattle.std.specs.Prelude.{ℕ, ◌<◌, ◌≡◌, List, length}
use Rattle.terms.specs.declared.Terms.{Terms}
use Rattle.ledger.specs.declared.Event.{Event}
use Rattle.account.specs.declared.Account.{Account}
use Rattle.scanner.specs.Scanner.{got}
use Rattle.text.specs.Text.{read_event}
use Rattle.transcript.specs.Events.{Fold, fold_by, fold_events}
use Rattle.transcript.specs.Transcript.{ledger_lines}
use Rattle.transcript.specs.Work.{account_lines}
use Rattle.transcript.specs.Pieces.{piece_by, piece_from}

abbrev pub FoldSuffices : {S Y : Type 0} → Fold S Y → Type 0
FoldSuffices {S} w = (x : S) (s : List ℕ) → fold_events w x s ≡ fold_by w (fold_events w) x s

pub record CountsSuffice : Type 0 where
  -- an event takes bytes, so each equation has one solution
  pub progress : (s r : List ℕ) (e : Event) → read_event s ≡ got e r → length r < length s
  pub ledger-lines : (t : Terms) → FoldSuffices (ledger_lines t)
  pub account-lines : FoldSuffices account_lines
  pub pieces : (room : ℕ) (s : List ℕ) (a : Account) (at count n : ℕ) → piece_from room s a at count n ≡ piece_by (piece_from room s) room s a at count n
