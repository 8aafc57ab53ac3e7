-- The events of a text, by what stands there. Assumes nothing.
use Prim.Native.Nat.{ℕ}
use mathlib.Core.Path.{◌≡◌, ap, ◌∙◌}
use mathlib.Core.List.{List, [], ◌∷◌}
use native.Mathlib.Omega.{arith}
use Rattle.ledger.specs.declared.Event.{Event}
use Rattle.account.specs.Step.{step_of}
use Rattle.account.specs.declared.Account.{Account}
use Rattle.refinement.specs.Lists.{account_after}
use Rattle.scanner.specs.Scanner.{got, broken}
use Rattle.text.specs.Text.{read_event}
use Rattle.text.proofs.Laws.{event-progress}
use Rattle.transcript.specs.Events.{fold_events}
use Rattle.transcript.proofs.Counts.{fold-got, fold-broken, fold-suffices}
use Rattle.text_account.specs.TextAccount.{event_list, events_of, EventsSuffice}

-- ---- the events by what stands there, and that their count is enough

pub count-suffices : EventsSuffice
count-suffices s = fold-suffices event_list tt s

events-got : (s : List ℕ) (e : Event) (r : List ℕ) → read_event s ≡ got e r → events_of s ≡ e ∷ events_of r
events-got s e r g = count-suffices s ∙ fold-got event_list (fold_events event_list) tt s r e (omega (arith, event-progress s e r g)) g

events-broken : (s : List ℕ) → read_event s ≡ broken → events_of s ≡ []
events-broken [] g = count-suffices []
events-broken (b ∷ s) g = count-suffices (b ∷ s) ∙ fold-broken event_list (fold_events event_list) tt (b ∷ s) (omega arith) g

-- ---- the loop over them

pub posts : (s r : List ℕ) (e : Event) (a : Account) → read_event s ≡ got e r → account_after a (events_of s) ≡ account_after (step_of a e).account (events_of r)
unfolding account_after
posts s r e a g = ap (account_after a) (events-got s e r g)

pub ends : (s : List ℕ) (a : Account) → read_event s ≡ broken → account_after a (events_of s) ≡ a
unfolding account_after
ends s a g = ap (account_after a) (events-broken s g)
