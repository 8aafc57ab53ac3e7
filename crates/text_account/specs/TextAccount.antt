-- The account that a text makes: of the events that stand in it, posted in order to the account of its terms.
use Rattle.std.specs.Prelude.{ℕ, ◌≡◌, List, [], ◌∷◌, Result, Ok, Err}
use Rattle.terms.specs.declared.Terms.{Terms}
use Rattle.ledger.specs.declared.Event.{Event}
use Rattle.ledger.specs.declared.Refusal.{Refusal}
use Rattle.ledger.specs.Refusals.{refusal_code}
use Rattle.account.specs.declared.Account.{Account}
use Rattle.refinement.specs.Lists.{Made}
use Rattle.transcript.specs.Events.{Fold, fold_by, fold_events}
use Rattle.transcript.specs.Transcript.{terms_line, by_text}

-- the events that stand in the bytes, up to the end or to the first that breaks the form
abbrev pub event_list : Fold Unit (List Event)
event_list = record {
  step = λ (x : Unit) (e : Event). x;
  event = λ (x : Unit) (e : Event) (more : List Event). e ∷ more;
  malformed = λ (x : Unit). [];
  end = λ (x : Unit). [];
}

abbrev pub events_of : List ℕ → List Event
events_of s = fold_events event_list tt s

-- `fold_events` ends after as many events as the text has bytes: that leaves none out, of any text.
abbrev pub EventsSuffice : Type 0
EventsSuffice = (s : List ℕ) → events_of s ≡ fold_by event_list (fold_events event_list) tt s

-- The account of the text's terms and of the events in the bytes after them. `printed`, for every f, says that they are the text's own.
pub record TextAccount (s : List ℕ) (a : Account) : Type 0 where
  pub terms : Terms
  pub rest : List ℕ
  pub made : Made terms (events_of rest) a
  pub printed : (f : Terms → List ℕ → List ℕ) → by_text f s ≡ f terms rest

-- what `account_of` answers: that account, or why there is only the terms' line
abbrev pub IsTextAccount : List ℕ → Result Account Refusal → Type 0
IsTextAccount s (Ok a) = TextAccount s a
IsTextAccount s (Err r) = (f : Terms → List ℕ → List ℕ) → by_text f s ≡ terms_line (refusal_code r)
