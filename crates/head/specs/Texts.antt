-- What the calls of the C interface that read a text leave in the lent memory, and their codes; and what is read call after call.
use Rattle.std.specs.Prelude.{ℕ, suc, ◌≡◌, List, [], ◌∷◌, length, Option, Some, None, Result, Ok, Err}
use Rattle.terms.specs.declared.Terms.{Terms}
use Rattle.ledger.specs.declared.Event.{Event}
use Rattle.ledger.specs.declared.Refusal.{Refusal}
use Rattle.ledger.specs.Refusals.{refusal_code}
use Rattle.scanner.specs.Scanner.{got}
use Rattle.transcript.specs.Events.{Fold, fold_events}
use Rattle.text.specs.Text.{terms_in}
use Rattle.transcript.specs.Transcript.{ledger_lines}
use Rattle.text_account.specs.TextAccount.{event_list}
use Rattle.reader.specs.Reader.{at_end, begun, EventAnswer, answers}

-- The terms read, and the code; refused, the lent terms stay.
abbrev pub terms_left : Terms → Result Terms Refusal → Terms × ℕ
terms_left lent (Ok t) = (t, 0)
terms_left lent (Err r) = (lent, refusal_code r)

-- The same of an event; at the end of the text the lent event stays too.
abbrev pub event_left : Event → Result (Option Event) Refusal → Event × ℕ
event_left lent (Ok (Some e)) = (e, 0)
event_left lent (Ok None) = (lent, at_end)
event_left lent (Err r) = (lent, refusal_code r)

-- ---- call after call

-- What is made of the events that are answered, one after the other, up to the first answer that is none.
unfoldable pub fold_answers : {S Y : Type 0} → Fold S Y → S → List EventAnswer → Y
fold_answers w x [] = w.end x
fold_answers w x (Ok (Some e) ∷ more) = w.event x e (fold_answers w (w.step x e) more)
fold_answers w x (Ok None ∷ more) = w.end x
fold_answers w x (Err r ∷ more) = w.malformed x

-- After well formed terms it is what is made of the events that stand in the text; these are no more than its bytes.
abbrev pub AsInText : {S Y : Type 0} → (Terms → Fold S Y) → Type 0
AsInText {S} w =
    (text rest : List ℕ) (t : Terms) (x : S) → terms_in text ≡ got t rest
    → fold_answers (w t) x (answers text (suc (length rest)) (begun text).reader) ≡ fold_events (w t) x rest

-- So firmware that posts each event as it is read posts what `prepay` and `summary` post.
pub record AsPrinted : Type 0 where
  pub prepay : AsInText ledger_lines
  pub summary : AsInText (λ (t : Terms). event_list)
