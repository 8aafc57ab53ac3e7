-- The events answered call after call, as those of the text. Assumes nothing.
use Rattle.std.proofs.Common.{◌≡◌, ℕ, zero, suc, List, [], ◌∷◌, length, refl, ap, ◌∙◌}
use Rattle.terms.specs.declared.Terms.{Terms}
use Rattle.text.specs.Text.{read_event}
use Rattle.transcript.specs.Events.{Fold, fold_by, fold_in}
use Rattle.reader.specs.Reader.{answers_in, answers_after}
use Rattle.scanner.proofs.Laws.{by_read}
use Rattle.reader.proofs.Whole.{whole}
use Rattle.head.specs.Texts.{fold_answers, AsInText}

module _ {S Y : Type 0} (w : Fold S Y) where
  made : (k : ℕ) (x : S) (s : List ℕ) → fold_answers w x (answers_in k s) ≡ fold_in w k x s
  unfolding fold_answers answers_in fold_in
  made zero x s = refl
  made (suc k) x [] = refl
  made (suc k) x (b ∷ s) =
      by_read (read_event (b ∷ s))
      (λ e r g. rw (g, answers_in, fold_by) (ap (w.event x e) (made k (w.step x e) r)))
      (λ g. rw (g, answers_in, fold_by) refl)

pub in-text : {S Y : Type 0} (w : Terms → Fold S Y) → AsInText w
in-text w text rest t x e =
    let k = suc (length rest) in
    ap (fold_answers (w t) x) (whole text k ∙ ap (answers_after k) e) ∙ made (w t) k x rest
