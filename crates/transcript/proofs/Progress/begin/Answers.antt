-- `Progress::begin` meets its contract. Assumes nothing.
use Rattle.std.proofs.Common.{ℕ, ◌-◌, ◌≡◌, length, false, rules, ap, ◌∙◌}
use Rattle.terms.specs.Terms.{zero_terms, terms_code}
use Rattle.terms.specs.declared.Terms.{Terms}
use Rattle.account.specs.Record.{fresh}
use Rattle.transcript.specs.Progress.{Reached}
use Rattle.transcript.specs.Pieces.{progress_of}
use Rattle.transcript.proofs.Ledgers.{opened-begun, malformed-begun}
use Rattle.transcript.proofs.Progress.begin.Goals.{in-Some, then-is_valid, else-is_valid, in-None}
use Rattle.transcript.proofs.Progress.begin.Goals as goal

-- what `start` makes of the terms, the place and the code
abbrev started : Terms × ℕ × ℕ → Reached
started x = progress_of (fresh x.0) x.1 0 x.2 0 false

pub returns : goal.returns
unfolding terms_code
returns c = elim c.match-terms_in.branch [
  | in-Some w ↦
      let code : w.if-is_valid.code ≡ terms_code w.in-Some.terms = elim w.if-is_valid.branch [ then-is_valid v ↦ search rules | else-is_valid v ↦ search rules ] in
      opened-begun _ _ _ w.in-Some.ensures.read _ (c.start.ensures ∙ ap started w.at-is ∙ ap (λ (n : ℕ). started (w.in-Some.terms, length c.args.text.now - length w.in-Some.rest.now, n)) code)
  | in-None w ↦
      let zeros : w.default.result ≡ zero_terms = search rules in
      malformed-begun _ w.in-None.ensures.read _ (c.start.ensures ∙ ap started w.at-is ∙ ap (λ (n : ℕ). started (w.default.result, 0, n)) w.from.ensures ∙ ap (λ (t : Terms). started (t, 0, 15)) zeros)
]
