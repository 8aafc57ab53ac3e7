-- Off the record that the account is read as, and so in the ledger's terms.
use Rattle.std.proofs.Common.{sym, ◌∙◌}
use Rattle.moves.proofs.Early.{in_reach}
use Rattle.months.proofs.Span.{month-small, summary-other, summary-none, summary-some}
use Rattle.months.proofs.Agrees.{promised, promised-none}
use Rattle.months.proofs.summary.Goals as goal

pub returns-then-not-is_account : goal.returns-then-not-is_account
returns-then-not-is_account g c = promised-none _ _ _ (summary-other _ _ cc)

pub returns-in_default : goal.returns-in_default
returns-in_default g c = promised-none _ _ _ (summary-none _ _ (cc) (rw c.terms-terms.ensures at c.in_default.ensures))

pub charges_in-charges-requires : goal.charges_in-charges-requires
charges_in-charges-requires g c = month-small _ _ _ c.in-Some.ensures

pub paid_in-requires : goal.paid_in-requires
paid_in-requires g c = (in_reach _ _ (sym c.is_account.ensures ∙ c.if-not-is_account.false)).count

pub returns-then-not-are_in_range : goal.returns-then-not-are_in_range
returns-then-not-are_in_range g c =
    let past = rw (c.charges_in-charges.ensures, c.charges.ensures) at (sym c.are_in_range.ensures.all ∙ c.if-not-are_in_range.true) in
    promised-none _ _ _ (simp past at (summary-some (g.A.AsAccount.account c.args.a.now) _ (cc) _ (rw c.terms-terms.ensures at c.in-Some.ensures)))

pub returns : goal.returns
returns g c =
    let v = c.average.ensures in
    let p = c.paid_in.ensures in
    let u = c.used_in.ensures in
    let s = c.charges_in-charges.ensures in
    let within = sym c.are_in_range.ensures.all ∙ c.if-not-are_in_range.false in
    promised _ _ _ (rw (v.value, v.missing, p.kept, p.reversed, u.metered, u.estimated, c.from-days.ensures, s, c.totals-totals.ensures, c.charges.ensures)
    (simp (rw (s, c.charges.ensures) at within) at (summary-some (g.A.AsAccount.account c.args.a.now) _ (cc) _ (rw c.terms-terms.ensures at c.in-Some.ensures))))
    (record { wh = u.bound.0; cost = u.bound.1; charges = within })
