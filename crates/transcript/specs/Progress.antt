-- How far a text is printed, as the definitions say it.
use Rattle.std.specs.Prelude.{ℕ, Bool}
use Rattle.account.specs.declared.Account.{Account}
use Rattle.transcript.specs.declared.Progress.{Progress}

pub record Reached : Type 0 where
  -- the account after the events printed
  pub account : Account
  -- where the next event starts, and how many were printed
  pub at : ℕ
  pub count : ℕ
  -- 0, or the code of terms that are malformed or refused
  pub code : ℕ
  -- how many bytes the last piece has, and whether no other follows
  pub length : ℕ
  pub done : Bool

-- what the code has, with the bytes of the last piece
abbrev pub reached : Progress → ℕ → Reached
reached p n = record { account = p.account; at = p.at; count = p.count; code = p.code; length = n; done = p.done }
