-- What a printer's methods leave.
use Rattle.std.specs.Prelude.{ℕ, ◌≡◌, ◌+◌, ◌≤◌, List, length}
use Rattle.printing.specs.declared.Printer.{Printer}
use Rattle.printing.specs.Printing.{Puts, Wrote}

-- The bytes are put from the place on where they fit, as `Puts` says, in the same buffer.
pub record Prints (p : Printer) (bytes : List ℕ) (q : Printer) : Type 0 where
  pub same : q.out.ghost_name ≡ p.out.ghost_name
  pub puts : Puts p.out.now p.at bytes q.out.now q.at

-- They had room, and stand there.
pub record Writes (p : Printer) (bytes : List ℕ) (q : Printer) : Type 0 where
  pub same : q.out.ghost_name ≡ p.out.ghost_name
  pub wrote : Wrote p.out.now p.at bytes q.out.now q.at

-- so many bytes have room
abbrev pub HasRoom : Printer → ℕ → Type 0
HasRoom p count = p.at + count ≤ length p.out.now

-- the bytes are written, and the place after them is at most so many on
abbrev pub WritesWithin : ℕ → Printer → List ℕ → Printer → Type 0
WritesWithin room p bytes q = Writes p bytes q × (q.at ≤ p.at + room)
