-- `ledger::price_laws` meets its contract, which is the theorem of `proofs/PriceLaws.antt`.
use Rattle.ledger.proofs.PriceLaws.{price-laws}
use Rattle.ledger.proofs.price_laws.Goals as goal

pub returns : goal.returns
returns c = price-laws
