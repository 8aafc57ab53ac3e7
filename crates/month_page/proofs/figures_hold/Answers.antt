use Rattle.std.proofs.Common.{refl}
use Rattle.printing.specs.Printing.{digits, decimal, hundredths}
use Rattle.month_page.specs.Page.{figure}
use Rattle.month_page.specs.Figures.{averages}
use Rattle.month_page.proofs.figures_hold.Goals as goal

pub returns : goal.returns
unfolding averages figure hundredths decimal digits
returns c = refl
