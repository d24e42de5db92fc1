-- Clear money is in the form, and has an amount.
use mathlib.Core.Path.{sym, ◌∙◌}
use Rattle.decimal.proofs.Formed.{number-formed}
use Rattle.quote.proofs.Cleared.{money_clear}
use Rattle.quote.proofs.Ways.{money_read}
use Rattle.quote.proofs.numbers.money_in.Goals as goal

pub formed_decimal-requires : goal.formed_decimal-requires
formed_decimal-requires c = let m = money_clear c.requires in (m.1, m.2)

pub amount-requires : goal.amount-requires
amount-requires c = number-formed c.args.q.now _ (sym c.formed_decimal.ensures)

pub returns : goal.returns
returns c =
    let m = money_clear c.requires in
    c.amount.ensures ∙ money_read c.args.q.now m.0 _ c.formed_decimal.ensures m.1 m.2 m.3
