-- A clear price is a string that is a price in the form, or a number in it; either has an amount.
use mathlib.Core.Path.{◌≡◌, sym, ap, subst, ◌∙◌}
use Rattle.text.specs.Text.{text_of}
use Rattle.walk.specs.inner.Kind.{kind_at}
use Rattle.decimal.specs.Decimals.{price_of}
use Rattle.decimal.specs.inner.Formed.{IsPrice}
use Rattle.decimal.proofs.Formed.{number-formed, price-formed}
use Rattle.document.specs.inner.Values.{kind_code}
use Rattle.quote.proofs.Cleared.{price-number-clear, price-text-clear}
use Rattle.quote.proofs.Ways.{price-read, price-text-read}
use Rattle.quote.proofs.numbers.price_in.Goals as goal

pub formed_price-requires : goal.formed_price-requires
formed_price-requires c =
    let m = price-text-clear c.requires (sym c.code_of.ensures ∙ c.if-code_of-eq-STRING.true) in
    subst (λ z. IsPrice (price_of (text_of z))) (sym c.unquoted.ensures) (m.0, m.1)

pub amount-requires : goal.amount-requires
amount-requires c = price-formed _ _ (sym c.formed_price.ensures)

-- its kind, by the test
pub returns-then-code_of-eq-STRING : goal.returns-then-code_of-eq-STRING
returns-then-code_of-eq-STRING c =
    let string : kind_code (kind_at c.args.q.now) ≡ 3 = sym c.code_of.ensures ∙ c.if-code_of-eq-STRING.true in
    let m = price-text-clear c.requires string in
    c.amount.ensures
    ∙ price-text-read c.args.q.now string _ m.0 (c.formed_price.ensures ∙ ap (λ z. price_of (text_of z)) c.unquoted.ensures) m.1 m.2

pub formed_decimal-requires : goal.formed_decimal-requires
formed_decimal-requires c = let m = price-number-clear c.requires (λ e. c.if-code_of-eq-STRING.false (c.code_of.ensures ∙ e)) in (m.1, m.2)

pub amount-requires-2 : goal.amount-requires-2
amount-requires-2 c = number-formed c.args.q.now _ (sym c.formed_decimal.ensures)

pub returns : goal.returns
returns c =
    let m = price-number-clear c.requires (λ e. c.if-code_of-eq-STRING.false (c.code_of.ensures ∙ e)) in
    c.amount-2.ensures ∙ price-read c.args.q.now m.0 _ c.formed_decimal.ensures m.1 m.2 m.3
