-- What is read of a clear number or price is what the definition has: its kind tells how it is spelled, and what is money has its amount.
use mathlib.Core.List.{List, [], ◌∷◌}
use mathlib.Core.Path.{◌≡◌, refl, sym, ap, ◌∙◌}
use Prim.Native.Nat.{ℕ}
use native.Mathlib.Omega.{arith}
use lib.ListN.{length}
use Rattle.lexeme.specs.Character.{within}
use Rattle.lexeme.specs.Numbers.{digit}
use Rattle.lexeme.specs.inner.Start.{start}
use Rattle.text.specs.Text.{text_of}
use Rattle.walk.specs.Part.{inside}
use Rattle.walk.specs.inner.Kind.{kind_at}
use Rattle.decimal.specs.declared.Decimal.{Decimal}
use Rattle.decimal.specs.Decimals.{number_of, price_of}
use Rattle.decimal.specs.Exact.{amount_of}
use Rattle.decimal.proofs.Tests.{money_amount}
use Rattle.document.specs.Values.{whole_of, integer_in}
use Rattle.document.specs.inner.Values.{kind_code, spelled_by, text_by}
use Rattle.document.proofs.ByKind.{spelled_none, spelled-some, text-some}
use Rattle.quote.specs.Plan.{amount_in, number_amount, price_amount, money_in, price_in}
use Rattle.quote.specs.inner.Values.{price_by}
use Rattle.quote.proofs.Cleared.{IsMoney}
use Rattle.std.specs.Prelude.{Some, Result, Ok}
use Rattle.decimal.specs.declared.PriceError.{PriceError}

value-value : {d e : Decimal} → Some d ≡ Some e → d ≡ e
value-value h = cc

price-value : {d e : Decimal} → ◌≡◌ {A = Result Decimal PriceError} (Ok d) (Ok e) → d ≡ e
price-value h = cc

-- the amount of a decimal r that is some money d
amount-is : {r d : Decimal} → r ≡ d → (m : IsMoney d) → amount_of r ≡ m.0
amount-is {r} {d} e m = ap (λ x. amount_of x) e ∙ money_amount d m.0 m.1

module _ (q : List ℕ) (k : kind_code (kind_at q) ≡ 2) (r : Decimal) (h : Some r ≡ number_of q) where
  spelled : spelled_by q ≡ Some q
  spelled = spelled-some q (kind_code (kind_at q)) refl k

  pub integer-read : r.whole ≡ integer_in (spelled_by q)
  integer-read = ap whole_of h ∙ sym (ap integer_in spelled)

  module _ (d : Decimal) (e : number_of q ≡ Some d) (m : IsMoney d) where
    amount-read : amount_of r ≡ number_amount (number_of q)
    amount-read = amount-is (value-value (h ∙ e)) m ∙ sym (ap number_amount e ∙ ap amount_in m.1)

    pub money_read : amount_of r ≡ money_in (spelled_by q)
    money_read = amount-read ∙ sym (ap money_in spelled)

    pub price-read : amount_of r ≡ price_by q
    unfolding price_by
    price-read = amount-read ∙ sym (ap (λ o. price_in o (text_by q)) spelled)

pub price-text-read : (q : List ℕ) → kind_code (kind_at q) ≡ 3 → (r d : Decimal) → Ok r ≡ price_of (text_of (inside q)) → price_of (text_of (inside q)) ≡ Ok d → IsMoney d
    → amount_of r ≡ price_by q
unfolding price_by
price-text-read q k r d h e m =
    rw (spelled_none q (kind_code (kind_at q)) refl (λ j. omega (arith, j, k)), text-some q (kind_code (kind_at q)) refl k)
    (amount-is (price-value (h ∙ e)) m ∙ sym (ap price_amount e ∙ ap amount_in m.1))

-- no bytes spell nothing
pub nothing_read : (q : List ℕ) → length q ≡ 0 → 0 ≡ integer_in (spelled_by q)
unfolding spelled_by kind_at start digit within
nothing_read [] e = refl
nothing_read (b ∷ q) e = absurd (omega arith)
