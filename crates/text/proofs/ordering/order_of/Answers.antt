-- The same spelling is the same text; of others what follows the shared front decides.
use mathlib.Core.Bool.{Bool}
use mathlib.Core.List.{List}
use mathlib.Core.Path.{sym, ap, ◌∙◌}
use Prim.Native.Nat.{ℕ}
use Rattle.text.specs.Text.{text_of, meant}
use Rattle.text.specs.Ordering.{order_of}
use Rattle.text.proofs.Laws.{same_true}
use Rattle.text.proofs.Ordered.{order-refl}
use Rattle.text.proofs.ordering.order_of.Goals as goal

pub returns-then-same_bytes : goal.returns-then-same_bytes
returns-then-same_bytes c =
    let q = c.args in
    sym (ap (λ (r : Bool). order_of (text_of q.a.now) (meant r q.b.now)) c.if-not-raw.true
    ∙ ap (λ (l : List ℕ). order_of (text_of l) (text_of q.b.now)) (same_true q.a.now q.b.now (sym c.same_bytes.ensures ∙ c.if-same_bytes.true)) ∙ order-refl (text_of q.b.now))

pub returns : goal.returns
returns c = c.order_at.ensures ∙ c.shared_front-at.ensures c.args.raw
