-- A text begins behind its quotation mark; nothing else than a text has one.
use mathlib.Core.Path.{sym, ap, ◌∙◌}
use mathlib.Core.List.{◌++◌}
use lib.ListN.{drop}
use native.Mathlib.Omega.{arith}
use Rattle.notation.proofs.Options.{none-some, some-some}
use Rattle.text.specs.Text.{text_of}
use Rattle.walk.specs.Part.{inside}
use Rattle.document.specs.inner.Values.{text_by}
use Rattle.document.proofs.ByKind.{text-none, text-some}
use Rattle.ids.proofs.Texts.{once-text}
use Rattle.ids.proofs.id.text_from.Goals as goal

pub returns-then-code_of-ne-STRING : goal.returns-then-code_of-ne-STRING
returns-then-code_of-ne-STRING c = (
  λ at e. none-some e,
  λ w.
      record { none = λ e. ap text_by (sym (c.value_at.ensures.0 w)) ∙ text-none _ _ c.code_of.ensures c.if-code_of-ne-STRING.true; some = λ at e. none-some e },
)

pub returns : goal.returns
returns c =
    let q = c.args.q.now in let x = c.requires in let f = x.1 in let u = x.2 in (
      λ at e. let z = some-some e in omega arith,
      λ w.
          let code = c.if-code_of-ne-STRING.false in
          record {
            none = λ e. none-some (sym e);
            some = λ at e. (
              let z = some-some e in omega arith,
              text_of (inside c.value_at.result.now),
              ap text_by (sym (c.value_at.ensures.0 w)) ∙ text-some _ _ c.code_of.ensures code,
              λ z.
                  ap (λ k. text_of (drop k (q ++ z))) (sym (some-some e)) ∙ once-text _ z _ _ f u w (c.value_at.ensures.0 w) (sym code ∙ c.code_of.ensures),
            );
          },
    )

pub overflow_add-result : goal.overflow_add-result
overflow_add-result c = let x = c.requires in omega (arith, x.0, x.1, x.2)
