-- `id_text` goes over the members of a record. The loop's invariant: none that is passed has the name of the file's ids.
use mathlib.Core.List.{List}
use mathlib.Core.Path.{refl, sym, ap, subst, ◌∙◌}
use Prim.Native.Nat.{ℕ}
use native.Mathlib.Omega.{arith}
use Rattle.notation.proofs.Options.{none-some}
use Rattle.walk.proofs.Wholes.{whole-kind}
use Rattle.walk.proofs.Parts.{member-whole}
use Rattle.document.specs.inner.Values.{kind_code, text_by}
use Rattle.ids.specs.inner.Ids.{TextPlace}
use Rattle.ids.proofs.IdOnce.{passed_end, passed_found, unmet_start, unmet_next, end_none, value-here}
use Rattle.ids.proofs.id.id_text.Goals as goal

pub loop-m-init : goal.loop-m-init
loop-m-init c = (omega arith, λ ms w. unmet_start _ w)

pub returns : goal.returns
returns c =
    let v = c.loop-m.invariant in
    record {
      least = v.0;
      inside = λ at e. none-some e;
      told = λ ms w once.
          let u = v.1 ms w in
          (u, record { none = λ e. end_none u (passed_end _ _ c.pass_member.ensures c.in_default.is u.along); some = λ at e. none-some e });
    }

-- the member that is found stands in order
pub text_from-text-requires : goal.text_from-text-requires
text_from-text-requires c =
    let m = c.pass_member.ensures.placed _ c.in-Some.is in
    (c.requires, m.value, omega (arith, m.next, m.inside))

pub returns-then-names_id : goal.returns-then-names_id
returns-then-names_id c =
    let v = c.loop-m.invariant in let q = c.args.q.now in
    record {
      least = v.0;
      inside = c.text_from-text.ensures.0;
      told = λ ms w once.
          let u = v.1 ms w in let f = passed_found _ _ c.pass_member.ensures c.in-Some.is u.along in (
            u,
            subst (λ (x : List ℕ). TextPlace q (text_by x) c.text_from-text.result)
                (value-here u _ f _ c.cut.ensures (sym c.names_id.ensures ∙ c.if-names_id.true) (sym (ap kind_code (whole-kind w))) once (λ y. refl)) (c.text_from-text.ensures.1 (member-whole _ _ _ f)),
          );
    }

pub loop-m-smaller : goal.loop-m-smaller
loop-m-smaller c = let m = c.pass_member.ensures.placed _ c.in-Some.is in omega arith

pub loop-m-preserved : goal.loop-m-preserved
loop-m-preserved c =
    let v = c.loop-m.invariant in
    let m = c.pass_member.ensures.placed _ c.in-Some.is in let short = c.requires in (
      omega arith,
      λ ms w.
          let u = v.1 ms w in
          unmet_next u _ (passed_found _ _ c.pass_member.ensures c.in-Some.is u.along) _ c.cut.ensures (sym c.names_id.ensures ∙ c.if-names_id.false),
    )
