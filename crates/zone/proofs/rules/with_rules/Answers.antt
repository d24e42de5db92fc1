-- `with_rules` asks rule after rule. The loop's invariant: what is given so far, with the rules that are left, comes to what all give. Where all values are
-- given the rules that are left add nothing.
use mathlib.Core.List.{List, ◌∷◌, map}
use mathlib.Core.Path.{◌≡◌, sym, ap, ◌∙◌}
use Prim.Native.Nat.{ℕ}
use Rattle.walk.specs.declared.Item.{Item}
use Rattle.walk.specs.Part.{part_tree}
use Rattle.walk.specs.inner.Along.{AlongItems}
use Rattle.walk.proofs.Parts.{item_of}
use Rattle.walk.proofs.Left.{nearer, left-whole, comes_start, comes_end, comes_here, comes_more}
use Rattle.schema.specs.Table23.{rule}
use Rattle.schema.specs.Pick.{pick}
use Rattle.document.specs.inner.Items.{picked}
use Rattle.zone.specs.declared.Given.{Given}
use Rattle.zone.specs.inner.Values.{with_rule}
use Rattle.zone.proofs.Combining.{rules-none, rules-next, given-full}
use Rattle.zone.proofs.Loops.{rules_for}
use Rattle.zone.proofs.rules.with_rules.Goals as goal

-- with the rule m, what is given goes on to the rules after it
onward : (p type : List ℕ) (given : Given) (m : Item) {q : List ℕ} {with : Given} → with ≡ with_rule type given (pick rule (part_tree q)) → q ≡ item_of p m → (l : List Item)
    → rules_for p type given (m ∷ l) ≡ rules_for p type with l
onward p type given m e f l =
    rules-next type given (picked rule p m) (map (picked rule p) l)
    ∙ ap (λ g. rules_for p type g l) (sym (e ∙ ap (λ q. with_rule type given (pick rule (part_tree q))) f))

pub loop-m-init : goal.loop-m-init
loop-m-init c = let a = c.args in comes_start (rules_for a.p.now a.type_id.now a.start) (λ h. AlongItems.start (c.requires.whole h).1)

pub returns : goal.returns
returns c = sym (rules-none _ c.loop-m.given) ∙ comes_end c.loop-m.invariant c.pass_item.ensures c.in_default.is

pub with_rule-given-requires : goal.with_rule-given-requires
with_rule-given-requires c = rw c.item_bytes.ensures (left-whole c.loop-m.invariant.left c.pass_item.ensures c.in-Some.is)

pub returns-then-is_full : goal.returns-then-is_full
returns-then-is_full c =
    comes_here c.loop-m.invariant c.pass_item.ensures c.in-Some.is
    (λ l.
    onward c.args.p.now c.args.type_id.now c.loop-m.given c.in-Some.m c.with_rule-given.ensures c.item_bytes.ensures l
    ∙ given-full c.with_rule-given.result _ (sym c.is_full.ensures ∙ c.if-is_full.true))

pub loop-m-smaller : goal.loop-m-smaller
loop-m-smaller c = nearer c.pass_item.ensures c.in-Some.is

pub loop-m-preserved : goal.loop-m-preserved
loop-m-preserved c =
    comes_more c.loop-m.invariant c.pass_item.ensures c.in-Some.is _
    (onward c.args.p.now c.args.type_id.now c.loop-m.given c.in-Some.m c.with_rule-given.ensures c.item_bytes.ensures)
