-- Demand 2. The verdict is the first of the broken rules, which is one alone, and its word reads back; words are what packing gives; a price is the plan's amount;
-- a zone's rule is the first that applies.
use mathlib.Core.List.{List, []}
use mathlib.Core.Path.{◌≡◌, refl, sym, ◌∙◌}
use Prim.Native.Nat.{ℕ}
use Rattle.radix.specs.Fields.{Bytes}
use Rattle.word.specs.declared.Parts.{Parts}
use Rattle.word.specs.Form.{form1}
use Rattle.word.specs.Word.{IsWord, read_word}
use Rattle.word.proofs.Laws.{full1, word_read, read_word_lem, no-word}
use Rattle.schema.specs.Shape.{Table}
use Rattle.schema.specs.Tables.{table_at}
use Rattle.cross.specs.Stage.{Feeds}
use Rattle.verdict.specs.Verdict.{broken_rules, verdict_of}
use Rattle.verdict.specs.Demand2.{First, Demand2}
use Rattle.verdict.proofs.First.{broken-parts, accepted, accepted-only, refused-first}
use Rattle.verdict.proofs.Only.{first-refused}
use Rattle.verdict.proofs.Says.{says}
use Rattle.verdict.proofs.Moments.{charge-due}
use Rattle.verdict.proofs.Prices.{price, price-given, no_credit_lem, marked-minutes-ends, marked-kilometres-ends, past-minutes, past-kilometres}
use Rattle.verdict.proofs.Zones.{together-there, rule, no-rule, ruled, unruled}
use Rattle.fault.specs.Outcome.{Outcome, unbroken}
use Rattle.std.specs.Prelude.{Err, Ok}

-- a set that breaks a rule breaks a first one
some_first : (t : Table) (s : Feeds) → (broken_rules t s ≡ [] → ⊥) → (p : Parts) × First p (broken_rules t s)
some_first t s n = go (verdict_of t s) refl
  where
    go : (x : Outcome) → verdict_of t s ≡ x → (p : Parts) × First p (broken_rules t s)
    go (Ok _) e = absurd (n (accepted-only t s e))
    go (Err p) e = (p, refused-first t s p e)

-- bytes that are read are the word of what is read
is_word_lem : (s : List ℕ) → Bytes s → (read_word s).number ≡ 0 → IsWord form1 (read_word s).parts s
unfolding read_word
is_word_lem s bytes e = read_word_lem form1 full1 (read_word s).parts s bytes (λ i. record { number = e i; parts = (read_word s).parts })

pub demand_2 : (table : ℕ) → Demand2 (table_at table)
unfolding read_word
demand_2 table =
    let t = table_at table in
    record {
      accepted = λ s e. says table s unbroken (accepted t s e);
      first = some_first t;
      only = λ s p q f g. broken-parts (sym (first-refused t s p f) ∙ first-refused t s q g);
      not_accepted = λ s p f. says table s (Err p) (first-refused t s p f);
      word = λ s p w. word_read form1 full1 p s w;
      is_word = is_word_lem;
      no_word = λ s bytes none. no-word form1 full1 s bytes none;
      charged = charge-due;
      price = price t;
      priced = price-given t;
      no_credit = no_credit_lem t;
      ended_minutes = λ s id seconds metres plan e found over. past-minutes t s id seconds metres e plan found over;
      ended_kilometres = λ s id seconds metres plan e found over. past-kilometres t s id seconds metres e plan found over;
      marked_minutes = marked-minutes-ends t;
      marked_kilometres = marked-kilometres-ends t;
      together = λ s q type moment. together-there q type moment t s;
      rule = λ s q type moment. rule q type moment t s;
      no_rule = λ s q type moment. no-rule q type moment t s;
      ruled = λ s q type moment. ruled q type moment t s;
      unruled = λ s q type moment. unruled q type moment t s;
    }
