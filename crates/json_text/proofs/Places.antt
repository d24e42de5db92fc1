-- Theorem 4. A verdict of kind 3 stands at an unpaired surrogate escape inside a string, with none before it. Theorem 5. A verdict of kind 4 stands at a bracket
-- with 16 others open, where JSON allows it. For the latter, the grammar alone reads past the bracket (`Least`), and to there some JSON text begins so (`Faults`).
use mathlib.Core.List.{List, [], ◌∷◌, ◌++◌, append_assoc, append-nil, append_cancel_right}
use mathlib.Core.Path.{◌≡◌, refl, sym, ap, subst, ◌∙◌}
use Prim.Native.Nat.{ℕ, ◌+◌, ◌-◌, ◌≤◌, ◌<◌}
use native.Mathlib.Omega.{arith}
use lib.ListN.{length, take, drop, get_or, length-append, take-append-drop}
use lib.Seq.{drop_at, take-append-le, get_or-append_seam}
use Rattle.limits.specs.Ceilings.{depth}
use Rattle.word.specs.Kinds.{unpaired, too_deep}
use Rattle.lexeme.specs.Read.{Read, wrong_at}
use Rattle.lexeme.specs.Read.Read.{done, bad}
use Rattle.lexeme.specs.Character.{paired, lone}
use Rattle.lexeme.specs.Strings as Strings
use Rattle.lexeme.specs.Tokens.{blanks}
use Rattle.lexeme.proofs.Reading.{rest}
use Rattle.lexeme.proofs.Steps.{then-done, bad_kind, bad-rest}
use Rattle.lexeme.proofs.Relaxed.{string_relaxed}
use Rattle.json_text.specs.Cases.{reading}
use Rattle.json_text.specs.Tree.{Json}
use Rattle.json_text.specs.Text.{value, finish, text, syntax_of}
use Rattle.json_text.specs.Grammar.{IsText, Begins}
use Rattle.json_text.specs.Spelling.{Spells}
use Rattle.json_text.specs.Places.{outside, inside, along, Unpaired, UnpairedAt, TooDeepAt}
use Rattle.json_text.proofs.FaultKinds.{Kind, grammar, surrogate, levels, string-kind}
use Rattle.json_text.proofs.Relaxed.{ends_too}
use Rattle.json_text.proofs.Faults.{text-faults}
use Rattle.json_text.proofs.Found.{string-found}
use Rattle.json_text.proofs.Spellings.{finish-done, read-spells}
use Rattle.json_text.proofs.Passed.{reads_grammar}
use Rattle.json_text.proofs.Verdict.{met}
use Rattle.json_text.proofs.Prefix.{before}
use Rattle.json_text.proofs.Least.{By, Grammar, least}
use Rattle.json_text.proofs.Balanced.{chars_within}
use Rattle.json_text.proofs.Surrogates.{string_stuck}
use Rattle.json_text.proofs.FaultPlaces.{FaultPlace, FaultPlaces, Bracket, text-places}

-- Kind 3: a quotation mark can stand at the fault, inside a string, at any level.
abbrev AnyLevel : ℕ → ℕ → Type 0
AnyLevel d m = Unit {0}

strings-unpaired : (d : ℕ) → FaultPlaces unpaired Unpaired 0x22 inside AnyLevel inside (Strings.string paired 0) d
strings-unpaired d l r e =
    let s = string_stuck 0 l r e in
    let c = string-found (s.part ++ (0x22 ∷ [])) s.decoded [] (ends_too (string_relaxed 0 (s.part ++ (0x22 ∷ []))) s.reads) in
    record {
      part = s.part;
      splits = s.splits;
      stands = s.stands;
      levels = 0;
      deep = tt;
      leads = λ n. ap (along (inside n)) (append_cancel_right s.part c.0 (0x22 ∷ []) c.1) ∙ chars_within c.2 n ∙ ap inside (omega arith);
      ending = [];
      what = s.decoded;
      alive = s.reads;
    }

text-unpaired : (d : ℕ) → FaultPlaces unpaired Unpaired 0x22 inside AnyLevel outside (text paired d) d
unfolding reading
text-unpaired =
    text-places unpaired Unpaired 0x22 inside AnyLevel (λ i. omega arith) refl refl refl (λ d m i. tt) strings-unpaired
    (λ b l r h i. absurd (let n : ◌≡◌ {A = ℕ} 4 3 = bad_kind i in omega arith))

-- Kind 4: a bracket, at which a number could stand, with all levels open.
pub record Opens (r : List ℕ) : Type 0 where
  pub byte : ℕ
  pub after : List ℕ
  pub begins : r ≡ byte ∷ after
  pub bracket : Bracket byte

abbrev AllOpen : ℕ → ℕ → Type 0
AllOpen d m = m ≡ d

no_level : (l r : List ℕ) → Strings.string paired 0 l ≡ bad too_deep r → ⊥
no_level l r e = go (string-kind paired 0 0 0 too_deep l r e)
  where
    go : Kind paired 0 0 too_deep r → ⊥
    go (grammar i) = omega arith
    go (surrogate p i) = omega arith
    go (levels i some f) = omega arith

at_bracket : (b : ℕ) (l r : List ℕ) → Bracket b → ◌≡◌ {A = Read Json} (bad too_deep (b ∷ l)) (bad too_deep r)
    → FaultPlace too_deep Opens 0x30 outside AllOpen outside (value paired 0) 0 (b ∷ l) r
unfolding reading along
at_bracket b l r h e =
    record {
      part = [];
      splits = bad-rest e;
      stands = record { byte = b; after = l; begins = sym (bad-rest e); bracket = h };
      levels = 0;
      deep = refl;
      leads = λ n. ap outside (omega arith);
      ending = [];
      what = Json.number (0x30 ∷ []);
      alive = refl;
    }

text-deep : (d : ℕ) → FaultPlaces too_deep Opens 0x30 outside AllOpen outside (text paired d) d
unfolding reading
text-deep =
    text-places too_deep Opens 0x30 outside AllOpen (λ i. omega arith) refl refl refl (λ d m i. omega arith) (λ d l r e. absurd (no_level l r e)) at_bracket

-- the two sides of the place n
module _ (s p r : List ℕ) (n : ℕ) (e : s ≡ p ++ r) (at : length s - length r ≡ n) where
  size : length p ≡ n
  size = omega (arith, ap length e ∙ length-append p r)

  upto : take n s ≡ p
  upto = ap (λ (i : ℕ). take i s) (sym at) ∙ before s p r e

  onward : drop n s ≡ r
  onward = ap (drop n) e ∙ drop_at p r n size

-- what stands before, with another byte behind it, is read to its end: so it spells its tree
front-text : (s p : List ℕ) (c : ℕ) (v : List ℕ) (n : ℕ) (x : Json) → take n s ≡ p → text paired depth (p ++ (c ∷ v)) ≡ done x []
    → Spells depth x (take n s ++ (c ∷ []) ++ v)
front-text s p c v n x e reads =
    subst (Spells depth x) (ap (λ (m : List ℕ). m ++ (c ∷ v)) (sym e) ∙ sym (append_assoc (take n s) (c ∷ []) v)) (read-spells depth x (p ++ (c ∷ v)) reads)

pub verdict-unpaired : (s : List ℕ) (n : ℕ) → syntax_of s ≡ wrong_at unpaired n → UnpairedAt s n
verdict-unpaired s n e =
    let m = met s unpaired n e (λ i. omega arith) in
    let u = text-unpaired depth s m.rest m.reads in
    let front = upto s u.part m.rest n u.splits m.place in
    record {
      stands = subst Unpaired (sym (onward s u.part m.rest n u.splits m.place)) u.stands;
      levels = 0 + u.levels;
      within-string = ap (along (outside 0)) front ∙ u.leads 0;
      ending = u.ending;
      tree = u.what;
      before = front-text s u.part 0x22 u.ending n u.what front u.alive;
    }

-- a part of what some JSON text begins with
begins-of : (s p q v : List ℕ) (n : ℕ) → s ≡ p ++ q → n ≤ length p → IsText (p ++ v) → Begins (take n s)
begins-of s p q v n e h k =
    let same : take n s ≡ take n p = ap (take n) e ∙ take-append-le n p q h in
    record {
      rest = drop n p ++ v;
      whole =
          subst IsText (ap (λ (m : List ℕ). m ++ v) (sym (take-append-drop n p)) ∙ append_assoc (take n p) (drop n p) v ∙ ap (λ (m : List ℕ). m ++ (drop n p ++ v)) (sym same)) k;
    }

-- a text that is read is read to its end
text-whole : (d : ℕ) (s : List ℕ) (x : Json) (r : List ℕ) → text lone d s ≡ done x r → [] ≡ r
unfolding text
text-whole d s x r e =
    let p = then-done (value lone d (blanks s)) (λ y q. finish y (blanks q)) x r e in
    (finish-done p.0 (blanks p.1) x r p.3).2

-- the bracket begins a value in some JSON text
allowed : (s r : List ℕ) → text paired depth s ≡ bad too_deep r → 0 < length r → length r ≤ length s → Begins (take (length s - length r + 1) s)
allowed s r e some fits = go (text lone d s) refl
  where
    d : ℕ
    d = depth + length s

    n : ℕ
    n = length s - length r + 1

    past : By Grammar too_deep r (text lone d s)
    past = (least s too_deep r e).by_grammar d (omega arith) (omega arith)

    go : (o : Read Json) → text lone d s ≡ o → Begins (take n s)
    go (done x q) h =
        let whole = h ∙ ap (done x) (sym (text-whole d s x q h)) in
        begins-of s s [] [] n (sym (append-nil s)) (omega arith) (subst IsText (sym (append-nil s)) (reads_grammar d x s whole))
    go (bad k q) h =
        let u = text-faults d s q (h ∙ ap (λ (i : ℕ). bad i q) (past.only k q h)) in
        let less : length q < length r = subst (λ (o : Read Json). length (rest o) < length r) h (past.passes (λ i. omega arith)) in
        begins-of s u.part q u.ending n u.splits (omega (arith, ap length u.splits ∙ length-append u.part q)) (reads_grammar d u.what _ u.alive)

pub verdict-deep : (s : List ℕ) (n : ℕ) → syntax_of s ≡ wrong_at too_deep n → TooDeepAt s n
verdict-deep s n e =
    let m = met s too_deep n e (λ i. omega arith) in
    let u = text-deep depth s m.rest m.reads in
    let b = u.stands in
    let front = upto s u.part m.rest n u.splits m.place in
    let whole : s ≡ u.part ++ (b.byte ∷ b.after) = u.splits ∙ ap (λ (r : List ℕ). u.part ++ r) b.begins in
    let long : length u.part ≡ n = size s u.part m.rest n u.splits m.place in
    let here : get_or s n 0 ≡ b.byte =
    ap (λ (i : ℕ). get_or s i 0) (sym long) ∙ ap (λ (l : List ℕ). get_or l (length u.part) 0) whole ∙ get_or-append_seam u.part b.byte b.after 0 in
    record {
      bracket = subst Bracket (sym here) b.bracket;
      full = ap (along (outside 0)) front ∙ u.leads 0 ∙ ap outside (omega (arith, u.deep));
      allowed =
          subst (λ (i : ℕ). Begins (take (i + 1) s)) m.place
          (allowed s m.rest m.reads (omega (arith, ap length b.begins)) (omega (arith, ap length u.splits ∙ length-append u.part m.rest)));
      ending = u.ending;
      tree = u.what;
      before = front-text s u.part 0x30 u.ending n u.what front u.alive;
    }
