-- A sort by its letter: what a letter asks is what every sort of that letter asks.
use mathlib.Core.List.{List, [], ◌∷◌}
use mathlib.Core.Path.{◌≡◌, refl, sym, ap, ◌∙◌}
use Prim.Native.Char.{code}
use Prim.Native.Nat.{ℕ}
use Rattle.word.specs.Kinds.{wrong_type, out_of_range}
use Rattle.schema.specs.Shape as sort
use Rattle.schema.specs.Shape.{Sort}
use Rattle.schema.specs.inner.Line.{sort_letter, sort_words}
use Rattle.schema.proofs.Letters.{sort_from, sort_from_lem}
use Rattle.text.specs.Text.{same}
use Rattle.scalar.specs.Scalars.{unless, any_word, number_kinds, text_kinds, boolean_kinds, sort_kinds}

sort_of : (σ : Sort) {letter : ℕ} (k : ℕ) → sort_letter σ ≡ letter → letter ≡ k → σ ≡ sort_from k (sort_words σ)
sort_of σ k e i = sym (sort_from_lem σ) ∙ ap (λ (l : ℕ). sort_from l (sort_words σ)) (e ∙ i)

-- what every sort of the letter k asks, whatever its words
pub by-letter : (f : Sort → List ℕ → List ℕ) (s : List ℕ) {letter : ℕ} {r : List ℕ} (k : ℕ) → letter ≡ k →
    ((words : List (List ℕ)) → f (sort_from k words) s ≡ r) → (σ : Sort) → sort_letter σ ≡ letter → f σ s ≡ r
by-letter f s k i g σ e = ap (λ (τ : Sort). f τ s) (sort_of σ k e i) ∙ g (sort_words σ)

-- the text that a sort is, and the words that it allows
pub text-exactly : (σ : Sort) {letter : ℕ} (s w : List ℕ) {ws : List (List ℕ)} → sort_letter σ ≡ letter → letter ≡ code "=" → ws ≡ sort_words σ →
    ((x : List ℕ) → ws ≡ x ∷ [] → w ≡ x) → text_kinds σ s ≡ unless (same s w) out_of_range
unfolding sort_from sort_kinds
text-exactly σ s w e i h only =
    let q = sort_of σ (code "=") e i in
    ap (λ (τ : Sort). text_kinds τ s) q ∙ ap (λ (x : List ℕ). unless (same s x) out_of_range) (sym (only _ (h ∙ ap sort_words q)))

pub text-word : (σ : Sort) {letter : ℕ} (s : List ℕ) {ws : List (List ℕ)} → sort_letter σ ≡ letter → letter ≡ code "w" → ws ≡ sort_words σ →
    text_kinds σ s ≡ unless (any_word ws s) out_of_range
unfolding sort_from sort_kinds
text-word σ s e i h =
    ap (λ (τ : Sort). text_kinds τ s) (sort_of σ (code "w") e i) ∙ ap (λ (x : List (List ℕ)). unless (any_word x s) out_of_range) (sym h)

-- sorts that no number, no string and no boolean is of
module _ {letter : ℕ} where
  pub no_number : (s : List ℕ) → (letter ≡ code "T" → ⊥) → (letter ≡ code "N" → ⊥) → (letter ≡ code "F" → ⊥) → (letter ≡ code "%" → ⊥) →
      (letter ≡ code "y" → ⊥) → (letter ≡ code "x" → ⊥) → (letter ≡ code "z" → ⊥) → (letter ≡ code "m" → ⊥) → (letter ≡ code "p" → ⊥) →
      (σ : Sort) → sort_letter σ ≡ letter → number_kinds σ s ≡ wrong_type ∷ []
  unfolding sort_kinds
  no_number s t n f o y x z m p sort.timestamp e = absurd (t (sym e))
  no_number s t n f o y x z m p sort.integer e = absurd (n (sym e))
  no_number s t n f o y x z m p sort.amount e = absurd (f (sym e))
  no_number s t n f o y x z m p sort.portion e = absurd (o (sym e))
  no_number s t n f o y x z m p sort.latitude e = absurd (y (sym e))
  no_number s t n f o y x z m p sort.longitude e = absurd (x (sym e))
  no_number s t n f o y x z m p sort.any_number e = absurd (z (sym e))
  no_number s t n f o y x z m p sort.money e = absurd (m (sym e))
  no_number s t n f o y x z m p sort.price e = absurd (p (sym e))
  no_number s t n f o y x z m p sort.boolean e = refl
  no_number s t n f o y x z m p sort.text e = refl
  no_number s t n f o y x z m p sort.id e = refl
  no_number s t n f o y x z m p sort.currency e = refl
  no_number s t n f o y x z m p sort.date e = refl
  no_number s t n f o y x z m p (sort.exactly w) e = refl
  no_number s t n f o y x z m p (sort.word ws) e = refl

  pub no_text : (s : List ℕ) → (letter ≡ code "p" → ⊥) → (letter ≡ code "S" → ⊥) → (letter ≡ code "i" → ⊥) → (letter ≡ code "c" → ⊥) →
      (letter ≡ code "d" → ⊥) → (letter ≡ code "=" → ⊥) → (letter ≡ code "w" → ⊥) → (σ : Sort) → sort_letter σ ≡ letter → text_kinds σ s ≡ wrong_type ∷ []
  unfolding sort_kinds
  no_text s p t i c d x w sort.timestamp e = refl
  no_text s p t i c d x w sort.integer e = refl
  no_text s p t i c d x w sort.amount e = refl
  no_text s p t i c d x w sort.portion e = refl
  no_text s p t i c d x w sort.latitude e = refl
  no_text s p t i c d x w sort.longitude e = refl
  no_text s p t i c d x w sort.any_number e = refl
  no_text s p t i c d x w sort.money e = refl
  no_text s p t i c d x w sort.price e = absurd (p (sym e))
  no_text s p t i c d x w sort.boolean e = refl
  no_text s p t i c d x w sort.text e = absurd (t (sym e))
  no_text s p t i c d x w sort.id e = absurd (i (sym e))
  no_text s p t i c d x w sort.currency e = absurd (c (sym e))
  no_text s p t i c d x w sort.date e = absurd (d (sym e))
  no_text s p t i c d x w (sort.exactly y) e = absurd (x (sym e))
  no_text s p t i c d x w (sort.word ws) e = absurd (w (sym e))

  pub no-boolean : (letter ≡ code "B" → ⊥) → (σ : Sort) → sort_letter σ ≡ letter → boolean_kinds σ ≡ wrong_type ∷ []
  unfolding sort_kinds
  no-boolean b sort.timestamp e = refl
  no-boolean b sort.integer e = refl
  no-boolean b sort.amount e = refl
  no-boolean b sort.portion e = refl
  no-boolean b sort.latitude e = refl
  no-boolean b sort.longitude e = refl
  no-boolean b sort.any_number e = refl
  no-boolean b sort.money e = refl
  no-boolean b sort.price e = refl
  no-boolean b sort.boolean e = absurd (b (sym e))
  no-boolean b sort.text e = refl
  no-boolean b sort.id e = refl
  no-boolean b sort.currency e = refl
  no-boolean b sort.date e = refl
  no-boolean b (sort.exactly w) e = refl
  no-boolean b (sort.word ws) e = refl
