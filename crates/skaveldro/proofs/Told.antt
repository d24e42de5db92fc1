-- Of every question the answer's number is 0 or its refusal's, and the parts that it gives are its refusal's.
use mathlib.Core.Path.{◌≡◌, refl}
use Rattle.std.specs.Prelude.{Result, Ok, Err}
use Rattle.word.specs.declared.Parts.{Parts}
use Rattle.word.specs.declared.refusal.Refusal.{Refusal}
use Rattle.word.specs.Refusals.{number_of, parts_of}
use Rattle.word.specs.Word as word
use Rattle.document.specs.declared.Span.{Span}
use Rattle.clean.specs.Show as show
use Rattle.quote.specs.declared.Quote.{Quote}
use Rattle.quote.specs.Quote as quote
use Rattle.zone.specs.declared.Rule.{Rule}
use Rattle.zone.specs.Answer as zone

pub word-number : (x : Result Parts Refusal) → number_of x ≡ (word.answer x).number
word-number (Ok p) = refl
word-number (Err r) = refl

pub quote-number : (x : Result Quote Refusal) → number_of x ≡ (quote.answer x).number
quote-number (Ok q) = refl
quote-number (Err r) = refl

pub quote-parts : (x : Result Quote Refusal) → parts_of x ≡ (quote.answer x).parts
quote-parts (Ok q) = refl
quote-parts (Err r) = refl

pub rule-number : (x : Result Rule Refusal) → number_of x ≡ (zone.answer x).number
rule-number (Ok r) = refl
rule-number (Err r) = refl

pub rule-parts : (x : Result Rule Refusal) → parts_of x ≡ (zone.answer x).parts
rule-parts (Ok r) = refl
rule-parts (Err r) = refl

pub shown-number : (x : Result Span Refusal) → number_of x ≡ (show.answer x).number
shown-number (Ok s) = refl
shown-number (Err r) = refl

pub shown-parts : (x : Result Span Refusal) → parts_of x ≡ (show.answer x).parts
shown-parts (Ok s) = refl
shown-parts (Err r) = refl
